-- The parts of `(define-judgment-form L option ... rule ...)` and of its rules (after the Redex reference manual, "Other Relations"). An option is
-- `#:mode (J I-or-O ...)` or `#:contract (J p ...)`. A rule is `(conclusion premise ... [name])`, or `(premise ... line [name] conclusion)`.
use Rattle.std.specs.Prelude.{ℕ, Bool, true, false, not, ◌&&◌, ◌||◌, List, [], ◌∷◌, Option, Some, None, option_map, map, codes, bytes_eq, nat_lt, ◌==◌, length, if◌then◌else◌}
use Rattle.std.specs.List.{list_all, list_any}
use Rattle.std.specs.Str.{byte}
use Rattle.rdx_sexp.specs.Sexp.{integer, truth, text, symbol, keyword, Sexp, leaf, list}
use Rattle.rdx_lang.specs.Programs.{Mode}
use Rattle.rdx_patterns.specs.Parts.{parts, is_symbol, is_word, text_of}
use Rattle.rdx_parts.specs.Headed.{Headed, headed}
use Rattle.rdx_relations.specs.RelationForms.{is_keyword}

-- ---- rules

-- `J` with its arguments, as a datum and by its parts; premises; a name, where there is one; and whether the conclusion is written last
pub record RuleForm : Type 0 where
  pub conclusion : Sexp
  pub parts : Headed
  pub premises : List Sexp
  pub name : Option Sexp
  pub is_last : Bool

-- the text is one of three or more hyphens
abbrev pub are_hyphens : List ℕ → Bool
are_hyphens x = nat_lt 2 (length x) && list_all (λ c. c == byte "-") x

-- the datum is a line: a symbol of hyphens
abbrev pub is_line : Sexp → Bool
is_line d = is_symbol d && are_hyphens (text_of d)

-- what stands before the first line, and what behind it
abbrev pub cut_at_line : List Sexp → Option (List Sexp × List Sexp)
cut_at_line [] = None
cut_at_line (d ∷ ds) = if is_line d then Some ([], ds) else option_map (λ c. (d ∷ c.0, c.1)) (cut_at_line ds)

-- the datum may be the name of a rule: a symbol or a string
abbrev pub is_label : Sexp → Bool
is_label (leaf (integer n) s) = false
is_label (leaf (truth b) s) = false
is_label (leaf (text x) s) = true
is_label (leaf (symbol x) s) = true
is_label (leaf (keyword k) s) = false
is_label (list ds s) = false

-- a rule with these parts, where c is a conclusion
abbrev pub concluded : List Sexp → Option Sexp → Sexp → Bool → Option RuleForm
concluded ps n c b = option_map (λ h. record { conclusion = c; parts = h; premises = ps; name = n; is_last = b }) (headed c)

-- behind a line: a conclusion, or a name and a conclusion
abbrev pub rule_behind : List Sexp → List Sexp → Option RuleForm
rule_behind ps [] = None
rule_behind ps (c ∷ []) = concluded ps None c true
rule_behind ps (n ∷ c ∷ []) = if is_label n then concluded ps (Some n) c true else None
rule_behind ps (n ∷ c ∷ d ∷ ds) = None

-- premises, and the name behind them, where there is one
abbrev pub cut_name : List Sexp → List Sexp × Option Sexp
cut_name [] = ([], None)
cut_name (d ∷ []) = if is_label d then ([], Some d) else (d ∷ [], None)
cut_name (d ∷ e ∷ ds) = (d ∷ (cut_name (e ∷ ds)).0, (cut_name (e ∷ ds)).1)

-- a conclusion, then premises, and a name
abbrev pub rule_ahead : List Sexp → Option RuleForm
rule_ahead [] = None
rule_ahead (c ∷ ds) = concluded (cut_name ds).0 (cut_name ds).1 c false

-- the same, but where a line cuts the parts
abbrev pub rule_cut : List Sexp → Option (List Sexp × List Sexp) → Option RuleForm
rule_cut ds None = rule_ahead ds
rule_cut ds (Some c) = rule_behind c.0 c.1

-- a list of these parts as a rule
abbrev pub rule_among : Option (List Sexp) → Option RuleForm
rule_among None = None
rule_among (Some ds) = rule_cut ds (cut_at_line ds)

-- a datum as a rule, of whatever judgement
abbrev pub rule_form : Sexp → Option RuleForm
rule_form d = rule_among (parts d)

-- ---- judgements

-- an option: a keyword, and the datum behind it, where there is one
pub record OptionForm : Type 0 where
  pub key : Sexp
  pub given : Option Sexp

-- the name of a language, options and rules
pub record JudgementForm : Type 0 where
  pub language : Sexp
  pub options : List OptionForm
  pub rules : List Sexp

-- the datum is a keyword
abbrev pub is_any_keyword : Sexp → Bool
is_any_keyword (leaf (keyword k) s) = true
is_any_keyword d = false

-- an option in front of other options and rules
abbrev pub with_option : Sexp → Option Sexp → List OptionForm × List Sexp → List OptionForm × List Sexp
with_option k v c = (record { key = k; given = v } ∷ c.0, c.1)

-- the options in front, and the rules behind them
abbrev pub cut_options : List Sexp → List OptionForm × List Sexp
cut_options [] = ([], [])
cut_options (k ∷ []) = if is_any_keyword k then with_option k None ([], []) else ([], k ∷ [])
cut_options (k ∷ v ∷ ds) = if is_any_keyword k then with_option k (Some v) (cut_options ds) else ([], k ∷ v ∷ ds)

-- a list of these parts as a judgement
abbrev pub judgement_among : Option (List Sexp) → Option JudgementForm
judgement_among (Some (h ∷ l ∷ ds)) =
    if is_word (codes "define-judgment-form") h && is_symbol l
    then Some (record { language = l; options = (cut_options ds).0; rules = (cut_options ds).1 })
    else None
judgement_among o = None

-- a datum as a judgement: a list headed by `define-judgment-form`, of a symbol for the language's name, and then its options and rules
abbrev pub judgement_form : Sexp → Option JudgementForm
judgement_form d = judgement_among (parts d)

-- ---- options

-- the list that the first option of this keyword gives
abbrev pub given_by : List ℕ → List OptionForm → Option Sexp
given_by k [] = None
given_by k (o ∷ os) = if is_keyword k o.key then o.given else given_by k os

-- such a datum as a list headed by a symbol
abbrev pub headed_by : Option Sexp → Option Headed
headed_by None = None
headed_by (Some d) = headed d

-- the mode of a judgement as it is written: `(J I-or-O ...)`
abbrev pub mode_form : JudgementForm → Option Headed
mode_form f = headed_by (given_by (codes "mode") f.options)

-- its contract: `(J p ...)`
abbrev pub contract_form : JudgementForm → Option Headed
contract_form f = headed_by (given_by (codes "contract") f.options)

-- the name that it goes by: that of its mode
abbrev pub judgement_in : JudgementForm → Option Sexp
judgement_in f = option_map (λ h. h.head) (mode_form f)

-- the datum stands for an input, `I`, or for an output, `O`
abbrev pub is_flag : Sexp → Bool
is_flag d = is_word (codes "I") d || is_word (codes "O") d

-- the mode that such a list gives, if each item is one of these
abbrev pub mode_given : Option Headed → Option Mode
mode_given None = None
mode_given (Some h) = if list_all is_flag h.arguments then Some (map (is_word (codes "I")) h.arguments) else None

-- the mode of the form
abbrev pub own_mode : JudgementForm → Option Mode
own_mode f = mode_given (mode_form f)

-- ---- what is not in shape

-- the list is headed by the name, where there is one
abbrev pub is_named_so : Option Sexp → Headed → Bool
is_named_so None h = true
is_named_so (Some j) h = bytes_eq (text_of h.head) (text_of j)

-- an option of a judgement of this name has its shape: a mode, or a contract of the judgement
abbrev pub is_option : Option Sexp → Sexp → Option Headed → Bool
is_option j k None = false
is_option j k (Some h) = is_keyword (codes "mode") k || (is_keyword (codes "contract") k && is_named_so j h)

-- the text of a keyword
abbrev pub key_text : Sexp → List ℕ
key_text (leaf (keyword k) s) = k
key_text d = []

-- the option has its shape, and its keyword is none of these
abbrev pub is_fit_option : Option Sexp → List (List ℕ) → OptionForm → Bool
is_fit_option j seen o = is_option j o.key (headed_by o.given) && not (list_any (λ k. bytes_eq k (key_text o.key)) seen)

-- all options are, each keyword coming once
abbrev pub are_fit_options : Option Sexp → List (List ℕ) → List OptionForm → Bool
are_fit_options j seen [] = true
are_fit_options j seen (o ∷ os) = is_fit_option j seen o && are_fit_options j (key_text o.key ∷ seen) os

-- the rule, where it is one of the judgement of this name; where no name is given any symbol may head the conclusion
abbrev pub own_rule : Option Sexp → Option RuleForm → Option RuleForm
own_rule j None = None
own_rule j (Some r) = if is_named_so j r.parts then Some r else None
