-- What shorthand stands for. What is put in keeps the places at which it is written, and nothing is replaced in it.
use Rattle.std.specs.Prelude.{◌≡◌, ℕ, List, [], ◌∷◌, ◌++◌, Option, Some, None, Result, Ok, Err, is_some, map, codes, bytes_eq, option_map, Vec, if◌then◌else◌}
use Rattle.std.specs.declared.alloc.Global.{Global}
use Rattle.rdx_base.specs.declared.place.Span.{Span}
use Rattle.rdx_sexp.specs.Sexp.{Sexp, Sexps, leaf, list, nil, cons, sexps, span_of}
use Rattle.rdx_patterns.specs.Kinds.{is_among}
use Rattle.rdx_patterns.specs.Parts.{is_word, text_of}
use Rattle.rdx_patterns.specs.Refusal.{Refusal, refusal_of, unnamed, named, first, first_refusal}
use Rattle.rdx_patterns.specs.declared.shape.fault.DefFault.{DefFault}
use Rattle.rdx_patterns.specs.declared.shape.fault.DefFault.TheVariants.{Refused, NoMemory}
use Rattle.rdx_patterns.specs.declared.shape.fault.DefKind.TheVariants.{Shape, Duplicate, UnknownName}
use Rattle.rdx_relations.specs.RelationForms.{CaseForm, case_form, RelationForm, relation_form}
use Rattle.rdx_relations.specs.Shorthand.{before_with, behind_with, Shortcut, shortcut_form, shortcuts_of, first_of_each, is_known_arrow}

-- ---- cases

abbrev mutual
  -- the datum with e in place of each symbol x in it
  pub replaced : List ℕ → Sexp → Sexp → Sexp
  replaced x e (leaf a s) = if is_word x (leaf a s) then e else leaf a s
  replaced x e (list ds s) = list (replaced_in x e ds) s

  -- so with several data
  pub replaced_in : List ℕ → Sexp → Sexps → Sexps
  replaced_in x e nil = nil
  replaced_in x e (cons d ds) = cons (replaced x e d) (replaced_in x e ds)

-- what a case with the arrow of the shortcut stands for; its extras stay
abbrev pub by_shortcut : Shortcut → CaseForm → CaseForm
by_shortcut s c = record {
  arrow = s.old;
  pattern = replaced (text_of s.for_pattern) c.pattern s.pattern;
  result = replaced (text_of s.for_result) c.result s.result;
  extras = c.extras;
}

-- a case, if its arrow is that of the shortcut
abbrev pub once_expanded : Shortcut → CaseForm → CaseForm
once_expanded s c = if bytes_eq (text_of s.new) (text_of c.arrow) then by_shortcut s c else c

-- by all of these shortcuts, the last one first, since the old arrow of one is that of an earlier one
abbrev pub expanded_case : List Shortcut → CaseForm → CaseForm
expanded_case [] c = c
expanded_case (s ∷ ss) c = once_expanded s (expanded_case ss c)

-- a case that leads to `-->` so is what it stands for; another stays as it is written, behind the arrow to which it leads, which no shortcut has
abbrev pub settled : CaseForm → CaseForm → CaseForm
settled c x =
    if is_word (codes "-->") x.arrow
    then x
    else record { arrow = x.arrow; pattern = c.pattern; result = c.result; extras = c.extras }

-- a case as a datum with this span
abbrev pub case_list : CaseForm → Span → Sexp
case_list c s = list (sexps (c.arrow ∷ c.pattern ∷ c.result ∷ c.extras)) s

-- the datum that a datum stands for, where it is a case
abbrev pub expanded_by : List Shortcut → Sexp → Option CaseForm → Sexp
expanded_by ss d None = d
expanded_by ss d (Some c) = case_list (settled c (expanded_case ss c)) (span_of d)

-- those among these data that cases use
abbrev pub used_shortcuts : List Sexp → List Shortcut
used_shortcuts ds = first_of_each [] (shortcuts_of ds)

-- the cases of a relation without shorthand, in their order
abbrev pub expanded_cases : RelationForm → List Sexp
expanded_cases r = map (λ d. expanded_by (used_shortcuts (behind_with r.cases)) d (case_form d)) (before_with r.cases)

-- the relation without shorthand
abbrev pub expanded_form : RelationForm → RelationForm
expanded_form r = record { language = r.language; domain = r.domain; cases = expanded_cases r }

-- ---- what is refused

-- those of data that are no cases
abbrev pub no_cases : List Sexp → List Sexp
no_cases [] = []
no_cases (d ∷ ds) = (if is_some (case_form d) then [] else d ∷ []) ++ no_cases ds

-- and those that are no shortcuts
abbrev pub no_shortcuts : List Sexp → List Sexp
no_shortcuts [] = []
no_shortcuts (d ∷ ds) = (if is_some (shortcut_form d) then [] else d ∷ []) ++ no_shortcuts ds

-- the new arrows that are among these, or that an earlier shortcut has
abbrev pub repeated_arrows : List (List ℕ) → List Shortcut → List Sexp
repeated_arrows seen [] = []
repeated_arrows seen (s ∷ ss) = (if is_among seen (text_of s.new) then s.new ∷ [] else []) ++ repeated_arrows (text_of s.new ∷ seen) ss

-- the arrow of a case, if it is another one
abbrev pub unknown_arrow : List (List ℕ) → Option CaseForm → List Sexp
unknown_arrow news None = []
unknown_arrow news (Some c) = if is_known_arrow news c.arrow then [] else c.arrow ∷ []

-- the arrows of cases that are neither `-->` nor one of these
abbrev pub unknown_arrows : List (List ℕ) → List Sexp → List Sexp
unknown_arrows news [] = []
unknown_arrows news (d ∷ ds) = unknown_arrow news (case_form d) ++ unknown_arrows news ds

-- the old arrows of shortcuts that are neither `-->` nor one of these, nor that of an earlier shortcut
abbrev pub unknown_olds : List (List ℕ) → List Shortcut → List Sexp
unknown_olds seen [] = []
unknown_olds seen (s ∷ ss) = (if is_known_arrow seen s.old then [] else s.old ∷ []) ++ unknown_olds (text_of s.new ∷ seen) ss

-- the new arrows of shortcuts
abbrev pub new_arrows : List Shortcut → List (List ℕ)
new_arrows ss = map (λ s. text_of s.new) ss

-- the refusal of a relation with these cases and these shortcuts, as far as its shorthand goes
abbrev pub shorthand_refusal : List Sexp → List Sexp → Option Refusal
shorthand_refusal cs ds =
    first_refusal
    (option_map (unnamed Shape) (first (no_cases cs ++ no_shortcuts ds))  -- S1
    ∷ option_map (named Duplicate) (first (repeated_arrows [] (shortcuts_of ds)))  -- S3
    ∷ option_map (named UnknownName) (first (unknown_arrows (new_arrows (shortcuts_of ds)) cs ++ unknown_olds [] (shortcuts_of ds)))  -- S8
    ∷ [])

-- the refusal of the form d with these parts
abbrev pub expansion_refusal_by : Sexp → Option RelationForm → Option Refusal
expansion_refusal_by d None = Some (unnamed Shape d)
expansion_refusal_by d (Some r) = shorthand_refusal (before_with r.cases) (behind_with r.cases)

-- the refusal of a form whose shorthand is expanded
abbrev pub expansion_refusal : Sexp → Option Refusal
expansion_refusal d = expansion_refusal_by d (relation_form d)

-- ---- what is answered

-- the cases without shorthand
pub record IsExpansion (d : Sexp) (cases : List Sexp) : Type 0 where
  pub passes : expansion_refusal d ≡ None
  pub parts : RelationForm
  pub is_form : relation_form d ≡ Some parts
  pub are : cases ≡ expanded_cases parts

-- the form is refused so, unless memory ran out
abbrev pub IsExpansionFault : Sexp → DefFault → Type 0
IsExpansionFault d (Refused r) = expansion_refusal d ≡ Some (refusal_of r)
IsExpansionFault d NoMemory = Unit {0}

-- the form has these cases without shorthand, or it is refused so
abbrev pub Expands : Sexp → Result (Vec Sexp Global) DefFault → Type 0
Expands d (Ok cases) = IsExpansion d cases.items
Expands d (Err e) = IsExpansionFault d e
