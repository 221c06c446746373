-- A derivation as it is printed: a line for each node, followed by the lines of what stands under it.
use Rattle.std.specs.Prelude.{ℕ, zero, suc, ◌+◌, true, false, List, [], ◌∷◌, ◌++◌, Option, Some, None, codes, decimal, slice_get}
use Rattle.rdx_term.specs.Text.{tree_text, spaced_text, label_text}
use Rattle.rdx_term.specs.Tree.{Tree, Trees, hole, integer, truth, text, symbol, list, nil, cons}
use Rattle.rdx_lang.specs.Patterns.{Pattern, wild, of_kind, except, prefix, lit, nt, named, differ, in_hole, hide_hole, closed, seq}
use Rattle.rdx_lang.specs.Patterns.{hole as the_hole}
use Rattle.rdx_lang.specs.Programs.{Mode, JudgementRule, Judgement, Program, judgement_named}
use Rattle.rdx_lang.specs.declared.pattern.Kind.{Kind}
use Rattle.rdx_lang.specs.declared.pattern.Kind.TheVariants.{Any, Number, Natural, Integer, Real, Text, Boolean, Variable, Unmentioned}
use Rattle.rdx_lang.specs.declared.pattern.Ref.{Ref}
use Rattle.rdx_lang.specs.declared.pattern.Ref.TheVariants.{Nt, Cross}
use Rattle.rdx_deriv.specs.Derivations.{Goal, matched, split, judged, Derivation, Derivations, node, none, more}

-- the name of a built-in pattern
abbrev pub kind_word : Kind → List ℕ
kind_word Any = codes "any"
kind_word Number = codes "number"
kind_word Natural = codes "natural"
kind_word Integer = codes "integer"
kind_word Real = codes "real"
kind_word Text = codes "string"
kind_word Boolean = codes "boolean"
kind_word Variable = codes "variable"
kind_word Unmentioned = codes "variable-not-otherwise-mentioned"

-- the nonterminal, or the contexts from one to another
abbrev pub ref_word : Ref → List ℕ
ref_word (Nt x) = x
ref_word (Cross x y) = x ++ codes "->" ++ y

-- the number of the alternative that is chosen, from 1
abbrev pub place_word : List ℕ → List ℕ
place_word [] = []
place_word (k ∷ ks) = decimal (k + 1)

-- the word of the rule that a node is of
abbrev pub rule_word : Pattern → List ℕ → List ℕ
rule_word wild ks = codes "_"
rule_word (of_kind k) ks = kind_word k
rule_word (except rs) ks = codes "variable-except"
rule_word (prefix r) ks = codes "variable-prefix"
rule_word the_hole ks = codes "hole"
rule_word (lit u) ks = codes "literal"
rule_word (nt x) ks = ref_word x ++ codes "/" ++ place_word ks
rule_word (named x q) ks = codes "name " ++ x
rule_word (differ x q) ks = codes "mismatch " ++ x
rule_word (in_hole q r) ks = codes "in-hole"
rule_word (hide_hole q) ks = codes "hide-hole"
rule_word (closed q) ks = codes "closed"
rule_word (seq ps) ks = codes "list"

-- two spaces for each level
abbrev pub indent : ℕ → List ℕ
indent zero = []
indent (suc n) = indent n ++ codes "  "

-- ---- judgements

-- the items of a list
abbrev pub items_in : Tree → Trees
items_in hole = nil
items_in (integer z) = nil
items_in (truth v) = nil
items_in (text s) = nil
items_in (symbol s) = nil
items_in (list m ts) = ts

-- the arguments of a judgement of this mode: inputs and outputs, each in their order
abbrev pub arguments : Mode → Trees → Trees → Trees
arguments [] ts us = nil
arguments (true ∷ m) nil us = arguments m nil us
arguments (true ∷ m) (cons t ts) us = cons t (arguments m ts us)
arguments (false ∷ m) ts nil = arguments m ts nil
arguments (false ∷ m) ts (cons u us) = cons u (arguments m ts us)

-- the mode of a judgement, where there is one
abbrev pub mode_in : Option Judgement → Mode
mode_in None = []
mode_in (Some J) = J.mode

-- the name of a rule, where there is one and it has one
abbrev pub name_of : Option JudgementRule → Option (List ℕ)
name_of None = None
name_of (Some r) = r.name

-- the name of the rule that is chosen
abbrev pub chosen_name : Option Judgement → List ℕ → Option (List ℕ)
chosen_name None ks = None
chosen_name (Some J) [] = None
chosen_name (Some J) (k ∷ ks) = name_of (slice_get J.rules k)

-- the name of a rule, or `-` where it has none
abbrev pub rule_name_text : Option (List ℕ) → List ℕ
rule_name_text None = codes "-"
rule_name_text (Some x) = label_text x

-- the judgement with its arguments, as a list
abbrev pub judgement_text : Mode → List ℕ → Tree → Tree → List ℕ
judgement_text m j a o = codes "(" ++ j ++ spaced_text (arguments m (items_in a) (items_in o)) ++ codes ")"

-- ---- lines

-- the word, and the term, for a split the context and the part; for a judgement its arguments, and the rule that it is by
abbrev pub goal_text : Program → Goal → List ℕ → List ℕ
goal_text P (matched l p t b) ks = rule_word p ks ++ codes " " ++ tree_text t
goal_text P (split l p t C s b) ks = rule_word p ks ++ codes " " ++ tree_text C ++ codes " / " ++ tree_text s
goal_text P (judged j a o) ks =
    codes "judge " ++ judgement_text (mode_in (judgement_named P j)) j a o ++ codes " by " ++ rule_name_text (chosen_name (judgement_named P j) ks)

-- the line of a node at this level, behind four spaces and those for the level
abbrev pub node_line : Program → ℕ → Goal → List ℕ → List ℕ
node_line P n g ks = codes "    " ++ indent n ++ goal_text P g ks ++ codes "\n"

abbrev mutual
  -- the lines of a derivation whose root is at this level
  pub derivation_lines : Program → ℕ → Derivation → List ℕ
  derivation_lines P n (node g ks ds) = node_line P n g ks ++ all_lines P (n + 1) ds

  -- those of derivations, one after the other
  pub all_lines : Program → ℕ → Derivations → List ℕ
  all_lines P n none = []
  all_lines P n (more d ds) = derivation_lines P n d ++ all_lines P n ds
