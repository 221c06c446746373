-- Which nonterminals of a language are Empty, by rules over their places.
use Rattle.std.specs.Prelude.{◌≡◌, ◌<◌, ◌↔◌, ℕ, suc, Bool, true, false, List, [], ◌∷◌, ◌++◌, length, map, slice_index_or, if◌then◌else◌}
use Rattle.rdx_lang.specs.Empty.{is_empty}
use Rattle.rdx_lang.specs.Members.{In}
use Rattle.rdx_lang.specs.Patterns.{Pattern, wild, of_kind, except, prefix, hole, lit, nt, named, differ, in_hole, hide_hole, closed, seq, Definition, Language}
use Rattle.rdx_lang.specs.WellFormed.{defined}
use Rattle.rdx_lang.specs.declared.pattern.Ref.{Ref}
use Rattle.rdx_leftrec.specs.Inside.Leads.{place, places}
use Rattle.rdx_leftrec.specs.Inside.Reach.{IsMarked}
use Rattle.rdx_leftrec.specs.declared.empty.Rule as code_rule

-- a rule: the nonterminal at the first place is Empty where those at all the other places are
abbrev pub Rule : Type 0
Rule = ℕ × List ℕ

-- the rule that a rule of the code stands for
abbrev pub rule_of : code_rule.Rule → Rule
rule_of r = (r.whole, r.parts.items)

-- the rules that rules of the code stand for
abbrev pub rules_of : List code_rule.Rule → List Rule
rules_of rs = map rule_of rs

-- what follows by the rules: the first place of a rule, where all its other places do
pub data Follows (rs : List Rule) : ℕ → Type 0 where
  follows : {i : ℕ} {js : List ℕ} → In (i, js) rs → ((j : ℕ) → In j js → Follows rs j) → Follows rs i

-- all places in the rules are below n
abbrev pub AreWithin : List Rule → ℕ → Type 0
AreWithin rs n = (r : Rule) → In r rs → (r.0 < n) × ((j : ℕ) → In j r.1 → j < n)

-- there are n marks, and marked are exactly the places that follow
pub record IsLeast (rs : List Rule) (n : ℕ) (marks : List Bool) : Type 0 where
  pub size : length marks ≡ n
  pub exact : (j : ℕ) → (IsMarked marks j ↔ Follows rs j)

-- the pattern is Empty by itself: also where no nonterminal is
abbrev pub is_empty_alone : Pattern → Bool
is_empty_alone p = is_empty (λ x. false) p

-- the pattern is Empty where all nonterminals are
abbrev pub may_be_empty : Pattern → Bool
may_be_empty p = is_empty (λ x. true) p

-- the nonterminals that have to be for that
abbrev pub needs : Pattern → List Ref
needs wild = []
needs (of_kind k) = []
needs (except rs) = []
needs (prefix r) = []
needs hole = []
needs (lit u) = []
needs (nt x) = x ∷ []
needs (named x q) = needs q
needs (differ x q) = needs q
needs (in_hole q r) = needs q ++ needs r
needs (hide_hole q) = []
needs (closed q) = needs q
needs (seq ps) = []

-- a rule for each alternative that may be Empty, where i is the place of their nonterminal
abbrev pub alternatives_rules : List Ref → ℕ → List Pattern → List Rule
alternatives_rules xs i [] = []
alternatives_rules xs i (p ∷ ps) = (if may_be_empty p then (i, places xs (needs p)) ∷ [] else []) ++ alternatives_rules xs i ps

-- the rules of definitions, where i is the place of the first
abbrev pub definitions_rules : List Ref → ℕ → List Definition → List Rule
definitions_rules xs i [] = []
definitions_rules xs i (d ∷ ds) = alternatives_rules xs i d.1 ++ definitions_rules xs (suc i) ds

-- the rules of a language
abbrev pub language_rules : Language → List Rule
language_rules L = definitions_rules (defined L) 0 L.nonterminals

-- the nonterminal is one whose place is marked
abbrev pub empty_by : Language → List Bool → Ref → Bool
empty_by L marks x = slice_index_or marks (place x (defined L)) false
