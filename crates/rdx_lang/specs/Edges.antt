-- Left edges between patterns, and left recursion.
--
-- A left edge leads from a pattern to one that is matched against the same term, with nothing of the term taken off. Where a nonterminal
-- reaches itself along such edges, a search has no end. The condition is the one under which Klein, McCarthy, Jaconette and Findler prove
-- their algorithm (APLAS 2011).
use Rattle.std.specs.Prelude.{◌≡◌, ℕ, List, ◌∷◌, ◌++◌}
use Rattle.rdx_lang.specs.Members.{In}
use Rattle.rdx_lang.specs.Empty.{IsEmpty}
use Rattle.rdx_lang.specs.Patterns.{Pattern, nt, named, differ, in_hole, hide_hole, closed, Definition, Language}
use Rattle.rdx_lang.specs.Rules.{IsAlternative}
use Rattle.rdx_lang.specs.declared.pattern.Ref.{Ref}

-- A left edge: from a nonterminal to each of its alternatives; from a pattern with a name, a hidden and a closed one to its part; from
-- `in-hole` to its left part, and to its right part where the left one is Empty, since then nothing of the term is taken off before.
pub data Edge (L : Language) : Pattern → Pattern → Type 0 where
  edge_nt : {x : Ref} {p : Pattern} → IsAlternative L x p → Edge L (nt x) p
  edge_named : {x : List ℕ} {q : Pattern} → Edge L (named x q) q
  edge_differ : {x : List ℕ} {q : Pattern} → Edge L (differ x q) q
  edge_hide_hole : {q : Pattern} → Edge L (hide_hole q) q
  edge_closed : {q : Pattern} → Edge L (closed q) q
  edge_left : {q r : Pattern} → Edge L (in_hole q r) q
  edge_right : {q r : Pattern} → IsEmpty L q → Edge L (in_hole q r) r

-- one left edge or more lead from the one pattern to the other
pub data Reaches (L : Language) : Pattern → Pattern → Type 0 where
  at_once : {p q : Pattern} → Edge L p q → Reaches L p q
  further : {p q r : Pattern} → Edge L p q → Reaches L q r → Reaches L p r

-- a nonterminal is left-recursive where it reaches itself
abbrev pub IsRecursive : Language → Ref → Type 0
IsRecursive L x = Reaches L (nt x) (nt x)

-- a language is free of left recursion where no nonterminal reaches itself
abbrev pub IsFree : Language → Type 0
IsFree L = (x : Ref) → ¬ IsRecursive L x

-- x is the first nonterminal that reaches itself, in the order of definition
pub record IsFirstRecursive (L : Language) (x : Ref) : Type 0 where
  pub before : List Definition
  pub alternatives : List Pattern
  pub behind : List Definition
  pub defined : L.nonterminals ≡ before ++ (x, alternatives) ∷ behind
  pub recursive : IsRecursive L x
  pub first : (d : Definition) → In d before → ¬ IsRecursive L d.0
