-- What patterns never do, and what is known of a language by it.
use Rattle.std.specs.Prelude.{◌≡◌, ◌≢◌, ◌<◌, ◌≤◌, Bool, true, false, IsTrue, IsFalse, ℕ, List, [], ◌∷◌, Option, Some, None}
use Rattle.std.specs.Prelude.{Vec}
use Rattle.std.specs.declared.alloc.Global.{Global}
use Rattle.rdx_term.specs.Items.{tree_items, trees_count}
use Rattle.rdx_term.specs.Tree.{Tree, hole, integer, truth, text, symbol, list, tree_holes}
use Rattle.rdx_lang.specs.Bindings.{Binding}
use Rattle.rdx_lang.specs.Literals.{is_mentioned}
use Rattle.rdx_lang.specs.Names.{names}
use Rattle.rdx_lang.specs.Patterns.{Pattern, nt, Definition, Language}
use Rattle.rdx_lang.specs.Rules.{Match, Split, is_one_of}
use Rattle.rdx_lang.specs.declared.facts.Each.{Each}
use Rattle.rdx_lang.specs.declared.facts.Facts.{Facts}
use Rattle.rdx_lang.specs.declared.facts.Known.{Known}
use Rattle.rdx_lang.specs.declared.facts.May.{May}

-- the term is a list
abbrev pub is_list : Tree → Bool
is_list hole = false
is_list (integer z) = false
is_list (truth b) = false
is_list (text s) = false
is_list (symbol s) = false
is_list (list m ts) = true

-- how many items the term has; what is no list has none
abbrev pub item_count : Tree → ℕ
item_count t = trees_count (tree_items t)

-- the greatest number that is kept, which bounds nothing
abbrev pub greatest : ℕ
greatest = 4_294_967_295

-- the pattern splits no term
abbrev pub SplitsNothing : Language → Pattern → Type 0
SplitsNothing L p = (t C s : Tree) (b : Binding) → ¬ Split L p t C s b

-- each term that it matches is so
abbrev pub MatchesOnly : (Tree → Type 0) → Language → Pattern → Type 0
MatchesOnly P L p = (t : Tree) (b : Binding) → Match L p t b → P t

-- each term that it matches or splits is so
abbrev pub MeetsOnly : (Tree → Type 0) → Language → Pattern → Type 0
MeetsOnly P L p = MatchesOnly P L p × ((t C s : Tree) (b : Binding) → Split L p t C s b → P t)

-- what is false of these the pattern never does, and a list that it matches or splits has so many items at least and at most
pub record IsAtMost (L : Language) (may : May) (p : Pattern) : Type 0 where
  pub split : IsFalse may.split → SplitsNothing L p
  pub atoms : IsFalse may.atoms → MatchesOnly (λ t. IsTrue (is_list t)) L p
  pub least : MeetsOnly (λ t. IsTrue (is_list t) → may.least ≤ item_count t) L p
  pub most : may.most < greatest → MeetsOnly (λ t. IsTrue (is_list t) → item_count t ≤ may.most) L p
  pub solid : IsFalse may.solid → MatchesOnly (λ t. tree_holes t ≢ 0) L p
  pub bind : IsFalse may.bind → names p ≡ []

-- of each of the alternatives, in their order, it is known what it never does
abbrev pub AreEach : Language → List Pattern → List Each → Type 0
AreEach L [] [] = Unit {0}
AreEach L [] (e ∷ es) = ⊥
AreEach L (p ∷ ps) [] = ⊥
AreEach L (p ∷ ps) (e ∷ es) = IsAtMost L e.may p × AreEach L ps es

-- of the nonterminal and of each of its alternatives it is known
pub record IsKnown (L : Language) (d : Definition) (k : Known) : Type 0 where
  pub whole : IsAtMost L k.may (nt d.0)
  pub each : AreEach L d.1 k.each.items

-- of each of the nonterminals, in their order, it is known
abbrev pub AreKnown : Language → List Definition → List Known → Type 0
AreKnown L [] [] = Unit {0}
AreKnown L [] (k ∷ ks) = ⊥
AreKnown L (d ∷ ds) [] = ⊥
AreKnown L (d ∷ ds) (k ∷ ks) = IsKnown L d k × AreKnown L ds ks

-- these are the symbols that the language has as literals, where there are these
abbrev pub AreMentioned : Language → Option (Vec (List ℕ) Global) → Type 0
AreMentioned L None = Unit {0}
AreMentioned L (Some rs) = (s : List ℕ) → is_one_of rs.items s ≡ is_mentioned L s

-- these are facts of the language
pub record AreFacts (L : Language) (f : Facts) : Type 0 where
  pub nonterminals : AreKnown L L.nonterminals f.nonterminals.items
  pub mentioned : AreMentioned L f.mentioned
