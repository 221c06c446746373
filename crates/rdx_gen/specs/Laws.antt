-- What holds of generation in any language.
use Rattle.std.specs.Prelude.{◌≡◌, ◌⊎◌, ◌↔◌, ℕ, ◌+◌, ◌*◌, ◌≤◌, ◌≢◌, Bool, List, [], ◌∷◌, length, Some, None, IsTrue, IsFalse}
use Rattle.rand_pcg.specs.Lcg.{Lcg}
use Rattle.rdx_term.specs.Tree.{Tree}
use Rattle.rdx_lang.specs.Bindings.{Binding}
use Rattle.rdx_lang.specs.Members.{In}
use Rattle.rdx_lang.specs.Patterns.{Pattern, wild, of_kind, except, prefix, hole, lit, nt, named, differ, in_hole, hide_hole, closed, seq, Items, nil, one, many, Definition, Language}
use Rattle.rdx_lang.specs.References.{are_distinct}
use Rattle.rdx_lang.specs.Rules.{IsAlternative, Match}
use Rattle.rdx_lang.specs.WellFormed.{defined}
use Rattle.rdx_lang.specs.declared.pattern.Ref.{Ref}
use Rattle.rdx_gen.specs.Generated.{Answer, barren, Generates, outcome}
use Rattle.rdx_gen.specs.Generation.{lacks}
use Rattle.rdx_gen.specs.declared.height.Height.{Height}
use Rattle.rdx_gen.specs.Heights.{known_in, term_height, context_height, next_heights, heights_of}
use Rattle.rdx_gen.specs.NameRules.{places_of, mentioned, reached, first_in_alternative, first_bad_name}
use Rattle.rdx_gen.specs.Outcomes.{nothing}

-- There is one answer at most, and one state of the words behind it.
abbrev pub OneAnswer : Type 0
OneAnswer = (L : Language) (p : Pattern) (size : ℕ) (w : Lcg) (a b : Answer) (v u : Lcg)
    → Generates L p size w a v → Generates L p size w b u → (a ≡ b) × (v ≡ u)

-- an answer, and the words that are left behind it
pub record HasAnswer (L : Language) (p : Pattern) (size : ℕ) (w : Lcg) : Type 0 where
  pub answer : Answer
  pub left : Lcg
  pub generates : Generates L p size w answer left

-- There is one, whatever the language, the pattern, the size and the words.
abbrev pub SomeAnswer : Type 0
SomeAnswer = (L : Language) (p : Pattern) (size : ℕ) (w : Lcg) → HasAnswer L p size w

-- A pattern with a height gives one as soon as the size and two for each nonterminal of the language may stand in one another.
abbrev pub EnoughLevels : Type 0
EnoughLevels = (L : Language) (p : Pattern) (size n : ℕ) (w : Lcg) → IsFalse (lacks (term_height (known_in L) p))
    → size + 2 * length L.nonterminals ≤ n → outcome n L p size w ≢ nothing

-- ---- heights

-- As many rounds as there are find all heights: each is one more than the least of its alternatives'.
abbrev pub HeightsSolve : Type 0
HeightsSolve = (L : Language) → next_heights L (heights_of L) ≡ heights_of L

-- No other table of heights is so.
abbrev pub OneSolution : Type 0
OneSolution = (L : Language) (hs : List Height) → next_heights L hs ≡ hs → hs ≡ heights_of L

-- No height is greater than two for each nonterminal.
abbrev pub HeightsBounded : Type 0
HeightsBounded = (L : Language) (p : Pattern) (h : ℕ) → (term_height (known_in L) p ≡ Some h) ⊎ (context_height (known_in L) p ≡ Some h)
    → h ≤ 2 * length L.nonterminals

-- ---- patterns without a height

abbrev mutual
  -- no closed pattern stands in this one
  pub NoneClosed : Pattern → Type 0
  NoneClosed wild = Unit {0}
  NoneClosed (of_kind k) = Unit {0}
  NoneClosed (except rs) = Unit {0}
  NoneClosed (prefix r) = Unit {0}
  NoneClosed hole = Unit {0}
  NoneClosed (lit u) = Unit {0}
  NoneClosed (nt x) = Unit {0}
  NoneClosed (named x q) = NoneClosed q
  NoneClosed (differ x q) = NoneClosed q
  NoneClosed (in_hole q r) = NoneClosed q × NoneClosed r
  NoneClosed (hide_hole q) = NoneClosed q
  NoneClosed (closed q) = ⊥
  NoneClosed (seq ps) = NoneClosedAmong ps

  -- nor in these items
  pub NoneClosedAmong : Items → Type 0
  NoneClosedAmong nil = Unit {0}
  NoneClosedAmong (one p ps) = NoneClosed p × NoneClosedAmong ps
  NoneClosedAmong (many p x ps) = NoneClosed p × NoneClosedAmong ps

-- In a language whose nonterminals are distinct and in which no closed pattern stands, no term matches a pattern that is barren.
abbrev pub BarrenMatchesNone : Type 0
BarrenMatchesNone = (L : Language) (p : Pattern) (size : ℕ) (w v : Lcg) (t : Tree) (b : Binding) → IsTrue (are_distinct (defined L))
    → ((x : Ref) (q : Pattern) → IsAlternative L x q → NoneClosed q) → NoneClosed p → Generates L p size w barren v → Match L p t b → ⊥

-- ---- what a pattern reaches

-- the nonterminal x stands in the pattern, or in an alternative of one that the pattern reaches
pub data Reaches (L : Language) (p : Pattern) : Ref → Type 0 where
  at_once : {x : Ref} → In x (mentioned p) → Reaches L p x
  behind : {x y : Ref} {q : Pattern} → Reaches L p y → IsAlternative L y q → In x (mentioned q) → Reaches L p x

-- as many marks as definitions, each of them set exactly where its nonterminal has the property
abbrev pub MarkExactly : (Ref → Type 0) → List Bool → List Definition → Type 0
MarkExactly R [] [] = Unit {0}
MarkExactly R [] (d ∷ ds) = ⊥
MarkExactly R (b ∷ bs) [] = ⊥
MarkExactly R (b ∷ bs) (d ∷ ds) = (IsTrue b ↔ R d.0) × MarkExactly R bs ds

-- As many steps as there are nonterminals mark exactly those that the pattern reaches.
abbrev pub ReachedExactly : Type 0
ReachedExactly = (L : Language) (p : Pattern) → MarkExactly (Reaches L p) (reached L p) L.nonterminals

-- Where no name breaks a rule, no name stands twice in an alternative of a nonterminal that the pattern reaches, and no mismatch name stands in one.
abbrev pub NoneBreaks : Type 0
NoneBreaks = (L : Language) (p q : Pattern) (x : Ref) → first_bad_name L p ≡ None → Reaches L p x → IsAlternative L x q
    → first_in_alternative (places_of q) (places_of q) ≡ None
