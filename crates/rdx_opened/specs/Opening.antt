-- Patterns whose mismatch names are opened: each place of one has a name of its own, a mark, so that the terms at it are seen.
use Rattle.std.specs.Prelude.{◌≡◌, ◌↔◌, ℕ, zero, suc, List, [], ◌∷◌, ◌++◌, Option, map}
use Rattle.rdx_term.specs.Tree.{Tree}
use Rattle.rdx_lang.specs.Bindings.{Value, one, many, Values, more, Pair, Binding, HasAscendingNames, unlike}
use Rattle.rdx_lang.specs.Members.{In}
use Rattle.rdx_lang.specs.Names.{names}
use Rattle.rdx_lang.specs.Patterns.{Pattern, wild, of_kind, except, prefix, hole, lit, nt, named, differ, in_hole, hide_hole, closed, seq, Items, nil}
use Rattle.rdx_lang.specs.Patterns.{one as one_item, many as many_items}
use Rattle.rdx_lang.specs.declared.pattern.Kind.{Kind}
use Rattle.rdx_lang.specs.declared.pattern.Ref.{Ref}

-- a name that stands at a place of a mismatch name, and that mismatch name
abbrev pub Mark : Type 0
Mark = List ℕ × List ℕ

-- the names that are marks
abbrev pub mark_names : List Mark → List (List ℕ)
mark_names ms = map (λ m. m.0) ms

mutual
  -- o is the pattern p with marks in the places of its mismatch names, these in their order; nonterminals and closed patterns stay as they are
  pub data Opens : Pattern → Pattern → List Mark → Type 0 where
    opens_wild : Opens wild wild []
    opens_kind : {k : Kind} → Opens (of_kind k) (of_kind k) []
    opens_except : {rs : List (List ℕ)} → Opens (except rs) (except rs) []
    opens_prefix : {r : List ℕ} → Opens (prefix r) (prefix r) []
    opens_hole : Opens hole hole []
    opens_lit : {t : Tree} → Opens (lit t) (lit t) []
    opens_nt : {x : Ref} → Opens (nt x) (nt x) []
    opens_named : {x : List ℕ} {q o : Pattern} {ms : List Mark} → Opens q o ms → Opens (named x q) (named x o) ms
    opens_differ : {x y : List ℕ} {q o : Pattern} {ms : List Mark} → Opens q o ms → Opens (differ x q) (named y o) ((y, x) ∷ ms)
    opens_in_hole : {q r o u : Pattern} {ms ns : List Mark} → Opens q o ms → Opens r u ns → Opens (in_hole q r) (in_hole o u) (ms ++ ns)
    opens_hide_hole : {q o : Pattern} {ms : List Mark} → Opens q o ms → Opens (hide_hole q) (hide_hole o) ms
    opens_closed : {q : Pattern} → Opens (closed q) (closed q) []
    opens_seq : {ps os : Items} {ms : List Mark} → OpensItems ps os ms → Opens (seq ps) (seq os) ms

  -- the same of the items of a list pattern
  pub data OpensItems : Items → Items → List Mark → Type 0 where
    opens_none : OpensItems nil nil []
    opens_one : {p o : Pattern} {ps os : Items} {ms ns : List Mark} → Opens p o ms → OpensItems ps os ns
        → OpensItems (one_item p ps) (one_item o os) (ms ++ ns)
    opens_many : {p o : Pattern} {n : Option (List ℕ)} {ps os : Items} {ms ns : List Mark} → Opens p o ms → OpensItems ps os ns
        → OpensItems (many_items p n ps) (many_items o n os) (ms ++ ns)

-- no two of these are equal
abbrev pub AreDistinct : List (List ℕ) → Type 0
AreDistinct [] = Unit {0}
AreDistinct (x ∷ xs) = (¬ In x xs) × AreDistinct xs

-- no mark is another one, and none is a name of the pattern
pub record AreNew (xs : List (List ℕ)) (ms : List Mark) : Type 0 where
  pub distinct : AreDistinct (mark_names ms)
  pub other : (x : List ℕ) → In x (mark_names ms) → ¬ In x xs

-- o is p opened by these marks
pub record IsOpened (p o : Pattern) (ms : List Mark) : Type 0 where
  pub opens : Opens p o ms
  pub new : AreNew (names p) ms

-- ---- what an opened pattern binds

-- v is the value at this place
pub data IsAt : Values → ℕ → Value → Type 0 where
  at_first : {v : Value} {vs : Values} → IsAt (more v vs) zero v
  at_later : {u v : Value} {vs : Values} {i : ℕ} → IsAt vs i v → IsAt (more u vs) (suc i) v

-- the value has the term in these turns, from the outermost on
pub data LeafAt : Value → List ℕ → Tree → Type 0 where
  leaf_one : {t : Tree} → LeafAt (one t) [] t
  leaf_many : {vs : Values} {i : ℕ} {v : Value} {is : List ℕ} {t : Tree} → IsAt vs i v → LeafAt v is t → LeafAt (many vs) (i ∷ is) t

-- the mark y, which stands at a place of the mismatch name x, has the term in these turns
pub record IsLeaf (ms : List Mark) (c : Binding) (x y : List ℕ) (is : List ℕ) (t : Tree) : Type 0 where
  pub value : Value
  pub mark : In (y, x) ms
  pub bound : In (y, value) c.pairs
  pub leaf : LeafAt value is t

-- two terms that the marks of one mismatch name have are equal nowhere but at one place and in the same turns
abbrev pub IsApart : List Mark → Binding → Type 0
IsApart ms c =
    (x y z : List ℕ) (is js : List ℕ) (t : Tree) → IsLeaf ms c x y is t → IsLeaf ms c x z js t → (y ≡ z) × (is ≡ js)

-- What c, which an opened pattern binds, says of the pattern is b: the names that are no marks have their values, and the terms that the marks of
-- a mismatch name have are its set, which all differ.
pub record Stands (ms : List Mark) (c b : Binding) : Type 0 where
  pub plain : c.differs ≡ []
  pub ascending : HasAscendingNames b
  pub pairs : (p : Pair) → (In p b.pairs ↔ (In p c.pairs × (¬ In p.0 (mark_names ms))))
  pub sets : (x : List ℕ) (t : Tree) → (In (x, t) (unlike b.differs) ↔ ((y : List ℕ) × (is : List ℕ) × IsLeaf ms c x y is t))
  pub apart : IsApart ms c

-- so it is of one of them, where there is one
pub record HasStanding (ms : List Mark) (c : Binding) (R : Binding → Type 0) : Type 0 where
  pub whole : Binding
  pub stands : Stands ms c whole
  pub holds : R whole

-- c stands for b, and is bound by the opened pattern
pub record IsOpenedBy (ms : List Mark) (b : Binding) (R : Binding → Type 0) : Type 0 where
  pub opened : Binding
  pub stands : Stands ms opened b
  pub holds : R opened
