-- What a pattern matches where nobody reads what it binds, as in an alternative of a nonterminal or in a closed pattern: a name that stands
-- once is compared with nothing, so it may be left out before the search. A mismatch name stays, since its terms have to differ.
use Rattle.std.specs.Prelude.{◌≡◌, ◌≤◌, ℕ, false, List, [], ◌∷◌, ◌++◌, Option, Some, None, bytes_eq, count_by, if◌then◌else◌}
use Rattle.rdx_term.specs.Tree.{Tree}
use Rattle.rdx_lang.specs.Bindings.{Pair, Binding}
use Rattle.rdx_lang.specs.Members.{In}
use Rattle.rdx_lang.specs.Mismatches.{has_differ}
use Rattle.rdx_lang.specs.Names.{names}
use Rattle.rdx_lang.specs.Patterns.{Pattern, wild, of_kind, except, prefix, hole, lit, nt, named, differ, in_hole, hide_hole, closed, seq, Items, nil, one, many}
use Rattle.rdx_lang.specs.Rules.{is_one_of}
use Rattle.rdx_lang.specs.declared.pattern.Kind.{Kind}
use Rattle.rdx_lang.specs.declared.pattern.Ref.{Ref}

-- ---- the places where names are bound

-- the length name of a repetition, where it has one
abbrev pub length_names : Option (List ℕ) → List (List ℕ)
length_names None = []
length_names (Some x) = x ∷ []

abbrev mutual
  -- the names at the places where the pattern binds one, in the order of the places
  pub binders : Pattern → List (List ℕ)
  binders wild = []
  binders (of_kind k) = []
  binders (except rs) = []
  binders (prefix r) = []
  binders hole = []
  binders (lit u) = []
  binders (nt x) = []
  binders (named x q) = x ∷ binders q
  binders (differ x q) = binders q
  binders (in_hole q r) = binders q ++ binders r
  binders (hide_hole q) = binders q
  binders (closed q) = []
  binders (seq ps) = item_binders ps

  -- those of the items
  pub item_binders : Items → List (List ℕ)
  item_binders nil = []
  item_binders (one p ps) = binders p ++ item_binders ps
  item_binders (many p n ps) = binders p ++ length_names n ++ item_binders ps

-- each of the names xs stands at most once among zs
abbrev pub AreOnce : List (List ℕ) → List (List ℕ) → Type 0
AreOnce xs zs = (x : List ℕ) → In x xs → count_by (bytes_eq x) zs ≤ 1

-- each of the names xs is bound at one place of the pattern at most
abbrev pub StandOnce : List (List ℕ) → Pattern → Type 0
StandOnce xs p = AreOnce xs (binders p)

-- ---- a pattern without names

-- m is the length name n, unless that is one of xs: then m is none
pub data ForgetsLength (xs : List (List ℕ)) : Option (List ℕ) → Option (List ℕ) → Type 0 where
  forgets_no_length : ForgetsLength xs None None
  forgets_length : {x : List ℕ} → In x xs → ForgetsLength xs (Some x) None
  keeps_length : {x : List ℕ} → (In x xs → ⊥) → ForgetsLength xs (Some x) (Some x)

mutual
  -- q is p without the names xs. A closed pattern in it is any that is closed and without names that stand once inside; one that then
  -- binds nothing need not be closed, if no mismatch name stands in it.
  pub data Forgets : List (List ℕ) → Pattern → Pattern → Type 0 where
    forgets_wild : {xs : List (List ℕ)} → Forgets xs wild wild
    forgets_kind : {xs : List (List ℕ)} {k : Kind} → Forgets xs (of_kind k) (of_kind k)
    forgets_except : {xs rs : List (List ℕ)} → Forgets xs (except rs) (except rs)
    forgets_prefix : {xs : List (List ℕ)} {r : List ℕ} → Forgets xs (prefix r) (prefix r)
    forgets_hole : {xs : List (List ℕ)} → Forgets xs hole hole
    forgets_lit : {xs : List (List ℕ)} {u : Tree} → Forgets xs (lit u) (lit u)
    forgets_nt : {xs : List (List ℕ)} {x : Ref} → Forgets xs (nt x) (nt x)
    forgets_named : {xs : List (List ℕ)} {x : List ℕ} {p q : Pattern} → In x xs → Forgets xs p q → Forgets xs (named x p) q
    keeps_named : {xs : List (List ℕ)} {x : List ℕ} {p q : Pattern} → (In x xs → ⊥) → Forgets xs p q → Forgets xs (named x p) (named x q)
    forgets_differ : {xs : List (List ℕ)} {x : List ℕ} {p q : Pattern} → Forgets xs p q → Forgets xs (differ x p) (differ x q)
    forgets_in_hole : {xs : List (List ℕ)} {p q r s : Pattern} → Forgets xs p q → Forgets xs r s → Forgets xs (in_hole p r) (in_hole q s)
    forgets_hide_hole : {xs : List (List ℕ)} {p q : Pattern} → Forgets xs p q → Forgets xs (hide_hole p) (hide_hole q)
    forgets_closed : {xs ys : List (List ℕ)} {p q : Pattern} → StandOnce ys p → Forgets ys p q → Forgets xs (closed p) (closed q)
    forgets_open : {xs ys : List (List ℕ)} {p q : Pattern} → StandOnce ys p → Forgets ys p q → names q ≡ [] → has_differ p ≡ false → Forgets xs (closed p) q
    forgets_seq : {xs : List (List ℕ)} {ps qs : Items} → ForgetsItems xs ps qs → Forgets xs (seq ps) (seq qs)

  -- so are the items qs, for ps
  pub data ForgetsItems : List (List ℕ) → Items → Items → Type 0 where
    forgets_nil : {xs : List (List ℕ)} → ForgetsItems xs nil nil
    forgets_one : {xs : List (List ℕ)} {p q : Pattern} {ps qs : Items} → Forgets xs p q → ForgetsItems xs ps qs → ForgetsItems xs (one p ps) (one q qs)
    forgets_many : {xs : List (List ℕ)} {p q : Pattern} {n m : Option (List ℕ)} {ps qs : Items} →
        Forgets xs p q → ForgetsLength xs n m → ForgetsItems xs ps qs → ForgetsItems xs (many p n ps) (many q m qs)

-- q is p without names, each of which stands once in it
pub record LeavesOut (p q : Pattern) : Type 0 where
  pub names : List (List ℕ)
  pub once : StandOnce names p
  pub left : Forgets names p q

-- ---- a binding without names

-- the pairs whose names are not among xs
abbrev pub pairs_without : List (List ℕ) → List Pair → List Pair
pairs_without xs [] = []
pairs_without xs (p ∷ ps) = if is_one_of xs p.0 then pairs_without xs ps else p ∷ pairs_without xs ps

-- a binding of such pairs alone, with the mismatch names that are there
abbrev pub without_names : List (List ℕ) → Binding → Binding
without_names xs b = record { pairs = pairs_without xs b.pairs; differs = b.differs }
