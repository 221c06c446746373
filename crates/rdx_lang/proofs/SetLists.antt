-- The sets of mismatch names as one list: each term with its name, ascending by the names and then by the terms. Such a list fixes the sets,
-- and each is that of some sets.
use Rattle.std.proofs.Common.{◌≡◌, ℕ, Bool, true, false, List, [], ◌∷◌, ◌++◌, map, refl, sym, ◌∙◌, ap, subst, if◌then◌else◌}
use Rattle.std.specs.Prelude.{bytes_eq}
use Rattle.std.specs.Cmp.{IsTotalOrder, on_total, then_total}
use Rattle.std.specs.Cmp.Lexicographic.{bytes_decides}
use Rattle.std.specs.declared.cmp.Ordering.{Ordering}
use Rattle.std.specs.declared.cmp.Ordering.TheVariants.{Less, Equal, Greater}
use Rattle.std.specs.Ordering.{ordering_then}
use Rattle.std.proofs.lemmas.Cmp.{tied_itself}
use Rattle.rdx_term.specs.Order.{tree_cmp}
use Rattle.rdx_term.specs.Tree.{Tree}
use Rattle.rdx_term.specs.Model.TotalOrder.{tree_cmp-total}
use Rattle.rdx_term.proofs.OrderLaws.{tree_cmp-equal}
use Rattle.rdx_lang.specs.Ascending.{IsBelow, IsAscending}
use Rattle.rdx_lang.specs.Bindings.{Mismatch, Unlike, name_cmp, unlike, IsTermSet, AreSets}
use Rattle.rdx_lang.specs.Model.TotalOrders.{name_cmp-total}
use Rattle.rdx_lang.specs.Order.{TellsApart}
use Rattle.rdx_lang.proofs.OrderLaws.{name_cmp-tells, first_Equal, second_Equal}

-- ---- the order of terms with their names

-- by the name, then by the term
abbrev pub unlike_cmp : Unlike → Unlike → Ordering
unlike_cmp u v = ordering_then (name_cmp u.0 v.0) (tree_cmp u.1 v.1)

-- it is total
pub unlike_cmp-total : IsTotalOrder unlike_cmp
unlike_cmp-total = then_total (on_total (λ (u : Unlike). u.0) name_cmp-total) (on_total (λ (u : Unlike). u.1) tree_cmp-total)

-- what ties is equal
pub unlike_cmp-tells : TellsApart unlike_cmp
unlike_cmp-tells u v h =
    let e : u.0 ≡ v.0 = name_cmp-tells u.0 v.0 (first_Equal (name_cmp u.0 v.0) (tree_cmp u.1 v.1) h) in
    let d : u.1 ≡ v.1 = tree_cmp-equal u.1 v.1 (second_Equal (name_cmp u.0 v.0) (tree_cmp u.1 v.1) h) in
    λ i. (e i, d i)

-- where the names decide, the terms don't
by_name : (u v : Unlike) → name_cmp u.0 v.0 ≡ Less → unlike_cmp u v ≡ Less
by_name u v h = ap (λ o. ordering_then o (tree_cmp u.1 v.1)) h

-- under one name the terms decide
by_term : (x : List ℕ) (t u : Tree) → tree_cmp t u ≡ Less → unlike_cmp (x, t) (x, u) ≡ Less
by_term x t u h = ap (λ o. ordering_then o (tree_cmp t u)) (tied_itself name_cmp-total x) ∙ h

-- ---- sets ascend as one list

-- what is below two lists is below both together
below_append : {A : Type 0} (cmp : A → A → Ordering) (x : A) (xs ys : List A) → IsBelow cmp x xs → IsBelow cmp x ys → IsBelow cmp x (xs ++ ys)
below_append cmp x [] ys h k = k
below_append cmp x (z ∷ xs) ys h k = (h.0, below_append cmp x xs ys h.1 k)

-- a term with a name is below all of a greater name
below_terms : (u : Unlike) (x : List ℕ) (ts : List Tree) → name_cmp u.0 x ≡ Less → IsBelow unlike_cmp u (map (λ t. (x, t)) ts)
below_terms u x [] h = tt
below_terms u x (t ∷ ts) h = (by_name u (x, t) h, below_terms u x ts h)

-- and below the sets of greater names
below_sets : (u : Unlike) (ms : List Mismatch) → IsBelow name_cmp u.0 (map (λ m. m.0) ms) → IsBelow unlike_cmp u (unlike ms)
below_sets u [] h = tt
below_sets u (m ∷ ms) h = below_append unlike_cmp u (map (λ t. (m.0, t)) m.1) (unlike ms) (below_terms u m.0 m.1 h.0) (below_sets u ms h.1)

-- a term is below greater ones, with the same name
below_same : (x : List ℕ) (t : Tree) (ts : List Tree) → IsBelow tree_cmp t ts → IsBelow unlike_cmp (x, t) (map (λ u. (x, u)) ts)
below_same x t [] h = tt
below_same x t (u ∷ ts) h = (by_term x t u h.0, below_same x t ts h.1)

-- a set before the sets of greater names
set_ascends : (x : List ℕ) (ts : List Tree) (ms : List Mismatch) → IsAscending tree_cmp ts → IsBelow name_cmp x (map (λ m. m.0) ms)
    → IsAscending unlike_cmp (unlike ms) → IsAscending unlike_cmp (map (λ t. (x, t)) ts ++ unlike ms)
set_ascends x [] ms a h k = k
set_ascends x (t ∷ ts) ms a h k = (
  below_append unlike_cmp (x, t) (map (λ u. (x, u)) ts) (unlike ms) (below_same x t ts a.0) (below_sets (x, t) ms h),
  set_ascends x ts ms a.1 h k,
)

-- a set ascends
term_set-ascends : (ts : List Tree) → IsTermSet ts → IsAscending tree_cmp ts
term_set-ascends [] h = absurd h
term_set-ascends (t ∷ ts) h = h

-- so sets ascend, as one list
pub unlike-ascends : (ms : List Mismatch) → AreSets ms → IsAscending unlike_cmp (unlike ms)
unlike-ascends [] a = tt
unlike-ascends (m ∷ ms) a = set_ascends m.0 m.1 ms (term_set-ascends m.1 a.1.0) a.0.0 (unlike-ascends ms (a.0.1, a.1.1))

-- ---- a list as sets

-- a term with its name before sets: in the first of these where this has the name
abbrev put_first : Unlike → List Mismatch → List Mismatch
put_first u [] = (u.0, u.1 ∷ []) ∷ []
put_first u (m ∷ ms) = if bytes_eq u.0 m.0 then (m.0, u.1 ∷ m.1) ∷ ms else (u.0, u.1 ∷ []) ∷ m ∷ ms

-- the sets of terms with their names
abbrev pub sets_in : List Unlike → List Mismatch
sets_in [] = []
sets_in (u ∷ us) = put_first u (sets_in us)

-- the term comes before the others
put_first-unlike : (u : Unlike) (ms : List Mismatch) → unlike (put_first u ms) ≡ u ∷ unlike ms
put_first-unlike u [] = refl
put_first-unlike u (m ∷ ms) = by_test (bytes_eq u.0 m.0) refl
  where
    by_test : (b : Bool) → bytes_eq u.0 m.0 ≡ b
        → unlike (if b then (m.0, u.1 ∷ m.1) ∷ ms else (u.0, u.1 ∷ []) ∷ m ∷ ms) ≡ u ∷ unlike (m ∷ ms)
    by_test true e = let d : m.0 ≡ u.0 = sym ((bytes_decides u.0 m.0).0 e) in λ i. (d i, u.1) ∷ unlike (m ∷ ms)
    by_test false e = refl

-- so the list of the sets is the list itself
pub unlike-sets_in : (us : List Unlike) → unlike (sets_in us) ≡ us
unlike-sets_in [] = refl
unlike-sets_in (u ∷ us) = put_first-unlike u (sets_in us) ∙ ap (λ vs. u ∷ vs) (unlike-sets_in us)

-- ---- the sets of a list of sets

-- the first of these sets is of another name
abbrev IsOther : List ℕ → List Mismatch → Type 0
IsOther x [] = Unit {0}
IsOther x (m ∷ ms) = bytes_eq x m.0 ≡ false

-- then one term is a set before them
put_first-other : (x : List ℕ) (t : Tree) (ms : List Mismatch) → IsOther x ms → put_first (x, t) ms ≡ (x, t ∷ []) ∷ ms
put_first-other x t [] h = refl
put_first-other x t (m ∷ ms) h = ap (λ b. if b then (m.0, t ∷ m.1) ∷ ms else (x, t ∷ []) ∷ m ∷ ms) h

-- and one more comes into it
put_first-same : (x : List ℕ) (t : Tree) (ts : List Tree) (ms : List Mismatch) → put_first (x, t) ((x, ts) ∷ ms) ≡ (x, t ∷ ts) ∷ ms
put_first-same x t ts ms = ap (λ b. if b then (x, t ∷ ts) ∷ ms else (x, t ∷ []) ∷ (x, ts) ∷ ms) ((bytes_decides x x).1 refl)

-- so a set that isn't empty stays one, before sets that do
sets_in-set : (x : List ℕ) (t : Tree) (ts : List Tree) (ms : List Mismatch) → IsOther x ms → sets_in (unlike ms) ≡ ms
    → sets_in (map (λ u. (x, u)) (t ∷ ts) ++ unlike ms) ≡ (x, t ∷ ts) ∷ ms
sets_in-set x t [] ms h e = ap (put_first (x, t)) e ∙ put_first-other x t ms h
sets_in-set x t (u ∷ ts) ms h e = ap (put_first (x, t)) (sets_in-set x u ts ms h e) ∙ put_first-same x t (u ∷ ts) ms

-- names that ascend differ
less-differ : (x y : List ℕ) → name_cmp x y ≡ Less → bytes_eq x y ≡ false
less-differ x y h = by_test (bytes_eq x y) refl
  where
    by_test : (b : Bool) → bytes_eq x y ≡ b → b ≡ false
    by_test false e = refl
    by_test true e =
        let tie : name_cmp x y ≡ Equal = ap (λ (z : List ℕ). name_cmp z y) ((bytes_decides x y).0 e) ∙ tied_itself name_cmp-total y in absurd cc

-- so what is below the names of sets is another name
below-other : (x : List ℕ) (ms : List Mismatch) → IsBelow name_cmp x (map (λ m. m.0) ms) → IsOther x ms
below-other x [] h = tt
below-other x (m ∷ ms) h = less-differ x m.0 h.0

-- sets are the sets of their list
pub sets_in-unlike : (ms : List Mismatch) → AreSets ms → sets_in (unlike ms) ≡ ms
sets_in-unlike [] a = refl
sets_in-unlike (m ∷ ms) a = by_terms m.0 m.1 a.1.0 a.0.0 (sets_in-unlike ms (a.0.1, a.1.1))
  where
    by_terms : (x : List ℕ) (ts : List Tree) → IsTermSet ts → IsBelow name_cmp x (map (λ n. n.0) ms) → sets_in (unlike ms) ≡ ms
        → sets_in (map (λ t. (x, t)) ts ++ unlike ms) ≡ (x, ts) ∷ ms
    by_terms x [] h b e = absurd h
    by_terms x (t ∷ ts) h b e = sets_in-set x t ts ms (below-other x ms b) e

-- ---- the sets of an ascending list

-- what the first term is below to have its sets ascend
abbrev IsBefore : Unlike → List Mismatch → Type 0
IsBefore u [] = Unit {0}
IsBefore u (m ∷ ms) = IsBelow unlike_cmp u (map (λ t. (m.0, t)) m.1 ++ unlike ms)

-- what is below a name in this order is below the name or is of it
name_or_same : (u : Unlike) (x : List ℕ) (t : Tree) → unlike_cmp u (x, t) ≡ Less → bytes_eq u.0 x ≡ false → name_cmp u.0 x ≡ Less
name_or_same u x t h n = by_order (name_cmp u.0 x) refl h
  where
    by_order : (o : Ordering) → name_cmp u.0 x ≡ o → ordering_then o (tree_cmp u.1 t) ≡ Less → o ≡ Less
    by_order Less e k = refl
    by_order Equal e k = let b : bytes_eq u.0 x ≡ true = (bytes_decides u.0 x).1 (name_cmp-tells u.0 x e) in absurd cc
    by_order Greater e k = absurd cc

-- below a name is below all that it is below
name_below : (x y : List ℕ) (ys : List (List ℕ)) → name_cmp x y ≡ Less → IsBelow name_cmp y ys → IsBelow name_cmp x ys
name_below x y [] l h = tt
name_below x y (z ∷ ys) l h = (name_cmp-total.trans x y z l h.0, name_below x y ys l h.1)

-- under one name, the terms
term_below : (x : List ℕ) (t : Tree) (ts : List Tree) (us : List Unlike) → IsBelow unlike_cmp (x, t) (map (λ u. (x, u)) ts ++ us) → IsBelow tree_cmp t ts
term_below x t [] us h = tt
term_below x t (u ∷ ts) us h = (same (tree_cmp t u) refl h.0, term_below x t ts us h.1)
  where
    same : (o : Ordering) → tree_cmp t u ≡ o → ordering_then (name_cmp x x) (tree_cmp t u) ≡ Less → o ≡ Less
    same o e k = sym e ∙ sym (ap (λ r. ordering_then r (tree_cmp t u)) (tied_itself name_cmp-total x)) ∙ k

-- a set with a lower term in front
lower_first : (t : Tree) (ts : List Tree) → IsTermSet ts → IsBelow tree_cmp t ts → IsTermSet (t ∷ ts)
lower_first t [] s h = absurd s
lower_first t (u ∷ ts) s h = (h, s)

-- sets with a lower term in front
put_first-sets : (u : Unlike) (ms : List Mismatch) → AreSets ms → IsBefore u ms → AreSets (put_first u ms)
put_first-sets u [] a h = ((tt, tt), ((tt, tt), tt))
put_first-sets u (m ∷ ms) a h = by_test (bytes_eq u.0 m.0) refl
  where
    same_name : bytes_eq u.0 m.0 ≡ true → IsBelow tree_cmp u.1 m.1
    same_name e =
        term_below m.0 u.1 m.1 (unlike ms)
        (subst (λ (x : List ℕ). IsBelow unlike_cmp (x, u.1) (map (λ t. (m.0, t)) m.1 ++ unlike ms)) ((bytes_decides u.0 m.0).0 e) h)

    lower_name : (ts : List Tree) → IsTermSet ts → IsBelow unlike_cmp u (map (λ t. (m.0, t)) ts ++ unlike ms) → bytes_eq u.0 m.0 ≡ false
        → name_cmp u.0 m.0 ≡ Less
    lower_name [] s k n = absurd s
    lower_name (t ∷ ts) s k n = name_or_same u m.0 t k.0 n

    by_test : (b : Bool) → bytes_eq u.0 m.0 ≡ b → AreSets (if b then (m.0, u.1 ∷ m.1) ∷ ms else (u.0, u.1 ∷ []) ∷ m ∷ ms)
    by_test true e = (a.0, (lower_first u.1 m.1 a.1.0 (same_name e), a.1.1))
    by_test false e =
        let l : name_cmp u.0 m.0 ≡ Less = lower_name m.1 a.1.0 h e in
        (((l, name_below u.0 m.0 (map (λ n. n.0) ms) l a.0.0), a.0), ((tt, tt), a.1))

-- what is below a list is before its sets
before-sets_in : (u : Unlike) (us : List Unlike) → IsBelow unlike_cmp u us → IsBefore u (sets_in us)
before-sets_in u us h = by_sets (sets_in us) (subst (λ (vs : List Unlike). IsBelow unlike_cmp u vs) (sym (unlike-sets_in us)) h)
  where
    by_sets : (ms : List Mismatch) → IsBelow unlike_cmp u (unlike ms) → IsBefore u ms
    by_sets [] k = tt
    by_sets (m ∷ ms) k = k

-- so an ascending list is one of sets
pub sets_in-are_sets : (us : List Unlike) → IsAscending unlike_cmp us → AreSets (sets_in us)
sets_in-are_sets [] a = (tt, tt)
sets_in-are_sets (u ∷ us) a = put_first-sets u (sets_in us) (sets_in-are_sets us a.1) (before-sets_in u us a.0)
