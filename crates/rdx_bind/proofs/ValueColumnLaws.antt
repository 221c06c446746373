-- The columns of bindings of the same names are their collection.
use Rattle.std.proofs.Common.{◌≡◌, ℕ, zero, suc, ◌+◌, ◌<◌, List, [], ◌∷◌, ◌++◌, append_assoc, length, drop, get_or, map, refl, sym, ◌∙◌, ap, subst, arith, add-one}
use Rattle.rdx_lang.specs.Ascending.{IsAscending}
use Rattle.rdx_lang.specs.Bindings.{Value, many, values, Pair, Binding, pair_names, bound_names, name_cmp, HaveAscendingNames}
use Rattle.rdx_lang.specs.Collections.{AreValuesOf, of_none, of_more, IsSequenceOf, AreSetsOf, IsCollection}
use Rattle.rdx_lang.specs.Members.{In, here, there}
use Rattle.rdx_bind.specs.Inside.ValueColumns.{pair_at, column, columns_from}

-- ---- places

-- at a place of a list the rest begins with what is there
pub rest_from : {A : Type 0} (xs : List A) (i : ℕ) (x : A) → i < length xs → x ≡ get_or xs i x → drop i xs ≡ x ∷ drop (i + 1) xs
rest_from [] i x h e = absurd (omega arith)
rest_from (y ∷ ys) zero x h e = ap (λ z. z ∷ ys) (sym e)
rest_from (y ∷ ys) (suc i) x h e = let k = rest_from ys i x (omega arith) e in rw add-one (rw add-one at k)

-- behind what a rest begins with is the rest one place on
rest_behind : {A : Type 0} (xs ys : List A) (i : ℕ) (y : A) → drop i xs ≡ y ∷ ys → drop (i + 1) xs ≡ ys
rest_behind [] ys zero y e = absurd cc
rest_behind [] ys (suc i) y e = absurd cc
rest_behind (x ∷ xs) ys zero y e = cc
rest_behind (x ∷ xs) ys (suc i) y e = let k = rest_behind xs ys i y e in rw add-one (rw add-one at k)

-- there are as many pairs as names
as_many_pairs : (ps : List Pair) → length (pair_names ps) ≡ length ps
as_many_pairs [] = refl
as_many_pairs (p ∷ ps) = ap suc (as_many_pairs ps)

-- so there are of a binding
pub as_many_names : (b : Binding) → length (bound_names b) ≡ length b.pairs
as_many_names b = as_many_pairs b.pairs

-- so a place of a name is one of a pair
pub has_place : (b : Binding) (xs : List (List ℕ)) (n : ℕ) → bound_names b ≡ xs → n < length xs → n < length b.pairs
has_place b xs n e h = let k : length xs ≡ length b.pairs = ap length (sym e) ∙ as_many_names b in subst (λ (m : ℕ). n < m) k h

-- what is at a place does not depend on what stands for none
pub pair_read : {A : Type 0} (f : A → Pair) (xs : List A) (n : ℕ) (x : A) → n < length xs → x ≡ get_or xs n x → pair_at n (map f xs) ≡ f x
pair_read f [] n x h e = absurd (omega arith)
pair_read f (y ∷ ys) zero x h e = ap f (sym e)
pair_read f (y ∷ ys) (suc n) x h e = pair_read f ys n x (omega arith) e

-- the image of what is at a place is among the images
pub in_images : {A B : Type 0} (f : A → B) (xs : List A) (n : ℕ) (x : A) → n < length xs → x ≡ get_or xs n x → In (f x) (map f xs)
in_images f [] n x h e = absurd (omega arith)
in_images f (y ∷ ys) zero x h e = here (ap f e)
in_images f (y ∷ ys) (suc n) x h e = there (in_images f ys n x (omega arith) e)

-- one moves from the beginning of the rest to the end of what is done
pub one_done : {A : Type 0} (done done' rest more all : List A) (x : A) → done' ≡ done ++ x ∷ [] → rest ≡ x ∷ more → done ++ rest ≡ all → done' ++ more ≡ all
one_done done done' rest more all x e f g =
    ap (λ (d : List _). d ++ more) e ∙ append_assoc done (x ∷ []) more ∙ ap (λ (r : List _). done ++ r) (sym f) ∙ g

-- ---- columns

-- one column more
pub columns-next : (xs : List (List ℕ)) (bs : List Binding) (i : ℕ) (x : List ℕ) → i < length xs → x ≡ get_or xs i x
    → columns_from i (drop i xs) bs ≡ (x, many (values (column i bs))) ∷ columns_from (i + 1) (drop (i + 1) xs) bs
columns-next xs bs i x h e = ap (λ ys. columns_from i ys bs) (rest_from xs i x h e)

-- the names of the columns are the names
pub columns-names : (n : ℕ) (xs : List (List ℕ)) (bs : List Binding) → pair_names (columns_from n xs bs) ≡ xs
columns-names n [] bs = refl
columns-names n (x ∷ xs) bs = ap (λ ys. x ∷ ys) (columns-names (n + 1) xs bs)

-- so they ascend where the names do
pub columns_ascend : (xs : List (List ℕ)) (bs : List Binding) → IsAscending name_cmp xs → HaveAscendingNames (columns_from 0 xs bs)
columns_ascend xs bs h = subst (IsAscending name_cmp) (sym (columns-names 0 xs bs)) h

-- pairs that have the name x at the n-th place have it with the value there
at_place : (ps : List Pair) (n : ℕ) (x : List ℕ) (xs : List (List ℕ)) → drop n (pair_names ps) ≡ x ∷ xs → In (x, (pair_at n ps).1) ps
at_place [] zero x xs e = absurd cc
at_place [] (suc n) x xs e = absurd cc
at_place (p ∷ ps) zero x xs e = let f : p.0 ≡ x = cc in here (λ i. (sym f i, p.1))
at_place (p ∷ ps) (suc n) x xs e = there (at_place ps n x xs e)

-- so a column has what its name stands for in each of the bindings
in_column : (bs : List Binding) (n : ℕ) (x : List ℕ) (xs : List (List ℕ)) → ((b : Binding) → In b bs → drop n (bound_names b) ≡ x ∷ xs) → AreValuesOf x bs (values (column n bs))
in_column [] n x xs h = of_none
in_column (b ∷ bs) n x xs h = of_more (at_place b.pairs n x xs (h b (here refl))) (in_column bs n x xs (λ c i. h c (there i)))

-- and each pair of the columns is a name with such a sequence
in_columns : (ys : List (List ℕ)) (n : ℕ) (bs : List Binding) → ((b : Binding) → In b bs → drop n (bound_names b) ≡ ys)
    → (x : List ℕ) (v : Value) → In (x, v) (columns_from n ys bs) → IsSequenceOf x bs v
in_columns [] n bs h x v i = elim i [ ]
in_columns (y ∷ ys) n bs h x v (here e) = record {
  sequence = values (column n bs);
  same = ap (λ (p : Pair). p.1) e;
  values = subst (λ (z : List ℕ). AreValuesOf z bs (values (column n bs))) (sym (ap (λ (p : Pair). p.0) e)) (in_column bs n y ys h);
}
in_columns (y ∷ ys) n bs h x v (there i) = in_columns ys (n + 1) bs (λ b j. rest_behind (bound_names b) ys n y (h b j)) x v i

-- the columns of bindings of these names, with their sets, are their collection
pub columns_collect : (xs : List (List ℕ)) (bs : List Binding) (c : Binding) → c.pairs ≡ columns_from 0 xs bs → AreSetsOf bs c.differs
    → ((b : Binding) → In b bs → bound_names b ≡ xs) → IsCollection xs bs c
columns_collect xs bs c e s h = record {
  names = ap pair_names e ∙ columns-names 0 xs bs;
  sequences = λ x v i. in_columns xs 0 bs h x v (subst (λ (ps : List Pair). In (x, v) ps) e i);
  differs = s;
}
