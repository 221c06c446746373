-- Loops that make rows, one after the other.
use Rattle.std.proofs.Common.{◌≡◌, ℕ, ◌+◌, ◌<◌, ◌≤◌, ◌⊎◌, inl, inr, List, [], ◌∷◌, ◌++◌, length, Some, Vec, refl, sym, ap, subst, arith}
use Rattle.std.proofs.Math.Nat.{eq-or-lt_of_le}
use Rattle.std.proofs.lemmas.Bool.{cases_lt}
use Rattle.std.specs.declared.alloc.Global.{Global}
use Rattle.rdx_term.specs.Tree.{Tree}
use Rattle.rdx_term.specs.declared.term.Term.{Term}
use Rattle.rdx_lang.specs.Collecting.{Adds, Combined}
use Rattle.rdx_lang.specs.Members.{In}
use Rattle.rdx_lang.proofs.Collecting.{In_along, no_member}
use Rattle.rdx_enum.specs.Inside.Ways.{joined}
use Rattle.rdx_enum.specs.Inside.Rows.{Rows, row_of, row_at, HaveNodes, AreSized, Keeps, CombinesAt, Combines, Comes, HasOnly, AreCombined, AreRepeated}
use Rattle.rdx_enum.specs.declared.way.Way.{Way}
use Rattle.rdx_enum.proofs.RowLaws.{length-more, row_at-before, row_at-last, row_at-none}
use Rattle.rdx_enum.proofs.Sizes.{sized_nil, sized_more, only_old}

-- what holds of each number below m, and of m, holds of each below m + 1
pub one_more : (Q : ℕ → Type 0) (m : ℕ) → ((i : ℕ) → i < m → Q i) → Q m → (i : ℕ) → i < m + 1 → Q i
one_more Q m f q i h = go (eq-or-lt_of_le (omega arith))
  where
    go : (i ≡ m) ⊎ (i < m) → Q i
    go (inl e) = subst Q (sym e) q
    go (inr l) = f i l

-- what has all of an equal row has all of the row
pub keeps_to : (old : List Tree) (out out' : List Tree) → out ≡ out' → Keeps old out → Keeps old out'
keeps_to old out out' e k x h = In_along out out' e (k x h)

-- first what the one list keeps, and then what the other does
pub keeps_then : (xs ys zs : List Tree) → Keeps xs ys → Keeps ys zs → Keeps xs zs
keeps_then xs ys zs f g x h = g x (f x h)

-- what is added to a list leaves what it has
pub adds_keeps : (R : Tree → Type 0) (old out : List Tree) → Adds R old out → Keeps old out
adds_keeps R old out a x h = (a x).1 (inl h)

-- and has what comes of two members
pub adds_pairs : (w : Way) (xs ys old out : List Tree) (t u x : Tree) → Adds (Combined (λ t u x. joined w t u ≡ Some x) xs ys) old out → In t xs → In u ys → joined w t u ≡ Some x → In x out
adds_pairs w xs ys old out t u x a h g k = (a x).1 (inr (record { from = t; among = h; by = record { from = u; among = g; by = k } }))

-- and no other
pub adds_only : (w : Way) (heads tails : Rows) (j i total : ℕ) (xs ys old out : List Tree) → xs ≡ row_at heads j → ys ≡ row_at tails i → j + i ≡ total
    → Adds (Combined (λ t u x. joined w t u ≡ Some x) xs ys) old out → HasOnly w heads tails total old out
adds_only w heads tails j i total xs ys old out e f s a x h = go ((a x).0 h)
  where
    go : In x old ⊎ Combined (λ t u x. joined w t u ≡ Some x) xs ys x → In x old ⊎ Comes w heads tails total x
    go (inl k) = inl k
    go (inr k) = inr (record {
      first = k.from;
      second = k.by.from;
      before = j;
      behind = i;
      together = s;
      head = In_along xs (row_at heads j) e k.among;
      tail = In_along ys (row_at tails i) f k.by.among;
      gives = k.by.by;
    })

-- first what the one list has only, and then what the other has
pub only_then : (w : Way) (heads tails : Rows) (total : ℕ) (xs ys zs : List Tree) → HasOnly w heads tails total xs ys → HasOnly w heads tails total ys zs → HasOnly w heads tails total xs zs
only_then w heads tails total xs ys zs f g x h = go (g x h)
  where
    go : In x ys ⊎ Comes w heads tails total x → In x xs ⊎ Comes w heads tails total x
    go (inl k) = f x k
    go (inr k) = inr k

-- a row that begins with what base has keeps it to its end
pub row_kept : (base first out : List Tree) (listed : List Tree) → first ≡ base → Keeps first out → ((x : Tree) → In x out → In x listed) → Keeps base listed
row_kept base first out listed e k f x h = f x (k x (In_along base first (sym e) h))

module _ (w : Way) (heads tails : Rows) (from total : ℕ) where
  -- the levels before j are there
  abbrev pub Levels : ℕ → List Tree → Type 0
  Levels j out = (k : ℕ) → from ≤ k → k < j → CombinesAt w heads tails k total out

  -- one level more
  pub levels_next : (j : ℕ) (old out : List Tree) → Levels j old → Keeps old out → CombinesAt w heads tails j total out → Levels (j + 1) out
  levels_next j old out f k c i l h = go (eq-or-lt_of_le (omega arith))
    where
      go : (i ≡ j) ⊎ (i < j) → CombinesAt w heads tails i total out
      go (inl e) = subst (λ n. CombinesAt w heads tails n total out) (sym e) c
      go (inr b) = λ a t u x e g d made. k x (f i l b a t u x e g d made)

  -- all levels
  pub levels_all : (j : ℕ) (out : List Tree) → length heads ≤ j → Levels j out → Combines w heads tails from total out
  levels_all j out l f k h i t u x e g d made = go (cases_lt k j)
    where
      go : (k < j) ⊎ (j ≤ k) → In x out
      go (inl b) = f k h b i t u x e g d made
      go (inr b) = no_member (In_along (row_at heads k) [] (row_at-none heads k (omega arith)) g)

module _ (w : Way) (more : ℕ) (base heads tails : Rows) where
  -- the rows before m are as they should be
  pub record CombinedBelow (m : ℕ) (rows : Rows) : Type 0 where
    pub len : length rows ≡ m
    pub kept : (i : ℕ) → i < m → Keeps (row_at base i) (row_at rows i)
    pub made : (i : ℕ) → i < m → Combines w heads tails 0 (i + more) (row_at rows i)
    pub only : (i : ℕ) → i < m → HasOnly w heads tails (i + more) (row_at base i) (row_at rows i)
    pub sized : AreSized rows

  pub combined_start : (rows : Rows) → rows ≡ [] → CombinedBelow 0 rows
  combined_start rows e = record {
    len = ap length e;
    kept = λ i h. absurd (omega arith);
    made = λ i h. absurd (omega arith);
    only = λ i h. absurd (omega arith);
    sized = sized_nil rows e;
  }

  pub combined_next : (m : ℕ) (rows rows' : Rows) (r : Vec Term Global) → rows' ≡ rows ++ r ∷ [] → CombinedBelow m rows → Keeps (row_at base m) (row_of r)
      → Combines w heads tails 0 (m + more) (row_of r) → HasOnly w heads tails (m + more) (row_at base m) (row_of r) → HaveNodes m (row_of r) → CombinedBelow (m + 1) rows'
  combined_next m rows rows' r e b k c o s = subst (CombinedBelow (m + 1)) (sym e) (record {
    len = let l : length rows ≡ m = b.len in grown_length rows r m l;
    kept = one_more (λ i. Keeps (row_at base i) (row_at (rows ++ r ∷ []) i)) m
        (λ i h. subst (Keeps (row_at base i)) (sym (old_row i h)) (b.kept i h))
        (subst (Keeps (row_at base m)) (sym new_row) k);
    made = one_more (λ i. Combines w heads tails 0 (i + more) (row_at (rows ++ r ∷ []) i)) m
        (λ i h. subst (Combines w heads tails 0 (i + more)) (sym (old_row i h)) (b.made i h))
        (subst (Combines w heads tails 0 (m + more)) (sym new_row) c);
    only = one_more (λ i. HasOnly w heads tails (i + more) (row_at base i) (row_at (rows ++ r ∷ []) i)) m
        (λ i h. subst (HasOnly w heads tails (i + more) (row_at base i)) (sym (old_row i h)) (b.only i h))
        (subst (HasOnly w heads tails (m + more) (row_at base m)) (sym new_row) o);
    sized = sized_more m rows r b.len b.sized s;
  })
    where
      grown_length : (rows : Rows) (r : Vec Term Global) (m : ℕ) → length rows ≡ m → length (rows ++ r ∷ []) ≡ m + 1
      grown_length rows r m l = let k : length (rows ++ r ∷ []) ≡ length rows + 1 = length-more rows r in omega arith

      old_row : (i : ℕ) → i < m → row_at (rows ++ r ∷ []) i ≡ row_at rows i
      old_row i h = let l : length rows ≡ m = b.len in row_at-before rows r i (omega arith)

      new_row : row_at (rows ++ r ∷ []) m ≡ row_of r
      new_row = row_at-last rows r m (sym b.len)

  pub combined_end : (n m : ℕ) (rows : Rows) → n < m → CombinedBelow m rows → AreCombined w more base heads tails n rows
  combined_end n m rows l b = record {
    kept = λ i h. b.kept i (omega arith);
    made = λ i h. b.made i (omega arith);
    only = λ i x h. only_at i x h (cases_lt i m);
    sized = b.sized;
  }
    where
      only_at : (i : ℕ) (x : Tree) → In x (row_at rows i) → (i < m) ⊎ (m ≤ i) → In x (row_at base i) ⊎ Comes w heads tails (i + more) x
      only_at i x h (inl k) = b.only i k x h
      only_at i x h (inr k) = let e : length rows ≡ m = b.len in no_member (In_along (row_at rows i) [] (row_at-none rows i (omega arith)) h)

module _ (w : Way) (base heads : Rows) where
  -- the rows before m are as they should be
  pub record RepeatedBelow (m : ℕ) (rows : Rows) : Type 0 where
    pub len : length rows ≡ m
    pub kept : (i : ℕ) → i < m → Keeps (row_at base i) (row_at rows i)
    pub made : (i : ℕ) → i < m → Combines w heads rows 1 i (row_at rows i)
    pub ones : (i : ℕ) → i < m → i ≡ 1 → Keeps (row_at rows i) (row_at base i)
    pub sized : AreSized rows

  -- what is combined with the rows before is combined with more of them
  tails_more : (rows : Rows) (r : Vec Term Global) (i : ℕ) (out : List Tree) → i ≤ length rows → Combines w heads rows 1 i out → Combines w heads (rows ++ r ∷ []) 1 i out
  tails_more rows r i out l c j f k t u x e h g made =
      c j f k t u x e h (In_along (row_at (rows ++ r ∷ []) k) (row_at rows k) (row_at-before rows r k (omega arith)) g) made

  pub repeated_start : (rows : Rows) → rows ≡ [] → RepeatedBelow 0 rows
  repeated_start rows e = record {
    len = ap length e;
    kept = λ i h. absurd (omega arith);
    made = λ i h. absurd (omega arith);
    ones = λ i h. absurd (omega arith);
    sized = sized_nil rows e;
  }

  pub repeated_next : (m : ℕ) (rows rows' : Rows) (r : Vec Term Global) → rows' ≡ rows ++ r ∷ [] → RepeatedBelow m rows → Keeps (row_at base m) (row_of r)
      → Combines w heads rows 1 m (row_of r) → AreSized heads → HasOnly w heads rows m (row_at base m) (row_of r) → HaveNodes m (row_of r) → RepeatedBelow (m + 1) rows'
  repeated_next m rows rows' r e b k c a o s = subst (RepeatedBelow (m + 1)) (sym e) (record {
    len = let l : length rows ≡ m = b.len in grown_length rows r m l;
    kept = one_more (λ i. Keeps (row_at base i) (row_at (rows ++ r ∷ []) i)) m
        (λ i h. subst (Keeps (row_at base i)) (sym (old_row i h)) (b.kept i h))
        (subst (Keeps (row_at base m)) (sym new_row) k);
    made = one_more (λ i. Combines w heads (rows ++ r ∷ []) 1 i (row_at (rows ++ r ∷ []) i)) m
        (λ i h. subst (Combines w heads (rows ++ r ∷ []) 1 i) (sym (old_row i h)) (tails_more rows r i (row_at rows i) (old_index i h) (b.made i h)))
        (subst (Combines w heads (rows ++ r ∷ []) 1 m) (sym new_row) (tails_more rows r m (row_of r) same_index c));
    ones = one_more (λ i. i ≡ 1 → Keeps (row_at (rows ++ r ∷ []) i) (row_at base i)) m
        (λ i h f. subst (λ (row : List Tree). Keeps row (row_at base i)) (sym (old_row i h)) (b.ones i h f))
        (λ f. subst (λ (row : List Tree). Keeps row (row_at base m)) (sym new_row) (only_old w heads rows a b.sized m (row_at base m) (row_of r) (omega arith) o));
    sized = sized_more m rows r b.len b.sized s;
  })
    where
      grown_length : (rows : Rows) (r : Vec Term Global) (m : ℕ) → length rows ≡ m → length (rows ++ r ∷ []) ≡ m + 1
      grown_length rows r m l = let k : length (rows ++ r ∷ []) ≡ length rows + 1 = length-more rows r in omega arith

      old_index : (i : ℕ) → i < m → i ≤ length rows
      old_index i h = let l : length rows ≡ m = b.len in omega arith

      same_index : m ≤ length rows
      same_index = let l : length rows ≡ m = b.len in omega arith

      old_row : (i : ℕ) → i < m → row_at (rows ++ r ∷ []) i ≡ row_at rows i
      old_row i h = let l : length rows ≡ m = b.len in row_at-before rows r i (omega arith)

      new_row : row_at (rows ++ r ∷ []) m ≡ row_of r
      new_row = row_at-last rows r m (sym b.len)

  pub repeated_end : (n m : ℕ) (rows : Rows) → n < m → RepeatedBelow m rows → AreRepeated w base heads n rows
  repeated_end n m rows l b = record {
    kept = λ i h. b.kept i (omega arith);
    made = λ i h. b.made i (omega arith);
    ones = λ x h. ones_at x h (cases_lt 1 m);
    sized = b.sized;
  }
    where
      ones_at : (x : Tree) → In x (row_at rows 1) → (1 < m) ⊎ (m ≤ 1) → In x (row_at base 1)
      ones_at x h (inl k) = b.ones 1 k refl x h
      ones_at x h (inr k) = let e : length rows ≡ m = b.len in no_member (In_along (row_at rows 1) [] (row_at-none rows 1 (omega arith)) h)

-- the same of equal rows
pub combined_at : (w : Way) (more n : ℕ) (base base' heads heads' tails tails' rows : Rows) → base ≡ base' → heads ≡ heads' → tails ≡ tails' → AreCombined w more base heads tails n rows → AreCombined w more base' heads' tails' n rows
combined_at w more n base base' heads heads' tails tails' rows e f g h =
    subst (λ (b : Rows). AreCombined w more b heads' tails' n rows) e (subst (λ (x : Rows). AreCombined w more base x tails' n rows) f (subst (λ (y : Rows). AreCombined w more base heads y n rows) g h))

pub repeated_at : (w : Way) (n : ℕ) (base base' heads heads' rows : Rows) → base ≡ base' → heads ≡ heads' → AreRepeated w base heads n rows → AreRepeated w base' heads' n rows
repeated_at w n base base' heads heads' rows e f h = subst (λ (b : Rows). AreRepeated w b heads' n rows) e (subst (λ (x : Rows). AreRepeated w base x n rows) f h)
