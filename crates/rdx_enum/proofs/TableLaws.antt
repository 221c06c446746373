-- Tables with one row more, and what they know.
use Rattle.std.proofs.Common.{◌≡◌, ℕ, zero, suc, ◌+◌, ◌<◌, ◌≤◌, ◌⊎◌, inl, inr, List, [], ◌∷◌, ◌++◌, length, get_or, set, take, map, Vec, refl, sym, ◌∙◌, ap, subst, arith}
use Rattle.std.proofs.Math.Nat.{eq-or-lt_of_le}
use Rattle.std.proofs.lemmas.Bool.{cases_lt}
use Rattle.std.proofs.lemmas.List.{take_all, take_more}
use Rattle.std.specs.declared.alloc.Global.{Global}
use Rattle.rdx_term.specs.Tree.{Tree, tree_nodes}
use Rattle.rdx_term.specs.declared.term.Term.{Term}
use Rattle.rdx_lang.specs.Members.{In, here, there}
use Rattle.rdx_lang.specs.Patterns.{nt, Language}
use Rattle.rdx_lang.specs.declared.pattern.Ref.{Ref}
use Rattle.rdx_lang.proofs.Collecting.{In_along, no_member, only}
use Rattle.rdx_lang.proofs.MemberLaws.{in-append, append-left, append-right}
use Rattle.rdx_enum.specs.declared.tables.Table.{Table}
use Rattle.rdx_enum.specs.Inside.Growing.{IsRow}
use Rattle.rdx_enum.specs.Inside.Rows.{Rows, row_of, row_at}
use Rattle.rdx_enum.specs.Inside.Tables.{table_name, sizes, IsTable, AreTables, IsThere, AreFilled}
use Rattle.rdx_enum.specs.Pool.{IsOver}
use Rattle.rdx_enum.specs.UpTo.{MatchesSome}
use Rattle.rdx_enum.proofs.RowLaws.{length-more, row_at-before, row_at-last, row_at-none}

-- ---- lists

-- what stands at a place is a member
pub in_at : (ts : List Table) (i : ℕ) (t : Table) → i < length ts → t ≡ get_or ts i t → In t ts
in_at [] i t l e = absurd (omega arith)
in_at (u ∷ us) zero t l e = here e
in_at (u ∷ us) (suc i) t l e = there (in_at us i t (omega arith) e)

-- what is there after a write was there or was written
in_set : (ts : List Table) (i : ℕ) (a t : Table) → In t (set ts i a) → In t ts ⊎ (t ≡ a)
in_set [] i a t h = inl h
in_set (u ∷ us) zero a t (here e) = inr e
in_set (u ∷ us) zero a t (there h) = inl (there h)
in_set (u ∷ us) (suc i) a t (here e) = inl (here e)
in_set (u ∷ us) (suc i) a t (there h) = go (in_set us i a t h)
  where
    go : In t us ⊎ (t ≡ a) → In t (u ∷ us) ⊎ (t ≡ a)
    go (inl k) = inl (there k)
    go (inr k) = inr k

-- a table of the same name leaves the names
pub names_set : (ts : List Table) (i : ℕ) (a t : Table) → i < length ts → t ≡ get_or ts i t → a.name ≡ t.name → map table_name (set ts i a) ≡ map table_name ts
names_set [] i a t l e d = refl
names_set (u ∷ us) zero a t l e d = ap (λ (x : Ref). x ∷ map table_name us) (d ∙ ap table_name e)
names_set (u ∷ us) (suc i) a t l e d = ap (λ (xs : List Ref). u.name ∷ xs) (names_set us i a t (omega arith) e d)

pub in_names : (ts : List Table) (i : ℕ) (t : Table) → i < length ts → t ≡ get_or ts i t → In t.name (map table_name ts)
in_names [] i t l e = absurd (omega arith)
in_names (u ∷ us) zero t l e = here (ap table_name e)
in_names (u ∷ us) (suc i) t l e = there (in_names us i t (omega arith) e)

-- two that stand at a place are one
pub both_at : (ts : List Table) (i : ℕ) (t u : Table) → i < length ts → t ≡ get_or ts i t → u ≡ get_or ts i u → t ≡ u
both_at [] i t u l e f = absurd (omega arith)
both_at (v ∷ vs) zero t u l e f = e ∙ sym f
both_at (v ∷ vs) (suc i) t u l e f = both_at vs i t u (omega arith) e f

-- where the table at place i has another name, and so have those before it, none up to it has the name
pub none_yet : (ts : List Table) (i : ℕ) (a : Table) (x : Ref) → i < length ts → a ≡ get_or ts i a → (a.name ≡ x → ⊥) → ((t : Table) → In t (take i ts) → t.name ≡ x → ⊥)
    → (t : Table) → In t (take (i + 1) ts) → t.name ≡ x → ⊥
none_yet ts i a x l e n f t h d = go (in-append (take i ts) (a ∷ []) t (In_along (take (i + 1) ts) (take i ts ++ a ∷ []) (take_more ts i a l ∙ ap (λ (b : Table). take i ts ++ b ∷ []) (sym e)) h))
  where
    go : In t (take i ts) ⊎ In t (a ∷ []) → ⊥
    go (inl k) = f t k d
    go (inr k) = n (sym (ap table_name (only k)) ∙ d)

pub none_at_all : (ts : List Table) (i : ℕ) (x : Ref) → length ts ≤ i → ((t : Table) → In t (take i ts) → t.name ≡ x → ⊥) → (t : Table) → In t ts → t.name ≡ x → ⊥
none_at_all ts i x l f t h d = f t (In_along ts (take i ts) (sym (take_all i ts l)) h) d

-- ---- how many rows there are

pub filled_set : (n i : ℕ) (ts : List Table) (a : Table) → AreFilled n i ts → i < length ts → sizes a ≡ n + 1 → AreFilled n (suc i) (set ts i a)
filled_set n i [] a f l e = absurd (omega arith)
filled_set n zero (t ∷ ts) a f l e = (e, f.1)
filled_set n (suc i) (t ∷ ts) a f l e = (f.0, filled_set n i ts a f.1 (omega arith) e)

pub filled_end : (n i : ℕ) (ts : List Table) → AreFilled n i ts → length ts ≤ i → AreFilled (n + 1) 0 ts
filled_end n i [] f l = tt
filled_end n zero (t ∷ ts) f l = absurd (omega arith)
filled_end n (suc i) (t ∷ ts) f l = (f.0, filled_end n i ts f.1 (omega arith))

-- the table at place i has still n
pub filled_at : (n i : ℕ) (ts : List Table) (t : Table) → AreFilled n i ts → i < length ts → t ≡ get_or ts i t → sizes t ≡ n
filled_at n i [] t f l e = absurd (omega arith)
filled_at n zero (u ∷ us) t f l e = ap sizes e ∙ f.0
filled_at n (suc i) (u ∷ us) t f l e = filled_at n i us t f.1 (omega arith) e

pub filled_none : (ts : List Table) (t : Table) → AreFilled 0 0 ts → sizes t ≡ 0 → AreFilled 0 0 (ts ++ t ∷ [])
filled_none [] t f e = (e, tt)
filled_none (u ∷ us) t f e = (f.0, filled_none us t f.1 e)

module _ (L : Language) (P : List Tree) where
  -- ---- tables

  pub table_none : (t : Table) → t.terms.items ≡ [] → t.contexts.items ≡ [] → IsTable L P t
  table_none t e f = record {
    as_many = ap length f ∙ sym (ap length e);
    rows = λ m l. let k : sizes t ≡ 0 = ap length e in absurd (omega arith);
    met = λ m u h. no_member (In_along (row_at t.terms.items m) [] (ap (λ (rows : Rows). row_at rows m) e) h);
  }

  pub tables_nil : (ts : List Table) → ts ≡ [] → AreTables L P ts
  tables_nil ts e t h = no_member (In_along ts [] e h)

  pub tables_more : (ts us : List Table) (t : Table) → us ≡ ts ++ t ∷ [] → AreTables L P ts → IsTable L P t → AreTables L P us
  tables_more ts us t e a b u h = go (in-append ts (t ∷ []) u (In_along us (ts ++ t ∷ []) e h))
    where
      go : In u ts ⊎ In u (t ∷ []) → IsTable L P u
      go (inl k) = a u k
      go (inr k) = subst (IsTable L P) (sym (only k)) b

  pub tables_set : (ts : List Table) (i : ℕ) (a : Table) → AreTables L P ts → IsTable L P a → AreTables L P (set ts i a)
  tables_set ts i a b c u h = go (in_set ts i a u h)
    where
      go : In u ts ⊎ (u ≡ a) → IsTable L P u
      go (inl k) = b u k
      go (inr k) = subst (IsTable L P) (sym k) c

  -- one row more
  module _ (n : ℕ) (t a : Table) (r s : Vec Term Global) (b : IsTable L P t) (e : sizes t ≡ n) (d : a.name ≡ t.name) (f : a.terms.items ≡ t.terms.items ++ r ∷ [])
      (g : a.contexts.items ≡ t.contexts.items ++ s ∷ []) (k : IsRow L P t.name n (row_of r) (row_of s)) (m : (u : Tree) → In u (row_of r) → MatchesSome L (nt t.name) u) where
    pub size_more : sizes a ≡ n + 1
    size_more = let x : sizes a ≡ length (t.terms.items ++ r ∷ []) = ap length f in let y : length (t.terms.items ++ r ∷ []) ≡ sizes t + 1 = length-more t.terms.items r in omega arith

    contexts_size : length t.contexts.items ≡ n
    contexts_size = b.as_many ∙ e

    term_rows : (i : ℕ) → row_at a.terms.items i ≡ row_at (t.terms.items ++ r ∷ []) i
    term_rows i = ap (λ (rows : Rows). row_at rows i) f

    context_rows : (i : ℕ) → row_at a.contexts.items i ≡ row_at (t.contexts.items ++ s ∷ []) i
    context_rows i = ap (λ (rows : Rows). row_at rows i) g

    is_row : (i : ℕ) → i < n + 1 → IsRow L P t.name i (row_at a.terms.items i) (row_at a.contexts.items i)
    is_row i l = go (eq-or-lt_of_le (omega arith))
      where
        go : (i ≡ n) ⊎ (i < n) → IsRow L P t.name i (row_at a.terms.items i) (row_at a.contexts.items i)
        go (inl q) = subst (λ (ts : List Tree). IsRow L P t.name i ts (row_at a.contexts.items i)) (sym (term_rows i ∙ row_at-last t.terms.items r i (q ∙ sym e)))
            (subst (IsRow L P t.name i (row_of r)) (sym (context_rows i ∙ row_at-last t.contexts.items s i (q ∙ sym contexts_size)))
            (subst (λ (j : ℕ). IsRow L P t.name j (row_of r) (row_of s)) (sym q) k))
        go (inr q) = let z : length t.contexts.items ≡ n = contexts_size in
            subst (λ (ts : List Tree). IsRow L P t.name i ts (row_at a.contexts.items i)) (sym (term_rows i ∙ row_at-before t.terms.items r i (omega arith)))
            (subst (IsRow L P t.name i (row_at t.terms.items i)) (sym (context_rows i ∙ row_at-before t.contexts.items s i (omega arith))) (b.rows i (omega arith)))

    is_met : (i : ℕ) (u : Tree) → In u (row_at a.terms.items i) → MatchesSome L (nt t.name) u
    is_met i u h = go (cases_lt i n)
      where
        last : (n ≡ i) ⊎ (n < i) → MatchesSome L (nt t.name) u
        last (inl q) = m u (In_along (row_at a.terms.items i) (row_of r) (term_rows i ∙ row_at-last t.terms.items r i (sym q ∙ sym e)) h)
        last (inr q) = let x : sizes a ≡ n + 1 = size_more in no_member (In_along (row_at a.terms.items i) [] (row_at-none a.terms.items i (omega arith)) h)

        go : (i < n) ⊎ (n ≤ i) → MatchesSome L (nt t.name) u
        go (inl q) = b.met i u (In_along (row_at a.terms.items i) (row_at t.terms.items i) (term_rows i ∙ row_at-before t.terms.items r i (omega arith)) h)
        go (inr q) = last (eq-or-lt_of_le q)

    as_many : length a.contexts.items ≡ sizes a
    as_many =
        let x : sizes a ≡ n + 1 = size_more in
        let y : length a.contexts.items ≡ length (t.contexts.items ++ s ∷ []) = ap length g in
        let z : length (t.contexts.items ++ s ∷ []) ≡ length t.contexts.items + 1 = length-more t.contexts.items s in
        let w : length t.contexts.items ≡ n = contexts_size in
        omega arith

    pub table_more : IsTable L P a
    table_more = record {
      as_many = as_many;
      rows = λ i l. let x : sizes a ≡ n + 1 = size_more in subst (λ (y : Ref). IsRow L P y i (row_at a.terms.items i) (row_at a.contexts.items i)) (sym d) (is_row i (omega arith));
      met = λ i u h. subst (λ (y : Ref). MatchesSome L (nt y) u) (sym d) (is_met i u h);
    }

  -- ---- what a table knows

  -- the row of a nonterminal that is there
  pub table_row : (ts : List Table) (x : Ref) (n m : ℕ) (t : Table) → AreTables L P ts → IsThere ts x n → In t ts → t.name ≡ x → m ≤ n
      → IsRow L P x m (row_at t.terms.items m) (row_at t.contexts.items m)
  table_row ts x n m t a b i e l =
      let s : n < sizes t = b.size t i e in
      subst (λ (y : Ref). IsRow L P y m (row_at t.terms.items m) (row_at t.contexts.items m)) e ((a t i).rows m (omega arith))

  -- terms of a nonterminal of less than m nodes: all that are over the pool, and no others
  pub record Knows (x : Ref) (m : ℕ) (found : List Tree) : Type 0 where
    pub all : (t : Tree) → IsOver P t → tree_nodes t < m → MatchesSome L (nt x) t → In t found
    pub small : (t : Tree) → In t found → tree_nodes t < m
    pub met : (t : Tree) → In t found → MatchesSome L (nt x) t

  pub knows_none : (x : Ref) (found : List Tree) → found ≡ [] → Knows x 0 found
  knows_none x found e = record {
    all = λ t o l s. absurd (omega arith);
    small = λ t h. no_member (In_along found [] e h);
    met = λ t h. no_member (In_along found [] e h);
  }

  -- those of one row more
  pub knows_more : (ts : List Table) (x : Ref) (n m : ℕ) (t : Table) (old more new : List Tree) → AreTables L P ts → IsThere ts x n → In t ts → t.name ≡ x → m ≤ n
      → more ≡ row_at t.terms.items m → new ≡ old ++ more → Knows x m old → Knows x (m + 1) new
  knows_more ts x n m t old more new a b i e l d f k = record {
    all = λ u o g s. all u o s (eq-or-lt_of_le (omega arith));
    small = λ u h. small u (in-append old more u (In_along new (old ++ more) f h));
    met = λ u h. met u (in-append old more u (In_along new (old ++ more) f h));
  }
    where
      row : IsRow L P x m (row_at t.terms.items m) (row_at t.contexts.items m)
      row = table_row ts x n m t a b i e l

      all : (u : Tree) → IsOver P u → MatchesSome L (nt x) u → (tree_nodes u ≡ m) ⊎ (tree_nodes u < m) → In u new
      all u o s (inl q) = In_along (old ++ more) new (sym f) (append-right old more u (In_along (row_at t.terms.items m) more (sym d) (row.matched u s.0 s.1 o q)))
      all u o s (inr q) = In_along (old ++ more) new (sym f) (append-left old more u (k.all u o q s))

      small : (u : Tree) → In u old ⊎ In u more → tree_nodes u < m + 1
      small u (inl h) = let z : tree_nodes u < m = k.small u h in omega arith
      small u (inr h) = let z : tree_nodes u ≡ m = row.sized_terms u (In_along more (row_at t.terms.items m) d h) in omega arith

      met : (u : Tree) → In u old ⊎ In u more → MatchesSome L (nt x) u
      met u (inl h) = k.met u h
      met u (inr h) = subst (λ (y : Ref). MatchesSome L (nt y) u) e ((a t i).met m u (In_along more (row_at t.terms.items m) d h))
