-- The rows of a nonterminal, one after the other.
use Rattle.std.proofs.Common.{◌≡◌, ℕ, ◌+◌, ◌<◌, ◌≤◌, ◌⊎◌, inl, inr, List, [], ◌∷◌, ◌++◌, length, Vec, refl, sym, ap, subst, arith}
use Rattle.std.proofs.lemmas.Bool.{cases_lt}
use Rattle.std.specs.declared.alloc.Global.{Global}
use Rattle.rdx_term.specs.Tree.{Tree}
use Rattle.rdx_term.specs.declared.term.Term.{Term}
use Rattle.rdx_lang.specs.Empty.{IsEmpty}
use Rattle.rdx_lang.specs.Members.{In}
use Rattle.rdx_lang.specs.Patterns.{nt, Language}
use Rattle.rdx_lang.specs.declared.pattern.Ref.{Ref}
use Rattle.rdx_lang.proofs.Collecting.{In_along, no_member}
use Rattle.rdx_enum.specs.Inside.Growing.{IsGrown, IsRow}
use Rattle.rdx_enum.specs.Inside.Rows.{Rows, row_of, row_at, AreSized}
use Rattle.rdx_enum.proofs.GrownPatterns.{grown_nt}
use Rattle.rdx_enum.proofs.Loops.{one_more}
use Rattle.rdx_enum.proofs.RowLaws.{length-more, row_at-before, row_at-last, row_at-none}
use Rattle.rdx_enum.proofs.Sizes.{sized_nil, sized_more}

module _ (L : Language) (P : List Tree) (x : Ref) where
  -- the rows before m are those of the nonterminal
  pub record KnownBelow (m : ℕ) (terms contexts : Rows) : Type 0 where
    pub len : length terms ≡ m
    pub as_many : length contexts ≡ m
    pub rows : (i : ℕ) → i < m → IsRow L P x i (row_at terms i) (row_at contexts i)
    pub sized_terms : AreSized terms
    pub sized_contexts : AreSized contexts

  pub known_start : (terms contexts : Rows) → terms ≡ [] → contexts ≡ [] → KnownBelow 0 terms contexts
  known_start terms contexts e f = record { len = ap length e; as_many = ap length f; rows = λ i h. absurd (omega arith); sized_terms = sized_nil terms e; sized_contexts = sized_nil contexts f }

  pub known_next : (m : ℕ) (terms terms' contexts contexts' : Rows) (r s : Vec Term Global) → terms' ≡ terms ++ r ∷ [] → contexts' ≡ contexts ++ s ∷ [] → KnownBelow m terms contexts
      → IsRow L P x m (row_of r) (row_of s) → KnownBelow (m + 1) terms' contexts'
  known_next m terms terms' contexts contexts' r s e f b k = subst (λ (ts : Rows). KnownBelow (m + 1) ts contexts') (sym e) (subst (KnownBelow (m + 1) (terms ++ r ∷ [])) (sym f) (record {
    len = let l : length terms ≡ m = b.len in grown_length terms r m l;
    as_many = let l : length contexts ≡ m = b.as_many in grown_length contexts s m l;
    rows = one_more (λ i. IsRow L P x i (row_at (terms ++ r ∷ []) i) (row_at (contexts ++ s ∷ []) i)) m
        (λ i h. subst (λ (y : List Tree). IsRow L P x i y (row_at (contexts ++ s ∷ []) i)) (sym (old terms r b.len i h)) (subst (IsRow L P x i (row_at terms i)) (sym (old contexts s b.as_many i h)) (b.rows i h)))
        (subst (λ (y : List Tree). IsRow L P x m y (row_at (contexts ++ s ∷ []) m)) (sym (row_at-last terms r m (sym b.len))) (subst (IsRow L P x m (row_of r)) (sym (row_at-last contexts s m (sym b.as_many))) k));
    sized_terms = sized_more m terms r b.len b.sized_terms k.sized_terms;
    sized_contexts = sized_more m contexts s b.as_many b.sized_contexts k.sized_contexts;
  }))
    where
      grown_length : (rows : Rows) (r : Vec Term Global) (m : ℕ) → length rows ≡ m → length (rows ++ r ∷ []) ≡ m + 1
      grown_length rows r m l = let k : length (rows ++ r ∷ []) ≡ length rows + 1 = length-more rows r in omega arith

      old : (rows : Rows) (r : Vec Term Global) → length rows ≡ m → (i : ℕ) → i < m → row_at (rows ++ r ∷ []) i ≡ row_at rows i
      old rows r l i h = row_at-before rows r i (omega arith)

  pub known_end : (n m : ℕ) (terms contexts : Rows) → n < m → KnownBelow m terms contexts → IsGrown L P (nt x) n terms contexts
  known_end n m terms contexts l b = grown_nt L P x n terms contexts (λ i h. b.rows i (omega arith)) b.sized_terms b.sized_contexts (λ C h. ones C h (cases_lt 1 m))
    where
      ones : (C : Tree) → In C (row_at contexts 1) → (1 < m) ⊎ (m ≤ 1) → IsEmpty L (nt x)
      ones C h (inl k) = (b.rows 1 k).empty C refl h
      ones C h (inr k) = let e : length contexts ≡ m = b.as_many in no_member (In_along (row_at contexts 1) [] (row_at-none contexts 1 (omega arith)) h)

  -- a row that is equal to one of a table is the nonterminal's
  pub row_from : (m : ℕ) (ts cs : List Tree) (r s : Vec Term Global) → IsRow L P x m ts cs → row_of r ≡ ts → row_of s ≡ cs → IsRow L P x m (row_of r) (row_of s)
  row_from m ts cs r s k g h = subst (λ (us : List Tree). IsRow L P x m us (row_of s)) (sym g) (subst (IsRow L P x m ts) (sym h) k)
