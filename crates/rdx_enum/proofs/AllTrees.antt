-- All trees over a pool are among rows that have its atoms, the empty list, and each list of a tree and the items of a list.
use Rattle.std.proofs.Common.{◌≡◌, ℕ, ◌+◌, ◌<◌, ◌≤◌, Option, Some, List, [], ◌∷◌, ◌++◌, length, Vec, refl, sym, ap, subst, arith}
use Rattle.std.specs.declared.alloc.Global.{Global}
use Rattle.rdx_term.specs.Building.{list_of}
use Rattle.rdx_term.specs.Tree.{Tree, hole, integer, truth, text, symbol, list, Trees, nil, cons, tree_nodes, trees_nodes}
use Rattle.rdx_term.specs.declared.term.Term.{Term}
use Rattle.rdx_term.proofs.AtPaths.{one_le-nodes}
use Rattle.rdx_lang.specs.Members.{In}
use Rattle.rdx_lang.proofs.Collecting.{In_along}
use Rattle.rdx_enum.specs.Inside.Rows.{Rows, row_of, row_at, HaveNodes, AreSized, Keeps, Combines, HasAtoms, HasEmpty}
use Rattle.rdx_enum.specs.Inside.Ways.{joined}
use Rattle.rdx_enum.specs.Pool.{IsOver, AreOver}
use Rattle.rdx_enum.specs.declared.way.Way.TheVariants.{Item}
use Rattle.rdx_enum.proofs.Loops.{one_more}
use Rattle.rdx_enum.proofs.RowLaws.{length-more, row_at-before, row_at-last}
use Rattle.rdx_enum.proofs.Sizes.{sized_nil, sized_more}

module _ (P : List Tree) where
  -- what comes of a tree and the items of a list, which have so many nodes together
  abbrev pub CombinesPositive : Rows → Rows → ℕ → List Tree → Type 0
  CombinesPositive all lists total out =
      (j i : ℕ) (t u x : Tree) → 1 ≤ j → 1 ≤ i → j + i ≡ total → In t (row_at all j) → In u (row_at lists i) → joined Item t u ≡ Some x → In x out

  -- the rows before m have what they should
  pub record AllBelow (m : ℕ) (all lists : Rows) : Type 0 where
    pub len : length all ≡ m
    pub as_many : length lists ≡ m
    pub atoms : (i : ℕ) → i < m → HasAtoms P i (row_at all i)
    pub empty : (i : ℕ) → i < m → HasEmpty i (row_at lists i)
    pub made : (i : ℕ) → i < m → CombinesPositive all lists i (row_at lists i)
    pub kept : (i : ℕ) → i < m → Keeps (row_at lists i) (row_at all i)
    pub sized_all : AreSized all
    pub sized_lists : AreSized lists

  mutual
    pub all_trees : (m : ℕ) (all lists : Rows) → AllBelow m all lists → (t : Tree) → IsOver P t → tree_nodes t < m → In t (row_at all (tree_nodes t))
    all_trees m all lists b hole o l = b.atoms 1 l hole refl o
    all_trees m all lists b (integer n) o l = b.atoms 1 l (integer n) refl o
    all_trees m all lists b (truth c) o l = b.atoms 1 l (truth c) refl o
    all_trees m all lists b (text s) o l = b.atoms 1 l (text s) refl o
    all_trees m all lists b (symbol s) o l = b.atoms 1 l (symbol s) refl o
    all_trees m all lists b (list k ts) o l =
        b.kept (trees_nodes ts + 1) l (list k ts)
        (subst (λ (n : Option ℕ). In (list n ts) (row_at lists (trees_nodes ts + 1))) (sym o.0) (all_lists m all lists b ts o.1 l))

    all_lists : (m : ℕ) (all lists : Rows) → AllBelow m all lists → (ts : Trees) → AreOver P ts → trees_nodes ts + 1 < m → In (list_of ts) (row_at lists (trees_nodes ts + 1))
    all_lists m all lists b nil o l = b.empty 1 l refl
    all_lists m all lists b (cons t ts) o l =
        let t1 : 1 ≤ tree_nodes t = one_le-nodes t in
        b.made (tree_nodes t + trees_nodes ts + 1) l (tree_nodes t) (trees_nodes ts + 1) t (list_of ts) (list_of (cons t ts)) t1 (omega arith) (omega arith)
        (all_trees m all lists b t o.0 (omega arith)) (all_lists m all lists b ts o.1 (omega arith)) refl

  -- what comes of the rows before comes of more rows
  more_rows : (all lists : Rows) (r s : Vec Term Global) (i : ℕ) (out : List Tree) → i ≤ length all → i ≤ length lists → CombinesPositive all lists i out
      → CombinesPositive (all ++ r ∷ []) (lists ++ s ∷ []) i out
  more_rows all lists r s i out l k c j h t u x f d e g a made =
      c j h t u x f d e (In_along (row_at (all ++ r ∷ []) j) (row_at all j) (row_at-before all r j (omega arith)) g)
      (In_along (row_at (lists ++ s ∷ []) h) (row_at lists h) (row_at-before lists s h (omega arith)) a) made

  -- before the first row
  pub all_start : (all lists : Rows) → all ≡ [] → lists ≡ [] → AllBelow 0 all lists
  all_start all lists e f = record {
    len = ap length e;
    as_many = ap length f;
    atoms = λ i h. absurd (omega arith);
    empty = λ i h. absurd (omega arith);
    made = λ i h. absurd (omega arith);
    kept = λ i h. absurd (omega arith);
    sized_all = sized_nil all e;
    sized_lists = sized_nil lists f;
  }

  -- one row more of both
  pub all_next : (m : ℕ) (all all' lists lists' : Rows) (r s : Vec Term Global) → all' ≡ all ++ r ∷ [] → lists' ≡ lists ++ s ∷ [] → AllBelow m all lists
      → HasAtoms P m (row_of r) → HasEmpty m (row_of s) → Combines Item all lists 0 m (row_of s) → Keeps (row_of s) (row_of r) → HaveNodes m (row_of r) → HaveNodes m (row_of s) → AllBelow (m + 1) all' lists'
  all_next m all all' lists lists' r s e f b a n c k x y = subst (λ (xs : Rows). AllBelow (m + 1) xs lists') (sym e) (subst (AllBelow (m + 1) (all ++ r ∷ [])) (sym f) (record {
    len = let l : length all ≡ m = b.len in grown_length all r m l;
    as_many = let l : length lists ≡ m = b.as_many in grown_length lists s m l;
    atoms = one_more (λ i. HasAtoms P i (row_at (all ++ r ∷ []) i)) m
        (λ i h. subst (HasAtoms P i) (sym (old_all i h)) (b.atoms i h)) (subst (HasAtoms P m) (sym new_all) a);
    empty = one_more (λ i. HasEmpty i (row_at (lists ++ s ∷ []) i)) m
        (λ i h. subst (HasEmpty i) (sym (old_lists i h)) (b.empty i h)) (subst (HasEmpty m) (sym new_lists) n);
    made = one_more (λ i. CombinesPositive (all ++ r ∷ []) (lists ++ s ∷ []) i (row_at (lists ++ s ∷ []) i)) m
        (λ i h. subst (CombinesPositive (all ++ r ∷ []) (lists ++ s ∷ []) i) (sym (old_lists i h)) (more_rows all lists r s i (row_at lists i) (fits_all i h) (fits_lists i h) (b.made i h)))
        (subst (CombinesPositive (all ++ r ∷ []) (lists ++ s ∷ []) m) (sym new_lists)
        (more_rows all lists r s m (row_of s) same_all same_lists (λ j i t u x o q. c j (omega arith) i t u x)));
    kept = one_more (λ i. Keeps (row_at (lists ++ s ∷ []) i) (row_at (all ++ r ∷ []) i)) m
        (λ i h x q. In_along (row_at all i) (row_at (all ++ r ∷ []) i) (sym (old_all i h)) (b.kept i h x (In_along (row_at (lists ++ s ∷ []) i) (row_at lists i) (old_lists i h) q)))
        (λ x q. In_along (row_of r) (row_at (all ++ r ∷ []) m) (sym new_all) (k x (In_along (row_at (lists ++ s ∷ []) m) (row_of s) new_lists q)));
    sized_all = sized_more m all r b.len b.sized_all x;
    sized_lists = sized_more m lists s b.as_many b.sized_lists y;
  }))
    where
      grown_length : (rows : Rows) (r : Vec Term Global) (m : ℕ) → length rows ≡ m → length (rows ++ r ∷ []) ≡ m + 1
      grown_length rows r m l = let k : length (rows ++ r ∷ []) ≡ length rows + 1 = length-more rows r in omega arith

      fits_all : (i : ℕ) → i < m → i ≤ length all
      fits_all i h = let l : length all ≡ m = b.len in omega arith

      fits_lists : (i : ℕ) → i < m → i ≤ length lists
      fits_lists i h = let l : length lists ≡ m = b.as_many in omega arith

      same_all : m ≤ length all
      same_all = let l : length all ≡ m = b.len in omega arith

      same_lists : m ≤ length lists
      same_lists = let l : length lists ≡ m = b.as_many in omega arith

      old_all : (i : ℕ) → i < m → row_at (all ++ r ∷ []) i ≡ row_at all i
      old_all i h = let l : length all ≡ m = b.len in row_at-before all r i (omega arith)

      old_lists : (i : ℕ) → i < m → row_at (lists ++ s ∷ []) i ≡ row_at lists i
      old_lists i h = let l : length lists ≡ m = b.as_many in row_at-before lists s i (omega arith)

      new_all : row_at (all ++ r ∷ []) m ≡ row_of r
      new_all = row_at-last all r m (sym b.len)

      new_lists : row_at (lists ++ s ∷ []) m ≡ row_of s
      new_lists = row_at-last lists s m (sym b.as_many)
