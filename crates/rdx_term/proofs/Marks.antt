-- Filled contexts that are terms, and filled contexts with their marks forgotten.
use Rattle.std.proofs.Common.{◌≡◌, ℕ, zero, suc, Bool, true, false, if◌then◌else◌, Some, None, refl, sym, ◌∙◌, ap}
use Rattle.rdx_term.specs.Tree.{Tree, hole, integer, truth, text, symbol, list, Trees, nil, cons}
use Rattle.rdx_term.specs.Context.{is_context_at, IsMarked, AreMarked}
use Rattle.rdx_term.specs.Terms.{IsSpelled, AreSpelled, IsTerm}
use Rattle.rdx_term.specs.Building.{list_of}
use Rattle.rdx_term.specs.Bare.{bare, bare_all}
use Rattle.rdx_term.proofs.Trees.{mark_for-fits}
use Rattle.rdx_term.specs.Fill.{marked_at, fill_of, fill_at}
use Rattle.rdx_term.specs.Limits.{KeepsLimits}

-- ---- terms

marked_where : (b : Bool) (k : ℕ) (ts : Trees) → is_context_at ts k ≡ b → AreMarked ts → IsMarked (if b then list (Some k) ts else list_of ts)
marked_where true k ts h m = (h, m)
marked_where false k ts h m = (mark_for-fits ts m, m)

-- the mark of a list that is marked at a place if it can be fits
pub IsMarked-marked_at : (k : ℕ) (ts : Trees) → AreMarked ts → IsMarked (marked_at k ts)
IsMarked-marked_at k ts m = marked_where (is_context_at ts k) k ts refl m

spelled_where : (b : Bool) (k : ℕ) (ts : Trees) → AreSpelled ts → IsSpelled (if b then list (Some k) ts else list_of ts)
spelled_where true k ts s = s
spelled_where false k ts s = s

-- the marks of a filled context fit
mutual
  pub IsMarked-fill_of : (c t : Tree) → IsMarked c → IsMarked t → IsMarked (fill_of c t)
  IsMarked-fill_of hole t m n = n
  IsMarked-fill_of (integer i) t m n = m
  IsMarked-fill_of (truth b) t m n = m
  IsMarked-fill_of (text s) t m n = m
  IsMarked-fill_of (symbol s) t m n = m
  IsMarked-fill_of (list None ts) t m n = m
  IsMarked-fill_of (list (Some k) ts) t m n = IsMarked-marked_at k (fill_at ts k t) (AreMarked-fill_at ts k t m.1 n)

  pub AreMarked-fill_at : (ts : Trees) (k : ℕ) (t : Tree) → AreMarked ts → IsMarked t → AreMarked (fill_at ts k t)
  AreMarked-fill_at nil k t m n = tt
  AreMarked-fill_at (cons u ts) zero t m n = (IsMarked-fill_of u t m.0 n, m.1)
  AreMarked-fill_at (cons u ts) (suc k) t m n = (m.0, AreMarked-fill_at ts k t m.1 n)

-- its atoms are well formed
mutual
  pub IsSpelled-fill_of : (c t : Tree) → IsSpelled c → IsSpelled t → IsSpelled (fill_of c t)
  IsSpelled-fill_of hole t s r = r
  IsSpelled-fill_of (integer i) t s r = s
  IsSpelled-fill_of (truth b) t s r = s
  IsSpelled-fill_of (text x) t s r = s
  IsSpelled-fill_of (symbol x) t s r = s
  IsSpelled-fill_of (list None ts) t s r = s
  IsSpelled-fill_of (list (Some k) ts) t s r = spelled_where (is_context_at (fill_at ts k t) k) k (fill_at ts k t) (AreSpelled-fill_at ts k t s r)

  pub AreSpelled-fill_at : (ts : Trees) (k : ℕ) (t : Tree) → AreSpelled ts → IsSpelled t → AreSpelled (fill_at ts k t)
  AreSpelled-fill_at nil k t s r = tt
  AreSpelled-fill_at (cons u ts) zero t s r = (IsSpelled-fill_of u t s.0 r, s.1)
  AreSpelled-fill_at (cons u ts) (suc k) t s r = (s.0, AreSpelled-fill_at ts k t s.1 r)

-- so within the limits it is a term
pub IsTerm-fill_of : (c t : Tree) → IsTerm c → IsTerm t → KeepsLimits (fill_of c t) → IsTerm (fill_of c t)
IsTerm-fill_of c t u v l = record {
  marked = IsMarked-fill_of c t u.marked v.marked;
  spelled = IsSpelled-fill_of c t u.spelled v.spelled;
  shallow = l.shallow;
  small = l.small;
}

-- ---- marks forgotten

bare_where : (b : Bool) (k : ℕ) (ts : Trees) → bare (if b then list (Some k) ts else list_of ts) ≡ list None (bare_all ts)
bare_where true k ts = refl
bare_where false k ts = refl

-- of a list that is marked at a place if it can be, its items are left
pub bare-marked_at : (k : ℕ) (ts : Trees) → bare (marked_at k ts) ≡ list None (bare_all ts)
bare-marked_at k ts = bare_where (is_context_at ts k) k ts

-- the marks of the part do not count
mutual
  pub bare-fill_of : (c t u : Tree) → bare t ≡ bare u → bare (fill_of c t) ≡ bare (fill_of c u)
  bare-fill_of hole t u e = e
  bare-fill_of (integer i) t u e = refl
  bare-fill_of (truth b) t u e = refl
  bare-fill_of (text s) t u e = refl
  bare-fill_of (symbol s) t u e = refl
  bare-fill_of (list None ts) t u e = refl
  bare-fill_of (list (Some k) ts) t u e =
      bare-marked_at k (fill_at ts k t) ∙ ap (list None) (bare_all-fill_at ts k t u e) ∙ sym (bare-marked_at k (fill_at ts k u))

  pub bare_all-fill_at : (ts : Trees) (k : ℕ) (t u : Tree) → bare t ≡ bare u → bare_all (fill_at ts k t) ≡ bare_all (fill_at ts k u)
  bare_all-fill_at nil k t u e = refl
  bare_all-fill_at (cons w ts) zero t u e = ap (λ (v : Tree). cons v (bare_all ts)) (bare-fill_of w t u e)
  bare_all-fill_at (cons w ts) (suc k) t u e = ap (cons (bare w)) (bare_all-fill_at ts k t u e)
