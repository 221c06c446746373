-- What is behind some terms of a list: the terms, and which of them is split.
use Rattle.std.proofs.Common.{◌≡◌, ℕ, zero, suc, ◌+◌, ◌-◌, ◌<◌, ◌≤◌, List, [], ◌∷◌, drop, refl, ◌∙◌, ap, arith}
use Rattle.rdx_term.specs.Items.{trees_count, item_at}
use Rattle.rdx_term.specs.Tree.{Tree, Trees, nil, cons}
use Rattle.rdx_term.specs.View.{trees_of}
use Rattle.rdx_term.specs.declared.term.Term.{Term}
use Rattle.rdx_deriv.specs.Uses.{Focus, nowhere, at, next}
use Rattle.rdx_why.specs.Inside.Laying.{focus_after, trees_after}

-- ---- which term is split

-- none behind some, where none is
pub nowhere_after : (k : ℕ) → nowhere ≡ focus_after k nowhere
nowhere_after zero = refl
nowhere_after (suc k) = nowhere_after k

-- nor behind that which is split
pub at_before : (k i : ℕ) (D s : Tree) → i < k → nowhere ≡ focus_after k (at i D s)
at_before zero i D s h = absurd (omega arith)
at_before (suc k) zero D s h = nowhere_after k
at_before (suc k) (suc i) D s h = at_before k i D s (omega arith)

-- before it, it is nearer
pub at_behind : (k i : ℕ) (D s : Tree) → k ≤ i → at (i - k) D s ≡ focus_after k (at i D s)
at_behind zero i D s h = ap (λ (j : ℕ). at j D s) (omega arith)
at_behind (suc k) zero D s h = absurd (omega arith)
at_behind (suc k) (suc i) D s h = ap (λ (j : ℕ). at j D s) (omega arith) ∙ at_behind k i D s (omega arith)

-- one term more
pub focus_more : (k : ℕ) (f : Focus) → focus_after (suc k) f ≡ next (focus_after k f)
focus_more zero f = refl
focus_more (suc k) f = focus_more k (next f)

-- ---- the terms

-- those of the code
pub terms_after : (xs : List Term) (k : ℕ) → trees_of (drop k xs) ≡ trees_after k (trees_of xs)
terms_after xs zero = refl
terms_after [] (suc k) = refl
terms_after (x ∷ xs) (suc k) = terms_after xs k

-- the next term is the first of them
pub trees_at : (k : ℕ) (ts : Trees) (u : Tree) → k < trees_count ts → trees_after k ts ≡ cons (item_at ts k u) (trees_after (suc k) ts)
trees_at k nil u h = absurd (omega arith)
trees_at zero (cons t ts) u h = refl
trees_at (suc k) (cons t ts) u h = trees_at k ts u (omega arith)

-- how many they are
pub count_after : (k : ℕ) (ts : Trees) → k ≤ trees_count ts → trees_count (trees_after k ts) + k ≡ trees_count ts
count_after zero ts h = omega arith
count_after (suc k) nil h = absurd (omega arith)
count_after (suc k) (cons t ts) h = let e = count_after k ts (omega arith) in omega arith
