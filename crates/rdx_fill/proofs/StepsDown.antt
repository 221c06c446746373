-- Paths, step by step, and the items to which they lead.
use Rattle.std.proofs.Common.{◌≡◌, ℕ, ◌<◌, Some, List, ◌∷◌, length, get_or, sym, ◌∙◌, ap, subst}
use Rattle.std.proofs.Math.ListN.{set}
use Rattle.rdx_term.specs.AtPaths.{IsPlace, tree_at, context_at}
use Rattle.rdx_term.specs.Items.{tree_items, trees_count, item_at, put_at}
use Rattle.rdx_term.specs.Limits.{KeepsLimits}
use Rattle.rdx_term.specs.Terms.{IsTerm}
use Rattle.rdx_term.specs.Tree.{Tree, Trees, list}
use Rattle.rdx_term.specs.View.{tree_of, trees_of, marked_list}
use Rattle.rdx_term.specs.declared.term.Term.{Term}
use Rattle.rdx_term.proofs.AtPaths.{KeepsLimits-context_at}
use Rattle.rdx_term.proofs.PutItems.{trees_count-trees_of, item_at-trees_of, item_at-other, trees_of-set}

-- the items of a tree, as terms: there is a term at each place
pub place_in : (t : Tree) (xs : List Term) (k : ℕ) → trees_of xs ≡ tree_items t → k < trees_count (tree_items t) → k < length xs
place_in t xs k e h = subst (λ n. k < n) (ap trees_count (sym e) ∙ trees_count-trees_of xs) h

-- which stands for the item
pub item_in : (t : Tree) (xs : List Term) (k : ℕ) (x : Term) → trees_of xs ≡ tree_items t → k < trees_count (tree_items t) → x ≡ get_or xs k x → item_at (tree_items t) k t ≡ tree_of x
item_in t xs k x e h f =
    item_at-other (tree_items t) k t (tree_of x) h ∙ ap (λ (ts : Trees). item_at ts k (tree_of x)) (sym e) ∙ item_at-trees_of xs k x ∙ ap tree_of (sym f)

-- one step down a path: the item at its first place
pub record StepDown (t : Tree) (ks : List ℕ) (xs : List Term) (k : ℕ) : Type 0 where
  pub inside : k < trees_count (tree_items t)
  pub bound : k < length xs
  pub behind : IsPlace (item_at (tree_items t) k t) ks
  pub same : (whole : List ℕ) → whole ≡ k ∷ ks → tree_at t whole ≡ tree_at (item_at (tree_items t) k t) ks

-- a path that leads to something leads to it from the item in its first place
pub step_down : (t : Tree) (whole ks : List ℕ) (xs : List Term) (k : ℕ) → trees_of xs ≡ tree_items t → whole ≡ k ∷ ks → IsPlace t whole → StepDown t ks xs k
step_down t whole ks xs k e f h =
    let here : IsPlace t (k ∷ ks) = subst (IsPlace t) f h in
    record { inside = here.0; bound = place_in t xs k e here.0; behind = here.1; same = λ w g. ap (tree_at t) g }

-- ---- the context around it

-- the list of these terms with the context of an item in its place, marked there, is the context of the tree
pub context_outside : (t : Tree) (whole ks : List ℕ) (xs : List Term) (k : ℕ) (x inner : Term) → trees_of xs ≡ tree_items t → whole ≡ k ∷ ks → IsPlace t whole
    → x ≡ get_or xs k x → tree_of inner ≡ context_at (tree_of x) ks → marked_list k (set xs k inner) ≡ context_at t whole
context_outside t whole ks xs k x inner e f h g c =
    let d = step_down t whole ks xs k e f h in
    let item : item_at (tree_items t) k t ≡ tree_of x = item_in t xs k x e d.inside g in
    ap (list (Some k)) (trees_of-set xs k inner ∙ (λ i. put_at (e i) k (c i)) ∙ ap (λ (u : Tree). put_at (tree_items t) k (context_at u ks)) (sym item)) ∙ sym (ap (context_at t) f)

-- it is within the limits of terms
pub limits_outside : (t : Tree) (whole : List ℕ) (c : Tree) → c ≡ context_at t whole → IsPlace t whole → IsTerm t → KeepsLimits c
limits_outside t whole c e h v =
    let limits : KeepsLimits t = record { shallow = v.shallow; small = v.small } in
    subst KeepsLimits (sym e) (KeepsLimits-context_at t whole h limits)
