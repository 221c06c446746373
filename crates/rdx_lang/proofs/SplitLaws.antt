-- What a pattern splits a term into is fixed by a path: the part stands where it leads, and the context is the term with the hole in its place.
use Rattle.std.proofs.Common.{◌≡◌, ℕ, zero, suc, ◌<◌, ◌≤◌, IsTrue, Option, Some, List, ◌∷◌, ◌++◌, refl, sym, ◌∙◌, ap, subst, arith}
use Rattle.rdx_term.specs.AtPaths.{IsPlace, tree_at, context_at}
use Rattle.rdx_term.specs.Bare.{bare}
use Rattle.rdx_term.specs.Context.{is_context}
use Rattle.rdx_term.specs.Fill.{fill_of}
use Rattle.rdx_term.specs.Items.{trees_count, item_at, put_at}
use Rattle.rdx_term.specs.Path.{path}
use Rattle.rdx_term.specs.Tree.{Tree, list, Trees, cons, tree_depth, tree_nodes}
use Rattle.rdx_term.specs.Tree.{hole as the_hole}
use Rattle.rdx_term.proofs.AtPaths.{IsPlace-item, tree_at-item, context_at-item, IsPlace-++, tree_at-++, fill_of-context_at, path-context_at, is_context-context_at, bare-refilled, context_at_le-depth, context_at_le-nodes, tree_at_le-depth, tree_at_le-nodes}
use Rattle.rdx_lang.specs.Bindings.{Binding}
use Rattle.rdx_lang.specs.Laws.{IsSplitOf, IsAlongPath}
use Rattle.rdx_lang.specs.Patterns.{Pattern, Items, Language}
use Rattle.rdx_lang.specs.Rules.{Split, SplitItems, SplitRun, split_hole, split_nt, split_named, split_differ, split_in_hole, split_closed, split_seq, split_here, split_behind, split_many, run_here, run_there, run_behind}

-- ---- along a path

-- the context and the part at a path are along the path of the context
pub at_path : (t : Tree) (ks : List ℕ) (C s : Tree) → IsPlace t ks → C ≡ context_at t ks → s ≡ tree_at t ks → IsAlongPath t C s
at_path t ks C s h c p =
    let same : ks ≡ path C = sym (ap path c ∙ path-context_at t ks h) in
    record {
      inside = subst (λ (js : List ℕ). IsPlace t js) same h;
      context = c ∙ ap (λ (js : List ℕ). context_at t js) same;
      part = p ∙ ap (λ (js : List ℕ). tree_at t js) same;
    }

-- there is one context and one part at a path
pub same_path : (t C D s u : Tree) → IsAlongPath t C s → IsAlongPath t D u → path C ≡ path D → (C ≡ D) × (s ≡ u)
same_path t C D s u a b e =
    (a.context ∙ ap (λ (ks : List ℕ). context_at t ks) e ∙ sym b.context, a.part ∙ ap (λ (ks : List ℕ). tree_at t ks) e ∙ sym b.part)

-- a split of what was split: the one context filled with the other
pub along_both : (t D u E s : Tree) → IsAlongPath t D u → IsAlongPath u E s → IsAlongPath t (fill_of D E) s
along_both t D u E s a b =
    let ks : List ℕ = path D in
    let ls : List ℕ = path E in
    let c : IsAlongPath (tree_at t ks) E s = subst (λ (v : Tree). IsAlongPath v E s) a.part b in
    let filled : fill_of D E ≡ fill_of (context_at t ks) (context_at (tree_at t ks) ls) = (λ i. fill_of (a.context i) (c.context i)) in
    at_path t (ks ++ ls) (fill_of D E) s (IsPlace-++ t ks ls a.inside c.inside) (filled ∙ fill_of-context_at t ks ls a.inside c.inside) (c.part ∙ sym (tree_at-++ t ks ls))

-- the item at place k is split into D and s, along a path
pub record IsItemAlong (ts : Trees) (k : ℕ) (D s : Tree) : Type 0 where
  pub inside : k < trees_count ts
  pub item : IsAlongPath (item_at ts k the_hole) D s

-- the first item is, where its term is
first_along : {t : Tree} {ts : Trees} {D s : Tree} → IsAlongPath t D s → IsItemAlong (cons t ts) zero D s
first_along {ts = ts} a = record { inside = omega arith; item = a }

-- and a later one, where it is behind the first
later_along : {t : Tree} {ts : Trees} {k : ℕ} {D s : Tree} → IsItemAlong ts k D s → IsItemAlong (cons t ts) (suc k) D s
later_along {ts = ts} {k = k} a = let i : k < trees_count ts = a.inside in record { inside = omega arith; item = a.item }

-- so is the list around it
pub around_item : (m : Option ℕ) (ts : Trees) (k : ℕ) (D s : Tree) → IsItemAlong ts k D s → IsAlongPath (list m ts) (list (Some k) (put_at ts k D)) s
around_item m ts k D s a =
    let item : Tree = item_at ts k the_hole in
    let ks : List ℕ = path D in
    let around : list (Some k) (put_at ts k D) ≡ list (Some k) (put_at ts k (context_at item ks)) = ap (λ (c : Tree). list (Some k) (put_at ts k c)) a.item.context in
    at_path (list m ts) (k ∷ ks) (list (Some k) (put_at ts k D)) s (IsPlace-item m ts k ks the_hole a.inside a.item.inside)
    (around ∙ sym (context_at-item m ts k ks the_hole a.inside)) (a.item.part ∙ sym (tree_at-item m ts k ks the_hole a.inside))

-- ---- splits

mutual
  -- a split is along the path of its context
  pub split-along : {L : Language} {p : Pattern} {t C s : Tree} {b : Binding} → Split L p t C s b → IsAlongPath t C s
  split-along split_hole = record { inside = tt; context = refl; part = refl }
  split-along (split_nt a h) = split-along h
  split-along (split_named h j) = split-along h
  split-along (split_differ h j) = split-along h
  split-along (split_in_hole {t = t} {D = D} {E = E} {u = u} {s = s} h g e j) =
      subst (λ (C : Tree). IsAlongPath t C s) (sym e) (along_both t D u E s (split-along h) (split-along g))
  split-along (split_closed h) = split-along h
  split-along (split_seq {m = m} {ts = ts} {k = k} {D = D} {s = s} h e) =
      subst (λ (C : Tree). IsAlongPath (list m ts) C s) (sym e) (around_item m ts k D s (items-along h))

  -- so is that of the item that splits
  pub items-along : {L : Language} {ps : Items} {ts : Trees} {k : ℕ} {D s : Tree} {b : Binding} → SplitItems L ps ts k D s b → IsItemAlong ts k D s
  items-along (split_here h g j) = first_along (split-along h)
  items-along (split_behind h g j) = later_along (items-along g)
  items-along (split_many h r j) = run-along h

  -- be it in a turn of a repetition, or behind the turns
  run-along : {L : Language} {p : Pattern} {ps : Items} {ts : Trees} {k : ℕ} {D s : Tree} {cs : List Binding} {d : Binding} →
      SplitRun L p ps ts k D s cs d → IsItemAlong ts k D s
  run-along (run_here h r) = first_along (split-along h)
  run-along (run_there h r) = later_along (run-along r)
  run-along (run_behind g) = items-along g

-- what is split along a path is put together again, and neither part is larger than it
pub put_together : (t C s : Tree) → IsAlongPath t C s → IsSplitOf t C s
put_together t C s a =
    let ks : List ℕ = path C in
    let c : context_at t ks ≡ C = sym a.context in
    let p : tree_at t ks ≡ s = sym a.part in
    record {
      context = subst (λ (u : Tree). IsTrue (is_context u)) c (is_context-context_at t ks a.inside);
      same = ap bare (λ i. fill_of (a.context i) (a.part i)) ∙ bare-refilled t ks a.inside;
      context_depth = subst (λ (u : Tree). tree_depth u ≤ tree_depth t) c (context_at_le-depth t ks a.inside);
      context_nodes = subst (λ (u : Tree). tree_nodes u ≤ tree_nodes t) c (context_at_le-nodes t ks a.inside);
      part_depth = subst (λ (u : Tree). tree_depth u ≤ tree_depth t) p (tree_at_le-depth t ks a.inside);
      part_nodes = subst (λ (u : Tree). tree_nodes u ≤ tree_nodes t) p (tree_at_le-nodes t ks a.inside);
    }

-- so is what a pattern splits
pub split-fills : {L : Language} {p : Pattern} {t C s : Tree} {b : Binding} → Split L p t C s b → IsSplitOf t C s
split-fills {t = t} {C = C} {s = s} h = put_together t C s (split-along h)
