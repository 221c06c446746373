-- The items of a list pattern that split the terms of a list, and the list that is split so.
use Rattle.std.proofs.Common.{◌≡◌, ℕ, suc, ◌+◌, ◌<◌, Option, List, ◌∷◌, refl, sym, ◌∙◌, ap, subst, arith}
use Rattle.rdx_term.proofs.AtPaths.{IsPlace-item, tree_at-item, context_at-item}
use Rattle.rdx_term.proofs.PutItems.{path_at-put}
use Rattle.rdx_term.specs.AtPaths.{IsPlace, tree_at, context_at}
use Rattle.rdx_term.specs.Items.{tree_items, trees_count, item_at}
use Rattle.rdx_term.specs.Path.{path}
use Rattle.rdx_term.specs.Tree.{Tree, Trees, list, cons}
use Rattle.rdx_term.specs.Tree.{hole as the_hole}
use Rattle.rdx_lang.proofs.RuleSteps.{seq_splits}
use Rattle.rdx_lang.proofs.SplitLaws.{items-along}
use Rattle.rdx_lang.specs.Bindings.{Binding}
use Rattle.rdx_lang.specs.Join.{IsJoin}
use Rattle.rdx_lang.specs.Patterns.{Pattern, Items, seq, Language}
use Rattle.rdx_lang.specs.Rules.{Split, SplitItems, SplitRun, split_seq, split_here, split_behind, split_many, run_here, run_there, run_behind}
use Rattle.rdx_bind.proofs.Extended.{one_spot}
use Rattle.rdx_bind.proofs.SplitRules.{at_its_path, path_there}
use Rattle.rdx_bind.specs.Spots.{Spot, SplitsAt, PlacedAt, ItemsSplitAt, splits_here, splits_behind, splits_many, RunSplitsAt, run_splits_here, run_splits_there, run_splits_behind}

-- the path is that of the term at this place, counted from n, and one inside the term
pub record IsInTerm (n : ℕ) (ts : Trees) (ks : List ℕ) : Type 0 where
  pub place : ℕ
  pub behind : List ℕ
  pub along : ks ≡ (n + place) ∷ behind
  pub within : place < trees_count ts
  pub inside : IsPlace (item_at ts place the_hole) behind

-- the context and the part of the term there
abbrev pub context_of : {n : ℕ} {ks : List ℕ} (ts : Trees) → IsInTerm n ts ks → Tree
context_of ts i = context_at (item_at ts i.place the_hole) i.behind

abbrev pub part_of : {n : ℕ} {ks : List ℕ} (ts : Trees) → IsInTerm n ts ks → Tree
part_of ts i = tree_at (item_at ts i.place the_hole) i.behind

-- the items split the term there
pub record SplitsItem (L : Language) (n : ℕ) (ps : Items) (ts : Trees) (r : Spot) : Type 0 where
  pub at : IsInTerm n ts r.path
  pub split : SplitItems L ps ts at.place (context_of ts at) (part_of ts at) r.binding

-- so does a run
record SplitsTerm (L : Language) (n : ℕ) (p : Pattern) (ps : Items) (ts : Trees) (ks : List ℕ) (cs : List Binding) (d : Binding) : Type 0 where
  pub at : IsInTerm n ts ks
  pub split : SplitRun L p ps ts at.place (context_of ts at) (part_of ts at) cs d

-- the first term
abbrev in_first : {n : ℕ} {t : Tree} {ts : Trees} {ks js : List ℕ} → ks ≡ n ∷ js → IsPlace t js → IsInTerm n (cons t ts) ks
in_first {n} {js = js} e h =
    let z : n ≡ n + 0 = omega arith in
    record { place = 0; behind = js; along = e ∙ ap (λ (k : ℕ). k ∷ js) z; within = omega arith; inside = h }

-- one of those behind it
abbrev in_later : {n : ℕ} {t : Tree} {ts : Trees} {ks : List ℕ} → IsInTerm (suc n) ts ks → IsInTerm n (cons t ts) ks
in_later {n} {ts = ts} i =
    let z : suc n + i.place ≡ n + suc i.place = omega arith in
    let within : i.place < trees_count ts = i.within in
    record { place = suc i.place; behind = i.behind; along = i.along ∙ ap (λ (k : ℕ). k ∷ i.behind) z; within = omega arith; inside = i.inside }

-- by a path that is equal
abbrev along_equal : {n : ℕ} {ts : Trees} {ks js : List ℕ} → ks ≡ js → IsInTerm n ts js → IsInTerm n ts ks
along_equal e i = record { place = i.place; behind = i.behind; along = e ∙ i.along; within = i.within; inside = i.inside }

-- a term that is split at the path of its context
placed_there : {L : Language} {p : Pattern} {t D u : Tree} {c : Binding} (n : ℕ) → Split L p t D u c → PlacedAt L n p t (record { path = n ∷ path D; binding = c })
placed_there {D = D} {c = c} n h = record { spot = record { path = path D; binding = c }; split = at_its_path h; placed = record { path = refl; binding = refl } }

mutual
  -- items that split their terms do so at the place of the one, and the path in it
  items_at_path : {L : Language} {ps : Items} {ts : Trees} {k : ℕ} {D u : Tree} {b : Binding} (n : ℕ) → SplitItems L ps ts k D u b
      → ItemsSplitAt L n ps ts (record { path = (n + k) ∷ path D; binding = b })
  items_at_path {D = D} n (split_here h g j) =
      let z : n + 0 ≡ n = omega arith in
      splits_here (placed_there n h) g j (ap (λ (l : ℕ). l ∷ path D) z)
  items_at_path {D = D} n (split_behind {k = k} h g j) =
      let z : n + suc k ≡ suc n + k = omega arith in
      splits_behind h (items_at_path (suc n) g) j (ap (λ (l : ℕ). l ∷ path D) z)
  items_at_path n (split_many h e j) = splits_many (run_at_path n h) e j

  -- so do runs
  run_at_path : {L : Language} {p : Pattern} {ps : Items} {ts : Trees} {k : ℕ} {D u : Tree} {cs : List Binding} {d : Binding} (n : ℕ) → SplitRun L p ps ts k D u cs d
      → RunSplitsAt L n p ps ts ((n + k) ∷ path D) cs d
  run_at_path {D = D} n (run_here h r) =
      let z : n + 0 ≡ n = omega arith in
      run_splits_here (placed_there n h) r (ap (λ (l : ℕ). l ∷ path D) z)
  run_at_path {L = L} {p = p} {ps = ps} {D = D} {d = d} n (run_there {t = t} {ts = ts} {k = k} {c = c} {cs = cs} h r) =
      let z : suc n + k ≡ n + suc k = omega arith in
      subst (λ (l : ℕ). RunSplitsAt L n p ps (cons t ts) (l ∷ path D) (c ∷ cs) d) z (run_splits_there h (run_at_path (suc n) r))
  run_at_path n (run_behind g) = run_splits_behind (items_at_path n g) refl

mutual
  -- and the other way
  pub item_there : {L : Language} {n : ℕ} {ps : Items} {ts : Trees} {r : Spot} → ItemsSplitAt L n ps ts r → SplitsItem L n ps ts r
  item_there {L} {r = r} (splits_here {p = p} {t = t} h g j e) =
      let split : Split L p t (context_at t h.spot.path) (tree_at t h.spot.path) h.spot.binding = h.split.split in
      record {
        at = in_first (e ∙ h.placed.path) h.split.inside;
        split = split_here split g (subst (λ (c : Binding). IsJoin c _ r.binding) h.placed.binding j);
      }
  item_there (splits_behind m g j e) =
      let i = item_there g in
      record { at = in_later (along_equal e i.at); split = split_behind m i.split j }
  item_there (splits_many h e j) = let i = run_in h in record { at = i.at; split = split_many i.split e j }

  -- so do runs
  run_in : {L : Language} {n : ℕ} {p : Pattern} {ps : Items} {ts : Trees} {ks : List ℕ} {cs : List Binding} {d : Binding} → RunSplitsAt L n p ps ts ks cs d
      → SplitsTerm L n p ps ts ks cs d
  run_in {L} {p = p} {ps = ps} {d = d} (run_splits_here {t = t} {ts = ts} {s = s} {cs = cs} h m e) =
      let c : Binding = h.spot.binding in
      let split : SplitRun L p ps (cons t ts) 0 (context_at t h.spot.path) (tree_at t h.spot.path) (c ∷ cs) d = run_here h.split.split m in
      record {
        at = in_first (e ∙ h.placed.path) h.split.inside;
        split = subst (λ (b : Binding). SplitRun L p ps (cons t ts) 0 (context_at t h.spot.path) (tree_at t h.spot.path) (b ∷ cs) d) (sym h.placed.binding) split;
      }
  run_in (run_splits_there m h) = let i = run_in h in record { at = in_later i.at; split = run_there m i.split }
  run_in (run_splits_behind g e) =
      let i = item_there g in
      record { at = along_equal e i.at; split = run_behind i.split }

module _ {L : Language} where
  -- where items split, so does their list
  pub list_splits : {ps : Items} {m : Option ℕ} {ts : Trees} (r : Spot) → ItemsSplitAt L 0 ps ts r → SplitsAt L (seq ps) (list m ts) r
  list_splits {ps} {m} {ts} r h =
      let i = item_there h in
      let k : ℕ = i.at.place in
      let ks : List ℕ = i.at.behind in
      let item : Tree = item_at ts k the_hole in
      let z : 0 + k ≡ k = omega arith in
      let along : k ∷ ks ≡ r.path = sym (i.at.along ∙ ap (λ (l : ℕ). l ∷ ks) z) in
      let split : Split L (seq ps) (list m ts) (context_at (list m ts) (k ∷ ks)) (tree_at item ks) r.binding = split_seq i.split (context_at-item m ts k ks the_hole i.at.within) in
      let there : SplitsAt L (seq ps) (list m ts) (record { path = k ∷ ks; binding = r.binding }) = record {
        inside = IsPlace-item m ts k ks the_hole i.at.within i.at.inside;
        split = subst (λ (u : Tree). Split L (seq ps) (list m ts) (context_at (list m ts) (k ∷ ks)) u r.binding) (sym (tree_at-item m ts k ks the_hole i.at.within)) split;
      } in
      subst (SplitsAt L (seq ps) (list m ts)) (one_spot (record { path = k ∷ ks; binding = r.binding }) r along refl) there

  -- where a list splits, its items do
  pub items_split : {ps : Items} {m : Option ℕ} {ts : Trees} (r : Spot) → SplitsAt L (seq ps) (list m ts) r → ItemsSplitAt L 0 ps ts r
  items_split {ps} {m} {ts} r h =
      let i = seq_splits h.split in
      let same : i.items ≡ ts = sym (ap tree_items i.same) in
      let k : ℕ = 0 + i.place in
      let z : i.place ≡ 0 + i.place = omega arith in
      let ks : List ℕ = path i.inner in
      let along : r.path ≡ k ∷ ks =
      sym (path_there r h) ∙ ap path i.around ∙ ap (λ (js : List ℕ). i.place ∷ js) (path_at-put i.items i.place i.inner (items-along i.split).inside) ∙ ap (λ (l : ℕ). l ∷ ks) z in
      let there : ItemsSplitAt L 0 ps ts (record { path = k ∷ ks; binding = r.binding }) = subst (λ (us : Trees). ItemsSplitAt L 0 ps us (record { path = k ∷ ks; binding = r.binding })) same (items_at_path 0 i.split) in
      subst (ItemsSplitAt L 0 ps ts) (one_spot (record { path = k ∷ ks; binding = r.binding }) r (sym along) refl) there
