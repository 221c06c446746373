-- The answers on what a search splits.
use Rattle.std.proofs.Common.{arith, ◌≡◌, ℕ, ◌+◌, ◌&&◌, List, [], ◌∷◌, length, drop, map, refl, ap, sym, ◌∙◌, subst, add-one}
use Rattle.std.proofs.lemmas.Grind.{common_steps}
use Rattle.std.proofs.lemmas.List.{nil_from_length}
use Rattle.std.proofs.lemmas.Result.{IfOk-weaker}
use Rattle.rdx_term.specs.AtPaths.{IsPlace, tree_at}
use Rattle.rdx_term.specs.Tree.{Tree}
use Rattle.rdx_term.specs.View.{tree_of}
use Rattle.rdx_lang.proofs.Collecting.{collects-next, collects-end, In_along}
use Rattle.rdx_lang.specs.Collecting.{Arises, Adds, HasExactly}
use Rattle.rdx_lang.specs.Members.{In, here}
use Rattle.rdx_lang.specs.Checked.{language_in}
use Rattle.rdx_lang.proofs.PatternEquations.{pattern_hole, pattern_nt, pattern_closed, pattern_seq}
use Rattle.rdx_lang.specs.Patterns.{Pattern, Items, Language, hole, nt, closed, seq}
use Rattle.rdx_lang.specs.PatternView.{pattern_of, patterns_of, slot_of, items_of}
use Rattle.rdx_lang.proofs.Rest.{rest_at, rest_none}
use Rattle.rdx_lang.specs.Shown.{bindings_of}
use Rattle.rdx_bind.specs.Namings.{naming_of}
use Rattle.rdx_bind.specs.Spots.{Spot, SplitsAt, spot_of, spots_of}
use Rattle.rdx_bind.proofs.Gathering.{exactly_as, exactly_added, adds_exactly}
use Rattle.rdx_bind.proofs.SplitRules.{SplitsOn, exactly_hole, exactly_any, exactly_nt, exactly_closed, exactly_named, exactly_in_hole, adds_splits}
use Rattle.std.proofs.Common.{Bool, nat_le}
use Rattle.rdx_term.specs.Tree.{Contents, list, trees}
use Rattle.rdx_term.specs.View.{trees_of}
use Rattle.rdx_lang.proofs.ItemsAhead.{ahead-one}
use Rattle.rdx_lang.specs.Bindings.{Binding}
use Rattle.rdx_bind.proofs.AcrossRows.{bindings_are_maps}
use Rattle.rdx_bind.proofs.SplitRules.{MatchesOn}
use Rattle.rdx_direct.proofs.GoingLaws.{rest_done, rest_more}
use Rattle.rdx_direct.proofs.InHoleLaws.{goes_there, goes_in_hole}
use Rattle.rdx_direct.proofs.SplitLaws.{splits_short, splits_nothing, splits_next, splits_done, list_split}
use Rattle.rdx_direct.specs.Inside.Going.{Goes, Joins}
use Rattle.rdx_direct.proofs.walk.Walk.+walk.Goals as goal

pub split_in_hole-part_at-requires : goal.split_in_hole-part_at-requires
split_in_hole-part_at-requires t c =
    let L : Language = language_in c.args.self.now.language.now in
    let xs = c.deref-outer-items.result.now in
    let i : ℕ = c.loop-outer.outer-index in
    let s : Spot = spot_of c.outer-item.result in
    let e : spots_of (drop i xs) ≡ s ∷ spots_of (drop (i + 1) xs) = rest_at spot_of xs i c.outer-item.result c.loop-outer-test.true c.outer-item.is in
    let h : HasExactly (spots_of xs) (SplitsAt L (pattern_of c.args.left.now) (tree_of c.args.t.now)) =
    subst (λ ys. HasExactly (spots_of ys) (SplitsAt L (pattern_of c.args.left.now) (tree_of c.args.t.now))) (sym c.deref-outer-items.ensures.value) c.in_ok-spots.ensures in
    let a : In s (spots_of xs) = c.loop-outer.invariant.part s (In_along (s ∷ spots_of (drop (i + 1) xs)) (spots_of (drop i xs)) (sym e) (here refl)) in
    subst (IsPlace (tree_of c.args.t.now)) (sym (c.deref.ensures.value ∙ c.in_ok-path.ensures)) (h.sound s a).inside

pub split_in_hole-loop-outer-preserved : goal.split_in_hole-loop-outer-preserved
split_in_hole-loop-outer-preserved t c =
    let L : Language = language_in c.args.self.now.language.now in
    let nothing : List Spot = [] in
    let xs = c.deref-outer-items.result.now in
    let i : ℕ = c.loop-outer.outer-index in
    let s : Spot = spot_of c.outer-item.result in
    let u : Tree = tree_of c.part_at.result.now in
    let step = SplitsOn L (pattern_of c.args.right.now) (tree_of c.args.t.now) in
    let old : List Spot = spots_of c.loop-outer.gathered.spots.items in
    let new : List Spot = spots_of c.add_going_on.new.gathered.spots.items in
    let e : spots_of (drop i xs) ≡ s ∷ spots_of (drop (i + 1) xs) = rest_at spot_of xs i c.outer-item.result c.loop-outer-test.true c.outer-item.is in
    let f : u ≡ tree_at (tree_of c.args.t.now) s.path = c.part_at.ensures ∙ ap (tree_at (tree_of c.args.t.now)) (c.deref.ensures.value ∙ c.in_ok-path.ensures) in
    let a : Adds (step s) old new =
    adds_splits s u (spots_of c.in_ok-inners.inners.items) old new f c.in_ok-inners.ensures c.in_ok-add_going_on.ensures in
    collects-next step (spots_of xs) nothing s (spots_of (drop i xs)) (spots_of (drop (i + 1) xs)) old new e c.loop-outer.invariant a

pub split_in_hole-returns : goal.split_in_hole-returns
split_in_hole-returns t c =
    let L : Language = language_in c.args.self.now.language.now in
    let nothing : List Spot = [] in
    let xs = c.deref-outer-items.result.now in
    let i : ℕ = c.loop-outer.outer-index in
    let step = SplitsOn L (pattern_of c.args.right.now) (tree_of c.args.t.now) in
    let found : List Spot = spots_of c.loop-outer.gathered.spots.items in
    let h : HasExactly (spots_of xs) (SplitsAt L (pattern_of c.args.left.now) (tree_of c.args.t.now)) =
    subst (λ ys. HasExactly (spots_of ys) (SplitsAt L (pattern_of c.args.left.now) (tree_of c.args.t.now))) (sym c.deref-outer-items.ensures.value) c.in_ok-spots.ensures in
    let a : HasExactly found (Arises step (spots_of xs)) = exactly_added (Arises step (spots_of xs)) (collects-end step (spots_of xs) (spots_of (drop i xs)) nothing found (rest_none spot_of xs i (omega arith)) c.loop-outer.invariant) in
    exactly_in_hole (spots_of xs) h (exactly_as (λ w j. a.sound w j) (λ w j. a.complete w j) c.in_ok-distinct.ensures)

pub any_splits-loop-pat-preserved : goal.any_splits-loop-pat-preserved
any_splits-loop-pat-preserved t c =
    let L : Language = language_in c.args.self.now.language.now in
    let nothing : List Spot = [] in
    let xs = c.args.pats.now in
    let i : ℕ = c.loop-pat.pat-index in
    let p : Pattern = pattern_of c.pat-item.result in
    let step : Pattern → Spot → Type 0 = λ q s. SplitsAt L q (tree_of c.args.t.now) s in
    let old : List Spot = spots_of c.loop-pat.gathered.spots.items in
    let new : List Spot = spots_of c.add.new.self.spots.items in
    let e : patterns_of (drop i xs) ≡ p ∷ patterns_of (drop (i + 1) xs) = rest_at pattern_of xs i c.pat-item.result c.loop-pat-test.true c.pat-item.is in
    let a : Adds (step p) old new = adds_exactly (spots_of c.in_ok-spots.spots.items) old new c.in_ok-spots.ensures c.in_ok-add.ensures in
    collects-next step (patterns_of xs) nothing p (patterns_of (drop i xs)) (patterns_of (drop (i + 1) xs)) old new e c.loop-pat.invariant a

pub any_splits-returns : goal.any_splits-returns
any_splits-returns t c =
    let L : Language = language_in c.args.self.now.language.now in
    let nothing : List Spot = [] in
    let xs = c.args.pats.now in
    let i : ℕ = c.loop-pat.pat-index in
    let step : Pattern → Spot → Type 0 = λ q s. SplitsAt L q (tree_of c.args.t.now) s in
    let found : List Spot = spots_of c.loop-pat.gathered.spots.items in
    let a : HasExactly found (Arises step (patterns_of xs)) =
    exactly_added (Arises step (patterns_of xs)) (collects-end step (patterns_of xs) (patterns_of (drop i xs)) nothing found (rest_none pattern_of xs i (omega arith)) c.loop-pat.invariant) in
    exactly_any (patterns_of xs) found a c.in_ok-nameless.ensures

pub split_named-returns : goal.split_named-returns
split_named-returns t c = exactly_named (naming_of c.args.name) (spots_of c.in_ok-spots.spots.items) c.in_ok-spots.ensures c.in_ok-found.ensures

pub splits-returns-in_ok-whole-in-Hole : goal.splits-returns-in_ok-whole-in-Hole
splits-returns-in_ok-whole-in-Hole t c =
    let L : Language = language_in c.args.self.now.language.now in
    let e : pattern_of c.args.pat.now ≡ hole = ap pattern_of c.in-Hole.is ∙ pattern_hole in
    subst (λ p. HasExactly (spots_of c.in_ok-whole-in-Hole.field-0.items) (SplitsAt L p (tree_of c.args.t.now))) (sym e) (exactly_hole c.in_ok-whole-in-Hole.ensures)

pub splits-returns-in-Nt : goal.splits-returns-in-Nt
splits-returns-in-Nt t c =
    let L : Language = language_in c.args.self.now.language.now in
    let e : pattern_of c.args.pat.now ≡ nt c.in-Nt.name = ap pattern_of c.in-Nt.is ∙ pattern_nt c.in-Nt.name in
    IfOk-weaker c.any_splits.result _ _ (λ v h. subst (λ p. HasExactly (spots_of v.items) (SplitsAt L p (tree_of c.args.t.now))) (sym e)
    (exactly_nt (patterns_of c.choices.result.pats.now) c.choices.ensures.all h)) c.any_splits.ensures

pub splits-returns-in-Closed : goal.splits-returns-in-Closed
splits-returns-in-Closed t c =
    let L : Language = language_in c.args.self.now.language.now in
    let q : Pattern = pattern_of c.in-Closed.part.value in
    let e : pattern_of c.args.pat.now ≡ closed q = ap pattern_of c.in-Closed.is ∙ pattern_closed c.in-Closed.part in
    let ps : patterns_of c.from_ref.result.now ≡ q ∷ [] = ap patterns_of c.from_ref.ensures.value ∙ ap (λ p. pattern_of p ∷ []) c.deref-in-Closed.ensures in
    IfOk-weaker c.any_splits-in-Closed.result _ _ (λ v h. subst (λ p. HasExactly (spots_of v.items) (SplitsAt L p (tree_of c.args.t.now))) (sym e)
    (exactly_closed (patterns_of c.from_ref.result.now) ps h)) c.any_splits-in-Closed.ensures

pub splits-returns-in-Seq : goal.splits-returns-in-Seq
splits-returns-in-Seq t c =
    let L : Language = language_in c.args.self.now.language.now in
    let ps : Items = items_of (map slot_of c.in-Seq.items.items) in
    let e : pattern_of c.args.pat.now ≡ seq ps = ap pattern_of c.in-Seq.is ∙ pattern_seq c.in-Seq.items in
    IfOk-weaker c.split_list.result _ _ (λ v h.
    let k : HasExactly (spots_of v.items) (SplitsAt L (seq ps) (tree_of c.args.t.now)) = rw c.deref-in-Seq.ensures.value at h in
    subst (λ p. HasExactly (spots_of v.items) (SplitsAt L p (tree_of c.args.t.now))) (sym e) k) c.split_list.ensures

pub go_split-part_at-requires : goal.go_split-part_at-requires
go_split-part_at-requires t c =
    let L : Language = language_in c.args.self.now.language.now in
    let xs = c.deref-spot-items.result.now in
    let i : ℕ = c.loop-spot.spot-index in
    let s : Spot = spot_of c.spot-item.result in
    let e : spots_of (drop i xs) ≡ s ∷ spots_of (drop (i + 1) xs) = rest_at spot_of xs i c.spot-item.result c.loop-spot-test.true c.spot-item.is in
    let h : HasExactly (spots_of xs) (SplitsAt L (pattern_of c.args.left.now) (tree_of c.args.t.now)) =
    subst (λ ys. HasExactly (spots_of ys) (SplitsAt L (pattern_of c.args.left.now) (tree_of c.args.t.now))) (sym c.deref-spot-items.ensures.value) c.in_ok-spots.ensures in
    let a : In s (spots_of xs) = c.loop-spot.invariant.part s (In_along (s ∷ spots_of (drop (i + 1) xs)) (spots_of (drop i xs)) (sym e) (here refl)) in
    subst (IsPlace (tree_of c.args.t.now)) (sym (c.deref-in-loop-spot.ensures.value ∙ c.in_ok-path.ensures)) (h.sound s a).inside

pub go_split-loop-spot-preserved : goal.go_split-loop-spot-preserved
go_split-loop-spot-preserved t c =
    let L : Language = language_in c.args.self.now.language.now in
    let nothing : List Binding = [] in
    let gs : List Binding = bindings_of c.args.given.items in
    let xs = c.deref-spot-items.result.now in
    let i : ℕ = c.loop-spot.spot-index in
    let s : Spot = spot_of c.spot-item.result in
    let u : Tree = tree_of c.part_at.result.now in
    let step : Spot → Binding → Type 0 = λ z. Goes (MatchesOn L (pattern_of c.args.right.now) (tree_of c.args.t.now) z) gs in
    let old : List Binding = bindings_of c.loop-spot.found.items in
    let new : List Binding = bindings_of c.add_all.new.found.items in
    let shared : List Binding = bindings_of c.in_ok-shared.shared.items in
    let outers : List Binding = bindings_of c.in_ok-outers.outers.items in
    let inners : List Binding = bindings_of c.in_ok-inners.inners.items in
    let same : shared ≡ gs = c.in_ok-shared.ensures ∙ ap bindings_of c.deref.ensures.value in
    let e : spots_of (drop i xs) ≡ s ∷ spots_of (drop (i + 1) xs) = rest_at spot_of xs i c.spot-item.result c.loop-spot-test.true c.spot-item.is in
    let f : u ≡ tree_at (tree_of c.args.t.now) s.path = c.part_at.ensures ∙ ap (tree_at (tree_of c.args.t.now)) (c.deref-in-loop-spot.ensures.value ∙ c.in_ok-path.ensures) in
    let o : HasExactly outers (Joins s.binding gs) = subst (λ ys. HasExactly outers (Joins s.binding ys)) same c.in_ok-outers.ensures in
    let g : HasExactly inners (step s) = goes_there s u gs outers inners (bindings_are_maps c.args.given.items) (c.spot-item.result.binding.ascending, c.spot-item.result.binding.sets) f o c.in_ok-inners.ensures in
    let a : Adds (step s) old new = adds_exactly inners old new g c.in_ok-add_all.ensures in
    collects-next step (spots_of xs) nothing s (spots_of (drop i xs)) (spots_of (drop (i + 1) xs)) old new e c.loop-spot.invariant a

pub go_split-returns : goal.go_split-returns
go_split-returns t c =
    let L : Language = language_in c.args.self.now.language.now in
    let nothing : List Binding = [] in
    let gs : List Binding = bindings_of c.args.given.items in
    let xs = c.deref-spot-items.result.now in
    let i : ℕ = c.loop-spot.spot-index in
    let step : Spot → Binding → Type 0 = λ z. Goes (MatchesOn L (pattern_of c.args.right.now) (tree_of c.args.t.now) z) gs in
    let found : List Binding = bindings_of c.loop-spot.found.items in
    let h : HasExactly (spots_of xs) (SplitsAt L (pattern_of c.args.left.now) (tree_of c.args.t.now)) =
    subst (λ ys. HasExactly (spots_of ys) (SplitsAt L (pattern_of c.args.left.now) (tree_of c.args.t.now))) (sym c.deref-spot-items.ensures.value) c.in_ok-spots.ensures in
    let a : HasExactly found (Arises step (spots_of xs)) = exactly_added (Arises step (spots_of xs)) (collects-end step (spots_of xs) (spots_of (drop i xs)) nothing found (rest_none spot_of xs i (omega arith)) c.loop-spot.invariant) in
    goes_in_hole (spots_of xs) gs found h a

pub split_items-returns-then-i-ts : goal.split_items-returns-then-i-ts
split_items-returns-then-i-ts t c =
    let items = c.args.items.now in
    let ts = c.args.ts.now in
    let i : ℕ = c.loop-i.i in
    splits_short (items_of (map slot_of items)) (trees_of ts) i (spots_of c.loop-i.spots.items) (spots_of c.new.result.items) c.loop-i.all
    (ahead-one items i c.index-items-i.result (omega arith) c.index-items-i.is c.in-One.pat c.in-One.is) (ap trees (rest_none tree_of ts i (omega arith))) (ap spots_of c.new.ensures.items) c.loop-i.invariant

pub split_items-returns-then-not-all : goal.split_items-returns-then-not-all
split_items-returns-then-not-all t c =
    let items = c.args.items.now in
    let ts = c.args.ts.now in
    let i : ℕ = c.loop-i.i in
    let u = c.index-ts-i.result in
    let n : length c.in_ok-spots-in-One.spots.items ≡ 0 = grind (arith, common_steps) in
    let z : spots_of c.in_ok-spots-in-One.spots.items ≡ [] = ap spots_of (nil_from_length c.in_ok-spots-in-One.spots.items n) in
    splits_nothing (items_of (map slot_of items)) (trees_of ts) (i + 1) (spots_of c.in_ok-spots-in-One.spots.items) (spots_of c.in_ok-spots-in-One.spots.items) (c.loop-i.all && c.in_ok-so-in-One.so) z z c.if-not-all.true
    (splits_next (items_of (map slot_of items)) (trees_of ts) i (i + 1) (spots_of c.loop-i.spots.items) (spots_of c.in_ok-more-in-One.more.items) (spots_of c.in_ok-spots-in-One.spots.items) c.loop-i.all c.in_ok-so-in-One.so (c.loop-i.all && c.in_ok-so-in-One.so) (add-one i) refl
    (ahead-one items i c.index-items-i.result (omega arith) c.index-items-i.is c.in-One.pat c.in-One.is) (ap trees (rest_at tree_of ts i u (omega arith) c.index-ts-i.is)) c.in_ok-so-in-One.ensures c.in_ok-more-in-One.ensures c.in_ok-spots-in-One.ensures c.loop-i.invariant)

pub split_items-loop-i-preserved : goal.split_items-loop-i-preserved
split_items-loop-i-preserved t c =
    let items = c.args.items.now in
    let ts = c.args.ts.now in
    let i : ℕ = c.loop-i.i in
    let u = c.index-ts-i.result in
    splits_next (items_of (map slot_of items)) (trees_of ts) i (i + 1) (spots_of c.loop-i.spots.items) (spots_of c.in_ok-more-in-One.more.items) (spots_of c.in_ok-spots-in-One.spots.items) c.loop-i.all c.in_ok-so-in-One.so (c.loop-i.all && c.in_ok-so-in-One.so) (add-one i) refl
    (ahead-one items i c.index-items-i.result (omega arith) c.index-items-i.is c.in-One.pat c.in-One.is) (ap trees (rest_at tree_of ts i u (omega arith) c.index-ts-i.is)) c.in_ok-so-in-One.ensures c.in_ok-more-in-One.ensures c.in_ok-spots-in-One.ensures c.loop-i.invariant

pub split_items-returns : goal.split_items-returns
split_items-returns t c =
    let items = c.args.items.now in
    let ts = c.args.ts.now in
    let i : ℕ = c.loop-i.i in
    let so : Bool = nat_le (length ts) (length items) in
    splits_done (items_of (map slot_of items)) (trees_of ts) i (spots_of c.loop-i.spots.items) (spots_of c.spots_where.result.items) c.loop-i.all (map tree_of (drop i ts)) so
    (ap items_of (rest_none slot_of items i (omega arith))) (rest_done tree_of ts i (length items) (omega arith)) (rest_more tree_of ts i (length items) (omega arith)) c.spots_where.ensures c.loop-i.invariant

pub split_list-returns-else-not-are_plain : goal.split_list-returns-else-not-are_plain
split_list-returns-else-not-are_plain t c =
    let ts = c.items.result.now in
    let same : tree_of c.args.t.now ≡ list c.in-List.node.value.mark (trees_of ts) =
    ap tree_of c.in-List.is ∙ ap (λ (us : List Tree). list c.in-List.node.value.mark (trees us)) (ap (λ (l : Contents). l.items) (sym c.deref.ensures) ∙ sym c.items.ensures.value) in
    IfOk-weaker c.split_items.result _ _ (λ v h. list_split (spots_of v.items) (tree_of c.args.t.now) c.in-List.node.value.mark same h) c.split_items.ensures
