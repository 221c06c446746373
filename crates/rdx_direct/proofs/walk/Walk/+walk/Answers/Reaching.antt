-- The answers on what patterns reach.
use Rattle.std.proofs.Common.{arith, ◌≡◌, ◌∙◌, ℕ, suc, ◌+◌, Bool, IsTrue, None, List, [], ◌∷◌, drop, map, length, refl, ap, sym, subst}
use Rattle.std.specs.Prelude.{◌&&◌, ◌||◌}
use Rattle.std.proofs.lemmas.Bool.Decides.{nat_tests}
use Rattle.std.proofs.lemmas.Result.{IfOk-weaker}
use Rattle.rdx_term.specs.AtPaths.{IsPlace, tree_at}
use Rattle.rdx_term.specs.Tree.{Tree, Trees, Contents, list, trees}
use Rattle.rdx_term.specs.View.{tree_of, trees_of}
use Rattle.rdx_lang.proofs.Collecting.{In_along, collects-next, collects-end}
use Rattle.rdx_lang.proofs.ItemsAhead.{ahead-one, ahead-many}
use Rattle.rdx_lang.proofs.Rest.{rest_at, rest_none}
use Rattle.rdx_lang.specs.Bindings.{Binding}
use Rattle.rdx_lang.specs.Checked.{language_in}
use Rattle.rdx_lang.specs.Collecting.{Arises, HasExactly}
use Rattle.rdx_lang.specs.Members.{In, here}
use Rattle.rdx_lang.specs.Patterns.{Pattern, Items, Language, many}
use Rattle.rdx_lang.specs.PatternView.{pattern_of, slot_of, items_of}
use Rattle.rdx_lang.specs.Rules.{Match}
use Rattle.rdx_lang.specs.Shown.{bindings_of}
use Rattle.rdx_bind.proofs.AcrossRows.{bindings_are_maps}
use Rattle.rdx_bind.proofs.Gathering.{adds_exactly, exactly_added}
use Rattle.rdx_direct.proofs.GoingLaws.{not_true, not_false, rest_done, rest_more}
use Rattle.rdx_direct.proofs.PlainLaws.{plain_parts}
use Rattle.rdx_direct.proofs.ReachLaws.{RestDone, StillReach, StillTurns, Turned, TurnsDone, at_the_end, done_at, done_matched, left_unmatched, next_at, over_unmatched, reach_done, reach_left, reach_over, reach_short, rest_done_at, short_unmatched, turned_at, unmatched, list_between, list_matched, placed_reached}
use Rattle.rdx_direct.proofs.PartLaws.{GoesAt, GoesWithName, goes_reached, goes_named_reached, named_after, named_before}
use Rattle.rdx_direct.specs.Inside.Going.{Goes, NamedAt}
use Rattle.rdx_direct.specs.Inside.Plain.{are_plain}
use Rattle.rdx_direct.specs.Inside.Paths.{Leads, paths_in}
use Rattle.rdx_direct.specs.declared.paths.Paths.{Paths}
use Rattle.std.specs.Prelude.{Vec}
use Rattle.std.specs.declared.alloc.Global.{Global}
use Rattle.rdx_direct.specs.Inside.Wanted.{Anything, IsWanted, Wants}
use Rattle.rdx_direct.proofs.WantedLaws.{for_some}
use Rattle.rdx_direct.specs.Inside.Reaching.{Between, PlacedReach}
use Rattle.rdx_direct.proofs.walk.Walk.+walk.Goals as goal

pub reach_at-returns-clause-paths : goal.reach_at-returns-clause-paths
reach_at-returns-clause-paths t c =
    let L : Language = language_in c.args.self.now.language.now in
    let Q : Tree → Type 0 = Wants L c.args.wanted in
    let p : Pattern = pattern_of c.args.pat.now in
    let u : Tree = tree_of c.args.t.now in
    let xs : Paths = c.in_ok-paths.paths in
    subst (λ (a : Bool). Between (λ w. IsTrue a × PlacedReach L Q c.args.place p u w) (λ w. IsTrue a × PlacedReach L Anything c.args.place p u w) xs) (sym c.if-not-asked.false)
    (placed_reached c.args.place c.in_ok-fits-2.field-0.paths xs c.in_ok-paths.ensures c.in_ok-fits-2.ensures.paths)

pub reach_list-returns-else-not-are_plain-clause-fits : goal.reach_list-returns-else-not-are_plain-clause-fits
reach_list-returns-else-not-are_plain-clause-fits t c =
    let ts = c.items.result.now in
    let same : tree_of c.args.t.now ≡ list c.in-List.node.value.mark (trees_of ts) =
    ap tree_of c.in-List.is ∙ ap (λ (us : List Tree). list c.in-List.node.value.mark (trees us)) (ap (λ (l : Contents). l.items) (sym c.deref.ensures) ∙ sym c.items.ensures.value) in
    IfOk-weaker c.reach_items.result _ _ (λ v f. list_matched (tree_of c.args.t.now) c.in-List.node.value.mark v.fits same (c.if-not-are_plain.ensures refl) f) c.reach_items.ensures.fits

pub reach_list-returns-else-not-are_plain-clause-paths : goal.reach_list-returns-else-not-are_plain-clause-paths
reach_list-returns-else-not-are_plain-clause-paths t c =
    let ts = c.items.result.now in
    let same : tree_of c.args.t.now ≡ list c.in-List.node.value.mark (trees_of ts) =
    ap tree_of c.in-List.is ∙ ap (λ (us : List Tree). list c.in-List.node.value.mark (trees us)) (ap (λ (l : Contents). l.items) (sym c.deref.ensures) ∙ sym c.items.ensures.value) in
    IfOk-weaker c.reach_items.result _ _ (λ v b. list_between (tree_of c.args.t.now) c.in-List.node.value.mark same (c.if-not-are_plain.ensures refl) b) c.reach_items.ensures.paths

-- ---- in the hole of a pattern that binds nothing

pub go_reached-part_at-part-requires : goal.go_reached-part_at-part-requires
go_reached-part_at-part-requires t c =
    let L : Language = language_in c.args.self.now.language.now in
    let r : Pattern = pattern_of c.args.right.now in
    let Q : Tree → Type 0 = IsWanted L r None in
    let p : Pattern = pattern_of c.args.left.now in
    let u : Tree = tree_of c.args.t.now in
    let xs = c.deref-path-items.result.now in
    let i : ℕ = c.loop-path.path-index in
    let s : List ℕ = c.path-item.result.items in
    let e : paths_in (drop i xs) ≡ s ∷ paths_in (drop (i + 1) xs) = rest_at (λ (p : Vec ℕ Global). p.items) xs i c.path-item.result c.loop-path-test.true c.path-item.is in
    let b : HasExactly (paths_in xs) (Leads c.in_ok-reached.reached.paths) = subst (λ ys. HasExactly (paths_in ys) (Leads c.in_ok-reached.reached.paths)) (sym c.deref-path-items.ensures.value) c.in_ok-paths.ensures in
    let a : In s (paths_in xs) = c.loop-path.invariant.part s (In_along (s ∷ paths_in (drop (i + 1) xs)) (paths_in (drop i xs)) (sym e) (here refl)) in
    subst (IsPlace u) (sym (c.deref-in-loop-path.ensures.value)) (c.in_ok-reached.ensures.paths.sound s (b.sound s a)).split.inside

pub go_reached-loop-path-preserved : goal.go_reached-loop-path-preserved
go_reached-loop-path-preserved t c =
    let L : Language = language_in c.args.self.now.language.now in
    let nothing : List Binding = [] in
    let gs : List Binding = bindings_of c.args.given.items in
    let r : Pattern = pattern_of c.args.right.now in
    let Q : Tree → Type 0 = IsWanted L r None in
    let xs = c.deref-path-items.result.now in
    let i : ℕ = c.loop-path.path-index in
    let s : List ℕ = c.path-item.result.items in
    let u : Tree = tree_of c.part_at-part.result.now in
    let step : List ℕ → Binding → Type 0 = GoesAt L r (tree_of c.args.t.now) gs in
    let old : List Binding = bindings_of c.loop-path.found.items in
    let new : List Binding = bindings_of c.add_all.new.found.items in
    let inners : List Binding = bindings_of c.in_ok-inners.inners.items in
    let same : bindings_of c.in_ok-shared.shared.items ≡ gs = c.in_ok-shared.ensures ∙ ap bindings_of c.deref.ensures.value in
    let e : paths_in (drop i xs) ≡ s ∷ paths_in (drop (i + 1) xs) = rest_at (λ (p : Vec ℕ Global). p.items) xs i c.path-item.result c.loop-path-test.true c.path-item.is in
    let f : u ≡ tree_at (tree_of c.args.t.now) s = c.part_at-part.ensures ∙ ap (tree_at (tree_of c.args.t.now)) (c.deref-in-loop-path.ensures.value) in
    let g : HasExactly inners (step s) = subst (λ v. HasExactly inners (Goes (Match L r v) gs)) f (subst (λ hs. HasExactly inners (Goes (Match L r u) hs)) same c.in_ok-inners.ensures) in
    collects-next step (paths_in xs) nothing s (paths_in (drop i xs)) (paths_in (drop (i + 1) xs)) old new e c.loop-path.invariant (adds_exactly inners old new g c.in_ok-add_all.ensures)

pub go_reached-returns : goal.go_reached-returns
go_reached-returns t c =
    let L : Language = language_in c.args.self.now.language.now in
    let nothing : List Binding = [] in
    let gs : List Binding = bindings_of c.args.given.items in
    let r : Pattern = pattern_of c.args.right.now in
    let Q : Tree → Type 0 = IsWanted L r None in
    let p : Pattern = pattern_of c.args.left.now in
    let u : Tree = tree_of c.args.t.now in
    let xs = c.deref-path-items.result.now in
    let i : ℕ = c.loop-path.path-index in
    let step : List ℕ → Binding → Type 0 = GoesAt L r u gs in
    let found : List Binding = bindings_of c.loop-path.found.items in
    let b : HasExactly (paths_in xs) (Leads c.in_ok-reached.reached.paths) = subst (λ ys. HasExactly (paths_in ys) (Leads c.in_ok-reached.reached.paths)) (sym c.deref-path-items.ensures.value) c.in_ok-paths.ensures in
    let a : HasExactly found (Arises step (paths_in xs)) = exactly_added (Arises step (paths_in xs)) (collects-end step (paths_in xs) (paths_in (drop i xs)) nothing found (rest_none (λ (p : Vec ℕ Global). p.items) xs i (omega arith)) c.loop-path.invariant) in
    goes_reached c.requires c.in_ok-reached.ensures.paths (paths_in xs) b gs (λ v m. record { fits = m; size = tt }) a

pub go_named_reached-part_at-requires : goal.go_named_reached-part_at-requires
go_named_reached-part_at-requires t c =
    let L : Language = language_in c.args.self.now.language.now in
    let r : Pattern = pattern_of c.args.right.now in
    let Q : Tree → Type 0 = IsWanted L r c.part_nodes-nodes.result in
    let p : Pattern = pattern_of c.args.left.now in
    let u : Tree = tree_of c.args.t.now in
    let xs = c.deref-path-items.result.now in
    let i : ℕ = c.loop-path.path-index in
    let s : List ℕ = c.path-item.result.items in
    let e : paths_in (drop i xs) ≡ s ∷ paths_in (drop (i + 1) xs) = rest_at (λ (p : Vec ℕ Global). p.items) xs i c.path-item.result c.loop-path-test.true c.path-item.is in
    let b : HasExactly (paths_in xs) (Leads c.in_ok-reached.reached.paths) = subst (λ ys. HasExactly (paths_in ys) (Leads c.in_ok-reached.reached.paths)) (sym c.deref-path-items.ensures.value) c.in_ok-paths.ensures in
    let a : In s (paths_in xs) = c.loop-path.invariant.part s (In_along (s ∷ paths_in (drop (i + 1) xs)) (paths_in (drop i xs)) (sym e) (here refl)) in
    subst (IsPlace u) (sym (c.deref-in-loop-path-2.ensures.value)) (c.in_ok-reached.ensures.paths.sound s (b.sound s a)).split.inside

pub go_named_reached-returns : goal.go_named_reached-returns
go_named_reached-returns t c =
    let L : Language = language_in c.args.self.now.language.now in
    let nothing : List Binding = [] in
    let gs : List Binding = bindings_of c.args.given.items in
    let r : Pattern = pattern_of c.args.right.now in
    let Q : Tree → Type 0 = IsWanted L r c.part_nodes-nodes.result in
    let p : Pattern = pattern_of c.args.left.now in
    let u : Tree = tree_of c.args.t.now in
    let xs = c.deref-path-items.result.now in
    let i : ℕ = c.loop-path.path-index in
    let step : List ℕ → Binding → Type 0 = GoesWithName L r u c.args.name.now gs in
    let found : List Binding = bindings_of c.loop-path.found.items in
    let b : HasExactly (paths_in xs) (Leads c.in_ok-reached.reached.paths) = subst (λ ys. HasExactly (paths_in ys) (Leads c.in_ok-reached.reached.paths)) (sym c.deref-path-items.ensures.value) c.in_ok-paths.ensures in
    let a : HasExactly found (Arises step (paths_in xs)) = exactly_added (Arises step (paths_in xs)) (collects-end step (paths_in xs) (paths_in (drop i xs)) nothing found (rest_none (λ (p : Vec ℕ Global). p.items) xs i (omega arith)) c.loop-path.invariant) in
    goes_named_reached c.requires c.in_ok-reached.ensures.paths (paths_in xs) b gs c.args.name.now (λ w h k l o m. record { fits = m; size = for_some c.part_nodes-nodes.result c.part_nodes-nodes.ensures (λ n f. f w h k (subst (λ hs. In h (bindings_of hs)) (sym c.deref.ensures.value) l) o) }) a

pub go_named_reached-loop-path-preserved : goal.go_named_reached-loop-path-preserved
go_named_reached-loop-path-preserved t c =
    let L : Language = language_in c.args.self.now.language.now in
    let nothing : List Binding = [] in
    let gs : List Binding = bindings_of c.args.given.items in
    let r : Pattern = pattern_of c.args.right.now in
    let x = c.args.name.now in
    let u : Tree = tree_of c.args.t.now in
    let xs = c.deref-path-items.result.now in
    let i : ℕ = c.loop-path.path-index in
    let s : List ℕ = c.path-item.result.items in
    let step : List ℕ → Binding → Type 0 = GoesWithName L r u x gs in
    let old : List Binding = bindings_of c.loop-path.found.items in
    let new : List Binding = bindings_of c.add_all.new.found.items in
    let both : List Binding = bindings_of c.in_ok-both.both.items in
    let same : bindings_of c.in_ok-shared.shared.items ≡ gs = c.in_ok-shared.ensures ∙ ap bindings_of c.deref-in-loop-path.ensures.value in
    let e : paths_in (drop i xs) ≡ s ∷ paths_in (drop (i + 1) xs) = rest_at (λ (p : Vec ℕ Global). p.items) xs i c.path-item.result c.loop-path-test.true c.path-item.is in
    let f : c.deref-in-loop-path-3.result.now ≡ s = c.deref-in-loop-path-3.ensures.value in
    let g : HasExactly both (step s) = subst (λ (ks : List ℕ). HasExactly both (Goes (NamedAt L r u x ks) gs)) f
    (subst (λ (hs : List Binding). HasExactly both (Goes (NamedAt L r u x c.deref-in-loop-path-3.result.now) hs)) same c.in_ok-both.ensures) in
    collects-next step (paths_in xs) nothing s (paths_in (drop i xs)) (paths_in (drop (i + 1) xs)) old new e c.loop-path.invariant (adds_exactly both old new g c.in_ok-add_all.ensures)

pub go_with_context-returns-then-has_name : goal.go_with_context-returns-then-has_name
go_with_context-returns-then-has_name t c =
    IfOk-weaker c.go.result _ _ (λ v h. named_before (tree_of c.args.t.now) (tree_of c.part_at-part.result.now) c.args.name.now c.args.path.now (bindings_of c.args.given.items)
    (bindings_are_maps c.args.given.items) c.part_at-part.ensures (bindings_of c.in_ok-outers.outers.items) (bindings_of v.items) c.in_ok-outers.ensures h) c.go.ensures

pub go_with_context-returns : goal.go_with_context-returns
go_with_context-returns t c =
    IfOk-weaker c.with_context-2.result _ _ (λ v h. named_after (tree_of c.args.t.now) (tree_of c.part_at-part.result.now) c.args.name.now c.args.path.now (bindings_of c.args.given.items)
    (bindings_are_maps c.args.given.items) c.part_at-part.ensures (bindings_of c.in_ok-inners.inners.items) (bindings_of v.items) c.in_ok-inners.ensures h) c.with_context-2.ensures

-- ---- one more turn at a time

pub reach_many-reach_items-requires : goal.reach_many-reach_items-requires
reach_many-reach_items-requires t c =
    (omega arith, (plain_parts (pattern_of c.args.turns.pat.now) None (items_of (map slot_of c.args.turns.rest.now)) c.requires.plain).behind)

pub reach_many-reach_items-requires-2 : goal.reach_many-reach_items-requires-2
reach_many-reach_items-requires-2 t c =
    (omega arith, (plain_parts (pattern_of c.args.turns.pat.now) None (items_of (map slot_of c.args.turns.rest.now)) c.requires.plain).behind)

pub reach_many-loop-i-preserved : goal.reach_many-loop-i-preserved
reach_many-loop-i-preserved t c =
    let L : Language = language_in c.args.self.now.language.now in
    let Q : Tree → Type 0 = Wants L c.args.wanted in
    let p : Pattern = pattern_of c.args.turns.pat.now in
    let ps : Items = items_of (map slot_of c.args.turns.rest.now) in
    let all : Trees = trees_of c.args.ts.now in
    let us : Trees = trees_of (drop (c.loop-i.i + 1) c.args.ts.now) in
    let y : suc (c.args.place + c.loop-i.i) ≡ c.args.place + (c.loop-i.i + 1) = omega arith in
    let turned : Turned L Q p ps c.args.place all (c.args.place + c.loop-i.i) us c.in_ok-paths-2.paths c.in_ok-turn.turn.fits (c.loop-i.fits || c.in_ok-end.end.fits) = turned_at c.args.place (trees_of c.args.ts.now) c.loop-i.paths c.in_ok-end.end.paths c.in_ok-paths.paths c.in_ok-turn.turn.paths c.in_ok-more.more c.in_ok-paths-2.paths c.loop-i.fits c.in_ok-end.end.fits
    c.in_ok-turn.turn.fits c.requires.plain c.requires.from c.in_ok-here.ensures (ap trees (rest_at tree_of c.args.ts.now c.loop-i.i c.index-ts-i.result (omega arith) c.index-ts-i.is)) (ap trees_of c.split_at.ensures.back)
    (ap trees_of c.split_at-in-loop-i.ensures.back) c.in_ok-end.ensures.fits c.in_ok-end.ensures.paths c.in_ok-paths.ensures c.in_ok-turn.ensures.fits c.in_ok-turn.ensures.paths c.in_ok-more.ensures c.in_ok-paths-2.ensures
    c.loop-i.invariant in
    subst (λ k. StillTurns L Q p ps c.args.place all k us c.in_ok-paths-2.paths (c.loop-i.fits || c.in_ok-end.end.fits)) y (turned.next (not_false c.in_ok-turn.turn.fits c.if-not-turn.false))

pub reach_many-returns-then-not-turn-clause-fits : goal.reach_many-returns-then-not-turn-clause-fits
reach_many-returns-then-not-turn-clause-fits t c =
    let L : Language = language_in c.args.self.now.language.now in
    let turned : Turned L (Wants L c.args.wanted) (pattern_of c.args.turns.pat.now) (items_of (map slot_of c.args.turns.rest.now)) c.args.place (trees_of c.args.ts.now) (c.args.place + c.loop-i.i)
    (trees_of (drop (c.loop-i.i + 1) c.args.ts.now)) c.in_ok-paths-2.paths c.in_ok-turn.turn.fits (c.loop-i.fits || c.in_ok-end.end.fits) = turned_at c.args.place (trees_of c.args.ts.now) c.loop-i.paths c.in_ok-end.end.paths c.in_ok-paths.paths c.in_ok-turn.turn.paths c.in_ok-more.more c.in_ok-paths-2.paths c.loop-i.fits c.in_ok-end.end.fits
    c.in_ok-turn.turn.fits c.requires.plain c.requires.from c.in_ok-here.ensures (ap trees (rest_at tree_of c.args.ts.now c.loop-i.i c.index-ts-i.result (omega arith) c.index-ts-i.is)) (ap trees_of c.split_at.ensures.back)
    (ap trees_of c.split_at-in-loop-i.ensures.back) c.in_ok-end.ensures.fits c.in_ok-end.ensures.paths c.in_ok-paths.ensures c.in_ok-turn.ensures.fits c.in_ok-turn.ensures.paths c.in_ok-more.ensures c.in_ok-paths-2.ensures
    c.loop-i.invariant in
    turned.last_fit (not_true c.in_ok-turn.turn.fits c.if-not-turn.true)

pub reach_many-returns-then-not-turn-clause-paths : goal.reach_many-returns-then-not-turn-clause-paths
reach_many-returns-then-not-turn-clause-paths t c =
    let L : Language = language_in c.args.self.now.language.now in
    let turned : Turned L (Wants L c.args.wanted) (pattern_of c.args.turns.pat.now) (items_of (map slot_of c.args.turns.rest.now)) c.args.place (trees_of c.args.ts.now) (c.args.place + c.loop-i.i)
    (trees_of (drop (c.loop-i.i + 1) c.args.ts.now)) c.in_ok-paths-2.paths c.in_ok-turn.turn.fits (c.loop-i.fits || c.in_ok-end.end.fits) = turned_at c.args.place (trees_of c.args.ts.now) c.loop-i.paths c.in_ok-end.end.paths c.in_ok-paths.paths c.in_ok-turn.turn.paths c.in_ok-more.more c.in_ok-paths-2.paths c.loop-i.fits c.in_ok-end.end.fits
    c.in_ok-turn.turn.fits c.requires.plain c.requires.from c.in_ok-here.ensures (ap trees (rest_at tree_of c.args.ts.now c.loop-i.i c.index-ts-i.result (omega arith) c.index-ts-i.is)) (ap trees_of c.split_at.ensures.back)
    (ap trees_of c.split_at-in-loop-i.ensures.back) c.in_ok-end.ensures.fits c.in_ok-end.ensures.paths c.in_ok-paths.ensures c.in_ok-turn.ensures.fits c.in_ok-turn.ensures.paths c.in_ok-more.ensures c.in_ok-paths-2.ensures
    c.loop-i.invariant in
    turned.last (not_true c.in_ok-turn.turn.fits c.if-not-turn.true)

pub reach_many-returns-clause-fits : goal.reach_many-returns-clause-fits
reach_many-returns-clause-fits t c =
    let L : Language = language_in c.args.self.now.language.now in
    let done : TurnsDone L (Wants L c.args.wanted) (pattern_of c.args.turns.pat.now) (items_of (map slot_of c.args.turns.rest.now)) c.args.place (trees_of c.args.ts.now) c.in_ok-paths-3.paths
    (c.loop-i.fits || c.in_ok-end-2.end.fits) = done_at c.args.place (trees_of c.args.ts.now) c.loop-i.paths c.in_ok-end-2.end.paths c.in_ok-paths-3.paths c.loop-i.fits c.in_ok-end-2.end.fits c.requires.plain
    (c.in_ok-here-2.ensures ∙ at_the_end c.args.place c.loop-i.i (length c.args.ts.now) (omega arith) (omega arith)) (ap trees (rest_none tree_of c.args.ts.now c.loop-i.i (omega arith)))
    (ap trees_of c.split_at-2.ensures.back ∙ ap trees (rest_none tree_of c.args.ts.now (length c.args.ts.now) (omega arith)) ∙ sym (ap trees (rest_none tree_of c.args.ts.now c.loop-i.i (omega arith))))
    c.in_ok-end-2.ensures.fits c.in_ok-end-2.ensures.paths c.in_ok-paths-3.ensures c.loop-i.invariant in
    done.fit

pub reach_many-returns-clause-paths : goal.reach_many-returns-clause-paths
reach_many-returns-clause-paths t c =
    let L : Language = language_in c.args.self.now.language.now in
    let done : TurnsDone L (Wants L c.args.wanted) (pattern_of c.args.turns.pat.now) (items_of (map slot_of c.args.turns.rest.now)) c.args.place (trees_of c.args.ts.now) c.in_ok-paths-3.paths
    (c.loop-i.fits || c.in_ok-end-2.end.fits) = done_at c.args.place (trees_of c.args.ts.now) c.loop-i.paths c.in_ok-end-2.end.paths c.in_ok-paths-3.paths c.loop-i.fits c.in_ok-end-2.end.fits c.requires.plain
    (c.in_ok-here-2.ensures ∙ at_the_end c.args.place c.loop-i.i (length c.args.ts.now) (omega arith) (omega arith)) (ap trees (rest_none tree_of c.args.ts.now c.loop-i.i (omega arith)))
    (ap trees_of c.split_at-2.ensures.back ∙ ap trees (rest_none tree_of c.args.ts.now (length c.args.ts.now) (omega arith)) ∙ sym (ap trees (rest_none tree_of c.args.ts.now c.loop-i.i (omega arith))))
    c.in_ok-end-2.ensures.fits c.in_ok-end-2.ensures.paths c.in_ok-paths-3.ensures c.loop-i.invariant in
    done.reached

-- ---- items, from the first on

pub reach_items-returns-then-i-ts-clause-fits : goal.reach_items-returns-then-i-ts-clause-fits
reach_items-returns-then-i-ts-clause-fits t c =
    unmatched c.nothing.result.fits c.nothing.ensures.fits (short_unmatched c.args.place (items_of (map slot_of c.args.items.now)) (trees_of c.args.ts.now) (c.args.place + c.loop-i.i) c.loop-i.paths c.loop-i.all
    (ahead-one c.args.items.now c.loop-i.i c.index-items-i.result (omega arith) c.index-items-i.is c.in-One.pat c.in-One.is) (ap trees (rest_none tree_of c.args.ts.now c.loop-i.i (omega arith))) c.loop-i.invariant.1)

pub reach_items-returns-then-i-ts-clause-paths : goal.reach_items-returns-then-i-ts-clause-paths
reach_items-returns-then-i-ts-clause-paths t c =
    reach_short c.args.place (items_of (map slot_of c.args.items.now)) (trees_of c.args.ts.now) (c.args.place + c.loop-i.i) c.loop-i.paths c.loop-i.all
    (ahead-one c.args.items.now c.loop-i.i c.index-items-i.result (omega arith) c.index-items-i.is c.in-One.pat c.in-One.is) (ap trees (rest_none tree_of c.args.ts.now c.loop-i.i (omega arith))) c.nothing.ensures.paths c.loop-i.invariant.1

pub reach_items-loop-i-preserved : goal.reach_items-loop-i-preserved
reach_items-loop-i-preserved t c =
    let L : Language = language_in c.args.self.now.language.now in
    let Q : Tree → Type 0 = Wants L c.args.wanted in
    let whole : Items = items_of (map slot_of c.args.items.now) in
    let all : Trees = trees_of c.args.ts.now in
    let rest : Items = items_of (map slot_of (drop (c.loop-i.i + 1) c.args.items.now)) in
    let us : Trees = trees_of (drop (c.loop-i.i + 1) c.args.ts.now) in
    let new : Paths = c.in_ok-paths-in-One.paths in
    let both : Bool = c.loop-i.all && c.in_ok-fits-in-One.field-0.fits in
    let still : StillReach L Q c.args.place whole all (suc (c.args.place + c.loop-i.i)) rest us new both =
    next_at c.args.place whole all c.loop-i.paths c.in_ok-fits-in-One.field-0.paths new c.loop-i.all c.in_ok-fits-in-One.field-0.fits c.in_ok-here.ensures
    (ahead-one c.args.items.now c.loop-i.i c.index-items-i.result (omega arith) c.index-items-i.is c.in-One.pat c.in-One.is)
    (ap trees (rest_at tree_of c.args.ts.now c.loop-i.i c.index-ts-i.result (omega arith) c.index-ts-i.is)) c.in_ok-fits-in-One.ensures.fits c.in_ok-fits-in-One.ensures.paths c.in_ok-paths-in-One.ensures c.loop-i.invariant.1 in
    let y : suc (c.args.place + c.loop-i.i) ≡ c.args.place + (c.loop-i.i + 1) = omega arith in
    (omega arith, subst (λ k. StillReach L Q c.args.place whole all k rest us new both) y still)

pub reach_items-returns-then-not-all-clause-fits : goal.reach_items-returns-then-not-all-clause-fits
reach_items-returns-then-not-all-clause-fits t c =
    let L : Language = language_in c.args.self.now.language.now in
    let Q : Tree → Type 0 = Wants L c.args.wanted in
    let whole : Items = items_of (map slot_of c.args.items.now) in
    let all : Trees = trees_of c.args.ts.now in
    let rest : Items = items_of (map slot_of (drop (c.loop-i.i + 1) c.args.items.now)) in
    let us : Trees = trees_of (drop (c.loop-i.i + 1) c.args.ts.now) in
    let new : Paths = c.in_ok-paths-in-One.paths in
    let both : Bool = c.loop-i.all && c.in_ok-fits-in-One.field-0.fits in
    let still : StillReach L Q c.args.place whole all (suc (c.args.place + c.loop-i.i)) rest us new both =
    next_at c.args.place whole all c.loop-i.paths c.in_ok-fits-in-One.field-0.paths new c.loop-i.all c.in_ok-fits-in-One.field-0.fits c.in_ok-here.ensures
    (ahead-one c.args.items.now c.loop-i.i c.index-items-i.result (omega arith) c.index-items-i.is c.in-One.pat c.in-One.is)
    (ap trees (rest_at tree_of c.args.ts.now c.loop-i.i c.index-ts-i.result (omega arith) c.index-ts-i.is)) c.in_ok-fits-in-One.ensures.fits c.in_ok-fits-in-One.ensures.paths c.in_ok-paths-in-One.ensures c.loop-i.invariant.1 in
    unmatched c.nothing-then-not-all.result.fits c.nothing-then-not-all.ensures.fits (over_unmatched c.args.place whole all (suc (c.args.place + c.loop-i.i)) new both c.if-not-all.true still)

pub reach_items-returns-then-not-all-clause-paths : goal.reach_items-returns-then-not-all-clause-paths
reach_items-returns-then-not-all-clause-paths t c =
    let L : Language = language_in c.args.self.now.language.now in
    let Q : Tree → Type 0 = Wants L c.args.wanted in
    let whole : Items = items_of (map slot_of c.args.items.now) in
    let all : Trees = trees_of c.args.ts.now in
    let rest : Items = items_of (map slot_of (drop (c.loop-i.i + 1) c.args.items.now)) in
    let us : Trees = trees_of (drop (c.loop-i.i + 1) c.args.ts.now) in
    let new : Paths = c.in_ok-paths-in-One.paths in
    let both : Bool = c.loop-i.all && c.in_ok-fits-in-One.field-0.fits in
    let still : StillReach L Q c.args.place whole all (suc (c.args.place + c.loop-i.i)) rest us new both =
    next_at c.args.place whole all c.loop-i.paths c.in_ok-fits-in-One.field-0.paths new c.loop-i.all c.in_ok-fits-in-One.field-0.fits c.in_ok-here.ensures
    (ahead-one c.args.items.now c.loop-i.i c.index-items-i.result (omega arith) c.index-items-i.is c.in-One.pat c.in-One.is)
    (ap trees (rest_at tree_of c.args.ts.now c.loop-i.i c.index-ts-i.result (omega arith) c.index-ts-i.is)) c.in_ok-fits-in-One.ensures.fits c.in_ok-fits-in-One.ensures.paths c.in_ok-paths-in-One.ensures c.loop-i.invariant.1 in
    reach_over c.args.place whole all (suc (c.args.place + c.loop-i.i)) new both (c.if-is_empty.ensures refl) c.if-not-all.true c.nothing-then-not-all.ensures.paths still

pub reach_items-reach_rest-requires : goal.reach_items-reach_rest-requires
reach_items-reach_rest-requires t c =
    let L : Language = language_in c.args.self.now.language.now in
    let Q : Tree → Type 0 = Wants L c.args.wanted in
    let whole : Items = items_of (map slot_of c.args.items.now) in
    let all : Trees = trees_of c.args.ts.now in
    let i : ℕ = c.loop-i.i in
    let n : ℕ = c.args.place + i in
    let p : Pattern = pattern_of c.in-Many.pat in
    let qs : Items = items_of (map slot_of (drop (i + 1) c.args.items.now)) in
    let e : items_of (map slot_of (drop i c.args.items.now)) ≡ many p c.in-Many.field-1 qs = ahead-many c.args.items.now i c.index-items-i.result (omega arith) c.index-items-i.is c.in-Many.pat c.in-Many.field-1 c.in-Many.is in
    let k : c.in-Many.field-1 ≡ None = (plain_parts p c.in-Many.field-1 qs (ap are_plain (sym e) ∙ c.loop-i.invariant.1.plain)).unnamed in
    let d : items_of (map slot_of (drop i c.args.items.now)) ≡ many p None qs = e ∙ ap (λ o. many p o qs) k in
    let o : items_of (map slot_of c.split_at-in-Many.result.1.now) ≡ qs = ap (λ x. items_of (map slot_of x)) c.split_at-in-Many.ensures.back in (
      omega arith,
      (
        ap (λ v. are_plain (many p None v)) o ∙ ap are_plain (sym d) ∙ c.loop-i.invariant.1.plain,
        ap (λ v. items_of (map slot_of v)) c.split_at.ensures.back ∙ d ∙ ap (λ v. many p None v) (sym o),
      ),
    )

pub reach_items-returns-in-Many-clause-fits : goal.reach_items-returns-in-Many-clause-fits
reach_items-returns-in-Many-clause-fits t c =
    let qs : Items = items_of (map slot_of (drop (c.loop-i.i + 1) c.args.items.now)) in
    let p : Pattern = pattern_of c.in-Many.pat in
    let e : items_of (map slot_of (drop c.loop-i.i c.args.items.now)) ≡ many p c.in-Many.field-1 qs = ahead-many c.args.items.now c.loop-i.i c.index-items-i.result (omega arith) c.index-items-i.is c.in-Many.pat c.in-Many.field-1 c.in-Many.is in
    let k : c.in-Many.field-1 ≡ None = (plain_parts p c.in-Many.field-1 qs (ap are_plain (sym e) ∙ c.loop-i.invariant.1.plain)).unnamed in
    let o : items_of (map slot_of c.split_at-in-Many.result.1.now) ≡ qs = ap (λ x. items_of (map slot_of x)) c.split_at-in-Many.ensures.back in
    let g : many p None (items_of (map slot_of c.split_at-in-Many.result.1.now)) ≡ items_of (map slot_of (drop c.loop-i.i c.args.items.now)) = ap (λ v. many p None v) o ∙ sym (e ∙ ap (λ n. many p n qs) k) in
    let L : Language = language_in c.args.self.now.language.now in
    let done : RestDone L (Wants L c.args.wanted) c.args.place (items_of (map slot_of c.args.items.now)) (trees_of c.args.ts.now) c.in_ok-paths-in-Many.paths (c.loop-i.all && c.in_ok-fits-in-Many.field-0.fits) =
    rest_done_at c.args.place (items_of (map slot_of c.args.items.now)) (trees_of c.args.ts.now) c.loop-i.paths c.in_ok-fits-in-Many.field-0.paths c.in_ok-paths-in-Many.paths c.loop-i.all c.in_ok-fits-in-Many.field-0.fits
    c.in_ok-here.ensures g (ap trees_of c.split_at-in-Many-2.ensures.back) c.in_ok-fits-in-Many.ensures.fits c.in_ok-fits-in-Many.ensures.paths c.in_ok-paths-in-Many.ensures c.loop-i.invariant.1 in
    done.fit

pub reach_items-returns-in-Many-clause-paths : goal.reach_items-returns-in-Many-clause-paths
reach_items-returns-in-Many-clause-paths t c =
    let qs : Items = items_of (map slot_of (drop (c.loop-i.i + 1) c.args.items.now)) in
    let p : Pattern = pattern_of c.in-Many.pat in
    let e : items_of (map slot_of (drop c.loop-i.i c.args.items.now)) ≡ many p c.in-Many.field-1 qs = ahead-many c.args.items.now c.loop-i.i c.index-items-i.result (omega arith) c.index-items-i.is c.in-Many.pat c.in-Many.field-1 c.in-Many.is in
    let k : c.in-Many.field-1 ≡ None = (plain_parts p c.in-Many.field-1 qs (ap are_plain (sym e) ∙ c.loop-i.invariant.1.plain)).unnamed in
    let o : items_of (map slot_of c.split_at-in-Many.result.1.now) ≡ qs = ap (λ x. items_of (map slot_of x)) c.split_at-in-Many.ensures.back in
    let g : many p None (items_of (map slot_of c.split_at-in-Many.result.1.now)) ≡ items_of (map slot_of (drop c.loop-i.i c.args.items.now)) = ap (λ v. many p None v) o ∙ sym (e ∙ ap (λ n. many p n qs) k) in
    let L : Language = language_in c.args.self.now.language.now in
    let done : RestDone L (Wants L c.args.wanted) c.args.place (items_of (map slot_of c.args.items.now)) (trees_of c.args.ts.now) c.in_ok-paths-in-Many.paths (c.loop-i.all && c.in_ok-fits-in-Many.field-0.fits) =
    rest_done_at c.args.place (items_of (map slot_of c.args.items.now)) (trees_of c.args.ts.now) c.loop-i.paths c.in_ok-fits-in-Many.field-0.paths c.in_ok-paths-in-Many.paths c.loop-i.all c.in_ok-fits-in-Many.field-0.fits
    c.in_ok-here.ensures g (ap trees_of c.split_at-in-Many-2.ensures.back) c.in_ok-fits-in-Many.ensures.fits c.in_ok-fits-in-Many.ensures.paths c.in_ok-paths-in-Many.ensures c.loop-i.invariant.1 in
    done.reached

pub reach_items-returns-clause-fits : goal.reach_items-returns-clause-fits
reach_items-returns-clause-fits t c =
    done_matched c.args.place (items_of (map slot_of c.args.items.now)) (trees_of c.args.ts.now) (c.args.place + c.loop-i.i) (map tree_of (drop c.loop-i.i c.args.ts.now)) c.loop-i.paths c.loop-i.all
    (ap items_of (rest_none slot_of c.args.items.now c.loop-i.i (omega arith))) (rest_done tree_of c.args.ts.now c.loop-i.i (length c.args.items.now) (omega arith) (grind (arith, nat_tests))) c.loop-i.invariant.1

pub reach_items-returns-clause-paths : goal.reach_items-returns-clause-paths
reach_items-returns-clause-paths t c =
    reach_done c.args.place (items_of (map slot_of c.args.items.now)) (trees_of c.args.ts.now) (c.args.place + c.loop-i.i) (map tree_of (drop c.loop-i.i c.args.ts.now)) c.loop-i.paths c.loop-i.all
    (ap items_of (rest_none slot_of c.args.items.now c.loop-i.i (omega arith))) (rest_done tree_of c.args.ts.now c.loop-i.i (length c.args.items.now) (omega arith) (grind (arith, nat_tests))) c.loop-i.invariant.1

pub reach_items-returns-then-not-end-clause-fits : goal.reach_items-returns-then-not-end-clause-fits
reach_items-returns-then-not-end-clause-fits t c =
    unmatched c.nothing-then-not-end.result.fits c.nothing-then-not-end.ensures.fits (left_unmatched c.args.place (items_of (map slot_of c.args.items.now)) (trees_of c.args.ts.now) (c.args.place + c.loop-i.i) (map tree_of (drop c.loop-i.i c.args.ts.now)) c.loop-i.paths c.loop-i.all
    (ap items_of (rest_none slot_of c.args.items.now c.loop-i.i (omega arith))) (rest_more tree_of c.args.ts.now c.loop-i.i (length c.args.items.now) (omega arith) (grind (arith, nat_tests))) c.loop-i.invariant.1)

pub reach_items-returns-then-not-end-clause-paths : goal.reach_items-returns-then-not-end-clause-paths
reach_items-returns-then-not-end-clause-paths t c =
    reach_left c.args.place (items_of (map slot_of c.args.items.now)) (trees_of c.args.ts.now) (c.args.place + c.loop-i.i) (map tree_of (drop c.loop-i.i c.args.ts.now)) c.loop-i.paths c.loop-i.all
    (ap items_of (rest_none slot_of c.args.items.now c.loop-i.i (omega arith))) (rest_more tree_of c.args.ts.now c.loop-i.i (length c.args.items.now) (omega arith) (grind (arith, nat_tests))) c.nothing-then-not-end.ensures.paths c.loop-i.invariant.1

pub go_named_reached-go_with_context-requires : goal.go_named_reached-go_with_context-requires
go_named_reached-go_with_context-requires t c =
    let L : Language = language_in c.args.self.now.language.now in
    let r : Pattern = pattern_of c.args.right.now in
    let Q : Tree → Type 0 = IsWanted L r c.part_nodes-nodes.result in
    let p : Pattern = pattern_of c.args.left.now in
    let u : Tree = tree_of c.args.t.now in
    let xs = c.deref-path-items.result.now in
    let i : ℕ = c.loop-path.path-index in
    let s : List ℕ = c.path-item.result.items in
    let e : paths_in (drop i xs) ≡ s ∷ paths_in (drop (i + 1) xs) = rest_at (λ (p : Vec ℕ Global). p.items) xs i c.path-item.result c.loop-path-test.true c.path-item.is in
    let b : HasExactly (paths_in xs) (Leads c.in_ok-reached.reached.paths) = subst (λ ys. HasExactly (paths_in ys) (Leads c.in_ok-reached.reached.paths)) (sym c.deref-path-items.ensures.value) c.in_ok-paths.ensures in
    let a : In s (paths_in xs) = c.loop-path.invariant.part s (In_along (s ∷ paths_in (drop (i + 1) xs)) (paths_in (drop i xs)) (sym e) (here refl)) in
    (omega arith, subst (IsPlace u) (sym (c.deref-in-loop-path-3.ensures.value)) (c.in_ok-reached.ensures.paths.sound s (b.sound s a)).split.inside)
