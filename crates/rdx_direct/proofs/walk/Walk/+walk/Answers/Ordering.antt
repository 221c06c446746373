-- The answers on items that are walked in another order, and on a repetition at the end.
use Rattle.std.proofs.Common.{arith, ◌≡◌, ℕ, ◌+◌, ◌++◌, List, [], ◌∷◌, drop, map, length, refl, ap, sym, subst}
use Rattle.std.proofs.lemmas.Grind.{common_steps}
use Rattle.std.proofs.lemmas.List.{length-map}
use Rattle.std.proofs.lemmas.Result.{IfOk-weaker}
use Rattle.rdx_term.specs.Tree.{cons, trees}
use Rattle.rdx_term.specs.View.{tree_of, trees_of}
use Rattle.rdx_lang.proofs.ItemsAhead.{ahead-many}
use Rattle.rdx_lang.proofs.Rest.{rest_at, rest_none}
use Rattle.rdx_lang.specs.Bindings.{Binding}
use Rattle.rdx_lang.specs.Checked.{language_in}
use Rattle.rdx_lang.specs.Patterns.{Pattern, Language, many}
use Rattle.rdx_lang.specs.PatternView.{pattern_of, slot_of, items_of}
use Rattle.rdx_lang.specs.Shown.{bindings_of}
use Rattle.rdx_bind.proofs.AcrossRows.{bindings_are_maps}
use Rattle.rdx_bind.proofs.PartListings.{no_bindings}
use Rattle.rdx_direct.proofs.GoingLaws.{goes_none, fits_false}
use Rattle.rdx_direct.proofs.ItemLaws.{fits_rest, run_next, run_not, run_done}
use Rattle.rdx_direct.proofs.RunLaws.{wrong_length}
use Rattle.rdx_direct.proofs.TogetherLaws.{pairs, items_together, together_items, together_start, together_equal, together_left, together_walked, together_over, together_popped, together_whole, together_nothing, together_done}
use Rattle.rdx_direct.specs.Inside.Going.{FitAll}
use Rattle.rdx_direct.specs.Inside.Together.{pair_of, pairs_of}
use Rattle.rdx_direct.proofs.walk.Walk.+walk.Goals as goal

pub fit_all-returns-in-Many : goal.fit_all-returns-in-Many
fit_all-returns-in-Many t c =
    let L : Language = language_in c.args.self.now.language.now in
    let items = c.args.items.now in
    let ts = c.args.ts.now in
    let i : ℕ = c.loop-i.i in
    let p : Pattern = pattern_of c.in-Many.pat in
    let n = c.in-Many.length in
    let e : items_of (map slot_of (drop i items)) ≡ many p n (items_of (map slot_of (drop (i + 1) items))) = ahead-many items i c.index-items-i.result (omega arith) c.index-items-i.is c.in-Many.pat c.in-Many.length c.in-Many.is in
    IfOk-weaker c.fit_end.result _ _ (λ v h.
    let k : FitAll L (many p n (items_of (map slot_of (drop (i + 1) items)))) (trees_of (drop i ts)) v =
    subst (λ x. FitAll L (many p n (items_of (map slot_of x))) (trees_of (drop i ts)) v) c.split_at.ensures.back
    (subst (λ x. FitAll L (many p n (items_of (map slot_of c.split_at.result.1.now))) (trees_of x) v) c.split_at-in-Many.ensures.back h) in
    fits_rest (items_of (map slot_of items)) (trees_of ts) v c.loop-i.invariant.1 (subst (λ x. FitAll L x (trees_of (drop i ts)) v) (sym e) k)) c.fit_end.ensures

pub fit_run-returns-then-not-branch : goal.fit_run-returns-then-not-branch
fit_run-returns-then-not-branch t c =
    let ts = c.args.ts.now in
    let i : ℕ = c.loop-t.t-index in
    let u = c.t-item.result in
    let e : trees_of (drop i ts) ≡ cons (tree_of u) (trees_of (drop (i + 1) ts)) = ap trees (rest_at tree_of ts i u c.loop-t-test.true c.t-item.is) in
    run_not (trees_of ts) e (fits_false c.in_ok-fits.field-0 c.if-not-branch.true c.in_ok-fits.ensures) c.loop-t.invariant

pub fit_run-loop-t-preserved : goal.fit_run-loop-t-preserved
fit_run-loop-t-preserved t c =
    let ts = c.args.ts.now in
    let i : ℕ = c.loop-t.t-index in
    let u = c.t-item.result in
    let e : trees_of (drop i ts) ≡ cons (tree_of u) (trees_of (drop (i + 1) ts)) = ap trees (rest_at tree_of ts i u c.loop-t-test.true c.t-item.is) in
    run_next (trees_of ts) e (c.in_ok-fits.ensures.0 c.if-not-branch.false) c.loop-t.invariant

pub fit_run-returns : goal.fit_run-returns
fit_run-returns t c =
    let ts = c.args.ts.now in
    let i : ℕ = c.loop-t.t-index in
    run_done (trees_of ts) (ap trees (rest_none tree_of ts i c.loop-t-test.false)) c.loop-t.invariant

-- ---- items that are one term's each

pub go_singles-returns-then-items-ts : goal.go_singles-returns-then-items-ts
go_singles-returns-then-items-ts t c =
    let L : Language = language_in c.args.self.now.language.now in
    let slots = map slot_of c.args.items.now in
    let ts = map tree_of c.args.ts.now in
    let e : length slots ≡ length c.args.items.now = length-map c.args.items.now slot_of in
    let f : length ts ≡ length c.args.ts.now = length-map c.args.ts.now tree_of in
    goes_none (bindings_of c.args.given.items) (bindings_of c.new.result.items) (ap bindings_of c.new.ensures.items)
    (λ b m. wrong_length {L = L} slots ts b c.requires (λ n. absurd (omega arith)) m)

pub go_singles-loop-i-init : goal.go_singles-loop-i-init
go_singles-loop-i-init t c =
    let L : Language = language_in c.args.self.now.language.now in
    let slots = map slot_of c.args.items.now in
    let ts = map tree_of c.args.ts.now in
    let gs : List Binding = bindings_of c.args.given.items in
    let e : length slots ≡ length c.args.items.now = length-map c.args.items.now slot_of in
    let f : length ts ≡ length c.args.ts.now = length-map c.args.ts.now tree_of in
    let n : length slots ≡ length ts = omega arith in
    together_equal gs (ap (λ xs. pairs_of xs ++ pairs slots ts) (sym c.new-later.ensures.items))
    (together_start {L = L} gs (pairs slots ts) gs refl (λ b m. items_together slots ts b c.requires n m) (λ b m. together_items slots ts b c.requires n m))

pub go_singles-loop-i-preserved-then-is_hard : goal.go_singles-loop-i-preserved-then-is_hard
go_singles-loop-i-preserved-then-is_hard t c =
    let items = c.args.items.now in
    let ts = c.args.ts.now in
    let i : ℕ = c.loop-i.i in
    let gs : List Binding = bindings_of c.args.given.items in
    let e : pairs_of c.push.new.self.items ≡ pairs_of c.loop-i.later.items ++ (pattern_of c.pattern_in-pat.result.now, tree_of c.index-ts-i.result) ∷ [] = grind (arith, common_steps) in
    together_left gs (pairs_of c.loop-i.later.items) (bindings_of c.loop-i.found.items) (rest_at slot_of items i c.index-items-i.result (omega arith) c.index-items-i.is) (rest_at tree_of ts i c.index-ts-i.result (omega arith) c.index-ts-i.is)
    c.pattern_in-pat.ensures e c.loop-i.invariant

pub go_singles-loop-i-preserved : goal.go_singles-loop-i-preserved
go_singles-loop-i-preserved t c =
    let items = c.args.items.now in
    let ts = c.args.ts.now in
    let i : ℕ = c.loop-i.i in
    let gs : List Binding = bindings_of c.args.given.items in
    together_walked gs (pairs_of c.loop-i.later.items) (bindings_of c.loop-i.found.items) (bindings_of c.in_ok-found.found.items) (bindings_are_maps c.loop-i.found.items) c.in_ok-found.ensures
    (rest_at slot_of items i c.index-items-i.result (omega arith) c.index-items-i.is) (rest_at tree_of ts i c.index-ts-i.result (omega arith) c.index-ts-i.is) c.pattern_in-pat.ensures c.loop-i.invariant

pub go_singles-returns-then-is_empty : goal.go_singles-returns-then-is_empty
go_singles-returns-then-is_empty t c =
    let items = c.args.items.now in
    let ts = c.args.ts.now in
    let i : ℕ = c.loop-i.i in
    let gs : List Binding = bindings_of c.args.given.items in
    let n : bindings_of c.in_ok-found.found.items ≡ [] = no_bindings c.in_ok-found.found.items (grind (arith, common_steps)) in
    together_nothing gs (bindings_of c.in_ok-found.found.items) (bindings_of c.in_ok-found.found.items) n n
    (together_walked gs (pairs_of c.loop-i.later.items) (bindings_of c.loop-i.found.items) (bindings_of c.in_ok-found.found.items) (bindings_are_maps c.loop-i.found.items) c.in_ok-found.ensures
    (rest_at slot_of items i c.index-items-i.result (omega arith) c.index-items-i.is) (rest_at tree_of ts i c.index-ts-i.result (omega arith) c.index-ts-i.is) c.pattern_in-pat.ensures c.loop-i.invariant)

pub go_singles-returns : goal.go_singles-returns
go_singles-returns t c =
    let items = c.args.items.now in
    let i : ℕ = c.loop-i.i in
    let gs : List Binding = bindings_of c.args.given.items in
    let found : List Binding = bindings_of c.loop-i.found.items in
    let xs = pairs_of c.loop-i.later.items in
    IfOk-weaker c.go_later.result _ _ (λ v h. together_whole gs xs found (bindings_of v.items) (together_over gs xs (map tree_of (drop i c.args.ts.now)) found (rest_none slot_of items i (omega arith)) c.loop-i.invariant) h) c.go_later.ensures

-- ---- what was left for later

pub go_later-loop-next-init : goal.go_later-loop-next-init
go_later-loop-next-init t c =
    let gs : List Binding = bindings_of c.args.given.items in
    together_start gs (pairs_of c.args.later.items) gs refl (λ b m. m) (λ b m. m)

pub go_later-loop-next-preserved : goal.go_later-loop-next-preserved
go_later-loop-next-preserved t c =
    let gs : List Binding = bindings_of c.args.given.items in
    let e : pairs_of c.loop-next.rest.items ≡ pairs_of c.pop.new.self.items ++ pair_of c.in-Some.next ∷ [] = grind (arith, common_steps) in
    together_popped gs (pairs_of c.pop.new.self.items) (bindings_of c.loop-next.found.items) (bindings_of c.in_ok-found.found.items) (bindings_are_maps c.loop-next.found.items) c.in_ok-found.ensures e c.loop-next.invariant

pub go_later-returns : goal.go_later-returns
go_later-returns t c =
    let gs : List Binding = bindings_of c.args.given.items in
    let e : pairs_of c.loop-next.rest.items ≡ [] = grind (arith, common_steps) in
    together_done gs (bindings_of c.loop-next.found.items) (bindings_are_maps c.loop-next.found.items) e c.loop-next.invariant
