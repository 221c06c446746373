mod Splitting
mod Running
mod Ordering
mod Reaching
mod Knowing
use Rattle.std.proofs.Common.{arith, ◌≡◌, ℕ, ◌+◌, List, [], ◌∷◌, Bool, true, false, nat_le, nat_eq, vec_len, drop, map, length, refl, ap, sym, ◌∙◌, subst}
use Rattle.std.proofs.lemmas.Result.{IfOk-weaker}
use Rattle.rdx_term.specs.View.{tree_of}
use Rattle.rdx_lang.proofs.PatternEquations.{pattern_nt, pattern_named, pattern_hide_hole, pattern_closed, pattern_seq}
use Rattle.rdx_lang.proofs.Rest.{rest_at, rest_none}
use Rattle.rdx_lang.specs.Bindings.{Binding}
use Rattle.rdx_lang.specs.Checked.{language_in}
use Rattle.rdx_lang.specs.Collecting.{HasExactly}
use Rattle.rdx_lang.specs.Members.{In}
use Rattle.rdx_lang.specs.Patterns.{Pattern, Language, nt, named, hide_hole, closed, seq}
use Rattle.rdx_lang.specs.PatternView.{pattern_of, patterns_of, slot_of, items_of}
use Rattle.rdx_lang.specs.Rules.{Match}
use Rattle.rdx_lang.specs.Shown.{bindings_of}
use Rattle.rdx_bind.proofs.AcrossRows.{bindings_are_maps}
use Rattle.rdx_bind.proofs.AnyOf.{untried_first, untried_next, untried_none}
use Rattle.rdx_direct.proofs.GoingLaws.{alone_at, alone_nt, alone_closed, fits_alone, fits_hidden, goes_at, goes_alone, goes_hidden, goes_under, fits_found}
use Rattle.std.proofs.lemmas.Grind.{common_steps}
use Rattle.std.proofs.Common.{IsTrue}
use Rattle.std.specs.Prelude.{◌↔◌}
use Rattle.rdx_term.specs.Tree.{Tree, Contents, list, trees}
use Rattle.rdx_term.specs.View.{trees_of}
use Rattle.rdx_lang.proofs.ItemsAhead.{ahead-one}
use Rattle.rdx_bind.proofs.PartListings.{no_bindings}
use Rattle.rdx_bind.specs.Namings.{naming_of}
use Rattle.rdx_direct.proofs.GoingLaws.{fits_false, is_zero, rest_done, rest_more}
use Rattle.rdx_direct.proofs.PlainLaws.{fits_under}
use Rattle.rdx_direct.proofs.ItemLaws.{fits_short, fits_not, fits_next, fits_end, still_short, still_next, still_nothing, still_done, goes_list, list_fits}
use Rattle.rdx_direct.specs.Inside.Going.{Alone, Fits, Goes}
use Rattle.rdx_direct.proofs.walk.Walk.+walk.Goals as goal
use Rattle.rdx_direct.proofs.walk.Walk.+walk.Answers.Splitting as splitting
use Rattle.rdx_direct.proofs.walk.Walk.+walk.Answers.Running as running
use Rattle.rdx_direct.proofs.walk.Walk.+walk.Answers.Ordering as ordering
use Rattle.rdx_direct.proofs.walk.Walk.+walk.Answers.Reaching as reaching
use Rattle.rdx_direct.proofs.walk.Walk.+walk.Answers.Knowing as knowing

pub go-returns-in_ok-any-in-Closed : goal.go-returns-in_ok-any-in-Closed
go-returns-in_ok-any-in-Closed t c =
    let e : pattern_of c.args.pat.now ≡ closed (pattern_of c.deref.result.now) = ap pattern_of c.in-Closed.is ∙ pattern_closed c.in-Closed.part ∙ ap (λ q. closed (pattern_of q)) (sym c.deref.ensures) in
    goes_at _ _ (bindings_of c.args.given.items) (bindings_of c.where_so-in-Closed.result.items) e
    (goes_alone (bindings_of c.args.given.items) (bindings_of c.where_so-in-Closed.result.items) c.in_ok-any-in-Closed.any (bindings_are_maps c.args.given.items)
    (alone_closed c.in_ok-any-in-Closed.any c.in_ok-any-in-Closed.ensures) c.where_so-in-Closed.ensures)

pub go-returns-in-HideHole : goal.go-returns-in-HideHole
go-returns-in-HideHole t c =
    let e : pattern_of c.args.pat.now ≡ hide_hole (pattern_of c.deref-in-HideHole.result.now) = ap pattern_of c.in-HideHole.is ∙ pattern_hide_hole c.in-HideHole.part ∙ ap (λ q. hide_hole (pattern_of q)) (sym c.deref-in-HideHole.ensures) in
    IfOk-weaker c.go.result _ _ (λ v h. goes_at _ _ (bindings_of c.args.given.items) (bindings_of v.items) e (goes_hidden (bindings_of c.args.given.items) (bindings_of v.items) h)) c.go.ensures

pub go-returns-in-Some : goal.go-returns-in-Some
go-returns-in-Some t c =
    goes_alone (bindings_of c.args.given.items) (bindings_of c.where_so-in-Some.result.items) c.in-Some.so (bindings_are_maps c.args.given.items) c.in-Some.ensures c.where_so-in-Some.ensures

pub go_named-returns : goal.go_named-returns
go_named-returns t c =
    IfOk-weaker c.with.result _ _ (λ v h. goes_under (naming_of c.args.name) (bindings_of c.args.given.items) (bindings_of c.in_ok-found.found.items) (bindings_of v.items) (bindings_are_maps c.args.given.items) c.in_ok-found.ensures h) c.with.ensures

pub some-returns : goal.some-returns
some-returns t c =
    let xs = c.in_ok-found.found.items in
    let z : length xs ≡ vec_len c.in_ok-found.found = grind (arith, common_steps) in
    let f : IsTrue c.is_empty.result ↔ (length xs ≡ 0) = is_zero c.is_empty.result (length xs) (c.is_empty.ensures ∙ ap (λ n. nat_eq n 0) (sym z)) in
    fits_found (bindings_of c.in_ok-given.given.items) xs c.is_empty.result c.in_ok-given.ensures f c.in_ok-found.ensures

pub fits_named-returns-then-is_plain : goal.fits_named-returns-then-is_plain
fits_named-returns-then-is_plain t c = IfOk-weaker c.fits.result _ _ (λ v f. fits_under (naming_of c.args.name) v (c.if-is_plain.ensures refl) f) c.fits.ensures

pub fits_named-returns : goal.fits_named-returns
fits_named-returns t c =
    let xs = c.in_ok-found.found.items in
    let z : length xs ≡ vec_len c.in_ok-found.found = grind (arith, common_steps) in
    let f : IsTrue c.is_empty.result ↔ (length xs ≡ 0) = is_zero c.is_empty.result (length xs) (c.is_empty.ensures ∙ ap (λ n. nat_eq n 0) (sym z)) in
    fits_found (bindings_of c.in_ok-given.given.items) xs c.is_empty.result c.in_ok-given.ensures f c.in_ok-found.ensures

-- ---- whether items match

pub fit_all-returns-then-i-ts : goal.fit_all-returns-then-i-ts
fit_all-returns-then-i-ts t c =
    let items = c.args.items.now in
    let ts = c.args.ts.now in
    let i : ℕ = c.loop-i.i in
    fits_short (items_of (map slot_of items)) (trees_of ts)
    (ahead-one items i c.index-items-i.result (omega arith) c.index-items-i.is c.in-One.pat c.in-One.is) (ap trees (rest_none tree_of ts i (omega arith))) c.loop-i.invariant.1

pub fit_all-returns-then-not-branch : goal.fit_all-returns-then-not-branch
fit_all-returns-then-not-branch t c =
    let items = c.args.items.now in
    let ts = c.args.ts.now in
    let i : ℕ = c.loop-i.i in
    let u = c.index-ts-i.result in
    let e : tree_of u ≡ tree_of u = refl in
    fits_not (items_of (map slot_of items)) (trees_of ts)
    (ahead-one items i c.index-items-i.result (omega arith) c.index-items-i.is c.in-One.pat c.in-One.is) (ap trees (rest_at tree_of ts i u (omega arith) c.index-ts-i.is))
    (fits_false c.in_ok-fits-in-One.field-0 c.if-not-branch.true c.in_ok-fits-in-One.ensures) c.loop-i.invariant.1

pub fit_all-loop-i-preserved : goal.fit_all-loop-i-preserved
fit_all-loop-i-preserved t c =
    let items = c.args.items.now in
    let ts = c.args.ts.now in
    let i : ℕ = c.loop-i.i in
    let u = c.index-ts-i.result in (
      omega arith,
      fits_next (items_of (map slot_of items)) (trees_of ts)
          (ahead-one items i c.index-items-i.result (omega arith) c.index-items-i.is c.in-One.pat c.in-One.is) (ap trees (rest_at tree_of ts i u (omega arith) c.index-ts-i.is))
          (c.in_ok-fits-in-One.ensures.0 c.if-not-branch.false) c.loop-i.invariant.1,
    )

pub fit_all-returns : goal.fit_all-returns
fit_all-returns t c =
    let items = c.args.items.now in
    let ts = c.args.ts.now in
    let i : ℕ = c.loop-i.i in
    let so : Bool = nat_le (length ts) (length items) in
    fits_end (items_of (map slot_of items)) (trees_of ts) (map tree_of (drop i ts)) so (ap items_of (rest_none slot_of items i (omega arith)))
    (rest_done tree_of ts i (length items) (omega arith)) (rest_more tree_of ts i (length items) (omega arith)) c.loop-i.invariant.1

pub some_list-returns : goal.some_list-returns
some_list-returns t c =
    let xs = c.in_ok-found.found.items in
    let z : length xs ≡ vec_len c.in_ok-found.found = grind (arith, common_steps) in
    let f : IsTrue c.is_empty.result ↔ (length xs ≡ 0) = is_zero c.is_empty.result (length xs) (c.is_empty.ensures ∙ ap (λ n. nat_eq n 0) (sym z)) in
    fits_found (bindings_of c.in_ok-given.given.items) xs c.is_empty.result c.in_ok-given.ensures f c.in_ok-found.ensures

pub fit_all-returns-in-Many : goal.fit_all-returns-in-Many
fit_all-returns-in-Many = ordering.fit_all-returns-in-Many

pub fit_run-returns-then-not-branch : goal.fit_run-returns-then-not-branch
fit_run-returns-then-not-branch = ordering.fit_run-returns-then-not-branch

pub fit_run-loop-t-preserved : goal.fit_run-loop-t-preserved
fit_run-loop-t-preserved = ordering.fit_run-loop-t-preserved

pub fit_run-returns : goal.fit_run-returns
fit_run-returns = ordering.fit_run-returns

-- ---- what comes of items

pub go_items-returns-then-i-ts : goal.go_items-returns-then-i-ts
go_items-returns-then-i-ts t c =
    let items = c.args.items.now in
    let ts = c.args.ts.now in
    let i : ℕ = c.loop-i.i in
    still_short (items_of (map slot_of items)) (trees_of ts) (bindings_of c.args.given.items) (bindings_of c.loop-i.found.items) (bindings_of c.new.result.items)
    (ahead-one items i c.index-items-i.result (omega arith) c.index-items-i.is c.in-One.pat c.in-One.is) (ap trees (rest_none tree_of ts i (omega arith))) (ap bindings_of c.new.ensures.items) c.loop-i.invariant.1

pub go_items-loop-i-preserved : goal.go_items-loop-i-preserved
go_items-loop-i-preserved t c =
    let items = c.args.items.now in
    let ts = c.args.ts.now in
    let i : ℕ = c.loop-i.i in
    let u = c.index-ts-i.result in (
      omega arith,
      still_next (items_of (map slot_of items)) (trees_of ts) (bindings_of c.args.given.items) (bindings_of c.loop-i.found.items) (bindings_of c.in_ok-found-in-One.found.items) (bindings_are_maps c.loop-i.found.items)
          (ahead-one items i c.index-items-i.result (omega arith) c.index-items-i.is c.in-One.pat c.in-One.is) (ap trees (rest_at tree_of ts i u (omega arith) c.index-ts-i.is)) c.in_ok-found-in-One.ensures c.loop-i.invariant.1,
    )

pub go_items-returns-then-is_empty : goal.go_items-returns-then-is_empty
go_items-returns-then-is_empty t c =
    let items = c.args.items.now in
    let ts = c.args.ts.now in
    let i : ℕ = c.loop-i.i in
    let u = c.index-ts-i.result in
    let n : bindings_of c.in_ok-found-in-One.found.items ≡ [] = no_bindings c.in_ok-found-in-One.found.items (grind (arith, common_steps)) in
    still_nothing (items_of (map slot_of items)) (trees_of ts) (bindings_of c.args.given.items) (bindings_of c.in_ok-found-in-One.found.items) (bindings_of c.in_ok-found-in-One.found.items) n n
    (still_next (items_of (map slot_of items)) (trees_of ts) (bindings_of c.args.given.items) (bindings_of c.loop-i.found.items) (bindings_of c.in_ok-found-in-One.found.items) (bindings_are_maps c.loop-i.found.items)
    (ahead-one items i c.index-items-i.result (omega arith) c.index-items-i.is c.in-One.pat c.in-One.is) (ap trees (rest_at tree_of ts i u (omega arith) c.index-ts-i.is)) c.in_ok-found-in-One.ensures c.loop-i.invariant.1)

pub go_items-returns : goal.go_items-returns
go_items-returns t c =
    let items = c.args.items.now in
    let ts = c.args.ts.now in
    let i : ℕ = c.loop-i.i in
    let so : Bool = nat_le (length ts) (length items) in
    still_done (items_of (map slot_of items)) (trees_of ts) (bindings_of c.args.given.items) (bindings_of c.loop-i.found.items) (bindings_of c.where_so.result.items) (map tree_of (drop i ts)) so
    (bindings_are_maps c.loop-i.found.items) (ap items_of (rest_none slot_of items i (omega arith))) (rest_done tree_of ts i (length items) (omega arith)) (rest_more tree_of ts i (length items) (omega arith)) c.where_so.ensures c.loop-i.invariant.1

pub go_list-returns-then-are_single : goal.go_list-returns-then-are_single
go_list-returns-then-are_single t c =
    let ts = c.items-ts.result.now in
    let same : tree_of c.args.t.now ≡ list c.in-List.node.value.mark (trees_of ts) =
    ap tree_of c.in-List.is ∙ ap (λ (us : List Tree). list c.in-List.node.value.mark (trees us)) (ap (λ (l : Contents). l.items) (sym c.deref.ensures) ∙ sym c.items-ts.ensures.value) in
    IfOk-weaker c.go_singles.result _ _ (λ v h. goes_list (bindings_of c.args.given.items) (bindings_of v.items) (tree_of c.args.t.now) c.in-List.node.value.mark same h) c.go_singles.ensures

pub go_list-returns-else-are_single : goal.go_list-returns-else-are_single
go_list-returns-else-are_single t c =
    let ts = c.items-ts.result.now in
    let same : tree_of c.args.t.now ≡ list c.in-List.node.value.mark (trees_of ts) =
    ap tree_of c.in-List.is ∙ ap (λ (us : List Tree). list c.in-List.node.value.mark (trees us)) (ap (λ (l : Contents). l.items) (sym c.deref.ensures) ∙ sym c.items-ts.ensures.value) in
    IfOk-weaker c.go_items.result _ _ (λ v h. goes_list (bindings_of c.args.given.items) (bindings_of v.items) (tree_of c.args.t.now) c.in-List.node.value.mark same h) c.go_items.ensures

pub split_in_hole-part_at-requires : goal.split_in_hole-part_at-requires
split_in_hole-part_at-requires = splitting.split_in_hole-part_at-requires

pub split_in_hole-loop-outer-preserved : goal.split_in_hole-loop-outer-preserved
split_in_hole-loop-outer-preserved = splitting.split_in_hole-loop-outer-preserved

pub split_in_hole-returns : goal.split_in_hole-returns
split_in_hole-returns = splitting.split_in_hole-returns

pub any_splits-loop-pat-preserved : goal.any_splits-loop-pat-preserved
any_splits-loop-pat-preserved = splitting.any_splits-loop-pat-preserved

pub any_splits-returns : goal.any_splits-returns
any_splits-returns = splitting.any_splits-returns

pub split_named-returns : goal.split_named-returns
split_named-returns = splitting.split_named-returns

pub splits-returns-in_ok-whole-in-Hole : goal.splits-returns-in_ok-whole-in-Hole
splits-returns-in_ok-whole-in-Hole = splitting.splits-returns-in_ok-whole-in-Hole

pub splits-returns-in-Nt : goal.splits-returns-in-Nt
splits-returns-in-Nt = splitting.splits-returns-in-Nt

pub splits-returns-in-Closed : goal.splits-returns-in-Closed
splits-returns-in-Closed = splitting.splits-returns-in-Closed

pub splits-returns-in-Seq : goal.splits-returns-in-Seq
splits-returns-in-Seq = splitting.splits-returns-in-Seq

pub go_split-part_at-requires : goal.go_split-part_at-requires
go_split-part_at-requires = splitting.go_split-part_at-requires

pub go_split-loop-spot-preserved : goal.go_split-loop-spot-preserved
go_split-loop-spot-preserved = splitting.go_split-loop-spot-preserved

pub go_split-returns : goal.go_split-returns
go_split-returns = splitting.go_split-returns

pub split_items-returns-then-i-ts : goal.split_items-returns-then-i-ts
split_items-returns-then-i-ts = splitting.split_items-returns-then-i-ts

pub split_items-returns-then-not-all : goal.split_items-returns-then-not-all
split_items-returns-then-not-all = splitting.split_items-returns-then-not-all

pub split_items-loop-i-preserved : goal.split_items-loop-i-preserved
split_items-loop-i-preserved = splitting.split_items-loop-i-preserved

pub split_items-returns : goal.split_items-returns
split_items-returns = splitting.split_items-returns

pub split_list-returns-else-not-are_plain : goal.split_list-returns-else-not-are_plain
split_list-returns-else-not-are_plain = splitting.split_list-returns-else-not-are_plain

pub go_items-returns-in-Many : goal.go_items-returns-in-Many
go_items-returns-in-Many = running.go_items-returns-in-Many

pub go_end-returns-then-rest-ts : goal.go_end-returns-then-rest-ts
go_end-returns-then-rest-ts = running.go_end-returns-then-rest-ts

pub go_end-returns : goal.go_end-returns
go_end-returns = running.go_end-returns

pub turn-returns-then-is_plain-clause-some : goal.turn-returns-then-is_plain-clause-some
turn-returns-then-is_plain-clause-some = running.turn-returns-then-is_plain-clause-some

pub turn-returns-then-not-branch-clause-none : goal.turn-returns-then-not-branch-clause-none
turn-returns-then-not-branch-clause-none = running.turn-returns-then-not-branch-clause-none

pub turn-returns-in_default-clause-none : goal.turn-returns-in_default-clause-none
turn-returns-in_default-clause-none = running.turn-returns-in_default-clause-none

pub turn-returns-clause-some : goal.turn-returns-clause-some
turn-returns-clause-some = running.turn-returns-clause-some

pub go_many-loop-i-init : goal.go_many-loop-i-init
go_many-loop-i-init = running.go_many-loop-i-init

pub go_many-go_end-requires : goal.go_many-go_end-requires
go_many-go_end-requires = running.go_many-go_end-requires

pub go_many-go_end-requires-2 : goal.go_many-go_end-requires-2
go_many-go_end-requires-2 = running.go_many-go_end-requires-2

pub go_many-returns-in_default : goal.go_many-returns-in_default
go_many-returns-in_default = running.go_many-returns-in_default

pub go_many-loop-i-preserved : goal.go_many-loop-i-preserved
go_many-loop-i-preserved = running.go_many-loop-i-preserved

pub go_many-returns : goal.go_many-returns
go_many-returns = running.go_many-returns

-- ---- items in another order

pub go_end-returns-then-is_empty : goal.go_end-returns-then-is_empty
go_end-returns-then-is_empty = running.go_end-returns-then-is_empty

pub go_singles-returns-then-items-ts : goal.go_singles-returns-then-items-ts
go_singles-returns-then-items-ts = ordering.go_singles-returns-then-items-ts

pub go_singles-loop-i-init : goal.go_singles-loop-i-init
go_singles-loop-i-init = ordering.go_singles-loop-i-init

pub go_singles-loop-i-preserved-then-is_hard : goal.go_singles-loop-i-preserved-then-is_hard
go_singles-loop-i-preserved-then-is_hard = ordering.go_singles-loop-i-preserved-then-is_hard

pub go_singles-loop-i-preserved : goal.go_singles-loop-i-preserved
go_singles-loop-i-preserved = ordering.go_singles-loop-i-preserved

pub go_singles-returns-then-is_empty : goal.go_singles-returns-then-is_empty
go_singles-returns-then-is_empty = ordering.go_singles-returns-then-is_empty

pub go_singles-returns : goal.go_singles-returns
go_singles-returns = ordering.go_singles-returns

pub go_later-loop-next-init : goal.go_later-loop-next-init
go_later-loop-next-init = ordering.go_later-loop-next-init

pub go_later-loop-next-preserved : goal.go_later-loop-next-preserved
go_later-loop-next-preserved = ordering.go_later-loop-next-preserved

pub go_later-returns : goal.go_later-returns
go_later-returns = ordering.go_later-returns

-- ---- what patterns reach

pub reach_at-returns-clause-paths : goal.reach_at-returns-clause-paths
reach_at-returns-clause-paths = reaching.reach_at-returns-clause-paths

pub reach_list-returns-else-not-are_plain-clause-fits : goal.reach_list-returns-else-not-are_plain-clause-fits
reach_list-returns-else-not-are_plain-clause-fits = reaching.reach_list-returns-else-not-are_plain-clause-fits

pub reach_list-returns-else-not-are_plain-clause-paths : goal.reach_list-returns-else-not-are_plain-clause-paths
reach_list-returns-else-not-are_plain-clause-paths = reaching.reach_list-returns-else-not-are_plain-clause-paths

pub go_reached-part_at-part-requires : goal.go_reached-part_at-part-requires
go_reached-part_at-part-requires = reaching.go_reached-part_at-part-requires

pub go_reached-loop-path-preserved : goal.go_reached-loop-path-preserved
go_reached-loop-path-preserved = reaching.go_reached-loop-path-preserved

pub go_reached-returns : goal.go_reached-returns
go_reached-returns = reaching.go_reached-returns

pub go_named_reached-part_at-requires : goal.go_named_reached-part_at-requires
go_named_reached-part_at-requires = reaching.go_named_reached-part_at-requires

pub go_named_reached-loop-path-preserved : goal.go_named_reached-loop-path-preserved
go_named_reached-loop-path-preserved = reaching.go_named_reached-loop-path-preserved

pub go_named_reached-returns : goal.go_named_reached-returns
go_named_reached-returns = reaching.go_named_reached-returns

pub reach_many-reach_items-requires : goal.reach_many-reach_items-requires
reach_many-reach_items-requires = reaching.reach_many-reach_items-requires

pub reach_many-reach_items-requires-2 : goal.reach_many-reach_items-requires-2
reach_many-reach_items-requires-2 = reaching.reach_many-reach_items-requires-2

pub reach_many-loop-i-preserved : goal.reach_many-loop-i-preserved
reach_many-loop-i-preserved = reaching.reach_many-loop-i-preserved

pub reach_many-returns-then-not-turn-clause-fits : goal.reach_many-returns-then-not-turn-clause-fits
reach_many-returns-then-not-turn-clause-fits = reaching.reach_many-returns-then-not-turn-clause-fits

pub reach_many-returns-then-not-turn-clause-paths : goal.reach_many-returns-then-not-turn-clause-paths
reach_many-returns-then-not-turn-clause-paths = reaching.reach_many-returns-then-not-turn-clause-paths

pub reach_many-returns-clause-fits : goal.reach_many-returns-clause-fits
reach_many-returns-clause-fits = reaching.reach_many-returns-clause-fits

pub reach_many-returns-clause-paths : goal.reach_many-returns-clause-paths
reach_many-returns-clause-paths = reaching.reach_many-returns-clause-paths

pub reach_items-returns-then-i-ts-clause-fits : goal.reach_items-returns-then-i-ts-clause-fits
reach_items-returns-then-i-ts-clause-fits = reaching.reach_items-returns-then-i-ts-clause-fits

pub reach_items-returns-then-i-ts-clause-paths : goal.reach_items-returns-then-i-ts-clause-paths
reach_items-returns-then-i-ts-clause-paths = reaching.reach_items-returns-then-i-ts-clause-paths

pub reach_items-loop-i-preserved : goal.reach_items-loop-i-preserved
reach_items-loop-i-preserved = reaching.reach_items-loop-i-preserved

pub reach_items-returns-then-not-all-clause-fits : goal.reach_items-returns-then-not-all-clause-fits
reach_items-returns-then-not-all-clause-fits = reaching.reach_items-returns-then-not-all-clause-fits

pub reach_items-returns-then-not-all-clause-paths : goal.reach_items-returns-then-not-all-clause-paths
reach_items-returns-then-not-all-clause-paths = reaching.reach_items-returns-then-not-all-clause-paths

pub reach_items-reach_rest-requires : goal.reach_items-reach_rest-requires
reach_items-reach_rest-requires = reaching.reach_items-reach_rest-requires

pub reach_items-returns-in-Many-clause-fits : goal.reach_items-returns-in-Many-clause-fits
reach_items-returns-in-Many-clause-fits = reaching.reach_items-returns-in-Many-clause-fits

pub reach_items-returns-in-Many-clause-paths : goal.reach_items-returns-in-Many-clause-paths
reach_items-returns-in-Many-clause-paths = reaching.reach_items-returns-in-Many-clause-paths

pub reach_items-returns-then-not-end-clause-fits : goal.reach_items-returns-then-not-end-clause-fits
reach_items-returns-then-not-end-clause-fits = reaching.reach_items-returns-then-not-end-clause-fits

pub reach_items-returns-then-not-end-clause-paths : goal.reach_items-returns-then-not-end-clause-paths
reach_items-returns-then-not-end-clause-paths = reaching.reach_items-returns-then-not-end-clause-paths

pub reach_items-returns-clause-fits : goal.reach_items-returns-clause-fits
reach_items-returns-clause-fits = reaching.reach_items-returns-clause-fits

pub reach_items-returns-clause-paths : goal.reach_items-returns-clause-paths
reach_items-returns-clause-paths = reaching.reach_items-returns-clause-paths

pub go_named_reached-go_with_context-requires : goal.go_named_reached-go_with_context-requires
go_named_reached-go_with_context-requires = reaching.go_named_reached-go_with_context-requires

-- ---- what nonterminals do

pub fit_end-returns : goal.fit_end-returns
fit_end-returns = knowing.fit_end-returns

pub fits_inside-returns-in-HideHole : goal.fits_inside-returns-in-HideHole
fits_inside-returns-in-HideHole = knowing.fits_inside-returns-in-HideHole

pub fits_inside-returns-in-Closed : goal.fits_inside-returns-in-Closed
fits_inside-returns-in-Closed = knowing.fits_inside-returns-in-Closed

pub fits_nt-fits_choice-requires : goal.fits_nt-fits_choice-requires
fits_nt-fits_choice-requires = knowing.fits_nt-fits_choice-requires

pub fits_nt-returns-then-branch : goal.fits_nt-returns-then-branch
fits_nt-returns-then-branch = knowing.fits_nt-returns-then-branch

pub fits_nt-loop-i-preserved : goal.fits_nt-loop-i-preserved
fits_nt-loop-i-preserved = knowing.fits_nt-loop-i-preserved

pub fits_nt-returns : goal.fits_nt-returns
fits_nt-returns = knowing.fits_nt-returns

pub fits_plain-returns-in-List : goal.fits_plain-returns-in-List
fits_plain-returns-in-List = knowing.fits_plain-returns-in-List

pub fits_nameless-returns-then-not-branch : goal.fits_nameless-returns-then-not-branch
fits_nameless-returns-then-not-branch = knowing.fits_nameless-returns-then-not-branch

pub fits_nameless-returns-then-are_plain : goal.fits_nameless-returns-then-are_plain
fits_nameless-returns-then-are_plain = knowing.fits_nameless-returns-then-are_plain

pub go-returns-in_ok-any-in-Nt : goal.go-returns-in_ok-any-in-Nt
go-returns-in_ok-any-in-Nt = knowing.go-returns-in_ok-any-in-Nt

pub reach-returns-then-splits_nothing-clause-paths : goal.reach-returns-then-splits_nothing-clause-paths
reach-returns-then-splits_nothing-clause-paths = knowing.reach-returns-then-splits_nothing-clause-paths

pub reach_nt-loop-i-preserved-then-is_outside : goal.reach_nt-loop-i-preserved-then-is_outside
reach_nt-loop-i-preserved-then-is_outside = knowing.reach_nt-loop-i-preserved-then-is_outside

pub reach_nt-loop-i-preserved-then-is_apart : goal.reach_nt-loop-i-preserved-then-is_apart
reach_nt-loop-i-preserved-then-is_apart = knowing.reach_nt-loop-i-preserved-then-is_apart

pub reach_nt-reach_choice-requires : goal.reach_nt-reach_choice-requires
reach_nt-reach_choice-requires = knowing.reach_nt-reach_choice-requires

pub reach_nt-loop-i-preserved : goal.reach_nt-loop-i-preserved
reach_nt-loop-i-preserved = knowing.reach_nt-loop-i-preserved

pub reach_nt-returns-clause-fits : goal.reach_nt-returns-clause-fits
reach_nt-returns-clause-fits = knowing.reach_nt-returns-clause-fits

pub reach_nt-returns-clause-paths : goal.reach_nt-returns-clause-paths
reach_nt-returns-clause-paths = knowing.reach_nt-returns-clause-paths

pub go_with_context-returns-then-has_name : goal.go_with_context-returns-then-has_name
go_with_context-returns-then-has_name = reaching.go_with_context-returns-then-has_name

pub go_with_context-returns : goal.go_with_context-returns
go_with_context-returns = reaching.go_with_context-returns
