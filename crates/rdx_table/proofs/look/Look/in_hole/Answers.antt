use Rattle.std.proofs.Common.{◌≡◌, ℕ, ◌+◌, ◌<◌, ◌≤◌, Bool, List, [], ◌∷◌, drop, length, refl, sym, subst, rules}
use Rattle.std.proofs.lemmas.List.{take_rest}
use Rattle.rdx_term.specs.AtPaths.{tree_at}
use Rattle.rdx_term.specs.Tree.{Tree}
use Rattle.rdx_lang.proofs.Collecting.{collects-next, collects-end, In_along}
use Rattle.rdx_lang.proofs.Rest.{rest_at, rest_none}
use Rattle.rdx_lang.specs.Bindings.{Binding}
use Rattle.rdx_lang.specs.Collecting.{Arises, Adds}
use Rattle.rdx_lang.specs.Members.{In, here}
use Rattle.rdx_lang.specs.Patterns.{Pattern, Language}
use Rattle.rdx_lang.specs.Shown.{bindings_of}
use Rattle.rdx_bind.proofs.SplitRules.{MatchesOn}
use Rattle.rdx_bind.specs.Rows.{split_row_of}
use Rattle.rdx_bind.specs.Spots.{Spot, spot_of, spots_of}
use Rattle.rdx_bind.specs.declared.rows.Row.{Row}
use Rattle.rdx_nodes.specs.Nodes.{pattern_at}
use Rattle.rdx_table.specs.Inside.Looks.{language_of_look, patterns_of_look, aim_tree, Meets}
use Rattle.rdx_table.specs.declared.look.Look.{Look}
use Rattle.rdx_table.specs.declared.task.Goal.{Goal}
use Rattle.rdx_table.proofs.AskedForms.{HasOf, SplitsOnWhere, had_matches, had_splits, had_spots, meets_by, met_by}
use Rattle.rdx_table.proofs.AskedForms.{adds_bound, adds_spots, asked_in_hole}
use Rattle.rdx_table.proofs.look.Look.in_hole.Goals as goal

pub goal_of_spot-inner-requires-clause-place : goal.goal_of_spot-inner-requires-clause-place
goal_of_spot-inner-requires-clause-place c =
    let xs = c.in_ok-spots.field-0.spots.items in
    let i : ℕ = c.loop-i.i in
    let s : Spot = spot_of c.index-spot.result.now in
    let b : i < length xs = search rules in
    let e : spots_of (drop i xs) ≡ s ∷ spots_of (drop (i + 1) xs) = rest_at spot_of xs i c.index-spot.result.now b c.index-spot.ensures in
    let a : In s (spots_of xs) = c.loop-i.invariant.0.part s (In_along (s ∷ spots_of (drop (i + 1) xs)) (spots_of (drop i xs)) (sym e) (here refl)) in
    ((had_splits c.in_ok-spots.ensures.found).sound s a).inside

pub row_at_first-requires-clause-places : goal.row_at_first-requires-clause-places
row_at_first-requires-clause-places c s k =
    let ys = c.deref.result.now in
    let i : ℕ = c.loop-i.i in
    let m : In s (spots_of (drop i ys)) = subst (λ zs. In s (spots_of zs)) (take_rest ys i) k in
    let a : In s (spots_of (drop i c.in_ok-spots.field-0.spots.items)) = subst (λ zs. In s (spots_of (drop i zs))) c.deref.ensures.value m in
    ((had_splits c.in_ok-spots.ensures.found).sound s (c.loop-i.invariant.0.part s a)).inside

pub loop-i-preserved : goal.loop-i-preserved
loop-i-preserved c =
    let none_bound : List Binding = [] in
    let none_split : List Spot = [] in
    let look : Look = c.args.self.now in
    let splits : Bool = c.args.goal.splits in
    let L : Language = language_of_look look in
    let r : Pattern = pattern_at (patterns_of_look look) c.args.right in
    let t : Tree = aim_tree look c.args.goal in
    let xs = c.in_ok-spots.field-0.spots.items in
    let i : ℕ = c.loop-i.i in
    let s : Spot = spot_of c.index-spot.result.now in
    let rest : List Spot = spots_of (drop i xs) in
    let more : List Spot = spots_of (drop (i + 1) xs) in
    let inner : Goal = c.goal_of_spot-inner.result in
    let u : Tree = aim_tree look inner in
    let row : Row = c.in_ok-row.row in
    let b : i < length xs = search rules in
    let e : rest ≡ s ∷ more = rest_at spot_of xs i c.index-spot.result.now b c.index-spot.ensures in
    let m : Meets look inner row = c.in_ok-row.ensures.found in
    let h : HasOf L r u splits (split_row_of row) = met_by look inner row c.args.right splits c.goal_of_spot-inner.ensures.number c.goal_of_spot-inner.ensures.splits m in
    let f : u ≡ tree_at t s.path = c.goal_of_spot-inner.ensures.part in
    let bound : List Binding = bindings_of c.loop-i.found.items in
    let bound_then : List Binding = bindings_of c.add_inside.new.found.items in
    let split : List Spot = spots_of c.loop-i.gathered.spots.items in
    let split_then : List Spot = spots_of c.add_inside.new.gathered.spots.items in
    let p : Adds (MatchesOn L r t s) bound bound_then =
    adds_bound s u (bindings_of row.matches.items) bound bound_then f (had_matches splits h) c.in_ok-add_inside.ensures.found in
    let q : Adds (SplitsOnWhere L t splits r s) split split_then =
    adds_spots splits s u (spots_of row.spots.items) split split_then f (had_spots splits h) c.in_ok-add_inside.ensures.gathered in (
      collects-next (MatchesOn L r t) (spots_of xs) none_bound s rest more bound bound_then e c.loop-i.invariant.0 p,
      collects-next (SplitsOnWhere L t splits r) (spots_of xs) none_split s rest more split split_then e c.loop-i.invariant.1 q,
    )

pub returns-clause-found : goal.returns-clause-found
returns-clause-found c =
    let none_bound : List Binding = [] in
    let none_split : List Spot = [] in
    let look : Look = c.args.self.now in
    let splits : Bool = c.args.goal.splits in
    let L : Language = language_of_look look in
    let r : Pattern = pattern_at (patterns_of_look look) c.args.right in
    let t : Tree = aim_tree look c.args.goal in
    let xs = c.in_ok-spots.field-0.spots.items in
    let i : ℕ = c.loop-i.i in
    let all : List Spot = spots_of xs in
    let rest : List Spot = spots_of (drop i xs) in
    let bound : List Binding = bindings_of c.loop-i.found.items in
    let split : List Spot = spots_of c.loop-i.gathered.spots.items in
    let row : Row = c.in_ok-distinct_row.field-0 in
    let b : length xs ≤ i = search rules in
    let none : rest ≡ [] = rest_none spot_of xs i b in
    let p : Adds (Arises (MatchesOn L r t) all) none_bound bound =
    collects-end (MatchesOn L r t) all rest none_bound bound none c.loop-i.invariant.0 in
    let q : Adds (Arises (SplitsOnWhere L t splits r) all) none_split split =
    collects-end (SplitsOnWhere L t splits r) all rest none_split split none c.loop-i.invariant.1 in
    meets_by look c.args.goal row c.requires.pattern
    (asked_in_hole splits all bound split (had_splits c.in_ok-spots.ensures.found) p q c.in_ok-distinct_row.ensures.matches c.in_ok-distinct_row.ensures.spots)
