use Rattle.std.proofs.Common.{List, [], drop}
use Rattle.rdx_term.specs.Tree.{Tree}
use Rattle.rdx_lang.proofs.Collecting.{Collects}
use Rattle.rdx_lang.specs.Bindings.{Binding}
use Rattle.rdx_lang.specs.Patterns.{Pattern}
use Rattle.rdx_lang.specs.Shown.{bindings_of}
use Rattle.rdx_bind.proofs.SplitRules.{MatchesOn}
use Rattle.rdx_bind.specs.Spots.{Spot, spots_of}
use Rattle.rdx_nodes.specs.Nodes.{pattern_at}
use Rattle.rdx_table.specs.Inside.Looks.{language_of_look, patterns_of_look, aim_tree}
use Rattle.rdx_table.proofs.AskedForms.{SplitsOnWhere}
use Rattle.rdx_table.proofs.look.Look.in_hole.Given as goal

abbrev pub invariant-loop-i : goal.invariant-loop-i
invariant-loop-i l =
    let none_bound : List Binding = [] in
    let none_split : List Spot = [] in
    let right : Pattern = pattern_at (patterns_of_look l.self) l.right in
    let t : Tree = aim_tree l.self l.goal in
    let all : List Spot = spots_of l.spots.items in
    let rest : List Spot = spots_of (drop l.i l.spots.items) in
    Collects (MatchesOn (language_of_look l.self) right t) all rest none_bound (bindings_of l.found.items)
    × Collects (SplitsOnWhere (language_of_look l.self) t l.goal.splits right) all rest none_split (spots_of l.gathered.spots.items)
