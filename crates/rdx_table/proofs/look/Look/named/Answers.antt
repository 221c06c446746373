use Rattle.std.proofs.Common.{subst}
use Rattle.rdx_term.specs.Tree.{Tree}
use Rattle.rdx_lang.specs.Collecting.{Arises, HasExactly}
use Rattle.rdx_lang.specs.Shown.{bindings_of}
use Rattle.rdx_bind.proofs.Gathering.{exactly_listed}
use Rattle.rdx_bind.specs.Combining.{Named}
use Rattle.rdx_bind.specs.Namings.{Naming, naming_of}
use Rattle.rdx_bind.specs.Rows.{split_row_of}
use Rattle.rdx_bind.specs.Spots.{spots_of}
use Rattle.rdx_bind.specs.Splitting.{NamesContext}
use Rattle.rdx_bind.specs.declared.rows.Row.{Row}
use Rattle.rdx_table.specs.Inside.Looks.{aim_tree}
use Rattle.rdx_table.proofs.AskedForms.{asked_named, meets_by}
use Rattle.rdx_table.proofs.look.Look.named.Goals as goal

pub returns-clause-found : goal.returns-clause-found
returns-clause-found c =
    let t : Tree = aim_tree c.args.self.now c.args.goal in
    let n : Naming = naming_of c.args.name in
    let row : Row = record { matches = c.in_ok-matches.matches; spots = c.in_ok-spots.spots } in
    let part : Row = c.in_ok-row.row in
    let listed : HasExactly (bindings_of row.matches.items) (Named (bindings_of c.deref.result.now) n t) =
    subst (λ (u : Tree). HasExactly (bindings_of row.matches.items) (Named (bindings_of c.deref.result.now) n u)) c.term-t.ensures
    (exactly_listed c.in_ok-matches.ensures) in
    let bound : HasExactly (bindings_of row.matches.items) (Named (bindings_of part.matches.items) n t) =
    subst (λ bs. HasExactly (bindings_of row.matches.items) (Named (bindings_of bs) n t)) c.deref.ensures.value listed in
    let split : HasExactly (spots_of row.spots.items) (Arises (NamesContext n t) (spots_of part.spots.items)) =
    subst (λ (u : Tree). HasExactly (spots_of row.spots.items) (Arises (NamesContext n u) (spots_of part.spots.items))) c.term-t.ensures
    c.in_ok-spots.ensures in
    meets_by c.args.self.now c.args.goal row c.requires.pattern
    (asked_named n c.args.goal.splits (split_row_of part) c.in_ok-row.ensures.found bound split)
