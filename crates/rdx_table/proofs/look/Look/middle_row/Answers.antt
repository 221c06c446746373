use Rattle.std.proofs.Common.{◌≡◌, ◌++◌, ◌∷◌, [], List, Some, length, suc, sym, ◌∙◌, ap, subst, arith}
use Rattle.std.proofs.lemmas.Grind.{common_steps}
use Rattle.std.proofs.lemmas.List.{nil_from_length}
use Rattle.rdx_bind.proofs.AcrossRows.{bindings_are_maps}
use Rattle.rdx_bind.proofs.AskedRows.{column-length}
use Rattle.rdx_bind.proofs.SpotRows.{IsMapRow, spots_are_maps}
use Rattle.rdx_bind.specs.Rows.{SplitRow, split_row_of, split_rows_of}
use Rattle.rdx_nodes.specs.Nodes.{slots_at}
use Rattle.rdx_table.proofs.FoundBehind.{HasPart, behind_no_items, behind_none, behind_row}
use Rattle.rdx_table.proofs.WithinLists.{first_of_column}
use Rattle.rdx_table.specs.Inside.Cuts.{part_in, IsFoundBehind}
use Rattle.rdx_table.specs.Inside.Looks.{language_of_look, patterns_of_look}
use Rattle.rdx_table.proofs.look.Look.middle_row.Goals as goal

pub returns-then-is_empty-clause-found : goal.returns-then-is_empty-clause-found
returns-then-is_empty-clause-found c =
    let part = part_in c.args.self.now c.args.part in
    let n : length c.args.part.entries.now ≡ 0 = grind (arith, common_steps) in
    let e : part.slots ≡ [] = ap (slots_at (patterns_of_look c.args.self.now)) (nil_from_length c.args.part.entries.now n) in
    behind_no_items (language_of_look c.args.self.now) part c.args.splitting (split_rows_of c.new-rows.result.items) e (c.requires.none e)
    (ap split_rows_of c.new-rows.ensures.items)

pub first_row-requires : goal.first_row-requires
first_row-requires c =
    let k = column-length c.in_ok-column.column.asks.items c.in-Some.found.now c.in-Some.ensures in
    let n : length c.in_ok-column.column.asks.items ≡ suc _ = ap length c.in_ok-column.ensures.part.asks in
    omega arith

pub returns-then-has_nothing-clause-found : goal.returns-then-has_nothing-clause-found
returns-then-has_nothing-clause-found c =
    let L = language_of_look c.args.self.now in
    let part = part_in c.args.self.now c.args.part in
    let row : SplitRow = split_row_of c.in_ok-row.row in
    let h : HasPart L part c.args.splitting row = first_of_column c.in_ok-column.ensures.part c.in-Some.found.now row c.in_ok-row.ensures
    c.in-Some.ensures in
    behind_none L part c.args.splitting row h (sym c.has_nothing.ensures ∙ c.if-has_nothing.true)

pub returns-clause-found : goal.returns-clause-found
returns-clause-found c =
    let L = language_of_look c.args.self.now in
    let part = part_in c.args.self.now c.args.part in
    let row : SplitRow = split_row_of c.in_ok-row.row in
    let h : HasPart L part c.args.splitting row = first_of_column c.in_ok-column.ensures.part c.in-Some.found.now row c.in_ok-row.ensures
    c.in-Some.ensures in
    let w : IsMapRow row = record { matches = bindings_are_maps c.in_ok-row.row.matches.items; spots = spots_are_maps c.in_ok-row.row.spots.items } in
    let e : c.push_row.new.rows.items ≡ c.new-rows.result.items ++ c.in_ok-row.row ∷ [] = c.in_ok-push_row.ensures in
    let f : split_rows_of c.push_row.new.rows.items ≡ row ∷ [] = ap split_rows_of
    (e ∙ ap (λ rs. rs ++ c.in_ok-row.row ∷ []) c.new-rows.ensures.items) in
    subst (λ (rows : List SplitRow). IsFoundBehind L part c.args.splitting (Some rows)) (sym f)
    (behind_row L part c.args.splitting row w h (sym c.has_nothing.ensures ∙ c.if-has_nothing.false))
