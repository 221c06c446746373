use Rattle.std.proofs.Common.{List, Some, None, refl, subst}
use Rattle.std.specs.Prelude.{IfSome, IsTrue}
use Rattle.rdx_lang.specs.PatternView.{Slot}
use Rattle.rdx_bind.proofs.SpotRows.{split_rows_are_maps}
use Rattle.rdx_bind.specs.Parts.{Part}
use Rattle.rdx_bind.specs.PartRows.{HaveSpots, IsSearched, found_split_rows}
use Rattle.rdx_bind.specs.Rows.{SplitRow, split_row_of, split_rows_of}
use Rattle.rdx_nodes.specs.Nodes.{slots_at}
use Rattle.rdx_table.proofs.ListRows.{meets_list, list_cannot_fit, first_part_fails, last_part_fails, middle_part_fails, parts_have}
use Rattle.rdx_table.proofs.WithinLists.{cut_within}
use Rattle.rdx_table.specs.Inside.Cuts.{part_in, IsFoundBehind}
use Rattle.rdx_table.specs.Inside.Looks.{language_of_look, patterns_of_look}
use Rattle.rdx_table.proofs.look.Look.list.Goals as goal

pub returns-in_default-clause-found : goal.returns-in_default-clause-found
returns-in_default-clause-found c =
    let slots : List Slot = slots_at (patterns_of_look c.args.self.now) c.args.entries.now in
    meets_list c.args.self.now c.args.goal c.empty_row.result slots c.requires.pattern
    (list_cannot_fit c.args.goal.splits (split_row_of c.empty_row.result) c.empty_row.ensures (c.in_default.ensures.none refl))

pub returns-in_default-2-clause-found : goal.returns-in_default-2-clause-found
returns-in_default-2-clause-found c =
    let slots : List Slot = slots_at (patterns_of_look c.args.self.now) c.args.entries.now in
    let L = language_of_look c.args.self.now in
    let x : Part = part_in c.args.self.now c.in-Some.parts.before in
    let s : IsSearched L x c.args.goal.splits c.rows_of.new.splitting None =
    subst (λ o. IsSearched L x c.args.goal.splits c.rows_of.new.splitting (found_split_rows o)) c.in_default-2.is c.in_ok-before.ensures.searched in
    meets_list c.args.self.now c.args.goal c.empty_row-in_default-2.result slots c.requires.pattern
    (first_part_fails L c.in-Some.ensures.some c.args.goal.splits (split_row_of c.empty_row-in_default-2.result) c.empty_row-in_default-2.ensures
    s)

pub returns-in_default-3-clause-found : goal.returns-in_default-3-clause-found
returns-in_default-3-clause-found c =
    let slots : List Slot = slots_at (patterns_of_look c.args.self.now) c.args.entries.now in
    let L = language_of_look c.args.self.now in
    let x : Part = part_in c.args.self.now c.in-Some.parts.before in
    let z : Part = part_in c.args.self.now c.in-Some.parts.behind in
    let firsts : List SplitRow = split_rows_of c.in-Some-2.before.items in
    let f : IsSearched L x c.args.goal.splits c.rows_of.new.splitting (Some firsts) =
    subst (λ o. IsSearched L x c.args.goal.splits c.rows_of.new.splitting (found_split_rows o)) c.in-Some-2.is c.in_ok-before.ensures.searched in
    let s : IsSearched L z c.rows_of.new.splitting c.rows_of-2.new.splitting None =
    subst (λ o. IsSearched L z c.rows_of.new.splitting c.rows_of-2.new.splitting (found_split_rows o)) c.in_default-3.is
    c.in_ok-behind.ensures.searched in
    meets_list c.args.self.now c.args.goal c.empty_row-in_default-3.result slots c.requires.pattern
    (last_part_fails L c.in-Some.ensures.some c.args.goal.splits firsts
    (split_row_of c.empty_row-in_default-3.result) c.empty_row-in_default-3.ensures f s)

pub middle_row-requires-clause-within : goal.middle_row-requires-clause-within
middle_row-requires-clause-within c = cut_within c.in-Some.ensures.some c.requires.pattern

pub returns-in_default-4-clause-found : goal.returns-in_default-4-clause-found
returns-in_default-4-clause-found c =
    let slots : List Slot = slots_at (patterns_of_look c.args.self.now) c.args.entries.now in
    let L = language_of_look c.args.self.now in
    let x : Part = part_in c.args.self.now c.in-Some.parts.before in
    let y : Part = part_in c.args.self.now c.in-Some.parts.middle in
    let z : Part = part_in c.args.self.now c.in-Some.parts.behind in
    let firsts : List SplitRow = split_rows_of c.in-Some-2.before.items in
    let lasts : List SplitRow = split_rows_of c.in-Some-3.behind.items in
    let f : IsSearched L x c.args.goal.splits c.rows_of.new.splitting (Some firsts) =
    subst (λ o. IsSearched L x c.args.goal.splits c.rows_of.new.splitting (found_split_rows o)) c.in-Some-2.is c.in_ok-before.ensures.searched in
    let h : IsSearched L z c.rows_of.new.splitting c.rows_of-2.new.splitting (Some lasts) =
    subst (λ o. IsSearched L z c.rows_of.new.splitting c.rows_of-2.new.splitting (found_split_rows o)) c.in-Some-3.is c.in_ok-behind.ensures.searched
    in
    let k : IsFoundBehind L y c.rows_of-2.new.splitting None =
    subst (λ o. IsFoundBehind L y c.rows_of-2.new.splitting (found_split_rows o)) c.in_default-4.is c.in_ok-middle.ensures.found in
    meets_list c.args.self.now c.args.goal c.empty_row-in_default-4.result slots c.requires.pattern
    (middle_part_fails L c.in-Some.ensures.some c.args.goal.splits firsts lasts
    (split_row_of c.empty_row-in_default-4.result) c.empty_row-in_default-4.ensures f h k)

pub returns-clause-found : goal.returns-clause-found
returns-clause-found c =
    let slots : List Slot = slots_at (patterns_of_look c.args.self.now) c.args.entries.now in
    let L = language_of_look c.args.self.now in
    let x : Part = part_in c.args.self.now c.in-Some.parts.before in
    let y : Part = part_in c.args.self.now c.in-Some.parts.middle in
    let z : Part = part_in c.args.self.now c.in-Some.parts.behind in
    let firsts : List SplitRow = split_rows_of c.in-Some-2.before.items in
    let middles : List SplitRow = split_rows_of c.in-Some-4.middle.items in
    let lasts : List SplitRow = split_rows_of c.in-Some-3.behind.items in
    let f : IsSearched L x c.args.goal.splits c.rows_of.new.splitting (Some firsts) =
    subst (λ o. IsSearched L x c.args.goal.splits c.rows_of.new.splitting (found_split_rows o)) c.in-Some-2.is c.in_ok-before.ensures.searched in
    let h : IsSearched L z c.rows_of.new.splitting c.rows_of-2.new.splitting (Some lasts) =
    subst (λ o. IsSearched L z c.rows_of.new.splitting c.rows_of-2.new.splitting (found_split_rows o)) c.in-Some-3.is c.in_ok-behind.ensures.searched
    in
    let k : IsFoundBehind L y c.rows_of-2.new.splitting (Some middles) =
    subst (λ o. IsFoundBehind L y c.rows_of-2.new.splitting (found_split_rows o)) c.in-Some-4.is c.in_ok-middle.ensures.found in
    let m : IsTrue c.rows_of.new.splitting → HaveSpots L x firsts =
    subst (λ o. IfSome o (λ rows. IsTrue c.rows_of.new.splitting → HaveSpots L x (split_rows_of rows.items))) c.in-Some-2.is
    c.in_ok-before.ensures.spots in
    let n : IsTrue c.rows_of-2.new.splitting → HaveSpots L z lasts =
    subst (λ o. IfSome o (λ rows. IsTrue c.rows_of-2.new.splitting → HaveSpots L z (split_rows_of rows.items))) c.in-Some-3.is
    c.in_ok-behind.ensures.spots in
    meets_list c.args.self.now c.args.goal c.in_ok-across.field-0 slots c.requires.pattern
    (parts_have L c.in-Some.ensures.some c.args.goal.splits firsts middles lasts (split_row_of c.in_ok-across.field-0)
    (split_rows_are_maps c.in-Some-2.before.items)
    (split_rows_are_maps c.in-Some-4.middle.items) f m h n k c.in_ok-across.ensures.matches c.in_ok-across.ensures.spots c.in_ok-across.ensures.none)
