use Rattle.std.proofs.Common.{◌≡◌, ◌∙◌, ℕ, List, length, Option, sym, subst, arith}
use Rattle.std.proofs.lemmas.Grind.{common_steps}
use Rattle.std.proofs.lemmas.List.{length-map, nil_from_length}
use Rattle.std.proofs.lemmas.Result.{IfOk-weaker}
use Rattle.rdx_lang.specs.Bindings.{Binding, no_names}
use Rattle.rdx_lang.specs.Collecting.{HasExactly}
use Rattle.rdx_lang.specs.Shown.{bindings_of}
use Rattle.rdx_bind.specs.Choices.{IsChoice, IsCounted, RowsBind, length_name}
use Rattle.rdx_bind.specs.Combining.{rows_of}
use Rattle.rdx_bind.specs.Rows.{SplitRow, all_matches, split_row_of, split_rows_of}
use Rattle.rdx_bind.proofs.Repeating.{all_choices, choices_bind, repeats_exactly, repeats_unnamed}
use Rattle.rdx_bind.proofs.repetition.bound_over.Goals as goal

pub returns-then-is_empty : goal.returns-then-is_empty
returns-then-is_empty c =
    let xs : List (List ℕ) = c.args.repetition.names.now in
    let x : Option (List ℕ) = length_name c.args.repetition.length in
    let cells : List SplitRow = split_rows_of c.args.cells.now in
    let rows : List (List Binding) = all_matches cells in
    let n : length xs ≡ 0 = grind (arith, common_steps) in
    let many : length c.args.cells.now ≡ length rows =
    sym (length-map cells (λ (row : SplitRow). row.matches) ∙ length-map c.args.cells.now split_row_of) in
    IfOk-weaker c.bound_unnamed.result _ _ (λ v h. repeats_unnamed xs x rows (bindings_of v.items) (nil_from_length xs n) c.requires.bound (c.requires.plain cc) c.requires.full
    (subst (λ (m : ℕ). HasExactly (bindings_of v.items) (IsCounted no_names m x)) many h)) c.bound_unnamed.ensures

pub bound_in-requires-clause-bound : goal.bound_in-requires-clause-bound
bound_in-requires-clause-bound c =
    let rows : List (List Binding) = all_matches (split_rows_of c.args.cells.now) in
    let lists : List (List Binding) = rows_of c.in_ok-lists.lists.items in
    let h : HasExactly lists (IsChoice rows) =
    all_choices rows (rows_of c.in_ok-first.first.items) lists c.in_ok-first.ensures c.in_ok-lists.ensures in
    let b : RowsBind c.args.repetition.names.now lists = choices_bind c.requires.bound h in
    rw c.deref.ensures.value b

pub returns : goal.returns
returns c =
    let rows : List (List Binding) = all_matches (split_rows_of c.args.cells.now) in
    let lists : List (List Binding) = rows_of c.in_ok-lists.lists.items in
    let h : HasExactly lists (IsChoice rows) =
    all_choices rows (rows_of c.in_ok-first.first.items) lists c.in_ok-first.ensures c.in_ok-lists.ensures in
    IfOk-weaker c.bound_in.result _ _ (λ v g. repeats_exactly h (rw c.deref.ensures.value at g)) c.bound_in.ensures
