use Rattle.std.proofs.Common.{◌≡◌, ◌+◌, ◌∙◌, ℕ, List, [], ◌∷◌, length, Option, sym, ap, subst, arith}
use Rattle.std.proofs.lemmas.Grind.{common_steps}
use Rattle.std.proofs.lemmas.List.{length-map, nil_from_length}
use Rattle.std.proofs.lemmas.Result.{IfOk-weaker}
use Rattle.rdx_lang.specs.BindingView.{mismatches_of}
use Rattle.rdx_lang.specs.Bindings.{Binding, no_names}
use Rattle.rdx_lang.specs.Collecting.{Arises, HasExactly}
use Rattle.rdx_lang.specs.Shown.{binding_of, bindings_of}
use Rattle.rdx_bind.specs.Choices.{IsChoice, IsLonger, IsCounted, RowsArePlain, RowsBind, length_name}
use Rattle.rdx_bind.specs.Combining.{rows_of}
use Rattle.rdx_bind.specs.Ends.{rows_around}
use Rattle.rdx_bind.specs.Rows.{SplitRow, all_matches, split_row_of, split_rows_of}
use Rattle.rdx_bind.proofs.Repeating.{all_choices, choices_around, choices_bind, repeats_exactly, repeats_unnamed, around_length, around_plain}
use Rattle.rdx_bind.proofs.repetition.bound_around.Goals as goal
use Rattle.rdx_bind.proofs.repetition.bound_around.Goals.{In_ok-lists}

pub returns-then-is_empty-2 : goal.returns-then-is_empty-2
returns-then-is_empty-2 c =
    let xs : List (List ℕ) = c.args.repetition.names.now in
    let x : Option (List ℕ) = length_name c.args.repetition.length in
    let before : List SplitRow = split_rows_of c.args.before.now in
    let between : List SplitRow = split_rows_of c.args.between.now in
    let rows : List (List Binding) = rows_around before (binding_of c.args.turn.now) between in
    let n : length xs ≡ 0 = grind (arith, common_steps) in
    let e : length rows ≡ length before + length between + 1 = around_length before (binding_of c.args.turn.now) between in
    let f : length before ≡ length c.args.before.now = length-map c.args.before.now split_row_of in
    let g : length between ≡ length c.args.between.now = length-map c.args.between.now split_row_of in
    let many : c.args.turns ≡ length rows = omega arith in
    let none : length c.differs.result.now ≡ 0 = grind (arith, common_steps) in
    let alone : (binding_of c.args.turn.now).differs ≡ [] = sym c.differs.ensures.value ∙ ap mismatches_of (nil_from_length c.differs.result.now none) in
    let plain : RowsArePlain rows = around_plain before (binding_of c.args.turn.now) between (c.requires.before cc) alone (c.requires.between cc) in
    IfOk-weaker c.bound_unnamed.result _ _ (λ v h. repeats_unnamed xs x rows (bindings_of v.items) (nil_from_length xs n) c.requires.bound plain c.requires.full
    (subst (λ (m : ℕ). HasExactly (bindings_of v.items) (IsCounted no_names m x)) many h)) c.bound_unnamed.ensures

-- the lists are the choices
choices : (c : In_ok-lists) → HasExactly (rows_of c.in_ok-lists.lists.items)
    (IsChoice (rows_around (split_rows_of c.args.before.now) (binding_of c.args.turn.now) (split_rows_of c.args.between.now)))
choices c =
    let before : List (List Binding) = all_matches (split_rows_of c.args.before.now) in
    let row : List Binding = binding_of c.args.turn.now ∷ [] in
    let firsts : List (List Binding) = rows_of c.in_ok-firsts.firsts.items in
    let more : List (List Binding) = rows_of c.in_ok-more.more.items in
    let h : HasExactly firsts (IsChoice before) =
    all_choices before (rows_of c.in_ok-first.first.items) firsts c.in_ok-first.ensures c.in_ok-firsts.ensures in
    let l : HasExactly more (Arises (IsLonger row) firsts) = rw c.from_ref.ensures.value at c.in_ok-more.ensures in
    choices_around before row (all_matches (split_rows_of c.args.between.now)) firsts more (rows_of c.in_ok-lists.lists.items) h l c.in_ok-lists.ensures

pub bound_in-requires-clause-bound : goal.bound_in-requires-clause-bound
bound_in-requires-clause-bound c =
    let b : RowsBind c.args.repetition.names.now (rows_of c.in_ok-lists.lists.items) =
    choices_bind c.requires.bound (choices (goal.at.bound_in-requires-clause-bound c).In_ok-lists) in
    rw c.deref.ensures.value b

pub returns : goal.returns
returns c =
    IfOk-weaker c.bound_in.result _ _ (λ v g. repeats_exactly (choices (goal.at.returns c).In_ok-lists) (rw c.deref.ensures.value at g)) c.bound_in.ensures
