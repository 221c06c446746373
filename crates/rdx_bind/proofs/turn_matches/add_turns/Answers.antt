use Rattle.std.proofs.Common.{List}
use Rattle.std.proofs.lemmas.Result.{on_ok_weaker}
use Rattle.rdx_lang.specs.Bindings.{Binding}
use Rattle.rdx_lang.specs.Collecting.{Adds, HasExactly}
use Rattle.rdx_lang.specs.Shown.{bindings_of}
use Rattle.rdx_bind.specs.Choices.{Repeats, length_name}
use Rattle.rdx_bind.specs.Combining.{Joined}
use Rattle.rdx_bind.specs.Rows.{all_matches, split_rows_of}
use Rattle.rdx_bind.proofs.Gathering.{adds_as}
use Rattle.rdx_bind.proofs.TurnRows.{joined_repeats, repeats_joined}
use Rattle.rdx_bind.proofs.turn_matches.add_turns.Goals as goal

pub returns : goal.returns
returns c =
    let rows : List (List Binding) = all_matches (split_rows_of c.args.cells.now) in
    let firsts : List Binding = bindings_of c.in_ok-firsts.firsts.items in
    let others : List Binding = bindings_of c.args.others.now in
    let old : List Binding = bindings_of c.args.found.now.items in
    let new : List Binding = bindings_of c.add_all.new.found.items in
    let h : HasExactly firsts (Repeats c.args.repetition.names.now (length_name c.args.repetition.length) rows) =
    c.in_ok-firsts.ensures in
    on_ok_weaker c.add_all.result
    (λ (a : Adds (Joined firsts others) old new). adds_as old new (λ b j. joined_repeats b h j) (λ b r. repeats_joined b h r) a) c.add_all.ensures
