use Rattle.std.proofs.Common.{◌++◌, ℕ, List, codes}
use Rattle.std.specs.Prelude.{decimal}
use Rattle.rdx_answer.proofs.WrittenBehind.{written_behind}
use Rattle.rdx_answer.proofs.walk_texts.write_no_such_reduct.Goals as goal

pub returns : goal.returns
returns c =
    let o : List ℕ = c.args.out.now.items in
    let a : List ℕ = codes "fault NoSuchReduct " in
    let i : List ℕ = decimal c.args.choice in
    let b : List ℕ = codes " of " in
    let n : List ℕ = decimal c.args.steps in
    written_behind o (((a ++ i) ++ b) ++ n) (codes "\n")
    (written_behind o ((a ++ i) ++ b) n
    (written_behind o (a ++ i) b
    (written_behind o a i c.in_ok-extend_from_slice.ensures.items c.in_ok-write_number.ensures)
    c.in_ok-extend_from_slice-2.ensures.items)
    c.in_ok-write_number-2.ensures)
    c.in_ok-push.ensures.items
