use Rattle.std.proofs.Common.{◌-◌, ◌∙◌, length, drop, ap, arith}
use Rattle.std.proofs.lemmas.List.{take_all, length-drop}
use Rattle.rdx_term.specs.View.{trees_of}
use Rattle.rdx_why.proofs.LaidBehind.{terms_after}
use Rattle.rdx_why.proofs.lists.terms_behind.Goals as goal

pub returns : goal.returns
returns c =
    let xs = c.args.terms.now in
    let k = c.args.count in
    ap trees_of (take_all (length xs - k) (drop k xs) (let e = length-drop k xs in omega arith)) ∙ terms_after xs k
