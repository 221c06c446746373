use Rattle.std.proofs.Common.{arith}
use Rattle.std.proofs.lemmas.Option.{slice_get_within}
use Rattle.rdx_why.proofs.HoleQuestions.{other_holes}
use Rattle.rdx_why.proofs.around.is_only_hole.Goals as goal

pub returns : goal.returns
returns c h =
    other_holes c.args.terms.now c.args.place
    (λ j t e n. c.loop-i.invariant j t (let w = slice_get_within c.args.terms.now j t e in omega (arith, w, c.loop-i-test.false)) e n)
