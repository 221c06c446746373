use Rattle.std.proofs.Common.{map, subst}
use Rattle.std.specs.Prelude.{◌↔◌, IsTrue}
use Rattle.rdx_term.specs.Tree.{Tree}
use Rattle.rdx_term.specs.View.{tree_of}
use Rattle.rdx_lang.specs.Members.{In}
use Rattle.rdx_lang.specs.ProgramView.{program_of}
use Rattle.rdx_lang.specs.Programs.{Program}
use Rattle.rdx_eval.specs.Views.{Says, terms_in}
use Rattle.rdx_deriv.specs.Judged.{calls}
use Rattle.rdx_why.proofs.WholeGoals.{listed_judged, judged_listed}
use Rattle.rdx_why.proofs.explaining.has_output.Goals as goal

pub returns-in-Ok-clause-judged : goal.returns-in-Ok-clause-judged
returns-in-Ok-clause-judged g c =
    let P : Program = program_of c.args.engine.now.program.now in
    let j = c.args.j.now in
    let a : Tree = tree_of c.args.a.now in
    let o : Tree = tree_of c.args.o.now in
    let h = subst (Says terms_in ((calls P).outputs_of j a)) c.in-Ok.is c.judge.ensures.answer in
    let k = subst (λ ts. IsTrue c.is_listed.result ↔ In o (map tree_of ts)) c.deref.ensures.value c.is_listed.ensures in
    (λ r. listed_judged P j a o (map tree_of c.in-Ok.outs.items) h (k.0 r), λ d. k.1 (judged_listed P j a o (map tree_of c.in-Ok.outs.items) h d))
