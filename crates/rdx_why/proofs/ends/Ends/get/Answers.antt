use Rattle.rdx_lang.specs.ProgramView.{program_of}
use Rattle.rdx_term.specs.View.{tree_of}
use Rattle.rdx_why.proofs.EndLaws.{kept_ends}
use Rattle.rdx_why.proofs.WaysLaws.{some_weaker}
use Rattle.rdx_why.proofs.ends.Ends.get.Goals as goal

pub returns : goal.returns
returns c =
    let s = c.args.self.now in
    some_weaker _ _ (λ es k. kept_ends (program_of s.program.now) s.store c.args.j.now c.args.place (tree_of c.args.a.now) es.now s.kept k) c.find.result
    c.find.ensures
