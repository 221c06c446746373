use Rattle.std.proofs.Common.{refl}
use Rattle.rdx_lang.specs.ProgramView.{program_of}
use Rattle.rdx_term.specs.View.{tree_of}
use Rattle.rdx_why.proofs.EndLaws.{keeps_more}
use Rattle.rdx_why.proofs.ends.Ends.keep.Goals as goal

pub invariant_of-self : goal.invariant_of-self
invariant_of-self c =
    let s = c.args.self.now in
    record {
      kept = keeps_more (program_of s.program.now) s.store c.put.new.store _ c.args.j.now (tree_of c.args.a.now) c.args.ends.items s.kept c.put.ensures
          c.in_ok-share.ensures c.in_ok-share-2.ensures refl c.requires;
    }
