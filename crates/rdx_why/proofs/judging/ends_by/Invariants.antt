use Rattle.std.proofs.Common.{◌≡◌, ◌++◌, map, drop}
use Rattle.rdx_lang.specs.Members.{In}
use Rattle.rdx_lang.specs.ProgramView.{program_of}
use Rattle.rdx_lang.specs.Shown.{bindings_of}
use Rattle.rdx_lang.specs.TemplateView.{template_of}
use Rattle.rdx_eval.specs.Views.{program_in}
use Rattle.rdx_why.specs.Model.Ends.{HasOnly, bound}
use Rattle.rdx_why.specs.declared.kept.End.{End}
use Rattle.rdx_why.proofs.judging.ends_by.Given as goal

abbrev pub invariant-loop-c : goal.invariant-loop-c
invariant-loop-c g l = record {
  bound : map bound l.ends.items ++ bindings_of (drop l.c-index l.found) ≡ bindings_of l.found;
  only : (e : End) → In e l.ends.items → HasOnly (program_of l.program) (map template_of l.outs) e;
  same : program_in l.engine ≡ program_in l.fn.engine;
}
