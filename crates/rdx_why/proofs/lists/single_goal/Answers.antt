use Rattle.std.proofs.Common.{sym, subst}
use Rattle.rdx_lang.specs.Bindings.{Binding}
use Rattle.rdx_lang.specs.Shown.{binding_of}
use Rattle.rdx_opened.specs.Opening.{IsApart}
use Rattle.rdx_opened.specs.Seeking.{marks_of}
use Rattle.rdx_opened.proofs.Standing.{stands-part}
use Rattle.rdx_why.proofs.TakenLengths.{picked-within}
use Rattle.rdx_why.proofs.lists.single_goal.Goals as goal

pub whole-requires-clause-apart : goal.whole-requires-clause-apart
whole-requires-clause-apart c =
    subst (λ (b : Binding). IsApart (marks_of c.args.marks.now) b) (sym c.in_ok-restricted.ensures)
    (stands-part (picked-within (binding_of c.args.c.now) c.requires.marked.ascending c.args.names.now) c.requires.marked.apart)
