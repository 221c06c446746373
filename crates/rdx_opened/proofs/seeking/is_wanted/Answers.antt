use Rattle.std.proofs.lemmas.Result.{IfOk-weaker}
use Rattle.rdx_lang.specs.Shown.{binding_of}
use Rattle.rdx_opened.specs.Seeking.{IsWanted, marks_of}
use Rattle.rdx_opened.proofs.Sought.{wanted_no}
use Rattle.rdx_opened.proofs.seeking.is_wanted.Goals as goal

pub returns-in-Some-clause-no : goal.returns-in-Some-clause-no
returns-in-Some-clause-no c =
    IfOk-weaker c.passes.result _ _
    (λ a f. wanted_no (marks_of c.args.marks.now) (binding_of c.args.c.now) (IsWanted c.args.wanted) c.in_ok-whole.field-0 c.in-Some.whole
    c.in-Some.is
    c.in_ok-whole.ensures.some a f)
    c.passes.ensures
