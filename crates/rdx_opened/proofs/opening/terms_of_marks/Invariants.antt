use Rattle.std.proofs.Common.{◌≡◌, ◌++◌, drop}
use Rattle.rdx_lang.specs.Shown.{binding_of, bindings_of}
use Rattle.rdx_opened.specs.Inside.Marks.{each_alone, marked_terms}
use Rattle.rdx_opened.specs.Seeking.{marks_of}
use Rattle.rdx_opened.proofs.opening.terms_of_marks.Given as goal

abbrev pub invariant-loop-mark : goal.invariant-loop-mark
invariant-loop-mark l =
    bindings_of l.found.items ++ each_alone (marked_terms (marks_of (drop l.mark-index l.marks)) (binding_of l.b))
    ≡ each_alone (marked_terms (marks_of l.marks) (binding_of l.b))
