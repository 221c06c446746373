use Rattle.std.proofs.Common.{drop, map}
use Rattle.rdx_forms.specs.Fitting.{IsFitting}
use Rattle.rdx_forms.specs.KnownView.{known_of}
use Rattle.rdx_answer.specs.Views.{query_of}
use Rattle.rdx_query.proofs.FileRead.{SoFar}
use Rattle.rdx_query.proofs.file.check_file.Given as goal

abbrev pub invariant-loop-form : goal.invariant-loop-form
invariant-loop-form l =
    SoFar l.forms (drop l.form-index l.forms) (known_of l.known) (map (query_of (known_of l.known).forms) l.queries.items)
    × IsFitting (known_of l.known)
