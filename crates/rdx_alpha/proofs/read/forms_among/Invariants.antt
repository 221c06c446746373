use Rattle.std.proofs.Common.{◌≡◌, ◌++◌, drop}
use Rattle.rdx_sexp.specs.Sexp.{sexps}
use Rattle.rdx_sexp.specs.Size.{AreSpelled}
use Rattle.rdx_alpha.specs.Reading.{forms_among}
use Rattle.rdx_alpha.specs.View.{forms_of}
use Rattle.rdx_alpha.proofs.read.forms_among.Given as goal

abbrev pub invariant-loop-d : goal.invariant-loop-d
invariant-loop-d l = record {
  spelled : AreSpelled (sexps (drop l.d-index l.written));
  reads : forms_of l.forms.items ++ forms_among (drop l.d-index l.written) ≡ forms_among l.written;
}
