use Rattle.std.proofs.Common.{◌≡◌, drop}
use Rattle.rdx_defs.specs.MetafunctionForms.{clauses_function}
use Rattle.rdx_defs.proofs.metafunctions.forms.clauses_function.Given as goal

abbrev pub invariant-loop-d : goal.invariant-loop-d
invariant-loop-d l = clauses_function l.clauses ≡ clauses_function (drop l.d-index l.clauses)
