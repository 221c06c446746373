-- The binding forms of languages, found by the names of these.
use Rattle.std.specs.Prelude.{List}
use Rattle.rdx_answer.specs.Bound.{Bound}
use Rattle.rdx_answer.specs.Views.{bound_of}
use Rattle.rdx_answer.specs.declared.bound.FormTable.{FormTable}

-- those that a table has
abbrev pub forms_in : FormTable → List Bound
forms_in t = bound_of t.forms.now
