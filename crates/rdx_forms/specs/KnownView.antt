-- What is known, as the code has it.
use Rattle.std.specs.Prelude.{map}
use Rattle.std.specs.Rc.{rc_str_bytes}
use Rattle.rdx_lang.specs.ProgramView.{program_of}
use Rattle.rdx_templates.specs.Scope.{scope_of}
use Rattle.rdx_answer.specs.Views.{bound_of}
use Rattle.rdx_forms.specs.Known as model
use Rattle.rdx_forms.specs.declared.known.Known.{Known}

-- what a value of the code knows
abbrev pub known_of : Known → model.Known
known_of k = record {
  scope = scope_of k.scope;
  languages = map (λ l. (l.0, rc_str_bytes l.1)) k.languages.items;
  ends = k.ends.items;
  program = program_of k.program;
  forms = bound_of k.forms.items;
}
