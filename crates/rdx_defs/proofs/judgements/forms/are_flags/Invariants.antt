use Rattle.std.proofs.Common.{◌≡◌, drop}
use Rattle.std.specs.List.{list_all}
use Rattle.rdx_defs.specs.JudgementForms.{is_flag}
use Rattle.rdx_defs.proofs.judgements.forms.are_flags.Given as goal

abbrev pub invariant-loop-d : goal.invariant-loop-d
invariant-loop-d l = list_all is_flag (drop l.d-index l.flags) ≡ list_all is_flag l.flags
