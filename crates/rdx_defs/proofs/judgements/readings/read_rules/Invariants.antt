use Rattle.std.proofs.Common.{◌≡◌, ◌++◌, drop}
use Rattle.std.specs.Prelude.{option_map}
use Rattle.rdx_lang.specs.ProgramView.{judgement_rules_of}
use Rattle.rdx_defs.specs.JudgementReading.{rules_reading}
use Rattle.rdx_templates.specs.Scope.{scope_of}
use Rattle.rdx_defs.proofs.judgements.readings.read_rules.Given as goal

abbrev pub invariant-loop-d : goal.invariant-loop-d
invariant-loop-d l =
    judgement_rules_of l.read.items ++ rules_reading (scope_of l.scope) l.names (option_map (λ d. d.now) l.judgement) (option_map (λ m. m.now) l.mode) (drop l.d-index l.rules)
    ≡ rules_reading (scope_of l.scope) l.names (option_map (λ d. d.now) l.judgement) (option_map (λ m. m.now) l.mode) l.rules
