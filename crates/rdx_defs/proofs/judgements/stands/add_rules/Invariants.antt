use Rattle.std.proofs.Common.{◌≡◌, ◌++◌, drop}
use Rattle.std.specs.Prelude.{option_map}
use Rattle.rdx_defs.specs.Inside.BareForms.{rules_stand}
use Rattle.rdx_templates.specs.Scope.{scope_of}
use Rattle.rdx_parts.specs.PartViews.{stands_of}
use Rattle.rdx_defs.proofs.judgements.stands.add_rules.Given as goal

abbrev pub invariant-loop-d : goal.invariant-loop-d
invariant-loop-d l =
    stands_of l.out.items ++ rules_stand (scope_of l.scope) (option_map (λ d. d.now) l.judgement) (option_map (λ m. m.now) l.mode) (drop l.d-index l.rules)
    ≡ stands_of l.fn.out.items ++ rules_stand (scope_of l.scope) (option_map (λ d. d.now) l.judgement) (option_map (λ m. m.now) l.mode) l.rules
