use Rattle.std.proofs.Common.{◌≡◌, ◌++◌, drop, map}
use Rattle.rdx_defs.proofs.judgements.stands.add_data.Given as goal

abbrev pub invariant-loop-d : goal.invariant-loop-d
invariant-loop-d l = map (λ d. d.now) l.out.items ++ drop l.d-index l.patterns ≡ map (λ d. d.now) l.fn.out.items ++ l.patterns
