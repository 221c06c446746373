use Rattle.std.proofs.Common.{◌≡◌, ◌++◌, drop, map}
use Rattle.std.specs.Prelude.{flat_map}
use Rattle.rdx_defs.specs.Scopes.{defined_functions, defined_judgements}
use Rattle.rdx_defs.proofs.scopes.scope_of.Given as goal

abbrev pub invariant-loop-d : goal.invariant-loop-d
invariant-loop-d l =
    (l.metafunctions.items ++ flat_map defined_functions (drop l.d-index l.forms) ≡ flat_map defined_functions l.forms)
    × (map (λ j. (j.0, j.1.items)) l.judgements.items ++ flat_map defined_judgements (drop l.d-index l.forms) ≡ flat_map defined_judgements l.forms)
