-- What stands in a branch, with what is bound before it.
use Rattle.std.proofs.Common.{ℕ, Bool, [], List, ◌∷◌}
use Rattle.rdx_templates.specs.Scope.{Scope}
use Rattle.rdx_parts.specs.Outlines.{Branch, taken_occurrences, bound_by_taken, bound_by_branch}
use Rattle.rdx_parts.specs.Stands.{Stand, pattern, template, names_bound, extras_stand}

-- what stands in a branch
abbrev pub branch_stands : Scope → List (List ℕ) → Bool → Branch → List Stand
branch_stands S ns again b =
    pattern [] (taken_occurrences b.takes) ∷ template (names_bound (bound_by_branch S ns b)) b.result
    ∷ extras_stand b.place S ns (bound_by_taken ns b.takes) again b.extras
