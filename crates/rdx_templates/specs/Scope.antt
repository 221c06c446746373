-- What the whole file defines: metafunctions and judgements are known in all of it, also before their forms.
use Rattle.std.specs.Prelude.{ℕ, Bool, List, [], ◌∷◌, Option, Some, None, map, bytes_eq, if◌then◌else◌}
use Rattle.std.specs.List.{list_any}
use Rattle.rdx_lang.specs.Modes.{Callable}
use Rattle.rdx_lang.specs.Programs.{Mode}
use Rattle.rdx_templates.specs.declared.scope.Scope as code_scope

-- the names of metafunctions, and the names of judgements with their modes, in the order of their forms
pub record Scope : Type 0 where
  pub metafunctions : List (List ℕ)
  pub judgements : List (List ℕ × Mode)

-- a metafunction has this name
abbrev pub has_metafunction : Scope → List ℕ → Bool
has_metafunction S x = list_any (λ f. bytes_eq f x) S.metafunctions

-- the mode of the first of these judgements that has this name
abbrev pub mode_among : List (List ℕ × Mode) → List ℕ → Option Mode
mode_among [] x = None
mode_among (j ∷ js) x = if bytes_eq j.0 x then Some j.1 else mode_among js x

-- the mode of the judgement of this name, where there is one; the first form of that name counts
abbrev pub mode_of : Scope → List ℕ → Option Mode
mode_of S x = mode_among S.judgements x

-- what may be called in the file
abbrev pub callable : Scope → Callable
callable S = record { functions = has_metafunction S; modes = mode_of S }

-- the scope that a scope of the code stands for
abbrev pub scope_of : code_scope.Scope → Scope
scope_of s = record {
  metafunctions = s.metafunctions.items;
  judgements = map (λ j. (j.0, j.1.items)) s.judgements.items;
}
