-- The goals and derivations that the code's stand for.
use Rattle.std.specs.Prelude.{List, map}
use Rattle.rdx_term.specs.View.{tree_of}
use Rattle.rdx_lang.specs.PatternView.{pattern_of}
use Rattle.rdx_lang.specs.Shown.{binding_of}
use Rattle.rdx_deriv.specs.Derivations.{Goal, matched, split, judged, Derivation, node, derivations, root}
use Rattle.rdx_deriv.specs.declared.goal.Goal.{Goal as code_goal}
use Rattle.rdx_deriv.specs.declared.goal.Goal.TheVariants.{Match, Split, Judge}
use Rattle.rdx_deriv.specs.declared.deriv.Deriv as code_deriv
use Rattle.rdx_deriv.specs.declared.deriv.Deriv.TheOpen as layer

-- the goal that a goal of the code stands for
abbrev pub goal_of : code_goal → Goal
goal_of (Match l p t b) = matched l (pattern_of p) (tree_of t) (binding_of b)
goal_of (Split l p t C s b) = split l (pattern_of p) (tree_of t) (tree_of C) (tree_of s) (binding_of b)
goal_of (Judge j a o) = judged j (tree_of a) (tree_of o)

-- a level of a derivation, once the derivations under it are known
abbrev pub derivation_step : layer.Deriv-F Derivation → Derivation
derivation_step d = node (goal_of d.goal) d.choice.items (derivations d.under.items)

-- the derivation that a derivation of the code stands for
abbrev pub derivation_of : code_deriv.Deriv → Derivation
derivation_of = code_deriv.fold-Deriv Derivation derivation_step

-- what each of these derives in the end
abbrev pub goals_of : List code_deriv.Deriv → List Goal
goals_of ds = map (λ d. root (derivation_of d)) ds
