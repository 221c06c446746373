-- The names that are bound in the alternatives of a form.
use Rattle.std.specs.Prelude.{ℕ, List, [], ◌∷◌}
use Rattle.rdx_patterns.specs.AreNames.{AreNames}
use Rattle.rdx_patterns.specs.PatternChecks.{all_bound}
use Rattle.rdx_grammar.specs.Stands.{Stand, misshaped, defined, nonterminal, alternative, inherited}
use Rattle.rdx_patterns.specs.declared.patterns.position.Position.TheVariants.{Grammar as InGrammar}
use Rattle.rdx_patterns.specs.BoundNames.{bound_names}

-- what an alternative binds are names, over these nonterminals
abbrev pub BindsNames : List (List ℕ) → Stand → Type 0
BindsNames ns (misshaped d) = Unit {0}
BindsNames ns (defined d) = Unit {0}
BindsNames ns (nonterminal d) = Unit {0}
BindsNames ns (alternative os) = AreNames (bound_names (all_bound ns InGrammar os))
BindsNames ns (inherited d names again) = Unit {0}

-- so do all alternatives among these
abbrev pub BindNames : List (List ℕ) → List Stand → Type 0
BindNames ns [] = Unit {0}
BindNames ns (s ∷ ss) = BindsNames ns s × BindNames ns ss
