-- The names of the nonterminals of a language.
use Rattle.std.specs.Prelude.{ℕ, List, [], ◌∷◌, flat_map}
use Rattle.rdx_lang.specs.Patterns.{Language}
use Rattle.rdx_lang.specs.WellFormed.{defined}
use Rattle.rdx_lang.specs.declared.pattern.Ref.{Ref}
use Rattle.rdx_lang.specs.declared.pattern.Ref.TheVariants.{Nt, Cross}

-- the name by which a pattern names a nonterminal; contexts between nonterminals have none
abbrev pub ref_names : Ref → List (List ℕ)
ref_names (Nt x) = x ∷ []
ref_names (Cross x y) = []

-- what a nonterminal is called in a refusal: contexts from one nonterminal to another are called by the first
abbrev pub called : Ref → List ℕ
called (Nt x) = x
called (Cross x y) = x

-- the names of a language's nonterminals
abbrev pub names_of : Language → List (List ℕ)
names_of L = flat_map ref_names (defined L)
