-- What is defined is found by its name in the tables of its kind.
use Rattle.std.specs.Prelude.{◌≡◌, ℕ, List, false, is_some, codes, map}
use Rattle.std.specs.BTreeMap.{BTreeMap, get_by_text}
use Rattle.std.specs.declared.string.String.{String}
use Rattle.rdx_lang.specs.Model.Places.{FindsPlaces}
use Rattle.rdx_lang.specs.Programs.{Program, language_named}
use Rattle.rdx_patterns.specs.Nonterminals.{names_of}
use Rattle.rdx_forms.specs.declared.tables.Tables.{Tables}

-- each of these texts is found with its first place, and no other text
abbrev pub FindsFirsts : {Y : Type 0} → BTreeMap (String Y) ℕ → List (List ℕ) → Type 0
FindsFirsts m xs = FindsPlaces (λ y. y) (get_by_text m) 0 xs

-- each definition of the program is found with its first place among those of its kind, and no other name; each language has the names of its
-- nonterminals; and none is named `hole`
pub record AreTabled (t : Tables) (P : Program) : Type 0 where
  pub languages : FindsFirsts t.languages (map (λ L. L.name) P.languages)
  pub metafunctions : FindsFirsts t.metafunctions (map (λ M. M.name) P.metafunctions)
  pub judgements : FindsFirsts t.judgements (map (λ J. J.name) P.judgements)
  pub relations : FindsFirsts t.relations (map (λ R. R.name) P.relations)
  pub nonterminals : t.nonterminals.items ≡ map names_of P.languages
  pub nameable : is_some (language_named P (codes "hole")) ≡ false
