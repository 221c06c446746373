-- What holds of all that is known, for closures and for what is read: languages have the cross nonterminals for which the file asks, and the
-- patterns of relations are well formed in their languages.
use Rattle.std.specs.Prelude.{◌≡◌, ℕ, List, [], ◌∷◌, Option, Some, None, IsTrue}
use Rattle.rdx_sexp.specs.Sexp.{Sexp}
use Rattle.rdx_lang.specs.Closures.{has_well_formed_patterns}
use Rattle.rdx_lang.specs.Members.{In}
use Rattle.rdx_lang.specs.Patterns.{Language}
use Rattle.rdx_lang.specs.Programs.{Program, Relation, language_named}
use Rattle.rdx_lang.specs.References.{is_among}
use Rattle.rdx_lang.specs.WellFormed.{defined}
use Rattle.rdx_lang.specs.declared.pattern.Ref.TheVariants.{Nt, Cross}
use Rattle.rdx_patterns.specs.Parts.{text_of}
use Rattle.rdx_patterns.specs.Readable.{IsReadable}
use Rattle.rdx_forms.specs.Known.{Known}

-- the language has all cross nonterminals to y, if y is a nonterminal of it
abbrev pub IsCrossedTo : Language → List ℕ → Type 0
IsCrossedTo L y =
    IsTrue (is_among (Nt y) (defined L)) → (x : List ℕ) → IsTrue (is_among (Nt x) (defined L)) → IsTrue (is_among (Cross x y) (defined L))

-- so has each of these languages, for each of these nonterminals
abbrev pub AreCrossed : List Language → List (List ℕ) → Type 0
AreCrossed Ls ys = (L : Language) → In L Ls → (y : List ℕ) → In y ys → IsCrossedTo L y

-- the language of the name that stands there, where one stands and is that of a language
abbrev pub language_at : Known → Option Sexp → Option Language
language_at K None = None
language_at K (Some l) = language_named K.program (text_of l)

-- the relation's language is known, and its patterns are well formed there
pub record IsRelationOf (P : Program) (R : Relation) : Type 0 where
  pub language : Language
  pub named : language_named P R.language ≡ Some language
  pub formed : IsTrue (has_well_formed_patterns language R)

-- all of this
pub record IsFitting (K : Known) : Type 0 where
  pub crossed : AreCrossed K.program.languages K.ends
  pub relations : (R : Relation) → In R K.program.relations → IsRelationOf K.program R

-- ---- what is read

-- all of these can be read
abbrev pub AreReadable : List Sexp → Type 0
AreReadable [] = Unit {0}
AreReadable (d ∷ ds) = IsReadable d × AreReadable ds
