-- The answers to queries that match a pattern against a term or split the term by it, from the rules of matching and splitting alone.
use Rattle.std.specs.Prelude.{◌≡◌, ℕ, List, Bool, Some, IsTrue}
use Rattle.rdx_term.specs.Tree.{Tree}
use Rattle.rdx_lang.specs.Bindings.{Binding}
use Rattle.rdx_lang.specs.Decompositions.{Decomposition}
use Rattle.rdx_lang.specs.Listing.{Matches, Splits}
use Rattle.rdx_lang.specs.Patterns.{Pattern, Language}
use Rattle.rdx_answer.specs.AnswerText.{matches_text, whether_text, splits_text}
use Rattle.rdx_lang.specs.Programs.{Program, language_named}

-- found is the listing of what is seen of the bindings by which p matches t, in the language of this name
pub record Finds (P : Program) (name : List ℕ) (p : Pattern) (t : Tree) (found : List Binding) : Type 0 where
  pub language : Language
  pub known : language_named P name ≡ Some language
  pub listing : Matches language p t found

-- found is the listing of what p splits t into, in the language of this name
pub record FindsSplits (P : Program) (name : List ℕ) (p : Pattern) (t : Tree) (found : List Decomposition) : Type 0 where
  pub language : Language
  pub known : language_named P name ≡ Some language
  pub listing : Splits language p t found

-- `redex-match` writes each binding that is found; nothing is stated that could be unmet
pub record IsMatchesAnswer (P : Program) (name : List ℕ) (p : Pattern) (t : Tree) (text : List ℕ) (met : Bool) : Type 0 where
  pub found : List Binding
  pub finds : Finds P name p t found
  pub printed : text ≡ matches_text found
  pub is_met : IsTrue met

-- `redex-match?` writes whether one is found; nothing is stated that could be unmet
pub record IsWhetherAnswer (P : Program) (name : List ℕ) (p : Pattern) (t : Tree) (text : List ℕ) (met : Bool) : Type 0 where
  pub found : List Binding
  pub finds : Finds P name p t found
  pub printed : text ≡ whether_text found
  pub is_met : IsTrue met

-- `redex-decompose` writes each split that is found; nothing is stated that could be unmet
pub record IsSplitsAnswer (P : Program) (name : List ℕ) (p : Pattern) (t : Tree) (text : List ℕ) (met : Bool) : Type 0 where
  pub found : List Decomposition
  pub finds : FindsSplits P name p t found
  pub printed : text ≡ splits_text found
  pub is_met : IsTrue met
