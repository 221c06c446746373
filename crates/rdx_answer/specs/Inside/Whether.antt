-- Whether a pattern matches a term.
use Rattle.std.specs.Prelude.{◌≡◌, ℕ, Bool, List}
use Rattle.rdx_term.specs.Tree.{Tree}
use Rattle.rdx_lang.specs.Bindings.{Binding}
use Rattle.rdx_lang.specs.Listing.{Matches}
use Rattle.rdx_lang.specs.Patterns.{Pattern, Language}
use Rattle.rdx_lang.specs.Programs.{Program}
use Rattle.rdx_eval.specs.Judgements.{are_some}
use Rattle.rdx_answer.specs.MatchAnswers.{Finds}

-- b says whether there are bindings by which p matches t
pub record TellsWhether (L : Language) (p : Pattern) (t : Tree) (b : Bool) : Type 0 where
  pub found : List Binding
  pub listing : Matches L p t found
  pub told : b ≡ are_some found

-- the same, in the language of this name
pub record TellsFound (P : Program) (name : List ℕ) (p : Pattern) (t : Tree) (b : Bool) : Type 0 where
  pub found : List Binding
  pub finds : Finds P name p t found
  pub told : b ≡ are_some found
