-- The steps of a relation in a program.
use Rattle.std.specs.Prelude.{List, Option, Some, None}
use Rattle.rdx_term.specs.Tree.{Tree}
use Rattle.rdx_lang.specs.Patterns.{Language}
use Rattle.rdx_lang.specs.Programs.{Program, Relation, language_named}
use Rattle.rdx_eval.specs.Answers.{Answer}
use Rattle.rdx_eval.specs.Calls.{Calls}
use Rattle.rdx_eval.specs.Heights.{calls_at, height}
use Rattle.rdx_reduce.specs.Steps.{Step, Steps}

-- the steps that a relation takes from t over a language, where there is one
abbrev pub StepsOver : Option Language → Calls → Relation → Tree → Answer (List Step) → Type 0
StepsOver None C R t a = ⊥
StepsOver (Some L) C R t a = Steps L C R t a

-- the steps that a relation takes from t, in its language of the program
abbrev pub AreSteps : Program → Relation → Tree → Answer (List Step) → Type 0
AreSteps P R t = StepsOver (language_named P R.language) (calls_at P height) R t
