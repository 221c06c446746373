-- What follows from the definitions, stated for the contracts of the module of laws.
use Rattle.std.specs.Prelude.{ℕ}
use Rattle.rdx_term.specs.Tree.{Tree}
use Rattle.rdx_lang.specs.Edges.{IsFree}
use Rattle.rdx_lang.specs.Patterns.{Language}
use Rattle.rdx_lang.specs.Programs.{Program, Relation}
use Rattle.rdx_eval.specs.Heights.{calls_at}
use Rattle.rdx_eval.specs.Laws.{Once, HasAnswer, AreFree}
use Rattle.rdx_reduce.specs.Steps.{Steps}

-- a relation has one listing of its steps from a term at most, or one fault
abbrev pub OneStepping : Type 0
OneStepping = (L : Language) (P : Program) (n : ℕ) (R : Relation) (t : Tree) → Once (Steps L (calls_at P n) R t)

-- in a language that is free of left recursion, of a program whose languages are, it has one
abbrev pub SomeStepping : Type 0
SomeStepping =
    (L : Language) (P : Program) (n : ℕ) (R : Relation) (t : Tree) → IsFree L → AreFree P → HasAnswer (Steps L (calls_at P n) R t)
