-- What is kept of calls: each answer with the call that has it, and a height at which it has it.
use Rattle.std.specs.Prelude.{◌≡◌, ◌≤◌, ℕ, List, map, Vec}
use Rattle.std.specs.declared.alloc.Global.{Global}
use Rattle.rdx_term.specs.Tree.{Tree}
use Rattle.rdx_term.specs.View.{tree_of}
use Rattle.rdx_term.specs.declared.term.Term.{Term}
use Rattle.rdx_lang.specs.Members.{In}
use Rattle.rdx_lang.specs.ProgramView.{program_of}
use Rattle.rdx_lang.specs.Programs.{Program}
use Rattle.rdx_eval.specs.Answers.{value}
use Rattle.rdx_eval.specs.Heights.{calls_at}
use Rattle.rdx_eval.specs.declared.kept.Kept.{Kept}
use Rattle.rdx_eval.specs.declared.kept.Memo.{Memo}
use Rattle.rdx_eval.specs.declared.kept.Sought.{Sought}
use Rattle.rdx_eval.specs.declared.kept.Sought.TheVariants.{Kept as found, Under}
use Rattle.rdx_eval.specs.declared.scope.Setting.{Setting}

-- among these an answer is kept of a call of this name, for this term, at no greater height
pub record IsKept {T : Type 0} (es : List (Kept T)) (n : ℕ) (f : List ℕ) (a : Tree) (x : T) : Type 0 where
  pub entry : Kept T
  pub member : In entry es
  pub low : entry.height ≤ n
  pub name : entry.name ≡ f
  pub args : tree_of entry.args ≡ a
  pub answer : entry.answer ≡ x

-- what is so of an answer that is found
abbrev pub IfKept : {T : Type 0} → Sought T → (T → Type 0) → Type 0
IfKept (found x) P = P x
IfKept (Under n) P = Unit {0}

-- the metafunction has this value at this height
abbrev pub IsValue : Program → Kept Term → Type 0
IsValue P e = (calls_at P e.height).value_of e.name (tree_of e.args) (value (tree_of e.answer))

-- the judgement has these outputs at this height
abbrev pub AreOutputs : Program → Kept (Vec Term Global) → Type 0
AreOutputs P e = (calls_at P e.height).outputs_of e.name (tree_of e.args) (value (map tree_of e.answer.items))

-- all that is kept is so
pub record IsMemo (P : Program) (m : Memo) : Type 0 where
  pub values : (e : Kept Term) → In e m.values.kept.items → IsValue P e
  pub outputs : (e : Kept (Vec Term Global)) → In e m.outputs.kept.items → AreOutputs P e

-- the same of the program of a setting
abbrev pub IsMemoIn : {H : Type 0} → Setting H → Memo → Type 0
IsMemoIn s m = IsMemo (program_of s.program.now) m
