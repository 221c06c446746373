-- What is kept of calls, said by facts that are so in one way at most, as a ghost member asks: whatever a call is answered at the height of
-- what is kept of it, is that.
use Rattle.std.specs.Prelude.{◌≡◌, List, [], ◌∷◌, map, None, Vec, refl}
use Rattle.std.specs.Coded.{Coded, Coded-set, code_by}
use Rattle.std.specs.declared.alloc.Global.{Global}
use Rattle.rdx_term.specs.Model.Tokens.{coded_contents}
use Rattle.rdx_term.specs.Tree.{Contents, Tree, hole}
use Rattle.rdx_term.specs.View.{tree_of}
use Rattle.rdx_term.specs.declared.term.Term.{Term}
use Rattle.rdx_lang.specs.Members.{In}
use Rattle.rdx_lang.specs.Programs.{Program}
use Rattle.rdx_eval.specs.Answers.{Answer, value, fault}
use Rattle.rdx_eval.specs.Heights.{calls_at}
use Rattle.rdx_eval.specs.declared.kept.Kept.{Kept}
use Rattle.rdx_eval.specs.declared.kept.Memo.{Memo}
use mathlib.Core.HLevel.{⊥_prop}

-- ---- equal trees

-- the code of a list of trees, as what a list without a mark holds
coded_trees : Coded (List Tree)
coded_trees = code_by Contents coded_contents (λ ts. record { mark = None; items = ts }) (λ c. c.items) (λ _. refl)

-- the first of some trees
abbrev first_tree : List Tree → Tree
first_tree [] = hole
first_tree (t ∷ ts) = t

-- the code of a tree, as a list of it alone
coded_tree : Coded Tree
coded_tree = code_by (List Tree) coded_trees (λ t. t ∷ []) first_tree (λ _. refl)

-- ---- what is kept

-- the answer is this value
abbrev pub IsJust : {A : Type 0} → A → Answer A → Type 0
IsJust x (value y) = y ≡ x
IsJust x (fault f) = ⊥

-- whatever value the metafunction has at this height, it is this one
abbrev pub IsOnlyValue : Program → Kept Term → Type 0
IsOnlyValue P e = (r : Answer Tree) → (calls_at P e.height).value_of e.name (tree_of e.args) r → IsJust (tree_of e.answer) r

-- whatever outputs the judgement has at this height, they are these
abbrev pub AreOnlyOutputs : Program → Kept (Vec Term Global) → Type 0
AreOnlyOutputs P e = (r : Answer (List Tree)) → (calls_at P e.height).outputs_of e.name (tree_of e.args) r → IsJust (map tree_of e.answer.items) r

-- all that is kept is so
pub record KeepsOnly (P : Program) (m : Memo) : Type 0 where
  pub values : (e : Kept Term) → In e m.values.kept.items → IsOnlyValue P e
  pub outputs : (e : Kept (Vec Term Global)) → In e m.outputs.kept.items → AreOnlyOutputs P e

-- ---- in one way at most

-- an answer is a tree in one way at most
is_tree-prop : (t : Tree) (r : Answer Tree) → IsProp (IsJust t r)
is_tree-prop t (value u) = Coded-set coded_tree u t
is_tree-prop t (fault f) = ⊥_prop

-- and a list of trees
are_trees-prop : (ts : List Tree) (r : Answer (List Tree)) → IsProp (IsJust ts r)
are_trees-prop ts (value us) = Coded-set coded_trees us ts
are_trees-prop ts (fault f) = ⊥_prop

-- so all that is kept is so in one way at most
pub KeepsOnly-prop : (P : Program) (m : Memo) → IsProp (KeepsOnly P m)
KeepsOnly-prop P m a b i = record {
  values = λ e h r k. is_tree-prop (tree_of e.answer) r (a.values e h r k) (b.values e h r k) i;
  outputs = λ e h r k. are_trees-prop (map tree_of e.answer.items) r (a.outputs e h r k) (b.outputs e h r k) i;
}
