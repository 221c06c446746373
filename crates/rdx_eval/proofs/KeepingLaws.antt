-- What an engine says of its memo is what evaluation wants of it: there is an answer of each call, and no other one.
use Rattle.std.proofs.Common.{◌≡◌, [], map, sym, subst}
use Rattle.std.specs.Borrow.{Bor}
use Rattle.rdx_term.specs.View.{tree_of}
use Rattle.rdx_lang.specs.Checked.{language_in, ranks_in}
use Rattle.rdx_lang.specs.Edges.{IsFree}
use Rattle.rdx_lang.specs.Patterns.{Language}
use Rattle.rdx_lang.specs.ProgramView.{program_of}
use Rattle.rdx_lang.specs.Programs as model
use Rattle.rdx_lang.specs.declared.checked.CheckedLang.{CheckedLang}
use Rattle.rdx_lang.specs.declared.program.Program.{Program}
use Rattle.rdx_lang.proofs.MemberLaws.{in-map}
use Rattle.rdx_lang.proofs.RankLaws.{ranked_is_free}
use Rattle.rdx_eval.specs.Answers.{Answer, value, fault}
use Rattle.rdx_eval.specs.Inside.Memos.{IsMemo}
use Rattle.rdx_eval.specs.Laws.{AreFree, HasAnswer, Once}
use Rattle.rdx_eval.specs.Model.Keeping.{IsJust, KeepsOnly}
use Rattle.rdx_eval.specs.declared.kept.Memo.{Memo}
use Rattle.rdx_eval.proofs.MemoLaws.{memo-none}
use Rattle.rdx_eval.proofs.OneAnswer.{once-call, once-outputs, same_value}
use Rattle.rdx_eval.proofs.SomeAnswer.{some-call, some-outputs}

-- ---- languages

-- the languages of a program of the code were checked, so they are free of left recursion
pub program-free : (p : Program) → AreFree (program_of p)
program-free p L h = let k = in-map language_in p.languages.items L h in free k.0 k.2
  where
    free : (l : CheckedLang) → L ≡ language_in l → IsFree L
    free l e = subst (λ (M : Language). IsFree M) (sym e) (ranked_is_free (language_in l) (ranks_in l) l.well_formed l.ranked)

-- ---- answers

-- what is the only answer of some is one
only-allowed : {A : Type 0} (R : Answer A → Type 0) (x : A) → HasAnswer R → ((r : Answer A) → R r → IsJust x r) → R (value x)
only-allowed {A} R x s f = by_answer s.answer s.allowed (f s.answer s.allowed)
  where
    by_answer : (r : Answer A) → R r → IsJust x r → R (value x)
    by_answer (value y) h e = subst (λ z. R (value z)) e h
    by_answer (fault g) h e = elim e [ ]

-- what is an answer where there is one at most is the only one
allowed-only : {A : Type 0} (R : Answer A → Type 0) (x : A) → Once R → R (value x) → (r : Answer A) → R r → IsJust x r
allowed-only R x o h (value y) k = same_value x y (o (value x) (value y) h k)
allowed-only R x o h (fault g) k = absurd (let d = o (value x) (fault g) h k in cc)

-- ---- memos

-- what evaluation wants of the memo that an engine keeps
pub keeps-memo : (p : Program) (m : Memo) → KeepsOnly (program_of p) m → IsMemo (program_of p) m
keeps-memo p m k = let P = program_of p in record {
  values = λ e h. only-allowed _ (tree_of e.answer) (some-call P (program-free p) e.height e.name (tree_of e.args)) (k.values e h);
  outputs = λ e h. only-allowed _ (map tree_of e.answer.items) (some-outputs P (program-free p) e.height e.name (tree_of e.args)) (k.outputs e h);
}

-- what the engine says of the memo that evaluation leaves
pub memo-keeps : (P : model.Program) (m : Memo) → IsMemo P m → KeepsOnly P m
memo-keeps P m k = record {
  values = λ e h. allowed-only _ (tree_of e.answer) (once-call P e.height e.name (tree_of e.args)) (k.values e h);
  outputs = λ e h. allowed-only _ (map tree_of e.answer.items) (once-outputs P e.height e.name (tree_of e.args)) (k.outputs e h);
}

-- ---- the program that evaluation is handed

module _ (p q : Bor Program) (m : Memo) (e : q ≡ p) where
  -- what it wants, from what the engine says
  pub handed-memo : KeepsOnly (program_of p.now) m → IsMemo (program_of q.now) m
  handed-memo k = subst (λ (b : Bor Program). IsMemo (program_of b.now) m) (sym e) (keeps-memo p.now m k)

  -- what the engine says, from what it leaves
  pub handed-back : IsMemo (program_of q.now) m → KeepsOnly (program_of p.now) m
  handed-back k = memo-keeps (program_of p.now) m (subst (λ (b : Bor Program). IsMemo (program_of b.now) m) e k)

-- where nothing is kept
pub keeps-none : (P : model.Program) (m : Memo) → m.values.kept.items ≡ [] → m.outputs.kept.items ≡ [] → KeepsOnly P m
keeps-none P m d e = memo-keeps P m (memo-none P m d e)
