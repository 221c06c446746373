-- What is kept of calls holds at each height that is no less.
use Rattle.std.proofs.Common.{◌≡◌, ◌<◌, ◌≤◌, ◌+◌, ◌-◌, ◌⊎◌, inl, inr, ℕ, zero, suc, List, [], ◌∷◌, ◌++◌, length, get_or, sym, ◌∙◌, ap, subst, arith}
use Rattle.std.specs.Prelude.{slice_set, Vec}
use Rattle.std.specs.declared.alloc.Global.{Global}
use Rattle.rdx_term.specs.Tree.{Tree}
use Rattle.rdx_term.specs.View.{tree_of}
use Rattle.rdx_term.specs.declared.term.Term.{Term}
use Rattle.rdx_lang.specs.Members.{In, here, there}
use Rattle.rdx_lang.specs.Programs.{Program}
use Rattle.rdx_lang.proofs.MemberLaws.{in-append}
use Rattle.rdx_eval.specs.Answers.{value}
use Rattle.rdx_eval.specs.Heights.{calls_at}
use Rattle.rdx_eval.specs.Inside.Memos.{AreOutputs, IsKept, IsMemo, IsValue}
use Rattle.rdx_eval.specs.Views.{terms_in}
use Rattle.rdx_eval.specs.declared.kept.Kept.{Kept}
use Rattle.rdx_eval.specs.declared.kept.Memo.{Memo}
use Rattle.rdx_eval.proofs.Staying.{outputs-stay, values-stay}

-- ---- members

-- what stands at a place is a member
pub in-place : {A : Type 0} (xs : List A) (i : ℕ) (x : A) → i < length xs → x ≡ get_or xs i x → In x xs
in-place [] i x h e = absurd (omega arith)
in-place (y ∷ ys) zero x h e = here e
in-place (y ∷ ys) (suc i) x h e = there (in-place ys i x (omega arith) e)

-- a member of a list with one more is one of the list, or that
pub in-put : {A : Type 0} (xs ys : List A) (x e : A) → ys ≡ xs ++ x ∷ [] → In e ys → In e xs ⊎ (e ≡ x)
in-put xs ys x e d h = alone (in-append xs (x ∷ []) e (subst (In e) d h))
  where
    alone : In e xs ⊎ In e (x ∷ []) → In e xs ⊎ (e ≡ x)
    alone (inl k) = inl k
    alone (inr (here k)) = inr k
    alone (inr (there k)) = elim k [ ]

-- what is in a list with another item at a place is in the list, or that
pub in-set : {A : Type 0} (xs : List A) (i : ℕ) (x e : A) → In e (slice_set xs i x) → In e xs ⊎ (e ≡ x)
in-set [] i x e h = elim h [ ]
in-set (y ∷ ys) zero x e (here k) = inr k
in-set (y ∷ ys) zero x e (there h) = inl (there h)
in-set (y ∷ ys) (suc i) x e (here k) = inl (here k)
in-set (y ∷ ys) (suc i) x e (there h) = later (in-set ys i x e h)
  where
    later : In e ys ⊎ (e ≡ x) → In e (y ∷ ys) ⊎ (e ≡ x)
    later (inl j) = inl (there j)
    later (inr d) = inr d

-- what is in no list at all is in any
pub in-none : {A : Type 0} (xs ys : List A) (e : A) → xs ≡ [] → In e xs → In e ys
in-none xs ys e d h = nothing (subst (In e) d h)
  where
    nothing : In e [] → In e ys
    nothing k = elim k [ ]

-- ---- heights

module _ (P : Program) (n m : ℕ) (h : n ≤ m) where
  -- a value
  pub value-above : (f g : List ℕ) (a b : Tree) (t u : Tree) → f ≡ g → a ≡ b → u ≡ t → (calls_at P n).value_of f a (value t) → (calls_at P m).value_of g b (value u)
  value-above f g a b t u d e i v =
      let w : (calls_at P (n + (m - n))).value_of f a (value t) = values-stay P n (m - n) f a (value t) tt v in
      let j : n + (m - n) ≡ m = omega (arith, h) in
      subst (λ (x : Tree). (calls_at P m).value_of g b (value x)) (sym i)
      (subst (λ (x : Tree). (calls_at P m).value_of g x (value t)) e
      (subst (λ (x : List ℕ). (calls_at P m).value_of x a (value t)) d
      (subst (λ (k : ℕ). (calls_at P k).value_of f a (value t)) j w)))

  -- outputs
  pub outputs-above : (f g : List ℕ) (a b : Tree) (ts us : List Tree) → f ≡ g → a ≡ b → us ≡ ts → (calls_at P n).outputs_of f a (value ts)
      → (calls_at P m).outputs_of g b (value us)
  outputs-above f g a b ts us d e i v =
      let w : (calls_at P (n + (m - n))).outputs_of f a (value ts) = outputs-stay P n (m - n) f a (value ts) tt v in
      let j : n + (m - n) ≡ m = omega (arith, h) in
      subst (λ (x : List Tree). (calls_at P m).outputs_of g b (value x)) (sym i)
      (subst (λ (x : Tree). (calls_at P m).outputs_of g x (value ts)) e
      (subst (λ (x : List ℕ). (calls_at P m).outputs_of x a (value ts)) d
      (subst (λ (k : ℕ). (calls_at P k).outputs_of f a (value ts)) j w)))

-- ---- what is found

module _ (P : Program) (m : Memo) (k : IsMemo P m) (n : ℕ) (f : List ℕ) (a : Tree) where
  -- a value
  pub value-kept : (x : Term) (u : Tree) → IsKept m.values.kept.items n f a x → u ≡ tree_of x → (calls_at P n).value_of f a (value u)
  value-kept x u h e =
      value-above P h.entry.height n h.low h.entry.name f (tree_of h.entry.args) a (tree_of h.entry.answer) u h.name h.args
      (e ∙ sym (ap tree_of h.answer)) (k.values h.entry h.member)

  -- outputs
  pub outputs-kept : (x : Vec Term Global) (us : List Tree) → IsKept m.outputs.kept.items n f a x → us ≡ terms_in x → (calls_at P n).outputs_of f a (value us)
  outputs-kept x us h e =
      outputs-above P h.entry.height n h.low h.entry.name f (tree_of h.entry.args) a (terms_in h.entry.answer) us h.name h.args
      (e ∙ sym (ap terms_in h.answer)) (k.outputs h.entry h.member)

-- ---- what is put

-- either is enough
from_either : {A B C : Type 0} → (A → C) → (B → C) → A ⊎ B → C
from_either f g (inl x) = f x
from_either f g (inr y) = g y

module _ (P : Program) (m o : Memo) (k : IsMemo P m) where
  -- no more values
  pub value-less : ((q : Kept Term) → In q o.values.kept.items → In q m.values.kept.items) → o.outputs ≡ m.outputs → IsMemo P o
  value-less h d = record {
    values = λ q i. k.values q (h q i);
    outputs = λ q i. k.outputs q (subst (λ x. In q x.kept.items) d i);
  }

  -- no more outputs
  pub outputs-less : ((q : Kept (Vec Term Global)) → In q o.outputs.kept.items → In q m.outputs.kept.items) → o.values ≡ m.values → IsMemo P o
  outputs-less h d = record {
    values = λ q i. k.values q (subst (λ x. In q x.kept.items) d i);
    outputs = λ q i. k.outputs q (h q i);
  }

  -- one value more
  pub value-put : (e : Kept Term) → ((q : Kept Term) → In q o.values.kept.items → In q m.values.kept.items ⊎ (q ≡ e))
      → o.outputs ≡ m.outputs → IsValue P e → IsMemo P o
  value-put e h d v = record {
    values = λ q i. from_either (λ j. k.values q j) (λ p. subst (IsValue P) (sym p) v) (h q i);
    outputs = λ q i. k.outputs q (subst (λ x. In q x.kept.items) d i);
  }

  -- more outputs
  pub outputs-put : (e : Kept (Vec Term Global))
      → ((q : Kept (Vec Term Global)) → In q o.outputs.kept.items → In q m.outputs.kept.items ⊎ (q ≡ e)) → o.values ≡ m.values
      → AreOutputs P e → IsMemo P o
  outputs-put e h d v = record {
    values = λ q i. k.values q (subst (λ x. In q x.kept.items) d i);
    outputs = λ q i. from_either (λ j. k.outputs q j) (λ p. subst (AreOutputs P) (sym p) v) (h q i);
  }

-- nothing is kept
pub memo-none : (P : Program) (m : Memo) → m.values.kept.items ≡ [] → m.outputs.kept.items ≡ [] → IsMemo P m
memo-none P m d e = record {
  values = λ q i. nothing q (subst (In q) d i);
  outputs = λ q i. none q (subst (In q) e i);
}
  where
    nothing : (q : Kept Term) → In q [] → IsValue P q
    nothing q h = elim h [ ]

    none : (q : Kept (Vec Term Global)) → In q [] → AreOutputs P q
    none q h = elim h [ ]
