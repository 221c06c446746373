-- A pattern of a contract that was asked: what is answered then is what is answered where it matches, or its fault.
use Rattle.std.proofs.Common.{◌≡◌, ◌≤◌, ℕ, List, [], ◌∷◌, Option, Some, None, length, refl, sym, ap, subst, arith}
use Rattle.rdx_term.specs.Tree.{Tree}
use Rattle.rdx_lang.specs.Bindings.{Binding}
use Rattle.rdx_lang.specs.Listing.{Matches}
use Rattle.rdx_lang.specs.Patterns.{Pattern, Language}
use Rattle.rdx_lang.specs.Programs.{Clause, JudgementRule}
use Rattle.rdx_lang.specs.Templates.{Template}
use Rattle.rdx_eval.specs.Answers.{Answer, value, fault, Fault, not_contract, Then, stops, goes, lists}
use Rattle.rdx_eval.specs.Calls.{Calls}
use Rattle.rdx_eval.specs.Asking.{AskedIf, Decided, asked_in, asked_out}
use Rattle.rdx_eval.specs.Inside.Asked.{Passes}
use Rattle.rdx_eval.specs.Instantiation.{MakeList}
use Rattle.rdx_eval.specs.Judgements.{ContractedRules, OutputList, Rules}
use Rattle.rdx_eval.specs.Metafunctions.{Clauses, Contracted}
use Rattle.rdx_eval.specs.declared.fault.Side.TheVariants as sides
use Rattle.rdx_eval.proofs.OneAnswer.{same_value}

-- ---- what is asked

-- without a pattern nothing is
pub asked-nothing : {A : Type 0} (L : Language) (o : Option Pattern) (t : Tree) (bad : Fault) (R : Answer A → Type 0) (r : Answer A) → o ≡ None
    → R r → AskedIf L o t bad R r
asked-nothing L o t bad R r e h = subst (λ (q : Option Pattern). AskedIf L q t bad R r) (sym e) h

-- bindings, or none, that were found for it
asked-found : {A : Type 0} (L : Language) (o : Option Pattern) (p : Pattern) (t : Tree) (bad : Fault) (R : Answer A → Type 0) (bs : List Binding)
    (r : Answer A) → o ≡ Some p → Matches L p t bs → Decided bad R bs r → AskedIf L o t bad R r
asked-found L o p t bad R bs r e m h = subst (λ (q : Option Pattern). AskedIf L q t bad R r) (sym e) (goes (lists m) h)

-- where there are none, it is the fault
pub asked-refused : {A : Type 0} (L : Language) (o : Option Pattern) (p : Pattern) (t : Tree) (bad : Fault) (R : Answer A → Type 0)
    (bs : List Binding) → o ≡ Some p → Matches L p t bs → length bs ≡ 0 → AskedIf L o t bad R (fault bad)
asked-refused L o p t bad R bs e m n = asked-found L o p t bad R bs (fault bad) e m (decided bs n)
  where
    decided : (cs : List Binding) → length cs ≡ 0 → Decided bad R cs (fault bad)
    decided [] i = refl
    decided (b ∷ cs) i = absurd (omega arith)

-- where there are some, it is what is answered then
pub asked-allowed : {A : Type 0} (L : Language) (o : Option Pattern) (p : Pattern) (t : Tree) (bad : Fault) (R : Answer A → Type 0)
    (bs : List Binding) (r : Answer A) → o ≡ Some p → Matches L p t bs → 1 ≤ length bs → R r → AskedIf L o t bad R r
asked-allowed L o p t bad R bs r e m n h = asked-found L o p t bad R bs r e m (decided bs n)
  where
    decided : (cs : List Binding) → 1 ≤ length cs → Decided bad R cs r
    decided [] i = absurd (omega arith)
    decided (b ∷ cs) i = h

-- ---- what was asked

-- where there is a value, it matches, and this is a value of what is answered then
pub asked-value : {A : Type 0} (L : Language) (o : Option Pattern) (t : Tree) (bad : Fault) (R : Answer A → Type 0) (x : A)
    → AskedIf L o t bad R (value x) → R (value x)
asked-value L None t bad R x h = h
asked-value L (Some p) t bad R x (goes {x = bs} l h) = decided bs h
  where
    decided : (cs : List Binding) → Decided bad R cs (value x) → R (value x)
    decided [] k = absurd cc
    decided (b ∷ cs) k = k

-- a term that matches leaves all to what is answered then
pub asked-passed : {A : Type 0} (L : Language) (o : Option Pattern) (t : Tree) (bad : Fault) (R : Answer A → Type 0) (r : Answer A)
    → AskedIf L o t bad Passes (value tt) → R r → AskedIf L o t bad R r
asked-passed L None t bad R r h k = k
asked-passed L (Some p) t bad R r (goes {x = bs} l h) k = goes l (decided bs h)
  where
    decided : (cs : List Binding) → Decided bad Passes cs (value tt) → Decided bad R cs r
    decided [] i = absurd cc
    decided (b ∷ cs) i = k

-- the fault of one that does not is that of the whole
pub asked-stops : {A : Type 0} (L : Language) (o : Option Pattern) (t : Tree) (bad : Fault) (R : Answer A → Type 0) (f : Fault)
    → AskedIf L o t bad Passes (fault f) → AskedIf L o t bad R (fault f)
asked-stops L None t bad R f h = absurd cc
asked-stops L (Some p) t bad R f (stops h) = stops h
asked-stops L (Some p) t bad R f (goes {x = bs} l h) = goes l (decided bs h)
  where
    decided : (cs : List Binding) → Decided bad Passes cs (fault f) → Decided bad R cs (fault f)
    decided [] i = let e : f ≡ bad = cc in ap fault e
    decided (b ∷ cs) i = absurd cc

-- a list of outputs is what the templates make
pub output_made : (L : Language) (C : Calls) (j : List ℕ) (o : Option Pattern) (ts : List Template) (b : Binding) (t : Tree)
    → OutputList L C j o ts b (value t) → MakeList C b ts (value t)
output_made L C j o ts b t (goes {x = u} h k) =
    let e : value t ≡ value u = asked-value L o u (not_contract j sides.Out u) (λ r. r ≡ value u) t k in
    subst (λ (v : Tree). MakeList C b ts (value v)) (same_value t u e) h

-- ---- metafunctions

module _ (L : Language) (C : Calls) (c : Option (Pattern × Pattern)) (f : List ℕ) (a : Tree) (cs : List Clause) (o : Option Pattern)
    (e : o ≡ asked_in c) where
  -- the arguments are not allowed
  pub contracted-in : (g : Fault) → AskedIf L o a (not_contract f sides.In a) Passes (fault g) → Contracted L C c f a cs (fault g)
  contracted-in g h =
      asked-stops L (asked_in c) a (not_contract f sides.In a) _ g
      (subst (λ (q : Option Pattern). AskedIf L q a (not_contract f sides.In a) Passes (fault g)) e h)

  module _ (h : AskedIf L o a (not_contract f sides.In a) Passes (value tt)) where
    -- they are, so it is what clauses make of them, under the rest of the contract
    contracted-goes : (r : Answer Tree)
        → Then (Clauses L C f a cs) (λ v. AskedIf L (asked_out c) v (not_contract f sides.Out v) (λ q. q ≡ value v)) r → Contracted L C c f a cs r
    contracted-goes r k =
        asked-passed L (asked_in c) a (not_contract f sides.In a) _ r
        (subst (λ (q : Option Pattern). AskedIf L q a (not_contract f sides.In a) Passes (value tt)) e h) k

    -- a fault of clauses
    pub contracted-fault : (g : Fault) → Clauses L C f a cs (fault g) → Contracted L C c f a cs (fault g)
    contracted-fault g k = contracted-goes (fault g) (stops k)

    module _ (v : Tree) (k : Clauses L C f a cs (value v)) (p : Option Pattern) (d : p ≡ asked_out c) where
      -- their value is not allowed
      pub contracted-out : (g : Fault) → AskedIf L p v (not_contract f sides.Out v) Passes (fault g) → Contracted L C c f a cs (fault g)
      contracted-out g i =
          contracted-goes (fault g)
          (goes k (asked-stops L (asked_out c) v (not_contract f sides.Out v) (λ q. q ≡ value v) g
          (subst (λ (q : Option Pattern). AskedIf L q v (not_contract f sides.Out v) Passes (fault g)) d i)))

      -- it is
      pub contracted-value : AskedIf L p v (not_contract f sides.Out v) Passes (value tt) → Contracted L C c f a cs (value v)
      contracted-value i =
          contracted-goes (value v)
          (goes k (asked-passed L (asked_out c) v (not_contract f sides.Out v) (λ q. q ≡ value v) (value v)
          (subst (λ (q : Option Pattern). AskedIf L q v (not_contract f sides.Out v) Passes (value tt)) d i) refl))

-- ---- judgements

module _ (L : Language) (C : Calls) (c : Option (Pattern × Pattern)) (j : List ℕ) (a : Tree) (rs : List JudgementRule) (o : Option Pattern)
    (e : o ≡ asked_in c) where
  -- the inputs are not allowed
  pub rules-in : (g : Fault) → AskedIf L o a (not_contract j sides.In a) Passes (fault g) → ContractedRules L C c j a rs (fault g)
  rules-in g h =
      asked-stops L (asked_in c) a (not_contract j sides.In a) (Rules L C j (asked_out c) a rs) g
      (subst (λ (q : Option Pattern). AskedIf L q a (not_contract j sides.In a) Passes (fault g)) e h)

  -- they are, so it is what rules make of them, whose outputs are asked
  pub rules-allowed : AskedIf L o a (not_contract j sides.In a) Passes (value tt) → (p : Option Pattern) → p ≡ asked_out c
      → (r : Answer (List Tree)) → Rules L C j p a rs r → ContractedRules L C c j a rs r
  rules-allowed h p d r k =
      asked-passed L (asked_in c) a (not_contract j sides.In a) (Rules L C j (asked_out c) a rs) r
      (subst (λ (q : Option Pattern). AskedIf L q a (not_contract j sides.In a) Passes (value tt)) e h)
      (subst (λ (q : Option Pattern). Rules L C j q a rs r) d k)

module _ (L : Language) (C : Calls) (j : List ℕ) (o : Option Pattern) (ts : List Template) (b : Binding) (t : Tree)
    (h : MakeList C b ts (value t)) where
  -- a list of outputs is not allowed
  pub output-refused : (g : Fault) → AskedIf L o t (not_contract j sides.Out t) Passes (fault g) → OutputList L C j o ts b (fault g)
  output-refused g k = goes h (asked-stops L o t (not_contract j sides.Out t) (λ r. r ≡ value t) g k)

  -- it is
  pub output-allowed : AskedIf L o t (not_contract j sides.Out t) Passes (value tt) → OutputList L C j o ts b (value t)
  output-allowed k = goes h (asked-passed L o t (not_contract j sides.Out t) (λ r. r ≡ value t) (value t) k refl)
