-- What is found, is found once: templates, host expressions, lists and joins.
use Rattle.std.proofs.Common.{◌≡◌, List, [], ◌∷◌, refl, sym, ◌∙◌, ap, subst, arith}
use Rattle.std.specs.Prelude.{◌↔◌, Option, Some, None, Result, Ok, Err, IfOk, IfSome, IfNone, IsTrue, Bool, true, false, not}
use Rattle.rdx_term.specs.Building.{list_of}
use Rattle.rdx_term.specs.Limits.{KeepsLimits}
use Rattle.rdx_term.specs.Terms.{IsTooDeep, IsTooLarge}
use Rattle.rdx_term.specs.Tree.{Tree, trees}
use Rattle.rdx_term.specs.View.{tree_of}
use Rattle.rdx_term.specs.declared.error.NoMemory as memory
use Rattle.rdx_term.specs.declared.term.Term as code_term
use Rattle.rdx_lang.specs.Bindings.{Binding}
use Rattle.rdx_lang.specs.Join.{IsJoin}
use Rattle.rdx_lang.specs.Members.{In, here, there}
use Rattle.rdx_lang.specs.Programs.{Program}
use Rattle.rdx_lang.specs.Shown.{binding_of}
use Rattle.rdx_lang.specs.Templates.{Template, Host}
use Rattle.rdx_lang.specs.declared.binding.Binding as code
use Rattle.rdx_lang.proofs.JoinLaws.{one_join}
use Rattle.rdx_eval.specs.Answers.{Answer, value, fault, Fault, stops, goes, Gather, Single}
use Rattle.rdx_eval.specs.Heights.{calls_at, height}
use Rattle.rdx_eval.specs.Instantiation.{Makes, HostMakes, MakeList, is_false}
use Rattle.rdx_eval.specs.Laws.{Once}
use Rattle.rdx_eval.specs.Views.{Says, fault_of}
use Rattle.rdx_eval.specs.declared.fault.EvalFault.{EvalFault}
use Rattle.rdx_eval.specs.declared.fault.EvalFault.TheVariants.{Named, NoMemory}
use Rattle.rdx_eval.specs.Making.{IsList, listed, listed_too_deep, listed_too_large}
use Rattle.rdx_eval.proofs.OneAnswer.{once-call, once-gather, once-host, once-inst, once-single, same_value}
use Rattle.rdx_deriv.specs.Judged.{calls}
use Rattle.rdx_deriv.specs.Inside.Extending.{IsMet}
use Rattle.rdx_deriv.specs.Finding.{Finds}
use Rattle.rdx_deriv.specs.Inside.Faults.{IsNamed}

-- ---- what is found

module _ {A B : Type 0} (view : A → B) (R : B → Type 0) (o : Option A) (found : Finds view R o) where
  -- where something is found
  pub found_some : (x : A) → o ≡ Some x → (y : B) → (R y ↔ (y ≡ view x))
  found_some x e = subst (λ (z : Option A). Finds view R z) e found

  -- and where nothing is
  pub found_none : o ≡ None → (y : B) → R y → ⊥
  found_none e = subst (λ (z : Option A). Finds view R z) e found

  -- whether it is this
  pub found_is : (x : A) → o ≡ Some x → (y : B) (r : Bool) → (IsTrue r ↔ (view x ≡ y)) → (IsTrue r ↔ R y)
  found_is x e y r h = (λ k. (found_some x e y).1 (sym (h.0 k)), λ m. h.1 (sym ((found_some x e y).0 m)))

  -- where nothing is found, it is not
  pub found_no : o ≡ None → (y : B) → (IsTrue false ↔ R y)
  found_no e y = (λ k. absurd cc, λ m. absurd (found_none e y m))

-- ---- one answer

module _ {A : Type 0} (R : Answer A → Type 0) (once : Once R) where
  -- a value is the only one
  value_alone : (x : A) → R (value x) → (y : A) → (R (value y) ↔ (y ≡ x))
  value_alone x h y = (λ k. same_value x y (once (value x) (value y) h k), λ e. subst (λ (z : A). R (value z)) (sym e) h)

  -- beside a fault there is none
  fault_alone : (f : Fault) → R (fault f) → (y : A) → R (value y) → ⊥
  fault_alone f h y k = let e : fault f ≡ value y = once (fault f) (value y) h k in absurd cc

-- a fault that is told is one
pub told_fault : {A B : Type 0} (view : A → B) (R : Answer B → Type 0) (f : EvalFault) → Says view R (Err f) → IsNamed f → (g : Fault) × R (fault g)
told_fault view R (Named g) h n = (fault_of g, h)
told_fault view R NoMemory h n = elim n [ ]

-- ---- templates and host expressions

module _ (P : Program) (b : Binding) where
  -- what a template makes
  once_made : (m : Template) → Once (Makes (calls P) b m)
  once_made m = once-inst (calls_at P height) (once-call P height) b [] m

  -- it makes nothing else
  pub made_alone : (m : Template) (u : Tree) → Makes (calls P) b m (value u) → (y : Tree) → (Makes (calls P) b m (value y) ↔ (y ≡ u))
  made_alone m = value_alone (Makes (calls P) b m) (once_made m)

  -- where it has a fault it makes nothing
  pub made_not : (m : Template) (f : Fault) → Makes (calls P) b m (fault f) → (y : Tree) → Makes (calls P) b m (value y) → ⊥
  made_not m = fault_alone (Makes (calls P) b m) (once_made m)

  -- what a host expression makes
  once_host : (h : Host) → Once (HostMakes (calls P) b h)
  once_host h = once-host (calls_at P height) (once-call P height) b [] h

  -- it makes nothing else
  pub host_alone : (h : Host) (u : Tree) → HostMakes (calls P) b h (value u) → (y : Tree) → (HostMakes (calls P) b h (value y) ↔ (y ≡ u))
  host_alone h = value_alone (HostMakes (calls P) b h) (once_host h)

  -- where it has a fault it makes nothing
  pub host_not : (h : Host) (f : Fault) → HostMakes (calls P) b h (fault f) → (y : Tree) → HostMakes (calls P) b h (value y) → ⊥
  host_not h = fault_alone (HostMakes (calls P) b h) (once_host h)

  -- it is met exactly where what it makes is not false
  pub met_where : (h : Host) (u : Tree) → ((y : Tree) → (HostMakes (calls P) b h (value y) ↔ (y ≡ u))) → (r : Bool) → r ≡ is_false u
      → (IsTrue (not r) ↔ IsMet P b h)
  met_where h u one true e = (
    λ k. absurd cc,
    λ m. let i : m.term ≡ u = (one m.term).0 m.made in let k : is_false m.term ≡ true = ap is_false i ∙ sym e in let n = m.not_false in absurd cc,
  )
  met_where h u one false e = (λ k. record { term = u; made = (one u).1 refl; not_false = sym e }, λ m. refl)

  -- and never where it has a fault
  pub met_not : (h : Host) → ((y : Tree) → HostMakes (calls P) b h (value y) → ⊥) → (IsTrue false ↔ IsMet P b h)
  met_not h none = (λ k. absurd cc, λ m. absurd (none m.term m.made))

-- ---- lists

-- a list that is made is the list of the terms
is_list_of : (ts : List Tree) (r : Answer Tree) → IsList ts r → (y : Tree) → r ≡ value y → y ≡ list_of (trees ts)
is_list_of ts r (listed k) y e = same_value (list_of (trees ts)) y e
is_list_of ts r (listed_too_deep h) y e = absurd cc
is_list_of ts r (listed_too_large h) y e = absurd cc

-- and keeps the limits
is_list_within : (ts : List Tree) (r : Answer Tree) → IsList ts r → (y : Tree) → r ≡ value y → KeepsLimits (list_of (trees ts))
is_list_within ts r (listed k) y e = k
is_list_within ts r (listed_too_deep h) y e = absurd cc
is_list_within ts r (listed_too_large h) y e = absurd cc

-- so it is the only one
pub list_alone : (ts : List Tree) (u : Tree) → IsList ts (value u) → (y : Tree) → (IsList ts (value y) ↔ (y ≡ u))
list_alone ts u h y = (
  λ k. is_list_of ts (value y) k y refl ∙ sym (is_list_of ts (value u) h u refl),
  λ e. subst (λ (z : Tree). IsList ts (value z)) (sym e) h,
)

-- there is none that is too deep
pub list_too_deep : (ts : List Tree) → IsTooDeep (list_of (trees ts)) → (y : Tree) → IsList ts (value y) → ⊥
list_too_deep ts d y h = let k = is_list_within ts (value y) h y refl in omega (arith, k.shallow, d)

-- nor one that is too large
pub list_too_large : (ts : List Tree) → IsTooLarge (list_of (trees ts)) → (y : Tree) → IsList ts (value y) → ⊥
list_too_large ts d y h = let k = is_list_within ts (value y) h y refl in omega (arith, k.small, d.1)

-- ---- the list of what templates make

-- a list of one is of what is made
single_made : (R : Answer Tree → Type 0) (r : Answer (List Tree)) → Single R r → (ys : List Tree) → r ≡ value ys → (u : Tree) × R (value u)
single_made R r (stops h) ys e = absurd cc
single_made R r (goes {x = u} h d) ys e = (u, h)

-- where all are made, each is
each_made : (R : Template → Answer Tree → Type 0) (ms : List Template) (r : Answer (List Tree)) → Gather (λ m. Single (R m)) ms r → (us : List Tree)
    → r ≡ value us → (m : Template) → In m ms → (u : Tree) × R m (value u)
each_made R [] r h us e n i = elim i [ ]
each_made R (m ∷ ms) r (stops h) us e n i = absurd cc
each_made R (m ∷ ms) r (goes {x = ys} h g) us e n (here i) =
    let v = single_made (R m) (value ys) h ys refl in (v.0, subst (λ (z : Template). R z (value v.0)) (sym i) v.1)
each_made R (m ∷ ms) r (goes h (stops g)) us e n (there i) = absurd cc
each_made R (m ∷ ms) r (goes h (goes {x = vs} g d)) us e n (there i) = each_made R ms (value vs) g vs refl n i

module _ (P : Program) (b : Binding) (ms : List Template) where
  -- where one makes nothing, no list is made
  not_made : (m : Template) → In m ms → ((y : Tree) → Makes (calls P) b m (value y) → ⊥) → (r : Answer Tree) → MakeList (calls P) b ms r
      → (y : Tree)
      → r ≡ value y → ⊥
  not_made m i none r (stops g) y e = absurd cc
  not_made m i none r (goes {x = us} g l) y e = let v = each_made (Makes (calls P) b) ms (value us) g us refl m i in none v.0 v.1

  pub list_not : (m : Template) → In m ms → ((y : Tree) → Makes (calls P) b m (value y) → ⊥) → (y : Tree) → MakeList (calls P) b ms (value y) → ⊥
  list_not m i none y h = not_made m i none (value y) h y refl

  -- where each makes one of these, the list is that of these
  list_of_these : (us : List Tree) → Gather (λ m. Single (Makes (calls P) b m)) ms (value us) → (r : Answer Tree) → MakeList (calls P) b ms r
      → (y : Tree)
      → r ≡ value y → IsList us r
  list_of_these us g r (stops h) y e = absurd cc
  list_of_these us g r (goes {x = vs} h l) y e =
      let once : Once (Gather (λ m. Single (Makes (calls P) b m)) ms) =
      once-gather (λ m. Single (Makes (calls P) b m)) (λ m. once-single (Makes (calls P) b m) (once_made P b m)) ms in
      subst (λ (z : List Tree). IsList z r) (same_value us vs (once (value us) (value vs) g h)) l

  pub list_where : (us : List Tree) (y : Tree) → Gather (λ m. Single (Makes (calls P) b m)) ms (value us)
      → (MakeList (calls P) b ms (value y) ↔ IsList us (value y))
  list_where us y g = (λ h. list_of_these us g (value y) h y refl, λ l. goes g l)

-- what is found of the list of these is found of the list that is made
pub finds_list : (P : Program) (b : Binding) (ms : List Template) (us : List Tree) → Gather (λ m. Single (Makes (calls P) b m)) ms (value us)
    → (o : Option code_term.Term) → Finds tree_of (λ u. IsList us (value u)) o → Finds tree_of (λ u. MakeList (calls P) b ms (value u)) o
finds_list P b ms us g None none = λ y h. none y ((list_where P b ms us y g).0 h)
finds_list P b ms us g (Some t) one = λ y. (λ h. (one y).0 ((list_where P b ms us y g).0 h), λ e. (list_where P b ms us y g).1 ((one y).1 e))

-- ---- joins

-- the join that is found is the only one
pub join_finds : (b d : Binding) (o : Option code.Binding) → IfSome o (λ c. IsJoin b d (binding_of c)) → IfNone o ((c : Binding) → ¬ IsJoin b d c)
    → Finds binding_of (λ c. IsJoin b d c) o
join_finds b d None some none = λ c j. none c j
join_finds b d (Some e) some none = λ c. (λ j. one_join b d c (binding_of e) j some, λ h. subst (λ (z : Binding). IsJoin b d z) (sym h) some)

-- the same of a result
pub joined_finds : (b d : Binding) (r : Result (Option code.Binding) memory.NoMemory) → IfOk r (λ o. IfSome o (λ c. IsJoin b d (binding_of c)))
    → IfOk r (λ o. IfNone o ((c : Binding) → ¬ IsJoin b d c)) → IfOk r (Finds binding_of (λ c. IsJoin b d c))
joined_finds b d (Ok o) some none = join_finds b d o some none
joined_finds b d (Err e) some none = tt
