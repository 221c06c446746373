-- What was asked of a domain: a term that is answered is in it, and a fault is that it is not, or one of what is answered then.
use Rattle.std.proofs.Common.{◌≡◌, ◌⊎◌, inl, inr, List, [], ◌∷◌, Option, Some, None, refl, subst}
use Rattle.rdx_term.specs.Tree.{Tree}
use Rattle.rdx_lang.specs.Bindings.{Binding, visible}
use Rattle.rdx_lang.specs.Listing.{IsListing, IsSeen}
use Rattle.rdx_lang.specs.Members.{here}
use Rattle.rdx_lang.specs.Order.{binding_cmp}
use Rattle.rdx_lang.specs.Patterns.{Pattern, Language}
use Rattle.rdx_lang.specs.Programs.{Relation, Rule}
use Rattle.rdx_lang.specs.Rules.{Match}
use Rattle.rdx_lang.proofs.Collecting.{no_member}
use Rattle.rdx_eval.specs.Answers.{Answer, value, fault, Fault, not_contract, stops, goes, lists}
use Rattle.rdx_eval.specs.Asking.{AskedIf, Decided}
use Rattle.rdx_eval.specs.Calls.{Calls}
use Rattle.rdx_eval.specs.Instantiation.{Makes}
use Rattle.rdx_eval.specs.declared.fault.Side.TheVariants as sides
use Rattle.rdx_eval.proofs.ContractLaws.{asked-value}
use Rattle.rdx_eval.proofs.OneAnswer.{same_value}
use Rattle.rdx_reduce.specs.Steps.{Reducts}
use Rattle.rdx_reduce.specs.TakenSteps.{IsInDomain}

-- where there is a value, the term is in the domain
pub asked-inside : {A : Type 0} (L : Language) (o : Option Pattern) (t : Tree) (bad : Fault) (R : Answer A → Type 0) (x : A)
    → AskedIf L o t bad R (value x) → IsInDomain L o t
asked-inside L None t bad R x h = tt
asked-inside L (Some p) t bad R x (goes {x = bs} (lists l) h) = decided bs l h
  where
    decided : (cs : List Binding) → IsListing binding_cmp cs (IsSeen (Match L p t)) → Decided bad R cs (value x) → IsInDomain L (Some p) t
    decided [] l k = absurd cc
    decided (b ∷ cs) l k = let m = l.sound b (here refl) in (m.whole, m.holds)

-- where there is a fault, it is that the term is not in the domain, or the term is, and it is one of what is answered then
pub asked-fails : {A : Type 0} (L : Language) (o : Option Pattern) (t : Tree) (bad : Fault) (R : Answer A → Type 0) (f : Fault)
    → AskedIf L o t bad R (fault f) → ((IsInDomain L o t → ⊥) × (f ≡ bad)) ⊎ (IsInDomain L o t × R (fault f))
asked-fails L None t bad R f h = inr (tt, h)
asked-fails L (Some p) t bad R f (stops l) = elim l [ ]
asked-fails {A} L (Some p) t bad R f (goes {x = bs} (lists l) h) = decided bs l h
  where
    decided : (cs : List Binding) → IsListing binding_cmp cs (IsSeen (Match L p t)) → Decided bad R cs (fault f)
        → ((IsInDomain L (Some p) t → ⊥) × (f ≡ bad)) ⊎ (IsInDomain L (Some p) t × R (fault f))
    decided [] l k =
        inl (λ i. no_member (l.complete (visible i.0) (record { whole = i.0; holds = i.1; seen = refl })), same_fault k)
      where
        same_fault : ◌≡◌ {A = Answer A} (fault f) (fault bad) → f ≡ bad
        same_fault e = cc
    decided (b ∷ cs) l k = let m = l.sound b (here refl) in inr ((m.whole, m.holds), k)

-- a reduct is what the result of the rule makes
pub reduct_made : (L : Language) (C : Calls) (R : Relation) (r : Rule) (b : Binding) (u : Tree) → Reducts L C R r b (value u)
    → Makes C b r.result (value u)
reduct_made L C R r b u (goes {x = v} h k) =
    let e : value u ≡ value v = asked-value L R.domain v (not_contract R.name sides.Out v) (λ a. a ≡ value v) u k in
    subst (λ (w : Tree). Makes C b r.result (value w)) (same_value u v e) h

-- and it is in the domain
pub reduct_inside : (L : Language) (C : Calls) (R : Relation) (r : Rule) (b : Binding) (u : Tree) → Reducts L C R r b (value u)
    → IsInDomain L R.domain u
reduct_inside L C R r b u (goes {x = v} h k) =
    let e : value u ≡ value v = asked-value L R.domain v (not_contract R.name sides.Out v) (λ a. a ≡ value v) u k in
    subst (λ (w : Tree). IsInDomain L R.domain w) (same_value u v e)
    (asked-inside L R.domain v (not_contract R.name sides.Out v) (λ a. a ≡ value v) u k)
