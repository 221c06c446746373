-- The test of a node, from that of its rule.
use Rattle.std.proofs.Common.{◌≡◌, ℕ, false, Bool, List, sym, ◌∙◌, subst}
use Rattle.std.specs.Prelude.{IsTrue, IfOk, Option, Result}
use Rattle.std.proofs.Common.{Ok, Err}
use Rattle.rdx_term.specs.Tree.{Tree, list, Trees}
use Rattle.rdx_lang.specs.Bindings.{Binding}
use Rattle.rdx_lang.specs.Patterns.{Items}
use Rattle.rdx_deriv.specs.Derivations.{Goal}
use Rattle.rdx_deriv.specs.Uses.{ItemUses, ListMatch, nowhere}
use Rattle.rdx_deriv.specs.Inside.Decides.{Decides}
use Rattle.rdx_deriv.specs.Inside.Layouts.{BindTheirNames}

-- a list that matches
module _ (l : List ℕ) (ps : Items) (t : Tree) (b : Binding) (ks : List ℕ) (gs : List Goal) where
  pub no_list : ((m : Option ℕ) (ts : Trees) → t ≡ list m ts → ⊥) → Decides false gs (ListMatch l ps t b ks gs)
  no_list n = record { sound = λ k. absurd cc; complete = λ k u. absurd (n u.mark u.items u.same) }

  pub list_matched : (m : Option ℕ) (ts : Trees) (r : Bool) → t ≡ list m ts → (IsTrue r → ItemUses l nowhere ps ts ks gs b)
      → (BindTheirNames gs → ItemUses l nowhere ps ts ks gs b → IsTrue r) → Decides r gs (ListMatch l ps t b ks gs)
  list_matched m ts r e h k = record {
    sound = λ z. record { mark = m; items = ts; same = e; uses = h z };
    complete = λ n u.
        let f : list u.mark u.items ≡ list m ts = sym u.same ∙ e in
        let v : u.items ≡ ts = cc in
        k n (subst (λ (us : Trees). ItemUses l nowhere ps us ks gs b) v u.uses);
  }

-- from two clauses of a call
pub both_ok : {E : Type 0} (r : Result Bool E) (P Q R : Bool → Type 0) → ((x : Bool) → P x → Q x → R x) → IfOk r P → IfOk r Q → IfOk r R
both_ok (Ok x) P Q R f h k = f x h k
both_ok (Err e) P Q R f h k = h
