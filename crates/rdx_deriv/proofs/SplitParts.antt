-- A list that splits, from the parts of its choice, of the list and of the context.
use Rattle.std.proofs.Common.{◌≡◌, ℕ, zero, suc, ◌<◌, false, Bool, List, [], ◌∷◌, ◌++◌, Some, refl, sym, ◌∙◌, subst, arith}
use Rattle.std.specs.Prelude.{IsTrue}
use Rattle.rdx_term.specs.Tree.{Tree, list, Trees}
use Rattle.rdx_term.specs.Items.{trees_count, item_at, put_at}
use Rattle.rdx_term.proofs.PutItems.{item_at-put}
use Rattle.rdx_lang.specs.Bindings.{Binding}
use Rattle.rdx_lang.specs.Patterns.{Pattern, Items}
use Rattle.rdx_deriv.specs.Derivations.{Goal}
use Rattle.rdx_deriv.specs.Uses.{Focus, at, ItemUses, TurnUses, uses_one, uses_many, turns_end, turns_more, ListSplit}
use Rattle.rdx_deriv.specs.Around.{IsAround}
use Rattle.rdx_deriv.specs.Inside.Decides.{Decides}
use Rattle.rdx_deriv.specs.Inside.Layouts.{BindTheirNames}

-- where items are used up there is an item at the place that is split
mutual
  split_there : {l : List ℕ} {D s : Tree} {ps : Items} {ts : Trees} {ks : List ℕ} {gs : List Goal} {b : Binding} (k : ℕ) → ItemUses l (at k D s) ps ts ks gs b → k < trees_count ts
  split_there zero (uses_one {ts = ts} f u j) = omega arith
  split_there (suc k) (uses_one {ts = ts} f u j) = let h = split_there k u in omega arith
  split_there k (uses_many r h j) = turn_there k r

  turn_there : {l : List ℕ} {D s : Tree} {p : Pattern} {ps : Items} {ts : Trees} {n : ℕ} {ks : List ℕ} {gs : List Goal} {cs : List Binding} {d : Binding} (k : ℕ)
      → TurnUses l (at k D s) p ps ts n ks gs cs d → k < trees_count ts
  turn_there k (turns_end u) = split_there k u
  turn_there zero (turns_more {ts = ts} f r) = omega arith
  turn_there (suc k) (turns_more {ts = ts} f r) = let h = turn_there k r in omega arith

-- the last of two lists
last_same : (xs ys : List ℕ) (x y : ℕ) → xs ++ x ∷ [] ≡ ys ++ y ∷ [] → (xs ≡ ys) × (x ≡ y)
last_same [] [] x y e = (refl, cc)
last_same [] (w ∷ []) x y e = absurd cc
last_same [] (w ∷ v ∷ ys) x y e = absurd cc
last_same (z ∷ []) [] x y e = absurd cc
last_same (z ∷ u ∷ xs) [] x y e = absurd cc
last_same (z ∷ xs) (w ∷ ys) x y e =
    let a : z ≡ w = cc in
    let b : xs ++ x ∷ [] ≡ ys ++ y ∷ [] = cc in
    let k = last_same xs ys x y b in
    (λ i. a i ∷ k.0 i, k.1)

module _ (l : List ℕ) (ps : Items) (t C s : Tree) (b : Binding) (ks : List ℕ) (gs : List Goal) where
  module _ (lengths : List ℕ) (place : ℕ) (e : ks ≡ lengths ++ place ∷ []) where
    pub not_around : ((ts : Trees) (D : Tree) → IsAround t C place ts D → ⊥) → Decides false gs (ListSplit l ps t C s b ks gs)
    not_around n = record {
      sound = λ k. absurd cc;
      complete = λ k u.
          let m = last_same u.lengths lengths u.place place (sym u.choice ∙ e) in
          absurd (n u.items u.inner (subst (λ (i : ℕ). IsAround t C i u.items u.inner) m.1
          (record { mark = u.mark; same = u.same; there = split_there u.place u.uses; around = u.around })));
    }

    pub is_around : (ts : Trees) (D : Tree) (r : Bool) → IsAround t C place ts D → (IsTrue r → ItemUses l (at place D s) ps ts lengths gs b)
        → (BindTheirNames gs → ItemUses l (at place D s) ps ts lengths gs b → IsTrue r) → Decides r gs (ListSplit l ps t C s b ks gs)
    is_around ts D r a h k = record {
      sound = λ z. record { mark = a.mark; items = ts; lengths = lengths; place = place; inner = D; same = a.same; around = a.around; choice = e; uses = h z };
      complete = λ z u. k z (moved u);
    }
      where
        moved : ListSplit l ps t C s b ks gs → ItemUses l (at place D s) ps ts lengths gs b
        moved u =
            let m = last_same u.lengths lengths u.place place (sym u.choice ∙ e) in
            let x : u.items ≡ ts = (let f : list u.mark u.items ≡ list a.mark ts = sym u.same ∙ a.same in cc) in
            let y : put_at u.items u.place u.inner ≡ put_at ts place D =
            (let f : list (Some u.place) (put_at u.items u.place u.inner) ≡ list (Some place) (put_at ts place D) = sym u.around ∙ a.around in cc) in
            let z : u.inner ≡ D =
            sym (item_at-put u.items u.place u.inner D (split_there u.place u.uses)) ∙ (λ i. item_at (y i) (m.1 i) D) ∙ item_at-put ts place D D a.there in
            subst (λ (f : Focus). ItemUses l f ps ts lengths gs b) (λ i. at (m.1 i) (z i) s)
            (subst (λ (ms : List ℕ). ItemUses l (at u.place u.inner s) ps ts ms gs b) m.0
            (subst (λ (us : Trees). ItemUses l (at u.place u.inner s) ps us u.lengths gs b) x u.uses))
