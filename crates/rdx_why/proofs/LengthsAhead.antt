-- The lengths of repetitions in a loop: the items that are left can be laid over the terms that are left, and whatever lengths they have there, with
-- those that are found the whole is laid.
use Rattle.std.proofs.Common.{◌≡◌, ℕ, true, List, [], ◌∷◌, ◌++◌, map, Option, refl, sym, ◌∙◌, subst, append_assoc}
use Rattle.std.proofs.lemmas.Bool.{and_parts}
use Rattle.std.proofs.lemmas.List.{append-nil}
use Rattle.rdx_term.specs.Tree.{Trees}
use Rattle.rdx_lang.specs.Bindings.{Binding, HasAscendingNames}
use Rattle.rdx_lang.specs.Names.{item_names}
use Rattle.rdx_lang.specs.Patterns.{Items, Language}
use Rattle.rdx_lang.specs.Patterns.{nil as no_items}
use Rattle.rdx_lang.specs.PatternView.{Slot, just, repeated, items_of}
use Rattle.rdx_lang.specs.WellFormed.{has_known_nonterminals, have_known_nonterminals, defined}
use Rattle.rdx_deriv.specs.Derivations.{Goal}
use Rattle.rdx_deriv.specs.Uses.{Focus, ItemUses, uses_none}
use Rattle.rdx_why.specs.Inside.Laying.{focus_after, trees_after, count_of, length_of, IsOpenedItems, IsLaidIn, CanBeLaid, CanTake}
use Rattle.rdx_opened.specs.Picking.{picked}
use Rattle.rdx_why.specs.Inside.Steps.{IsLaid}
use Rattle.rdx_why.proofs.LaidItems.{used-ascends, laid-used}
use Rattle.rdx_why.proofs.TakenLengths.{laid-picked, in-picked, others_opened}

pub record LengthsAhead (L : Language) (l : List ℕ) (c : Binding) (g : Focus) (os : Items) (us : Trees) (f : Focus) (rs : List Slot)
    (counts : List (Option ℕ)) (ts : Trees) (done : List ℕ) : Type 0 where
  pub ascending : HasAscendingNames c
  pub opened : IsOpenedItems (items_of rs)
  pub known : have_known_nonterminals (defined L) (items_of rs) ≡ true
  pub counted : counts ≡ map (count_of c) rs
  pub laid : CanBeLaid L l c f (items_of rs) ts
  pub whole : (ks : List ℕ) → IsLaidIn L l c f (items_of rs) ts ks → IsLaid L l g os us (done ++ ks) c

-- the items behind the first are known too
others_known : (L : Language) (r : Slot) (rs : List Slot) → have_known_nonterminals (defined L) (items_of (r ∷ rs)) ≡ true
    → have_known_nonterminals (defined L) (items_of rs) ≡ true
others_known L (just p) rs k = (and_parts (has_known_nonterminals (defined L) p) (have_known_nonterminals (defined L) (items_of rs)) k).1
others_known L (repeated p n) rs k = (and_parts (has_known_nonterminals (defined L) p) (have_known_nonterminals (defined L) (items_of rs)) k).1

-- at first
pub lengths_first : (L : Language) (l : List ℕ) (c : Binding) (f : Focus) (rs : List Slot) (counts : List (Option ℕ)) (ts : Trees)
    → IsOpenedItems (items_of rs) → have_known_nonterminals (defined L) (items_of rs) ≡ true → counts ≡ map (count_of c) rs
    → ((ks : List ℕ) × IsLaid L l f (items_of rs) ts ks c) → LengthsAhead L l c f (items_of rs) ts f rs counts ts []
lengths_first L l c f rs counts ts o k e h =
    let a : HasAscendingNames c = used-ascends (laid-used L l h.1) in
    let same : picked c (item_names (items_of rs)) ≡ c = laid-picked L l c a o (λ p i. i) h.1 in
    record {
      ascending = a;
      opened = o;
      known = k;
      counted = e;
      laid = (h.0, in-picked L l c a o (λ p i. i) h.1);
      whole = λ ks m. subst (λ d. IsLaid L l f (items_of rs) ts ks d) same m;
    }

-- no items have no lengths
none_more : {l : List ℕ} {f : Focus} {ts : Trees} {ks : List ℕ} {gs : List Goal} {b : Binding} → ItemUses l f no_items ts ks gs b → ks ≡ []
none_more uses_none = refl

module _ {L : Language} {l : List ℕ} {c : Binding} {g : Focus} {os : Items} {us : Trees} where
  -- the same items
  pub lengths_at : {f : Focus} {rs rs' : List Slot} {counts : List (Option ℕ)} {ts : Trees} {done : List ℕ} → rs ≡ rs'
      → LengthsAhead L l c g os us f rs counts ts done → LengthsAhead L l c g os us f rs' counts ts done
  lengths_at {f = f} {counts = counts} {ts = ts} {done = done} e h =
      subst (λ (ps : List Slot). LengthsAhead L l c g os us f ps counts ts done) e h

  -- an item more
  pub lengths_more : {f : Focus} (r : Slot) (rs : List Slot) {counts : List (Option ℕ)} {more : List (Option ℕ)} {ts : Trees} {done all : List ℕ}
      {k : ℕ}
      {n : Option ℕ} → LengthsAhead L l c g os us f (r ∷ rs) counts ts done → counts ≡ n ∷ more → CanTake L l c f r rs ts k
      → all ≡ done ++ length_of r k → LengthsAhead L l c g os us (focus_after k f) rs more (trees_after k ts) all
  lengths_more {f = f} r rs {ts = ts} {done = done} {k = k} h e t d = record {
    ascending = h.ascending;
    opened = others_opened L l c h.ascending r rs h.opened;
    known = others_known L r rs h.known;
    counted = (let i = h.counted in cc);
    laid = t.rest;
    whole = λ ks m.
        subst (λ js. IsLaid L l g os us js c) (sym (append_assoc done (length_of r k) ks) ∙ (λ i. sym d i ++ ks))
        (h.whole (length_of r k ++ ks) (t.whole ks m));
  }

  -- at the end
  pub lengths_end : {f : Focus} {counts : List (Option ℕ)} {ts : Trees} {done : List ℕ} → LengthsAhead L l c g os us f [] counts ts done
      → IsLaid L l g os us done c
  lengths_end {f = f} {ts = ts} {done = done} h =
      let n : h.laid.0 ≡ [] = none_more h.laid.1.uses in
      let m : IsLaidIn L l c f no_items ts [] = subst (λ ks. IsLaidIn L l c f no_items ts ks) n h.laid.1 in
      subst (λ js. IsLaid L l g os us js c) (append-nil done) (h.whole [] m)
