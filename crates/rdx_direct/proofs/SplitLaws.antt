-- A walk over the items of a list pattern that binds nothing, of which one is split.
use Rattle.std.proofs.Common.{◌≡◌, ◌∙◌, ◌⊎◌, inl, inr, ℕ, suc, Bool as Truth, true, false, IsTrue, IsFalse, if◌then◌else◌, List, [], ◌++◌, refl, sym, ap, subst}
use Rattle.std.proofs.lemmas.Bool.{and_parts}
use Rattle.std.specs.Prelude.{◌↔◌, ◌&&◌}
use Rattle.rdx_term.specs.Tree.{Tree, Trees, cons, trees, list}
use Rattle.rdx_term.specs.Tree.{nil as no_trees}
use Rattle.rdx_lang.proofs.Collecting.{In_along, no_member}
use Rattle.rdx_lang.proofs.JoinLaws.{none_left, unit_left, unit_left-only, unit_right, unit_right-only}
use Rattle.rdx_lang.proofs.NameLaws.{split-ascends}
use Rattle.rdx_lang.proofs.MemberLaws.{in-append, append-left, append-right}
use Rattle.rdx_lang.proofs.RuleSteps.{item_inside}
use Rattle.rdx_lang.specs.Bindings.{Binding, no_names, HasAscendingNames}
use Rattle.rdx_lang.specs.Collecting.{HasExactly}
use Rattle.rdx_lang.specs.Join.{IsJoin}
use Rattle.rdx_lang.specs.Members.{In}
use Rattle.rdx_lang.specs.Patterns.{Pattern, Items, nil, one, seq, Language}
use Rattle.rdx_lang.specs.Rules.{Match, MatchItems, match_one}
use Rattle.rdx_bind.proofs.Extended.{one_spot}
use Rattle.rdx_bind.proofs.Gathering.{exactly_as}
use Rattle.rdx_bind.proofs.PartedSplits.{items_split_map}
use Rattle.rdx_bind.proofs.SplitItems.{list_splits, items_split}
use Rattle.rdx_bind.specs.Spots.{Spot, PlacedAt, SplitsAt, ItemsSplitAt, splits_here, splits_behind}
use Rattle.rdx_direct.proofs.ItemLaws.{alone_end, no_term}
use Rattle.rdx_direct.proofs.PlainLaws.{match-empty, items-empty, nothing_bound, nothing_bound_by_items}
use Rattle.rdx_direct.specs.Inside.Going.{Alone, Fits}
use Rattle.rdx_direct.specs.Inside.Plain.{is_plain, are_plain}

-- the items split the terms at r, where all before match; or one before is split there, and the items match the terms
abbrev pub RestSplits : Language → ℕ → Items → Trees → List Spot → Truth → Spot → Type 0
RestSplits L n ps ts spots all r = (IsTrue all × ItemsSplitAt L n ps ts r) ⊎ (In r spots × MatchItems L ps ts no_names)

-- whatever comes of the rest comes of all
pub record StillSplits (L : Language) (whole : Items) (all_terms : Trees) (n : ℕ) (ps : Items) (ts : Trees) (spots : List Spot) (all : Truth) : Type 0 where
  pub plain : are_plain ps ≡ true
  pub onward : (r : Spot) → RestSplits L n ps ts spots all r → ItemsSplitAt L 0 whole all_terms r
  pub back : (r : Spot) → ItemsSplitAt L 0 whole all_terms r → RestSplits L n ps ts spots all r

-- at the start
pub splits_start : {L : Language} (ps : Items) (ts : Trees) (spots : List Spot) → are_plain ps ≡ true → spots ≡ [] → StillSplits L ps ts 0 ps ts spots true
splits_start ps ts spots e f = record {
  plain = e;
  onward = λ r. elim [ inl h ↦ h.1 | inr h ↦ no_member (In_along spots [] f h.0) ];
  back = λ r h. inl (refl, h);
}

-- what an item binds as it splits is a finite map
placed_ascends : {L : Language} {n : ℕ} {p : Pattern} {t : Tree} {r : Spot} → PlacedAt L n p t r → HasAscendingNames r.binding
placed_ascends h = subst (λ (b : Binding). HasAscendingNames b) (sym h.placed.binding) (split-ascends h.split.split)

pub both_true : (a b : Truth) → IsTrue a → IsTrue b → IsTrue (a && b)
both_true true true h k = refl
both_true true false h k = absurd cc
both_true false b h k = absurd cc

pub first_true : (a b : Truth) → IsTrue (a && b) → IsTrue a
first_true true b h = refl
first_true false b h = h

pub second_true : (a b : Truth) → IsTrue (a && b) → IsTrue b
second_true true b h = h
second_true false b h = absurd cc

-- what is split at a spot and joined with no name is split there
same_spot : (s r : Spot) (d : Binding) → HasAscendingNames s.binding → d ≡ no_names → IsJoin s.binding d r.binding → r.path ≡ s.path → s ≡ r
same_spot s r d a e j f = one_spot s r (sym f) (sym (unit_right-only a (subst (λ c. IsJoin s.binding c r.binding) e j)))

same_spot_behind : (s r : Spot) (c : Binding) → HasAscendingNames s.binding → c ≡ no_names → IsJoin c s.binding r.binding → r.path ≡ s.path → s ≡ r
same_spot_behind s r c a e j f = one_spot s r (sym f) (sym (unit_left-only a (subst (λ d. IsJoin d s.binding r.binding) e j)))

module _ {L : Language} where
  module _ (n : ℕ) (p : Pattern) (ps : Items) (t : Tree) (ts : Trees) (spots more new : List Spot) (all so : Truth) (e : is_plain p ≡ true) (f : are_plain ps ≡ true)
      (fit : IsTrue so ↔ Fits L p t) (split : HasExactly more (λ r. IsTrue all × PlacedAt L n p t r)) (kept : HasExactly new (λ r. (IsTrue so × In r spots) ⊎ In r more)) where
    -- where it is so, the item matches, and binds nothing
    fit_nothing : IsTrue so → Match L p t no_names
    fit_nothing h = nothing_bound e (fit.0 h).matched

    -- one step on
    further : (r : Spot) → RestSplits L n (one p ps) (cons t ts) spots all r → RestSplits L (suc n) ps ts new (all && so) r
    further r (inl (a, splits_here {s = s} {d = d} h m j q)) =
        let z : d ≡ no_names = items-empty f m in
        let g : s ≡ r = same_spot s r d (placed_ascends h) z j q in
        inr (kept.complete r (inr (split.complete r (a, subst (PlacedAt L n p t) g h))), subst (MatchItems L ps ts) z m)
    further r (inl (a, splits_behind {s = s} {c = c} m h j q)) =
        let g : s ≡ r = same_spot_behind s r c (items_split_map h) (match-empty e m) j q in
        inl (both_true all so a (fit.1 (record { binding = c; matched = m })), subst (ItemsSplitAt L (suc n) ps ts) g h)
    further r (inr (i, m)) =
        let k = item_inside m in
        inr (kept.complete r (inl (fit.1 (record { binding = k.first; matched = k.first_matched }), i)), nothing_bound_by_items f k.rest_matched)

    -- and back
    before : (r : Spot) → RestSplits L (suc n) ps ts new (all && so) r → RestSplits L n (one p ps) (cons t ts) spots all r
    before r (inl (a, h)) = inl (first_true all so a, splits_behind (fit_nothing (second_true all so a)) h (unit_left r.binding (items_split_map h)) refl)
    before r (inr (i, m)) = elim (kept.sound r i) [
      | inl k ↦ inr (k.1, match_one (fit_nothing k.0) m none_left)
      | inr k ↦ let h = split.sound r k in inl (h.0, splits_here h.1 m (unit_right r.binding (placed_ascends h.1)) refl)
    ]

-- behind one item more
pub splits_next : {L : Language} (whole : Items) (all_terms : Trees) (n n' : ℕ) {p : Pattern} {ps qs : Items} {t : Tree} {ts us : Trees} (spots more new : List Spot) (all so all' : Truth) → n' ≡ suc n → all' ≡ (all && so)
    → qs ≡ one p ps → us ≡ cons t ts
    → (IsTrue so ↔ Fits L p t) → HasExactly more (λ r. IsTrue all × PlacedAt L n p t r) → HasExactly new (λ r. (IsTrue so × In r spots) ⊎ In r more)
    → StillSplits L whole all_terms n qs us spots all → StillSplits L whole all_terms n' ps ts new all'
splits_next {L} whole all_terms n n' {p} {ps} {qs} {t} {ts} {us} spots more new all so all' x y e f fit split kept s =
    subst (λ m. StillSplits L whole all_terms m ps ts new all') (sym x) (subst (λ a. StillSplits L whole all_terms (suc n) ps ts new a) (sym y) (record {
      plain = apart.1;
      onward = λ r h. s.onward r (along r (before n p ps t ts spots more new all so apart.0 apart.1 fit split kept r h));
      back = λ r h. further n p ps t ts spots more new all so apart.0 apart.1 fit split kept r (against r (s.back r h));
    }))
  where
    apart : (is_plain p ≡ true) × (are_plain ps ≡ true)
    apart = and_parts (is_plain p) (are_plain ps) (ap are_plain (sym e) ∙ s.plain)

    along : (r : Spot) → RestSplits L n (one p ps) (cons t ts) spots all r → RestSplits L n qs us spots all r
    along r h = subst (λ x. RestSplits L n x us spots all r) (sym e) (subst (λ x. RestSplits L n (one p ps) x spots all r) (sym f) h)

    against : (r : Spot) → RestSplits L n qs us spots all r → RestSplits L n (one p ps) (cons t ts) spots all r
    against r h = subst (λ x. RestSplits L n (one p ps) x spots all r) f (subst (λ x. RestSplits L n x us spots all r) e h)

module _ {L : Language} (whole : Items) (all_terms : Trees) (n : ℕ) (spots bs : List Spot) (all : Truth) where
  -- an item with no term
  pub splits_short : {p : Pattern} {ps qs : Items} {us : Trees} → qs ≡ one p ps → us ≡ no_trees → bs ≡ [] → StillSplits L whole all_terms n qs us spots all → HasExactly bs (ItemsSplitAt L 0 whole all_terms)
  splits_short {p} {ps} {qs} {us} e f g s = record { sound = λ r i. no_member (In_along bs [] g i); complete = λ r h. absurd (none r (subst (λ x. RestSplits L n (one p ps) x spots all r) f (subst (λ x. RestSplits L n x us spots all r) e (s.back r h)))) }
    where
      never : {r : Spot} → ItemsSplitAt L n (one p ps) no_trees r → ⊥
      never h = elim h [ ]

      none : (r : Spot) → RestSplits L n (one p ps) no_trees spots all r → ⊥
      none r (inl h) = never h.1
      none r (inr h) = no_term h.1

  -- where nothing is found and not all match
  pub splits_nothing : {qs : Items} {us : Trees} → spots ≡ [] → bs ≡ [] → all ≡ false → StillSplits L whole all_terms n qs us spots all → HasExactly bs (ItemsSplitAt L 0 whole all_terms)
  splits_nothing {qs} {us} e g f s = record { sound = λ r i. no_member (In_along bs [] g i); complete = λ r h. absurd (none r (s.back r h)) }
    where
      none : (r : Spot) → RestSplits L n qs us spots all r → ⊥
      none r (inl h) = let k : IsTrue all = h.0 in absurd cc
      none r (inr h) = no_member (In_along spots [] e h.0)

  -- behind the last item
  pub splits_done : {qs : Items} (ts : List Tree) (so : Truth) → qs ≡ nil → (IsTrue so → ts ≡ []) → (IsFalse so → ts ≡ [] → ⊥)
      → bs ≡ (if so then spots else []) → StillSplits L whole all_terms n qs (trees ts) spots all → HasExactly bs (ItemsSplitAt L 0 whole all_terms)
  splits_done {qs} ts so e f g h s = at_end so h (alone_end ts so f g)
    where
      never : {us : Trees} {r : Spot} → ItemsSplitAt L n nil us r → ⊥
      never h = elim h [ ]

      rest : (r : Spot) → RestSplits L n qs (trees ts) spots all r → In r spots × MatchItems L nil (trees ts) no_names
      rest r (inl k) = absurd (never (subst (λ x. ItemsSplitAt L n x (trees ts) r) e k.1))
      rest r (inr k) = (k.0, subst (λ x. MatchItems L x (trees ts) no_names) e k.1)

      at_end : (so : Truth) → bs ≡ (if so then spots else []) → Alone (MatchItems L nil (trees ts)) so → HasExactly bs (ItemsSplitAt L 0 whole all_terms)
      at_end true k a = record {
        sound = λ r i. s.onward r (inr (In_along bs spots k i, subst (λ x. MatchItems L x (trees ts) no_names) (sym e) (a.there refl)));
        complete = λ r i. In_along spots bs (sym k) (rest r (s.back r i)).0;
      }
      at_end false k a = record {
        sound = λ r i. no_member (In_along bs [] k i);
        complete = λ r i. let w : IsTrue false = (a.none_else no_names (rest r (s.back r i)).1).0 in absurd cc;
      }

-- a list pattern splits where its items do
pub list_split : {L : Language} {ps : Items} {ts : Trees} (bs : List Spot) (t : Tree) (m : _) → t ≡ list m ts → HasExactly bs (ItemsSplitAt L 0 ps ts) → HasExactly bs (SplitsAt L (seq ps) t)
list_split {L} {ps} {ts} bs t m e h = subst (λ u. HasExactly bs (SplitsAt L (seq ps) u)) (sym e) (exactly_as (λ r k. list_splits r k) (λ r k. items_split r k) h)

-- those of two lists
pub kept_both : (so : Truth) → so ≡ true → (old more new : List Spot) → new ≡ old ++ more → HasExactly new (λ r. (IsTrue so × In r old) ⊎ In r more)
kept_both so a old more new e = record {
  sound = λ r h. elim (in-append old more r (In_along new (old ++ more) e h)) [ inl i ↦ inl (a, i) | inr i ↦ inr i ];
  complete = λ r. elim [ inl i ↦ In_along (old ++ more) new (sym e) (append-left old more r i.1) | inr i ↦ In_along (old ++ more) new (sym e) (append-right old more r i) ];
}
