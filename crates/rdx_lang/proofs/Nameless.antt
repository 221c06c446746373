-- Patterns without names: their names fit whatever they are, and what has lost its names or has a place changed has none.
use Rattle.std.proofs.Common.{◌≡◌, ℕ, suc, true, inl, inr, List, [], ◌++◌, map, None, refl, ap, sym, subst}
use Rattle.std.proofs.lemmas.Bool.{and_from}
use Rattle.std.specs.List.{list_all}
use Rattle.std.specs.Prelude.{◌&&◌}
use Rattle.rdx_lang.specs.Crosses.{unnamed, unnamed_items, crossed, crossed_items}
use Rattle.rdx_lang.specs.Depths.{length_use, uses, item_uses, all_agree, is_shallow, has_one_depth_each, closed_parts_fit, closed_items_fit, has_fitting_names}
use Rattle.rdx_lang.specs.Members.{In, here, there}
use Rattle.rdx_lang.specs.Patterns.{Pattern, wild, of_kind, except, prefix, hole, lit, nt, named, differ, in_hole, hide_hole, closed, seq, Items, nil, one, many}
use Rattle.rdx_lang.specs.declared.pattern.Ref.TheVariants.{Nt, Cross}
use Rattle.rdx_lang.proofs.MemberLaws.{in-map, in-append}

abbrev mutual
  -- a pattern has no names and no length names
  pub IsNameless : Pattern → Type 0
  IsNameless wild = Unit {0}
  IsNameless (of_kind k) = Unit {0}
  IsNameless (except rs) = Unit {0}
  IsNameless (prefix r) = Unit {0}
  IsNameless hole = Unit {0}
  IsNameless (lit u) = Unit {0}
  IsNameless (nt x) = Unit {0}
  IsNameless (named x q) = ⊥
  IsNameless (differ x q) = ⊥
  IsNameless (in_hole q r) = IsNameless q × IsNameless r
  IsNameless (hide_hole q) = IsNameless q
  IsNameless (closed q) = IsNameless q
  IsNameless (seq ps) = AreNameless ps

  -- nor have items
  pub AreNameless : Items → Type 0
  AreNameless nil = Unit {0}
  AreNameless (one p ps) = IsNameless p × AreNameless ps
  AreNameless (many p n ps) = (n ≡ None) × IsNameless p × AreNameless ps

-- ---- where there are no names

mutual
  -- what lost its names has none
  pub nameless-unnamed : (p : Pattern) → IsNameless (unnamed p)
  nameless-unnamed wild = tt
  nameless-unnamed (of_kind k) = tt
  nameless-unnamed (except rs) = tt
  nameless-unnamed (prefix r) = tt
  nameless-unnamed hole = tt
  nameless-unnamed (lit u) = tt
  nameless-unnamed (nt x) = tt
  nameless-unnamed (named x q) = nameless-unnamed q
  nameless-unnamed (differ x q) = nameless-unnamed q
  nameless-unnamed (in_hole q r) = (nameless-unnamed q, nameless-unnamed r)
  nameless-unnamed (hide_hole q) = nameless-unnamed q
  nameless-unnamed (closed q) = nameless-unnamed q
  nameless-unnamed (seq ps) = nameless-unnamed_items ps

  -- nor have items that lost theirs
  nameless-unnamed_items : (ps : Items) → AreNameless (unnamed_items ps)
  nameless-unnamed_items nil = tt
  nameless-unnamed_items (one p ps) = (nameless-unnamed p, nameless-unnamed_items ps)
  nameless-unnamed_items (many p n ps) = (refl, nameless-unnamed p, nameless-unnamed_items ps)

mutual
  -- a changed place brings no name
  pub nameless-crossed : (y : List ℕ) (p q : Pattern) → IsNameless p → In q (crossed y p) → IsNameless q
  nameless-crossed y wild q h i = elim i [ ]
  nameless-crossed y (of_kind k) q h i = elim i [ ]
  nameless-crossed y (except rs) q h i = elim i [ ]
  nameless-crossed y (prefix r) q h i = elim i [ ]
  nameless-crossed y hole q h i = elim i [ ]
  nameless-crossed y (lit u) q h i = elim i [ ]
  nameless-crossed y (nt (Nt z)) q h (here e) = subst IsNameless (sym e) tt
  nameless-crossed y (nt (Nt z)) q h (there i) = elim i [ ]
  nameless-crossed y (nt (Cross z w)) q h i = elim i [ ]
  nameless-crossed y (named x p) q h i = absurd h
  nameless-crossed y (differ x p) q h i = absurd h
  nameless-crossed y (in_hole p r) q h i = elim i [ ]
  nameless-crossed y (hide_hole p) q h i = elim i [ ]
  nameless-crossed y (closed p) q h i =
      let k = in-map closed (crossed y p) q i in subst IsNameless (sym k.2) (nameless-crossed y p k.0 h k.1)
  nameless-crossed y (seq ps) q h i =
      let k = in-map seq (crossed_items y ps) q i in subst IsNameless (sym k.2) (nameless-crossed_items y ps k.0 h k.1)

  -- nor does one in items
  nameless-crossed_items : (y : List ℕ) (ps qs : Items) → AreNameless ps → In qs (crossed_items y ps) → AreNameless qs
  nameless-crossed_items y nil qs h i = elim i [ ]
  nameless-crossed_items y (one p ps) qs h i =
      elim (in-append (map (λ q. one q ps) (crossed y p)) (map (λ rs. one p rs) (crossed_items y ps)) qs i) [
        | inl j ↦
            let k = in-map (λ q. one q ps) (crossed y p) qs j in subst AreNameless (sym k.2) (nameless-crossed y p k.0 h.0 k.1, h.1)
        | inr j ↦
            let k = in-map (λ rs. one p rs) (crossed_items y ps) qs j in
            subst AreNameless (sym k.2) (h.0, nameless-crossed_items y ps k.0 h.1 k.1)
      ]
  nameless-crossed_items y (many p n ps) qs h i =
      elim (in-append (map (λ q. many p None (one q (many p None ps))) (crossed y p)) (map (λ rs. many p n rs) (crossed_items y ps)) qs i) [
        | inl j ↦
            let k = in-map (λ q. many p None (one q (many p None ps))) (crossed y p) qs j in
            subst AreNameless (sym k.2) (refl, h.1, (nameless-crossed y p k.0 h.1 k.1, (refl, h.1, h.2)))
        | inr j ↦
            let k = in-map (λ rs. many p n rs) (crossed_items y ps) qs j in
            subst AreNameless (sym k.2) (h.0, h.1, nameless-crossed_items y ps k.0 h.2 k.1)
      ]

-- ---- then names fit

mutual
  -- a pattern without names has no use of one
  uses-none : (n : ℕ) (p : Pattern) → IsNameless p → uses n p ≡ []
  uses-none n wild h = refl
  uses-none n (of_kind k) h = refl
  uses-none n (except rs) h = refl
  uses-none n (prefix r) h = refl
  uses-none n hole h = refl
  uses-none n (lit u) h = refl
  uses-none n (nt x) h = refl
  uses-none n (named x q) h = absurd h
  uses-none n (differ x q) h = absurd h
  uses-none n (in_hole q r) h = λ i. uses-none n q h.0 i ++ uses-none n r h.1 i
  uses-none n (hide_hole q) h = uses-none n q h
  uses-none n (closed q) h = refl
  uses-none n (seq ps) h = item_uses-none n ps h

  -- nor have items without names
  item_uses-none : (n : ℕ) (ps : Items) → AreNameless ps → item_uses n ps ≡ []
  item_uses-none n nil h = refl
  item_uses-none n (one p ps) h = λ i. uses-none n p h.0 i ++ item_uses-none n ps h.1 i
  item_uses-none n (many p x ps) h = λ i. uses-none (suc n) p h.1 i ++ length_use n (h.0 i) ++ item_uses-none n ps h.2 i

-- so its names have one depth each
nameless-one_depth : (p : Pattern) → IsNameless p → has_one_depth_each p ≡ true
nameless-one_depth p h = ap (λ us. all_agree us && list_all is_shallow us) (uses-none 0 p h)

mutual
  -- also inside its closed patterns
  nameless-closed : (p : Pattern) → IsNameless p → closed_parts_fit p ≡ true
  nameless-closed wild h = refl
  nameless-closed (of_kind k) h = refl
  nameless-closed (except rs) h = refl
  nameless-closed (prefix r) h = refl
  nameless-closed hole h = refl
  nameless-closed (lit u) h = refl
  nameless-closed (nt x) h = refl
  nameless-closed (named x q) h = absurd h
  nameless-closed (differ x q) h = absurd h
  nameless-closed (in_hole q r) h = and_from (closed_parts_fit q) (closed_parts_fit r) (nameless-closed q h.0) (nameless-closed r h.1)
  nameless-closed (hide_hole q) h = nameless-closed q h
  nameless-closed (closed q) h = and_from (has_one_depth_each q) (closed_parts_fit q) (nameless-one_depth q h) (nameless-closed q h)
  nameless-closed (seq ps) h = nameless-closed_items ps h

  -- and inside those of items
  nameless-closed_items : (ps : Items) → AreNameless ps → closed_items_fit ps ≡ true
  nameless-closed_items nil h = refl
  nameless-closed_items (one p ps) h =
      and_from (closed_parts_fit p) (closed_items_fit ps) (nameless-closed p h.0) (nameless-closed_items ps h.1)
  nameless-closed_items (many p x ps) h =
      and_from (closed_parts_fit p) (closed_items_fit ps) (nameless-closed p h.1) (nameless-closed_items ps h.2)

-- the names of a pattern without any fit
pub nameless-fits : (p : Pattern) → IsNameless p → has_fitting_names p ≡ true
nameless-fits p h = and_from (has_one_depth_each p) (closed_parts_fit p) (nameless-one_depth p h) (nameless-closed p h)

-- so do those of an alternative that has lost its names and has a place changed
pub crossed-fits : (y : List ℕ) (p q : Pattern) → In q (crossed y (unnamed p)) → has_fitting_names q ≡ true
crossed-fits y p q i = nameless-fits q (nameless-crossed y (unnamed p) q (nameless-unnamed p) i)
