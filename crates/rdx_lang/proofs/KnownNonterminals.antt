-- Which nonterminals patterns speak of, once their names are lost and a place is changed.
use Rattle.std.proofs.Common.{◌≡◌, ℕ, true, inl, inr, List, map, None, ap, ◌∙◌}
use Rattle.std.proofs.lemmas.Bool.{and_parts, and_from}
use Rattle.std.specs.Prelude.{◌&&◌}
use Rattle.rdx_lang.specs.Crosses.{unnamed, unnamed_items, crossed, crossed_items}
use Rattle.rdx_lang.specs.Members.{In, here, there}
use Rattle.rdx_lang.specs.Patterns.{Pattern, wild, of_kind, except, prefix, hole, lit, nt, named, differ, in_hole, hide_hole, closed, seq, Items, nil, one, many}
use Rattle.rdx_lang.specs.References.{is_among}
use Rattle.rdx_lang.specs.WellFormed.{has_known_nonterminals, have_known_nonterminals}
use Rattle.rdx_lang.specs.declared.pattern.Ref.{Ref}
use Rattle.rdx_lang.specs.declared.pattern.Ref.TheVariants.{Nt, Cross}
use Rattle.rdx_lang.proofs.MemberLaws.{in-map, in-append}

module _ (xs : List Ref) where
  -- the nonterminals of the pattern are among these
  abbrev Known : Pattern → Type 0
  Known p = has_known_nonterminals xs p ≡ true

  -- so are those of the items
  abbrev AllKnown : Items → Type 0
  AllKnown ps = have_known_nonterminals xs ps ≡ true

  -- two patterns
  both_known : (p q : Pattern) → Known p → Known q → (has_known_nonterminals xs p && has_known_nonterminals xs q) ≡ true
  both_known p q h k = and_from (has_known_nonterminals xs p) (has_known_nonterminals xs q) h k

  -- a pattern and items
  with_items : (p : Pattern) (ps : Items) → Known p → AllKnown ps → (has_known_nonterminals xs p && have_known_nonterminals xs ps) ≡ true
  with_items p ps h k = and_from (has_known_nonterminals xs p) (have_known_nonterminals xs ps) h k

  -- the parts of two patterns
  pub known-parts : (p q : Pattern) → (has_known_nonterminals xs p && has_known_nonterminals xs q) ≡ true → Known p × Known q
  known-parts p q h = and_parts (has_known_nonterminals xs p) (has_known_nonterminals xs q) h

  -- those of a pattern and items
  pub item-parts : (p : Pattern) (ps : Items) → (has_known_nonterminals xs p && have_known_nonterminals xs ps) ≡ true → Known p × AllKnown ps
  item-parts p ps h = and_parts (has_known_nonterminals xs p) (have_known_nonterminals xs ps) h

  mutual
    -- without its names a pattern speaks of the same nonterminals
    pub known-unnamed : (p : Pattern) → has_known_nonterminals xs p ≡ true → has_known_nonterminals xs (unnamed p) ≡ true
    known-unnamed wild h = h
    known-unnamed (of_kind k) h = h
    known-unnamed (except rs) h = h
    known-unnamed (prefix r) h = h
    known-unnamed hole h = h
    known-unnamed (lit u) h = h
    known-unnamed (nt x) h = h
    known-unnamed (named x q) h = known-unnamed q h
    known-unnamed (differ x q) h = known-unnamed q h
    known-unnamed (in_hole q r) h =
        let k = known-parts q r h in both_known (unnamed q) (unnamed r) (known-unnamed q k.0) (known-unnamed r k.1)
    known-unnamed (hide_hole q) h = known-unnamed q h
    known-unnamed (closed q) h = known-unnamed q h
    known-unnamed (seq ps) h = known-unnamed_items ps h

    -- so do items without theirs
    known-unnamed_items : (ps : Items) → have_known_nonterminals xs ps ≡ true → have_known_nonterminals xs (unnamed_items ps) ≡ true
    known-unnamed_items nil h = h
    known-unnamed_items (one p ps) h =
        let k = item-parts p ps h in with_items (unnamed p) (unnamed_items ps) (known-unnamed p k.0) (known-unnamed_items ps k.1)
    known-unnamed_items (many p n ps) h =
        let k = item-parts p ps h in with_items (unnamed p) (unnamed_items ps) (known-unnamed p k.0) (known-unnamed_items ps k.1)

module _ (xs ys : List Ref) (more : (x : Ref) → is_among x xs ≡ true → is_among x ys ≡ true) where
  mutual
    -- what speaks of some nonterminals speaks of more
    pub known-more : (p : Pattern) → has_known_nonterminals xs p ≡ true → has_known_nonterminals ys p ≡ true
    known-more wild h = h
    known-more (of_kind k) h = h
    known-more (except rs) h = h
    known-more (prefix r) h = h
    known-more hole h = h
    known-more (lit u) h = h
    known-more (nt x) h = more x h
    known-more (named x q) h = known-more q h
    known-more (differ x q) h = known-more q h
    known-more (in_hole q r) h = let k = known-parts xs q r h in both_known ys q r (known-more q k.0) (known-more r k.1)
    known-more (hide_hole q) h = known-more q h
    known-more (closed q) h = known-more q h
    known-more (seq ps) h = known-more_items ps h

    -- so do items
    known-more_items : (ps : Items) → have_known_nonterminals xs ps ≡ true → have_known_nonterminals ys ps ≡ true
    known-more_items nil h = h
    known-more_items (one p ps) h = let k = item-parts xs p ps h in with_items ys p ps (known-more p k.0) (known-more_items ps k.1)
    known-more_items (many p n ps) h = let k = item-parts xs p ps h in with_items ys p ps (known-more p k.0) (known-more_items ps k.1)

  module _ (y : List ℕ) (crosses : (z : List ℕ) → is_among (Nt z) xs ≡ true → is_among (Cross z y) ys ≡ true) where
    -- a repetition of p with q in its middle
    known-middle : (p q : Pattern) (ps : Items) → Known ys p → Known ys q → AllKnown ys ps → AllKnown ys (many p None (one q (many p None ps)))
    known-middle p q ps h k l = with_items ys p (one q (many p None ps)) h (with_items ys q (many p None ps) k (with_items ys p ps h l))

    mutual
      -- with one place changed a pattern speaks of cross nonterminals to y too
      pub known-crossed : (p q : Pattern) → has_known_nonterminals xs p ≡ true → In q (crossed y p) → has_known_nonterminals ys q ≡ true
      known-crossed wild q h i = elim i [ ]
      known-crossed (of_kind k) q h i = elim i [ ]
      known-crossed (except rs) q h i = elim i [ ]
      known-crossed (prefix r) q h i = elim i [ ]
      known-crossed hole q h i = elim i [ ]
      known-crossed (lit u) q h i = elim i [ ]
      known-crossed (nt (Nt z)) q h (here e) = ap (has_known_nonterminals ys) e ∙ crosses z h
      known-crossed (nt (Nt z)) q h (there i) = elim i [ ]
      known-crossed (nt (Cross z w)) q h i = elim i [ ]
      known-crossed (named x p) q h i =
          let k = in-map (λ r. named x r) (crossed y p) q i in ap (has_known_nonterminals ys) k.2 ∙ known-crossed p k.0 h k.1
      known-crossed (differ x p) q h i =
          let k = in-map (λ r. differ x r) (crossed y p) q i in ap (has_known_nonterminals ys) k.2 ∙ known-crossed p k.0 h k.1
      known-crossed (in_hole p r) q h i = elim i [ ]
      known-crossed (hide_hole p) q h i = elim i [ ]
      known-crossed (closed p) q h i =
          let k = in-map closed (crossed y p) q i in ap (has_known_nonterminals ys) k.2 ∙ known-crossed p k.0 h k.1
      known-crossed (seq ps) q h i =
          let k = in-map seq (crossed_items y ps) q i in ap (has_known_nonterminals ys) k.2 ∙ known-crossed_items ps k.0 h k.1

      -- so do items with one place changed
      known-crossed_items : (ps qs : Items) → have_known_nonterminals xs ps ≡ true → In qs (crossed_items y ps)
          → have_known_nonterminals ys qs ≡ true
      known-crossed_items nil qs h i = elim i [ ]
      known-crossed_items (one p ps) qs h i =
          let c = item-parts xs p ps h in
          elim (in-append (map (λ q. one q ps) (crossed y p)) (map (λ rs. one p rs) (crossed_items y ps)) qs i) [
            | inl j ↦
                let k = in-map (λ q. one q ps) (crossed y p) qs j in
                ap (have_known_nonterminals ys) k.2 ∙ with_items ys k.0 ps (known-crossed p k.0 c.0 k.1) (known-more_items ps c.1)
            | inr j ↦
                let k = in-map (λ rs. one p rs) (crossed_items y ps) qs j in
                ap (have_known_nonterminals ys) k.2 ∙ with_items ys p k.0 (known-more p c.0) (known-crossed_items ps k.0 c.1 k.1)
          ]
      known-crossed_items (many p n ps) qs h i =
          let c = item-parts xs p ps h in
          elim (in-append (map (λ q. many p None (one q (many p None ps))) (crossed y p)) (map (λ rs. many p n rs) (crossed_items y ps)) qs i) [
            | inl j ↦
                let k = in-map (λ q. many p None (one q (many p None ps))) (crossed y p) qs j in
                ap (have_known_nonterminals ys) k.2
                ∙ known-middle p k.0 ps (known-more p c.0) (known-crossed p k.0 c.0 k.1) (known-more_items ps c.1)
            | inr j ↦
                let k = in-map (λ rs. many p n rs) (crossed_items y ps) qs j in
                ap (have_known_nonterminals ys) k.2 ∙ with_items ys p k.0 (known-more p c.0) (known-crossed_items ps k.0 c.1 k.1)
          ]
