-- Cross nonterminals have no literal that the language does not have without them.
use Rattle.std.proofs.Common.{◌≡◌, ℕ, Bool, true, false, inl, inr, List, [], ◌∷◌, map, None, refl, ap, sym, ◌∙◌}
use Rattle.std.proofs.lemmas.Bool.{or_cases, or_left, or_right, both_ways}
use Rattle.std.specs.Prelude.{◌||◌}
use Rattle.rdx_lang.specs.Crosses.{unnamed, unnamed_items, crossed, crossed_items, cross_alternatives}
use Rattle.rdx_lang.specs.Literals.{mentions, items_mention, any_mentions, definitions_mention, is_mentioned}
use Rattle.rdx_lang.specs.Members.{In, here, there}
use Rattle.rdx_lang.specs.Patterns.{Pattern, wild, of_kind, except, prefix, hole, lit, nt, named, differ, in_hole, hide_hole, closed, seq, Items, nil, one, many, Definition, Language}
use Rattle.rdx_lang.specs.Rules.{IsAlternative}
use Rattle.rdx_lang.specs.declared.pattern.Ref.{Ref}
use Rattle.rdx_lang.specs.declared.pattern.Ref.TheVariants.{Nt, Cross}
use Rattle.rdx_lang.proofs.MemberLaws.{in-map, in-append, append-left}
use Rattle.rdx_lang.proofs.NewCrosses.{with_definitions, AreNewCrosses, alternative-cases, alternative-source}

module _ (s : List ℕ) where
  -- ---- patterns

  mutual
    -- a pattern has the same literals without its names
    mentions-unnamed : (p : Pattern) → mentions s (unnamed p) ≡ mentions s p
    mentions-unnamed wild = refl
    mentions-unnamed (of_kind k) = refl
    mentions-unnamed (except rs) = refl
    mentions-unnamed (prefix r) = refl
    mentions-unnamed hole = refl
    mentions-unnamed (lit u) = refl
    mentions-unnamed (nt x) = refl
    mentions-unnamed (named x q) = mentions-unnamed q
    mentions-unnamed (differ x q) = mentions-unnamed q
    mentions-unnamed (in_hole q r) = λ i. mentions-unnamed q i || mentions-unnamed r i
    mentions-unnamed (hide_hole q) = mentions-unnamed q
    mentions-unnamed (closed q) = mentions-unnamed q
    mentions-unnamed (seq ps) = items_mention-unnamed ps

    -- so have items
    items_mention-unnamed : (ps : Items) → items_mention s (unnamed_items ps) ≡ items_mention s ps
    items_mention-unnamed nil = refl
    items_mention-unnamed (one p ps) = λ i. mentions-unnamed p i || items_mention-unnamed ps i
    items_mention-unnamed (many p n ps) = λ i. mentions-unnamed p i || items_mention-unnamed ps i

  mutual
    -- a changed place brings no literal
    mentions-crossed : (y : List ℕ) (p q : Pattern) → In q (crossed y p) → mentions s q ≡ true → mentions s p ≡ true
    mentions-crossed y wild q i h = elim i [ ]
    mentions-crossed y (of_kind k) q i h = elim i [ ]
    mentions-crossed y (except rs) q i h = elim i [ ]
    mentions-crossed y (prefix r) q i h = elim i [ ]
    mentions-crossed y hole q i h = elim i [ ]
    mentions-crossed y (lit u) q i h = elim i [ ]
    mentions-crossed y (nt (Nt z)) q (here e) h = sym (ap (mentions s) e) ∙ h
    mentions-crossed y (nt (Nt z)) q (there i) h = elim i [ ]
    mentions-crossed y (nt (Cross z w)) q i h = elim i [ ]
    mentions-crossed y (named x p) q i h =
        let k = in-map (λ r. named x r) (crossed y p) q i in mentions-crossed y p k.0 k.1 (sym (ap (mentions s) k.2) ∙ h)
    mentions-crossed y (differ x p) q i h =
        let k = in-map (λ r. differ x r) (crossed y p) q i in mentions-crossed y p k.0 k.1 (sym (ap (mentions s) k.2) ∙ h)
    mentions-crossed y (in_hole p r) q i h = elim i [ ]
    mentions-crossed y (hide_hole p) q i h = elim i [ ]
    mentions-crossed y (closed p) q i h =
        let k = in-map closed (crossed y p) q i in mentions-crossed y p k.0 k.1 (sym (ap (mentions s) k.2) ∙ h)
    mentions-crossed y (seq ps) q i h =
        let k = in-map seq (crossed_items y ps) q i in items_mention-crossed y ps k.0 k.1 (sym (ap (mentions s) k.2) ∙ h)

    -- nor does one in items
    items_mention-crossed : (y : List ℕ) (ps qs : Items) → In qs (crossed_items y ps) → items_mention s qs ≡ true → items_mention s ps ≡ true
    items_mention-crossed y nil qs i h = elim i [ ]
    items_mention-crossed y (one p ps) qs i h =
        elim (in-append (map (λ q. one q ps) (crossed y p)) (map (λ rs. one p rs) (crossed_items y ps)) qs i) [
          | inl j ↦
              let k = in-map (λ q. one q ps) (crossed y p) qs j in
              elim (or_cases (mentions s k.0) (items_mention s ps) (sym (ap (items_mention s) k.2) ∙ h)) [
                | inl e ↦ or_left (mentions s p) (items_mention s ps) (mentions-crossed y p k.0 k.1 e)
                | inr e ↦ or_right (mentions s p) (items_mention s ps) e
              ]
          | inr j ↦
              let k = in-map (λ rs. one p rs) (crossed_items y ps) qs j in
              elim (or_cases (mentions s p) (items_mention s k.0) (sym (ap (items_mention s) k.2) ∙ h)) [
                | inl e ↦ or_left (mentions s p) (items_mention s ps) e
                | inr e ↦ or_right (mentions s p) (items_mention s ps) (items_mention-crossed y ps k.0 k.1 e)
              ]
        ]
    items_mention-crossed y (many p n ps) qs i h =
        elim (in-append (map (λ q. many p None (one q (many p None ps))) (crossed y p)) (map (λ rs. many p n rs) (crossed_items y ps)) qs i) [
          | inl j ↦
              let k = in-map (λ q. many p None (one q (many p None ps))) (crossed y p) qs j in
              let rest : Bool = mentions s p || items_mention s ps in
              elim (or_cases (mentions s p) (mentions s k.0 || rest) (sym (ap (items_mention s) k.2) ∙ h)) [
                | inl e ↦ or_left (mentions s p) (items_mention s ps) e
                | inr e ↦ elim (or_cases (mentions s k.0) rest e) [
                  | inl f ↦ or_left (mentions s p) (items_mention s ps) (mentions-crossed y p k.0 k.1 f)
                  | inr f ↦ f
                ]
              ]
          | inr j ↦
              let k = in-map (λ rs. many p n rs) (crossed_items y ps) qs j in
              elim (or_cases (mentions s p) (items_mention s k.0) (sym (ap (items_mention s) k.2) ∙ h)) [
                | inl e ↦ or_left (mentions s p) (items_mention s ps) e
                | inr e ↦ or_right (mentions s p) (items_mention s ps) (items_mention-crossed y ps k.0 k.1 e)
              ]
        ]

  -- ---- languages

  -- a literal in one of some patterns
  one-mentions : (ps : List Pattern) → any_mentions s ps ≡ true → (p : Pattern) × In p ps × (mentions s p ≡ true)
  one-mentions [] h = absurd cc
  one-mentions (p ∷ ps) h = elim (or_cases (mentions s p) (any_mentions s ps) h) [
    | inl e ↦ (p, here refl, e)
    | inr e ↦ let k = one-mentions ps e in (k.0, there k.1, k.2)
  ]

  -- what one of them has they have
  mentions-any : (ps : List Pattern) (p : Pattern) → In p ps → mentions s p ≡ true → any_mentions s ps ≡ true
  mentions-any [] p i h = elim i [ ]
  mentions-any (q ∷ ps) p (here e) h = or_left (mentions s q) (any_mentions s ps) (sym (ap (mentions s) e) ∙ h)
  mentions-any (q ∷ ps) p (there i) h = or_right (mentions s q) (any_mentions s ps) (mentions-any ps p i h)

  -- a literal in the patterns of one of some definitions
  one_definition-mentions : (ds : List Definition) → definitions_mention s ds ≡ true → (d : Definition) × In d ds × (any_mentions s d.1 ≡ true)
  one_definition-mentions [] h = absurd cc
  one_definition-mentions (d ∷ ds) h = elim (or_cases (any_mentions s d.1) (definitions_mention s ds) h) [
    | inl e ↦ (d, here refl, e)
    | inr e ↦ let k = one_definition-mentions ds e in (k.0, there k.1, k.2)
  ]

  -- what one of them has they have
  mentions-definitions : (ds : List Definition) (d : Definition) → In d ds → any_mentions s d.1 ≡ true → definitions_mention s ds ≡ true
  mentions-definitions [] d i h = elim i [ ]
  mentions-definitions (c ∷ ds) d (here e) h =
      or_left (any_mentions s c.1) (definitions_mention s ds) (sym (ap (λ (b : Definition). any_mentions s b.1) e) ∙ h)
  mentions-definitions (c ∷ ds) d (there i) h =
      or_right (any_mentions s c.1) (definitions_mention s ds) (mentions-definitions ds d i h)

  -- what a language mentions is a literal in an alternative
  mentioned-alternative : (L : Language) → is_mentioned L s ≡ true
      → (x : Ref) × (p : Pattern) × IsAlternative L x p × (mentions s p ≡ true)
  mentioned-alternative L h =
      let d = one_definition-mentions L.nonterminals h in
      let p = one-mentions d.0.1 d.2 in
      (d.0.0, p.0, record { all = d.0.1; defined = d.1; among = p.1 }, p.2)

  -- and what is one in an alternative it mentions
  alternative-mentioned : (L : Language) (x : Ref) (p : Pattern) → IsAlternative L x p → mentions s p ≡ true → is_mentioned L s ≡ true
  alternative-mentioned L x p a h = mentions-definitions L.nonterminals (x, a.all) a.defined (mentions-any a.all p a.among h)

-- tests that are true together are the same
true-together : (a b : Bool) → (a ≡ true → b ≡ true) → (b ≡ true → a ≡ true) → a ≡ b
true-together true true f g = refl
true-together true false f g = sym (f refl)
true-together false true f g = g refl
true-together false false f g = refl

-- with new cross nonterminals to y a language mentions the same symbols
pub mentioned-stays : (L : Language) (y : List ℕ) (es : List Definition) → AreNewCrosses L y es → (s : List ℕ)
    → is_mentioned L s ≡ is_mentioned (with_definitions L es) s
mentioned-stays L y es new s = true-together (is_mentioned L s) (is_mentioned (with_definitions L es) s) to from
  where
    to : is_mentioned L s ≡ true → is_mentioned (with_definitions L es) s ≡ true
    to h =
        let k = mentioned-alternative s L h in
        let d = append-left L.nonterminals es (k.0, k.2.all) k.2.defined in
        alternative-mentioned s (with_definitions L es) k.0 k.1 (record { all = k.2.all; defined = d; among = k.2.among }) k.3

    of_source : (x : List ℕ) (p : Pattern) → In p (cross_alternatives L x y) → mentions s p ≡ true → is_mentioned L s ≡ true
    of_source x p i h = elim (alternative-source L x y p i) [
      | inl e ↦ absurd (both_ways (mentions s p) (ap (mentions s) e) h)
      | inr k ↦
          alternative-mentioned s L (Nt x) k.0 k.1 (sym (mentions-unnamed s k.0) ∙ mentions-crossed s y (unnamed k.0) p k.2 h)
    ]

    from : is_mentioned (with_definitions L es) s ≡ true → is_mentioned L s ≡ true
    from h =
        let k = mentioned-alternative s (with_definitions L es) h in
        elim (alternative-cases L y es new k.0 k.1 k.2) [
          | inl a ↦ alternative-mentioned s L k.0 k.1 a k.3
          | inr b ↦ of_source b.from k.1 b.alternative k.3
        ]
