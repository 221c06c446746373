-- Rounds that look only at the places that wait.
use Rattle.std.proofs.Common.{◌≡◌, ℕ, zero, suc, ◌<◌, ◌≤◌, Bool, true, false, List, [], ◌∷◌, length, get_or, set, take, ◌+◌, ◌++◌, replicate, Option, Some, None, refl, sym, ◌∙◌, ap, subst, ◌⊎◌, inl, inr, arith}
use Rattle.std.proofs.lemmas.List.{length-set, length-map, get_or-set_same, get_or-set_other, get_or-replicate, length-replicate, ext_get_or}
use Rattle.rdx_lang.specs.Members.{In, here, there}
use Rattle.rdx_lang.specs.Patterns.{Definition, Language}
use Rattle.rdx_gen.specs.Heights.{no_height, next_heights, height_over}
use Rattle.rdx_gen.specs.Inside.Places.{AreUsers, list_at}
use Rattle.rdx_gen.specs.Inside.Waiting.{Marks, AreFound, AreRounded, IsWoken, IsNew, found_at, next_at, height_at, written}
use Rattle.rdx_gen.specs.declared.height.Height.{Height}
use Rattle.rdx_gen.proofs.MarkLaws.{cases_eq, cases_marked, not_both, in-more, in-whole}
use Rattle.rdx_lang.proofs.MemberLaws.{in-append, append-left, append-right}
use Rattle.rdx_gen.proofs.SameHeights.{same-next}

-- writing keeps the length
pub length-written : (hs : List Height) (ps : List (ℕ × Height)) → length (written hs ps) ≡ length hs
length-written hs [] = refl
length-written hs (p ∷ ps) = length-written (set hs p.0 p.1) ps ∙ length-set hs p.0 p.1

-- what is right stays so where all that is written is right
written-right : (g : ℕ → Height) (hs : List Height) (ps : List (ℕ × Height)) (j : ℕ) → ((p : ℕ × Height) → In p ps → p.1 ≡ g p.0) → j < length hs
    → height_at hs j ≡ g j → height_at (written hs ps) j ≡ g j
written-right g hs [] j f l e = e
written-right g hs (p ∷ ps) j f l e =
    written-right g (set hs p.0 p.1) ps j (λ q i. f q (there i)) (subst (λ n. j < n) (sym (length-set hs p.0 p.1)) l)
    (elim (cases_eq j p.0) [
      | inl k ↦ subst (λ (i : ℕ). height_at (set hs p.0 p.1) i ≡ g i) (sym k) (get_or-set_same hs p.0 p.1 no_height (subst (λ n. n < length hs) k l) ∙ f p (here refl))
      | inr n ↦ get_or-set_other hs p.0 j p.1 no_height n ∙ e
    ])

-- what is written is right there
written-new : (g : ℕ → Height) (hs : List Height) (ps : List (ℕ × Height)) (q : ℕ × Height) → ((p : ℕ × Height) → In p ps → p.1 ≡ g p.0) → q.0 < length hs
    → In q ps → height_at (written hs ps) q.0 ≡ g q.0
written-new g hs [] q f l i = elim i [ ]
written-new g hs (p ∷ ps) q f l (here e) =
    let k : q.0 ≡ p.0 = ap (λ (z : ℕ × Height). z.0) e in
    written-right g (set hs p.0 p.1) ps q.0 (λ r i. f r (there i)) (subst (λ n. q.0 < n) (sym (length-set hs p.0 p.1)) l)
    (subst (λ (i : ℕ). height_at (set hs p.0 p.1) i ≡ g i) (sym k) (get_or-set_same hs p.0 p.1 no_height (subst (λ n. n < length hs) k l) ∙ f p (here refl)))
written-new g hs (p ∷ ps) q f l (there i) =
    written-new g (set hs p.0 p.1) ps q (λ r k. f r (there k)) (subst (λ n. q.0 < n) (sym (length-set hs p.0 p.1)) l) i

-- what stands at a place was there, or was written
written-other : (hs : List Height) (ps : List (ℕ × Height)) (j : ℕ) → (height_at (written hs ps) j ≡ height_at hs j) ⊎ ((p : ℕ × Height) × In p ps × (j ≡ p.0))
written-other hs [] j = inl refl
written-other hs (p ∷ ps) j = elim (written-other (set hs p.0 p.1) ps j) [
  | inl e ↦ elim (cases_eq j p.0) [
    | inl k ↦ inr (p, here refl, k)
    | inr n ↦ inl (e ∙ get_or-set_other hs p.0 j p.1 no_height n)
  ]
  | inr w ↦ inr (w.0, there w.1, w.2)
]

-- what is written is what the round finds
pub round-next : (L : Language) (hs : List Height) (ms : List Bool) (places : List ℕ) (ps : List (ℕ × Height))
    → AreRounded L hs ms places → AreFound L hs places ps → written hs ps ≡ next_heights L hs
round-next L hs ms places ps r f = ext_get_or no_height (written hs ps) (next_heights L hs) sizes (λ j l. at j (subst (λ n. j < n) size l))
  where
    size : length (written hs ps) ≡ length L.nonterminals
    size = length-written hs ps ∙ r.size

    sizes : length (written hs ps) ≡ length (next_heights L hs)
    sizes = size ∙ sym (length-map L.nonterminals (λ (d : Definition). height_over (record { definitions = L.nonterminals; heights = hs }) d.1))

    at : (j : ℕ) → j < length L.nonterminals → height_at (written hs ps) j ≡ next_at L hs j
    at j l = elim (r.settled j l) [
      | inl e ↦ written-right (next_at L hs) hs ps j f.exact (subst (λ n. j < n) (sym r.size) l) (sym e)
      | inr m ↦ elim (f.all j (r.listed j m) l) [
        | inl e ↦ written-right (next_at L hs) hs ps j f.exact (subst (λ n. j < n) (sym r.size) l) (sym e)
        | inr i ↦ written-new (next_at L hs) hs ps (j, next_at L hs j) f.exact (subst (λ n. j < n) (sym r.size) l) i
      ]
    ]

-- behind the round those wait that mention one of which a height was found
pub round-waits : (L : Language) (us : List (List ℕ)) (hs : List Height) (ms ns os : List Bool) (places woken : List ℕ) (ps : List (ℕ × Height))
    → AreUsers L us → AreRounded L hs ms places → AreFound L hs places ps → length ns ≡ length ms → ((j : ℕ) → get_or ns j false ≡ false)
    → Marks (IsWoken us ps) ns os [] woken → AreRounded L (written hs ps) os woken
round-waits L us hs ms ns os places woken ps u r f e none m = record {
  size = length-written hs ps ∙ r.size;
  marks_size = size;
  settled = λ j l. elim (cases_marked (get_or os j false)) [ inl k ↦ inr k | inr k ↦ inl (settled j l k) ];
  listed = λ j k. elim (m.fresh j k) [ inl b ↦ absurd (not_both (get_or ns j false) b (none j)) | inr i ↦ i ];
}
  where
    size : length os ≡ length L.nonterminals
    size = m.size ∙ e ∙ r.marks_size

    same : (j : ℕ) → j < length L.nonterminals → get_or os j false ≡ false → (i : ℕ) → i < length L.nonterminals → In j (list_at us i) → height_at hs i ≡ height_at (written hs ps) i
    same j l k i b a = elim (written-other hs ps i) [
      | inl c ↦ sym c
      | inr w ↦ absurd (not_both (get_or os j false) (m.marked j (w.0, w.1, subst (λ n. In j (list_at us n)) w.2 a) (subst (λ n. j < n) (sym (e ∙ r.marks_size)) l)) k)
    ]

    settled : (j : ℕ) → j < length L.nonterminals → get_or os j false ≡ false → next_at L (written hs ps) j ≡ height_at (written hs ps) j
    settled j l k =
        sym (same-next L us hs (written hs ps) j u l (same j l k))
        ∙ ap (λ (gs : List Height). get_or gs j no_height) (sym (round-next L hs ms places ps r f))

-- where none waits, a round changes nothing
pub round-still : (L : Language) (hs : List Height) (ms : List Bool) (places : List ℕ) → AreRounded L hs ms places → places ≡ [] → next_heights L hs ≡ hs
round-still L hs ms places r e = sym (round-next L hs ms places [] r (record { exact = λ p i. elim i [ ]; all = λ j i l. elim (subst (λ (is : List ℕ). In j is) e i) [ ] }))

-- before the first round all wait
pub round-first : (L : Language) (n : ℕ) (places : List ℕ) → n ≡ length L.nonterminals → ((j : ℕ) → j < n → In j places) → AreRounded L (replicate n no_height) (replicate n true) places
round-first L n places e h = record {
  size = length-replicate n no_height ∙ e;
  marks_size = length-replicate n true ∙ e;
  settled = λ j l. inr (get_or-replicate n j true false (subst (λ m. j < m) (sym e) l));
  listed = λ j m. h j (within n j m);
}
  where
    within : (n j : ℕ) → get_or (replicate n true) j false ≡ true → j < n
    within zero j m = absurd cc
    within (suc n) zero m = omega arith
    within (suc n) (suc j) m = let k = within n j m in omega arith

-- ---- what is found, place by place

found-more : (L : Language) (hs : List Height) (xs : List ℕ) (i : ℕ) (o : Option Height) (ps : List (ℕ × Height)) → i < length xs → IsNew L hs (get_or xs i 0) o
    → AreFound L hs (take i xs) ps → AreFound L hs (take (i + 1) xs) (ps ++ found_at (get_or xs i 0) o)
found-more L hs xs i None ps l n a = record {
  exact = λ p k. elim (in-append ps [] p k) [ inl m ↦ a.exact p m | inr m ↦ elim m [ ] ];
  all = λ j k b. elim (in-more xs i 0 j l k) [
    | inl m ↦ elim (a.all j m b) [ inl e ↦ inl e | inr r ↦ inr (append-left ps [] (j, next_at L hs j) r) ]
    | inr e ↦ inl (subst (λ (z : ℕ). next_at L hs z ≡ height_at hs z) (sym e) (n (subst (λ (z : ℕ). z < length L.nonterminals) e b)))
  ];
}
found-more L hs xs i (Some h) ps l n a = record {
  exact = λ p k. elim (in-append ps ((get_or xs i 0, h) ∷ []) p k) [ inl m ↦ a.exact p m | inr m ↦ last p m ];
  all = λ j k b. elim (in-more xs i 0 j l k) [
    | inl m ↦ elim (a.all j m b) [ inl e ↦ inl e | inr r ↦ inr (append-left ps ((get_or xs i 0, h) ∷ []) (j, next_at L hs j) r) ]
    | inr e ↦ inr (append-right ps ((get_or xs i 0, h) ∷ []) (j, next_at L hs j) (here (λ z. (e z, (ap (next_at L hs) e ∙ sym n) z))))
  ];
}
  where
    last : (p : ℕ × Height) → In p ((get_or xs i 0, h) ∷ []) → p.1 ≡ next_at L hs p.0
    last p (here e) = ap (λ (z : ℕ × Height). z.1) e ∙ n ∙ ap (λ (z : ℕ × Height). next_at L hs z.0) (sym e)
    last p (there k) = elim k [ ]

pub found-next : (L : Language) (hs : List Height) (xs : List ℕ) (i : ℕ) (o : Option Height) (ps qs : List (ℕ × Height)) → i < length xs → IsNew L hs (get_or xs i 0) o
    → qs ≡ ps ++ found_at (get_or xs i 0) o → AreFound L hs (take i xs) ps → AreFound L hs (take (i + 1) xs) qs
found-next L hs xs i o ps qs l n e a = subst (λ (z : List (ℕ × Height)). AreFound L hs (take (i + 1) xs) z) (sym e) (found-more L hs xs i o ps l n a)

pub found-none : (L : Language) (hs : List Height) → AreFound L hs [] []
found-none L hs = record { exact = λ p i. elim i [ ]; all = λ j i l. elim i [ ] }

pub found-whole : (L : Language) (hs : List Height) (xs : List ℕ) (i : ℕ) (ps : List (ℕ × Height)) → length xs ≤ i → AreFound L hs (take i xs) ps → AreFound L hs xs ps
found-whole L hs xs i ps l a = record { exact = a.exact; all = λ j k b. a.all j (in-whole xs i j l k) b }

-- ---- a whole round

pub round-all : (L : Language) (us : List (List ℕ)) (hs gs ks : List Height) (ms ns os : List Bool) (places woken zs : List ℕ) (ps qs rs : List (ℕ × Height))
    → AreUsers L us → AreRounded L hs ms places → gs ≡ hs → AreFound L gs places ps → qs ≡ ps → ks ≡ written hs qs → length ns ≡ length ms → ((j : ℕ) → get_or ns j false ≡ false)
    → zs ≡ [] → rs ≡ ps → Marks (IsWoken us rs) ns os zs woken → (ks ≡ next_heights L hs) × AreRounded L ks os woken
round-all L us hs gs ks ms ns os places woken zs ps qs rs u r d f e g size none z h m = (next, subst (λ (ys : List Height). AreRounded L ys os woken) (sym same) waits)
  where
    found : AreFound L hs places ps
    found = subst (λ (ys : List Height). AreFound L ys places ps) d f

    same : ks ≡ written hs ps
    same = g ∙ ap (written hs) e

    next : ks ≡ next_heights L hs
    next = same ∙ round-next L hs ms places ps r found

    marks : Marks (IsWoken us ps) ns os [] woken
    marks = subst (λ (ys : List (ℕ × Height)). Marks (IsWoken us ys) ns os [] woken) h (subst (λ (ys : List ℕ). Marks (IsWoken us rs) ns os ys woken) z m)

    waits : AreRounded L (written hs ps) os woken
    waits = round-waits L us hs ms ns os places woken ps u r found size none marks
