-- What a look at a rule keeps, and that nothing is missing where no place is pending.
use Rattle.std.proofs.Common.{◌≡◌, ℕ, zero, suc, ◌+◌, ◌<◌, ◌≤◌, Bool, true, false, List, [], ◌∷◌, ◌++◌, length, set, get_or, take, take_all, replicate, refl, sym, ◌∙◌, ap, subst, ◌⊎◌, inl, inr, arith}
use Rattle.std.proofs.lemmas.List.{length-set, length-replicate}
use Rattle.std.proofs.lemmas.Bool.{cases_lt}
use Rattle.rdx_lang.proofs.MemberLaws.{in-append, append-left, append-right}
use Rattle.rdx_lang.specs.Members.{In, here, there}
use Rattle.rdx_leftrec.specs.Inside.Deductions.{AreOccurrences, AreMarked, AreAhead, Settles, IsDeduction}
use Rattle.rdx_leftrec.specs.Inside.EmptyRules.{Rule, rule_of, rules_of, Follows, follows, IsLeast}
use Rattle.rdx_leftrec.specs.Inside.Lists.{At, Nothing}
use Rattle.rdx_leftrec.specs.Inside.Marking.{Marking, marking, mark}
use Rattle.rdx_leftrec.specs.Inside.Reach.{targets_at, IsMarked}
use Rattle.rdx_leftrec.specs.declared.empty.Rule as code_rule
use Rattle.rdx_leftrec.proofs.Lists.{at_mapped, at-in, in-at, in-take, at-length, at_same, at-set, take-at, read-at}
use Rattle.rdx_leftrec.proofs.Marks.{marked-inside, marked-replicate, Grows, grows}

-- ---- a look at a rule

-- a part isn't marked, and nothing changes
pub settles-none : (r : Rule) (s : Marking) (j : ℕ) → In j r.1 → ¬ IsMarked s.marks j → Settles r s s
settles-none r s j h n = record {
  size = refl;
  kept = λ k i. i;
  only = λ k i. inl i;
  pending_kept = λ k i. i;
  pending_only = λ k i. inl i;
  new = λ k i. inl i;
  settled = inr (j, h, n);
  balance = refl;
}

-- all parts are marked, and the whole is
pub settles-all : (r : Rule) (s t : Marking) → r.0 < length s.marks → AreMarked s.marks r.1 → t ≡ mark s r.0 → Settles r s t
settles-all r s t l a e = record {
  size = g.size;
  kept = g.kept;
  only = λ k h. elim (g.only k h) [ inl m ↦ inl m | inr d ↦ inr (d, a) ];
  pending_kept = g.pending_kept;
  pending_only = λ k h. elim (g.pending_only k h) [ inl m ↦ inl m | inr d ↦ inr (subst (λ (j : ℕ). IsMarked t.marks j) (sym d) g.here) ];
  new = g.new;
  settled = inl g.here;
  balance = g.balance;
}
  where
    g : Grows r.0 s t
    g = subst (λ (u : Marking). Grows r.0 s u) (sym e) (grows s r.0 l)

-- what is known to be marked stays so
pub ahead-kept : (rs : List Rule) (bs cs : List Bool) (ks : List ℕ) → ((k : ℕ) → IsMarked bs k → IsMarked cs k) → AreAhead rs bs ks → AreAhead rs cs ks
ahead-kept rs bs cs ks h a = record { size = a.size; most = a.most; marked = λ i k r m n j l. h j (a.marked i k r m n j l) }

-- more is known of one rule
pub ahead-set : (rs : List Rule) (bs : List Bool) (ks : List ℕ) (i n : ℕ) (r : Rule) → At rs i r → n ≤ length r.1 → AreMarked bs (take n r.1) → AreAhead rs bs ks → AreAhead rs bs (set ks i n)
ahead-set rs bs ks i n r a l m x = record {
  size = length-set ks i n ∙ x.size;
  most = λ j k q b c. elim (at-set ks i j n k c) [ inl d ↦ subst (λ (y : Rule). k ≤ length y.1) (same j q b d.0) (let e : k ≡ n = d.1 in omega arith) | inr d ↦ x.most j k q b d.1 ];
  marked = λ j k q b c. elim (at-set ks i j n k c) [
    | inl d ↦ subst (λ (y : Rule). AreMarked bs (take k y.1)) (same j q b d.0) (subst (λ (o : ℕ). AreMarked bs (take o r.1)) (sym d.1) m)
    | inr d ↦ x.marked j k q b d.1
  ];
}
  where
    same : (j : ℕ) (q : Rule) → At rs j q → j ≡ i → r ≡ q
    same j q b e = at_same rs i r q a (subst (λ (o : ℕ). At rs o q) e b)

-- it carries a deduction on, where nothing but this rule is looked at
pub deduction-next : (rs : List Rule) (n : ℕ) (X Y : ℕ → Type 0) (s t : Marking) (ks ls : List ℕ) (i : ℕ) (r : Rule) → At rs i r → Settles r s t → AreAhead rs t.marks ls
    → ((k : ℕ) → X k → Y k ⊎ (k ≡ i)) → IsDeduction rs n X s ks → IsDeduction rs n Y t ls
deduction-next rs n X Y s t ks ls i r a g b f x = record {
  size = g.size ∙ x.size;
  sound = λ j h. elim (g.only j h) [
    | inl m ↦ x.sound j m
    | inr m ↦ subst (λ (k : ℕ). Follows rs k) (sym m.0) (follows {i = r.0} {js = r.1} (at-in rs i r a) (λ k l. x.sound k (m.1 k l)))
  ];
  pending = λ j h. elim (g.pending_only j h) [ inl m ↦ g.kept j (x.pending j m) | inr m ↦ m ];
  ahead = b;
  settled = λ k q c. elim (x.settled k q c) [ inl o ↦ inl (still q o) | inr o ↦ elim (f k o) [ inl y ↦ inr y | inr e ↦ inl (now q (at_same rs i r q a (subst (λ (m : ℕ). At rs m q) e c))) ] ];
}
  where
    now : (q : Rule) → r ≡ q → IsMarked t.marks q.0 ⊎ ((j : ℕ) × In j q.1 × (¬ IsMarked t.marks j ⊎ In j t.pending))
    now q e = subst (λ (y : Rule). IsMarked t.marks y.0 ⊎ ((j : ℕ) × In j y.1 × (¬ IsMarked t.marks j ⊎ In j t.pending))) e
        (elim g.settled [ inl m ↦ inl m | inr m ↦ inr (m.0, m.1, inl m.2) ])

    by_mark : (j : ℕ) (c : Bool) → get_or t.marks j false ≡ c → ¬ IsMarked s.marks j → ¬ IsMarked t.marks j ⊎ In j t.pending
    by_mark j true e m = elim (g.new j e) [ inl o ↦ absurd (m o) | inr o ↦ inr o ]
    by_mark j false e m = inl (λ o. absurd cc)

    still : (q : Rule) → IsMarked s.marks q.0 ⊎ ((j : ℕ) × In j q.1 × (¬ IsMarked s.marks j ⊎ In j s.pending)) → IsMarked t.marks q.0 ⊎ ((j : ℕ) × In j q.1 × (¬ IsMarked t.marks j ⊎ In j t.pending))
    still q (inl m) = inl (g.kept q.0 m)
    still q (inr m) = inr (m.0, m.1, elim m.2 [ inl o ↦ by_mark m.0 (get_or t.marks m.0 false) refl o | inr o ↦ inr (g.pending_kept m.0 o) ])

-- ---- a pending place is left

module _ (rs : List Rule) (n : ℕ) (os : List (List ℕ)) (o : AreOccurrences rs n os) (s : Marking) (rest : List ℕ) (p : ℕ) (ks : List ℕ) (e : s.pending ≡ rest ++ p ∷ []) (x : IsDeduction rs n Nothing s ks) where
  -- it was pending
  was_pending : In p s.pending
  was_pending = subst (λ (js : List ℕ). In p js) (sym e) (append-right rest (p ∷ []) p (here refl))

  -- it has a list
  pub left-inside : p < length os
  left-inside = let k = marked-inside s.marks p (x.pending p was_pending) in let y = x.size in let z = o.size in omega arith

  -- only the rules that have it as a part are to be looked at
  pub deduction-left : IsDeduction rs n (λ i. In i (targets_at os p)) (marking s.marks rest) ks
  deduction-left = record {
    size = x.size;
    sound = x.sound;
    pending = λ j h. x.pending j (subst (λ (js : List ℕ). In j js) (sym e) (append-left rest (p ∷ []) j h));
    ahead = x.ahead;
    settled = λ i r a. elim (x.settled i r a) [ inl m ↦ of_settled i r a m | inr y ↦ absurd y ];
  }
    where
      of_last : (i j : ℕ) (r : Rule) → At rs i r → In j r.1 → In j (p ∷ []) → In i (targets_at os p)
      of_last i j r a h (here d) = o.known i p r a (subst (λ (k : ℕ). In k r.1) d h)
      of_last i j r a h (there k) = elim k [ ]

      of_pending : (i j : ℕ) (r : Rule) → At rs i r → In j r.1 → In j (rest ++ p ∷ [])
          → (IsMarked s.marks r.0 ⊎ ((k : ℕ) × In k r.1 × (¬ IsMarked s.marks k ⊎ In k rest))) ⊎ In i (targets_at os p)
      of_pending i j r a h k = elim (in-append rest (p ∷ []) j k) [ inl l ↦ inl (inr (j, h, inr l)) | inr l ↦ inr (of_last i j r a h l) ]

      of_settled : (i : ℕ) (r : Rule) → At rs i r → IsMarked s.marks r.0 ⊎ ((j : ℕ) × In j r.1 × (¬ IsMarked s.marks j ⊎ In j s.pending))
          → (IsMarked s.marks r.0 ⊎ ((j : ℕ) × In j r.1 × (¬ IsMarked s.marks j ⊎ In j rest))) ⊎ In i (targets_at os p)
      of_settled i r a (inl m) = inl (inl m)
      of_settled i r a (inr m) = elim m.2 [ inl k ↦ inl (inr (m.0, m.1, inl k)) | inr k ↦ of_pending i m.0 r a m.1 (subst (λ (js : List ℕ). In m.0 js) e k) ]

-- ---- the beginning and the end

-- before any rule is looked at
pub deduction-first : (rs : List Rule) (n : ℕ) (marks : List Bool) (pending ks : List ℕ) → marks ≡ replicate n false → pending ≡ [] → ks ≡ replicate (length rs) 0
    → IsDeduction rs n (λ i. 0 ≤ i) (marking marks pending) ks
deduction-first rs n marks pending ks e f g = record {
  size = ap length e ∙ length-replicate n false;
  sound = λ j h. absurd (marked-replicate n j (subst (λ (bs : List Bool). IsMarked bs j) e h));
  pending = λ j h. absurd (none j (subst (λ (js : List ℕ). In j js) f h));
  ahead = subst (λ (ls : List ℕ). AreAhead rs marks ls) (sym g) (record {
    size = length-replicate (length rs) 0;
    most = λ i k r a b. let d = zeros (length rs) i k b in omega arith;
    marked = λ i k r a b j h. absurd (none j (subst (λ (o : ℕ). In j (take o r.1)) (zeros (length rs) i k b) h));
  });
  settled = λ i r a. inr (omega arith);
}
  where
    none : (j : ℕ) → In j [] → ⊥
    none j h = elim h [ ]

    zeros : (m i k : ℕ) → At (replicate m 0) i k → k ≡ 0
    zeros zero i k h = absurd h
    zeros (suc m) zero k h = h
    zeros (suc m) (suc i) k h = zeros m i k h

-- behind all rules, none is left out
pub deduction-all : (rs : List Rule) (n m : ℕ) (s : Marking) (ks : List ℕ) → length rs ≤ m → IsDeduction rs n (λ i. m ≤ i) s ks → IsDeduction rs n Nothing s ks
deduction-all rs n m s ks l x = record {
  size = x.size;
  sound = x.sound;
  pending = x.pending;
  ahead = x.ahead;
  settled = λ i r a. elim (x.settled i r a) [ inl o ↦ inl o | inr y ↦ absurd (let k = at-length rs i r a in omega arith) ];
}

-- where no place is pending, exactly what follows is marked
pub deduction-least : (rs : List Rule) (n : ℕ) (s : Marking) (ks : List ℕ) → s.pending ≡ [] → IsDeduction rs n Nothing s ks → IsLeast rs n s.marks
deduction-least rs n s ks e x = record { size = x.size; exact = λ j. (x.sound j, complete j) }
  where
    none : (j : ℕ) → In j s.pending → ⊥
    none j h = let l : In j [] = subst (λ (js : List ℕ). In j js) e h in elim l [ ]

    complete : (j : ℕ) → Follows rs j → IsMarked s.marks j
    complete j (follows {js = js} i g) =
        let a : (k : ℕ) × At rs k (j, js) = in-at rs (j, js) i in
        elim (x.settled a.0 (j, js) a.1) [
          | inl m ↦ elim m [
            | inl o ↦ o
            | inr o ↦ elim o.2 [ inl u ↦ absurd (u (complete o.0 (g o.0 o.1))) | inr u ↦ absurd (none o.0 u) ]
          ]
          | inr y ↦ absurd y
        ]

-- fewer rules are left out
pub deduction-fewer : (rs : List Rule) (n : ℕ) (X Y : ℕ → Type 0) (s : Marking) (ks : List ℕ) → ((i : ℕ) → X i → Y i) → IsDeduction rs n X s ks → IsDeduction rs n Y s ks
deduction-fewer rs n X Y s ks f x = record {
  size = x.size;
  sound = x.sound;
  pending = x.pending;
  ahead = x.ahead;
  settled = λ i r a. elim (x.settled i r a) [ inl o ↦ inl o | inr y ↦ inr (f i y) ];
}

-- the rule that is read stands there
pub at-rule : (rs : List code_rule.Rule) (i : ℕ) (r : code_rule.Rule) → i < length rs → r ≡ get_or rs i r → At (rules_of rs) i (rule_of r)
at-rule rs i r l e = at_mapped rule_of rs i r l e

-- so many first parts are all parts
pub all-marked : (bs : List Bool) (js : List ℕ) (n : ℕ) → length js ≤ n → AreMarked bs (take n js) → AreMarked bs js
all-marked bs js n l m = subst (λ (ks : List ℕ). AreMarked bs ks) (take_all n js l) m

-- one more of the first parts is marked
pub next-marked : (bs : List Bool) (js : List ℕ) (n : ℕ) → AreMarked bs (take n js) → IsMarked bs (get_or js n 0) → AreMarked bs (take (n + 1) js)
next-marked bs js n m h j i =
    let a : (k : ℕ) × (k < n + 1) × At js k j = in-take js (n + 1) j i in
    let l : a.0 < n + 1 = a.1 in
    elim (cases_lt a.0 n) [
      | inl k ↦ m j (at-in (take n js) a.0 j (take-at js n a.0 j a.2 k))
      | inr k ↦ let e : a.0 ≡ n = omega arith in subst (λ (o : ℕ). IsMarked bs o) (read-at js n j 0 (subst (λ (o : ℕ). At js o j) e a.2)) h
    ]
