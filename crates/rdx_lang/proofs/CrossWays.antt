-- Left edges from a cross nonterminal go as those from the nonterminal that it leads from.
use Rattle.std.proofs.Common.{◌≡◌, ℕ, ◌⊎◌, inl, inr, List, refl, ap, sym, subst}
use Rattle.rdx_lang.specs.Crosses.{unnamed, unnamed_items, crossed, crossed_items}
use Rattle.rdx_lang.specs.Edges.{Edge, edge_nt, edge_named, edge_differ, edge_closed, Reaches, at_once, further, IsRecursive}
use Rattle.rdx_lang.specs.Members.{In, here, there}
use Rattle.rdx_lang.specs.Patterns.{Pattern, wild, of_kind, except, prefix, hole, lit, nt, named, differ, in_hole, hide_hole, closed, seq, Language}
use Rattle.rdx_lang.specs.Rules.{IsAlternative}
use Rattle.rdx_lang.specs.declared.pattern.Ref.TheVariants.{Nt, Cross}
use Rattle.rdx_lang.proofs.LeftEdges.{edge-nt, edge-closed, edge-seq, reaches_on}
use Rattle.rdx_lang.proofs.MemberLaws.{in-map}

-- a reaches a pattern of which q is one with a place changed
record Mirrors (L : Language) (y : List ℕ) (a q : Pattern) : Type 0 where
  to : Pattern
  reached : Reaches L a to
  changed : In q (crossed y (unnamed to))

-- one left edge more in front
mirrors-after : {L : Language} {y : List ℕ} {a b q : Pattern} → Edge L a b → Mirrors L y b q → Mirrors L y a q
mirrors-after e m = record { to = m.to; reached = further e m.reached; changed = m.changed }

-- left edges in front
mirrors-then : {L : Language} {y : List ℕ} {a b q : Pattern} → Reaches L a b → Mirrors L y b q → Mirrors L y a q
mirrors-then r m = record { to = m.to; reached = reaches_on r m.reached; changed = m.changed }

-- where the cross nonterminal itself is the changed pattern, the nonterminal that it leads from is that pattern, or is reached from it
origin : (L : Language) (x y : List ℕ) (a p : Pattern) → p ≡ nt (Cross x y) → In p (crossed y (unnamed a))
    → (a ≡ nt (Nt x)) ⊎ Reaches L a (nt (Nt x))
origin L x y wild p e i = elim i [ ]
origin L x y (of_kind k) p e i = elim i [ ]
origin L x y (except rs) p e i = elim i [ ]
origin L x y (prefix r) p e i = elim i [ ]
origin L x y hole p e i = elim i [ ]
origin L x y (lit u) p e i = elim i [ ]
origin L x y (nt (Nt z)) p e (here h) = let k : z ≡ x = cc in inl (ap (λ w. nt (Nt w)) k)
origin L x y (nt (Nt z)) p e (there i) = elim i [ ]
origin L x y (nt (Cross z w)) p e i = elim i [ ]
origin L x y (named n a) p e i = elim (origin L x y a p e i) [
  | inl h ↦ inr (at_once (subst (λ b. Edge L (named n a) b) h edge_named))
  | inr r ↦ inr (further edge_named r)
]
origin L x y (differ n a) p e i = elim (origin L x y a p e i) [
  | inl h ↦ inr (at_once (subst (λ b. Edge L (differ n a) b) h edge_differ))
  | inr r ↦ inr (further edge_differ r)
]
origin L x y (in_hole a b) p e i = elim i [ ]
origin L x y (hide_hole a) p e i = elim i [ ]
origin L x y (closed a) p e i = let k = in-map closed (crossed y (unnamed a)) p i in let h = k.2 in absurd cc
origin L x y (seq ps) p e i = let k = in-map seq (crossed_items y (unnamed_items ps)) p i in let h = k.2 in absurd cc

-- In M each alternative of a cross nonterminal to y comes from one in L, or stands aside, as does all that follows it.
module _ (L M : Language) (y : List ℕ) (Aside : Pattern → Type 0)
    (stays : (p q : Pattern) → Aside p → Edge M p q → Aside q)
    (comes : (z : List ℕ) (q : Pattern) → IsAlternative M (Cross z y) q
    → Aside q ⊎ ((a : Pattern) × IsAlternative L (Nt z) a × In q (crossed y (unnamed a)))) where
  -- one left edge
  step : (a p q : Pattern) → In p (crossed y (unnamed a)) → Edge M p q → Aside q ⊎ Mirrors L y a q
  step wild p q i e = elim i [ ]
  step (of_kind k) p q i e = elim i [ ]
  step (except rs) p q i e = elim i [ ]
  step (prefix r) p q i e = elim i [ ]
  step hole p q i e = elim i [ ]
  step (lit u) p q i e = elim i [ ]
  step (nt (Nt z)) p q (here h) e = elim (comes z q (edge-nt (subst (λ r. Edge M r q) h e))) [
    | inl s ↦ inl s
    | inr k ↦ inr (record { to = k.0; reached = at_once (edge_nt k.1); changed = k.2 })
  ]
  step (nt (Nt z)) p q (there i) e = elim i [ ]
  step (nt (Cross z w)) p q i e = elim i [ ]
  step (named n a) p q i e = elim (step a p q i e) [
    | inl s ↦ inl s
    | inr m ↦ inr (mirrors-after edge_named m)
  ]
  step (differ n a) p q i e = elim (step a p q i e) [
    | inl s ↦ inl s
    | inr m ↦ inr (mirrors-after edge_differ m)
  ]
  step (in_hole a b) p q i e = elim i [ ]
  step (hide_hole a) p q i e = elim i [ ]
  step (closed a) p q i e =
      let k = in-map closed (crossed y (unnamed a)) p i in
      let h : q ≡ k.0 = edge-closed (subst (λ r. Edge M r q) k.2 e) in
      inr (record { to = a; reached = at_once edge_closed; changed = subst (λ r. In r (crossed y (unnamed a))) (sym h) k.1 })
  step (seq ps) p q i e =
      let k = in-map seq (crossed_items y (unnamed_items ps)) p i in
      absurd (edge-seq (subst (λ r. Edge M r q) k.2 e))

  -- what stands aside stays so
  stays-all : {p q : Pattern} → Reaches M p q → Aside p → Aside q
  stays-all (at_once {p = p} {q = q} e) s = stays p q s e
  stays-all (further {p = p} {q = q} e r) s = stays-all r (stays p q s e)

  -- any number of left edges
  steps : {p q : Pattern} → Reaches M p q → (a : Pattern) → In p (crossed y (unnamed a)) → Aside q ⊎ Mirrors L y a q
  steps (at_once {p = p} {q = q} e) a i = step a p q i e
  steps (further {p = p} {q = q} e r) a i = elim (step a p q i e) [
    | inl s ↦ inl (stays-all r s)
    | inr m ↦ elim (steps r m.to m.changed) [
      | inl s ↦ inl s
      | inr k ↦ inr (mirrors-then m.reached k)
    ]
  ]

  -- so a cross nonterminal that does not stand aside reaches itself only where the nonterminal does that it leads from
  pub recursive-from : (x : List ℕ) → (Aside (nt (Cross x y)) → ⊥) → IsRecursive M (Cross x y) → IsRecursive L (Nt x)
  recursive-from x n r = elim (steps r (nt (Nt x)) (here refl)) [
    | inl s ↦ absurd (n s)
    | inr m ↦ elim (origin L x y m.to (nt (Cross x y)) refl m.changed) [
      | inl h ↦ subst (λ b. Reaches L (nt (Nt x)) b) h m.reached
      | inr k ↦ reaches_on m.reached k
    ]
  ]
