-- Contexts that a binding has: where the pattern splits a term and binds so, its context is that one, and its part stands where the marks of the
-- context lead.
use Rattle.std.proofs.Common.{◌≡◌, ◌∙◌, List, refl, sym, ap, subst, IsTrue, Some}
use Rattle.rdx_term.specs.Tree.{Tree}
use Rattle.rdx_term.specs.Context.{is_context}
use Rattle.rdx_term.specs.Fill.{fill_of}
use Rattle.rdx_term.proofs.Splits.{IsPlace-fill_of, tree_at-fill_of, context_at-fill_of}
use Rattle.rdx_lang.specs.Bindings.{Binding, Pair, one, value_in}
use Rattle.rdx_lang.specs.Laws.{IsAlongPath}
use Rattle.rdx_lang.specs.Listing.{IsSeen}
use Rattle.rdx_lang.specs.Members.{In, here}
use Rattle.rdx_lang.specs.Patterns.{Pattern, Language}
use Rattle.rdx_lang.specs.Rules.{Match, Split}
use Rattle.rdx_lang.proofs.JoinLaws.{one_value}
use Rattle.rdx_lang.proofs.RuleSteps.{named_splits}
use Rattle.rdx_lang.proofs.SplitLaws.{same_path, split-along, put_together}
use Rattle.rdx_lang.proofs.Values.{value_in-exact}
use Rattle.rdx_why.specs.Inside.Contexts.{HasContext}

-- ---- along a path

-- what leads somewhere is a context
pub along_context : (t C s : Tree) → IsAlongPath t C s → IsTrue (is_context C)
along_context t C s a = (put_together t C s a).context

-- a context leads, where it is filled, to what it is filled with
filled_along : (C E : Tree) → IsTrue (is_context C) → IsAlongPath (fill_of C E) C E
filled_along C E h = record { inside = IsPlace-fill_of C E h; context = sym (context_at-fill_of C E h); part = sym (tree_at-fill_of C E h) }

-- to one thing at most
one_part : (t C s u : Tree) → IsAlongPath t C s → IsAlongPath t C u → s ≡ u
one_part t C s u a b = (same_path t C C s u a b refl).1

-- ---- the context under the name

-- terms of equal values are equal
same_term : (C D : Tree) → one C ≡ one D → C ≡ D
same_term C D e = cc

module _ (L : Language) (p : Pattern) (t C : Tree) (c : Binding) (known : HasContext p c C) where
  -- it is the one into which the pattern splits, where it binds so
  same_context : (D s : Tree) → IsSeen (Split L p t D s) c → D ≡ C
  same_context D s h =
      let x = known.0 in
      let w = h.whole in
      let n = named_splits (subst (λ (r : Pattern). Split L r t D s w) known.2 h.holds) in
      let same : c.pairs ≡ w.pairs = ap (λ (b : Binding). b.pairs) h.seen in
      let bound = subst (λ (ps : List Pair). value_in ps x ≡ Some (one C)) same known.3 in
      let i : In (x, one D) w.pairs = n.joined.pairs.right (x, one D) (here refl) in
      let k : In (x, one C) w.pairs = (value_in-exact w.pairs x (one C) n.joined.pairs.map).0 bound in
      same_term D C (one_value x (one D) (one C) w.pairs n.joined.pairs.map i k)

  -- so the pattern splits into it and into what stands where it leads
  known_split : (D s : Tree) → IsSeen (Split L p t D s) c → IsAlongPath t C s × IsSeen (Split L p t C s) c
  known_split D s h = subst (λ (E : Tree). IsAlongPath t E s × IsSeen (Split L p t E s) c) (same_context D s h) (split-along h.holds, h)

  -- ---- what is sought

  module _ (r : Pattern) (d : Binding) (there : (D : Tree) × (s : Tree) × IsSeen (Split L p t D s) c × IsSeen (Match L r s) d) where
    -- a part that is matched is where it leads
    pub part_there : (s : Tree) × IsAlongPath t C s
    part_there = (there.1, (known_split there.0 there.1 there.2).0)

    -- so what is there is split off and matched
    pub part_known : (D u v : Tree) → D ≡ C → v ≡ u → IsAlongPath t C u → IsSeen (Split L p t D v) c × IsSeen (Match L r v) d
    part_known D u v g f a =
        let k = known_split there.0 there.1 there.2 in
        let e : there.1 ≡ v = one_part t C there.1 u k.0 a ∙ sym f in
        let h = subst (λ (w : Tree). IsSeen (Split L p t C w) c × IsSeen (Match L r w) d) e (k.1, there.3) in
        (subst (λ (A : Tree). IsSeen (Split L p t A v) c) (sym g) h.0, h.1)

  module _ (r : Pattern) (d : Binding) (B s : Tree)
      (there : (D : Tree) × (z : Tree) × IsSeen (Split L p t D z) c × (E : Tree) × (B ≡ fill_of D E) × IsSeen (Split L r z E s) d) where
    -- a part that is split is where it leads
    pub middle_there : (z : Tree) × IsAlongPath t C z
    middle_there = (there.1, (known_split there.0 there.1 there.2).0)

    -- the whole context is it, filled with the other context
    filled : B ≡ fill_of C there.3
    filled = subst (λ (D : Tree). B ≡ fill_of D there.3) (same_context there.0 there.1 there.2) there.4

    -- so it leads to that in the whole one
    around : IsAlongPath B C there.3
    around =
        let h = along_context t C there.1 (known_split there.0 there.1 there.2).0 in
        subst (λ (A : Tree). IsAlongPath A C there.3) (sym filled) (filled_along C there.3 h)

    -- some context stands there
    pub second_there : (E : Tree) × IsAlongPath B C E
    second_there = (there.3, around)

    -- so what is there is split off, and split into what is there
    pub both_known : (D u v E F : Tree) → D ≡ C → v ≡ u → F ≡ E → IsAlongPath t C u → IsAlongPath B C E
        → IsSeen (Split L p t D v) c × IsSeen (Split L r v F s) d × (B ≡ fill_of D F)
    both_known D u v E F g f e a b =
        let k = known_split there.0 there.1 there.2 in
        let x : there.1 ≡ v = one_part t C there.1 u k.0 a ∙ sym f in
        let y : there.3 ≡ F = one_part B C there.3 E around b ∙ sym e in
        let inner = subst (λ (w : Tree). IsSeen (Split L r w there.3 s) d) x there.5 in (
          subst (λ (A : Tree). IsSeen (Split L p t A v) c) (sym g) (subst (λ (w : Tree). IsSeen (Split L p t C w) c) x k.1),
          subst (λ (G : Tree). IsSeen (Split L r v G s) d) y inner,
          filled ∙ (λ i. fill_of (sym g i) (y i)),
        )
