-- A language without left recursion stays so when it gets cross nonterminals.
use Rattle.std.proofs.Common.{◌≡◌, ℕ, ◌⊎◌, inl, inr, true, false, List, [], ◌∷◌, ap, sym, ◌∙◌, subst}
use Rattle.std.proofs.lemmas.Bool.{both_ways}
use Rattle.rdx_lang.specs.CrossLaws.{CrossesFree}
use Rattle.rdx_lang.specs.Crosses.{unnamed, crossed, cross_alternatives, new_crosses, with_crosses, with_crosses_to}
use Rattle.rdx_lang.specs.Edges.{Edge, edge_nt, edge_named, edge_differ, edge_hide_hole, edge_closed, edge_left, edge_right, Reaches, at_once, further, IsFree}
use Rattle.rdx_lang.specs.Empty.{IsEmpty, empty_hole, empty_nt, empty_named, empty_differ, empty_closed, empty_in_hole}
use Rattle.rdx_lang.specs.Members.{In}
use Rattle.rdx_lang.specs.Patterns.{Pattern, hole, nt, Language}
use Rattle.rdx_lang.specs.References.{is_among}
use Rattle.rdx_lang.specs.Rules.{IsAlternative}
use Rattle.rdx_lang.specs.WellFormed.{has_known_nonterminals, defined}
use Rattle.rdx_lang.specs.declared.pattern.Ref.{Ref}
use Rattle.rdx_lang.specs.declared.pattern.Ref.TheVariants.{Nt, Cross}
use Rattle.rdx_lang.proofs.CrossWays.{recursive-from}
use Rattle.rdx_lang.proofs.KnownCrosses.{KnowsAll, well_formed-knows, crosses-known}
use Rattle.rdx_lang.proofs.KnownNonterminals.{known-parts}
use Rattle.rdx_lang.proofs.LeftEdges.{edge-nt, edge-hole, first-edge}
use Rattle.rdx_lang.proofs.LookupLaws.{is_among-defined}
use Rattle.rdx_lang.proofs.NewCrosses.{of_cross-from, all-new, alternative-cases, alternative-source}
use Rattle.rdx_lang.proofs.WellFormedCrosses.{alternative-passes}

module _ (L : Language) (y : List ℕ) (k : KnowsAll L) where
  -- ---- what was known before

  -- the pattern speaks of nonterminals of the language alone
  abbrev Old : Pattern → Type 0
  Old p = has_known_nonterminals (defined L) p ≡ true

  -- each alternative does
  pub alternative-old : (x : Ref) (p : Pattern) → IsAlternative L x p → Old p
  alternative-old x p a = alternative-passes (has_known_nonterminals (defined L)) L x p k a

  -- a nonterminal that was there keeps its alternatives
  pub old-alternative : (x : Ref) (p : Pattern) → is_among x (defined L) ≡ true → IsAlternative (with_crosses L y) x p → IsAlternative L x p
  old-alternative x p h a = elim (alternative-cases L y (new_crosses L y) (all-new L y) x p a) [
    | inl b ↦ b
    | inr b ↦ absurd (both_ways (is_among x (defined L)) (ap (λ z. is_among z (defined L)) b.is ∙ b.absent) h)
  ]

  -- what is Empty now was so before
  old-empty : {p : Pattern} → IsEmpty (with_crosses L y) p → Old p → IsEmpty L p
  old-empty empty_hole h = empty_hole
  old-empty (empty_nt {x = x} {p = p} a e) h = let b = old-alternative x p h a in empty_nt b (old-empty e (alternative-old x p b))
  old-empty (empty_named e) h = empty_named (old-empty e h)
  old-empty (empty_differ e) h = empty_differ (old-empty e h)
  old-empty (empty_closed e) h = empty_closed (old-empty e h)
  old-empty (empty_in_hole {q = q} {r = r} e f) h =
      let k = known-parts (defined L) q r h in empty_in_hole (old-empty e k.0) (old-empty f k.1)

  -- left edges from such a pattern were there, and lead to such patterns
  old-edge : {p q : Pattern} → Edge (with_crosses L y) p q → Old p → Edge L p q × Old q
  old-edge (edge_nt {x = x} {p = p} a) h = let b = old-alternative x p h a in (edge_nt b, alternative-old x p b)
  old-edge edge_named h = (edge_named, h)
  old-edge edge_differ h = (edge_differ, h)
  old-edge edge_hide_hole h = (edge_hide_hole, h)
  old-edge edge_closed h = (edge_closed, h)
  old-edge (edge_left {q = q} {r = r}) h = (edge_left, (known-parts (defined L) q r h).0)
  old-edge (edge_right {q = q} {r = r} e) h = let k = known-parts (defined L) q r h in (edge_right (old-empty e k.0), k.1)

  -- so what it reaches now it reached before
  old-reaches : {p q : Pattern} → Reaches (with_crosses L y) p q → Old p → Reaches L p q
  old-reaches (at_once e) h = at_once (old-edge e h).0
  old-reaches (further e r) h = let k = old-edge e h in further k.0 (old-reaches r k.1)

  -- ---- what is added

  -- the hole, or what has no cross nonterminal that was added
  Aside : Pattern → Type 0
  Aside p = (p ≡ hole) ⊎ Old p

  -- left edges from it lead to what is so again
  aside-stays : (p q : Pattern) → Aside p → Edge (with_crosses L y) p q → Aside q
  unfolding Aside
  aside-stays p q (inl h) e = absurd (edge-hole (subst (λ r. Edge (with_crosses L y) r q) h e))
  aside-stays p q (inr h) e = inr (old-edge e h).1

  -- an alternative of a cross nonterminal to y is so, or comes from one of the nonterminal that it leads from
  aside-comes : (z : List ℕ) (q : Pattern) → IsAlternative (with_crosses L y) (Cross z y) q
      → Aside q ⊎ ((a : Pattern) × IsAlternative L (Nt z) a × In q (crossed y (unnamed a)))
  unfolding Aside
  aside-comes z q a = elim (alternative-cases L y (new_crosses L y) (all-new L y) (Cross z y) q a) [
    | inl b ↦ inl (inr (alternative-old (Cross z y) q b))
    | inr b ↦
        let i : In q (cross_alternatives L z y) = subst (λ v. In q (cross_alternatives L v y)) (of_cross-from (sym b.is)) b.alternative in
        elim (alternative-source L z y q i) [
          | inl h ↦ inl (inl h)
          | inr k ↦ inr k
        ]
  ]

  -- a cross nonterminal that was added is not
  not-aside : (x : List ℕ) → is_among (Cross x y) (defined L) ≡ false → Aside (nt (Cross x y)) → ⊥
  unfolding Aside
  not-aside x h (inl e) = absurd cc
  not-aside x h (inr e) = both_ways (is_among (Cross x y) (defined L)) h e

  -- so no nonterminal reaches itself
  crosses-free : IsFree L → IsFree (with_crosses L y)
  crosses-free f x r = elim (alternative-cases L y (new_crosses L y) (all-new L y) x (first-edge r).0 (edge-nt (first-edge r).1)) [
    | inl a ↦ f x (old-reaches r (is_among-defined x a.all L.nonterminals a.defined))
    | inr a ↦ f (Nt a.from) (recursive-from L (with_crosses L y) y Aside aside-stays aside-comes a.from (not-aside a.from a.absent)
        (subst (λ z. Reaches (with_crosses L y) (nt z) (nt z)) a.is r))
  ]

-- a language that knows what it speaks of and is free of left recursion stays free with any cross nonterminals
pub known_crosses_free : (L : Language) (ys : List (List ℕ)) → KnowsAll L → IsFree L → IsFree (with_crosses_to L ys)
known_crosses_free L [] k f = f
known_crosses_free L (y ∷ ys) k f = known_crosses_free (with_crosses L y) ys (crosses-known L y k) (crosses-free L y k f)

-- so does one that is well formed
pub crosses_free : CrossesFree
crosses_free L ys w f = known_crosses_free L ys (well_formed-knows L w) f
