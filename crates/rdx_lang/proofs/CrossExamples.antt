-- A language whose left recursion is seen only with the cross nonterminals that it needs.
use Rattle.std.proofs.Common.{◌≡◌, ◌⊎◌, inl, inr, List, [], ◌∷◌, refl, ap, subst, codes}
use Rattle.rdx_lang.specs.CrossExamples.{e, cross_e, filled, CrossesMatter}
use Rattle.rdx_lang.specs.Crosses.{completed}
use Rattle.rdx_lang.specs.Edges.{Edge, edge_nt, edge_named, edge_differ, edge_hide_hole, edge_closed, edge_left, edge_right, Reaches, at_once, further, IsFree}
use Rattle.rdx_lang.specs.Empty.{IsEmpty, empty_hole, empty_nt, empty_named, empty_differ, empty_closed, empty_in_hole}
use Rattle.rdx_lang.specs.Members.{In, here, there}
use Rattle.rdx_lang.specs.Patterns.{Pattern, hole, nt, in_hole, Definition}
use Rattle.rdx_lang.specs.Rules.{IsAlternative}
use Rattle.rdx_lang.specs.declared.pattern.Ref.{Ref}
use Rattle.rdx_lang.specs.declared.pattern.Ref.TheVariants.{Nt, Cross}
use Rattle.rdx_lang.proofs.LeftEdges.{edge-nt}

-- its one alternative
only-one : {x : Ref} {p : Pattern} → IsAlternative filled x p → (x ≡ Nt (codes "e")) × (p ≡ in_hole cross_e e)
only-one {x = x} {p = p} a = by_case a.all a.defined a.among
  where
    in_one : (q : Pattern) → In p (q ∷ []) → p ≡ q
    in_one q (here h) = h
    in_one q (there i) = elim i [ ]

    by_case : (ps : List Pattern) → In (x, ps) filled.nonterminals → In p ps → (x ≡ Nt (codes "e")) × (p ≡ in_hole cross_e e)
    by_case ps (here h) i =
        (ap (λ (d : Definition). d.0) h, in_one (in_hole cross_e e) (subst (λ qs. In p qs) (ap (λ (d : Definition). d.1) h) i))
    by_case ps (there j) i = elim j [ ]

-- the cross nonterminal has none
none-of-cross : {p : Pattern} → IsAlternative filled (Cross (codes "e") (codes "e")) p → ⊥
none-of-cross a = let k = (only-one a).0 in absurd cc

-- so it is not Empty
not-empty : {p : Pattern} → IsEmpty filled p → p ≡ cross_e → ⊥
not-empty empty_hole h = absurd cc
not-empty (empty_nt {x = x} {p = p} a i) h =
    let k : x ≡ Cross (codes "e") (codes "e") = cc in none-of-cross (subst (λ y. IsAlternative filled y p) k a)
not-empty (empty_named i) h = absurd cc
not-empty (empty_differ i) h = absurd cc
not-empty (empty_closed i) h = absurd cc
not-empty (empty_in_hole i j) h = absurd cc

-- from the alternative a left edge leads to the cross nonterminal alone
edge-from-filled : {p q : Pattern} → Edge filled p q → p ≡ in_hole cross_e e → q ≡ cross_e
edge-from-filled (edge_nt a) h = absurd cc
edge-from-filled edge_named h = absurd cc
edge-from-filled edge_differ h = absurd cc
edge-from-filled edge_hide_hole h = absurd cc
edge-from-filled edge_closed h = absurd cc
edge-from-filled edge_left h = cc
edge-from-filled (edge_right {q = q} {r = r} i) h = let k : q ≡ cross_e = cc in absurd (not-empty i k)

-- from which none leads
edge-from-cross : {p q : Pattern} → Edge filled p q → p ≡ cross_e → ⊥
edge-from-cross {q = q} d h = none-of-cross (edge-nt (subst (λ r. Edge filled r q) h d))

-- so the cross nonterminal reaches nothing
reaches-from-cross : {p q : Pattern} → Reaches filled p q → p ≡ cross_e → ⊥
reaches-from-cross (at_once d) h = edge-from-cross d h
reaches-from-cross (further d r) h = edge-from-cross d h

-- and the alternative reaches the cross nonterminal alone
reaches-from-filled : {p q : Pattern} → Reaches filled p q → p ≡ in_hole cross_e e → q ≡ cross_e
reaches-from-filled (at_once d) h = edge-from-filled d h
reaches-from-filled (further d r) h = absurd (reaches-from-cross r (edge-from-filled d h))

-- a nonterminal that reaches something is e, and reaches these two
reaches-from-nt : {x : Ref} {q : Pattern} → Reaches filled (nt x) q → (x ≡ Nt (codes "e")) × ((q ≡ cross_e) ⊎ (q ≡ in_hole cross_e e))
reaches-from-nt (at_once d) = let k = only-one (edge-nt d) in (k.0, inr k.1)
reaches-from-nt (further d r) = let k = only-one (edge-nt d) in (k.0, inl (reaches-from-filled r k.1))

-- so none reaches itself
filled-free : IsFree filled
filled-free x r = let k = reaches-from-nt r in elim k.1 [
  | inl h ↦ (let a : nt x ≡ nt (Nt (codes "e")) = ap nt k.0 in absurd cc)
  | inr h ↦ absurd cc
]

-- with the cross nonterminal e reaches itself, since the hole is an alternative of that
pub crosses_matter : CrossesMatter
crosses_matter = (filled-free, further (edge_nt first) (at_once (edge_right (empty_nt second empty_hole))))
  where
    first : IsAlternative (completed filled) (Nt (codes "e")) (in_hole cross_e e)
    first = record { all = in_hole cross_e e ∷ []; defined = here refl; among = here refl }

    second : IsAlternative (completed filled) (Cross (codes "e") (codes "e")) hole
    second = record { all = hole ∷ []; defined = there (here refl); among = here refl }
