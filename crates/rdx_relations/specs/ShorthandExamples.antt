-- Worked examples: what forms of relations stand for without their shorthand, and where others are refused.
use Rattle.std.specs.Prelude.{◌≡◌, ℕ, List, [], ◌∷◌, ◌++◌, Option, Some, None, codes}
use Rattle.rdx_base.specs.declared.place.Span.{Span}
use Rattle.rdx_sexp.specs.Sexp.{Sexp}
use Rattle.rdx_patterns.specs.Examples.{word, group, columns}
use Rattle.rdx_patterns.specs.declared.shape.fault.DefKind.{DefKind}
use Rattle.rdx_patterns.specs.declared.shape.fault.DefKind.TheVariants.{Shape, Duplicate, UnknownName}
use Rattle.rdx_relations.specs.Expansion.{IsExpansion, expansion_refusal}
use Rattle.rdx_relations.specs.RelationExamples.{number}

-- `(reduction-relation L case ... with shortcut ...)`
abbrev relation : Span → List Sexp → List Sexp → Sexp
relation s cs ss = group s (word s (codes "reduction-relation") ∷ word s (codes "L") ∷ (cs ++ word s (codes "with") ∷ ss))

-- `((old p t) (new a b))`
abbrev shortcut : Span → List ℕ → Sexp → Sexp → List ℕ → Sexp
shortcut s old p t new =
    group s (group s (word s old ∷ p ∷ t ∷ []) ∷ group s (word s new ∷ word s (codes "a") ∷ word s (codes "b") ∷ []) ∷ [])

-- `(x d)`
abbrev around : Span → List ℕ → Sexp → Sexp
around s x d = group s (word s x ∷ d ∷ [])

-- `(a b)` and `(b a)`
abbrev a_b : Span → Sexp
a_b s = around s (codes "a") (word s (codes "b"))

abbrev b_a : Span → Sexp
b_a s = around s (codes "b") (word s (codes "a"))

-- ---- what cases stand for

-- `(reduction-relation L (=> 1 2 x) with ((--> (f a) b) (-> a b)) ((-> (g a) (h b)) (=> a b)))`: the case is `(--> (f (g 1)) (h 2) x)`
abbrev pub GoesOn : Type 0
GoesOn =
    (s t : Span)
    → IsExpansion
    (relation s (group s (word s (codes "=>") ∷ number s 1 ∷ number s 2 ∷ word s (codes "x") ∷ []) ∷ [])
    (shortcut t (codes "-->") (around t (codes "f") (word t (codes "a"))) (word t (codes "b")) (codes "->")
    ∷ shortcut t (codes "->") (around t (codes "g") (word t (codes "a"))) (around t (codes "h") (word t (codes "b"))) (codes "=>") ∷ []))
    (group s (word t (codes "-->") ∷ around t (codes "f") (around t (codes "g") (number s 1)) ∷ around t (codes "h") (number s 2) ∷ word s (codes "x") ∷ []) ∷ [])

-- `(reduction-relation L (=> 1 2) with ((--> (a b) (b a)) (=> a b)))`: the case is `(--> (1 b) (2 a))`
abbrev pub OneEach : Type 0
OneEach =
    (s t : Span)
    → IsExpansion (relation s (group s (word s (codes "=>") ∷ number s 1 ∷ number s 2 ∷ []) ∷ []) (shortcut t (codes "-->") (a_b t) (b_a t) (codes "=>") ∷ []))
    (group s (word t (codes "-->") ∷ group t (number s 1 ∷ word t (codes "b") ∷ []) ∷ group t (number s 2 ∷ word t (codes "a") ∷ []) ∷ []) ∷ [])

-- `(reduction-relation L (=> (a b) (b a)) with ((--> (f a) b) (-> a b)) ((-> (g a) (h b)) (=> a b)))`: the case is
-- `(--> (f (g (a b))) (h (b a)))`
abbrev pub PutInStays : Type 0
PutInStays =
    (s t : Span)
    → IsExpansion
    (relation s (group s (word s (codes "=>") ∷ a_b s ∷ b_a s ∷ []) ∷ [])
    (shortcut t (codes "-->") (around t (codes "f") (word t (codes "a"))) (word t (codes "b")) (codes "->")
    ∷ shortcut t (codes "->") (around t (codes "g") (word t (codes "a"))) (around t (codes "h") (word t (codes "b"))) (codes "=>") ∷ []))
    (group s (word t (codes "-->") ∷ around t (codes "f") (around t (codes "g") (a_b s)) ∷ around t (codes "h") (b_a s) ∷ []) ∷ [])

-- `(reduction-relation L (--> (a b) (b a)) with ((--> (f a) b) (=> a b)))`: the case stays as it is
abbrev pub PlainStays : Type 0
PlainStays =
    (s t : Span)
    → IsExpansion
    (relation s (group s (word s (codes "-->") ∷ a_b s ∷ b_a s ∷ []) ∷ [])
    (shortcut t (codes "-->") (around t (codes "f") (word t (codes "a"))) (word t (codes "b")) (codes "=>") ∷ []))
    (group s (word s (codes "-->") ∷ a_b s ∷ b_a s ∷ []) ∷ [])

-- ---- refusals

-- the datum is refused so, in this column of the first line
abbrev IsRefusedAt : Sexp → DefKind → ℕ → Option (List ℕ) → Type 0
IsRefusedAt d k n x = expansion_refusal d ≡ Some (record { kind = k; place = record { line = 1; column = n }; name = x })

-- `(reduction-relation L (=> 1 2) with ((--> a b) (=> a a)))`: the shortcut, since one symbol stands for both
abbrev pub SameRefused : Type 0
SameRefused =
    IsRefusedAt
    (group (columns 1 58) (word (columns 2 20) (codes "reduction-relation") ∷ word (columns 21 22) (codes "L")
    ∷ group (columns 23 31) (word (columns 24 26) (codes "=>") ∷ number (columns 27 28) 1 ∷ number (columns 29 30) 2 ∷ [])
    ∷ word (columns 32 36) (codes "with")
    ∷ group (columns 37 57) (group (columns 38 47) (word (columns 39 42) (codes "-->") ∷ word (columns 43 44) (codes "a") ∷ word (columns 45 46) (codes "b") ∷ [])
    ∷ group (columns 48 56) (word (columns 49 51) (codes "=>") ∷ word (columns 52 53) (codes "a") ∷ word (columns 54 55) (codes "a") ∷ []) ∷ []) ∷ []))
    Shape 37 None

-- `(relation L)`: the form, which has another head
abbrev pub OtherHeadRefused : Type 0
OtherHeadRefused = IsRefusedAt (group (columns 1 13) (word (columns 2 10) (codes "relation") ∷ word (columns 11 12) (codes "L") ∷ [])) Shape 1 None

-- the new arrow of a second shortcut, which stands in column 5, is that of the first
abbrev pub AgainRefused : Type 0
AgainRefused =
    (s : Span)
    → IsRefusedAt
    (relation s [] (shortcut s (codes "-->") (number s 1) (number s 2) (codes "=>") ∷ shortcut (columns 5 9) (codes "=>") (number s 1) (number s 2) (codes "=>") ∷ []))
    Duplicate 5 (Some (codes "=>"))

-- the old arrow of a shortcut, which stands in column 5, is the new one of a later shortcut
abbrev pub LaterRefused : Type 0
LaterRefused =
    (s : Span)
    → IsRefusedAt
    (relation s [] (shortcut (columns 5 9) (codes "->") (number s 1) (number s 2) (codes "=>") ∷ shortcut s (codes "-->") (number s 1) (number s 2) (codes "->") ∷ []))
    UnknownName 5 (Some (codes "->"))
