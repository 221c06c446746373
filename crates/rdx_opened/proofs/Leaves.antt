-- The terms that the marks of an opened pattern have in what it binds, and the names of marks.
use Rattle.std.proofs.Common.{◌≡◌, ◌⊎◌, inl, inr, ℕ, Bool, true, false, List, [], ◌∷◌, ◌++◌, refl, sym, ◌∙◌, ap, subst}
use Rattle.std.specs.Cmp.Lexicographic.{bytes_decides}
use Rattle.std.specs.Prelude.{bytes_eq}
use Rattle.rdx_term.specs.Tree.{Tree}
use Rattle.rdx_lang.specs.Bindings.{Value, one, many, Values, Pair, Binding, one_name, bound_names}
use Rattle.rdx_lang.specs.Members.{In, here, there}
use Rattle.rdx_lang.proofs.MemberLaws.{map-in, in-map}
use Rattle.rdx_opened.specs.Opening.{Mark, mark_names, AreDistinct, IsAt, LeafAt, leaf_one, leaf_many, IsLeaf}

-- ---- the names of marks

-- a mark has its name
pub mark-named : {y x : List ℕ} (ms : List Mark) → In (y, x) ms → In y (mark_names ms)
mark-named {y = y} {x = x} ms h = map-in (λ (m : Mark). m.0) ms (y, x) h

-- a name is one of some, or it is not
pub one_or_not : (x : List ℕ) (xs : List (List ℕ)) → In x xs ⊎ (In x xs → ⊥)
one_or_not x [] = inr (λ i. elim i [ ])
one_or_not x (y ∷ xs) = by_test (bytes_eq x y) refl (one_or_not x xs)
  where
    none : (x ≡ y → ⊥) → (In x xs → ⊥) → In x (y ∷ xs) → ⊥
    none m n (here e) = m e
    none m n (there i) = n i

    by_rest : (x ≡ y → ⊥) → In x xs ⊎ (In x xs → ⊥) → In x (y ∷ xs) ⊎ (In x (y ∷ xs) → ⊥)
    by_rest m (inl i) = inl (there i)
    by_rest m (inr n) = inr (none m n)

    by_test : (b : Bool) → bytes_eq x y ≡ b → In x xs ⊎ (In x xs → ⊥) → In x (y ∷ xs) ⊎ (In x (y ∷ xs) → ⊥)
    by_test true e r = inl (here ((bytes_decides x y).0 e))
    by_test false e r = by_rest (λ f. let g : bytes_eq x y ≡ true = (bytes_decides x y).1 f in absurd cc) r

-- a mark is of one mismatch name, where no two marks have one name
pub one_mismatch : (ms : List Mark) → AreDistinct (mark_names ms) → {y x z : List ℕ} → In (y, x) ms → In (y, z) ms → x ≡ z
one_mismatch [] d i k = elim i [ ]
one_mismatch (m ∷ ms) d (here e) (here f) = ap (λ (n : Mark). n.1) (e ∙ sym f)
one_mismatch (m ∷ ms) d (here e) (there k) =
    absurd (d.0 (subst (λ (w : List ℕ). In w (mark_names ms)) (ap (λ (n : Mark). n.0) e) (mark-named ms k)))
one_mismatch (m ∷ ms) d (there i) (here f) =
    absurd (d.0 (subst (λ (w : List ℕ). In w (mark_names ms)) (ap (λ (n : Mark). n.0) f) (mark-named ms i)))
one_mismatch (m ∷ ms) d (there i) (there k) = one_mismatch ms d.1 i k

-- the names of the first of two lists of marks are among those of both
pub marks-left : (ms ns : List Mark) {z : List ℕ} → In z (mark_names ms) → In z (mark_names (ms ++ ns))
marks-left [] ns i = elim i [ ]
marks-left (m ∷ ms) ns (here e) = here e
marks-left (m ∷ ms) ns (there i) = there (marks-left ms ns i)

-- so are those of the second
pub marks-right : (ms ns : List Mark) {z : List ℕ} → In z (mark_names ns) → In z (mark_names (ms ++ ns))
marks-right [] ns i = i
marks-right (m ∷ ms) ns i = there (marks-right ms ns i)

-- the marks of the first of two lists have different names, where those of both have
pub distinct-left : (ms ns : List Mark) → AreDistinct (mark_names (ms ++ ns)) → AreDistinct (mark_names ms)
distinct-left [] ns d = tt
distinct-left (m ∷ ms) ns d = (λ i. d.0 (marks-left ms ns i), distinct-left ms ns d.1)

-- so have those of the second
pub distinct-right : (ms ns : List Mark) → AreDistinct (mark_names (ms ++ ns)) → AreDistinct (mark_names ns)
distinct-right [] ns d = d
distinct-right (m ∷ ms) ns d = distinct-right ms ns d.1

-- and no mark of the one has the name of one of the other
pub distinct-apart : (ms ns : List Mark) → AreDistinct (mark_names (ms ++ ns)) → {z : List ℕ} → In z (mark_names ms) → In z (mark_names ns) → ⊥
distinct-apart [] ns d i k = elim i [ ]
distinct-apart (m ∷ ms) ns d (here e) k = d.0 (marks-right ms ns (subst (λ (w : List ℕ). In w (mark_names ns)) e k))
distinct-apart (m ∷ ms) ns d (there i) k = distinct-apart ms ns d.1 i k

-- ---- pairs

-- a bound name has a value
pub bound_value : (c : Binding) {x : List ℕ} → In x (bound_names c) → (v : Value) × In (x, v) c.pairs
bound_value c {x = x} h =
    let k : (p : Pair) × In p c.pairs × (x ≡ p.0) = in-map (λ (p : Pair). p.0) c.pairs x h in
    (k.0.1, subst (λ (y : List ℕ). In (y, k.0.1) c.pairs) (sym k.2) k.1)

-- one pair alone
pub only_name : {x y : List ℕ} {v w : Value} → In (y, w) (one_name x v).pairs → y ≡ x
only_name (here e) = ap (λ (p : Pair). p.0) e
only_name (there i) = elim i [ ]

pub only_value : {x y : List ℕ} {v w : Value} → In (y, w) (one_name x v).pairs → w ≡ v
only_value (here e) = ap (λ (p : Pair). p.1) e
only_value (there i) = elim i [ ]

-- ---- leaves

-- a leaf of a part is one of the whole
pub leaf-within : {ms : List Mark} {c d : Binding} {x y is : List ℕ} {t : Tree} → ((p : Pair) → In p d.pairs → In p c.pairs) → IsLeaf ms d x y is t
    → IsLeaf ms c x y is t
leaf-within {y = y} f l = record { value = l.value; mark = l.mark; bound = f (y, l.value) l.bound; leaf = l.leaf }

-- a leaf in one term is this term
pub leaf-term : {t u : Tree} {is : List ℕ} → LeafAt (one t) is u → u ≡ t
leaf-term leaf_one = refl

-- and in no turn
pub leaf-turns : {t u : Tree} {is : List ℕ} → LeafAt (one t) is u → is ≡ []
leaf-turns leaf_one = refl

-- the turn that a leaf in a sequence is in, the value there, and the turns inside of it
pub record SequenceLeaf (vs : Values) (is : List ℕ) (t : Tree) : Type 0 where
  pub turn : ℕ
  pub value : Value
  pub inside : List ℕ
  pub at : IsAt vs turn value
  pub leaf : LeafAt value inside t
  pub same : is ≡ turn ∷ inside

pub leaf-sequence : {vs : Values} {is : List ℕ} {t : Tree} → LeafAt (many vs) is t → SequenceLeaf vs is t
leaf-sequence (leaf_many {i = i} {v = v} {is = js} a l) = record { turn = i; value = v; inside = js; at = a; leaf = l; same = refl }
