-- The test of shapes decides whether they are equal, and equal shapes are fed alike.
use Rattle.std.proofs.Common.{◌≡◌, ℕ, true, ◌&&◌, nat_eq, Option, Some, None, refl, sym, ap, subst}
use mathlib.Core.Bool.{true≢false}
use Rattle.std.specs.Bool.{Decides}
use Rattle.std.specs.Option.{option_eq}
use Rattle.std.specs.Cmp.{IsEquivalence, decided, first_so, second_so, unsigned_Decides, signed_Decides, booleans_Decides}
use Rattle.std.specs.Cmp.Lexicographic.{pointwise, bytes_decides}
use Rattle.rdx_store.specs.Model.Shapes.{Shape, hole_shape, integer_shape, truth_shape, text_shape, symbol_shape, list_shape, shape_eq, shape_fed}

-- the test of marks decides
mark_eq-equal : (m n : Option ℕ) → option_eq nat_eq m n ≡ true → m ≡ n
mark_eq-equal None None h = refl
mark_eq-equal None (Some k) h = cc
mark_eq-equal (Some i) None h = cc
mark_eq-equal (Some i) (Some k) h = ap Some ((unsigned_Decides i k).0 h)

mark_eq-itself : (m : Option ℕ) → option_eq nat_eq m m ≡ true
mark_eq-itself None = refl
mark_eq-itself (Some i) = (unsigned_Decides i i).1 refl

-- what the test finds equal is equal
shape_eq-equal : (s r : Shape) → shape_eq s r ≡ true → s ≡ r
shape_eq-equal hole_shape hole_shape h = refl
shape_eq-equal (integer_shape n) (integer_shape k) h = ap integer_shape ((signed_Decides n k).0 h)
shape_eq-equal (truth_shape b) (truth_shape c) h = ap truth_shape ((booleans_Decides b c).0 h)
shape_eq-equal (text_shape s) (text_shape r) h = ap text_shape ((bytes_decides s r).0 h)
shape_eq-equal (symbol_shape s) (symbol_shape r) h = ap symbol_shape ((bytes_decides s r).0 h)
shape_eq-equal (list_shape m is) (list_shape n js) h =
    let e : m ≡ n = mark_eq-equal m n (first_so (option_eq nat_eq m n) (pointwise nat_eq is js) h) in
    let d : is ≡ js = (bytes_decides is js).0 (second_so (option_eq nat_eq m n) (pointwise nat_eq is js) h) in
    λ i. list_shape (e i) (d i)
shape_eq-equal s r h = absurd (true≢false (sym h))

-- the test finds each shape equal to itself
shape_eq-itself : (s : Shape) → shape_eq s s ≡ true
shape_eq-itself hole_shape = refl
shape_eq-itself (integer_shape n) = (signed_Decides n n).1 refl
shape_eq-itself (truth_shape b) = (booleans_Decides b b).1 refl
shape_eq-itself (text_shape s) = (bytes_decides s s).1 refl
shape_eq-itself (symbol_shape s) = (bytes_decides s s).1 refl
shape_eq-itself (list_shape m is) = λ i. mark_eq-itself m i && (bytes_decides is is).1 refl i

-- the test decides
pub shape_eq-decides : (s r : Shape) → Decides (shape_eq s r) (s ≡ r)
shape_eq-decides s r = (shape_eq-equal s r, λ e. subst (λ (x : Shape). shape_eq s x ≡ true) e (shape_eq-itself s))

-- it is an equivalence
pub shape_eq-equiv : IsEquivalence shape_eq
shape_eq-equiv = decided shape_eq shape_eq-decides

-- what the test finds equal is fed alike
pub shape_fed-same : (s r : Shape) → shape_eq s r ≡ true → shape_fed s ≡ shape_fed r
shape_fed-same s r h = ap shape_fed (shape_eq-equal s r h)
