-- What a name stands for in a finite map is the value of its pair.
use Rattle.std.proofs.Common.{◌≡◌, ℕ, Bool, true, false, List, [], ◌∷◌, Some, refl, sym, ap, if◌then◌else◌}
use Rattle.std.specs.Prelude.{◌↔◌, bytes_eq}
use Rattle.std.specs.Cmp.Lexicographic.{bytes_decides}
use Rattle.rdx_lang.specs.Bindings.{Value, Pair, Binding, HaveAscendingNames, HasAscendingNames, value_in, value_at}
use Rattle.rdx_lang.proofs.JoinLaws.{one_value}
use Rattle.rdx_lang.specs.Members.{In, here, there}

-- what is found is the value of a pair
value_in-member : (b : List Pair) (x : List ℕ) (v : Value) → value_in b x ≡ Some v → In (x, v) b
value_in-member [] x v h = absurd cc
value_in-member (p ∷ b) x v h = by_test (bytes_eq p.0 x) refl h (value_in-member b x v)
  where
    by_test : (s : Bool) → bytes_eq p.0 x ≡ s → (if s then Some p.1 else value_in b x) ≡ Some v → (value_in b x ≡ Some v → In (x, v) b) → In (x, v) (p ∷ b)
    by_test true e k f = let n : x ≡ p.0 = sym ((bytes_decides p.0 x).0 e) in let m : v ≡ p.1 = cc in here (λ i. (n i, m i))
    by_test false e k f = there (f k)

-- the value of a pair is found
member-value_in : (b : List Pair) (x : List ℕ) (v : Value) → HaveAscendingNames b → In (x, v) b → value_in b x ≡ Some v
member-value_in [] x v a h = elim h [ ]
member-value_in (p ∷ b) x v a h = by_test (bytes_eq p.0 x) refl (member-value_in b x v a.1) h
  where
    differs : bytes_eq p.0 x ≡ false → (x, v) ≡ p → ⊥
    differs e d = let t : bytes_eq p.0 x ≡ true = (bytes_decides p.0 x).1 (ap (λ (r : Pair). r.0) (sym d)) in absurd cc

    by_test : (s : Bool) → bytes_eq p.0 x ≡ s → (In (x, v) b → value_in b x ≡ Some v) → In (x, v) (p ∷ b) → (if s then Some p.1 else value_in b x) ≡ Some v
    by_test true e f i =
        let n : x ≡ p.0 = sym ((bytes_decides p.0 x).0 e) in
        let m : p.1 ≡ v = one_value x p.1 v (p ∷ b) a (here (λ j. (n j, p.1))) i in
        ap Some m
    by_test false e f (here d) = absurd (differs e d)
    by_test false e f (there i) = f i

-- in pairs whose names ascend a name stands for exactly the value of its pair
pub value_in-exact : (b : List Pair) (x : List ℕ) (v : Value) → HaveAscendingNames b → ((value_in b x ≡ Some v) ↔ In (x, v) b)
value_in-exact b x v a = (value_in-member b x v, member-value_in b x v a)

-- so it does in a binding
pub value_at-exact : (b : Binding) (x : List ℕ) (v : Value) → HasAscendingNames b → ((value_at b x ≡ Some v) ↔ In (x, v) b.pairs)
value_at-exact b x v a = value_in-exact b.pairs x v a.0
