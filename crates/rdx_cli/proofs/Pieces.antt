-- What is gathered from a source and gained by a sink, piece by piece.
use Rattle.std.proofs.Common.{◌≡◌, ℕ, ◌+◌, ◌≤◌, List, ◌++◌, length, take, drop, None, Some, sym, ◌∙◌, ap, arith, append_assoc, subst}
use Rattle.std.proofs.lemmas.List.{take-append-drop, take-take, drop-take, length-take}
use Rattle.std.specs.declared.option.Option.{Option}
use Rattle.std.specs.Io.KnownBytes.{Consumes}
use Rattle.rdx_base.specs.Putting.{Gains}

-- losing some bytes and then others is losing them all
pub consumes-append : (a b c : Option (List ℕ)) (xs ys : List ℕ) → Consumes a b xs → Consumes b c ys → Consumes a c (xs ++ ys)
consumes-append None b c xs ys p q = tt
consumes-append (Some s) None c xs ys p q = absurd p
consumes-append (Some s) (Some t) None xs ys p q = absurd q
consumes-append (Some s) (Some t) (Some u) xs ys p q = p ∙ ap (λ (l : List ℕ). xs ++ l) q ∙ sym (append_assoc xs ys u)

-- gaining some bytes and then others is gaining them all
pub gains-append : (a b c : Option (List ℕ)) (xs ys : List ℕ) → Gains a b xs → Gains b c ys → Gains a c (xs ++ ys)
gains-append a b None xs ys p q = tt
gains-append a None (Some u) xs ys p q = absurd q
gains-append None (Some t) (Some u) xs ys p q = absurd p
gains-append (Some s) (Some t) (Some u) xs ys p q = q ∙ ap (λ (l : List ℕ). l ++ ys) p ∙ append_assoc s xs ys

-- the first a + n are the first a and then the first n of the others
pub take-plus : (a n : ℕ) (xs : List ℕ) → take (a + n) xs ≡ take a xs ++ take n (drop a xs)
take-plus a n xs =
    sym (take-append-drop a (take (a + n) xs))
    ∙ ap (λ (l : List ℕ). l ++ drop a (take (a + n) xs)) (take-take a (a + n) xs (omega arith))
    ∙ ap (λ (l : List ℕ). take a xs ++ l) (drop-take a n xs)

-- what was written, and n bytes of the next piece of k
pub take-piece : (text : List ℕ) (done k n : ℕ) → n ≤ length (take k (drop done text)) → take done text ++ take n (take k (drop done text)) ≡ take (done + n) text
take-piece text done k n le =
    let fits : n ≤ k = omega (arith, le, length-take k (drop done text)) in
    ap (λ (l : List ℕ). take done text ++ l) (take-take n k (drop done text) fits) ∙ sym (take-plus done n text)

-- the bytes that were gained reach further by those that a put took of the next piece
pub gains-piece : (a b c : Option (List ℕ)) (text : List ℕ) (done k n : ℕ) → Gains a b (take done text) → n ≤ length (take k (drop done text)) → Gains b c (take n (take k (drop done text))) → Gains a c (take (done + n) text)
gains-piece a b c text done k n p le q = subst (λ (l : List ℕ). Gains a c l) (take-piece text done k n le) (gains-append a b c (take done text) (take n (take k (drop done text))) p q)
