-- There is one answer at most.
use Rattle.std.proofs.Common.{◌≡◌, ℕ, ◌+◌, true, List, [], Some, None, refl, sym, ap, ◌∙◌, subst, arith}
use Rattle.std.specs.Prelude.{IsFalse}
use Rattle.rand_pcg.specs.Lcg.{Lcg}
use Rattle.rdx_term.specs.Tree.{Tree}
use Rattle.rdx_lang.specs.Patterns.{Pattern, Language}
use Rattle.rdx_gen.specs.Generated.{Answer, generated, bad_name, barren, too_deep, too_large, outcome, Generates, has_bad_name, is_barren, makes, stops_deep, stops_large}
use Rattle.rdx_gen.specs.Generation.{setting_of, lacks}
use Rattle.rdx_gen.specs.Heights.{known_in, term_height}
use Rattle.rdx_gen.specs.Laws.{OneAnswer}
use Rattle.rdx_gen.specs.NameRules.{first_bad_name, notes_of}
use Rattle.rdx_gen.specs.Outcomes.{Outcome, made, stopped, nothing, deep, large}
use Rattle.rdx_gen.proofs.Staying.{Stays, term-stays}

-- the answer that an outcome is, and the words that it leaves; w stands where it is nothing
abbrev answer_of : Outcome Tree → Answer
answer_of (made t s) = generated t
answer_of (stopped deep v) = too_deep
answer_of (stopped large v) = too_large
answer_of nothing = barren

abbrev left_by : Lcg → Outcome Tree → Lcg
left_by w (made t s) = s.words
left_by w (stopped l v) = v
left_by w nothing = w

-- something comes
abbrev Comes : Outcome Tree → Type 0
Comes (made t s) = Unit {0}
Comes (stopped l v) = Unit {0}
Comes nothing = ⊥

-- two outcomes that stay as a third are the same
same : (r q z : Outcome Tree) → Comes r → Comes q → Stays r z → Stays q z → r ≡ q
same (made t s) (made u y) z c d h k = sym h ∙ k
same (made t s) (stopped l v) z c d h k = sym h ∙ k
same (stopped l v) (made u y) z c d h k = sym h ∙ k
same (stopped l v) (stopped m u) z c d h k = sym h ∙ k
same nothing q z c d h k = absurd c
same (made t s) nothing z c d h k = absurd d
same (stopped l v) nothing z c d h k = absurd d

module _ (L : Language) (p : Pattern) (size : ℕ) (w : Lcg) where
  stays : (n k : ℕ) → Stays (outcome n L p size w) (outcome (n + k) L p size w)
  stays n k = term-stays L (setting_of L) (notes_of (known_in L) p) size p (record { words = w; terms = []; lengths = [] }) n k

  both-same : (n m : ℕ) → Comes (outcome n L p size w) → Comes (outcome m L p size w) → outcome n L p size w ≡ outcome m L p size w
  both-same n m c d =
      let e : m + n ≡ n + m = omega arith in
      same _ _ (outcome (n + m) L p size w) c d (stays n m) (subst (λ k. Stays (outcome m L p size w) (outcome k L p size w)) e (stays m n))

  when_bad : (x : List ℕ) (b : Answer) (u : Lcg) → first_bad_name L p ≡ Some x → Generates L p size w b u → (bad_name x ≡ b) × (w ≡ u)
  when_bad x b u e (has_bad_name {x = y} f) = let g : x ≡ y = cc in (ap bad_name g, refl)
  when_bad x b u e (is_barren f h) = absurd cc
  when_bad x b u e (makes n s f h g) = absurd cc
  when_bad x b u e (stops_deep n f h g) = absurd cc
  when_bad x b u e (stops_large n f h g) = absurd cc

  no_height : term_height (known_in L) p ≡ None → IsFalse (lacks (term_height (known_in L) p)) → ⊥
  no_height e h = let g : lacks (term_height (known_in L) p) ≡ true = ap lacks e in absurd cc

  when_barren : (b : Answer) (u : Lcg) → first_bad_name L p ≡ None → term_height (known_in L) p ≡ None → Generates L p size w b u
      → (barren ≡ b) × (w ≡ u)
  when_barren b u e d (has_bad_name f) = absurd cc
  when_barren b u e d (is_barren f h) = (refl, refl)
  when_barren b u e d (makes n s f h g) = absurd (no_height d h)
  when_barren b u e d (stops_deep n f h g) = absurd (no_height d h)
  when_barren b u e d (stops_large n f h g) = absurd (no_height d h)

  -- the answer is that of the one outcome
  when_comes : (n : ℕ) (b : Answer) (u : Lcg) → first_bad_name L p ≡ None → IsFalse (lacks (term_height (known_in L) p))
      → Comes (outcome n L p size w)
      → Generates L p size w b u → (answer_of (outcome n L p size w) ≡ b) × (left_by w (outcome n L p size w) ≡ u)
  when_comes n b u e d c (has_bad_name f) = absurd cc
  when_comes n b u e d c (is_barren f h) = absurd (no_height h d)
  when_comes n b u e d c (makes m s f h g) = let q = both-same n m c (subst Comes (sym g) tt) ∙ g in (ap answer_of q, ap (left_by w) q)
  when_comes n b u e d c (stops_deep m f h g) = let q = both-same n m c (subst Comes (sym g) tt) ∙ g in (ap answer_of q, ap (left_by w) q)
  when_comes n b u e d c (stops_large m f h g) = let q = both-same n m c (subst Comes (sym g) tt) ∙ g in (ap answer_of q, ap (left_by w) q)

  -- so an answer that is the outcome's is the one
  only : (n : ℕ) (r : Outcome Tree) (b : Answer) (u : Lcg) → first_bad_name L p ≡ None → IsFalse (lacks (term_height (known_in L) p))
      → outcome n L p size w ≡ r
      → Comes r → Generates L p size w b u → (answer_of r ≡ b) × (left_by w r ≡ u)
  only n r b u e d q c g = subst (λ z. (answer_of z ≡ b) × (left_by w z ≡ u)) q (when_comes n b u e d (subst Comes (sym q) c) g)

  first_of_two : (a b : Answer) (v u : Lcg) → Generates L p size w a v → Generates L p size w b u → (a ≡ b) × (v ≡ u)
  first_of_two a b v u (has_bad_name {x = x} e) g = when_bad x b u e g
  first_of_two a b v u (is_barren e d) g = when_barren b u e d g
  first_of_two a b v u (makes n {t = t} s e d q) g = only n (made t s) b u e d q tt g
  first_of_two a b v u (stops_deep n {w' = z} e d q) g = only n (stopped deep z) b u e d q tt g
  first_of_two a b v u (stops_large n {w' = z} e d q) g = only n (stopped large z) b u e d q tt g

pub one_answer : OneAnswer
one_answer L p size w a b v u g h = first_of_two L p size w a b v u g h
