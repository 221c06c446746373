-- There is some answer.
use Rattle.std.proofs.Common.{◌≡◌, ℕ, ◌+◌, ◌*◌, ◌≤◌, Bool, true, false, List, [], ◌∷◌, ◌++◌, length, Option, Some, None, if◌then◌else◌, refl, ap, subst, arith}
use Rattle.std.specs.Cmp.Lexicographic.{bytes_decides}
use Rattle.std.specs.Prelude.{bytes_eq, IsFalse}
use Rattle.rand_pcg.specs.Lcg.{Lcg}
use Rattle.rdx_term.specs.Tree.{Tree}
use Rattle.rdx_lang.specs.Patterns.{Pattern, Language}
use Rattle.rdx_lang.specs.Rules.{is_one_of}
use Rattle.rdx_gen.specs.Generated.{generated, bad_name, barren, too_deep, too_large, outcome, has_bad_name, is_barren, makes, stops_deep, stops_large}
use Rattle.rdx_gen.specs.Generation.{Notes, inner_at, setting_of, lacks}
use Rattle.rdx_gen.specs.Heights.{known_in, term_height}
use Rattle.rdx_gen.specs.Laws.{HasAnswer, SomeAnswer, EnoughLevels}
use Rattle.rdx_gen.specs.NameRules.{first_bad_name, notes_of}
use Rattle.rdx_gen.specs.Outcomes.{Outcome, State, made, stopped, nothing, deep, large, found_for}
use Rattle.rdx_gen.proofs.Choosing.{Low, Comes}
use Rattle.rdx_gen.proofs.Coming.{IsBare, terms-come}
use Rattle.rdx_gen.proofs.Descending.{IsEnough, inner-comes}
use Rattle.rdx_gen.proofs.HeightLaws.{Within, term_within}
use Rattle.rdx_gen.proofs.HollowNames.{notes-noted}

-- ---- the lengths that names have

-- each is 0 at size 0, and where its name is hollow
abbrev AreBare : Notes → ℕ → List (List ℕ × ℕ) → Type 0
AreBare o size [] = Unit {0}
AreBare o size (p ∷ ps) = IsBare size (is_one_of o.hollow p.0) p.1 × AreBare o size ps

-- the first, or one of the rest
one-bare : (o : Notes) (size : ℕ) (x y : List ℕ) (k m : ℕ) (h : Option ℕ) (c : Bool) → bytes_eq y x ≡ c → IsBare size (is_one_of o.hollow y) m
    → (h ≡ Some k → IsBare size (is_one_of o.hollow x) k) → (if c then Some m else h) ≡ Some k → IsBare size (is_one_of o.hollow x) k
one-bare o size x y k m h true e b f g =
    let i : m ≡ k = cc in
    subst (λ z. IsBare size (is_one_of o.hollow z) k) ((bytes_decides y x).0 e) (subst (λ n. IsBare size (is_one_of o.hollow y) n) i b)
one-bare o size x y k m h false e b f g = f g

found-bare : (o : Notes) (size : ℕ) (x : List ℕ) (ps : List (List ℕ × ℕ)) (k : ℕ) → AreBare o size ps → found_for x ps ≡ Some k
    → IsBare size (is_one_of o.hollow x) k
found-bare o size x [] k b e = absurd cc
found-bare o size x (p ∷ ps) k b e =
    one-bare o size x p.0 k p.1 (found_for x ps) (bytes_eq p.0 x) refl b.0 (λ f. found-bare o size x ps k b.1 f) e

more-bare : (o : Notes) (size : ℕ) (x : List ℕ) (ps : List (List ℕ × ℕ)) (k : ℕ) → AreBare o size ps → IsBare size (is_one_of o.hollow x) k
    → AreBare o size (ps ++ (x, k) ∷ [])
more-bare o size x [] k b c = (c, tt)
more-bare o size x (p ∷ ps) k b c = (b.0, more-bare o size x ps k b.1 c)

-- ---- fuel

low-enough : (b n size : ℕ) (o : Option ℕ) → size + b ≤ n → Low size b o → IsEnough b n size o
low-enough b n size None e l = l
low-enough b n size (Some h) e l = (λ z. let k = l z in omega (arith, e, k), λ z. e)

low-if : (b size : ℕ) (o : Option ℕ) → IsFalse (lacks o) → Within b o → Low size b o
low-if b size None e w = absurd cc
low-if b size (Some h) e w = λ z. w

outcome-comes : (L : Language) (p : Pattern) (size n : ℕ) (w : Lcg) → IsFalse (lacks (term_height (known_in L) p))
    → size + 2 * length L.nonterminals ≤ n
    → Comes (λ t y. AreBare (notes_of (known_in L) p) size y.lengths) (outcome n L p size w)
outcome-comes L p size n w h e =
    let b : ℕ = 2 * length L.nonterminals in
    let o : Notes = notes_of (known_in L) p in
    terms-come (setting_of L) (inner_at L (setting_of L) n) o size b (AreBare o size)
    (record {
      terms = λ x l s. (inner-comes L n size).terms x (low-enough b n size _ e l) s;
      contexts = λ x l s. (inner-comes L n size).contexts x (low-enough b n size _ e l) s;
      had = λ x ls k i g f. found-bare o size x ls k g f;
      new = λ x ls k i g f. more-bare o size x ls k g f;
    })
    p (record { words = w; terms = []; lengths = [] }) (low-if b size (term_height (known_in L) p) h (term_within L p)) (notes-noted (known_in L) p) tt

not_nothing : {A : Type 0} (P : A → State → Type 0) (r : Outcome A) → Comes P r → r ≡ nothing → ⊥
not_nothing P (made x s) c e = absurd cc
not_nothing P (stopped l w) c e = absurd cc
not_nothing P nothing c e = c

pub enough_levels : EnoughLevels
enough_levels L p size n w h e =
    not_nothing (λ t y. AreBare (notes_of (known_in L) p) size y.lengths) (outcome n L p size w) (outcome-comes L p size n w h e)

-- ---- answers

module _ (L : Language) (p : Pattern) (size : ℕ) (w : Lcg) where
  of_outcome : (n : ℕ) (r : Outcome Tree) → outcome n L p size w ≡ r → (r ≡ nothing → ⊥) → first_bad_name L p ≡ None
      → IsFalse (lacks (term_height (known_in L) p)) → HasAnswer L p size w
  of_outcome n (made t s) e c b h = record { answer = generated t; left = s.words; generates = makes n s b h e }
  of_outcome n (stopped deep v) e c b h = record { answer = too_deep; left = v; generates = stops_deep n b h e }
  of_outcome n (stopped large v) e c b h = record { answer = too_large; left = v; generates = stops_large n b h e }
  of_outcome n nothing e c b h = absurd (c refl)

  of_height : (o : Option ℕ) → term_height (known_in L) p ≡ o → first_bad_name L p ≡ None → HasAnswer L p size w
  of_height None e b = record { answer = barren; left = w; generates = is_barren b e }
  of_height (Some k) e b =
      let n : ℕ = size + 2 * length L.nonterminals in
      let h : lacks (term_height (known_in L) p) ≡ false = ap lacks e in
      of_outcome n (outcome n L p size w) refl (enough_levels L p size n w h (omega arith)) b h

  of_name : (o : Option (List ℕ)) → first_bad_name L p ≡ o → HasAnswer L p size w
  of_name None e = of_height (term_height (known_in L) p) refl e
  of_name (Some x) e = record { answer = bad_name x; left = w; generates = has_bad_name e }

pub some_answer : SomeAnswer
some_answer L p size w = of_name L p size w (first_bad_name L p) refl
