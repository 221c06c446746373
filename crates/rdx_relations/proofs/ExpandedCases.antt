-- Cases by shortcuts that are found by their places, one after the other.
use Rattle.std.proofs.Common.{◌≡◌, ◌∙◌, ◌+◌, ◌<◌, ◌≤◌, ℕ, zero, suc, Bool, true, false, List, [], ◌∷◌, Option, Some, None, length, take, get_or, refl, sym, ap, arith, if◌then◌else◌}
use Rattle.std.proofs.lemmas.Bool.Decides.{nat_tests}
use Rattle.std.specs.Prelude.{◌||◌, bytes_eq, nat_lt}
use Rattle.rdx_patterns.specs.Kinds.{is_among}
use Rattle.rdx_patterns.specs.Parts.{text_of}
use Rattle.rdx_patterns.proofs.Firsts.{none_first}
use Rattle.rdx_relations.specs.Expansion.{by_shortcut, once_expanded, expanded_case, new_arrows, repeated_arrows}
use Rattle.rdx_lang.proofs.FirstPlaces.{place-above, place-within}
use Rattle.rdx_relations.specs.Inside.Arrows.{place_from, below}
use Rattle.rdx_relations.specs.Inside.ShortcutViews.{shortcut_of, shortcuts_in}
use Rattle.rdx_relations.specs.RelationForms.{CaseForm}
use Rattle.rdx_relations.specs.Shorthand.{Shortcut}
use Rattle.rdx_relations.specs.declared.shorthand.forms.Shortcut as code
use Rattle.rdx_relations.proofs.ShorthandRefused.{not-again}

-- a shortcut with the arrow of the case, or with another
once-by : (s : Shortcut) (c : CaseForm) (b : Bool) → bytes_eq (text_of s.new) (text_of c.arrow) ≡ b
    → once_expanded s c ≡ (if b then by_shortcut s c else c)
once-by s c b e = λ i. if e i then by_shortcut s c else c

-- of two that do not hold neither does
neither : (a b : Bool) → (a || b) ≡ false → (a ≡ false) × (b ≡ false)
neither true b e = absurd cc
neither false b e = (refl, e)

-- a case stays as it is by shortcuts with other arrows
stays : (ss : List Shortcut) (n : ℕ) (c : CaseForm) → is_among (new_arrows ss) (text_of c.arrow) ≡ false → expanded_case (take n ss) c ≡ c
stays [] zero c h = refl
stays [] (suc n) c h = refl
stays (s ∷ ss) zero c h = refl
stays (s ∷ ss) (suc n) c h =
    let k = neither (bytes_eq (text_of s.new) (text_of c.arrow)) (is_among (new_arrows ss) (text_of c.arrow)) h in
    ap (once_expanded s) (stays ss n c k.1) ∙ once-by s c false k.0

-- at the place of its arrow, of shortcuts with different arrows that have the places from j on
step-from : (j : ℕ) (seen : List (List ℕ)) (ss : List Shortcut) (n i k : ℕ) (c : CaseForm) (s : Shortcut) → repeated_arrows seen ss ≡ []
    → place_from j (text_of c.arrow) ss ≡ Some k → j + i ≡ k → i < n → s ≡ get_or ss i s
    → expanded_case (take n ss) c ≡ expanded_case (take i ss) (by_shortcut s c)
step-from j seen [] n i k c s d p e h g = absurd cc
step-from j seen (t ∷ ss) zero i k c s d p e h g = absurd (omega arith)
step-from j seen (t ∷ ss) (suc n) i k c s d p e h g =
    by_test (bytes_eq (text_of t.new) x) refl p (λ m. step-from (suc j) (text_of t.new ∷ seen) ss n m k c s rest) i e h g
  where
    x : List ℕ
    x = text_of c.arrow

    rest : repeated_arrows (text_of t.new ∷ seen) ss ≡ []
    rest = (none_first (is_among seen (text_of t.new)) t.new (repeated_arrows (text_of t.new ∷ seen) ss) d).1

    same : Some j ≡ Some k → j ≡ k
    same q = cc

    first_so : (a b : Bool) → a ≡ true → (a || b) ≡ true
    first_so true b q = refl
    first_so false b q = absurd cc

    by_test : (b : Bool) → bytes_eq (text_of t.new) x ≡ b → (if b then Some j else place_from (suc j) x ss) ≡ Some k
        → ((m : ℕ) → place_from (suc j) x ss ≡ Some k → suc j + m ≡ k → m < n → s ≡ get_or ss m s
        → expanded_case (take n ss) c ≡ expanded_case (take m ss) (by_shortcut s c))
        → (i : ℕ) → j + i ≡ k → i < suc n → s ≡ get_or (t ∷ ss) i s
        → once_expanded t (expanded_case (take n ss) c) ≡ expanded_case (take i (t ∷ ss)) (by_shortcut s c)
    by_test true f q later zero e h g =
        let others : is_among (new_arrows ss) x ≡ false =
        not-again (text_of t.new ∷ seen) x ss (first_so (bytes_eq (text_of t.new) x) (is_among seen x) f) rest in
        ap (once_expanded t) (stays ss n c others) ∙ once-by t c true f ∙ ap (λ (r : Shortcut). by_shortcut r c) (sym g)
    by_test true f q later (suc i) e h g = let r : j ≡ k = same q in absurd (omega arith)
    by_test false f q later zero e h g = let r = place-above (λ (t : Shortcut). text_of t.new) (suc j) x ss k q in absurd (omega arith)
    by_test false f q later (suc i) e h g = ap (once_expanded t) (later i q (omega arith) (omega arith) g)

-- where its arrow is none of those before the limit
stop-from : (j : ℕ) (ss : List Shortcut) (n : ℕ) (c : CaseForm) → ((k : ℕ) → place_from j (text_of c.arrow) ss ≡ Some k → j + n ≤ k)
    → expanded_case (take n ss) c ≡ c
stop-from j [] zero c h = refl
stop-from j [] (suc n) c h = refl
stop-from j (t ∷ ss) zero c h = refl
stop-from j (t ∷ ss) (suc n) c h = by_test (bytes_eq (text_of t.new) x) refl h (stop-from (suc j) ss n c)
  where
    x : List ℕ
    x = text_of c.arrow

    by_test : (b : Bool) → bytes_eq (text_of t.new) x ≡ b
        → ((k : ℕ) → (if b then Some j else place_from (suc j) x ss) ≡ Some k → j + suc n ≤ k)
        → (((k : ℕ) → place_from (suc j) x ss ≡ Some k → suc j + n ≤ k) → expanded_case (take n ss) c ≡ c)
        → once_expanded t (expanded_case (take n ss) c) ≡ c
    by_test true f g later = let r = g j refl in absurd (omega arith)
    by_test false f g later = ap (once_expanded t) (later (λ k q. let r = g k q in omega arith)) ∙ once-by t c false f

-- ---- below a limit

-- a place below it
below-some : (n i : ℕ) (o : Option ℕ) → below n o ≡ Some i → (o ≡ Some i) × (i < n)
below-some n i None e = absurd cc
below-some n i (Some k) e = by_test (nat_lt k n) refl e
  where
    by_test : (b : Bool) → nat_lt k n ≡ b → (if b then Some k else None) ≡ Some i → (Some k ≡ Some i) × (i < n)
    by_test true f q = (q, let r : k ≡ i = same q in let l : k < n = is_below f in omega arith)
      where
        same : Some k ≡ Some i → k ≡ i
        same p = cc

        is_below : nat_lt k n ≡ true → k < n
        is_below p = grind (arith, nat_tests)
    by_test false f q = absurd cc

-- no place below it
below-none : (n : ℕ) (o : Option ℕ) → below n o ≡ None → (k : ℕ) → o ≡ Some k → n ≤ k
below-none n None e k f = absurd cc
below-none n (Some j) e k f = by_test (nat_lt j n) refl e
  where
    not_below : nat_lt j n ≡ false → n ≤ j
    not_below p = grind (arith, nat_tests)

    by_test : (b : Bool) → nat_lt j n ≡ b → (if b then Some j else None) ≡ None → n ≤ k
    by_test true g q = absurd cc
    by_test false g q = let r : j ≡ k = cc in let l : n ≤ j = not_below g in omega arith

-- one step more
pub expanded-step : (ss : List Shortcut) (n i : ℕ) (c : CaseForm) (s : Shortcut) → repeated_arrows [] ss ≡ []
    → below n (place_from 0 (text_of c.arrow) ss) ≡ Some i → s ≡ get_or ss i s
    → expanded_case (take n ss) c ≡ expanded_case (take i ss) (by_shortcut s c)
expanded-step ss n i c s d e g =
    let k = below-some n i (place_from 0 (text_of c.arrow) ss) e in
    step-from 0 [] ss n i i c s d k.0 (omega arith) k.1 g

-- and the last one
pub expanded-last : (ss : List Shortcut) (n : ℕ) (c : CaseForm) → below n (place_from 0 (text_of c.arrow) ss) ≡ None
    → expanded_case (take n ss) c ≡ c
expanded-last ss n c e = stop-from 0 ss n c (λ k q. let r = below-none n (place_from 0 (text_of c.arrow) ss) e k q in omega arith)

-- a place that is below a limit is one of a shortcut
pub below-within : (n i : ℕ) (x : List ℕ) (ss : List Shortcut) → below n (place_from 0 x ss) ≡ Some i → i < length ss
below-within n i x ss e = let k = below-some n i (place_from 0 x ss) e in place-within (λ (s : Shortcut). text_of s.new) 0 i i x ss k.0 (omega arith)

-- ---- shortcuts of the code

-- what one at a place stands for is at that place
pub shortcut-at : (ss : List code.Shortcut) (i : ℕ) (s : code.Shortcut) → s ≡ get_or ss i s → shortcut_of s ≡ get_or (shortcuts_in ss) i (shortcut_of s)
shortcut-at [] zero s e = refl
shortcut-at [] (suc i) s e = refl
shortcut-at (t ∷ ss) zero s e = ap shortcut_of e
shortcut-at (t ∷ ss) (suc i) s e = shortcut-at ss i s e
