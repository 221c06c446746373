-- Atoms that are made: they are of their kinds, and names keep what they have.
use Rattle.std.proofs.Common.{arith, inl, inr, ◌⊎◌, ◌≡◌, ℕ, zero, suc, ◌+◌, ◌<◌, ◌%◌, ◌&&◌, length, ◌++◌, Bool, true, false, List, [], ◌∷◌, refl, sym, ap, ◌∙◌, subst}
use Rattle.std.proofs.Math.Nat.{mod-lt}
use Rattle.std.proofs.Math.Seq.{take-append_seam}
use Rattle.std.specs.Cmp.Lexicographic.{bytes_decides}
use Rattle.std.specs.List.{starts_with}
use Rattle.std.specs.Prelude.{not, nat_eq, bytes_eq, IsTrue, pos, ◌-ℤ◌, if◌then◌else◌, slice_index_or, codes, ◌==◌}
use Rattle.rand_pcg.specs.Pcg.{pcg32}
use Rattle.rdx_lang.specs.Literals.{is_mentioned}
use Rattle.rdx_lang.specs.Members.{In, here, there}
use Rattle.rdx_lang.specs.Patterns.{Language}
use Rattle.rdx_lang.specs.Rules.{is_of_kind, is_integer, is_natural, is_string, is_boolean, is_variable, is_unmentioned, is_one_of}
use Rattle.rdx_lang.specs.declared.pattern.Kind.{Kind}
use Rattle.rdx_lang.specs.declared.pattern.Kind.TheVariants.{Any, Number, Natural, Integer, Real, Text, Boolean, Variable, Unmentioned}
use Rattle.rdx_term.specs.Spelling.{is_name}
use Rattle.rdx_term.specs.Tree.{Tree, integer, truth, text, symbol}
use Rattle.rdx_gen.specs.Generation.{any_integer, any_natural, any_truth, any_string, any_symbol, any_atom, any_of_kind}
use Rattle.rdx_gen.specs.Outcomes.{State, made, with_words}
use Rattle.rdx_gen.specs.Variables.{first_five, first_free, is_free, behind_prefix}
use Rattle.rdx_gen.specs.Words.{pick}
use Rattle.rdx_gen.proofs.WhatCame.{moved}

-- names and length names have what they had
pub record Steady (s z : State) : Type 0 where
  pub terms : z.terms ≡ s.terms
  pub lengths : z.lengths ≡ s.lengths

pub steady : (s : State) → Steady s s
steady s = record { terms = refl; lengths = refl }

-- ---- atoms

integers : (s z : State) (t : Tree) → any_integer s ≡ made t z → IsTrue (is_integer t) × Steady s z
integers s z t e = moved (λ u y. IsTrue (is_integer u) × Steady s y) (integer (pos (pick 21 s.words).0 -ℤ pos 10)) t _ z e (refl, record { terms = refl; lengths = refl })

naturals : (s z : State) (t : Tree) → any_natural s ≡ made t z → IsTrue (is_natural t) × Steady s z
naturals s z t e = moved (λ u y. IsTrue (is_natural u) × Steady s y) (integer (pos (pick 11 s.words).0)) t _ z e (refl, record { terms = refl; lengths = refl })

truths : (s z : State) (t : Tree) → any_truth s ≡ made t z → IsTrue (is_boolean t) × Steady s z
truths s z t e = moved (λ u y. IsTrue (is_boolean u) × Steady s y) (truth ((pick 2 s.words).0 == 1)) t _ z e (refl, record { terms = refl; lengths = refl })

strings : (s z : State) (t : Tree) → any_string s ≡ made t z → IsTrue (is_string t) × Steady s z
strings s z t e = moved (λ u y. IsTrue (is_string u) × Steady s y) (text (slice_index_or ([] ∷ codes "a" ∷ codes "ab" ∷ []) (pick 3 s.words).0 [])) t _ z e
    (refl, record { terms = refl; lengths = refl })

-- one of five symbols
pub symbols : (P : Tree → Type 0) (xs : List (List ℕ)) (s z : State) (t : Tree) → any_symbol xs s ≡ made t z
    → P (symbol (slice_index_or xs (pick 5 s.words).0 (codes "a"))) → P t × Steady s z
symbols P xs s z t e h = moved (λ u y. P u × Steady s y) (symbol (slice_index_or xs (pick 5 s.words).0 (codes "a"))) t _ z e (h, record { terms = refl; lengths = refl })

by_number : (a b c : Bool) (r z : State) (t : Tree) (w : State) → Steady r w
    → (if a then any_integer w else if b then any_symbol (first_five [] []) w else if c then any_truth w else any_string w) ≡ made t z → Steady r z
by_number true b c r z t w h e = let k = (integers w z t e).1 in record { terms = k.terms ∙ h.terms; lengths = k.lengths ∙ h.lengths }
by_number false true c r z t w h e = let k = (symbols (λ u. Unit {0}) (first_five [] []) w z t e tt).1 in record { terms = k.terms ∙ h.terms; lengths = k.lengths ∙ h.lengths }
by_number false false true r z t w h e = let k = (truths w z t e).1 in record { terms = k.terms ∙ h.terms; lengths = k.lengths ∙ h.lengths }
by_number false false false r z t w h e = let k = (strings w z t e).1 in record { terms = k.terms ∙ h.terms; lengths = k.lengths ∙ h.lengths }

pub atoms : (s z : State) (t : Tree) → any_atom s ≡ made t z → Steady s z
atoms s z t e = by_number _ _ _ s z t (with_words (pick 4 s.words).1 s) (record { terms = refl; lengths = refl }) e

-- a term of a kind
pub of_kinds : (L : Language) (us : List (List ℕ)) (k : Kind) (s z : State) (t : Tree)
    → (is_mentioned L (slice_index_or us (pick 5 s.words).0 (codes "a")) ≡ false) → any_of_kind us k s ≡ made t z → IsTrue (is_of_kind L k t) × Steady s z
of_kinds L us Any s z t h e = (refl, atoms s z t e)
of_kinds L us Number s z t h e = integers s z t e
of_kinds L us Natural s z t h e = naturals s z t e
of_kinds L us Integer s z t h e = integers s z t e
of_kinds L us Real s z t h e = integers s z t e
of_kinds L us Text s z t h e = strings s z t e
of_kinds L us Boolean s z t h e = truths s z t e
of_kinds L us Variable s z t h e = symbols (λ u. IsTrue (is_variable u)) (first_five [] []) s z t e refl
of_kinds L us Unmentioned s z t h e = symbols (λ u. IsTrue (is_unmentioned L u)) us s z t e (ap not h)

-- ---- free symbols

in_rest : (b : Bool) (x y : List ℕ) (ys zs : List (List ℕ)) → In x (if b then y ∷ ys else zs) → ((b ≡ true) × (x ≡ y)) ⊎ (In x ys ⊎ In x zs)
in_rest true x y ys zs (here e) = inl (refl, e)
in_rest true x y ys zs (there m) = inr (inl m)
in_rest false x y ys zs m = inr (inr m)

-- those that are found have what free ones behind the prefix have
all_found : (P : List ℕ → Type 0) (r : List ℕ) (xs : List (List ℕ)) → ((j : ℕ) → is_free xs (behind_prefix r j) ≡ true → P (behind_prefix r j))
    → (w i n : ℕ) (x : List ℕ) → In x (first_free r xs w i n) → P x
all_found P r xs f zero i n x m = elim m [ ]
all_found P r xs f (suc w) i zero x m = elim m [ ]
all_found P r xs f (suc w) i (suc n) x m =
    elim (in_rest (is_free xs (behind_prefix r i)) x (behind_prefix r i) (first_free r xs w (i + 1) n) (first_free r xs (suc w) (i + 1) n) m) [
      | inl k ↦ subst (λ y. P y) (sym k.1) (f i k.0)
      | inr k ↦ elim k [ inl l ↦ all_found P r xs f w (i + 1) n x l | inr l ↦ all_found P r xs f (suc w) (i + 1) n x l ]
    ]

text_in_list : (xs : List (List ℕ)) (i : ℕ) (d : List ℕ) → i < length xs → In (slice_index_or xs i d) xs
text_in_list [] i d h = absurd (omega arith)
text_in_list (x ∷ xs) zero d h = here refl
text_in_list (x ∷ xs) (suc i) d h = there (text_in_list xs i d (omega arith))

-- so has one of five that there are
pub free_chosen : (P : List ℕ → Type 0) (r : List ℕ) (xs : List (List ℕ)) (s : State) → ((j : ℕ) → is_free xs (behind_prefix r j) ≡ true → P (behind_prefix r j))
    → length (first_five r xs) ≡ 5 → P (slice_index_or (first_five r xs) (pick 5 s.words).0 (codes "a"))
free_chosen P r xs s f h =
    let b : (pcg32 s.words).0 % 5 < 5 = mod-lt (pcg32 s.words).0 (omega arith) in
    all_found P r xs f 5 0 (length xs + 6) _ (text_in_list (first_five r xs) (pick 5 s.words).0 (codes "a") (omega (arith, b, h)))

-- what stands behind a prefix begins with it
pub begins : (r y : List ℕ) → starts_with nat_eq (r ++ y) r ≡ true
begins r y = ap (λ z. bytes_eq r z) (take-append_seam r y) ∙ (bytes_decides r r).1 refl

none_of : (a b : Bool) → (a && not b) ≡ true → b ≡ false
none_of true true e = absurd cc
none_of true false e = refl
none_of false b e = absurd cc

pub free_not : (xs : List (List ℕ)) (x : List ℕ) → is_free xs x ≡ true → is_one_of xs x ≡ false
free_not xs x e = none_of (is_name x) (is_one_of xs x) e
