-- What comes of alternatives fits their nonterminals, however many stand in one another.
use Rattle.std.proofs.Common.{arith, inl, inr, ◌≡◌, ℕ, zero, suc, ◌+◌, ◌-◌, ◌<◌, ◌%◌, Bool, true, false, List, [], ◌∷◌, length, map, refl, sym, ap, ◌∙◌, subst, Option, None, Some, true≢false}
use Rattle.std.proofs.Math.Nat.{mod-lt}
use Rattle.std.proofs.lemmas.Bool.{and_parts}
use Rattle.std.specs.List.{list_all}
use Rattle.std.specs.Prelude.{◌==◌, if◌then◌else◌, slice_index, slice_index_or, codes}
use Rattle.rand_pcg.specs.Lcg.{Lcg}
use Rattle.rand_pcg.specs.Pcg.{pcg32}
use Rattle.rdx_lang.specs.Bindings.{no_names}
use Rattle.rdx_lang.specs.Depths.{uses, all_agree, is_shallow, has_one_depth_each, closed_parts_fit, has_fitting_names}
use Rattle.rdx_lang.specs.Literals.{is_mentioned}
use Rattle.rdx_lang.specs.Lookup.{alternatives_of}
use Rattle.rdx_lang.specs.Members.{In, here, there}
use Rattle.rdx_lang.specs.Patterns.{Pattern, wild, of_kind, except, prefix, hole, lit, nt, named, differ, in_hole, hide_hole, closed, seq, Items, nil, one, many, Language}
use Rattle.rdx_lang.specs.Rules.{match_nt, split_nt, IsAlternative}
use Rattle.rdx_lang.specs.WellFormed.{has_known_nonterminals, defined, is_well_formed_in}
use Rattle.rdx_lang.specs.declared.pattern.Ref.{Ref}
use Rattle.rdx_lang.proofs.LookupLaws.{looked_up-alternative}
use Rattle.rdx_lang.proofs.MemberLaws.{append-left, append-right}
use Rattle.rdx_gen.specs.Generated.{makes}
use Rattle.rdx_gen.specs.Generation.{Setting, term, context, inner_at, choices, choices_from, is_choice, no_notes, setting_of}
use Rattle.rdx_gen.specs.Heights.{least, term_height, context_height, known_in}
use Rattle.rdx_gen.specs.Laws.{Reaches, at_once, behind}
use Rattle.rdx_gen.specs.Literals.{language_literals}
use Rattle.rdx_gen.specs.Matching.{HasSymbols, HaveSymbols, IsCounted, TermsMatch, ContextsSplit, GeneratedMatches}
use Rattle.rdx_gen.specs.NameRules.{or_else, first_in_alternative, Place, places_of, mentioned, items_mentioned, reached, first_broken, first_in_definitions, notes_of}
use Rattle.rdx_gen.specs.Outcomes.{State, made, one_of, found_for}
use Rattle.rdx_gen.specs.Variables.{first_five, behind_prefix}
use Rattle.rdx_gen.specs.Words.{pick}
use Rattle.rdx_gen.proofs.AtomsFit.{Steady, free_chosen, free_not}
use Rattle.rdx_gen.proofs.FiveSymbols.{five}
use Rattle.rdx_gen.proofs.Mentions.{in_language}
use Rattle.rdx_gen.proofs.NamesKept.{Later, Kept}
use Rattle.rdx_gen.proofs.Reaching.{none_breaks}
use Rattle.rdx_gen.proofs.RulesHold.{is_length_name, rules_hold, part_whole, part_alone, rules_alone}
use Rattle.rdx_gen.proofs.SequenceNames.{no_prefix}
use Rattle.rdx_gen.proofs.TermsFit.{IsMakeable, AreMakeable, Unchanged, GivesFitting, one_steady, terms_fit, contexts_fit}
use Rattle.rdx_gen.proofs.WhatCame.{came, made_is, none_is_some}

-- ---- what is chosen

nth_in : (xs : List ℕ) (i : ℕ) → i < length xs → In (slice_index xs i) xs
nth_in [] i h = absurd (omega arith)
nth_in (x ∷ xs) zero h = here refl
nth_in (x ∷ xs) (suc i) h = there (nth_in xs i (omega arith))

pattern_in_list : (xs : List Pattern) (i : ℕ) → i < length xs → In (slice_index_or xs i wild) xs
pattern_in_list [] i h = absurd (omega arith)
pattern_in_list (x ∷ xs) zero h = here refl
pattern_in_list (x ∷ xs) (suc i) h = there (pattern_in_list xs i (omega arith))

abbrev either : Bool → ℕ × Lcg → ℕ × Lcg → ℕ × Lcg
either b x y = if b then x else y

below : (b : Bool) (n : ℕ) (w : Lcg) → 0 < n → (either b (0, w) ((pcg32 w).0 % n, (pcg32 w).1)).0 < n
below true n w h = h
below false n w h = mod-lt (pcg32 w).0 h

chosen_in : (ks : List ℕ) (s z : State) (k : ℕ) → one_of ks s ≡ made k z → In k ks
chosen_in [] s z k e = absurd cc
chosen_in (j ∷ ks) s z k e = subst (λ (i : ℕ). In i (j ∷ ks)) (made_is (slice_index (j ∷ ks) (pick (length (j ∷ ks)) s.words).0) k _ z e)
    (nth_in (j ∷ ks) (pick (length (j ∷ ks)) s.words).0 (below (length (j ∷ ks) == 1) (length (j ∷ ks)) s.words (omega arith)))

first_within : (i k n : ℕ) (ks : List ℕ) → (In k ks → k < i + 1 + n) → In k (i ∷ ks) → k < i + (n + 1)
first_within i k n ks f (here e) = omega (arith, e)
first_within i k n ks f (there m) = let j = f m in omega (arith, j)

test_within : (b : Bool) (i k n : ℕ) (ks : List ℕ) → (In k ks → k < i + 1 + n) → In k (if b then i ∷ ks else ks) → k < i + (n + 1)
test_within true i k n ks f m = first_within i k n ks f m
test_within false i k n ks f m = let j = f m in omega (arith, j)

within : (size : ℕ) (l : Option ℕ) (i : ℕ) (hs : List (Option ℕ)) (k : ℕ) → In k (choices_from size l i hs) → k < i + length hs
within size l i [] k m = elim m [ ]
within size l i (h ∷ hs) k m =
    let j : k < i + (length hs + 1) = test_within (is_choice size l h) i k (length hs) (choices_from size l (i + 1) hs) (λ n. within size l (i + 1) hs k n) m in
    omega (arith, j)

lengths : (f : Pattern → Option ℕ) (ps : List Pattern) → length (map f ps) ≡ length ps
lengths f [] = refl
lengths f (p ∷ ps) = ap suc (lengths f ps)

-- what is chosen is an alternative
chosen_alternative : (L : Language) (x : Ref) (f : Pattern → Option ℕ) (size : ℕ) (s z : State) (k : ℕ)
    → one_of (choices size (map f (alternatives_of L x))) s ≡ made k z → IsAlternative L x (slice_index_or (alternatives_of L x) k wild)
chosen_alternative L x f size s z k e =
    let hs : List (Option ℕ) = map f (alternatives_of L x) in
    let m : k < 0 + length hs = within size (least hs) 0 hs k (chosen_in (choices size hs) s z k e) in
    let l : length hs ≡ length (alternatives_of L x) = lengths f (alternatives_of L x) in
    looked_up-alternative L x (slice_index_or (alternatives_of L x) k wild) (pattern_in_list (alternatives_of L x) k (omega (arith, m, l)))

-- ---- symbols

-- the symbols that are given are none of the literals
unmentioned : (L : Language) → length (first_five [] (language_literals L)) ≡ 5 → (s : State)
    → is_mentioned L (slice_index_or (first_five [] (language_literals L)) (pick 5 s.words).0 (codes "a")) ≡ false
unmentioned L h s = free_chosen (λ x. is_mentioned L x ≡ false) [] (language_literals L) s
    (λ j f. sym (in_language (behind_prefix [] j) L) ∙ free_not (language_literals L) (behind_prefix [] j) f) h

symbols_so : (L : Language) (S : Setting) → S.unmentioned ≡ first_five [] (language_literals L) → IsCounted L → (s : State)
    → is_mentioned L (slice_index_or S.unmentioned (pick 5 s.words).0 (codes "a")) ≡ false
symbols_so L S q c s = ap (λ (us : List (List ℕ)). is_mentioned L (slice_index_or us (pick 5 s.words).0 (codes "a"))) q
    ∙ unmentioned L (five [] (language_literals L) no_prefix c.literals) s

mutual
  makeable : (R : Ref → Type 0) (p : Pattern) → HasSymbols p → ((y : Ref) → In y (mentioned p) → R y) → IsMakeable R p
  makeable R wild h f = tt
  makeable R (of_kind k) h f = tt
  makeable R (except rs) h f = h
  makeable R (prefix r) h f = h
  makeable R hole h f = tt
  makeable R (lit u) h f = tt
  makeable R (nt x) h f = f x (here refl)
  makeable R (named x q) h f = makeable R q h f
  makeable R (differ x q) h f = makeable R q h f
  makeable R (in_hole p q) h f = (makeable R p h.0 (λ y i. f y (append-left (mentioned p) (mentioned q) y i)), makeable R q h.1 (λ y i. f y (append-right (mentioned p) (mentioned q) y i)))
  makeable R (hide_hole q) h f = makeable R q h f
  makeable R (closed q) h f = tt
  makeable R (seq ps) h f = all_makeable R ps h f

  all_makeable : (R : Ref → Type 0) (ps : Items) → HaveSymbols ps → ((y : Ref) → In y (items_mentioned ps) → R y) → AreMakeable R ps
  all_makeable R nil h f = tt
  all_makeable R (one p ps) h f =
      (makeable R p h.0 (λ y i. f y (append-left (mentioned p) (items_mentioned ps) y i)), all_makeable R ps h.1 (λ y i. f y (append-right (mentioned p) (items_mentioned ps) y i)))
  all_makeable R (many p x ps) h f =
      (makeable R p h.0 (λ y i. f y (append-left (mentioned p) (items_mentioned ps) y i)), all_makeable R ps h.1 (λ y i. f y (append-right (mentioned p) (items_mentioned ps) y i)))

-- ---- nonterminals

-- no name comes again
abbrev no_lengths : List ℕ → Bool
no_lengths x = false

nothing_kept : (L : Language) (all : List Place) (s : State) → Kept L no_lengths no_notes all s
nothing_kept L all s x u a e v i n = absurd (true≢false (sym a))

-- an alternative changes nothing
unchanged : (us : List Place) (r s z : State) → Steady r s → Later no_notes us s z → Unchanged r z
unchanged us r s z h l = record {
  terms = λ x. elim (l.changed x) [ inl e ↦ e ∙ ap (found_for x) h.terms | inr k ↦ absurd (true≢false (sym k.0)) ];
  lengths = λ x k e. l.lengths x k (ap (found_for x) h.lengths ∙ e);
}

module _ (L : Language) (S : Setting) (q : S.unmentioned ≡ first_five [] (language_literals L)) (c : IsCounted L) (p : Pattern)
    (once : (x : Ref) (a : Pattern) → Reaches L p x → IsAlternative L x a → first_in_alternative (places_of a) (places_of a) ≡ None) where
  -- alternatives of nonterminals that are reached
  alternative_makeable : (x : Ref) (a : Pattern) → Reaches L p x → IsAlternative L x a → IsMakeable (Reaches L p) a
  alternative_makeable x a h i = makeable (Reaches L p) a (c.alternatives x a i) (λ y j. behind h i j)

  pub gives_fitting : (n : ℕ) → GivesFitting L S.unmentioned (inner_at L S n) (Reaches L p)
  unfolding inner_at
  gives_fitting zero = record { symbols = symbols_so L S q c; terms = λ x h size s z t e. absurd cc; contexts = λ x h size s z C e. absurd cc }
  gives_fitting (suc n) = record {
    symbols = symbols_so L S q c;
    terms = λ x h size s z t e.
        let ks = choices size (map (term_height S.known) (alternatives_of L x)) in
        let w = came (one_of ks s) (λ k y. term S (inner_at L S n) no_notes (size - 1) (slice_index_or (alternatives_of L x) k wild) y) t z e in
        let a = slice_index_or (alternatives_of L x) w.value wild in
        let i = chosen_alternative L x (term_height S.known) size s w.state w.value w.first in
        let m = terms_fit L no_lengths no_notes (places_of a) (rules_alone no_lengths a (once x a h i)) S (inner_at L S n) (size - 1) (Reaches L p) (gives_fitting n)
        a false false w.state z t (alternative_makeable x a h i) (part_alone a (once x a h i))
        (nothing_kept L (places_of a) w.state) w.second in
        (match_nt {c = m.binding} i m.fit, unchanged (places_of a) s w.state z (one_steady ks w.value s w.state w.first) m.later);
    contexts = λ x h size s z C e.
        let ks = choices size (map (context_height S.known) (alternatives_of L x)) in
        let w = came (one_of ks s) (λ k y. context S (inner_at L S n) no_notes (size - 1) (slice_index_or (alternatives_of L x) k wild) y) C z e in
        let a = slice_index_or (alternatives_of L x) w.value wild in
        let i = chosen_alternative L x (context_height S.known) size s w.state w.value w.first in
        let m = contexts_fit L no_lengths no_notes (places_of a) (rules_alone no_lengths a (once x a h i)) S (inner_at L S n) (size - 1) (Reaches L p) (gives_fitting n)
        a false false w.state z C (alternative_makeable x a h i) (part_alone a (once x a h i))
        (λ y j. refl) (nothing_kept L (places_of a) w.state) w.second in (
          record { context = m.fit.context; binding = no_names; splits = λ u. split_nt {c = m.fit.binding} i (m.fit.splits u) },
          refl,
          unchanged (places_of a) s w.state z (one_steady ks w.value s w.state w.first) m.later,
        );
  }

-- ---- the laws

pub terms_match : TermsMatch
terms_match L n size p s z t c h o e =
    let m = terms_fit L no_lengths no_notes (places_of p) (rules_alone no_lengths p o.pattern) (setting_of L) (inner_at L (setting_of L) n) size (Reaches L p)
    (gives_fitting L (setting_of L) refl c p o.alternatives n) p false false s z t (makeable (Reaches L p) p h (λ y i. at_once i))
    (part_alone p o.pattern) (nothing_kept L (places_of p) s) e in
    record { binding = m.binding; match = m.fit }

pub contexts_split : ContextsSplit
contexts_split L n size p s z C c h o e =
    (contexts_fit L no_lengths no_notes (places_of p) (rules_alone no_lengths p o.pattern) (setting_of L) (inner_at L (setting_of L) n) size (Reaches L p)
    (gives_fitting L (setting_of L) refl c p o.alternatives n) p false false s z C (makeable (Reaches L p) p h (λ y i. at_once i))
    (part_alone p o.pattern) (λ y i. refl) (nothing_kept L (places_of p) s) e).fit

-- the names of a well-formed pattern have one kind each
names_agree : (L : Language) (p : Pattern) → is_well_formed_in L p ≡ true → all_agree (uses 0 p) ≡ true
names_agree L p h =
    let a = and_parts (has_known_nonterminals (defined L) p) (has_fitting_names p) h in
    let b = and_parts (has_one_depth_each p) (closed_parts_fit p) a.1 in
    (and_parts (all_agree (uses 0 p)) (list_all is_shallow (uses 0 p)) b.0).0

none_first : (a b : Option (List ℕ)) → or_else a b ≡ None → a ≡ None
none_first None b e = refl
none_first (Some x) b e = absurd cc

pub generated_matches : GeneratedMatches
generated_matches L p size w v t c h f (makes n s b g e) =
    let good = none_first (first_broken (places_of p) (places_of p)) (first_in_definitions (reached L p) L.nonterminals) b in
    let m = terms_fit L (is_length_name (places_of p)) (notes_of (known_in L) p) (places_of p) (rules_hold (known_in L) p (names_agree L p f) good)
    (setting_of L) (inner_at L (setting_of L) n) size (Reaches L p) (gives_fitting L (setting_of L) refl c p (λ x a i j. none_breaks L p a x b i j) n) p false false _ s t
    (makeable (Reaches L p) p h (λ y i. at_once i)) (part_whole (known_in L) p) (λ x u a d u' i k. none_is_some u _ d) e in
    record { binding = m.binding; match = m.fit }
