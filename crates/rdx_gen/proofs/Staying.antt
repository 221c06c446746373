-- What comes where some nonterminals may stand in one another comes where more may, too.
use Rattle.std.proofs.Common.{◌≡◌, ℕ, zero, suc, ◌+◌, ◌-◌, Bool, true, false, List, [], ◌∷◌, ◌++◌, length, map, Option, Some, None, refl, sym, ap, subst, add-zero, add-suc}
use Rattle.std.specs.Prelude.{slice_index_or}
use Rattle.rdx_term.specs.Tree.{Tree}
use Rattle.rdx_lang.specs.Lookup.{alternatives_of}
use Rattle.rdx_lang.specs.Patterns.{Pattern, wild, of_kind, except, prefix, hole, lit, nt, named, differ, in_hole, hide_hole, closed, seq, Items, nil, one, many, Language}
use Rattle.rdx_lang.specs.Rules.{is_one_of}
use Rattle.rdx_lang.specs.declared.pattern.Ref.{Ref}
use Rattle.rdx_gen.specs.Generation.{Setting, Inner, Notes, no_notes, term, items, context, around, turns, length_of, new_length, is_hollow, for_name, had_or_made, choices, by_alternative, inner_at}
use Rattle.rdx_gen.specs.Heights.{term_height, context_height, place_heights}
use Rattle.rdx_gen.specs.Outcomes.{Outcome, State, made, stopped, nothing, after, filled, found_for, listed, marked, one_of}

-- the second is what the first is, unless that is nothing
abbrev pub Stays : {A : Type 0} → Outcome A → Outcome A → Type 0
Stays (made x s) q = q ≡ made x s
Stays (stopped l w) q = q ≡ stopped l w
Stays nothing q = Unit {0}

pub stays-same : {A : Type 0} (r : Outcome A) → Stays r r
stays-same (made x s) = refl
stays-same (stopped l w) = refl
stays-same nothing = tt

pub stays-trans : {A : Type 0} (r q z : Outcome A) → Stays r q → Stays q z → Stays r z
stays-trans (made x s) q z h k = subst (λ y. Stays y z) h k
stays-trans (stopped l w) q z h k = subst (λ y. Stays y z) h k
stays-trans nothing q z h k = tt

stays-after : {A B : Type 0} (r q : Outcome A) (f g : A → State → Outcome B) → Stays r q → ((x : A) (s : State) → Stays (f x s) (g x s))
    → Stays (after r f) (after q g)
stays-after (made x s) q f g h k = subst (λ z. Stays (f x s) (after z g)) (sym h) (k x s)
stays-after (stopped l w) q f g h k = ap (λ z. after z g) h
stays-after nothing q f g h k = tt

stays-then : {A B : Type 0} (r : Outcome A) (f g : A → State → Outcome B) → ((x : A) (s : State) → Stays (f x s) (g x s))
    → Stays (after r f) (after r g)
stays-then r f g k = stays-after r r f g (stays-same r) k

stays-had : (o : Option Tree) (x : List ℕ) (r q : Outcome Tree) (s : State) → Stays r q → Stays (had_or_made o x r s) (had_or_made o x q s)
stays-had (Some t) x r q s h = refl
stays-had None x r q s h = stays-after r q _ _ h (λ t y. refl)

stays-name : (b : Bool) (x : List ℕ) (r q : Outcome Tree) (s : State) → Stays r q → Stays (for_name b x r s) (for_name b x q s)
stays-name true x r q s h = stays-had (found_for x s.terms) x r q s h
stays-name false x r q s h = h

stays-turns : (G H : State → Outcome Tree) → ((s : State) → Stays (G s) (H s)) → (n : ℕ) (found : List Tree) (s : State)
    → Stays (turns G n found s) (turns H n found s)
stays-turns G H h zero found s = refl
stays-turns G H h (suc n) found s = stays-after (G s) (H s) _ _ (h s) (λ t y. stays-turns G H h n (found ++ t ∷ []) y)

-- what nonterminals give stays
record InnerStays (N M : Inner) : Type 0 where
  terms : (x : Ref) (size : ℕ) (s : State) → Stays (N.as_term x size s) (M.as_term x size s)
  contexts : (x : Ref) (size : ℕ) (s : State) → Stays (N.as_context x size s) (M.as_context x size s)

module _ (S : Setting) (N M : Inner) (h : InnerStays N M) (o : Notes) (size : ℕ) where
  mutual
    terms-stay : (p : Pattern) (s : State) → Stays (term S N o size p s) (term S M o size p s)
    terms-stay wild s = stays-same (term S N o size wild s)
    terms-stay (of_kind k) s = stays-same (term S N o size (of_kind k) s)
    terms-stay (except rs) s = stays-same (term S N o size (except rs) s)
    terms-stay (prefix r) s = stays-same (term S N o size (prefix r) s)
    terms-stay hole s = refl
    terms-stay (lit u) s = refl
    terms-stay (nt x) s = h.terms x size s
    terms-stay (named x q) s = stays-name (is_one_of o.again x) x (term S N o size q s) (term S M o size q s) s (terms-stay q s)
    terms-stay (differ x q) s = terms-stay q s
    terms-stay (in_hole q r) s =
        stays-after (context S N o size q s) (context S M o size q s) _ _ (contexts-stay q s)
        (λ C y. stays-after (term S N o size r y) (term S M o size r y) _ _ (terms-stay r y) (λ t z. stays-same (filled C t z)))
    terms-stay (hide_hole q) s = terms-stay q s
    terms-stay (closed q) s = tt
    terms-stay (seq ps) s = stays-after (items S N o size ps [] s) (items S M o size ps [] s) _ _ (items-stay ps [] s)
        (λ ts y. stays-same (listed ts y))

    items-stay : (ps : Items) (found : List Tree) (s : State) → Stays (items S N o size ps found s) (items S M o size ps found s)
    items-stay nil found s = refl
    items-stay (one p ps) found s =
        stays-after (term S N o size p s) (term S M o size p s) _ _ (terms-stay p s) (λ t y. items-stay ps (found ++ t ∷ []) y)
    items-stay (many p x ps) found s =
        stays-then (length_of o (term_height S.known p) x size s) _ _
        (λ k y. stays-after (turns (λ z. term S N o size p z) k found y) (turns (λ z. term S M o size p z) k found y) _ _
        (stays-turns _ _ (λ z. terms-stay p z) k found y) (λ more z. items-stay ps more z))

    contexts-stay : (p : Pattern) (s : State) → Stays (context S N o size p s) (context S M o size p s)
    contexts-stay wild s = tt
    contexts-stay (of_kind k) s = tt
    contexts-stay (except rs) s = tt
    contexts-stay (prefix r) s = tt
    contexts-stay hole s = refl
    contexts-stay (lit u) s = tt
    contexts-stay (nt x) s = h.contexts x size s
    contexts-stay (named x q) s = contexts-stay q s
    contexts-stay (differ x q) s = contexts-stay q s
    contexts-stay (in_hole q r) s =
        stays-after (context S N o size q s) (context S M o size q s) _ _ (contexts-stay q s)
        (λ C y. stays-after (context S N o size r y) (context S M o size r y) _ _ (contexts-stay r y) (λ D z. stays-same (filled C D z)))
    contexts-stay (hide_hole q) s = tt
    contexts-stay (closed q) s = tt
    contexts-stay (seq ps) s =
        stays-then (one_of (choices size (place_heights S.known (Some 0) ps)) s) _ _
        (λ k y. around-stays ps k [] y)

    around-stays : (ps : Items) (k : ℕ) (found : List Tree) (s : State) → Stays (around S N o size ps k found s) (around S M o size ps k found s)
    around-stays nil k found s = tt
    around-stays (one p ps) zero found s =
        stays-after (context S N o size p s) (context S M o size p s) _ _ (contexts-stay p s)
        (λ C y. stays-after (items S N o size ps (found ++ C ∷ []) y) (items S M o size ps (found ++ C ∷ []) y) _ _ (items-stay ps (found ++ C ∷ []) y)
        (λ ts z. stays-same (marked (length found) ts z)))
    around-stays (one p ps) (suc k) found s =
        stays-after (term S N o size p s) (term S M o size p s) _ _ (terms-stay p s) (λ t y. around-stays ps k (found ++ t ∷ []) y)
    around-stays (many p x ps) zero found s =
        let G : State → Outcome Tree = λ z. term S N o size p z in
        let H : State → Outcome Tree = λ z. term S M o size p z in
        let b : Bool = is_hollow o (term_height S.known p) x in
        stays-then (new_length b size s) _ _
        (λ k y. stays-after (turns G k found y) (turns H k found y) _ _ (stays-turns G H (λ z. terms-stay p z) k found y)
        (λ before y2. stays-after (context S N o size p y2) (context S M o size p y2) _ _ (contexts-stay p y2)
        (λ C y3. stays-then (new_length b size y3) _ _
        (λ m y4. stays-after (turns G m (before ++ C ∷ []) y4) (turns H m (before ++ C ∷ []) y4) _ _
        (stays-turns G H (λ z. terms-stay p z) m (before ++ C ∷ []) y4)
        (λ behind y5. stays-after (items S N o size ps behind y5) (items S M o size ps behind y5) _ _ (items-stay ps behind y5)
        (λ ts y6. stays-same (marked (length before) ts y6)))))))
    around-stays (many p x ps) (suc k) found s =
        stays-then (length_of o (term_height S.known p) x size s) _ _
        (λ m y. stays-after (turns (λ z. term S N o size p z) m found y) (turns (λ z. term S M o size p z) m found y) _ _
        (stays-turns _ _ (λ z. terms-stay p z) m found y) (λ more z. around-stays ps k more z))

-- what an alternative gives stays where what its pattern gives does
stays-alternative : (ps : List Pattern) (hs : List (Option ℕ)) (size : ℕ) (F G : Pattern → State → Outcome Tree) (s : State)
    → ((p : Pattern) (y : State) → Stays (F p y) (G p y)) → Stays (by_alternative ps hs size F s) (by_alternative ps hs size G s)
stays-alternative ps hs size F G s h =
    stays-then (one_of (choices size hs) s) _ _ (λ k y. h (slice_index_or ps k wild) y)

-- with one more nonterminal in one another
stays-next : (L : Language) (S : Setting) (n : ℕ) → InnerStays (inner_at L S n) (inner_at L S (suc n))
unfolding inner_at
stays-next L S zero = record { terms = λ x size s. tt; contexts = λ x size s. tt }
stays-next L S (suc n) = record {
  terms = λ x size s. stays-alternative (alternatives_of L x) (map (term_height S.known) (alternatives_of L x)) size _ _ s
      (λ p y. terms-stay S (inner_at L S n) (inner_at L S (suc n)) (stays-next L S n) no_notes (size - 1) p y);
  contexts = λ x size s. stays-alternative (alternatives_of L x) (map (context_height S.known) (alternatives_of L x)) size _ _ s
      (λ p y. contexts-stay S (inner_at L S n) (inner_at L S (suc n)) (stays-next L S n) no_notes (size - 1) p y);
}

-- so what comes of a pattern stays with one more, and with any number more
term-next : (L : Language) (S : Setting) (o : Notes) (size : ℕ) (p : Pattern) (s : State) (n : ℕ)
    → Stays (term S (inner_at L S n) o size p s) (term S (inner_at L S (suc n)) o size p s)
term-next L S o size p s n = terms-stay S (inner_at L S n) (inner_at L S (suc n)) (stays-next L S n) o size p s

pub term-stays : (L : Language) (S : Setting) (o : Notes) (size : ℕ) (p : Pattern) (s : State) (n k : ℕ)
    → Stays (term S (inner_at L S n) o size p s) (term S (inner_at L S (n + k)) o size p s)
term-stays L S o size p s n zero = rw add-zero (stays-same (term S (inner_at L S n) o size p s))
term-stays L S o size p s n (suc k) =
    rw add-suc (stays-trans (term S (inner_at L S n) o size p s) (term S (inner_at L S (n + k)) o size p s)
    (term S (inner_at L S (suc (n + k))) o size p s)
    (term-stays L S o size p s n k) (term-next L S o size p s (n + k)))
