-- The alternative at a place.
use Rattle.std.proofs.Common.{◌≡◌, ℕ, true, false, Bool, List, [], ◌∷◌, Some, None, length, get_or, map, refl, sym, ◌∙◌, ap, subst, arith, ◌<◌, ◌≤◌}
use Rattle.std.proofs.lemmas.Option.{slice_get-map, slice_get_read, slice_get_past}
use Rattle.rdx_lang.specs.PatternView.{pattern_of, patterns_of}
use Rattle.rdx_lang.specs.declared.pattern.Pat as code_pattern
use Rattle.std.specs.Prelude.{◌↔◌, IsTrue, slice_get, option_map, not}
use Rattle.std.specs.Cmp.{first_so, second_so}
use Rattle.rdx_lang.specs.Lookup.{alternatives_among, alternatives_of}
use Rattle.rdx_lang.specs.Members.{In, here, there}
use Rattle.rdx_lang.specs.Patterns.{Pattern, Definition, Language}
use Rattle.rdx_lang.specs.References.{is_same, is_among, are_distinct}
use Rattle.rdx_lang.specs.WellFormed.{defined}
use Rattle.rdx_lang.specs.declared.pattern.Ref.{Ref}
use Rattle.rdx_lang.proofs.LookupLaws.{is_same-equal, equal-is_same, is_among-defined, not_true}
use Rattle.rdx_deriv.specs.Uses.{OneUnder, NonterminalMatch, NonterminalSplit}
use Rattle.rdx_deriv.specs.Inside.Chosen.{IsChosen}
use Rattle.rdx_deriv.specs.Derivations.{Goal, matched, split}
use Rattle.rdx_lang.specs.Bindings.{Binding, no_names}
use Rattle.rdx_term.specs.Tree.{Tree}
use Rattle.std.specs.Prelude.{if◌then◌else◌}

-- what is looked up is a definition, where something stands there
looked_up : (ds : List Definition) (x : Ref) (i : ℕ) (p : Pattern) → slice_get (alternatives_among ds x) i ≡ Some p → In (x, alternatives_among ds x) ds
looked_up [] x i p h = absurd cc
looked_up (d ∷ ds) x i p h = by_test (is_same x d.0) refl h (looked_up ds x i p)
  where
    by_test : (s : Bool) → is_same x d.0 ≡ s → slice_get (if s then d.1 else alternatives_among ds x) i ≡ Some p
        → (slice_get (alternatives_among ds x) i ≡ Some p → In (x, alternatives_among ds x) ds) → In (x, (if s then d.1 else alternatives_among ds x)) (d ∷ ds)
    by_test true e k f = let n : x ≡ d.0 = is_same-equal x d.0 e in here (λ j. (n j, d.1))
    by_test false e k f = there (f k)

-- each definition is looked up, where no two are of one nonterminal
each_looked_up : (ds : List Definition) (x : Ref) (all : List Pattern) → are_distinct (map (λ d. d.0) ds) ≡ true → In (x, all) ds → alternatives_among ds x ≡ all
each_looked_up [] x all h a = elim a [ ]
each_looked_up (d ∷ ds) x all h a = by_test (is_same x d.0) refl (each_looked_up ds x all rest) a
  where
    rest : are_distinct (map (λ c. c.0) ds) ≡ true
    rest = second_so (not (is_among d.0 (map (λ c. c.0) ds))) (are_distinct (map (λ c. c.0) ds)) h

    others : is_same x d.0 ≡ true → In (x, all) ds → ⊥
    others e i =
        let n : x ≡ d.0 = is_same-equal x d.0 e in
        let k : is_among d.0 (map (λ c. c.0) ds) ≡ true = subst (λ (y : Ref). is_among y (map (λ c. c.0) ds) ≡ true) n (is_among-defined x all ds i) in
        not_true (is_among d.0 (map (λ c. c.0) ds)) (first_so (not (is_among d.0 (map (λ c. c.0) ds))) (are_distinct (map (λ c. c.0) ds)) h) k

    by_test : (s : Bool) → is_same x d.0 ≡ s → (In (x, all) ds → alternatives_among ds x ≡ all) → In (x, all) (d ∷ ds)
        → (if s then d.1 else alternatives_among ds x) ≡ all
    by_test true e g (here f) = ap (λ (c : Definition). c.1) (sym f)
    by_test true e g (there i) = absurd (others e i)
    by_test false e g (here f) = absurd (let k : is_same x d.0 ≡ true = equal-is_same x d.0 (ap (λ (c : Definition). c.0) f) in cc)
    by_test false e g (there i) = g i

pub chosen_there : (L : Language) (x : Ref) (ks : List ℕ) (i : ℕ) (p : Pattern) → ks ≡ i ∷ [] → slice_get (alternatives_of L x) i ≡ Some p → IsChosen L x ks p
chosen_there L x ks i p e h = record {
  place = i;
  alternative = record { all = alternatives_of L x; defined = looked_up L.nonterminals x i p h; there = h };
  choice = e;
}

pub chosen_found : (L : Language) (x : Ref) (ks : List ℕ) (i : ℕ) (p : Pattern) → are_distinct (defined L) ≡ true → ks ≡ i ∷ [] → IsChosen L x ks p
    → slice_get (alternatives_of L x) i ≡ Some p
chosen_found L x ks i p d e c =
    let same : c.place ≡ i = (let f : c.place ∷ [] ≡ i ∷ [] = sym c.choice ∙ e in cc) in
    subst (λ (j : ℕ). slice_get (alternatives_of L x) j ≡ Some p) same
    (ap (λ (ps : List Pattern). slice_get ps c.place) (each_looked_up L.nonterminals x c.alternative.all d c.alternative.defined) ∙ c.alternative.there)

-- one alternative is chosen at most
pub one_chosen : (L : Language) (x : Ref) (ks : List ℕ) (p q : Pattern) → are_distinct (defined L) ≡ true → IsChosen L x ks p → IsChosen L x ks q → p ≡ q
one_chosen L x ks p q d c e =
    let f = chosen_found L x ks c.place q d c.choice e in let g = chosen_found L x ks c.place p d c.choice c in cc

single_list : (ks : List ℕ) → length ks ≡ 1 → ks ≡ get_or ks 0 0 ∷ []
single_list [] h = absurd (omega arith)
single_list (k ∷ []) h = refl
single_list (k ∷ j ∷ ks) h = absurd (omega arith)

module _ (L : Language) (x : Ref) (ks : List ℕ) (as' : List code_pattern.Pat) (e : patterns_of as' ≡ alternatives_of L x) (h : length ks ≡ 1) where
  pub chosen_some : (a : code_pattern.Pat) → get_or ks 0 0 < length as' → a ≡ get_or as' (get_or ks 0 0) a → IsChosen L x ks (pattern_of a)
  chosen_some a k f =
      chosen_there L x ks (get_or ks 0 0) (pattern_of a) (single_list ks h)
      (ap (λ (ps : List Pattern). slice_get ps (get_or ks 0 0)) (sym e) ∙ slice_get-map pattern_of as' (get_or ks 0 0)
      ∙ ap (option_map pattern_of) (slice_get_read as' (length as') (get_or ks 0 0) a refl k f))

  pub chosen_past : are_distinct (defined L) ≡ true → length as' ≤ get_or ks 0 0 → (p : Pattern) → IsChosen L x ks p → ⊥
  chosen_past d k p c =
      let f : slice_get (alternatives_of L x) (get_or ks 0 0) ≡ Some p = chosen_found L x ks (get_or ks 0 0) p d (single_list ks h) c in
      let g : slice_get (alternatives_of L x) (get_or ks 0 0) ≡ None =
      ap (λ (ps : List Pattern). slice_get ps (get_or ks 0 0)) (sym e) ∙ slice_get-map pattern_of as' (get_or ks 0 0)
      ∙ ap (option_map pattern_of) (slice_get_past as' (get_or ks 0 0) k) in
      cc

module _ (L : Language) (l : List ℕ) (x : Ref) (b : Binding) (ks : List ℕ) (gs : List Goal) where
  pub nt_match_some : (t : Tree) (r : Bool) (p : Pattern) → are_distinct (defined L) ≡ true → IsChosen L x ks p
      → (IsTrue r ↔ OneUnder (matched l p t) (λ c. b ≡ no_names) [] gs) → (IsTrue r ↔ NonterminalMatch L l x t b ks gs)
  nt_match_some t r p d c h = (λ k. record { place = c.place; pattern = p; alternative = c.alternative; choice = c.choice; one = h.0 k }, back)
    where
      back : NonterminalMatch L l x t b ks gs → IsTrue r
      back u =
          let e = one_chosen L x ks u.pattern p d (record { place = u.place; alternative = u.alternative; choice = u.choice }) c in
          h.1 (subst (λ (q : Pattern). OneUnder (matched l q t) (λ c. b ≡ no_names) [] gs) e u.one)

  pub nt_match_none : (t : Tree) → ((p : Pattern) → IsChosen L x ks p → ⊥) → (IsTrue false ↔ NonterminalMatch L l x t b ks gs)
  nt_match_none t none = (λ k. absurd cc, λ u. absurd (none u.pattern (record { place = u.place; alternative = u.alternative; choice = u.choice })))

  pub nt_split_some : (t C s : Tree) (r : Bool) (p : Pattern) → are_distinct (defined L) ≡ true → IsChosen L x ks p
      → (IsTrue r ↔ OneUnder (split l p t C s) (λ c. b ≡ no_names) [] gs) → (IsTrue r ↔ NonterminalSplit L l x t C s b ks gs)
  nt_split_some t C s r p d c h = (λ k. record { place = c.place; pattern = p; alternative = c.alternative; choice = c.choice; one = h.0 k }, back)
    where
      back : NonterminalSplit L l x t C s b ks gs → IsTrue r
      back u =
          let e = one_chosen L x ks u.pattern p d (record { place = u.place; alternative = u.alternative; choice = u.choice }) c in
          h.1 (subst (λ (q : Pattern). OneUnder (split l q t C s) (λ c. b ≡ no_names) [] gs) e u.one)

  pub nt_split_none : (t C s : Tree) → ((p : Pattern) → IsChosen L x ks p → ⊥) → (IsTrue false ↔ NonterminalSplit L l x t C s b ks gs)
  nt_split_none t C s none = (λ k. absurd cc, λ u. absurd (none u.pattern (record { place = u.place; alternative = u.alternative; choice = u.choice })))
