-- Alternatives of a nonterminal that are tried one after the other.
use Rattle.std.proofs.Common.{◌≡◌, ℕ, ◌+◌, ◌<◌, ◌≤◌, List, [], ◌∷◌, Some, length, drop, get_or, map, refl, sym, ◌∙◌, ap, subst}
use Rattle.std.specs.Prelude.{slice_get, option_map}
use Rattle.std.proofs.lemmas.Option.{slice_get-map, slice_get_read}
use Rattle.rdx_term.specs.Tree.{Tree}
use Rattle.rdx_lang.specs.Bindings.{Binding, Pair, Mismatch, bound_names, no_names}
use Rattle.rdx_lang.specs.Lookup.{alternatives_of}
use Rattle.rdx_lang.specs.Members.{In, here, there}
use Rattle.rdx_lang.specs.PatternView.{pattern_of, patterns_of}
use Rattle.rdx_lang.specs.Patterns.{Pattern, nt, Language}
use Rattle.rdx_lang.specs.Rules.{Match, Split, AreAlternatives}
use Rattle.rdx_lang.specs.declared.pattern.Pat as code_pattern
use Rattle.rdx_lang.specs.declared.pattern.Ref.{Ref}
use Rattle.rdx_lang.proofs.NameLaws.{match-names, split-names}
use Rattle.rdx_lang.proofs.Rest.{rest_at, rest_none}
use Rattle.rdx_lang.proofs.RuleSteps.{SomeMatch, SomeSplit, nt_inside, nt_splits}
use Rattle.rdx_opened.proofs.Closing.{no_pairs}
use Rattle.rdx_opened.proofs.Made.{opened_plain}
use Rattle.rdx_opened.proofs.OpenedPlain.{opened_match-plain, opened_split-plain}
use Rattle.rdx_why.specs.Inside.Forms.{BindsNothing}

-- one that is left is behind the next one, where R does not hold of this
pub left_next : {A B : Type 0} (f : A → B) (R : B → Type 0) (xs : List A) (i : ℕ) (x : A) → i < length xs → x ≡ get_or xs i x → (R (f x) → ⊥)
    → ((q : B) × In q (map f (drop i xs)) × R q) → (q : B) × In q (map f (drop (i + 1) xs)) × R q
left_next {B = B} f R xs i x h e none w = behind (subst (In w.0) (rest_at f xs i x h e) w.1) w.2
  where
    behind : {q : B} → In q (f x ∷ map f (drop (i + 1) xs)) → R q → (q : B) × In q (map f (drop (i + 1) xs)) × R q
    behind (here k) r = absurd (none (subst R k r))
    behind {q = q} (there j) r = (q, j, r)

-- behind the last one there is none
pub left_none : {A B : Type 0} (f : A → B) (R : B → Type 0) (xs : List A) (i : ℕ) → length xs ≤ i → ((q : B) × In q (map f (drop i xs)) × R q) → ⊥
left_none {B = B} f R xs i h w = nowhere (subst (In w.0) (rest_none f xs i h) w.1)
  where
    nowhere : {q : B} → In q [] → ⊥
    nowhere j = elim j [ ]

module _ (L : Language) (x : Ref) where
  -- one of the alternatives of a nonterminal that matches does
  pub one_matches : (ps : List Pattern) (t : Tree) (b : Binding) → AreAlternatives L x ps → Match L (nt x) t b
      → (q : Pattern) × In q ps × SomeMatch L q t
  one_matches ps t b a h =
      let n = (nt_inside h).0 in (n.pattern, (a n.pattern).1 n.alternative, record { binding = n.binding; matched = n.matched })

  -- and so it is where it splits a term
  pub one_splits : (ps : List Pattern) (t C s : Tree) (b : Binding) → AreAlternatives L x ps → Split L (nt x) t C s b
      → (q : Pattern) × In q ps × SomeSplit L q t C s
  one_splits ps t C s b a h =
      let n = (nt_splits h).0 in (n.pattern, (a n.pattern).1 n.alternative, record { binding = n.binding; split = n.split })

  -- the alternative at a place
  pub alternative_there : (as' : List code_pattern.Pat) → patterns_of as' ≡ alternatives_of L x → (i : ℕ) (a : code_pattern.Pat) → i < length as'
      → a ≡ get_or as' i a → slice_get (alternatives_of L x) i ≡ Some (pattern_of a)
  alternative_there as' e i a k f =
      ap (λ (ps : List Pattern). slice_get ps i) (sym e) ∙ slice_get-map pattern_of as' i
      ∙ ap (option_map pattern_of) (slice_get_read as' (length as') i a refl k f)

-- ---- what is sure

abbrev of_both : List Pair → List Mismatch → Binding
of_both ps ds = record { pairs = ps; differs = ds }

empty : (b : Binding) → bound_names b ≡ [] → b.differs ≡ [] → b ≡ no_names
empty b n d = ap (λ (ps : List Pair). of_both ps b.differs) (no_pairs b n) ∙ ap (λ (ds : List Mismatch). of_both [] ds) d

-- a pattern that binds nothing binds nothing where it matches
pub nothing_matched : {L : Language} {p : Pattern} {t : Tree} {b : Binding} → BindsNothing p → Match L p t b → b ≡ no_names
nothing_matched {p = p} {b = b} n m = empty b (match-names m ∙ n.names) (opened_match-plain (opened_plain p n.no_differ).opens m)

-- and where it splits
pub nothing_split : {L : Language} {p : Pattern} {t C s : Tree} {b : Binding} → BindsNothing p → Split L p t C s b → b ≡ no_names
nothing_split {p = p} {b = b} n m = empty b (split-names m ∙ n.names) (opened_split-plain (opened_plain p n.no_differ).opens m)

-- N holds of all from a place on that is left, where it does of what stands there and of all behind it
pub all_next : {A B : Type 0} (f : A → B) (N : B → Type 0) (xs : List A) (i n : ℕ) (x : A) → i < length xs → x ≡ get_or xs i x → i + 1 ≡ n → N (f x)
    → ((q : B) → In q (map f (drop n xs)) → N q) → (q : B) → In q (map f (drop i xs)) → N q
all_next {B = B} f N xs i n x h e next first rest q j = at_once (subst (In q) (rest_at f xs i x h e) j)
  where
    at_once : In q (f x ∷ map f (drop (i + 1) xs)) → N q
    at_once (here k) = subst N (sym k) first
    at_once (there k) = rest q (subst (λ (m : ℕ). In q (map f (drop m xs))) next k)

-- what is left is at the next place, where R holds of none behind this
pub last_left : {A B : Type 0} (f : A → B) (R : B → Type 0) (xs : List A) (i n : ℕ) (x : A) → i < length xs → x ≡ get_or xs i x → i + 1 ≡ n
    → ((q : B) → In q (map f (drop n xs)) → R q → ⊥) → ((q : B) × In q (map f (drop i xs)) × R q) → R (f x)
last_left {B = B} f R xs i n x h e last none w = at_once (subst (In w.0) (rest_at f xs i x h e) w.1) w.2
  where
    at_once : {q : B} → In q (f x ∷ map f (drop (i + 1) xs)) → R q → R (f x)
    at_once (here k) r = subst R k r
    at_once {q = q} (there j) r = absurd (none q (subst (λ m. In q (map f (drop m xs))) last j) r)
