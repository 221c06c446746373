-- What is looked for in a list, from its first member on.
use Rattle.std.proofs.Common.{◌≡◌, ◌+◌, ◌<◌, ◌≤◌, ℕ, true, false, List, [], ◌∷◌, drop, get_or, length, map, refl, subst}
use Rattle.rdx_term.specs.Tree.{Tree}
use Rattle.rdx_lang.specs.Bindings.{Binding}
use Rattle.rdx_lang.specs.Listing.{IsSeen, Matches}
use Rattle.rdx_lang.specs.Members.{In, here, there}
use Rattle.rdx_lang.specs.Patterns.{Pattern, Language}
use Rattle.rdx_lang.specs.Programs.{Program}
use Rattle.rdx_lang.specs.Rules.{Match}
use Rattle.rdx_lang.specs.Templates.{Template}
use Rattle.rdx_lang.proofs.Rest.{rest_at, rest_none}
use Rattle.rdx_eval.specs.Answers.{value}
use Rattle.rdx_eval.specs.Heights.{calls_at, height}
use Rattle.rdx_eval.specs.Instantiation.{Makes}
use Rattle.rdx_eval.specs.Judgements.{are_some}
use Rattle.rdx_answer.specs.Inside.Explaining.{HasGiven, HasMatched, HasSource, IsMatched}

-- what is not the first member is behind it
pub passed : {A : Type 0} (R : A → Type 0) (y x : A) (rest xs : List A) → rest ≡ x ∷ xs → (R x → ⊥) → In y rest → R y → In y xs
passed {A} R y x rest xs e n i r = by_place (subst (λ (zs : List A). In y zs) e i)
  where
    by_place : In y (x ∷ xs) → In y xs
    by_place (here q) = absurd (n (subst R q r))
    by_place (there j) = j

-- nothing is in a list without members
nothing_in : {A : Type 0} (y : A) (xs : List A) → xs ≡ [] → In y xs → ⊥
nothing_in {A} y xs e i = elim (subst (λ (zs : List A). In y zs) e i) [ ]

module _ {A : Type 0} (xs : List A) (i : ℕ) where
  -- outputs that the pattern matches
  pub matched_next : (L : Language) (p : Pattern) (f : A → Tree) (x : A) → i < length xs → x ≡ get_or xs i x
      → ((b : Binding) → IsSeen (Match L p (f x)) b → ⊥) → HasMatched L p (map f (drop i xs)) → HasMatched L p (map f (drop (i + 1) xs))
  matched_next L p f x h e n m =
      let b : Binding = m.is_matched.binding in
      let g = m.is_matched.is_given in
      record {
        given = m.given;
        is_matched = record {
          binding = b;
          is_given = record {
            among = passed (λ (t : Tree). IsSeen (Match L p t) b) m.given (f x) _ _ (rest_at f xs i x h e) (n b) g.among g.seen;
            seen = g.seen;
          };
        };
      }

  pub matched_none : (L : Language) (p : Pattern) (f : A → Tree) → length xs ≤ i → HasMatched L p (map f (drop i xs)) → ⊥
  matched_none L p f h m = nothing_in m.given _ (rest_none f xs i h) m.is_matched.is_given.among

  -- outputs by which it binds this
  pub given_next : (L : Language) (p : Pattern) (f : A → Tree) (b : Binding) (x : A) → i < length xs → x ≡ get_or xs i x
      → (IsSeen (Match L p (f x)) b → ⊥) → HasGiven L p (map f (drop i xs)) b → HasGiven L p (map f (drop (i + 1) xs)) b
  given_next L p f b x h e n g = record {
    given = g.given;
    is_given = record {
      among = passed (λ (t : Tree). IsSeen (Match L p t) b) g.given (f x) _ _ (rest_at f xs i x h e) n g.is_given.among g.is_given.seen;
      seen = g.is_given.seen;
    };
  }

  pub given_none : (L : Language) (p : Pattern) (f : A → Tree) (b : Binding) → length xs ≤ i → HasGiven L p (map f (drop i xs)) b → ⊥
  given_none L p f b h g = nothing_in g.given _ (rest_none f xs i h) g.is_given.among

  -- bindings of which a template makes a value
  pub source_next : (P : Program) (m : Template) (v : Tree) (f : A → Binding) (x : A) → i < length xs → x ≡ get_or xs i x
      → (Makes (calls_at P height) (f x) m (value v) → ⊥) → HasSource P m (map f (drop i xs)) v → HasSource P m (map f (drop (i + 1) xs)) v
  source_next P m v f x h e n s = record {
    binding = s.binding;
    is_source = record {
      among = passed (λ (b : Binding). Makes (calls_at P height) b m (value v)) s.binding (f x) _ _ (rest_at f xs i x h e) n
          s.is_source.among s.is_source.makes;
      makes = s.is_source.makes;
    };
  }

  pub source_none : (P : Program) (m : Template) (v : Tree) (f : A → Binding) → length xs ≤ i → HasSource P m (map f (drop i xs)) v → ⊥
  source_none P m v f h s = nothing_in s.binding _ (rest_none f xs i h) s.is_source.among

  -- one member
  pub member_next : {B : Type 0} (f : A → B) (y : B) (x : A) → i < length xs → x ≡ get_or xs i x → (f x ≡ y → ⊥) → In y (map f (drop i xs))
      → In y (map f (drop (i + 1) xs))
  member_next {B} f y x h e n j = passed (λ (z : B). z ≡ y) y (f x) _ _ (rest_at f xs i x h e) n j refl

  pub member_none : {B : Type 0} (f : A → B) (y : B) → length xs ≤ i → In y (map f (drop i xs)) → ⊥
  member_none f y h j = nothing_in y _ (rest_none f xs i h) j

-- ---- what a pattern matches

-- where none is listed, it does not match
pub none_found : (L : Language) (p : Pattern) (t : Tree) (bs : List Binding) → Matches L p t bs → are_some bs ≡ false → (b : Binding)
    → IsSeen (Match L p t) b → ⊥
none_found L p t [] l e b s = elim (l.complete b s) [ ]
none_found L p t (c ∷ bs) l e b s = absurd cc

-- where some is, it does
pub some_found : (L : Language) (p : Pattern) (t : Tree) (os : List Tree) (bs : List Binding) → Matches L p t bs → are_some bs ≡ true → In t os
    → IsMatched L p os t
some_found L p t os [] l e i = absurd cc
some_found L p t os (b ∷ bs) l e i = record { binding = b; is_given = record { among = i; seen = l.sound b (here refl) } }
