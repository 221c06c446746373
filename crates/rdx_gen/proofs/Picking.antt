-- Alternatives that are looked up by the places of their nonterminals, and the places to choose among.
use Rattle.std.proofs.Common.{◌≡◌, ℕ, zero, suc, ◌+◌, ◌<◌, Bool, true, false, List, [], ◌∷◌, length, get_or, map, refl, sym, ◌∙◌, ap, subst, arith, Option, Some, None, if◌then◌else◌}
use Rattle.std.proofs.lemmas.Bool.Decides.{nat_tests}
use Rattle.std.proofs.lemmas.List.{get_or-map, length-map}
use Rattle.std.specs.Prelude.{not, ◌||◌, ◌==◌}
use Rattle.rdx_lang.specs.Lookup.{alternatives_among}
use Rattle.rdx_lang.specs.Patterns.{Pattern, Definition}
use Rattle.rdx_lang.specs.References.{is_same}
use Rattle.rdx_lang.specs.declared.pattern.Ref.{Ref}
use Rattle.rdx_lang.specs.declared.pattern.Ref.TheVariants.{Nt}
use Rattle.rdx_gen.specs.Generation.{choices, choices_from, is_choice}
use Rattle.rdx_gen.specs.Heights.{Known, term_height, context_height, least}
use Rattle.rdx_gen.specs.Inside.Picks.{TwoLists, picks_in, picks_over, picks_at, choices_in, choices_over}
use Rattle.rdx_gen.specs.Inside.Places.{place}
use Rattle.rdx_gen.specs.declared.choices.Choices.{Choices}
use Rattle.rdx_gen.proofs.SameHeights.{read-map}

-- no definition
abbrev nobody : Definition
nobody = (Nt [], [])

-- what is looked up stands at the place
pub alternatives_place : (ds : List Definition) (x : Ref) → place x (map (λ (d : Definition). d.0) ds) < length ds
    → alternatives_among ds x ≡ get_or (map (λ (d : Definition). d.1) ds) (place x (map (λ (d : Definition). d.0) ds)) []
alternatives_place [] x l = absurd (omega arith)
alternatives_place (d ∷ ds) x l = by_test (is_same x d.0) (alternatives_place ds x) l
  where
    by_test : (b : Bool) → (place x (map (λ (d : Definition). d.0) ds) < length ds
        → alternatives_among ds x ≡ get_or (map (λ (d : Definition). d.1) ds) (place x (map (λ (d : Definition). d.0) ds)) [])
        → (if b then 0 else suc (place x (map (λ (d : Definition). d.0) ds))) < suc (length ds)
        → (if b then d.1 else alternatives_among ds x)
        ≡ get_or (d.1 ∷ map (λ (d : Definition). d.1) ds) (if b then 0 else suc (place x (map (λ (d : Definition). d.0) ds))) []
    by_test true f k = refl
    by_test false f k = f (omega arith)

-- how many there are
pub as_many : (cs : List Choices) (K : Known) (ds : List Definition) → map choices_in cs ≡ map (choices_over K) ds → length cs ≡ length ds
as_many cs K ds e = sym (length-map cs choices_in) ∙ ap length e ∙ length-map ds (choices_over K)

module _ (cs : List Choices) (K : Known) (ds : List Definition) (i : ℕ) (c : Choices) (e : map choices_in cs ≡ map (choices_over K) ds) (l : i < length cs)
    (h : c ≡ get_or cs i c) where
  choices_there : choices_in c ≡ choices_over K (get_or ds i nobody)
  choices_there =
      let m : i < length ds = subst (λ (n : ℕ). i < n) (as_many cs K ds e) l in
      let o : TwoLists × TwoLists = choices_in c in
      sym (read-map choices_in cs i c o l h) ∙ ap (λ (zs : List (TwoLists × TwoLists)). get_or zs i o) e ∙ get_or-map (choices_over K) ds i nobody o m

  same_there : (get_or ds i nobody).1 ≡ get_or (map (λ (d : Definition). d.1) ds) i []
  same_there = sym (get_or-map (λ (d : Definition). d.1) ds i nobody [] (subst (λ (n : ℕ). i < n) (as_many cs K ds e) l))

  -- those for terms, and for contexts, are those among the alternatives there
  pub term_picks : picks_in c.as_term ≡ picks_over (map (term_height K) (get_or (map (λ (d : Definition). d.1) ds) i []))
  term_picks = ap (λ (z : TwoLists × TwoLists). z.0) choices_there ∙ ap (λ (ps : List Pattern). picks_over (map (term_height K) ps)) same_there

  pub context_picks : picks_in c.as_context ≡ picks_over (map (context_height K) (get_or (map (λ (d : Definition). d.1) ds) i []))
  context_picks = ap (λ (z : TwoLists × TwoLists). z.1) choices_there ∙ ap (λ (ps : List Pattern). picks_over (map (context_height K) ps)) same_there

-- no size above 0 is 0
positive : (n : ℕ) → (suc n == 0) ≡ false
positive n = grind (arith, nat_tests)

-- above size 0 all sizes choose among the same
same_choice : (n : ℕ) (lowest h : Option ℕ) → is_choice 1 lowest h ≡ is_choice (suc n) lowest h
same_choice n lowest None = refl
same_choice n None (Some h) = refl
same_choice n (Some m) (Some h) = ap (λ (b : Bool). not b || (h == m)) (sym (positive n))

same_above : (n : ℕ) (lowest : Option ℕ) (i : ℕ) (hs : List (Option ℕ)) → choices_from 1 lowest i hs ≡ choices_from (suc n) lowest i hs
same_above n lowest i [] = refl
same_above n lowest i (h ∷ hs) =
    let a : is_choice 1 lowest h ≡ is_choice (suc n) lowest h = same_choice n lowest h in
    let b : choices_from 1 lowest (i + 1) hs ≡ choices_from (suc n) lowest (i + 1) hs = same_above n lowest (i + 1) hs in
    (λ j. if a j then i ∷ b j else b j)

pub picks_of_size : (size : ℕ) (hs : List (Option ℕ)) → picks_at (picks_over hs) size ≡ choices size hs
picks_of_size zero hs = refl
picks_of_size (suc n) hs = ap (λ (b : Bool). if b then choices 0 hs else choices 1 hs) (positive n) ∙ same_above n (least hs) 0 hs
