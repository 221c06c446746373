-- Steps down from nonterminals, closed patterns and patterns whose contexts are hidden.
use Rattle.std.proofs.Common.{◌≡◌, ℕ, List, [], ◌∷◌, Some, refl, sym, ◌∙◌, ap, subst}
use Rattle.std.specs.Prelude.{slice_get}
use Rattle.rdx_term.specs.Tree.{Tree}
use Rattle.rdx_lang.specs.Bindings.{Binding}
use Rattle.rdx_lang.specs.Lookup.{alternatives_of}
use Rattle.rdx_lang.specs.Members.{In, here, there}
use Rattle.rdx_lang.specs.Patterns.{Pattern, nt, closed, hide_hole, Language}
use Rattle.rdx_lang.specs.Rules.{Match, Split}
use Rattle.rdx_lang.specs.WellFormed.{has_known_nonterminals, defined, IsWellFormed}
use Rattle.rdx_lang.specs.declared.pattern.Ref.{Ref}
use Rattle.rdx_lang.proofs.KnownCrosses.{well_formed-knows}
use Rattle.rdx_lang.proofs.RuleSteps.{nt_inside, nt_splits, closed_inside, closed_splits, hide_hole_inside}
use Rattle.rdx_lang.proofs.WellFormedCrosses.{alternative-passes}
use Rattle.rdx_deriv.specs.Derivations.{Goal, matched, split}
use Rattle.rdx_deriv.specs.Inside.Chosen.{IsChosen}
use Rattle.rdx_why.specs.Inside.Steps.{IsKnown, FollowsIn, AllFollowIn, IsStep, goals_in}
use Rattle.rdx_deriv.specs.Uses.{IsMatchUse, IsSplitUse, IsAlternativeAt}
use Rattle.rdx_why.specs.declared.step.Step.{Step}
use Rattle.rdx_deriv.proofs.ChosenPlaces.{chosen_there}
use Rattle.rdx_deriv.proofs.Sound.{placed-in}

-- a step from one goal
pub one_follows : (L : Language) (l : List ℕ) (g : Goal) (gs : List Goal) → gs ≡ g ∷ [] → FollowsIn L l g → AllFollowIn L l gs
one_follows L l g gs e f h i = only (subst (In h) e i)
  where
    only : In h (g ∷ []) → FollowsIn L l h
    only (here s) = subst (FollowsIn L l) (sym s) f
    only (there j) = elim j [ ]

module _ (L : Language) (l : List ℕ) where
  -- a goal that follows is of a pattern that the language knows
  pub match_follows_in : (q : Pattern) (t : Tree) (c : Binding) → IsKnown L q → Match L q t c → FollowsIn L l (matched l q t c)
  match_follows_in q t c k m = (refl, k, m)

  pub split_follows_in : (q : Pattern) (t C s : Tree) (c : Binding) → IsKnown L q → Split L q t C s c → FollowsIn L l (split l q t C s c)
  split_follows_in q t C s c k m = (refl, k, m)

  -- so is an alternative
  alternative_known : (x : Ref) (q : Pattern) {i : ℕ} → IsWellFormed L → IsAlternativeAt L x i q → IsKnown L q
  alternative_known x q {i = i} w a =
      alternative-passes (has_known_nonterminals (defined L)) L x q (well_formed-knows L w)
      (record { all = a.all; defined = a.defined; among = placed-in a.all i q a.there })

  module _ (s : Step) (g : Goal) (under : goals_in s ≡ g ∷ []) where
    -- one of a closed pattern
    pub closed_match : (q : Pattern) (t : Tree) (b c : Binding) → s.choice.items ≡ [] → g ≡ matched l q t c → IsKnown L q → Match L q t c
        → Match L (closed q) t b → IsStep L l (IsMatchUse L l (closed q) t b) s
    closed_match q t b c e i k m h =
        record {
          use_of_rule = record { inside = c; passes = (closed_inside h).1; no_choice = e; under = under ∙ ap (λ x. x ∷ []) i };
          follow = one_follows L l g (goals_in s) under (subst (FollowsIn L l) (sym i) (match_follows_in q t c k m));
        }

    pub closed_split : (q : Pattern) (t C u : Tree) (b c : Binding) → s.choice.items ≡ [] → g ≡ split l q t C u c → IsKnown L q → Split L q t C u c
        → Split L (closed q) t C u b → IsStep L l (IsSplitUse L l (closed q) t C u b) s
    closed_split q t C u b c e i k m h =
        record {
          use_of_rule = record { inside = c; passes = (closed_splits h).1; no_choice = e; under = under ∙ ap (λ x. x ∷ []) i };
          follow = one_follows L l g (goals_in s) under (subst (FollowsIn L l) (sym i) (split_follows_in q t C u c k m));
        }

    -- one of a pattern whose contexts are hidden
    pub hidden_match : (q : Pattern) (t : Tree) (b : Binding) → s.choice.items ≡ [] → g ≡ matched l q t b → IsKnown L q
        → Match L (hide_hole q) t b → IsStep L l (IsMatchUse L l (hide_hole q) t b) s
    hidden_match q t b e i k h =
        record {
          use_of_rule = record { inside = b; passes = refl; no_choice = e; under = under ∙ ap (λ x. x ∷ []) i };
          follow = one_follows L l g (goals_in s) under (subst (FollowsIn L l) (sym i) (match_follows_in q t b k (hide_hole_inside h)));
        }

    -- one of a nonterminal
    pub nt_match : (x : Ref) (i : ℕ) (q : Pattern) (t : Tree) (b c : Binding) → IsWellFormed L → s.choice.items ≡ i ∷ []
        → slice_get (alternatives_of L x) i ≡ Some q → g ≡ matched l q t c → Match L q t c → Match L (nt x) t b
        → IsStep L l (IsMatchUse L l (nt x) t b) s
    nt_match x i q t b c w e a k m h =
        let n : IsChosen L x s.choice.items q = chosen_there L x s.choice.items i q e a in
        record {
          use_of_rule = record {
            place = n.place;
            pattern = q;
            alternative = n.alternative;
            choice = n.choice;
            one = record { inside = c; passes = (nt_inside h).1; no_choice = refl; under = under ∙ ap (λ y. y ∷ []) k };
          };
          follow =
              one_follows L l g (goals_in s) under
              (subst (FollowsIn L l) (sym k) (match_follows_in q t c (alternative_known x q w n.alternative) m));
        }

    pub nt_split : (x : Ref) (i : ℕ) (q : Pattern) (t C u : Tree) (b c : Binding) → IsWellFormed L → s.choice.items ≡ i ∷ []
        → slice_get (alternatives_of L x) i ≡ Some q → g ≡ split l q t C u c → Split L q t C u c → Split L (nt x) t C u b
        → IsStep L l (IsSplitUse L l (nt x) t C u b) s
    nt_split x i q t C u b c w e a k m h =
        let n : IsChosen L x s.choice.items q = chosen_there L x s.choice.items i q e a in
        record {
          use_of_rule = record {
            place = n.place;
            pattern = q;
            alternative = n.alternative;
            choice = n.choice;
            one = record { inside = c; passes = (nt_splits h).1; no_choice = refl; under = under ∙ ap (λ y. y ∷ []) k };
          };
          follow =
              one_follows L l g (goals_in s) under
              (subst (FollowsIn L l) (sym k) (split_follows_in q t C u c (alternative_known x q w n.alternative) m));
        }
