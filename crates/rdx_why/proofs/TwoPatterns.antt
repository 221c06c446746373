-- Steps down from patterns with a name or a mismatch name, and from those for contexts and parts.
use Rattle.std.proofs.Common.{◌≡◌, ◌&&◌, ℕ, Bool, true, false, List, [], ◌∷◌, IsTrue, refl, sym, ◌∙◌, ap, subst}
use Rattle.rdx_term.specs.Tree.{Tree}
use Rattle.rdx_term.specs.Fill.{fill_of}
use Rattle.rdx_lang.specs.Bindings.{Binding}
use Rattle.rdx_lang.specs.Join.{IsJoin}
use Rattle.rdx_lang.specs.Members.{In, here, there}
use Rattle.rdx_lang.specs.Patterns.{Pattern, in_hole, Language}
use Rattle.rdx_lang.specs.Rules.{Match, Split}
use Rattle.rdx_lang.specs.WellFormed.{has_known_nonterminals, defined}
use Rattle.rdx_bind.specs.Namings as namings
use Rattle.rdx_bind.specs.Namings.{Naming, binds, differs, alone}
use Rattle.rdx_deriv.specs.Derivations.{Goal, matched, split}
use Rattle.rdx_deriv.specs.Uses.{IsMatchUse, IsSplitUse}
use Rattle.rdx_why.specs.Inside.Steps.{IsKnown, FollowsIn, AllFollowIn, IsStep, goals_in}
use Rattle.rdx_why.specs.declared.step.Step.{Step}
use Rattle.rdx_why.proofs.InnerSteps.{one_follows}

-- both of two tests
both_true : (a b : Bool) → IsTrue (a && b) → IsTrue a × IsTrue b
both_true true b h = (refl, h)
both_true false b h = absurd cc

-- the patterns inside are known where the whole is
pub inside_known : (L : Language) (q r : Pattern) → IsKnown L (in_hole q r) → IsKnown L q × IsKnown L r
inside_known L q r h = both_true (has_known_nonterminals (defined L) q) (has_known_nonterminals (defined L) r) h

-- two goals that follow
two_follow : (L : Language) (l : List ℕ) (g h : Goal) (gs : List Goal) → gs ≡ g ∷ h ∷ [] → FollowsIn L l g → FollowsIn L l h → AllFollowIn L l gs
two_follow L l g h gs e f k o i = either (subst (In o) e i)
  where
    either : In o (g ∷ h ∷ []) → FollowsIn L l o
    either (here s) = subst (FollowsIn L l) (sym s) f
    either (there (here s)) = subst (FollowsIn L l) (sym s) k
    either (there (there j)) = elim j [ ]

module _ (L : Language) (l : List ℕ) (s : Step) (p : Pattern) (choice : s.choice.items ≡ []) where
  module _ (g : Goal) (goals : goals_in s ≡ g ∷ []) (n : Naming) (q : Pattern) (known : IsKnown L q) (same : p ≡ namings.under n q) where
    -- a step from a pattern with a name
    pub naming_match_step : (t : Tree) (b c : Binding) → g ≡ matched l q t c → Match L q t c × IsJoin c (alone n t) b
        → IsStep L l (IsMatchUse L l p t b) s
    naming_match_step t b c i h = subst (λ (r : Pattern). IsStep L l (IsMatchUse L l r t b) s) (sym same) (by_form n h.1)
      where
        by_form : (m : Naming) → IsJoin c (alone m t) b → IsStep L l (IsMatchUse L l (namings.under m q) t b) s
        by_form (binds x) j = record {
          use_of_rule = record { inside = c; passes = j; no_choice = choice; under = goals ∙ ap (λ x. x ∷ []) i };
          follow = one_follows L l g (goals_in s) goals (subst (FollowsIn L l) (sym i) (refl, known, h.0));
        }
        by_form (differs x) j = record {
          use_of_rule = record { inside = c; passes = j; no_choice = choice; under = goals ∙ ap (λ x. x ∷ []) i };
          follow = one_follows L l g (goals_in s) goals (subst (FollowsIn L l) (sym i) (refl, known, h.0));
        }

    pub naming_split_step : (t C u : Tree) (b c : Binding) → g ≡ split l q t C u c → Split L q t C u c × IsJoin c (alone n C) b
        → IsStep L l (IsSplitUse L l p t C u b) s
    naming_split_step t C u b c i h = subst (λ (r : Pattern). IsStep L l (IsSplitUse L l r t C u b) s) (sym same) (by_form n h.1)
      where
        by_form : (m : Naming) → IsJoin c (alone m C) b → IsStep L l (IsSplitUse L l (namings.under m q) t C u b) s
        by_form (binds x) j = record {
          use_of_rule = record { inside = c; passes = j; no_choice = choice; under = goals ∙ ap (λ x. x ∷ []) i };
          follow = one_follows L l g (goals_in s) goals (subst (FollowsIn L l) (sym i) (refl, known, h.0));
        }
        by_form (differs x) j = record {
          use_of_rule = record { inside = c; passes = j; no_choice = choice; under = goals ∙ ap (λ x. x ∷ []) i };
          follow = one_follows L l g (goals_in s) goals (subst (FollowsIn L l) (sym i) (refl, known, h.0));
        }

  module _ (g h : Goal) (goals : goals_in s ≡ g ∷ h ∷ []) (q r : Pattern) (known : IsKnown L p) (same : p ≡ in_hole q r) where
    inside : IsKnown L q × IsKnown L r
    inside = inside_known L q r (subst (IsKnown L) same known)

    -- a step from a pattern for contexts and parts
    pub hole_match_step : (t C u : Tree) (b a d : Binding) → g ≡ split l q t C u a → h ≡ matched l r u d
        → Split L q t C u a × Match L r u d × IsJoin a d b
        → IsStep L l (IsMatchUse L l p t b) s
    hole_match_step t C u b a d i k m = subst (λ (v : Pattern). IsStep L l (IsMatchUse L l v t b) s) (sym same) (record {
      use_of_rule = record {
        context = C;
        part = u;
        outer = a;
        inner = d;
        joined = m.2;
        no_choice = choice;
        under = goals ∙ (λ j. i j ∷ k j ∷ []);
      };
      follow =
          two_follow L l g h (goals_in s) goals (subst (FollowsIn L l) (sym i) (refl, inside.0, m.0))
          (subst (FollowsIn L l) (sym k) (refl, inside.1, m.1));
    })

    pub hole_split_step : (t C u D E z : Tree) (b a d : Binding) → C ≡ fill_of D E → g ≡ split l q t D z a → h ≡ split l r z E u d
        → Split L q t D z a × Split L r z E u d × IsJoin a d b
        → IsStep L l (IsSplitUse L l p t C u b) s
    hole_split_step t C u D E z b a d f i k m = subst (λ (v : Pattern). IsStep L l (IsSplitUse L l v t C u b) s) (sym same) (record {
      use_of_rule = record {
        first = D;
        second = E;
        part = z;
        outer = a;
        inner = d;
        joined = m.2;
        filled = f;
        no_choice = choice;
        under = goals ∙ (λ j. i j ∷ k j ∷ []);
      };
      follow =
          two_follow L l g h (goals_in s) goals (subst (FollowsIn L l) (sym i) (refl, inside.0, m.0))
          (subst (FollowsIn L l) (sym k) (refl, inside.1, m.1));
    })
