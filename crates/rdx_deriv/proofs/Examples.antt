-- The worked examples of judgements and of derivations hold.
use Rattle.std.proofs.Common.{◌≡◌, ℕ, zero, suc, List, [], ◌∷◌, Option, Some, None, refl, sym, ap, subst, slice_get, arith, codes}
use Rattle.rdx_term.specs.Tree.{Tree}
use Rattle.rdx_lang.specs.Bindings.{Binding, HasAscendingNames, no_names}
use Rattle.rdx_lang.specs.Bindings.{one as one_term}
use Rattle.rdx_lang.specs.Examples.{int, list_of_one, binds, Numbers}
use Rattle.rdx_lang.specs.Listing.{Matches}
use Rattle.rdx_lang.specs.Patterns.{seq, nil}
use Rattle.rdx_lang.specs.Programs.{Judgement, JudgementRule, Program, judgement_named}
use Rattle.rdx_lang.specs.RepetitionExamples.{empty_list, any_1}
use Rattle.rdx_lang.specs.Rules.{Match, match_seq, match_none, match_one, match_named, match_kind}
use Rattle.rdx_lang.proofs.Collecting.{only}
use Rattle.rdx_lang.proofs.Examples.{one_alone}
use Rattle.rdx_lang.proofs.JoinLaws.{unit_left, unit_right, one_name-ascends}
use Rattle.rdx_lang.proofs.SeenListings.{matches_listed}
use Rattle.rdx_eval.specs.Answers.{value, fault, spent, stops, goes, lists}
use Rattle.rdx_eval.specs.Calls.{Calls}
use Rattle.rdx_eval.specs.Heights.{calls_at, height}
use Rattle.rdx_eval.specs.Instantiation.{MakeList}
use Rattle.rdx_eval.specs.JudgementExamples.{of_rules, giving}
use Rattle.rdx_eval.specs.Judgements.{RuleOutputs}
use Rattle.rdx_eval.proofs.Examples.{small}
use Rattle.rdx_deriv.specs.Examples.{OneRule, OneIsJudged, OneIsDerived, NothingElse, NoOtherRule, InputsAreMatched, one_any, wrapping, Wrapped, WrappedIsJudged, WrappedIsDerived, WrappedIsSpent, one_by, one_found, no_inputs}
use Rattle.rdx_deriv.specs.Holds.{Holds}
use Rattle.rdx_deriv.specs.Judged.{IsRuleFor, Judged, judged_by, leads_end, leads_premise, calls}
use Rattle.rdx_deriv.specs.Uses.{uses_none, uses_one}
use Rattle.rdx_deriv.proofs.JudgedOutputs.{outputs_are_judged}

-- ---- matches

-- no inputs
inputs_matched : Match Numbers (seq nil) empty_list no_names
inputs_matched = match_seq match_none

-- their derivation
inputs_derived : (rs : List JudgementRule) → Holds (of_rules rs) no_inputs
inputs_derived rs = (
  record {
    language = Numbers;
    named = refl;
    known = refl;
    here = record { mark = None; items = _; same = refl; uses = uses_none };
  },
  tt,
)

-- any_1 for 1
abbrev one_bound : Binding
one_bound = binds (codes "any_1") (int 1)

-- this is a finite map
one_ascends : HasAscendingNames one_bound
one_ascends = one_name-ascends (codes "any_1") (one_term (int 1))

-- it matches 1, under its name
any_matched : Match Numbers any_1 (int 1) one_bound
any_matched = match_named (match_kind refl) (unit_left one_bound one_ascends)

-- so `(any_1)` matches `(1)`
one_matched : Match Numbers one_any (list_of_one (int 1)) one_bound
one_matched = match_seq (match_one any_matched match_none (unit_right one_bound one_ascends))

-- and this is derived
one_derived : (rs : List JudgementRule) → Holds (of_rules rs) one_found
one_derived rs = (
  record {
    language = Numbers;
    named = refl;
    known = refl;
    here = record {
      mark = None;
      items = _;
      same = refl;
      uses = uses_one refl uses_none (unit_right one_bound one_ascends);
    };
  },
  (
    (
      record {
        language = Numbers;
        named = refl;
        known = refl;
        here = record { inside = no_names; passes = unit_left one_bound one_ascends; no_choice = refl; under = refl };
      },
      (
        (
          record {
            language = Numbers;
            named = refl;
            known = refl;
            here = record { fits = refl; nameless = refl; no_choice = refl; nothing_under = refl };
          },
          tt,
        ),
        tt,
      ),
    ),
    tt,
  ),
)

-- ---- rules

-- the rule that is at this place of those of j
at_place : (rs : List JudgementRule) (i : ℕ) (r : JudgementRule) (o : Tree) → slice_get rs i ≡ Some r
    → IsRuleFor (of_rules rs) (codes "j") Numbers i r empty_list o
at_place rs i r o e = record { judgement = _; named = refl; language = refl; there = e; inputs = tt; outputs = tt }

-- the output of a rule without premises
made : (C : Calls) (b : Binding) (n : ℕ) → MakeList C b (giving n []).outputs (value (list_of_one (int n)))
made C b n = goes (goes (goes refl refl) (goes refl refl)) (small _ (omega arith) (omega arith))

-- that of the rule with a premise
wrapped : (C : Calls) → MakeList C one_bound wrapping.outputs (value (list_of_one (list_of_one (int 1))))
wrapped C =
    goes (goes (goes (goes (goes (goes refl refl) (goes refl refl)) (small _ (omega arith) (omega arith))) refl) (goes refl refl))
    (small _ (omega arith) (omega arith))

-- the inputs of the premise are none
nothing_made : (C : Calls) (b : Binding) → MakeList C b [] (value empty_list)
nothing_made C b = goes refl (small _ (omega arith) (omega arith))

-- 1 is judged by the first rule
one_judged : (rs : List JudgementRule) → Judged (of_rules (giving 1 [] ∷ rs)) (codes "j") empty_list (list_of_one (int 1))
one_judged rs =
    let P : Program = of_rules (giving 1 [] ∷ rs) in
    judged_by (at_place (giving 1 [] ∷ rs) 0 (giving 1 []) (list_of_one (int 1)) refl) inputs_matched leads_end (made (calls P) no_names 1)

-- by a derivation
one_by_first : (rs : List JudgementRule) → Holds (of_rules (giving 1 [] ∷ rs)) (one_by 0)
unfolding at_place
one_by_first rs =
    let P : Program = of_rules (giving 1 [] ∷ rs) in (
      record {
        language = Numbers;
        place = 0;
        rule = giving 1 [];
        found = no_names;
        final = no_names;
        left = [];
        rule_for = at_place (giving 1 [] ∷ rs) 0 (giving 1 []) (list_of_one (int 1)) refl;
        choice = refl;
        goals = refl;
        extras = (refl, refl);
        made = made (calls P) no_names 1;
      },
      (inputs_derived (giving 1 [] ∷ rs), tt),
    )

-- the rules of j
rules_are : (rs : List JudgementRule) (J : Judgement) → judgement_named (of_rules rs) (codes "j") ≡ Some J → rs ≡ J.rules
rules_are rs J e = ap rules_in e
  where
    rules_in : Option Judgement → List JudgementRule
    rules_in None = []
    rules_in (Some K) = K.rules

-- ---- answers

-- no name is bound where no inputs are matched
only_none : {b : Binding} → Match Numbers (seq nil) empty_list b → b ≡ no_names
only_none (match_seq match_none) = refl

-- the listing of that
inputs_listed : Matches Numbers (seq nil) empty_list (no_names ∷ [])
inputs_listed = matches_listed (refl, tt) (one_alone no_names inputs_matched (λ b h. only_none h))

-- what the first rule gives
gives_one : (C : Calls) → RuleOutputs Numbers C (codes "j") None empty_list (giving 1 []) (value (list_of_one (int 1) ∷ []))
gives_one C = goes (goes (lists inputs_listed) refl) (goes (goes (goes (made C no_names 1) refl) refl) (goes refl refl))

-- what all give where it is the only one
one_answered : (n : ℕ) → (calls_at OneRule (suc n)).outputs_of (codes "j") empty_list (value (list_of_one (int 1) ∷ []))
unfolding calls_at
one_answered n =
    goes (goes (gives_one (calls_at OneRule n)) (goes refl refl))
    (lists (record { ascending = (tt, tt); sound = λ t i. i; complete = λ t i. i }))

-- where there is the rule with the premise, the height is spent
wrapped_spent : (n : ℕ) → (calls_at Wrapped n).outputs_of (codes "j") empty_list (fault (spent (codes "j")))
unfolding calls_at
wrapped_spent zero = refl
wrapped_spent (suc n) =
    let C : Calls = calls_at Wrapped n in
    stops
    (goes (gives_one C)
    (stops (stops (stops (goes (lists inputs_listed) (stops (stops (stops (stops (goes (nothing_made C no_names) (wrapped_spent n)))))))))))

-- ---- the examples

pub one_is_judged : OneIsJudged
one_is_judged = one_judged []

pub one_is_derived : OneIsDerived
one_is_derived = one_by_first []

pub nothing_else : NothingElse
nothing_else o d =
    only ((outputs_are_judged OneRule (codes "j") empty_list (list_of_one (int 1) ∷ []) (one_answered 399)).complete o d)

pub no_other_rule : NoOtherRule
no_other_rule h =
    let u = h.0 in at_one u.rule_for.judgement u.place u.rule u.rule_for.named u.choice u.rule_for.there
  where
    at_one : (J : Judgement) (i : ℕ) (r : JudgementRule) → judgement_named OneRule (codes "j") ≡ Some J → 1 ∷ [] ≡ i ∷ []
        → slice_get J.rules i ≡ Some r → ⊥
    at_one J i r e f g =
        let p : i ≡ 1 = cc in
        let k : slice_get (giving 1 [] ∷ []) 1 ≡ Some r =
        subst (λ (rs : List JudgementRule). slice_get rs 1 ≡ Some r) (sym (rules_are (giving 1 [] ∷ []) J e))
        (subst (λ (n : ℕ). slice_get J.rules n ≡ Some r) p g) in
        absurd cc

pub inputs_are_matched : InputsAreMatched
inputs_are_matched h = let e = h.0.goals in absurd cc

pub wrapped_is_judged : WrappedIsJudged
wrapped_is_judged =
    judged_by (at_place (giving 1 [] ∷ wrapping ∷ []) 1 wrapping (list_of_one (list_of_one (int 1))) refl) inputs_matched
    (leads_premise (nothing_made (calls Wrapped) no_names) (one_judged (wrapping ∷ [])) one_matched (unit_left one_bound one_ascends) leads_end)
    (wrapped (calls Wrapped))

pub wrapped_is_derived : WrappedIsDerived
unfolding at_place
wrapped_is_derived =
    let rs : List JudgementRule = giving 1 [] ∷ wrapping ∷ [] in (
      record {
        language = Numbers;
        place = 1;
        rule = wrapping;
        found = no_names;
        final = one_bound;
        left = _;
        rule_for = at_place rs 1 wrapping (list_of_one (list_of_one (int 1))) refl;
        choice = refl;
        goals = refl;
        extras = record {
          inputs = empty_list;
          outputs = list_of_one (int 1);
          found = one_bound;
          joined = one_bound;
          left = [];
          made = nothing_made (calls Wrapped) no_names;
          goals = refl;
          join = unit_left one_bound one_ascends;
          behind = (refl, refl);
        };
        made = wrapped (calls Wrapped);
      },
      (inputs_derived rs, (one_by_first (wrapping ∷ []), (one_derived rs, tt))),
    )

pub wrapped_is_spent : WrappedIsSpent
wrapped_is_spent = wrapped_spent height
