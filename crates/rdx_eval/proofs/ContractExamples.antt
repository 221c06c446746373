-- The worked examples of contracts hold.
use Rattle.std.proofs.Common.{◌≡◌, [], ◌∷◌, List, None, refl, arith, codes}
use Rattle.rdx_term.specs.Tree.{Tree, list, trees}
use Rattle.rdx_lang.specs.Bindings.{Binding, no_names}
use Rattle.rdx_lang.specs.Examples.{int, list_of_one, Numbers}
use Rattle.rdx_lang.specs.Listing.{Matches}
use Rattle.rdx_lang.specs.Patterns as patterns
use Rattle.rdx_lang.specs.Programs.{Program, provided}
use Rattle.rdx_lang.specs.Rules.{Match, match_lit, match_seq}
use Rattle.rdx_lang.proofs.Collecting.{no_member}
use Rattle.rdx_lang.proofs.Examples.{one_alone}
use Rattle.rdx_lang.proofs.SeenListings.{matches_listed}
use Rattle.rdx_eval.specs.Answers.{value, stops, goes, lists}
use Rattle.rdx_eval.specs.CallExamples as calls
use Rattle.rdx_eval.specs.Calls.{Calls}
use Rattle.rdx_eval.specs.ClauseExamples.{for_any, one_any, one_one}
use Rattle.rdx_eval.specs.ContractExamples.{under_contract, judging, itself, any_list, DomainRefuses, RangeRefuses, RangeAllows, AmbiguousFirst, InputsRefused, OutputsRefused, OutputsAllowed, RefusedBeforeLater, RefusedBehindEarlier}
use Rattle.rdx_eval.specs.Examples.{any_1}
use Rattle.rdx_eval.specs.Heights.{calls_at}
use Rattle.rdx_eval.specs.Instantiation.{MakeList}
use Rattle.rdx_eval.specs.Making.{IsList}
use Rattle.rdx_eval.specs.Metafunctions.{several}
use Rattle.rdx_eval.proofs.CallExamples.{by_zero}
use Rattle.rdx_eval.proofs.ClauseExamples.{bound, any_bound, one_only, two_fails, one_is_one, two_is_none, one_and_two, others_match, others-only, one_term_listed, takes, two_listed}
use Rattle.rdx_eval.proofs.Examples.{small}

-- ---- what patterns of contracts match

-- 1 matches 1, and 2 does not
one_alone_is_one : Matches Numbers (patterns.lit (int 1)) (int 1) (no_names ∷ [])
one_alone_is_one = matches_listed (refl, tt) (one_alone no_names (match_lit refl) (λ c h. one_only h))

two_alone_is_none : Matches Numbers (patterns.lit (int 1)) (int 2) []
two_alone_is_none = matches_listed tt (record { ascending = tt; sound = λ c i. no_member i; complete = λ c h. absurd (two_fails h) })

-- `_ ...` matches each list, and binds nothing
list_binds : (ts : List Tree) {c : Binding} → Match Numbers any_list (list None (trees ts)) c → c ≡ no_names
list_binds ts (match_seq h) = others-only ts h

list_matches : (ts : List Tree) → Matches Numbers any_list (list None (trees ts)) (no_names ∷ [])
list_matches ts = matches_listed (refl, tt) (one_alone no_names (match_seq (others_match ts)) (λ c h. list_binds ts h))

-- ---- metafunctions

pub domain_refuses : DomainRefuses
unfolding calls_at
domain_refuses n = goes (lists two_is_none) refl

pub range_refuses : RangeRefuses
unfolding calls_at
range_refuses n =
    let C : Calls = calls_at (under_contract one_any (patterns.lit (int 1)) itself) n in
    goes (lists (any_bound (int 2)))
    (goes (takes C (codes "f") (list_of_one (int 2)) one_any [] (any_1 0) [] (bound (int 2)) (bound (int 2)) (int 2) (any_bound (int 2)) refl refl)
    (goes (lists two_alone_is_none) refl))

pub range_allows : RangeAllows
unfolding calls_at
range_allows n =
    let C : Calls = calls_at (under_contract one_any (patterns.lit (int 1)) itself) n in
    goes (lists (any_bound (int 1)))
    (goes (takes C (codes "f") (list_of_one (int 1)) one_any [] (any_1 0) [] (bound (int 1)) (bound (int 1)) (int 1) (any_bound (int 1)) refl refl)
    (goes (lists one_alone_is_one) refl))

pub ambiguous_first : AmbiguousFirst
unfolding calls_at
ambiguous_first n =
    goes (lists (list_matches (int 1 ∷ int 2 ∷ [])))
    (stops
    (goes (goes (lists one_and_two) refl)
    (goes (goes (goes refl refl) (goes (goes (goes refl refl) (goes refl refl)) refl)) (several (two_listed (int 1) (int 2) refl)))))

-- ---- judgements

-- the output that is the input
itself_made : (C : Calls) (t : Tree) → IsList (t ∷ []) (value (list_of_one t)) → MakeList C (bound t) (any_1 0 ∷ []) (value (list_of_one t))
itself_made C t h = goes (goes (goes refl refl) (goes refl refl)) h

pub inputs_refused : InputsRefused
unfolding calls_at
inputs_refused n = goes (lists two_is_none) refl

pub outputs_refused : OutputsRefused
unfolding calls_at
outputs_refused n =
    let C : Calls = calls_at (judging one_any one_one (for_any [] (any_1 0) ∷ [])) n in
    goes (lists (any_bound (int 2)))
    (stops (stops
    (goes (goes (lists (any_bound (int 2))) refl)
    (stops (stops (goes (itself_made C (int 2) (small _ (omega arith) (omega arith))) (goes (lists two_is_none) refl)))))))

pub outputs_allowed : OutputsAllowed
unfolding calls_at
outputs_allowed n =
    let C : Calls = calls_at (judging one_any one_one (for_any [] (any_1 0) ∷ [])) n in
    goes (lists (any_bound (int 1)))
    (goes
    (goes
    (goes (goes (lists (any_bound (int 1))) refl)
    (goes (goes (goes (itself_made C (int 1) (small _ (omega arith) (omega arith))) (goes (lists one_is_one) refl)) refl) (goes refl refl)))
    (goes refl refl))
    (lists (one_term_listed (list_of_one (int 1)))))

pub refused_before_later : RefusedBeforeLater
unfolding calls_at
refused_before_later n =
    let C : Calls = calls_at (judging one_any one_one (for_any [] (any_1 0) ∷ for_any (provided calls.by_zero ∷ []) (any_1 0) ∷ [])) n in
    goes (lists (any_bound (int 2)))
    (stops (stops
    (goes (goes (lists (any_bound (int 2))) refl)
    (stops (stops (goes (itself_made C (int 2) (small _ (omega arith) (omega arith))) (goes (lists two_is_none) refl)))))))

pub refused_behind_earlier : RefusedBehindEarlier
unfolding calls_at
refused_behind_earlier n =
    let P : Program = judging one_any one_one (for_any (provided calls.by_zero ∷ []) (any_1 0) ∷ for_any [] (any_1 0) ∷ []) in
    goes (lists (any_bound (int 2)))
    (stops (stops (stops (goes (lists (any_bound (int 2))) (stops (stops (stops (stops (by_zero P n)))))))))
