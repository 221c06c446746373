-- When what a file defines is valid: each name that it uses is defined, once; its patterns are well formed; its templates fit.
use Rattle.std.specs.Prelude.{ℕ, Bool, true, false, not, ◌&&◌, List, [], ◌∷◌, ◌++◌, Option, Some, None, is_some, map, option_map, bytes_eq}
use Rattle.std.specs.List.{list_all, list_any}
use Rattle.rdx_lang.specs.Depths.{Use, uses}
use Rattle.rdx_lang.specs.Fitting.{fits, fits_in}
use Rattle.rdx_lang.specs.Modes.{Callable, fits_mode, rule_fits_mode, input_count, output_count, is_list_of}
use Rattle.rdx_lang.specs.Patterns.{Pattern, Language}
use Rattle.rdx_lang.specs.Programs.{Extra, such_as, provided, holds, fresh, Clause, Metafunction, Mode, JudgementRule, Judgement, Rule, Relation, Program, language_named, metafunction_named, judgement_named}
use Rattle.rdx_lang.specs.Scopes.{bound_by, extra_uses, case_uses}
use Rattle.rdx_lang.specs.Templates.{Template}
use Rattle.rdx_lang.specs.WellFormed.{is_well_formed_in}

-- one of these uses has this name; a length name counts
abbrev pub is_used : List Use → List ℕ → Bool
is_used us x = list_any (λ u. bytes_eq u.name x) us

-- beside what may be called, an extra before which these names are used is valid in the language
abbrev pub is_valid_extra : Callable → Language → List Use → Extra → Bool
is_valid_extra C L us (such_as p t) = is_well_formed_in L p && fits C.functions (bound_by us) 0 t
is_valid_extra C L us (provided h) = fits_in C.functions (bound_by us) 0 h
is_valid_extra C L us (holds q) =
    fits_mode (C.modes q.judgement) q && (list_all (fits C.functions (bound_by us) 0) q.inputs && is_well_formed_in L q.outputs)
is_valid_extra C L us (fresh x) = not (is_used us x)

-- extras are, one after the other
abbrev pub are_valid_extras : Callable → Language → List Use → List Extra → Bool
are_valid_extras C L us [] = true
are_valid_extras C L us (e ∷ es) = is_valid_extra C L us e && are_valid_extras C L (us ++ extra_uses e) es

-- a pattern with extras and a result is: each of these sees the names of what comes before it
abbrev pub is_valid_case : Callable → Language → Pattern → List Extra → Template → Bool
is_valid_case C L p es t = is_well_formed_in L p && (are_valid_extras C L (uses 0 p) es && fits C.functions (bound_by (case_uses p es)) 0 t)

-- a clause is
abbrev pub is_valid_clause : Callable → Language → Clause → Bool
is_valid_clause C L c = is_valid_case C L c.arguments c.extras c.result

-- both patterns of a contract are well formed, where there is one
abbrev pub is_valid_contract : Language → Option (Pattern × Pattern) → Bool
is_valid_contract L None = true
is_valid_contract L (Some c) = is_well_formed_in L c.0 && is_well_formed_in L c.1

-- a metafunction over this language is valid, if there is one
abbrev pub is_valid_metafunction : Callable → Option Language → Metafunction → Bool
is_valid_metafunction C None M = false
is_valid_metafunction C (Some L) M = is_valid_contract L M.contract && list_all (is_valid_clause C L) M.clauses

-- a rule of a judgement of this mode is: its outputs see the names of its inputs and of its premises
abbrev pub is_valid_judgement_rule : Callable → Language → Mode → JudgementRule → Bool
is_valid_judgement_rule C L m r =
    rule_fits_mode m r
    && (is_well_formed_in L r.inputs
    && (are_valid_extras C L (uses 0 r.inputs) r.extras && list_all (fits C.functions (bound_by (case_uses r.inputs r.extras)) 0) r.outputs))

-- both patterns of the contract of a judgement of this mode are well formed and have as many items as it has inputs, and outputs, where there is one
abbrev pub is_valid_judgement_contract : Language → Mode → Option (Pattern × Pattern) → Bool
is_valid_judgement_contract L m None = true
is_valid_judgement_contract L m (Some c) =
    is_list_of (input_count m) c.0
    && (is_list_of (output_count m) c.1 && (is_well_formed_in L c.0 && is_well_formed_in L c.1))

-- a judgement over this language is valid, if there is one
abbrev pub is_valid_judgement : Callable → Option Language → Judgement → Bool
is_valid_judgement C None J = false
is_valid_judgement C (Some L) J =
    is_valid_judgement_contract L J.mode J.contract && list_all (is_valid_judgement_rule C L J.mode) J.rules

-- a rule of a relation is
abbrev pub is_valid_rule : Callable → Language → Rule → Bool
is_valid_rule C L r = is_valid_case C L r.pattern r.extras r.result

-- the domain of a relation is well formed, where it has one
abbrev pub is_valid_domain : Language → Option Pattern → Bool
is_valid_domain L None = true
is_valid_domain L (Some p) = is_well_formed_in L p

-- a relation over this language is valid, if there is one
abbrev pub is_valid_over : Callable → Option Language → Relation → Bool
is_valid_over C None R = false
is_valid_over C (Some L) R = is_valid_domain L R.domain && list_all (is_valid_rule C L) R.rules

-- what the rules of a program may call: its metafunctions, and its judgements by their modes
abbrev pub callable_in : Program → Callable
callable_in P = record {
  functions = λ x. is_some (metafunction_named P x);
  modes = λ x. option_map (λ J. J.mode) (judgement_named P x);
}

-- a relation is valid beside a program: its language is one of the program's
abbrev pub is_valid_beside : Program → Relation → Bool
is_valid_beside P R = is_valid_over (callable_in P) (language_named P R.language) R

-- a metafunction of a program is
abbrev pub is_valid_metafunction_of : Program → Metafunction → Bool
is_valid_metafunction_of P M = is_valid_metafunction (callable_in P) (language_named P M.language) M

-- a judgement of a program is
abbrev pub is_valid_judgement_of : Program → Judgement → Bool
is_valid_judgement_of P J = is_valid_judgement (callable_in P) (language_named P J.language) J

-- x is none of these
abbrev pub is_new : List ℕ → List (List ℕ) → Bool
is_new x [] = true
is_new x (y ∷ ys) = not (bytes_eq x y) && is_new x ys

-- each of these stands there once
abbrev pub are_distinct : List (List ℕ) → Bool
are_distinct [] = true
are_distinct (x ∷ xs) = is_new x xs && are_distinct xs

-- what a program defines goes by these names; languages, metafunctions, judgements and relations share one space of names
abbrev pub defined_names : Program → List (List ℕ)
defined_names P =
    map (λ L. L.name) P.languages ++ map (λ M. M.name) P.metafunctions ++ map (λ J. J.name) P.judgements ++ map (λ R. R.name) P.relations

-- a program is valid
abbrev pub is_valid : Program → Bool
is_valid P =
    are_distinct (defined_names P)
    && (list_all (is_valid_metafunction_of P) P.metafunctions && (list_all (is_valid_judgement_of P) P.judgements && list_all (is_valid_beside P) P.relations))
