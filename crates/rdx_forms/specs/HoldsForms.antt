-- Forms that ask whether a premise is met, `(judgment-holds (J d ...))`, or what a template makes of the bindings that meet it,
-- `(judgment-holds (J d ...) t)`, and tests that it is met, `(test-judgment-holds (J d ...))`: when they are refused, and what they ask else. The patterns of the premise are in the language of its judgement.
use Rattle.std.specs.Prelude.{ℕ, List, [], ◌∷◌, Option, Some, None, option_map}
use Rattle.rdx_sexp.specs.Sexp.{Sexp}
use Rattle.rdx_lang.specs.Patterns.{Language}
use Rattle.rdx_lang.specs.Programs.{Premise, language_named}
use Rattle.rdx_grammar.specs.Languages.{empty_language}
use Rattle.rdx_patterns.specs.Nonterminals.{names_of}
use Rattle.rdx_patterns.specs.Parts.{parts, text_of}
use Rattle.rdx_patterns.specs.Refusal.{Refusal, first_refusal, named_at, unnamed}
use Rattle.rdx_patterns.specs.declared.shape.fault.DefKind.TheVariants.{Shape, UnknownLanguage}
use Rattle.rdx_parts.specs.ExtraReading.{premise_reading}
use Rattle.rdx_parts.specs.Headed.{Headed, headed}
use Rattle.rdx_defs.specs.JudgementRefusal.{lone_premise_stands}
use Rattle.rdx_templates.specs.TemplateReading.{template_reading}
use Rattle.rdx_parts.specs.StandChecks.{shape_at, bad_name_at, bad_place_at, depth_fault_at, unknown_name_at, undriven_at, escape_at, mode_fault_at}
use Rattle.rdx_parts.specs.Stands.{Stand, names_bound, bound_by_premise}
use Rattle.rdx_forms.specs.Known.{Known, judgement_language, or_empty}
use Rattle.rdx_answer.specs.Queries.{Query, holds, test_holds}

-- ---- the parts

-- what has to be a premise, and a template, where there is one
pub record HoldsParts : Type 0 where
  pub premise : Sexp
  pub result : Option Sexp

-- the parts of a list `(head d)` or `(head d t)`
abbrev pub holds_among : Option (List Sexp) → Option HoldsParts
holds_among (Some (h ∷ d ∷ [])) = Some (record { premise = d; result = None })
holds_among (Some (h ∷ d ∷ t ∷ [])) = Some (record { premise = d; result = Some t })
holds_among o = None

-- the parts of such a form, where it has two or three items
abbrev pub holds_parts : Sexp → Option HoldsParts
holds_parts d = holds_among (parts d)

-- the parts of a list `(head d)` alone
abbrev pub lone_among : Option (List Sexp) → Option HoldsParts
lone_among (Some (h ∷ d ∷ [])) = Some (record { premise = d; result = None })
lone_among o = None

-- the parts of a test, where it has two items
abbrev pub lone_parts : Sexp → Option HoldsParts
lone_parts d = lone_among (parts d)

-- ---- the language

-- the name of the language of the judgement that a premise asks, where the file has that
abbrev pub asked_language : Known → Option Headed → Option (List ℕ)
asked_language K None = None
asked_language K (Some q) = judgement_language K (text_of q.head)

-- the language of this name, where there is one and a form before defines it; else one without nonterminals
abbrev pub language_or_empty : Known → Option (List ℕ) → Language
language_or_empty K None = empty_language
language_or_empty K (Some l) = or_empty (language_named K.program l)

-- the nonterminals over which a premise is read
abbrev pub asked_names : Known → Option Headed → List (List ℕ)
asked_names K q = names_of (language_or_empty K (asked_language K q))

-- the name j of a judgement in a language of this name, where no language was found by that
abbrev pub unfound : Option Language → Sexp → List ℕ → Option Refusal
unfound None j l = Some (named_at UnknownLanguage j l)
unfound (Some L) j l = None

-- the same, where the file has the judgement
abbrev pub unfound_for : Known → Sexp → Option (List ℕ) → Option Refusal
unfound_for K j None = None
unfound_for K j (Some l) = unfound (language_named K.program l) j l

-- S2: no form before defines the language of the judgement
abbrev pub asked_unknown_at : Known → Option Headed → Option Refusal
asked_unknown_at K None = None
asked_unknown_at K (Some q) = unfound_for K q.head (judgement_language K (text_of q.head))

-- ---- all checks

-- the refusal of the form d with these parts of a premise, in which these stand
abbrev pub holds_refusal_over : Known → Sexp → Option Headed → List Stand → Option Refusal
holds_refusal_over K d q ss =
    first_refusal
    (shape_at ss  -- S1
    ∷ asked_unknown_at K q  -- S2
    ∷ bad_name_at ss  -- S4
    ∷ bad_place_at K.scope (asked_names K q) ss  -- S5
    ∷ depth_fault_at K.scope (asked_names K q) ss  -- S6
    ∷ unknown_name_at K.scope ss  -- S8
    ∷ undriven_at K.scope ss  -- S9
    ∷ escape_at K.scope ss  -- S10
    ∷ mode_fault_at ss  -- S11
    ∷ [])

-- the refusal of a form with these parts
abbrev pub holds_refusal : Known → Sexp → Option HoldsParts → Option Refusal
holds_refusal K d None = Some (unnamed Shape d)  -- S1
holds_refusal K d (Some h) =
    holds_refusal_over K d (headed h.premise) (lone_premise_stands K.scope (asked_names K (headed h.premise)) h.premise h.result)

-- ---- what is asked

-- the premise with these parts
abbrev pub asked_premise : Known → Headed → Premise
asked_premise K q = premise_reading K.scope (asked_names K (Some q)) [] q

-- the query of a premise with these parts, and of a template behind it
abbrev pub holds_over : Known → Option Sexp → Headed → Query
holds_over K t q =
    holds
    (asked_premise K q)
    (option_map (template_reading K.scope (names_bound (bound_by_premise K.scope (asked_names K (Some q)) (Some q)))) t)

-- the query of a form with these parts, if the premise has its shape
abbrev pub holds_by : Known → Option HoldsParts → Option Query
holds_by K None = None
holds_by K (Some h) = option_map (holds_over K h.result) (headed h.premise)

-- the query that the form d asks, if it has the parts
abbrev pub holds_query : Known → Sexp → Option Query
holds_query K d = holds_by K (holds_parts d)

-- the test of a premise with these parts, if it has its shape
abbrev pub holds_test_by : Known → Option HoldsParts → Option Query
holds_test_by K None = None
holds_test_by K (Some h) = option_map (λ q. test_holds (asked_premise K q)) (headed h.premise)

-- the test that the form d is, if it has the parts
abbrev pub holds_test_query : Known → Sexp → Option Query
holds_test_query K d = holds_test_by K (lone_parts d)
