-- What follows from the definitions of judgements, stated for the contracts of the module of laws.
use Rattle.std.specs.Prelude.{◌≡◌, ℕ, List, ◌⊎◌, None, IsSome, Ok, Err}
use Rattle.rdx_sexp.specs.Sexp.{Sexp}
use Rattle.rdx_lang.specs.ProgramView.{judgement_of}
use Rattle.rdx_lang.specs.declared.program.Judgement.{Judgement}
use Rattle.rdx_patterns.specs.Refusal.{refusal_of}
use Rattle.rdx_patterns.specs.declared.shape.fault.DefFault.TheVariants.{Refused}
use Rattle.rdx_patterns.specs.declared.shape.fault.DefRefusal.{DefRefusal}
use Rattle.rdx_defs.specs.Answers.{ReadsJudgement}
use Rattle.rdx_defs.specs.JudgementForms.{judgement_form}
use Rattle.rdx_defs.specs.JudgementRefusal.{judgement_refusal}
use Rattle.rdx_templates.specs.Scope.{Scope}

-- ---- in a given scope, over given nonterminals

-- a datum is one judgement at most
abbrev pub OneJudgement : Type 0
OneJudgement =
    (S : Scope) (ns : List (List ℕ)) (d : Sexp) (j k : Judgement) → ReadsJudgement S ns d (Ok j) → ReadsJudgement S ns d (Ok k)
    → judgement_of j ≡ judgement_of k

-- a datum has one refusal as a judgement at most
abbrev pub OneJudgementRefusal : Type 0
OneJudgementRefusal =
    (S : Scope) (ns : List (List ℕ)) (d : Sexp) (r q : DefRefusal) → ReadsJudgement S ns d (Err (Refused r))
    → ReadsJudgement S ns d (Err (Refused q)) → refusal_of r ≡ refusal_of q

-- a datum that is a judgement isn't refused as one
abbrev pub NeverBothJudgement : Type 0
NeverBothJudgement =
    (S : Scope) (ns : List (List ℕ)) (d : Sexp) (j : Judgement) (q : DefRefusal) → ReadsJudgement S ns d (Ok j)
    → ReadsJudgement S ns d (Err (Refused q)) → ⊥

-- each datum has the parts of a judgement and passes the checks, or is refused as one
abbrev pub NeverNeitherJudgement : Type 0
NeverNeitherJudgement =
    (S : Scope) (ns : List (List ℕ)) (d : Sexp)
    → ((judgement_refusal S ns d ≡ None) × IsSome (judgement_form d)) ⊎ IsSome (judgement_refusal S ns d)
