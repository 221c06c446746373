-- What follows from the definitions of metafunctions, stated for the contracts of the module of laws.
use Rattle.std.specs.Prelude.{◌≡◌, ℕ, List, ◌⊎◌, None, IsSome, Ok, Err}
use Rattle.rdx_sexp.specs.Sexp.{Sexp}
use Rattle.rdx_lang.specs.ProgramView.{metafunction_of}
use Rattle.rdx_lang.specs.declared.program.Metafunction.{Metafunction}
use Rattle.rdx_patterns.specs.Refusal.{refusal_of}
use Rattle.rdx_patterns.specs.declared.shape.fault.DefFault.TheVariants.{Refused}
use Rattle.rdx_patterns.specs.declared.shape.fault.DefRefusal.{DefRefusal}
use Rattle.rdx_defs.specs.Answers.{ReadsMetafunction}
use Rattle.rdx_defs.specs.MetafunctionForms.{metafunction_form}
use Rattle.rdx_defs.specs.MetafunctionRefusal.{metafunction_refusal}
use Rattle.rdx_templates.specs.Scope.{Scope}

-- ---- in a given scope, over given nonterminals

-- a datum is one metafunction at most
abbrev pub OneMetafunction : Type 0
OneMetafunction =
    (S : Scope) (ns : List (List ℕ)) (d : Sexp) (f g : Metafunction) → ReadsMetafunction S ns d (Ok f) → ReadsMetafunction S ns d (Ok g)
    → metafunction_of f ≡ metafunction_of g

-- a datum has one refusal as a metafunction at most
abbrev pub OneMetafunctionRefusal : Type 0
OneMetafunctionRefusal =
    (S : Scope) (ns : List (List ℕ)) (d : Sexp) (r q : DefRefusal) → ReadsMetafunction S ns d (Err (Refused r))
    → ReadsMetafunction S ns d (Err (Refused q)) → refusal_of r ≡ refusal_of q

-- a datum that is a metafunction isn't refused as one
abbrev pub NeverBothMetafunction : Type 0
NeverBothMetafunction =
    (S : Scope) (ns : List (List ℕ)) (d : Sexp) (f : Metafunction) (q : DefRefusal) → ReadsMetafunction S ns d (Ok f)
    → ReadsMetafunction S ns d (Err (Refused q)) → ⊥

-- each datum has the parts of a metafunction and passes the checks, or is refused as one
abbrev pub NeverNeitherMetafunction : Type 0
NeverNeitherMetafunction =
    (S : Scope) (ns : List (List ℕ)) (d : Sexp)
    → ((metafunction_refusal S ns d ≡ None) × IsSome (metafunction_form d)) ⊎ IsSome (metafunction_refusal S ns d)
