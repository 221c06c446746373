use Rattle.std.proofs.Common.{[], ◌∷◌, Option, ap, sym, ◌∙◌}
use Rattle.std.specs.Prelude.{option_map}
use Rattle.std.proofs.lemmas.Result.{IfOk-weaker}
use Rattle.rdx_patterns.specs.Refusal.{Refusal, refusal_of, or_else, first_refusal}
use Rattle.rdx_forms.specs.ClosureForms.{unknown_closed_at}
use Rattle.rdx_forms.specs.ClosureForms as forms
use Rattle.rdx_forms.specs.LanguageForms.{name_taken_at}
use Rattle.rdx_forms.specs.RelationForms.{bad_relation_at}
use Rattle.rdx_forms.specs.KnownView.{known_of}
use Rattle.rdx_forms.specs.Inside.PartViews.{closure_of}
use Rattle.rdx_forms.proofs.CheckNumbers.{or_none}
use Rattle.rdx_forms.proofs.ClosureChecks.{behind-three}
use Rattle.rdx_forms.proofs.closure_forms.refuse_contexts.Goals as goal

pub returns-in-Some : goal.returns-in-Some
returns-in-Some c =
    let K = known_of c.args.known.now in
    let q = closure_of c.args.closure in
    let p : Option Refusal = first_refusal (unknown_closed_at K q ∷ []) in
    ap (λ (o : Option Refusal). or_else o p) (ap (option_map refusal_of) (sym c.in-Some.is) ∙ c.in_ok-refusal.ensures)
    ∙ behind-three (forms.closure_language_at K q) (name_taken_at K c.args.name.now) (bad_relation_at c.args.name.now) p

pub returns-in-None : goal.returns-in-None
returns-in-None c =
    let K = known_of c.args.known.now in
    let q = closure_of c.args.closure in
    let p : Option Refusal = first_refusal (unknown_closed_at K q ∷ []) in
    IfOk-weaker c.refuse_unknown.result _ _
    (λ r e. e
    ∙ sym (or_none (unknown_closed_at K q))
    ∙ ap (λ (o : Option Refusal). or_else o p) (ap (option_map refusal_of) (sym c.in-None.is) ∙ c.in_ok-refusal.ensures)
    ∙ behind-three (forms.closure_language_at K q) (name_taken_at K c.args.name.now) (bad_relation_at c.args.name.now) p)
    c.refuse_unknown.ensures
