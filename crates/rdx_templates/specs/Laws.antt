-- What follows from the definitions, stated for the contracts of the module of laws.
use Rattle.std.specs.Prelude.{◌≡◌, ◌⊎◌, None, IsSome, Ok, Err}
use Rattle.rdx_sexp.specs.Sexp.{Sexp}
use Rattle.rdx_lang.specs.TemplateView.{template_of, host_of}
use Rattle.rdx_lang.specs.declared.template.HostExpr.{HostExpr}
use Rattle.rdx_lang.specs.declared.template.Template.{Template}
use Rattle.rdx_patterns.specs.Refusal.{refusal_of}
use Rattle.rdx_patterns.specs.declared.shape.fault.DefFault.TheVariants.{Refused}
use Rattle.rdx_patterns.specs.declared.shape.fault.DefRefusal.{DefRefusal}
use Rattle.rdx_templates.specs.Answers.{ReadsTemplate, ReadsHost}
use Rattle.rdx_templates.specs.Bound.{Bound}
use Rattle.rdx_templates.specs.Scope.{Scope}
use Rattle.rdx_templates.specs.TemplateRefusal.{template_refusal, host_refusal}

-- ---- templates, in a scope, where some names are bound

-- a datum is one template at most
abbrev pub OneTemplate : Type 0
OneTemplate =
    (S : Scope) (bs : Bound) (d : Sexp) (t u : Template) → ReadsTemplate S bs d (Ok t) → ReadsTemplate S bs d (Ok u) → template_of t ≡ template_of u

-- a datum has one refusal as a template at most
abbrev pub OneTemplateRefusal : Type 0
OneTemplateRefusal =
    (S : Scope) (bs : Bound) (d : Sexp) (r q : DefRefusal) → ReadsTemplate S bs d (Err (Refused r)) → ReadsTemplate S bs d (Err (Refused q))
    → refusal_of r ≡ refusal_of q

-- a datum that is a template isn't refused as one
abbrev pub NeverBothTemplate : Type 0
NeverBothTemplate =
    (S : Scope) (bs : Bound) (d : Sexp) (t : Template) (r : DefRefusal) → ReadsTemplate S bs d (Ok t) → ReadsTemplate S bs d (Err (Refused r)) → ⊥

-- each datum is a template or refused as one
abbrev pub NeverNeitherTemplate : Type 0
NeverNeitherTemplate = (S : Scope) (bs : Bound) (d : Sexp) → (template_refusal S bs d ≡ None) ⊎ IsSome (template_refusal S bs d)

-- ---- host expressions

-- a datum is one host expression at most
abbrev pub OneHost : Type 0
OneHost = (S : Scope) (bs : Bound) (d : Sexp) (h g : HostExpr) → ReadsHost S bs d (Ok h) → ReadsHost S bs d (Ok g) → host_of h ≡ host_of g

-- a datum has one refusal as a host expression at most
abbrev pub OneHostRefusal : Type 0
OneHostRefusal =
    (S : Scope) (bs : Bound) (d : Sexp) (r q : DefRefusal) → ReadsHost S bs d (Err (Refused r)) → ReadsHost S bs d (Err (Refused q))
    → refusal_of r ≡ refusal_of q

-- a datum that is a host expression isn't refused as one
abbrev pub NeverBothHost : Type 0
NeverBothHost =
    (S : Scope) (bs : Bound) (d : Sexp) (h : HostExpr) (r : DefRefusal) → ReadsHost S bs d (Ok h) → ReadsHost S bs d (Err (Refused r)) → ⊥

-- each datum is a host expression or refused as one
abbrev pub NeverNeitherHost : Type 0
NeverNeitherHost = (S : Scope) (bs : Bound) (d : Sexp) → (host_refusal S bs d ≡ None) ⊎ IsSome (host_refusal S bs d)
