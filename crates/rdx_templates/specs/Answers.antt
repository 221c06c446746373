-- What the readers of templates and host expressions answer.
use Rattle.std.specs.Prelude.{◌≡◌, Some, None, Result, Ok, Err}
use Rattle.rdx_sexp.specs.Sexp.{Sexp}
use Rattle.rdx_lang.specs.TemplateView.{template_of, host_of}
use Rattle.rdx_lang.specs.declared.template.HostExpr.{HostExpr}
use Rattle.rdx_lang.specs.declared.template.Template.{Template}
use Rattle.rdx_patterns.specs.Refusal.{refusal_of}
use Rattle.rdx_patterns.specs.declared.shape.fault.DefFault.{DefFault}
use Rattle.rdx_patterns.specs.declared.shape.fault.DefFault.TheVariants.{Refused, NoMemory}
use Rattle.rdx_templates.specs.Bound.{Bound}
use Rattle.rdx_templates.specs.Scope.{Scope}
use Rattle.rdx_templates.specs.TemplateReading.{template_reading, host_reading}
use Rattle.rdx_templates.specs.TemplateRefusal.{template_refusal, host_refusal}

-- ---- templates

-- the datum is refused so as a template, unless memory ran out
abbrev pub IsTemplateFault : Scope → Bound → Sexp → DefFault → Type 0
IsTemplateFault S bs d (Refused r) = template_refusal S bs d ≡ Some (refusal_of r)
IsTemplateFault S bs d NoMemory = Unit {0}

-- the datum is this template in this scope, where these names are bound, or it is refused so
abbrev pub ReadsTemplate : Scope → Bound → Sexp → Result Template DefFault → Type 0
ReadsTemplate S bs d (Ok t) = (template_refusal S bs d ≡ None) × (template_of t ≡ template_reading S bs d)
ReadsTemplate S bs d (Err e) = IsTemplateFault S bs d e

-- ---- host expressions

-- the datum is refused so as a host expression, unless memory ran out
abbrev pub IsHostFault : Scope → Bound → Sexp → DefFault → Type 0
IsHostFault S bs d (Refused r) = host_refusal S bs d ≡ Some (refusal_of r)
IsHostFault S bs d NoMemory = Unit {0}

-- the datum is this host expression in this scope, where these names are bound, or it is refused so
abbrev pub ReadsHost : Scope → Bound → Sexp → Result HostExpr DefFault → Type 0
ReadsHost S bs d (Ok h) = (host_refusal S bs d ≡ None) × (host_of h ≡ host_reading S bs d)
ReadsHost S bs d (Err e) = IsHostFault S bs d e
