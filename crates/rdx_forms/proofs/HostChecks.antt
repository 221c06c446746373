-- Which check refuses a host expression in which no name is bound.
use Rattle.std.proofs.Common.{◌≡◌, List, [], ◌∷◌, None, Result, Ok, Err, refl, arith}
use Rattle.std.specs.Prelude.{option_map}
use Rattle.rdx_sexp.specs.Sexp.{Sexp}
use Rattle.rdx_lang.specs.declared.template.HostExpr.{HostExpr}
use Rattle.rdx_patterns.specs.Refusal.{unnamed, named, or_else}
use Rattle.rdx_patterns.specs.declared.shape.fault.DefFault.{DefFault}
use Rattle.rdx_patterns.specs.declared.shape.fault.DefFault.TheVariants.{Refused, NoMemory}
use Rattle.rdx_patterns.specs.declared.shape.fault.DefKind.TheVariants.{Shape, BadPattern, EllipsisDepth, EllipsisVariable, RacketEscape}
use Rattle.rdx_templates.specs.Answers.{ReadsHost}
use Rattle.rdx_templates.specs.Earliest.{start, earliest}
use Rattle.rdx_templates.specs.Scope.{Scope}
use Rattle.rdx_templates.specs.TemplateChecks.{bad_parts, shallow_parts, undriven_parts, escapes}
use Rattle.rdx_templates.specs.TemplateOccurrences.{TemplatePart, single, repeated, malformed, escape, host_parts}
use Rattle.rdx_templates.specs.TemplateRefusal.{host_refusal}
use Rattle.rdx_templates.specs.TemplateShapes.{host_shapes}
use Rattle.rdx_forms.specs.Faults.{IsRefusedBy}
use Rattle.rdx_forms.proofs.CheckNumbers.{Checks, AreChecks, refused, unnamed-number}

-- no name stands under too few ellipses where none is bound
pub no_shallow : (ps : List TemplatePart) → shallow_parts [] ps ≡ []
no_shallow [] = refl
no_shallow (single n d ∷ ps) = no_shallow ps
no_shallow (repeated d ∷ ps) = no_shallow ps
no_shallow (malformed d ∷ ps) = no_shallow ps
no_shallow (escape d ∷ ps) = no_shallow ps

-- the checks of a host expression where no name is bound
abbrev pub host_checks : Scope → Sexp → Checks
host_checks S d =
    (1, option_map (unnamed Shape) (earliest start (host_shapes d)))
    ∷ (5, option_map (unnamed BadPattern) (earliest start (bad_parts (host_parts S [] 0 d))))
    ∷ (9, option_map (unnamed EllipsisVariable) (earliest start (undriven_parts S [] (host_parts S [] 0 d))))
    ∷ (10, option_map (unnamed RacketEscape) (earliest start (escapes (host_parts S [] 0 d))))
    ∷ []

-- their numbers ascend
pub host-checks : (S : Scope) (d : Sexp) → AreChecks 0 (host_checks S d)
host-checks S d = (
  omega arith,
  (
    unnamed-number Shape _,
    (omega arith, (unnamed-number BadPattern _, (omega arith, (unnamed-number EllipsisVariable _, (omega arith, (unnamed-number RacketEscape _, tt)))))),
  ),
)

-- they refuse it
pub host-refusal : (S : Scope) (d : Sexp) → host_refusal S [] d ≡ refused (host_checks S d)
host-refusal S d =
    let ps = host_parts S [] 0 d in
    let last = or_else (option_map (unnamed EllipsisVariable) (earliest start (undriven_parts S [] ps))) (or_else (option_map (unnamed RacketEscape) (earliest start (escapes ps))) None) in
    λ i. or_else (option_map (unnamed Shape) (earliest start (host_shapes d)))
    (or_else (option_map (unnamed BadPattern) (earliest start (bad_parts ps))) (or_else (option_map (named EllipsisDepth) (earliest start (no_shallow ps i))) last))

-- what is read of it is refused so
pub host-refused : (S : Scope) (d : Sexp) (x : Result HostExpr DefFault) → ReadsHost S [] d x → IsRefusedBy (host_refusal S [] d) x
host-refused S d (Ok h) a = a.0
host-refused S d (Err (Refused r)) a = a
host-refused S d (Err NoMemory) a = tt
