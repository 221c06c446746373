-- The parts that values of the code stand for.
use Rattle.std.specs.Prelude.{Bool, true, false, List, [], ◌∷◌, Option, Some, None, option_map, if◌then◌else◌}
use Rattle.rdx_patterns.specs.Parts.{parts, is_symbol}
use Rattle.rdx_parts.specs.Headed.{headed}
use Rattle.rdx_sexp.specs.Sexp.{Sexp}
use Rattle.rdx_forms.specs.AlphaForms as binding
use Rattle.rdx_forms.specs.GenerateForms as generating
use Rattle.rdx_forms.specs.HoldsForms as holding
use Rattle.rdx_forms.specs.MatchForms as matching
use Rattle.rdx_forms.specs.DefineParts as defining
use Rattle.rdx_forms.specs.DefineParts.{DefineKind, by_cases, by_contexts, by_crosses}
use Rattle.rdx_forms.specs.StepForms as stepping
use Rattle.rdx_forms.specs.TestForms as testing
use Rattle.rdx_forms.specs.declared.parts.AlikeParts.{AlikeParts}
use Rattle.rdx_forms.specs.declared.parts.PutParts.{PutParts}
use Rattle.rdx_forms.specs.declared.parts.ClosureParts.{ClosureParts}
use Rattle.rdx_forms.specs.declared.parts.DefineKind as code_kind
use Rattle.rdx_forms.specs.declared.parts.DefineKind.TheVariants.{Cases, Contexts, Crosses}
use Rattle.rdx_forms.specs.declared.parts.DefineParts.{DefineParts}
use Rattle.rdx_forms.specs.declared.parts.EqualParts.{EqualParts}
use Rattle.rdx_forms.specs.declared.parts.GenerateParts.{GenerateParts}
use Rattle.rdx_forms.specs.declared.parts.HoldsParts.{HoldsParts}
use Rattle.rdx_forms.specs.declared.parts.LeadingParts.{LeadingParts}
use Rattle.rdx_forms.specs.declared.parts.QueryParts.{QueryParts}
use Rattle.rdx_forms.specs.declared.parts.StepParts.{StepParts}

-- the parts of a query that parts of the code stand for
abbrev pub parts_of : QueryParts → matching.QueryParts
parts_of q = record { language = q.language.now; pattern = q.pattern.now; host = q.host.now }

-- those of a form that generates a term or checks a property
abbrev pub generate_of : GenerateParts → generating.GenerateParts
generate_of q = record { language = q.language.now; pattern = q.pattern.now; third = q.third.now; options = q.options.now }

-- those of a form that asks for steps
abbrev pub steps_of : StepParts → stepping.StepParts
steps_of q = record { relation = q.relation.now; host = q.host.now }

-- those of a test of two host expressions
abbrev pub equals_of : EqualParts → testing.EqualParts
equals_of q = record { found = q.found.now; wanted = q.wanted.now }

-- those of a form that asks whether terms are alpha equivalent
abbrev pub alike_of : AlikeParts → binding.AlikeParts
alike_of q = record { language = q.language.now; one = q.one.now; other = q.other.now }

-- those of a form that puts a term for a symbol
abbrev pub put_of : PutParts → binding.PutParts
put_of q = record { language = q.language.now; whole = q.whole.now; symbol = q.symbol.now; value = q.value.now }

-- those of a test of a relation
abbrev pub leading_of : LeadingParts → testing.LeadingParts
leading_of q = record { relation = q.relation.now; from = q.from.now; wanted = q.wanted.now }

-- those of a form that asks whether a premise is met
abbrev pub holds_of : HoldsParts → holding.HoldsParts
holds_of q = record { premise = q.premise.now; result = option_map (λ d. d.now) q.result }

-- the symbol that heads a premise
abbrev pub judgement_head : Sexp → Option Sexp
judgement_head d = option_map (λ h. h.head) (headed d)

-- what the code knows of the parts of a form that defines a relation
pub record Defining : Type 0 where
  pub kind : DefineKind
  pub name : Sexp
  pub body : Sexp
  pub more : Bool

-- there is something
abbrev pub is_more : List Sexp → Bool
is_more [] = false
is_more (d ∷ ds) = true

-- of its parts
abbrev pub defining_by : defining.DefineParts → Defining
defining_by q = record { kind = q.kind; name = q.name; body = q.body; more = is_more q.rest }

-- of its parts, where it is told whether something stands behind
abbrev pub defining_with : Bool → defining.DefineParts → Defining
defining_with b q = record { kind = q.kind; name = q.name; body = q.body; more = b }

-- what the code says of a list
abbrev pub define_kind_of : code_kind.DefineKind → DefineKind
define_kind_of Cases = by_cases
define_kind_of Contexts = by_contexts
define_kind_of Crosses = by_crosses

-- of parts of the code
abbrev pub defining_of : DefineParts → Defining
defining_of q = record { kind = define_kind_of q.kind; name = q.name.now; body = q.body.now; more = q.has_more }

-- the parts of a closure that parts of the code stand for
abbrev pub closure_of : ClosureParts → defining.ClosureParts
closure_of q = record { relation = q.relation.now; language = q.language.now; by = q.by.now }

-- the second of the items
abbrev pub second_among : Option (List Sexp) → Option Sexp
second_among (Some (h ∷ l ∷ ds)) = Some l
second_among o = None

-- the second item, which is the name where a form defines a language
abbrev pub second_item : Sexp → Option Sexp
second_item d = second_among (parts d)

-- an item, where it is a symbol
abbrev pub symbol_item : Option Sexp → Option Sexp
symbol_item None = None
symbol_item (Some l) = if is_symbol l then Some l else None

-- the second item, where it is a symbol, which names a language in a form that defines a metafunction or a judgement, and in a list that says what a
-- relation is
abbrev pub language_item : Sexp → Option Sexp
language_item d = symbol_item (second_item d)
