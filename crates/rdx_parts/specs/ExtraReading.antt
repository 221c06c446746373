-- What extras ask, over the nonterminals ns of their language. Extras that are refused ask something too, which counts for nothing.
use Rattle.std.specs.Prelude.{ℕ, List, [], ◌∷◌, ◌++◌, Option, Some, None, map}
use Rattle.rdx_sexp.specs.Sexp.{Sexp, sexps}
use Rattle.rdx_lang.specs.Programs as model
use Rattle.rdx_lang.specs.Patterns as trees
use Rattle.rdx_lang.specs.Patterns.{Pattern, Items, seq, nil}
use Rattle.rdx_lang.specs.Programs.{Extra, such_as, holds, Premise}
use Rattle.rdx_lang.specs.Templates.{Template, term}
use Rattle.rdx_patterns.specs.Heads.{patterns as items_of_list}
use Rattle.rdx_patterns.specs.Parts.{text_of}
use Rattle.rdx_patterns.specs.PatternChecks as patterns
use Rattle.rdx_patterns.specs.Reading.{reading, items_among}
use Rattle.rdx_patterns.specs.declared.patterns.position.Position.TheVariants.{Query}
use Rattle.rdx_templates.specs.Bound.{Bound}
use Rattle.rdx_templates.specs.Scope.{Scope}
use Rattle.rdx_templates.specs.TemplateReading.{template_reading, host_reading}
use Rattle.rdx_parts.specs.Arguments.{Arguments, patterns_in, templates_in}
use Rattle.rdx_parts.specs.ExtraForms.{ExtraForm, such_that, provided, confirmed, holding, freshly, name, no_extra, ExtraPlace, form_at}
use Rattle.rdx_parts.specs.Headed.{Headed, headed}
use Rattle.rdx_parts.specs.Stands.{names_bound, bound_by_extra, premise_arguments}

-- ---- premises

-- the item patterns of these data, which stand as the items of a list pattern
abbrev pub argument_items : List (List ℕ) → List Sexp → Items
argument_items ns ds = items_among ns Query items_of_list (sexps ds)

-- an item for each of these patterns
abbrev pub items_reading : List (List ℕ) → List Sexp → Items
items_reading ns [] = nil
items_reading ns (d ∷ ds) = trees.one (reading ns Query d) (items_reading ns ds)

-- the pattern of lists by them
abbrev pub list_reading : List (List ℕ) → List Sexp → Pattern
list_reading ns ds = seq (items_reading ns ds)

-- these templates, where these names are bound
abbrev pub templates_reading : Scope → Bound → List Sexp → List Template
templates_reading S es ds = map (template_reading S es) ds

-- the premise of this judgement with such arguments, behind names that are bound
abbrev pub premise_with : Scope → List (List ℕ) → Bound → Sexp → Arguments → Premise
premise_with S ns es j a = record {
  judgement = text_of j;
  inputs = templates_reading S es (templates_in a);
  outputs = list_reading ns (patterns_in a);
}

-- the premise of such a list
abbrev pub premise_reading : Scope → List (List ℕ) → Bound → Headed → Premise
premise_reading S ns es q = premise_with S ns es q.head (premise_arguments S q)

-- what it asks, where it is one
abbrev pub held_reading : Scope → List (List ℕ) → Bound → Option Headed → List Extra
held_reading S ns es None = []
held_reading S ns es (Some q) = holds (premise_reading S ns es q) ∷ []

-- ---- extras

-- what an extra asks, behind symbols that bind names, where it asks something
abbrev pub extra_reading : Scope → List (List ℕ) → List patterns.Bound → ExtraForm → List Extra
extra_reading S ns bs (such_that p t) = such_as (reading ns Query p) (template_reading S (names_bound bs) t) ∷ []
extra_reading S ns bs (provided h) = model.provided (host_reading S (names_bound bs) h) ∷ []
extra_reading S ns bs (confirmed t) = model.provided (term (template_reading S (names_bound bs) t)) ∷ []
extra_reading S ns bs (holding d) = held_reading S ns (names_bound bs) (headed d)
extra_reading S ns bs (freshly ds) = map (λ d. model.fresh (text_of d)) ds
extra_reading S ns bs name = []
extra_reading S ns bs no_extra = []

-- what extras ask, one after the other
abbrev pub extras_reading : ExtraPlace → Scope → List (List ℕ) → List patterns.Bound → List Sexp → List Extra
extras_reading k S ns bs [] = []
extras_reading k S ns bs (d ∷ ds) =
    extra_reading S ns bs (form_at k d) ++ extras_reading k S ns (bs ++ bound_by_extra S ns (form_at k d)) ds
