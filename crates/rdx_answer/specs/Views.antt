-- What the values of the code stand for.
use Rattle.std.specs.Prelude.{ℕ, List, [], ◌∷◌, Vec, map, option_map}
use Rattle.std.specs.declared.alloc.Global.{Global}
use Rattle.rdx_alpha.specs.View.{forms_of}
use Rattle.rdx_alpha.specs.declared.form.BindingForm.{BindingForm}
use Rattle.rdx_lang.specs.Checked.{pattern_in}
use Rattle.rdx_lang.specs.ProgramView.{premise_of, program_of}
use Rattle.rdx_lang.specs.Programs.{Program}
use Rattle.rdx_lang.specs.TemplateView.{host_of, template_of}
use Rattle.rdx_answer.specs.Bound.{Bound, forms_named}
use Rattle.rdx_answer.specs.Queries as model
use Rattle.rdx_answer.specs.declared.answers.Mode.{Mode}
use Rattle.rdx_answer.specs.declared.answers.Mode.TheVariants.{Run, Step, Why}
use Rattle.rdx_answer.specs.declared.queries.CheckedFile.{CheckedFile}
use Rattle.rdx_answer.specs.declared.queries.Query.{Query}
use Rattle.rdx_answer.specs.declared.queries.Query.TheVariants.{Match, Whether, Decompose, Value, Holds, Reducts, Tagged, Stepper, Generate, Check, Alpha, Substitute, TestEqual, TestStep, TestRun, TestMatch, TestHolds, TestResults}

-- the binding forms of languages, each under its name
abbrev pub bound_of : List (List ℕ × Vec BindingForm Global) → List Bound
bound_of ps = map (λ p. (p.0, forms_of p.1.items)) ps

-- what a query of the code asks, where the languages have these binding forms
abbrev pub query_of : List Bound → Query → model.Query
query_of bs (Match name p h) = model.matches name (pattern_in p) (host_of h)
query_of bs (Whether name p h) = model.whether name (pattern_in p) (host_of h)
query_of bs (Decompose name p h) = model.splits name (pattern_in p) (host_of h)
query_of bs (Value h) = model.value (host_of h)
query_of bs (Holds q t) = model.holds (premise_of q) (option_map template_of t)
query_of bs (Reducts name h) = model.reducts name (host_of h)
query_of bs (Tagged name h) = model.tagged name (host_of h)
query_of bs (Stepper name h) = model.stepper name (host_of h)
query_of bs (Generate name p size seed) = model.generate name (pattern_in p) size seed
query_of bs (Check name p h attempts seed) = model.check name (pattern_in p) (host_of h) attempts seed
query_of bs (Alpha name h k) = model.alike (forms_named bs name) (host_of h) (host_of k)
query_of bs (Substitute name h k l) = model.substituted (forms_named bs name) (host_of h) (host_of k) (host_of l)
query_of bs (TestEqual h k) = model.test_equal (host_of h) (host_of k)
query_of bs (TestStep name h ks) = model.test_step name (host_of h) (map host_of ks.items)
query_of bs (TestRun name h ks) = model.test_run name (host_of h) (map host_of ks.items)
query_of bs (TestMatch name p h wanted) = model.test_match name (pattern_in p) (host_of h) wanted
query_of bs (TestHolds q) = model.test_holds (premise_of q)
query_of bs TestResults = model.test_results

-- the choices by which walks go in a mode: none, where the file is only run, or asked why
abbrev pub choices_of : Mode → List ℕ
choices_of Run = []
choices_of Why = []
choices_of (Step choices) = choices.items

-- what a file defines
abbrev pub program_in : CheckedFile → Program
program_in f = program_of f.program

-- the binding forms of a file's languages
abbrev pub bound_in : CheckedFile → List Bound
bound_in f = bound_of f.forms.items

-- a file's queries, in their order
abbrev pub queries_of : CheckedFile → List model.Query
queries_of f = map (query_of (bound_in f)) f.queries.items

-- what these queries name is known
abbrev pub AllNamesKnown : Program → List model.Query → Type 0
AllNamesKnown P [] = Unit {0}
AllNamesKnown P (q ∷ qs) = model.NamesKnown P q × AllNamesKnown P qs
