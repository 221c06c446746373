-- What the kinds of the code stand for.
use Rattle.rdx_forms.specs.FormKinds as model
use Rattle.rdx_query.specs.declared.kind.DefinitionKind.{DefinitionKind}
use Rattle.rdx_query.specs.declared.kind.DefinitionKind.TheVariants.{Language, Extension, Metafunction, Judgement, Relation}
use Rattle.rdx_query.specs.declared.kind.FormKind.{FormKind}
use Rattle.rdx_query.specs.declared.kind.FormKind.TheVariants.{Defines, Asks, Passes}
use Rattle.rdx_query.specs.declared.kind.PassedKind.{PassedKind}
use Rattle.rdx_query.specs.declared.kind.PassedKind.TheVariants.{Wants, Offers}
use Rattle.rdx_query.specs.declared.kind.QueryKind.{QueryKind}
use Rattle.rdx_query.specs.declared.kind.QueryKind.TheVariants.{Match, Whether, Decompose, Value, Holds, Reducts, Tagged, Stepper, Generate, Check, Alike, Put, Test}
use Rattle.rdx_query.specs.declared.kind.TestKind.{TestKind}
use Rattle.rdx_query.specs.declared.kind.TestKind.TheVariants as tests

-- what a form defines
abbrev pub definition_kind_of : DefinitionKind → model.DefinitionKind
definition_kind_of Language = model.language
definition_kind_of Extension = model.extension
definition_kind_of Metafunction = model.metafunction
definition_kind_of Judgement = model.judgement
definition_kind_of Relation = model.relation

-- what a test asks
abbrev pub test_kind_of : TestKind → model.QueryKind
test_kind_of tests.Equal = model.test_equal
test_kind_of tests.Step = model.test_step
test_kind_of tests.Run = model.test_run
test_kind_of tests.Match = model.test_match
test_kind_of tests.NoMatch = model.test_no_match
test_kind_of tests.Holds = model.test_holds
test_kind_of tests.Results = model.test_results

-- what a form asks
abbrev pub query_kind_of : QueryKind → model.QueryKind
query_kind_of Match = model.matches
query_kind_of Whether = model.whether
query_kind_of Decompose = model.splits
query_kind_of Value = model.value
query_kind_of Holds = model.holds
query_kind_of Reducts = model.reducts
query_kind_of Tagged = model.tagged
query_kind_of Stepper = model.stepper
query_kind_of Generate = model.generate
query_kind_of Check = model.check
query_kind_of Alike = model.alike
query_kind_of Put = model.put
query_kind_of (Test k) = test_kind_of k

-- what is passed over
abbrev pub passed_kind_of : PassedKind → model.PassedKind
passed_kind_of Wants = model.wants
passed_kind_of Offers = model.offers

-- what a form does
abbrev pub kind_of : FormKind → model.FormKind
kind_of (Defines k) = model.defines (definition_kind_of k)
kind_of (Asks k) = model.asks (query_kind_of k)
kind_of (Passes k) = model.passes (passed_kind_of k)
