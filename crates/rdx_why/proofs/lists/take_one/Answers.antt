use Rattle.std.proofs.Common.{◌∙◌, ◌∷◌, [], ◌++◌, ℕ, List, map, sym, ap, subst}
use Rattle.rdx_lang.specs.Ascending.{IsAscending}
use Rattle.rdx_lang.specs.Bindings.{name_cmp}
use Rattle.rdx_lang.specs.PatternView.{pattern_of}
use Rattle.rdx_lang.proofs.NameLaws.{names-ascend}
use Rattle.rdx_term.specs.View.{trees_of}
use Rattle.rdx_deriv.specs.DerivationView.{goal_of}
use Rattle.rdx_why.proofs.LaidGoals.{takes_single}
use Rattle.rdx_why.proofs.lists.take_one.Goals as goal

pub single_goal-requires-clause-ascending : goal.single_goal-requires-clause-ascending
single_goal-requires-clause-ascending c =
    subst (λ (xs : List (List ℕ)). IsAscending name_cmp xs) (sym (c.deref.ensures.value ∙ c.in_ok-names.ensures))
    (names-ascend (pattern_of c.args.opened.now))

pub returns : goal.returns
returns c =
    let items = c.in_ok-push.ensures.items ∙ ap (λ gs. gs ++ c.in_ok-single_goal.field-0 ∷ []) c.in_ok-goals.ensures.items in
    takes_single (ap trees_of c.in-Some.ensures.cases.0) (c.deref.ensures.value ∙ c.in_ok-names.ensures) (ap (map goal_of) items) c.behind.ensures
    c.in_ok-single_goal.ensures
