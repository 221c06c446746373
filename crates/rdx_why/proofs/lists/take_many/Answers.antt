use Rattle.std.proofs.Common.{◌∙◌, ◌≤◌, ℕ, List, sym, subst}
use Rattle.rdx_lang.specs.Ascending.{IsAscending}
use Rattle.rdx_lang.specs.Bindings.{name_cmp}
use Rattle.rdx_lang.specs.PatternView.{pattern_of}
use Rattle.rdx_lang.proofs.NameLaws.{names-ascend}
use Rattle.rdx_term.specs.View.{trees_of}
use Rattle.rdx_term.proofs.PutItems.{trees_count-trees_of}
use Rattle.rdx_why.proofs.LaidGoals.{room_for, takes_turns_of}
use Rattle.rdx_why.proofs.lists.take_many.Goals as goal

pub turn_goals-requires-clause-enough : goal.turn_goals-requires-clause-enough
turn_goals-requires-clause-enough c =
    subst (λ (n : ℕ). c.in-Some.count.now ≤ n) (trees_count-trees_of c.args.left.terms.now)
    (room_for (trees_of c.args.left.terms.now) c.requires.room c.in-Some.ensures.cases.0)

pub turn_goals-requires-clause-ascending : goal.turn_goals-requires-clause-ascending
turn_goals-requires-clause-ascending c =
    subst (λ (xs : List (List ℕ)). IsAscending name_cmp xs) (sym (c.deref.ensures.value ∙ c.in_ok-names.ensures))
    (names-ascend (pattern_of c.args.opened.now))

pub terms_behind-requires : goal.terms_behind-requires
terms_behind-requires c =
    subst (λ (n : ℕ). c.in-Some.count.now ≤ n) (trees_count-trees_of c.args.left.terms.now)
    (room_for (trees_of c.args.left.terms.now) c.requires.room c.in-Some.ensures.cases.0)

pub returns : goal.returns
returns c n m =
    takes_turns_of c.in-Some.ensures.cases.0 (c.deref.ensures.value ∙ c.in_ok-names.ensures) c.behind.ensures c.terms_behind.ensures
    c.in_ok-goals.ensures
