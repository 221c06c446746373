use Rattle.std.proofs.Common.{◌+◌, ◌*◌, [], drop, take, map}
use Rattle.rdx_term.specs.View.{tree_of}
use Rattle.rdx_lang.specs.Checked.{language_in, pattern_in}
use Rattle.rdx_lang.specs.ProgramView.{clauses_of, extras_of, judgement_rules_of, premise_of}
use Rattle.rdx_lang.specs.Shown.{bindings_of}
use Rattle.rdx_lang.specs.Templates.{Template}
use Rattle.rdx_lang.specs.TemplateView.{host_of, template_of}
use Rattle.rdx_eval.specs.Answers.{Single}
use Rattle.rdx_eval.specs.Extending.{ByPremise}
use Rattle.rdx_eval.specs.Fresh.{avoiding}
use Rattle.rdx_eval.specs.Inside.Asked.{pattern_found}
use Rattle.rdx_eval.specs.Inside.Extras.{WhereOne, SideOne}
use Rattle.rdx_eval.specs.Inside.Frames.{Gives, IsPending}
use Rattle.rdx_eval.specs.Inside.Memos.{IsMemoIn}
use Rattle.rdx_eval.specs.Inside.Scopes.{calls_in, calls_here, bound_here}
use Rattle.rdx_eval.specs.Inside.Weights.{frames_weight, next_weight}
use Rattle.rdx_eval.specs.Instantiation.{Inst, Makes}
use Rattle.rdx_eval.specs.Judgements.{OutputList, RuleOutputs}
use Rattle.rdx_eval.specs.Views.{terms_in, bindings_in}
use Rattle.rdx_lang.specs.Bindings.{Binding}
use Rattle.rdx_eval.proofs.ExtraAfterExtra.{Extends}
use Rattle.rdx_eval.proofs.Gathered.{Gathers}
use Rattle.rdx_eval.proofs.GoingOn.{StillTries}
use Rattle.rdx_eval.proofs.evaluation.+evaluation.Given as goal

abbrev pub decreases-calls::call : goal.decreases-calls::call
decreases-calls::call g l = 10 * l.height + 1

abbrev pub decreases-calls::value : goal.decreases-calls::value
decreases-calls::value g l = 10 * l.height + 0

abbrev pub decreases-calls::judge : goal.decreases-calls::judge
decreases-calls::judge g l = 10 * l.height + 1

abbrev pub decreases-calls::outputs : goal.decreases-calls::outputs
decreases-calls::outputs g l = 10 * l.height + 0

abbrev pub decreases-make : goal.decreases-make
decreases-make g l = 10 * l.scope.now.height + 2

abbrev pub decreases-make_list : goal.decreases-make_list
decreases-make_list g l = 10 * l.scope.now.height + 3

abbrev pub decreases-extras::by_premise : goal.decreases-extras::by_premise
decreases-extras::by_premise g l = 10 * l.height + 4

abbrev pub decreases-extras::where_each : goal.decreases-extras::where_each
decreases-extras::where_each g l = 10 * l.height + 4

abbrev pub decreases-extras::side_each : goal.decreases-extras::side_each
decreases-extras::side_each g l = 10 * l.height + 4

abbrev pub decreases-calls::result_of : goal.decreases-calls::result_of
decreases-calls::result_of g l = 10 * l.height + 4

abbrev pub decreases-calls::output_lists : goal.decreases-calls::output_lists
decreases-calls::output_lists g l = 10 * l.height + 4

abbrev pub decreases-extras::premise_each : goal.decreases-extras::premise_each
decreases-extras::premise_each g l = 10 * l.height + 5

abbrev pub decreases-extras::by_each : goal.decreases-extras::by_each
decreases-extras::by_each g l = 10 * l.height + 6

abbrev pub decreases-extras::extend : goal.decreases-extras::extend
decreases-extras::extend g l = 10 * l.height + 7

abbrev pub decreases-extras::survivors : goal.decreases-extras::survivors
decreases-extras::survivors g l = 10 * l.height + 8

abbrev pub decreases-calls::by_clauses : goal.decreases-calls::by_clauses
decreases-calls::by_clauses g l = 10 * l.height + 9

abbrev pub decreases-calls::by_rules : goal.decreases-calls::by_rules
decreases-calls::by_rules g l = 10 * l.height + 9

abbrev pub invariant-make_list-loop-template : goal.invariant-make_list-loop-template
invariant-make_list-loop-template g l = record {
  answer : Gathers (λ (t : Template). Single (Inst (calls_here l.scope) (bound_here l.scope) ([]) t))
      (map template_of l.templates) (map template_of (drop l.template-index l.templates)) (terms_in l.found);
  kept : IsMemoIn l.scope.setting.now l.memo;
}

abbrev pub invariant-calls::by_clauses-loop-clause : goal.invariant-calls::by_clauses-loop-clause
invariant-calls::by_clauses-loop-clause g l = record {
  answer : StillTries (language_in l.language) (calls_in l.setting l.height) l.f (tree_of l.args) (clauses_of l.clauses) (clauses_of (drop l.clause-index l.clauses));
  kept : IsMemoIn l.setting l.memo;
}

abbrev pub invariant-calls::result_of-loop-b : goal.invariant-calls::result_of-loop-b
invariant-calls::result_of-loop-b g l = record {
  answer : Gathers (λ (b : Binding). Single (Makes (calls_in l.setting l.height) b (template_of l.template))) (bindings_of l.bs) (bindings_of (drop l.b-index l.bs))
      (terms_in l.found);
  kept : IsMemoIn l.setting l.memo;
}

abbrev pub invariant-calls::by_rules-loop-rule : goal.invariant-calls::by_rules-loop-rule
invariant-calls::by_rules-loop-rule g l = record {
  answer : Gathers (RuleOutputs (language_in l.language) (calls_in l.setting l.height) l.j (pattern_found l.asked) (tree_of l.ins))
      (judgement_rules_of l.rules) (judgement_rules_of (drop l.rule-index l.rules)) (terms_in l.found);
  kept : IsMemoIn l.setting l.memo;
}

abbrev pub invariant-calls::output_lists-loop-binding : goal.invariant-calls::output_lists-loop-binding
invariant-calls::output_lists-loop-binding g l = record {
  answer : Gathers (λ (b : Binding). Single (OutputList (language_in l.language) (calls_in l.setting l.height) l.j (pattern_found l.asked) (map template_of l.templates) b))
      (bindings_of l.bs) (bindings_of (drop l.binding-index l.bs)) (terms_in l.found);
  kept : IsMemoIn l.setting l.memo;
}

abbrev pub invariant-extras::extend-loop-i : goal.invariant-extras::extend-loop-i
invariant-extras::extend-loop-i g l = record {
  answer : Extends (language_in l.language) (calls_in l.setting l.height) (avoiding (tree_of l.whole)) (extras_of l.extras) (bindings_in l.fn.found)
      (extras_of (take l.i l.extras)) (extras_of (drop l.i l.extras)) (bindings_in l.bs);
  kept : IsMemoIn l.setting l.memo;
}

abbrev pub invariant-extras::where_each-loop-binding : goal.invariant-extras::where_each-loop-binding
invariant-extras::where_each-loop-binding g l = record {
  answer : Gathers (WhereOne (language_in l.language) (calls_in l.setting l.height) (pattern_in l.pat) (template_of l.template))
      (bindings_of l.fn.bs.items) (bindings_of l.binding-iterator.rest.items) (bindings_in l.found);
  kept : IsMemoIn l.setting l.memo;
}

abbrev pub invariant-extras::side_each-loop-binding : goal.invariant-extras::side_each-loop-binding
invariant-extras::side_each-loop-binding g l = record {
  answer : Gathers (SideOne (calls_in l.setting l.height) (host_of l.h)) (bindings_of l.fn.bs.items) (bindings_of l.binding-iterator.rest.items)
      (bindings_in l.found);
  kept : IsMemoIn l.setting l.memo;
}

abbrev pub invariant-extras::premise_each-loop-b : goal.invariant-extras::premise_each-loop-b
invariant-extras::premise_each-loop-b g l = record {
  answer : Gathers (ByPremise (language_in l.language) (calls_in l.setting l.height) (premise_of l.premise))
      (bindings_of l.fn.bs.items) (bindings_of l.b-iterator.rest.items) (bindings_in l.found);
  kept : IsMemoIn l.setting l.memo;
}

abbrev pub decreases-make-calls : goal.decreases-make-calls
decreases-make-calls g l = frames_weight l.stack.items + next_weight l.next

abbrev pub invariant-make-calls : goal.invariant-make-calls
invariant-make-calls g l = record {
  answer : IsPending (calls_here l.scope) (bound_here l.scope) (Gives (calls_here l.scope) (bound_here l.scope) [] l.fn.first) l.turns.items l.stack.items l.next;
  kept : IsMemoIn l.scope.setting.now l.memo;
}
