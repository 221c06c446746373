use Rattle.std.proofs.Common.{map, ap}
use Rattle.rdx_forms.specs.KnownView.{known_of}
use Rattle.rdx_answer.specs.Views.{query_of}
use Rattle.rdx_forms.specs.Known.{Known}
use Rattle.rdx_query.proofs.FormSteps.{adds_forms, adds_step, query_step, passes_forms, passes_step}
use Rattle.rdx_query.proofs.forms.read_form.Goals as goal

pub returns-in-Defines-clause-steps : goal.returns-in-Defines-clause-steps
returns-in-Defines-clause-steps c =
    adds_step (known_of c.args.known.now) (known_of c.define.new.known) (map (query_of (known_of c.args.known.now).forms) c.args.queries.now.items) c.args.form.now c.define.result c.define.ensures.adds

pub returns-in_ok-push-in-Asks-clause-steps : goal.returns-in_ok-push-in-Asks-clause-steps
returns-in_ok-push-in-Asks-clause-steps c =
    query_step c.args.known.now c.question.new.known c.args.queries.now.items c.push.new.self.items c.in_ok-query-in-Asks.query c.args.form.now
    c.in_ok-query-in-Asks.ensures.same c.in_ok-push-in-Asks.ensures.items c.in_ok-query-in-Asks.ensures.asks

pub returns-in-Passes-clause-steps : goal.returns-in-Passes-clause-steps
returns-in-Passes-clause-steps c = passes_step (known_of c.args.known.now) (map (query_of (known_of c.args.known.now).forms) c.args.queries.now.items) c.args.form.now c.pass.result c.pass.ensures

pub returns-in-Defines-clause-forms : goal.returns-in-Defines-clause-forms
returns-in-Defines-clause-forms c =
    adds_forms (known_of c.args.known.now) (known_of c.define.new.known) c.args.form.now c.define.result c.define.ensures.adds

pub returns-in_ok-push-in-Asks-clause-forms : goal.returns-in_ok-push-in-Asks-clause-forms
returns-in_ok-push-in-Asks-clause-forms c = ap (λ (K : Known). K.forms) c.in_ok-query-in-Asks.ensures.same

pub returns-in-Passes-clause-forms : goal.returns-in-Passes-clause-forms
returns-in-Passes-clause-forms c = passes_forms (known_of c.args.known.now) c.pass.result
