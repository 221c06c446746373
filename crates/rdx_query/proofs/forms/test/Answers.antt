use Rattle.rdx_forms.proofs.GainingNothing.{data-asked}
use Rattle.rdx_query.proofs.forms.test.Goals as goal

pub read_query-requires-clause-ends : goal.read_query-requires-clause-ends
read_query-requires-clause-ends c = data-asked c.args.known.now.ends.items c.args.form.now c.requires.ends

pub read_query-requires-in-NoMatch-clause-ends : goal.read_query-requires-in-NoMatch-clause-ends
read_query-requires-in-NoMatch-clause-ends c = data-asked c.args.known.now.ends.items c.args.form.now c.requires.ends

pub read_holds_test-requires-clause-ends : goal.read_holds_test-requires-clause-ends
read_holds_test-requires-clause-ends c = data-asked c.args.known.now.ends.items c.args.form.now c.requires.ends
