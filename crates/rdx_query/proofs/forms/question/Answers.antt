use Rattle.rdx_forms.proofs.GainingNothing.{data-asked}
use Rattle.rdx_query.proofs.forms.question.Goals as goal

pub read_query-requires-clause-ends : goal.read_query-requires-clause-ends
read_query-requires-clause-ends c = data-asked c.args.known.now.ends.items c.args.form.now c.requires.ends

pub read_query-requires-in-Whether-clause-ends : goal.read_query-requires-in-Whether-clause-ends
read_query-requires-in-Whether-clause-ends c = data-asked c.args.known.now.ends.items c.args.form.now c.requires.ends

pub read_query-requires-in-Decompose-clause-ends : goal.read_query-requires-in-Decompose-clause-ends
read_query-requires-in-Decompose-clause-ends c = data-asked c.args.known.now.ends.items c.args.form.now c.requires.ends

pub read_generate-requires-clause-ends : goal.read_generate-requires-clause-ends
read_generate-requires-clause-ends c = data-asked c.args.known.now.ends.items c.args.form.now c.requires.ends

pub read_check-requires-clause-ends : goal.read_check-requires-clause-ends
read_check-requires-clause-ends c = data-asked c.args.known.now.ends.items c.args.form.now c.requires.ends

pub read_holds-requires-clause-ends : goal.read_holds-requires-clause-ends
read_holds-requires-clause-ends c = data-asked c.args.known.now.ends.items c.args.form.now c.requires.ends
