use Rattle.std.proofs.Common.{[], arith}
use Rattle.rdx_lang.specs.Checked.{language_in}
use Rattle.rdx_gen.specs.Inside.Places.{IsPlaceOf}
use Rattle.rdx_gen.proofs.MarkLaws.{marks-none}
use Rattle.rdx_gen.proofs.ReachedSteps.{names-more, names-whole}
use Rattle.rdx_gen.proofs.reach.mark_names.Goals as goal

pub loop-name-init : goal.loop-name-init
loop-name-init c = marks-none (IsPlaceOf (language_in c.args.nonterminals.now.language.now) []) c.args.marks.now.items c.args.listed.now.items (λ j p. elim p.1 [ ])

pub loop-name-preserved : goal.loop-name-preserved
loop-name-preserved c = names-more (language_in c.args.nonterminals.now.language.now) c.args.names.now c.name-item.result c.loop-name.name-index c.place.result
    c.args.marks.now.items c.loop-name.marks.items c.mark.new.marks.items c.args.listed.now.items c.loop-name.listed.items c.mark.new.listed.items
    c.loop-name-test.true c.name-item.is c.place.ensures c.loop-name.invariant c.in_ok-mark.ensures

pub returns : goal.returns
returns c = names-whole (language_in c.args.nonterminals.now.language.now) c.args.names.now c.loop-name.name-index
    c.args.marks.now.items c.loop-name.marks.items c.args.listed.now.items c.loop-name.listed.items (omega arith) c.loop-name.invariant
