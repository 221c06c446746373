use Rattle.rdx_lang.specs.Checked.{language_in}
use Rattle.rdx_gen.proofs.ReachedSteps.{step-next, step-reached, front-inside}
use Rattle.rdx_gen.proofs.reach.step.Goals as goal

pub mark_all_mentioned-requires : goal.mark_all_mentioned-requires
mark_all_mentioned-requires c = front-inside (language_in c.args.nonterminals.now.language.now) c.args.marks.now.items c.args.front.now c.requires

pub returns-clause-next : goal.returns-clause-next
returns-clause-next c = step-next (language_in c.args.nonterminals.now.language.now) c.args.marks.now.items c.mark_all_mentioned.new.marks.items c.args.front.now c.in_ok-mark_all_mentioned.field-0.items
    c.language-language.ensures.well_formed.distinct c.requires c.in_ok-mark_all_mentioned.ensures

pub returns-clause-reached : goal.returns-clause-reached
returns-clause-reached c = step-reached (language_in c.args.nonterminals.now.language.now) c.args.marks.now.items c.mark_all_mentioned.new.marks.items c.args.front.now c.in_ok-mark_all_mentioned.field-0.items
    c.requires c.in_ok-mark_all_mentioned.ensures
