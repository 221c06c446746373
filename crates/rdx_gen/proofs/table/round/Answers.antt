use Rattle.std.proofs.Common.{◌≡◌}
use Rattle.rdx_lang.specs.Checked.{language_in}
use Rattle.rdx_gen.specs.Heights.{next_heights}
use Rattle.rdx_gen.specs.Inside.Places.{lists_of}
use Rattle.rdx_gen.specs.Inside.Waiting.{AreRounded}
use Rattle.rdx_gen.proofs.Settling.{round-all}
use Rattle.rdx_gen.proofs.table.round.Goals as goal

-- the whole round
all : (c : goal.After-drop-found-2) → (c.write.new.heights.items ≡ next_heights (language_in c.args.nonterminals.now.language.now) c.args.heights.now.items)
    × AreRounded (language_in c.args.nonterminals.now.language.now) c.write.new.heights.items c.wake.new.waits.items c.wake.new.waiting.items
all c = round-all (language_in c.args.nonterminals.now.language.now) (lists_of c.args.users.now) c.args.heights.now.items c.deref.result.now c.write.new.heights.items
    c.args.waits.now.items c.unmark.new.marks.items c.wake.new.waits.items c.args.waiting.now c.wake.new.waiting.items c.new-woken.result.items c.in_ok-found.found.items c.deref-2.result.now c.deref-3.result.now
    c.requires.users c.requires.rounded c.deref.ensures.value c.in_ok-found.ensures c.deref-2.ensures.value c.write.ensures c.unmark.ensures.size c.unmark.ensures.none
    c.new-woken.ensures.items c.deref-3.ensures.value c.in_ok-wake.ensures

pub returns-clause-next : goal.returns-clause-next
returns-clause-next c = (all c).0

pub returns-clause-rounded : goal.returns-clause-rounded
returns-clause-rounded c = (all c).1
