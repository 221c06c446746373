use Rattle.std.proofs.Common.{[], List, ℕ, sym, subst, arith, get_or}
use Rattle.rdx_lang.specs.Checked.{language_in}
use Rattle.rdx_gen.specs.Inside.Places.{IsMentioned}
use Rattle.rdx_gen.specs.Inside.Waiting.{Marks}
use Rattle.rdx_gen.proofs.MarkLaws.{marks-none}
use Rattle.rdx_gen.proofs.UserLaws.{read-in}
use Rattle.rdx_gen.proofs.ReachedSteps.{mentions-more, mentions-whole}
use Rattle.rdx_gen.proofs.reach.mark_all_mentioned.Goals as goal

pub loop-place-init : goal.loop-place-init
loop-place-init c = subst (λ (ls : List ℕ). Marks (IsMentioned (language_in c.args.nonterminals.now.language.now) []) c.args.marks.now.items c.args.marks.now.items [] ls) (sym c.new-listed.ensures.items)
    (marks-none (IsMentioned (language_in c.args.nonterminals.now.language.now) []) c.args.marks.now.items [] (λ j p. elim p.1 [ ]))

pub mark_mentioned-requires : goal.mark_mentioned-requires
mark_mentioned-requires c = c.requires (get_or c.args.places.now c.loop-place.place-index 0) (read-in c.args.places.now c.loop-place.place-index 0 c.loop-place-test.true)

pub loop-place-preserved : goal.loop-place-preserved
loop-place-preserved c = mentions-more (language_in c.args.nonterminals.now.language.now) c.args.places.now c.loop-place.place-index
    c.args.marks.now.items c.loop-place.marks.items c.mark_mentioned.new.marks.items [] c.loop-place.listed.items c.mark_mentioned.new.listed.items
    c.loop-place-test.true c.loop-place.invariant c.in_ok-mark_mentioned.ensures

pub returns : goal.returns
returns c = mentions-whole (language_in c.args.nonterminals.now.language.now) c.args.places.now c.loop-place.place-index
    c.args.marks.now.items c.loop-place.marks.items [] c.loop-place.listed.items (omega arith) c.loop-place.invariant
