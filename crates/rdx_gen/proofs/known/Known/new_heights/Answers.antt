use Rattle.std.proofs.Common.{sym, subst, List, []}
use Rattle.rdx_lang.specs.Checked.{language_in}
use Rattle.rdx_gen.specs.Inside.Waiting.{AreFound}
use Rattle.rdx_gen.specs.declared.height.Height.{Height}
use Rattle.std.proofs.Common.{ℕ}
use Rattle.rdx_gen.proofs.Settling.{found-next, found-none, found-whole}
use Rattle.rdx_gen.proofs.known.Known.new_heights.Goals as goal

pub loop-place-init : goal.loop-place-init
loop-place-init c = subst (λ (ps : List (ℕ × Height)). AreFound (language_in c.args.self.now.nonterminals.now.language.now) c.args.self.now.heights.now [] ps) (sym c.new-found.ensures.items)
    (found-none (language_in c.args.self.now.nonterminals.now.language.now) c.args.self.now.heights.now)

pub loop-place-preserved : goal.loop-place-preserved
loop-place-preserved c = found-next (language_in c.args.self.now.nonterminals.now.language.now) c.args.self.now.heights.now c.args.places.now c.loop-place.place-index c.in_ok-height.height
    c.loop-place.found.items c.add_found.new.found.items c.loop-place-test.true c.in_ok-height.ensures c.in_ok-add_found.ensures c.loop-place.invariant

pub returns : goal.returns
returns c = found-whole (language_in c.args.self.now.nonterminals.now.language.now) c.args.self.now.heights.now c.args.places.now c.loop-place.place-index c.loop-place.found.items c.loop-place-test.false c.loop-place.invariant
