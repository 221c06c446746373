use Rattle.std.proofs.Common.{◌≡◌, ◌∙◌, true, sym, arith}
use Rattle.std.proofs.lemmas.Grind.{common_steps}
use Rattle.rdx_lang.specs.PatternView.{slot_of}
use Rattle.rdx_gen.specs.Heights.{no_height}
use Rattle.rdx_gen.specs.KnownView.{known_of}
use Rattle.rdx_gen.proofs.SameHeights.{none-ahead}
use Rattle.rdx_gen.proofs.known.Known.+heights.Goals as goal

pub list_heights-returns-else-not-is_nothing : goal.list_heights-returns-else-not-is_nothing
list_heights-returns-else-not-is_nothing t c =
    let q : c.is_nothing.result ≡ true = grind (arith, common_steps) in
    let n : c.loop-k.behind ≡ no_height = c.is_nothing.ensures q in
    n ∙ sym (none-ahead (known_of c.args.self.now) slot_of c.args.items.now c.loop-k.k (sym c.loop-k.invariant.value ∙ n))
