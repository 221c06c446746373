use Rattle.std.proofs.Common.{◌<◌, ◌≤◌, ◌∙◌, ap, sym, length, arith, get_or}
use Rattle.rdx_lang.specs.Checked.{language_in}
use Rattle.rdx_lang.specs.Patterns.{Language}
use Rattle.rdx_gen.specs.Heights.{no_height}
use Rattle.rdx_gen.specs.Inside.Places.{place_of}
use Rattle.rdx_gen.proofs.SameHeights.{looked-up, not-there}
use Rattle.rdx_gen.proofs.known.Known.height.Goals as goal

pub returns-then-place-count : goal.returns-then-place-count
returns-then-place-count c =
    let L : Language = language_in c.args.self.now.nonterminals.now.language.now in
    let l : place_of L c.args.name.now < length L.nonterminals = omega arith in
    c.height_there.ensures ∙ ap (λ i. get_or c.args.self.now.heights.now i no_height) c.place-place.ensures ∙ sym (looked-up L.nonterminals c.args.self.now.heights.now c.args.name.now l)

pub returns-else-place-count : goal.returns-else-place-count
returns-else-place-count c =
    let L : Language = language_in c.args.self.now.nonterminals.now.language.now in
    let l : length L.nonterminals ≤ place_of L c.args.name.now = omega arith in
    (λ i. record { as_term = c.new.ensures.term i; as_context = c.new.ensures.context i }) ∙ sym (not-there L.nonterminals c.args.self.now.heights.now c.args.name.now l)
