use Rattle.std.proofs.Common.{◌++◌, [], List, map, sym, ap, ◌∙◌, if◌then◌else◌}
use Rattle.std.specs.List.{list_any}
use Rattle.std.specs.Prelude.{bytes_eq}
use Rattle.rdx_lang.specs.Crosses as model
use Rattle.rdx_lang.specs.PatternView.{definition_of, language_of}
use Rattle.rdx_lang.specs.Patterns.{Definition}
use Rattle.rdx_patterns.specs.Inside.CrossesTo.{language_among, with_definitions}
use Rattle.rdx_patterns.specs.Inside.Repeats.{texts_in}
use Rattle.rdx_patterns.proofs.SeveralEnds.{several-ends, crosses-next, crosses-last}
use Rattle.rdx_patterns.proofs.crosses.adding.new_crosses.Goals as goal

pub loop-to-preserved : goal.loop-to-preserved
loop-to-preserved c =
    let ds : List Definition = map definition_of c.args.language.now.nts.items in
    crosses-next ds c.args.ends.now c.loop-to.to-index c.to-item.result (texts_in c.loop-to.seen) (texts_in c.add_crosses_once.new.seen)
    (map definition_of c.loop-to.added.items) (map definition_of c.add_crosses_once.new.added.items) _ c.loop-to-test.true c.to-item.is
    (c.in_ok-add_crosses_once.ensures.added
    ∙ ap (λ defs. map definition_of c.loop-to.added.items
    ++ (if list_any (bytes_eq c.to-item.result) (texts_in c.loop-to.seen) then []
    else model.new_crosses (language_among (map definition_of defs)) c.to-item.result))
    (c.in_ok-definitions.ensures ∙ c.deref.ensures.value))
    c.in_ok-add_crosses_once.ensures.seen c.loop-to.invariant

pub returns : goal.returns
returns c =
    let L = language_of c.args.language.now in
    ap (with_definitions L)
    (crosses-last L.nonterminals c.args.ends.now c.loop-to.to-index (texts_in c.loop-to.seen) (map definition_of c.loop-to.added.items) _
    c.loop-to-test.false c.loop-to.invariant)
    ∙ sym (several-ends L c.args.ends.now)
