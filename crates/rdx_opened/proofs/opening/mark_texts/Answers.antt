use Rattle.rdx_lang.proofs.TextSets.{texts-more}
use Rattle.rdx_opened.specs.Opening.{mark_names}
use Rattle.rdx_opened.specs.Seeking.{marks_of}
use Rattle.rdx_opened.proofs.MarkLists.{name_at}
use Rattle.rdx_opened.proofs.opening.mark_texts.Goals as goal

pub loop-mark-preserved : goal.loop-mark-preserved
loop-mark-preserved c =
    let k = name_at c.args.marks.now c.loop-mark.mark-index c.mark-item.result c.loop-mark-test.true c.mark-item.is in
    texts-more (mark_names (marks_of c.args.marks.now)) c.loop-mark.mark-index c.mark-item.result.name c.text.result c.loop-mark.set c.insert.new.self
    k.0 k.1 c.text.ensures.value c.in_ok-insert.ensures.updates c.loop-mark.invariant
