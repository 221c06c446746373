use Rattle.std.proofs.Common.{◌∙◌, ◌<◌, ◌^◌, length, sym, ap, arith}
use Rattle.rdx_lang.specs.PatternView.{pattern_of}
use Rattle.rdx_opened.specs.Seeking.{marks_of}
use Rattle.rdx_opened.proofs.Made.{opened_unmarked, opened_whole}
use Rattle.rdx_opened.proofs.MarkLists.{count_marks}
use Rattle.rdx_opened.proofs.opening.open.Goals as goal

pub returns-then-not-has_differ : goal.returns-then-not-has_differ
returns-then-not-has_differ c =
    opened_unmarked (pattern_of c.args.pat.now) (pattern_of c.in_ok-pat.pat) (marks_of c.new-marks.result.items)
    (sym c.has_differ.ensures ∙ c.if-not-has_differ.true) c.in_ok-pat.ensures (ap marks_of c.new-marks.ensures.items)

pub returns : goal.returns
returns c =
    let n = count_marks c.open_places.new.marks.items in
    let few : length (marks_of c.open_places.new.marks.items) < 10 ^ 63 = omega (arith, c.open_places.new.marks.ok, c.open_places.new.marks.small) in
    opened_whole _ c.in_ok-base.base (pattern_of c.args.pat.now) (pattern_of c.in_ok-pat-2.pat) (marks_of c.new-marks.result.items)
    (marks_of c.open_places.new.marks.items) c.deref.result.now c.in_ok-pat-2.ensures (ap marks_of c.new-marks.ensures.items) (cc c.base.view_is)
    c.in_ok-base.ensures (c.deref.ensures.value ∙ c.in_ok-names.ensures) few
