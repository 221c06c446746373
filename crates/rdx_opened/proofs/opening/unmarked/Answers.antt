use Rattle.std.proofs.Common.{◌∙◌, ap}
use Rattle.rdx_lang.proofs.Rest.{rest_none}
use Rattle.rdx_lang.specs.Bindings.{of_pairs}
use Rattle.rdx_lang.specs.BindingView.{pair_of}
use Rattle.rdx_lang.specs.Inside.Texts.{texts_in}
use Rattle.rdx_lang.specs.Shown.{binding_of}
use Rattle.rdx_opened.specs.Inside.Marks.{without}
use Rattle.rdx_opened.specs.Opening.{mark_names}
use Rattle.rdx_opened.specs.Seeking.{marks_of}
use Rattle.rdx_opened.proofs.Closing.{without_ascends, without_same}
use Rattle.rdx_opened.proofs.Picking.{ascend_whole, whole_done}
use Rattle.rdx_opened.proofs.opening.unmarked.Goals as goal

pub new-requires : goal.new-requires
new-requires c =
    let names = texts_in c.in_ok-texts.texts in
    ascend_whole _ _ _ c.loop-pair.invariant
    (ap (without names) (rest_none pair_of c.pairs-pair-items.result.now c.loop-pair.pair-index c.loop-pair-test.false))
    (without_ascends names (binding_of c.args.b.now).pairs c.pairs-pair-items.ensures.ascending.0)

pub returns : goal.returns
returns c =
    let names = texts_in c.in_ok-texts.texts in
    c.new.ensures
    ∙ ap of_pairs (whole_done _ _ _ c.loop-pair.invariant
    (ap (without names) (rest_none pair_of c.pairs-pair-items.result.now c.loop-pair.pair-index c.loop-pair-test.false))
    ∙ without_same names (mark_names (marks_of c.args.marks.now)) (binding_of c.args.b.now).pairs c.in_ok-texts.ensures)
