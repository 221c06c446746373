use Rattle.std.proofs.Common.{◌≡◌, ◌++◌, drop}
use Rattle.rdx_lang.specs.BindingView.{pairs_of}
use Rattle.rdx_lang.specs.Inside.Texts.{texts_in}
use Rattle.rdx_lang.specs.Shown.{binding_of}
use Rattle.rdx_opened.specs.Inside.Marks.{without}
use Rattle.rdx_opened.proofs.opening.unmarked.Given as goal

abbrev pub invariant-loop-pair : goal.invariant-loop-pair
invariant-loop-pair l =
    pairs_of l.pairs.items ++ without (texts_in l.texts) (pairs_of (drop l.pair-index l.pair-items))
    ≡ without (texts_in l.texts) (binding_of l.b).pairs
