use Rattle.std.proofs.Common.{◌≡◌, max, drop, map}
use Rattle.rdx_lang.specs.PatternView.{definition_of}
use Rattle.rdx_leftrec.specs.Inside.Numbers.{height_in}
use Rattle.rdx_leftrec.proofs.ranks.height_in.Given as goal

abbrev pub invariant-loop-alternatives : goal.invariant-loop-alternatives
invariant-loop-alternatives l =
    max l.most (height_in (map definition_of (drop l.alternatives-index l.alternatives-items))) ≡ height_in (map definition_of l.language.nts.items)
