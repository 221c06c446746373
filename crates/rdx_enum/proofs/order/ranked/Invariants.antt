use Rattle.std.proofs.Common.{◌≡◌, ◌++◌, drop, map}
use Rattle.rdx_lang.specs.PatternView.{definition_of}
use Rattle.rdx_enum.specs.Inside.Order.{ranking, rankings}
use Rattle.rdx_enum.proofs.order.ranked.Given as goal

abbrev pub invariant-loop-name : goal.invariant-loop-name
invariant-loop-name l = map ranking l.all.items ++ rankings (map definition_of (drop l.name-index l.nts)) l.left ≡ rankings (map definition_of l.nts) l.ranks
