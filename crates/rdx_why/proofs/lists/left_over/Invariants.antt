use Rattle.std.proofs.Common.{◌≡◌, drop}
use Rattle.rdx_why.specs.Inside.Laying.{left_over}
use Rattle.rdx_why.proofs.lists.left_over.Given as goal

abbrev pub invariant-loop-count : goal.invariant-loop-count
invariant-loop-count l = left_over (drop l.count-index l.counts) l.left ≡ left_over l.counts l.fn.terms
