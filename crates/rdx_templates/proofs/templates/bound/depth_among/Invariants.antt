use Rattle.std.proofs.Common.{◌≡◌, drop}
use Rattle.rdx_templates.specs.Bound.{depth_of}
use Rattle.rdx_templates.proofs.templates.bound.depth_among.Given as goal

abbrev pub invariant-loop-name : goal.invariant-loop-name
invariant-loop-name l = depth_of (drop l.name-index l.pairs) l.text ≡ depth_of l.pairs l.text
