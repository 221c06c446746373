use Rattle.std.proofs.Common.{◌≡◌, drop}
use Rattle.rdx_lang.proofs.Collecting.{Collects}
use Rattle.rdx_direct.specs.Inside.Paths.{paths_in}
use Rattle.rdx_direct.specs.declared.paths.Paths.{out-Paths}
use Rattle.rdx_direct.proofs.PathLaws.{GoesAlong}
use Rattle.rdx_direct.proofs.paths.Paths.+list.Given as goal

abbrev pub invariant-loop-branch : goal.invariant-loop-branch
invariant-loop-branch l = record {
  path : l.path.items ≡ l.fn.path.items;
  found : Collects (GoesAlong l.fn.path.items) (out-Paths l.fn.self).inside.items (drop l.branch-index l.branch-items) (paths_in l.initial.found.items) (paths_in l.found.items);
}
