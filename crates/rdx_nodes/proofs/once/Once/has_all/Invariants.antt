use Rattle.std.proofs.Common.{◌≡◌, true, List, ℕ, take}
use Rattle.rdx_lang.specs.Members.{In}
use Rattle.rdx_nodes.specs.Inside.Once.{bytes_of, is_once}
use Rattle.rdx_nodes.proofs.once.Once.has_all.Given as goal

abbrev pub invariant-loop-place : goal.invariant-loop-place
invariant-loop-place l = (x : List ℕ) → In x (bytes_of (take l.place-index l.places)) → is_once l.self.told x ≡ true
