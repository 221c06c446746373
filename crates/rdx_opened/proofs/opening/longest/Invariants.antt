use Rattle.std.proofs.Common.{◌≤◌, ◌⊎◌, ℕ, List, length, drop}
use Rattle.rdx_lang.specs.Members.{In}
use Rattle.rdx_opened.proofs.opening.longest.Given as goal

abbrev pub invariant-loop-name : goal.invariant-loop-name
invariant-loop-name l = (x : List ℕ) → In x l.names → In x (drop l.name-index l.names) ⊎ (length x ≤ length l.most)
