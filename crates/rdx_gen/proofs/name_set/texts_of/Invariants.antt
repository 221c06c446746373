use Rattle.std.proofs.Common.{◌≡◌, ℕ, List, drop, map}
use Rattle.std.specs.HashSet.{contains_by}
use Rattle.std.specs.Prelude.{bytes_eq}
use Rattle.rdx_lang.specs.Rules.{is_one_of}
use Rattle.rdx_gen.proofs.name_set.texts_of.Given as goal

abbrev pub invariant-loop-i : goal.invariant-loop-i
invariant-loop-i l = (x : List ℕ) → contains_by (λ k. bytes_eq x k.now) l.texts ≡ is_one_of (map (λ r. r.now) (drop l.i l.names)) x
