use Rattle.std.proofs.Common.{◌≡◌, ℕ, List, drop}
use Rattle.std.specs.Prelude.{◌||◌}
use Rattle.rdx_lang.specs.Rules as rules
use Rattle.rdx_facts.proofs.literals.each_once.Given as goal

abbrev pub invariant-loop-name : goal.invariant-loop-name
invariant-loop-name l = (s : List ℕ) → (rules.is_one_of l.found.items s || rules.is_one_of (drop l.name-index l.names) s) ≡ rules.is_one_of l.names s
