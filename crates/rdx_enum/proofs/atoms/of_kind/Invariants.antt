use Rattle.std.proofs.Common.{IsTrue, drop, map}
use Rattle.rdx_lang.specs.Members.{In}
use Rattle.rdx_lang.specs.Patterns.{Language}
use Rattle.rdx_lang.specs.Rules as rules
use Rattle.rdx_term.specs.Tree.{Tree}
use Rattle.rdx_term.specs.View.{tree_of}
use Rattle.rdx_enum.proofs.Filters.{Filtered}
use Rattle.rdx_enum.proofs.atoms.of_kind.Given as goal

abbrev pub invariant-loop-t : goal.invariant-loop-t
invariant-loop-t l = record {
  complete : (L : Language) → Filtered (λ t. IsTrue (rules.is_of_kind L l.kind t)) (map tree_of l.pool) (map tree_of (drop l.t-index l.pool)) (map tree_of l.found.items);
  among : (t : Tree) → In t (map tree_of l.found.items) → In t (map tree_of l.pool);
}
