use Rattle.std.proofs.Common.{◌≡◌, ◌++◌, map, drop}
use Rattle.rdx_alpha.specs.Inside.WrittenView.{numbers_among, rows_of}
use Rattle.rdx_alpha.proofs.read.numbers.Given as goal

abbrev pub invariant-loop-k : goal.invariant-loop-k
invariant-loop-k l =
    l.found.items ++ numbers_among l.k (map (λ n. n.now) l.names) (rows_of (drop l.k l.rows)) ≡ numbers_among 0 (map (λ n. n.now) l.names) (rows_of l.rows)
