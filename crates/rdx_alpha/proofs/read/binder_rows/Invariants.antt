use Rattle.std.proofs.Common.{◌≡◌, ◌++◌, map, drop}
use Rattle.rdx_alpha.specs.Inside.WrittenView.{binder_rows, rows_of, written_places_of}
use Rattle.rdx_alpha.proofs.read.binder_rows.Given as goal

abbrev pub invariant-loop-place : goal.invariant-loop-place
invariant-loop-place l =
    rows_of l.rows.items ++ binder_rows (map (λ n. n.now) l.all) (written_places_of (drop l.place-index l.places))
    ≡ binder_rows (map (λ n. n.now) l.all) (written_places_of l.places)
