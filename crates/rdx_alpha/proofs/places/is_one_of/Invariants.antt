use Rattle.std.proofs.Common.{◌≡◌, map, drop, bytes_eq}
use Rattle.std.specs.List.{list_any}
use Rattle.rdx_patterns.specs.Parts.{text_of}
use Rattle.rdx_alpha.proofs.places.is_one_of.Given as goal

abbrev pub invariant-loop-name : goal.invariant-loop-name
invariant-loop-name l = list_any (λ n. bytes_eq (text_of l.d) (text_of n)) (map (λ n. n.now) (drop l.name-index l.names))
    ≡ list_any (λ n. bytes_eq (text_of l.d) (text_of n)) (map (λ n. n.now) l.names)
