use Rattle.std.proofs.Common.{◌≡◌, ◌-◌, length}
use Rattle.rdx_lang.specs.Variants.{first_from, first_variant}
use Rattle.rdx_lang.proofs.variants.first_variant.Given as goal

abbrev pub invariant-loop-number : goal.invariant-loop-number
invariant-loop-number l = first_from l.name l.taken l.number (length l.taken - l.number) ≡ first_variant l.name l.taken
