-- Comparisons that don't tell apart. No public contract cites it.
use Rattle.std.specs.Prelude.{Bool, true, false}
use Rattle.std.specs.declared.cmp.Ordering.{Ordering}
use Rattle.std.specs.declared.cmp.Ordering.TheVariants.{Less, Equal, Greater}

-- whether a comparison finds equals
abbrev pub is_equal : Ordering → Bool
is_equal Less = false
is_equal Equal = true
is_equal Greater = false
