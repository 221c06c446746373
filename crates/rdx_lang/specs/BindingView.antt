-- The values and bindings that the code's stand for.
use Rattle.std.specs.Prelude.{ℕ, List, map, Option, Some, None, Vec}
use Rattle.std.specs.Borrow.{Bor}
use Rattle.std.specs.declared.alloc.Global.{Global}
use Rattle.rdx_term.specs.View.{tree_of}
use Rattle.rdx_term.specs.declared.term.Term.{Term}
use Rattle.rdx_lang.specs.Bindings.{Value, one, many, len, values, Pair, Mismatch}
use Rattle.rdx_lang.specs.declared.binding.Value as code_value
use Rattle.rdx_lang.specs.declared.binding.Value.TheOpen as layer

-- a form of values, once its parts are known
abbrev pub value_step : layer.Value-F Value → Value
value_step (layer.One t) = one (tree_of t)
value_step (layer.Many vs) = many (values vs.items)
value_step (layer.Len n) = len n

-- the value that a value of the code stands for
abbrev pub value_of : code_value.Value → Value
value_of = code_value.fold-Value Value value_step

-- the pair that a pair of the code stands for
abbrev pub pair_of : List ℕ × code_value.Value → Pair
pair_of p = (p.0, value_of p.1)

-- the pairs that pairs of the code stand for, in their order
abbrev pub pairs_of : List (List ℕ × code_value.Value) → List Pair
pairs_of ps = map pair_of ps

-- the mismatch name with its set that one of the code stands for
abbrev pub mismatch_of : List ℕ × Vec Term Global → Mismatch
mismatch_of m = (m.0, map tree_of m.1.items)

-- mismatch names with their sets, in their order
abbrev pub mismatches_of : List (List ℕ × Vec Term Global) → List Mismatch
mismatches_of ms = map mismatch_of ms

-- what a value found stands for
abbrev pub found_value : Option (Bor code_value.Value) → Option Value
found_value None = None
found_value (Some v) = Some (value_of v.now)
