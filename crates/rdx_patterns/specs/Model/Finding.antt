-- Names that are found by their texts.
use Rattle.std.specs.Prelude.{◌≡◌, ℕ, List}
use Rattle.std.specs.BTreeMap.{BTreeMap, get_by_text}
use Rattle.std.specs.Bool.{then_some}
use Rattle.std.specs.declared.string.String.{String}
use Rattle.rdx_patterns.specs.Kinds.{is_among}

-- each of these names is found by its text, and no other
abbrev pub FindsAll : {Y : Type 0} → List (List ℕ) → BTreeMap (String Y) (List ℕ) → Type 0
FindsAll ns m = (x : List ℕ) → get_by_text m x ≡ then_some (is_among ns x) x
