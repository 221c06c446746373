-- The names in an ordered set.
use Rattle.std.specs.Prelude.{ℕ, List, map}
use Rattle.std.specs.BTreeSet.{BTreeSet}
use Rattle.rdx_lang.specs.declared.key.Key.{Key}

-- in the order of their bytes
abbrev pub names_in : BTreeSet Key → List (List ℕ)
names_in set = map (λ k. k.name) set.keys
