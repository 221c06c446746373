-- The places of nonterminals, by what they go by.
use Rattle.std.specs.Prelude.{ℕ, Bool, ◌&&◌, List, Option, bytes_eq, unwrap_or}
use Rattle.std.specs.Borrow.{Bor}
use Rattle.std.specs.HashMap.{HashMap, get_by}
use Rattle.rdx_lang.specs.declared.pattern.Ref.{Ref}
use Rattle.rdx_lang.specs.declared.pattern.Ref.TheVariants.{Nt, Cross}

-- these two texts are those of the key
abbrev pub is_pair : List ℕ → List ℕ → Bor (List ℕ) × Bor (List ℕ) → Bool
is_pair x y k = bytes_eq x k.0.now && bytes_eq y k.1.now

-- the place of a nonterminal by its text, or of contexts by their two texts
abbrev pub found_in : {S : Type 0} → HashMap (Bor (List ℕ)) ℕ S → HashMap (Bor (List ℕ) × Bor (List ℕ)) ℕ S → Ref → Option ℕ
found_in texts pairs (Nt x) = get_by (λ k. bytes_eq x k.now) texts
found_in texts pairs (Cross x y) = get_by (is_pair x y) pairs

-- so found, or n where there is none
abbrev pub place_in : {S : Type 0} → HashMap (Bor (List ℕ)) ℕ S → HashMap (Bor (List ℕ) × Bor (List ℕ)) ℕ S → ℕ → Ref → ℕ
place_in texts pairs n x = unwrap_or (found_in texts pairs x) n
