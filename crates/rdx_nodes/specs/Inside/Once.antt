-- Names that stand once, told by a map that has the names at the places of a pattern.
use Rattle.std.specs.Prelude.{◌≡◌, ◌↔◌, ℕ, zero, suc, Bool, true, false, List, [], ◌∷◌, map, Option, Some, None, bytes_eq, count_by, if◌then◌else◌}
use Rattle.std.specs.Borrow.{Bor}
use Rattle.std.specs.HashMap.{HashMap, get_by}
use Rattle.rdx_lang.specs.Members.{In}

-- texts, as their bytes
abbrev pub bytes_of : List (Bor (List ℕ)) → List (List ℕ)
bytes_of ts = map (λ t. t.now) ts

-- what the map tells of a name
abbrev pub told_of : {S : Type 0} → HashMap (Bor (List ℕ)) Bool S → List ℕ → Option Bool
told_of m x = get_by (λ k. bytes_eq x k.now) m

-- what is told of a name that stands so often: nothing where it doesn't stand, else whether it stands once
abbrev pub told_where : ℕ → Option Bool
told_where zero = None
told_where (suc zero) = Some true
told_where (suc (suc n)) = Some false

-- the map tells which names stand among these, and which of them once
abbrev pub Tells : {S : Type 0} → HashMap (Bor (List ℕ)) Bool S → List (List ℕ) → Type 0
Tells m zs = (x : List ℕ) → told_of m x ≡ told_where (count_by (bytes_eq x) zs)

abbrev pub is_so : Option Bool → Bool
is_so None = false
is_so (Some b) = b

-- the map tells that the name stands once
abbrev pub is_once : {S : Type 0} → HashMap (Bor (List ℕ)) Bool S → List ℕ → Bool
is_once m x = is_so (told_of m x)

-- these are the names of which it tells so
abbrev pub AreTold : {S : Type 0} → List (List ℕ) → HashMap (Bor (List ℕ)) Bool S → Type 0
AreTold xs m = (x : List ℕ) → (In x xs ↔ (is_once m x ≡ true))

-- there are names of which it tells so
pub record AreSomeTold {S : Type 0} (m : HashMap (Bor (List ℕ)) Bool S) : Type 0 where
  pub names : List (List ℕ)
  pub told : AreTold names m

-- those of these names of which it doesn't
abbrev pub others : {S : Type 0} → HashMap (Bor (List ℕ)) Bool S → List (List ℕ) → List (List ℕ)
others m [] = []
others m (x ∷ xs) = if is_once m x then others m xs else x ∷ others m xs
