-- The places of nonterminals among those that are defined, and which definitions mention which.
use Rattle.std.specs.Prelude.{◌≡◌, ◌<◌, ℕ, suc, List, [], ◌∷◌, length, map, Vec, slice_index_or, if◌then◌else◌}
use Rattle.std.specs.declared.alloc.Global.{Global}
use Rattle.rdx_lang.specs.Members.{In}
use Rattle.rdx_lang.specs.Patterns.{Language}
use Rattle.rdx_lang.specs.References.{is_same}
use Rattle.rdx_lang.specs.WellFormed.{defined}
use Rattle.rdx_lang.specs.declared.pattern.Ref.{Ref}
use Rattle.rdx_gen.specs.NameRules.{all_mentioned}

-- the place of x among these; how many they are where x is none of them
abbrev pub place : Ref → List Ref → ℕ
place x [] = 0
place x (y ∷ ys) = if is_same x y then 0 else suc (place x ys)

-- its place among those that a language defines
abbrev pub place_of : Language → Ref → ℕ
place_of L x = place x (defined L)

-- the nonterminals that stand in the alternatives of the definition at a place
abbrev pub mentioned_at : Language → ℕ → List Ref
mentioned_at L j = slice_index_or (map (λ d. all_mentioned d.1) L.nonterminals) j []

-- i is the place of one of these nonterminals
abbrev pub IsPlaceOf : Language → List Ref → ℕ → Type 0
IsPlaceOf L xs i = (x : Ref) × In x xs × (i ≡ place_of L x)

-- the definition at the place j mentions the nonterminal whose place is i
abbrev pub Mentions : Language → ℕ → ℕ → Type 0
Mentions L j i = IsPlaceOf L (mentioned_at L j) i

-- so does the definition at one of these places
abbrev pub IsMentioned : Language → List ℕ → ℕ → Type 0
IsMentioned L js i = (j : ℕ) × In j js × Mentions L j i

-- the lists that vectors hold
abbrev pub lists_of : List (Vec ℕ Global) → List (List ℕ)
lists_of vs = map (λ v. v.items) vs

-- the list at a place, where there is one for each
abbrev pub list_at : List (List ℕ) → ℕ → List ℕ
list_at us i = slice_index_or us i []

-- for each nonterminal a list of places, with those of all definitions that mention it
pub record AreUsers (L : Language) (us : List (List ℕ)) : Type 0 where
  pub size : length us ≡ length L.nonterminals
  pub all : (j i : ℕ) → Mentions L j i → i < length L.nonterminals → In j (list_at us i)
