-- The binding forms of languages, and their heads, as the code keeps them.
use Rattle.std.specs.Prelude.{ℕ, Bool, false, List, [], ◌∷◌, Option, Some, None, map, bytes_eq, if◌then◌else◌}
use Rattle.std.specs.List.{list_any}
use Rattle.rdx_sexp.specs.Sexp.{Sexp}
use Rattle.rdx_alpha.specs.Forms.{Form}
use Rattle.rdx_patterns.specs.Parts.{parts, is_word}
use Rattle.rdx_forms.specs.Model.Tabled.{FindsFirsts}
use Rattle.rdx_forms.specs.declared.binding_forms.Found.{Found}

-- ---- heads

-- the heads of these
abbrev pub heads_among : List Form → List (List ℕ)
heads_among fs = map (λ f. f.head) fs

-- the forms whose heads are none of these texts
abbrev pub headed_otherwise : List (List ℕ) → List Form → List Form
headed_otherwise xs [] = []
headed_otherwise xs (g ∷ gs) = if list_any (bytes_eq g.head) xs then headed_otherwise xs gs else g ∷ headed_otherwise xs gs

-- ---- languages by their names

-- each name is found at its first place
abbrev pub IsFound : Found → Type 0
IsFound f = FindsFirsts f.firsts (map (λ (p : List ℕ × _). p.0) f.forms.items)

-- the name, where there is one
abbrev pub name_or_none : Option (List ℕ) → List (List ℕ)
name_or_none None = []
name_or_none (Some x) = x ∷ []

-- ---- forms by their heads

-- the first of the parts is this word
abbrev pub word_first : List ℕ → Option (List Sexp) → Bool
word_first x None = false
word_first x (Some []) = false
word_first x (Some (h ∷ ds)) = is_word x h

-- the form is a list with this word as its head
abbrev pub is_headed : List ℕ → Sexp → Bool
is_headed x d = word_first x (parts d)
