-- The binding forms of the languages of a file.
use Rattle.std.specs.Prelude.{ℕ, List, [], ◌∷◌, bytes_eq, if◌then◌else◌}
use Rattle.rdx_alpha.specs.Forms.{Form}

-- the name of a language, and its binding forms
abbrev pub Bound : Type 0
Bound = List ℕ × List Form

-- the binding forms of the first language of this name; none where no language has it
abbrev pub forms_named : List Bound → List ℕ → List Form
forms_named [] x = []
forms_named (b ∷ bs) x = if bytes_eq b.0 x then b.1 else forms_named bs x
