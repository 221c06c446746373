-- The names of cases as they are printed.
use Rattle.std.proofs.Common.{◌++◌, ℕ, List, [], IsUtf8, refl, subst, append-nil}
use Rattle.rdx_sexp.proofs.PrintedChars.{IsUtf8-Encodes, Encodes-tree}
use Rattle.rdx_term.specs.Text.{string_text}
use Rattle.rdx_term.specs.Tree.{text}

-- a string is printed in UTF-8
pub IsUtf8-printed : (x : List ℕ) → IsUtf8 x → IsUtf8 (string_text x)
IsUtf8-printed x u =
    subst IsUtf8 (append-nil (string_text x)) (IsUtf8-Encodes _ (string_text x ++ []) (Encodes-tree (text x) [] [] u (record { valid = refl; same = refl })))
