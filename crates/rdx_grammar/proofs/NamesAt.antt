-- The names that a loop over definitions has before it.
use Rattle.std.proofs.Common.{◌≡◌, ◌++◌, ℕ, ◌+◌, ◌<◌, List, [], ◌∷◌, Option, Some, length, drop, get_or, map, sym, subst}
use Rattle.rdx_sexp.specs.Sexp.{Sexp}
use Rattle.rdx_grammar.specs.Definitions.{Definition, definition_in}
use Rattle.rdx_patterns.specs.AreNames.{AreNames}
use Rattle.rdx_grammar.specs.Nonterminals.{names_by, names_in}
use Rattle.rdx_patterns.specs.Parts.{text_of}
use Rattle.rdx_patterns.proofs.Rests.{drop-at}

-- two lists of names, one behind the other
names-both : (xs ys : List (List ℕ)) → AreNames (xs ++ ys) → AreNames xs × AreNames ys
names-both [] ys h = (tt, h)
names-both (x ∷ xs) ys h = let k = names-both xs ys h.1 in ((h.0, k.0), k.1)

-- what the next definition defines, and those behind it
pub names-at : (ds : List Sexp) (i : ℕ) (d : Sexp) → i < length ds → d ≡ get_or ds i d → AreNames (names_in (drop i ds)) → AreNames (names_by (definition_in d)) × AreNames (names_in (drop (i + 1) ds))
names-at ds i d h e n = names-both (names_by (definition_in d)) (names_in (drop (i + 1) ds)) (subst (λ (es : List Sexp). AreNames (names_in es)) (drop-at ds i d h e) n)

-- what a definition defines
pub names-some : (d : Sexp) (def : Definition) → Some def ≡ definition_in d → AreNames (names_by (definition_in d)) → AreNames (map text_of def.names)
names-some d def e n = subst (λ (o : Option Definition). AreNames (names_by o)) (sym e) n
