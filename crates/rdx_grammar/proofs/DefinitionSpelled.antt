-- The names that definitions define are spelled as symbols, where all symbols in the definitions are.
use Rattle.std.proofs.Common.{◌≡◌, ◌++◌, ℕ, Bool, true, false, List, [], ◌∷◌, Option, Some, None, map, refl, sym, ap, subst, if◌then◌else◌}
use Rattle.std.specs.Prelude.{option_map, codes, IsTrue}
use Rattle.rdx_term.specs.Spelling.{is_symbol_spelling}
use Rattle.rdx_sexp.specs.Sexp.{Sexp, Sexps, leaf, list, integer, truth, text, symbol, keyword, sexps, nil, cons}
use Rattle.rdx_sexp.specs.Size.{IsSpelledSexp, AreSpelled}
use Rattle.rdx_grammar.specs.Definitions.{definition, further, at_sign, named_by, named_all, definition_by, definition_among, definition_in}
use Rattle.rdx_grammar.specs.Nonterminals.{names_by, names_in}
use Rattle.rdx_patterns.specs.Parts.{listed, text_of, is_symbol, is_word, are_symbols}
use Rattle.rdx_patterns.proofs.Booleans.{and_true}
use Rattle.rdx_patterns.proofs.SpelledNames.{symbol-spelled}

-- each of these is spelled as a symbol
abbrev pub AreSpellings : List (List ℕ) → Type 0
AreSpellings [] = Unit {0}
AreSpellings (x ∷ xs) = IsTrue (is_symbol_spelling x) × AreSpellings xs

-- those of two lists
AreSpellings-append : (xs ys : List (List ℕ)) → AreSpellings xs → AreSpellings ys → AreSpellings (xs ++ ys)
AreSpellings-append [] ys h k = k
AreSpellings-append (x ∷ xs) ys h k = (h.0, AreSpellings-append xs ys h.1 k)

-- data as a list, and back
pub sexps-listed : (ds : Sexps) → sexps (listed ds) ≡ ds
sexps-listed nil = refl
sexps-listed (cons d ds) = ap (cons d) (sexps-listed ds)

-- several symbols
symbols-spelled : (ds : List Sexp) → are_symbols ds ≡ true → AreSpelled (sexps ds) → AreSpellings (map text_of ds)
symbols-spelled [] e h = tt
symbols-spelled (d ∷ ds) e h =
    let k = and_true (is_symbol d) (are_symbols ds) e in
    (symbol-spelled d k.0 h.0, symbols-spelled ds k.1 h.1)

-- the names of a definition with these alternatives
definition_spelled : (names ds : List Sexp) → AreSpellings (map text_of names) → AreSpellings (names_by (definition names ds))
definition_spelled names [] h = tt
definition_spelled names (d ∷ ds) h = h

-- and where a sign is found
abbrev IsSplit : Option (List Sexp × List Sexp) → Type 0
IsSplit None = Unit {0}
IsSplit (Some x) = AreSpellings (map text_of x.0)

-- with one symbol more in front
further_split : (d : Sexp) (o : Option (List Sexp × List Sexp)) → IsTrue (is_symbol_spelling (text_of d)) → IsSplit o → IsSplit (option_map (further d) o)
further_split d None e h = tt
further_split d (Some x) e h = (e, h)

-- at the first sign
at_sign_split : (ds : List Sexp) → AreSpelled (sexps ds) → IsSplit (at_sign ds)
at_sign_split [] h = tt
at_sign_split (d ∷ ds) h = by_word (is_word (codes "::=") d) (at_sign ds) (at_sign_split ds h.1)
  where
    by_symbol : (b : Bool) (o : Option (List Sexp × List Sexp)) → is_symbol d ≡ b → IsSplit o → IsSplit (if b then option_map (further d) o else None)
    by_symbol true o e k = further_split d o (symbol-spelled d e h.0) k
    by_symbol false o e k = tt

    by_word : (b : Bool) (o : Option (List Sexp × List Sexp)) → IsSplit o → IsSplit (if b then Some ([], ds) else if is_symbol d then option_map (further d) o else None)
    by_word true o k = tt
    by_word false o k = by_symbol (is_symbol d) o refl k

-- a definition of one name, or of several before a sign
named_by_spelled : (e : Sexp) (ds : List Sexp) (o : Option (List Sexp × List Sexp)) → IsTrue (is_symbol_spelling (text_of e)) → IsSplit o → AreSpellings (names_by (named_by e ds o))
named_by_spelled e ds None h l = definition_spelled (e ∷ []) ds (h, tt)
named_by_spelled e ds (Some x) h l = definition_spelled (e ∷ x.0) x.1 (h, l)

-- one of several names in a list
named_all_spelled : (es ds : List Sexp) → AreSpelled (sexps es) → AreSpellings (names_by (named_all es ds))
named_all_spelled [] ds h = tt
named_all_spelled (e ∷ es) ds h = by_test (are_symbols (e ∷ es)) refl
  where
    by_test : (b : Bool) → are_symbols (e ∷ es) ≡ b → AreSpellings (names_by (if b then definition (e ∷ es) ds else None))
    by_test true f = definition_spelled (e ∷ es) ds (symbols-spelled (e ∷ es) f h)
    by_test false f = tt

-- by the first item
definition_by_spelled : (d : Sexp) (ds : List Sexp) → IsSpelledSexp d → AreSpelled (sexps ds) → AreSpellings (names_by (definition_by d ds))
definition_by_spelled (leaf (symbol x) s) ds h k = named_by_spelled (leaf (symbol x) s) ds (at_sign ds) h (at_sign_split ds k)
definition_by_spelled (leaf (integer n) s) ds h k = tt
definition_by_spelled (leaf (truth b) s) ds h k = tt
definition_by_spelled (leaf (text t) s) ds h k = tt
definition_by_spelled (leaf (keyword w) s) ds h k = tt
definition_by_spelled (list es s) ds h k = named_all_spelled (listed es) ds (subst AreSpelled (sym (sexps-listed es)) h)

-- among the items of a list
definition_among_spelled : (ds : List Sexp) → AreSpelled (sexps ds) → AreSpellings (names_by (definition_among ds))
definition_among_spelled [] h = tt
definition_among_spelled (d ∷ ds) h = definition_by_spelled d ds h.0 h.1

-- in a datum
definition_in_spelled : (d : Sexp) → IsSpelledSexp d → AreSpellings (names_by (definition_in d))
definition_in_spelled (leaf a s) h = tt
definition_in_spelled (list ds s) h = definition_among_spelled (listed ds) (subst AreSpelled (sym (sexps-listed ds)) h)

-- in definitions
pub names_in-spelled : (ds : List Sexp) → AreSpelled (sexps ds) → AreSpellings (names_in ds)
names_in-spelled [] h = tt
names_in-spelled (d ∷ ds) h = AreSpellings-append (names_by (definition_in d)) (names_in ds) (definition_in_spelled d h.0) (names_in-spelled ds h.1)
