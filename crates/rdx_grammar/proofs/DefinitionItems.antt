-- The alternatives of the definition that a datum is are items of that datum.
use Rattle.std.proofs.Common.{Bool, true, false, List, [], ◌∷◌, Option, Some, None, if◌then◌else◌}
use Rattle.std.specs.Prelude.{option_map, codes}
use Rattle.rdx_sexp.specs.Sexp.{Sexp, leaf, list, integer, truth, text, symbol, keyword}
use Rattle.rdx_lang.specs.Members.{In, there}
use Rattle.rdx_grammar.specs.Definitions.{Definition, definition, further, at_sign, named_by, named_all, definition_by, definition_among}
use Rattle.rdx_patterns.specs.Parts.{listed, is_symbol, is_word, are_symbols}

-- each of the first is one of the second
abbrev pub AreOf : List Sexp → List Sexp → Type 0
AreOf es ds = (d : Sexp) → In d es → In d ds

-- the alternatives are, where there is a definition
abbrev pub AreItems : Option Definition → List Sexp → Type 0
AreItems None ds = Unit {0}
AreItems (Some def) ds = AreOf def.alternatives ds

-- a definition with these alternatives
definition-items : (names es ds : List Sexp) → AreOf es ds → AreItems (definition names es) ds
definition-items names [] ds f = tt
definition-items names (e ∷ es) ds f = f

-- what stands behind a sign is, where there is one
abbrev AreBehind : Option (List Sexp × List Sexp) → List Sexp → Type 0
AreBehind None ds = Unit {0}
AreBehind (Some x) ds = AreOf x.1 ds

-- with one symbol more in front
further-behind : (d : Sexp) (o : Option (List Sexp × List Sexp)) (ds : List Sexp) → AreBehind o ds
    → AreBehind (option_map (further d) o) (d ∷ ds)
further-behind d None ds f = tt
further-behind d (Some x) ds f = λ e i. there (f e i)

-- behind the first sign
at_sign-behind : (ds : List Sexp) → AreBehind (at_sign ds) ds
at_sign-behind [] = tt
at_sign-behind (d ∷ ds) = by_tests (is_word (codes "::=") d) (is_symbol d) (at_sign ds) (at_sign-behind ds)
  where
    by_tests : (b c : Bool) (o : Option (List Sexp × List Sexp)) → AreBehind o ds
        → AreBehind (if b then Some ([], ds) else if c then option_map (further d) o else None) (d ∷ ds)
    by_tests true c o f = λ e i. there i
    by_tests false true o f = further-behind d o ds f
    by_tests false false o f = tt

-- a definition of one name, or of several before a sign
named_by-items : (e : Sexp) (ds : List Sexp) (o : Option (List Sexp × List Sexp)) → AreBehind o ds → AreItems (named_by e ds o) ds
named_by-items e ds None f = definition-items (e ∷ []) ds ds (λ d i. i)
named_by-items e ds (Some x) f = definition-items (e ∷ x.0) x.1 ds f

-- one of several names in a list
named_all-items : (es ds : List Sexp) → AreItems (named_all es ds) ds
named_all-items [] ds = tt
named_all-items (e ∷ es) ds = by_test (are_symbols (e ∷ es))
  where
    by_test : (b : Bool) → AreItems (if b then definition (e ∷ es) ds else None) ds
    by_test true = definition-items (e ∷ es) ds ds (λ d i. i)
    by_test false = tt

-- by the first item
definition_by-items : (d : Sexp) (ds : List Sexp) → AreItems (definition_by d ds) ds
definition_by-items (leaf (symbol x) s) ds = named_by-items (leaf (symbol x) s) ds (at_sign ds) (at_sign-behind ds)
definition_by-items (leaf (integer n) s) ds = tt
definition_by-items (leaf (truth b) s) ds = tt
definition_by-items (leaf (text t) s) ds = tt
definition_by-items (leaf (keyword w) s) ds = tt
definition_by-items (list es s) ds = named_all-items (listed es) ds

-- items behind the first are items
behind-items : (o : Option Definition) (d : Sexp) (ds : List Sexp) → AreItems o ds → AreItems o (d ∷ ds)
behind-items None d ds f = tt
behind-items (Some def) d ds f = λ e i. there (f e i)

-- among the items of a list
pub definition_among-items : (ds : List Sexp) → AreItems (definition_among ds) ds
definition_among-items [] = tt
definition_among-items (d ∷ ds) = behind-items (definition_by d ds) d ds (definition_by-items d ds)
