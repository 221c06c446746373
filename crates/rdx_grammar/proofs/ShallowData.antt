-- Where a datum nests less than 2^32 deep, so do the data in it, and the alternatives of the definition that it is.
use Rattle.std.proofs.Common.{◌≡◌, ℕ, suc, ◌<◌, List, ◌∷◌, length, get_or, Option, Some, None, sym, subst, arith}
use Rattle.rdx_sexp.specs.Sexp.{Sexp, Sexps, leaf, list, sexps}
use Rattle.rdx_sexp.specs.Size.{sexp_depth, sexps_depth}
use Rattle.rdx_lang.specs.Members.{there}
use Rattle.rdx_grammar.specs.Definitions.{Definition, definition_among, definition_in}
use Rattle.rdx_grammar.specs.Inside.CheckedForms.{AreShallow}
use Rattle.rdx_patterns.specs.Parts.{listed}
use Rattle.rdx_grammar.proofs.DefinitionItems.{AreItems, definition_among-items}
use Rattle.rdx_grammar.proofs.DefinitionSpelled.{sexps-listed}
use Rattle.rdx_patterns.proofs.ShallowData.{in-at, depth-in}

-- ---- several data

-- where each is shallow, the one at a place is
pub shallow-at : (ds : List Sexp) (i : ℕ) (d : Sexp) → i < length ds → d ≡ get_or ds i d → AreShallow ds → sexp_depth d < 4294967296
shallow-at ds i d h e f = f d (in-at ds i d h e)

-- those behind the first are
pub shallow-behind : (d : Sexp) (ds : List Sexp) → AreShallow (d ∷ ds) → AreShallow ds
shallow-behind d ds f c h = f c (there h)

-- the items of a list that is shallow are
shallow-items : (ds : List Sexp) → sexps_depth (sexps ds) < 4294967296 → AreShallow ds
shallow-items ds e d h = let k = depth-in ds d h in omega (arith, k, e)

-- ---- definitions

-- the alternatives of a definition are shallow, where there is one
abbrev AreShallowBy : Option Definition → Type 0
AreShallowBy None = Unit {0}
AreShallowBy (Some def) = AreShallow def.alternatives

-- as they are where they are among data that are
items-shallow : (o : Option Definition) (ds : List Sexp) → AreItems o ds → AreShallow ds → AreShallowBy o
items-shallow None ds f h = tt
items-shallow (Some def) ds f h = λ d i. h d (f d i)

-- the items of a shallow datum that is a list are shallow
pub listed-shallow : (ds : Sexps) → suc (sexps_depth ds) < 4294967296 → AreShallow (listed ds)
listed-shallow ds e =
    let f = subst (λ es. suc (sexps_depth es) < 4294967296) (sym (sexps-listed ds)) e in
    shallow-items (listed ds) (omega (arith, f))

-- in a datum
definition_in-shallow : (d : Sexp) → sexp_depth d < 4294967296 → AreShallowBy (definition_in d)
definition_in-shallow (leaf a s) e = tt
definition_in-shallow (list ds s) e = items-shallow (definition_among (listed ds)) (listed ds) (definition_among-items (listed ds)) (listed-shallow ds e)

-- the alternatives of the definition that a datum is
pub alternatives-shallow : (d : Sexp) (def : Definition) → Some def ≡ definition_in d → sexp_depth d < 4294967296 → AreShallow def.alternatives
alternatives-shallow d def e h = subst AreShallowBy (sym e) (definition_in-shallow d h)
