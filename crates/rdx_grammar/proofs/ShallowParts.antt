-- Where a form nests less than 2^32 deep, its definitions do.
use Rattle.std.proofs.Common.{ℕ, ◌<◌, Bool, true, false, List, [], ◌∷◌, Option, Some, None, if◌then◌else◌}
use Rattle.rdx_sexp.specs.Sexp.{Sexp, leaf, list}
use Rattle.rdx_sexp.specs.Size.{sexp_depth}
use Rattle.rdx_grammar.specs.Forms.{GrammarForm, language_parts, extension_parts, headed, language_form, extension_form}
use Rattle.rdx_grammar.specs.Inside.CheckedForms.{AreShallow, AreShallowIn}
use Rattle.rdx_patterns.specs.Parts.{listed, is_symbol, is_word}
use Rattle.rdx_grammar.proofs.ShallowData.{shallow-behind, listed-shallow}

-- where a test holds
if_shallow : (b : Bool) (o : Option GrammarForm) → AreShallowIn o → AreShallowIn (if b then o else None)
if_shallow true o f = f
if_shallow false o f = tt

-- the items of a form that defines a language
language-shallow : (ds : List Sexp) → AreShallow ds → AreShallowIn (language_parts ds)
language-shallow [] f = tt
language-shallow (h ∷ []) f = tt
language-shallow (h ∷ l ∷ ds) f =
    if_shallow (is_symbol l) (Some (record { name = l; definitions = ds })) (shallow-behind l ds (shallow-behind h (l ∷ ds) f))

-- the items of a form that extends one
extension-shallow : (ds : List Sexp) → AreShallow ds → AreShallowIn (extension_parts ds)
extension-shallow [] f = tt
extension-shallow (h ∷ []) f = tt
extension-shallow (h ∷ l ∷ []) f = tt
extension-shallow (h ∷ l ∷ l0 ∷ ds) f =
    let o : Option GrammarForm = Some (record { name = l; definitions = ds }) in
    let g = shallow-behind l0 ds (shallow-behind l (l0 ∷ ds) (shallow-behind h (l ∷ l0 ∷ ds) f)) in
    if_shallow (is_symbol l) (if is_symbol l0 then o else None) (if_shallow (is_symbol l0) o g)

-- those of a form with this head
headed-shallow : (head : List ℕ) (parts : List Sexp → Option GrammarForm) (ds : List Sexp) → AreShallowIn (parts ds) → AreShallowIn (headed head parts ds)
headed-shallow head parts [] f = tt
headed-shallow head parts (d ∷ ds) f = if_shallow (is_word head d) (parts (d ∷ ds)) f

-- a form that defines a language
pub AreShallowIn-language : (d : Sexp) → sexp_depth d < 4294967296 → AreShallowIn (language_form d)
AreShallowIn-language (leaf a s) e = tt
AreShallowIn-language (list ds s) e = headed-shallow _ language_parts (listed ds) (language-shallow (listed ds) (listed-shallow ds e))

-- a form that extends one
pub AreShallowIn-extension : (d : Sexp) → sexp_depth d < 4294967296 → AreShallowIn (extension_form d)
AreShallowIn-extension (leaf a s) e = tt
AreShallowIn-extension (list ds s) e = headed-shallow _ extension_parts (listed ds) (extension-shallow (listed ds) (listed-shallow ds e))
