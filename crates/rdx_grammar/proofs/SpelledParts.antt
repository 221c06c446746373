-- Where the symbols of a form are spelled as those of terms, those of its parts are.
use Rattle.std.proofs.Common.{◌≡◌, ℕ, Bool, true, false, List, [], ◌∷◌, Option, Some, None, refl, sym, subst, if◌then◌else◌}
use Rattle.rdx_sexp.specs.Sexp.{Sexp, leaf, list, sexps}
use Rattle.rdx_sexp.specs.Size.{IsSpelledSexp, AreSpelled}
use Rattle.rdx_grammar.specs.Forms.{GrammarForm, language_parts, extension_parts, headed, language_form, extension_form}
use Rattle.rdx_grammar.specs.Inside.CheckedForms.{AreSpelledIn}
use Rattle.rdx_patterns.specs.Parts.{listed, is_symbol, is_word}
use Rattle.rdx_grammar.proofs.DefinitionSpelled.{sexps-listed}
use Rattle.rdx_patterns.proofs.SpelledNames.{symbol-spelled}

-- a symbol, and definitions
spelled_parts : (l : Sexp) (ds : List Sexp) (b : Bool) → is_symbol l ≡ b → IsSpelledSexp l → AreSpelled (sexps ds) → AreSpelledIn (if b then Some (record { name = l; definitions = ds }) else None)
spelled_parts l ds true e h k = record { language = symbol-spelled l e h; definitions = k }
spelled_parts l ds false e h k = tt

-- where a test holds
if_spelled : (b : Bool) (o : Option GrammarForm) → AreSpelledIn o → AreSpelledIn (if b then o else None)
if_spelled true o h = h
if_spelled false o h = tt

-- where two tests hold
if_both_spelled : (b c : Bool) (o : Option GrammarForm) → AreSpelledIn (if b then o else None) → AreSpelledIn (if b then (if c then o else None) else None)
if_both_spelled true c o h = if_spelled c o h
if_both_spelled false c o h = tt

-- the items of a form that defines a language
language_spelled : (ds : List Sexp) → AreSpelled (sexps ds) → AreSpelledIn (language_parts ds)
language_spelled [] n = tt
language_spelled (h ∷ []) n = tt
language_spelled (h ∷ l ∷ ds) n = spelled_parts l ds (is_symbol l) refl n.1.0 n.1.1

-- the items of a form that extends one
extension_spelled : (ds : List Sexp) → AreSpelled (sexps ds) → AreSpelledIn (extension_parts ds)
extension_spelled [] n = tt
extension_spelled (h ∷ []) n = tt
extension_spelled (h ∷ l ∷ []) n = tt
extension_spelled (h ∷ l ∷ l0 ∷ ds) n =
    if_both_spelled (is_symbol l) (is_symbol l0) (Some (record { name = l; definitions = ds })) (spelled_parts l ds (is_symbol l) refl n.1.0 n.1.1.1)

-- those of a form with this head
headed_spelled : (head : List ℕ) (f : List Sexp → Option GrammarForm) (ds : List Sexp) → AreSpelledIn (f ds) → AreSpelledIn (headed head f ds)
headed_spelled head f [] h = tt
headed_spelled head f (d ∷ ds) h = if_spelled (is_word head d) (f (d ∷ ds)) h

-- a form that defines a language
pub AreSpelledIn-language : (d : Sexp) → IsSpelledSexp d → AreSpelledIn (language_form d)
AreSpelledIn-language (leaf a s) h = tt
AreSpelledIn-language (list ds s) h = headed_spelled _ language_parts (listed ds) (language_spelled (listed ds) (subst AreSpelled (sym (sexps-listed ds)) h))

-- a form that extends one
pub AreSpelledIn-extension : (d : Sexp) → IsSpelledSexp d → AreSpelledIn (extension_form d)
AreSpelledIn-extension (leaf a s) h = tt
AreSpelledIn-extension (list ds s) h = headed_spelled _ extension_parts (listed ds) (extension_spelled (listed ds) (subst AreSpelled (sym (sexps-listed ds)) h))
