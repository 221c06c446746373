-- The binding forms of a language, found at the place of its name.
use Rattle.std.proofs.Common.{◌≡◌, ◌∙◌, ◌<◌, ℕ, Bool, true, false, List, [], ◌∷◌, Option, Some, None, length, get_or, refl, sym, ap, if◌then◌else◌}
use Rattle.std.specs.Prelude.{Vec, bytes_eq}
use Rattle.std.specs.declared.alloc.Global.{Global}
use Rattle.rdx_alpha.specs.Forms.{Form}
use Rattle.rdx_alpha.specs.View.{forms_of}
use Rattle.rdx_alpha.specs.declared.form.BindingForm.{BindingForm}
use Rattle.rdx_lang.specs.Model.Places.{place_from}
use Rattle.rdx_lang.proofs.FirstPlaces.{none-stands, stands-at}
use Rattle.rdx_answer.specs.Bound.{forms_named}
use Rattle.rdx_answer.specs.Views.{bound_of}

-- a language's name and binding forms, as the code has them
abbrev pub Named : Type 0
Named = List ℕ × Vec BindingForm Global

abbrev pub name_of : Named → List ℕ
name_of p = p.0

abbrev pub its_forms : Named → List Form
its_forms p = forms_of p.1.items

-- the binding forms of the first of this name, if one has it
abbrev forms_among : List Named → List ℕ → Option (List Form)
forms_among [] x = None
forms_among (p ∷ ps) x = if bytes_eq p.0 x then Some (its_forms p) else forms_among ps x

-- these, and none where there are none
abbrev or_none : Option (List Form) → List Form
or_none None = []
or_none (Some fs) = fs

named-among : (ps : List Named) (x : List ℕ) → forms_named (bound_of ps) x ≡ or_none (forms_among ps x)
named-among [] x = refl
named-among (p ∷ ps) x = by_test (bytes_eq p.0 x) (named-among ps x)
  where
    by_test : (b : Bool) → forms_named (bound_of ps) x ≡ or_none (forms_among ps x)
        → (if b then its_forms p else forms_named (bound_of ps) x) ≡ or_none (if b then Some (its_forms p) else forms_among ps x)
    by_test true e = refl
    by_test false e = e

-- a place that is found is that of a language
pub found-within : (ps : List Named) (x : List ℕ) (k : ℕ) → place_from name_of 0 x ps ≡ Some k → k < length ps
found-within ps x k e = (stands-at name_of its_forms forms_among (λ y. refl) (λ q qs y. refl) ps x (Some k) k (sym e) refl).within

-- which has the binding forms of the name
pub found-forms : (ps : List Named) (x : List ℕ) (k : ℕ) (d : Named) → place_from name_of 0 x ps ≡ Some k
    → its_forms (get_or ps k d) ≡ forms_named (bound_of ps) x
found-forms ps x k d e =
    let s = stands-at name_of its_forms forms_among (λ y. refl) (λ q qs y. refl) ps x (Some k) k (sym e) refl in
    sym (named-among ps x ∙ ap or_none (s.stands d))

-- where no place is found, the name has no binding forms
pub no-forms : (ps : List Named) (x : List ℕ) → place_from name_of 0 x ps ≡ None → [] ≡ forms_named (bound_of ps) x
no-forms ps x e =
    sym (named-among ps x ∙ ap or_none (none-stands name_of its_forms forms_among (λ y. refl) (λ q qs y. refl) ps x None (sym e) refl))
