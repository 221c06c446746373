-- Places by the names of languages.
use Rattle.std.specs.Prelude.{ℕ, List, Vec}
use Rattle.std.specs.BTreeMap.{BTreeMap}
use Rattle.std.specs.Borrow.{Bor}
use Rattle.std.specs.declared.alloc.Global.{Global}
use Rattle.rdx_alpha.specs.declared.form.BindingForm.{BindingForm}
use Rattle.rdx_lang.specs.Model.Places.{FindsPlaces, place_in}

-- each of these languages is found by its name, at the place of the first that has it, where they have the places from i on
abbrev pub AreFoundFrom : ℕ → BTreeMap (Bor (List ℕ)) ℕ → List (List ℕ × Vec BindingForm Global) → Type 0
AreFoundFrom i m ps = FindsPlaces (λ (p : List ℕ × Vec BindingForm Global). p.0) (place_in m) i ps

-- and so those that have all places
abbrev pub AreFoundIn : BTreeMap (Bor (List ℕ)) ℕ → List (List ℕ × Vec BindingForm Global) → Type 0
AreFoundIn m ps = AreFoundFrom 0 m ps
