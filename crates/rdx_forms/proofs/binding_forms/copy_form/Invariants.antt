use Rattle.std.proofs.Common.{◌≡◌, ◌++◌, drop}
use Rattle.rdx_alpha.specs.View.{places_of}
use Rattle.rdx_forms.proofs.binding_forms.copy_form.Given as goal

abbrev pub invariant-loop-place : goal.invariant-loop-place
invariant-loop-place l = places_of l.places.items ++ places_of (drop l.place-index l.form.places.items) ≡ places_of l.form.places.items
