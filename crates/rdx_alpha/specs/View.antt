-- What binding forms of the code stand for.
use Rattle.std.specs.Prelude.{List, map}
use Rattle.rdx_alpha.specs.Forms.{Place, binder, binders, plain, body, Form}
use Rattle.rdx_alpha.specs.declared.form.BPlace.{BPlace}
use Rattle.rdx_alpha.specs.declared.form.BPlace.TheVariants.{Binder, Binders, Plain, Body}
use Rattle.rdx_alpha.specs.declared.form.BindingForm.{BindingForm}

abbrev pub place_of : BPlace → Place
place_of Binder = binder
place_of Binders = binders
place_of Plain = plain
place_of (Body js) = body js.items

abbrev pub places_of : List BPlace → List Place
places_of ps = map place_of ps

abbrev pub form_of : BindingForm → Form
form_of f = record { head = f.head; places = places_of f.places.items }

abbrev pub forms_of : List BindingForm → List Form
forms_of fs = map form_of fs
