-- Refusals of a text.
use Rattle.rdx_base.specs.declared.place.Place.{Place}
use Rattle.rdx_sexp.specs.declared.fault.ReadKind.{ReadKind}
use Rattle.rdx_sexp.specs.declared.fault.ReadRefusal.{ReadRefusal}

-- the text is refused for this, at this place
abbrev pub refusal : ReadKind → Place → ReadRefusal
refusal k p = record { kind = k; place = p }
