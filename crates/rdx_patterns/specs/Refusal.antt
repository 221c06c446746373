-- Refusals, and which of several is reported.
use Rattle.std.specs.Prelude.{ℕ, List, [], ◌∷◌, Option, Some, None, option_map}
use Rattle.std.specs.Rc.{rc_str_bytes}
use Rattle.rdx_base.specs.declared.place.Place.{Place}
use Rattle.rdx_sexp.specs.Sexp.{Sexp, span_of}
use Rattle.rdx_patterns.specs.Parts.{text_of}
use Rattle.rdx_patterns.specs.declared.shape.fault.DefKind.{DefKind}
use Rattle.rdx_patterns.specs.declared.shape.fault.DefRefusal.{DefRefusal}

-- why a form is refused, where, and the name at which it is
pub record Refusal : Type 0 where
  pub kind : DefKind
  pub place : Place
  pub name : Option (List ℕ)

-- the refusal that a refusal of the code stands for
abbrev pub refusal_of : DefRefusal → Refusal
refusal_of r = record { kind = r.kind; place = r.place; name = option_map rc_str_bytes r.name }

-- at a datum, without a name
abbrev pub unnamed : DefKind → Sexp → Refusal
unnamed k d = record { kind = k; place = (span_of d).start; name = None }

-- at a datum, with this name
abbrev pub named_at : DefKind → Sexp → List ℕ → Refusal
named_at k d x = record { kind = k; place = (span_of d).start; name = Some x }

-- at a symbol, by its name
abbrev pub named : DefKind → Sexp → Refusal
named k d = named_at k d (text_of d)

-- the first of two
abbrev pub or_else : {A : Type 0} → Option A → Option A → Option A
or_else None o = o
or_else (Some x) o = Some x

-- the first refusal among these
abbrev pub first_refusal : List (Option Refusal) → Option Refusal
first_refusal [] = None
first_refusal (o ∷ os) = or_else o (first_refusal os)

-- the first of a list
abbrev pub first : {A : Type 0} → List A → Option A
first [] = None
first (x ∷ xs) = Some x
