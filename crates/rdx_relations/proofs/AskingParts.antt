-- That data ask for cross nonterminals to none but some passes to the parts of a form.
use Rattle.std.proofs.Common.{◌≡◌, ℕ, List, [], ◌∷◌}
use Rattle.rdx_base.specs.declared.place.Span.{Span}
use Rattle.rdx_sexp.specs.Sexp.{Sexp, Sexps, list, nil, cons, sexps}
use Rattle.rdx_patterns.specs.Ends.{ends_in, ends_among}
use Rattle.rdx_patterns.specs.Among.{AreAmong}
use Rattle.rdx_patterns.specs.Parts.{listed}
use Rattle.rdx_patterns.specs.PatternChecks.{bad_binders}
use Rattle.rdx_patterns.specs.Readable.{IsReadable}
use Rattle.rdx_patterns.proofs.KnownReadings.{items-among, first-among, rest-among, all-among}
use Rattle.rdx_parts.specs.Outlines.{Takes, one, several, each, taken_occurrences}
use Rattle.rdx_parts.specs.PartsHave.{AreReadableItems, IsReadableTaken, CanBind}
use Rattle.rdx_relations.proofs.BoundParts.{can-bind}
use Rattle.rdx_relations.proofs.InheritedParts.{all-readable}
use Rattle.rdx_relations.proofs.PartsOfForms.{Each, IsInherited}
use Rattle.rdx_relations.proofs.ReadableParts.{listed-readable}

-- a readable datum that asks for those to some of es alone
pub record AsksWithin (es : List (List ℕ)) (d : Sexp) : Type 0 where
  pub readable : IsReadable d
  pub ends : AreAmong (ends_in d) es

-- a form asks for those to what it asks for
pub asks-within : (d : Sexp) → IsReadable d → AsksWithin (ends_in d) d
asks-within d r = record { readable = r; ends = λ y i. i }

module _ (es : List (List ℕ)) where
  -- what is taken is readable, and asks for no others
  abbrev pub TakenWithin : Takes → Type 0
  TakenWithin (one p) = AsksWithin es p
  TakenWithin (several ds) = AreReadableItems ds × AreAmong (ends_among (sexps ds)) es
  TakenWithin (each ds) = Each (AsksWithin es) ds

  -- it is readable
  taken-readable : (w : Takes) → TakenWithin w → IsReadableTaken w
  taken-readable (one p) h = h.readable
  taken-readable (several ds) h = h.0
  taken-readable (each ds) h = all-readable (AsksWithin es) (λ d k. k.readable) ds h

  -- ---- lists

  -- the items of a list ask for no others
  listed-within : (ds : Sexps) → Each IsReadable (listed ds) → AreAmong (ends_among ds) es → Each (AsksWithin es) (listed ds)
  listed-within nil r h = tt
  listed-within (cons d ds) r h =
      (record { readable = r.0; ends = first-among d ds es h }, listed-within ds r.1 (rest-among d ds es h))

  items-within : (ds : Sexps) (s : Span) → AsksWithin es (list ds s) → Each (AsksWithin es) (listed ds)
  items-within ds s h = listed-within ds (listed-readable ds s h.readable) (items-among ds s es h.ends)

  -- nor do all of them
  all-within : (ds : List Sexp) → Each (AsksWithin es) ds → AreAmong (ends_among (sexps ds)) es
  all-within [] h = λ y i. elim i [ ]
  all-within (d ∷ ds) h = all-among d (sexps ds) es h.0.ends (all-within ds h.1)

  pub within-inherited : IsInherited (AsksWithin es) TakenWithin
  within-inherited = record {
    readable = λ d h. h.readable;
    items = items-within;
    taken_one = λ p h. h;
    taken_several = λ ds r h. (r, all-within ds h);
    taken_each = λ ds h. h;
  }

  -- ---- what binds

  -- what is taken binds names, and asks for no others
  pub record BindsWithin (ns : List (List ℕ)) (w : Takes) : Type 0 where
    pub binds : CanBind ns w
    pub asks : TakenWithin w

  -- where none of the names that it binds may not be bound
  pub binds-within : (ns : List (List ℕ)) (w : Takes) → TakenWithin w → bad_binders (taken_occurrences w) ≡ [] → BindsWithin ns w
  binds-within ns w h e = record { binds = can-bind ns w (taken-readable w h) e; asks = h }
