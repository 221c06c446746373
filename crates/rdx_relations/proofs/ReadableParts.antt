-- That data are readable passes to the parts of a form.
use Rattle.std.proofs.Common.{◌<◌, suc, List, [], ◌∷◌, arith}
use Rattle.rdx_base.specs.declared.place.Span.{Span}
use Rattle.rdx_sexp.specs.Sexp.{Sexp, Sexps, list}
use Rattle.rdx_sexp.specs.Size.{sexps_depth}
use Rattle.rdx_patterns.specs.Parts.{listed}
use Rattle.rdx_patterns.specs.Readable.{IsReadable}
use Rattle.rdx_parts.specs.PartsHave.{AreReadable, IsReadableTaken}
use Rattle.rdx_relations.proofs.InheritedParts.{items-readable, all-readable}
use Rattle.rdx_relations.proofs.PartsOfForms.{Each, IsInherited}

-- each by itself
pub each-readable : (ds : List Sexp) → AreReadable ds → Each IsReadable ds
each-readable [] h = tt
each-readable (d ∷ ds) h = (h.0, each-readable ds h.1)

-- and all
pub are-readable : (ds : List Sexp) → Each IsReadable ds → AreReadable ds
are-readable ds h = all-readable IsReadable (λ d r. r) ds h

-- the items of a list
pub listed-readable : (ds : Sexps) (s : Span) → IsReadable (list ds s) → Each IsReadable (listed ds)
listed-readable ds s r =
    each-readable (listed ds) (items-readable ds (let l : suc (sexps_depth ds) < 4294967296 = r.nested in omega (arith, l)) r.spelled)

pub readable-inherited : IsInherited IsReadable IsReadableTaken
readable-inherited = record {
  readable = λ d r. r;
  items = listed-readable;
  taken_one = λ p r. r;
  taken_several = λ ds r h. r;
  taken_each = are-readable;
}
