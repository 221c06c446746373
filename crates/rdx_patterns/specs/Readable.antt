-- The data that are read.
use Rattle.std.specs.Prelude.{◌<◌}
use Rattle.rdx_sexp.specs.Sexp.{Sexp}
use Rattle.rdx_sexp.specs.Size.{sexp_depth, IsSpelledSexp}

-- lists nest less than 2^32 deep in it, and its symbols are spelled as those of terms are
pub record IsReadable (d : Sexp) : Type 0 where
  pub nested : sexp_depth d < 4294967296
  pub spelled : IsSpelledSexp d
