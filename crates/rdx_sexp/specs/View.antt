-- The data that values of the program stand for.
use Rattle.std.specs.Rc.{rc_str_bytes}
use Rattle.rdx_base.specs.declared.place.Span.{Span}
use Rattle.rdx_sexp.specs.declared.datum.Form.{Form}
use Rattle.rdx_sexp.specs.declared.datum.Form.TheVariants.{Int, Bool, Str, Sym, Key, List as ListOf}
use Rattle.rdx_sexp.specs.Sexp.{Sexp, integer, truth, text, symbol, keyword, leaf, list, sexps}

-- a form with this span
abbrev pub sexp_of : Form → Span → Sexp
sexp_of (Int n) s = leaf (integer n) s
sexp_of (Bool b) s = leaf (truth b) s
sexp_of (Str t) s = leaf (text (rc_str_bytes t)) s
sexp_of (Sym t) s = leaf (symbol (rc_str_bytes t)) s
sexp_of (Key t) s = leaf (keyword (rc_str_bytes t)) s
sexp_of (ListOf v) s = list (sexps v.items) s
