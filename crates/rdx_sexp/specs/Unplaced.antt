-- Data without their places in a file.
use Rattle.rdx_base.specs.declared.place.Span.{Span}
use Rattle.rdx_sexp.specs.Sexp.{Sexp, Sexps, leaf, list, nil, cons}
use Rattle.rdx_sexp.specs.Text.{start}

-- one span for all
abbrev pub no_span : Span
no_span = record { start = start; end = start }

-- the same datum, with that span in place of each of its own
abbrev mutual
  pub unplaced : Sexp → Sexp
  unplaced (leaf a s) = leaf a no_span
  unplaced (list ds s) = list (all_unplaced ds) no_span

  pub all_unplaced : Sexps → Sexps
  all_unplaced nil = nil
  all_unplaced (cons d ds) = cons (unplaced d) (all_unplaced ds)
