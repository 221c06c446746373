-- The worked examples.
use Rattle.std.proofs.Common.{refl}
use Rattle.std.specs.Str.{chars}
use Rattle.rdx_patterns.specs.Examples.{AsksInside, ReadsAcross, NoSuchEnd, ReadsMismatch, ReadsOtherMismatch, ReadsLaterMark, NoSuchMismatch, NoMismatchEllipsis, NoMismatchBound}

pub asks_inside : AsksInside
asks_inside = refl

-- ---- contexts from a nonterminal to itself

pub reads_across : ReadsAcross
unfolding chars
reads_across = refl

pub no_such_end : NoSuchEnd
no_such_end = refl

-- ---- mismatch names

pub reads_mismatch : ReadsMismatch
unfolding chars
reads_mismatch = refl

pub reads_other_mismatch : ReadsOtherMismatch
unfolding chars
reads_other_mismatch = refl

pub reads_later_mark : ReadsLaterMark
unfolding chars
reads_later_mark = refl

pub no_such_mismatch : NoSuchMismatch
unfolding chars
no_such_mismatch = (refl, refl)

pub no_mismatch_ellipsis : NoMismatchEllipsis
unfolding chars
no_mismatch_ellipsis = refl

pub no_mismatch_bound : NoMismatchBound
unfolding chars
no_mismatch_bound = (refl, refl)
