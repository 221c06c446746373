use Rattle.std.proofs.Common.{◌≡◌, length, [], string_bytes}
use Rattle.rdx_sexp.specs.Strings.{string_body}
use Rattle.rdx_sexp.specs.Inside.Cursor.{with_bytes}
use Rattle.rdx_sexp.proofs.strings.string_body.Given as goal

abbrev pub invariant-loop-c : goal.invariant-loop-c
invariant-loop-c l =
    with_bytes (string_bytes l.text) (string_body l.place l.at.place l.at.rest.now)
    ≡ with_bytes [] (string_body l.place l.initial.at.place l.initial.at.rest.now)

abbrev pub decreases-loop-c : goal.decreases-loop-c
decreases-loop-c l = length l.at.rest.now
