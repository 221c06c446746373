use Rattle.std.proofs.Common.{◌≡◌, ◌++◌, length, string_bytes}
use Rattle.std.specs.Str.{encode_utf8_all}
use Rattle.rdx_sexp.specs.Token.{token_chars, past_token}
use Rattle.rdx_sexp.proofs.words.take_token.Given as goal

abbrev pub invariant-loop-c : goal.invariant-loop-c
invariant-loop-c l =
    (string_bytes l.text ++ encode_utf8_all (token_chars l.at.rest.now) ≡ string_bytes l.initial.text ++ encode_utf8_all (token_chars l.initial.at.rest.now))
    × (past_token l.at.place l.at.rest.now ≡ past_token l.initial.at.place l.initial.at.rest.now)

abbrev pub decreases-loop-c : goal.decreases-loop-c
decreases-loop-c l = length l.at.rest.now
