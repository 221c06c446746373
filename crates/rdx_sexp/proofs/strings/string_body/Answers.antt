use Rattle.std.proofs.Common.{◌≡◌, Some, ◌∙◌, sym, string_bytes, arith}
use Rattle.rdx_sexp.specs.Strings.{escape_of}
use Rattle.rdx_sexp.proofs.Steps.{body_plain, body_escape}
use Rattle.rdx_sexp.proofs.strings.string_body.Goals as goal

pub loop-c-preserved-then-c-ne92 : goal.loop-c-preserved-then-c-ne92
loop-c-preserved-then-c-ne92 c =
    body_plain c.args.place c.loop-c.at.place c.in-Some.rest.place c.in-Some.c (string_bytes c.loop-c.text) (string_bytes c.push.new.self)
    c.loop-c.at.rest.now c.in-Some.rest.rest.now c.in-Some.ensures.0 c.in-Some.ensures.1 c.if-c-eq34.false c.if-c-ne92.true c.in_ok-push.ensures.bytes
    ∙ c.loop-c.invariant

pub loop-c-preserved : goal.loop-c-preserved
loop-c-preserved c =
    let backslash : c.in-Some.c ≡ 92 = grind (arith, c.if-c-ne92.false) in
    let means : escape_of c.in-Some-step.e ≡ Some c.in-Some-escape_of.meant = sym c.escape_of.ensures ∙ c.in-Some-escape_of.is in
    body_escape c.args.place c.loop-c.at.place c.in-Some-step.others.place c.in-Some.rest.place c.in-Some.c c.in-Some-step.e c.in-Some-escape_of.meant
    (string_bytes c.loop-c.text) (string_bytes c.push-in-Some.new.self) c.loop-c.at.rest.now c.in-Some.rest.rest.now c.in-Some-step.others.rest.now
    c.in-Some.ensures.0 c.in-Some.ensures.1 backslash c.in-Some-step.ensures.0 c.in-Some-step.ensures.1 means c.in_ok-push-2.ensures.bytes
    ∙ c.loop-c.invariant
