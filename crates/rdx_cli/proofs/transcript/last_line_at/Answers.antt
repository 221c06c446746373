use Rattle.std.proofs.Common.{◌≡◌, ◌-◌, suc, true, drop, sym, subst, arith}
use Rattle.rdx_cli.specs.Transcript.{is_line, last_line}
use Rattle.rdx_cli.proofs.Lines.{last_byte, line_behind, whole_line}
use Rattle.rdx_cli.proofs.transcript.last_line_at.Goals as goal

pub bytes-init : goal.bytes-init
bytes-init c = record { within = omega arith; line = last_byte c.args.text.now c.saturating_sub-start.result (omega arith) }

pub returns-else-text-start-ne10-clause-line : goal.returns-else-text-start-ne10-clause-line
returns-else-text-start-ne10-clause-line c =
    let text = c.args.text.now in
    let start = c.bytes.start in
    let one : start ≡ suc (start - 1) = omega arith in
    let line : is_line (drop (suc (start - 1)) text) ≡ true = subst (λ i. is_line (drop i text) ≡ true) one c.bytes.invariant.line in
    subst (λ i. drop i text ≡ last_line text) (sym one) (sym (line_behind text (start - 1) (omega arith) c.if-text-start-ne10.false line))

pub returns-after-bytes-clause-line : goal.returns-after-bytes-clause-line
returns-after-bytes-clause-line c =
    let none : c.bytes.start ≡ 0 = omega arith in
    let line : is_line c.args.text.now ≡ true = subst (λ i. is_line (drop i c.args.text.now) ≡ true) none c.bytes.invariant.line in
    subst (λ i. drop i c.args.text.now ≡ last_line c.args.text.now) (sym none) (sym (whole_line c.args.text.now line))
