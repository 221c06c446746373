use Rattle.std.proofs.Common.{◌≡◌, ◌++◌, ◌∙◌, IsUtf8, sym, subst}
use Rattle.rdx_term.specs.Text.{string_text}
use Rattle.rdx_parts.proofs.Labels.{IsUtf8-printed}
use Rattle.rdx_parts.proofs.stands.refusals.repeated_at.Goals as goal

pub unreachable-requires : goal.unreachable-requires
unreachable-requires c =
    let x = c.label-name.result.now in
    let p : c.print_string.new.out.items ≡ string_text x =
    c.in_ok-print_string.ensures.ok ∙ (λ i. c.new-printed.ensures.items i ++ string_text (c.as_bytes.ensures.value i)) in
    c.in-Err.ensures.cases.0 (subst IsUtf8 (sym (c.deref.ensures.value ∙ p)) (IsUtf8-printed x c.label-name.utf8))
