use Rattle.std.proofs.Common.{◌≡◌, ◌++◌, true≢false, refl, sym, ap, ◌∙◌, arith}
use Rattle.std.specs.Fmt.{decimal}
use Rattle.std.specs.Rc.{rc_str_bytes}
use Rattle.rdx_term.specs.Spelling.{is_name}
use Rattle.rdx_lang.specs.Variants.{before_number}
use Rattle.rdx_lang.proofs.MadeNames.{numbered_is_name}
use Rattle.rdx_lang.proofs.variants.variant.Goals as goal

pub unreachable-requires : goal.unreachable-requires
unreachable-requires c =
    let x = c.args.name.now in
    let made : rc_str_bytes c.in_ok-numbered.field-0 ≡ (x ++ before_number x) ++ decimal c.args.number =
    c.in_ok-numbered.ensures ∙ (λ i. (c.text.ensures.value i ++ c.in_ok-between.ensures i) ++ decimal c.args.number) in
    let name = numbered_is_name x c.args.number c.text.ensures.utf8 c.text.ensures.valid (omega arith) (omega arith) in
    true≢false (sym name ∙ ap is_name (sym made) ∙ c.in-None.ensures.none.0 refl)
