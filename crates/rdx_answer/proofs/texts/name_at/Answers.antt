use Rattle.std.proofs.Common.{◌∙◌, sym, ap}
use Rattle.std.specs.Prelude.{option_map}
use Rattle.std.specs.Rc.{rc_str_bytes}
use Rattle.rdx_answer.proofs.RuleNames.{no_name, found_name, lent}
use Rattle.rdx_answer.proofs.texts.name_at.Goals as goal

pub returns-in_err-get : goal.returns-in_err-get
returns-in_err-get c =
    let h = c.get.ensures.lookup in
    ap (λ o. option_map (λ n. rc_str_bytes n.now) o) c.from_residual.ensures ∙ sym (no_name c.args.rules.now c.args.place c.get.result c.in_err-get.was h.3)

pub returns : goal.returns
returns c =
    let h = c.get.ensures.lookup in
    lent rc_str_bytes c.as_ref.result ∙ ap (option_map rc_str_bytes) c.as_ref.ensures.value
    ∙ sym (found_name c.args.rules.now c.args.place c.get.result c.in_ok-get.field-0 c.in_ok-get.was h.1 h.3)
