use Rattle.std.proofs.Common.{◌≡◌, ℕ, List, [], ◌∷◌, Some, sym, ap, ◌∙◌, arith}
use Rattle.std.proofs.lemmas.Grind.{common_steps}
use Rattle.std.specs.Rc.{rc_str_bytes}
use Rattle.rdx_forms.proofs.FileForms.{named-text, no_symbol, unnamed-text}
use Rattle.rdx_forms.proofs.binding_forms.name_by.Goals as goal

pub returns-in-Some-new : goal.returns-in-Some-new
returns-in-Some-new c =
    let d = c.args.written.now in
    let h : rc_str_bytes c.in-Some.text.now ≡ c.in-Some-new.name = grind (arith, common_steps) in
    sym (named-text d c.in-Some-new.name (sym c.in-Some.ensures ∙ ap (λ (x : List ℕ). Some x) h) (grind (arith, common_steps)))

pub returns-in-None-new : goal.returns-in-None-new
returns-in-None-new c =
    let d = c.args.written.now in
    sym (unnamed-text d (rc_str_bytes c.in-Some.text.now) (sym c.in-Some.ensures) (grind (arith, common_steps)))

pub returns-in-None : goal.returns-in-None
returns-in-None c = sym (no_symbol c.args.written.now (sym c.in-None.ensures))
