use Rattle.std.proofs.Common.{◌≡◌, ℕ, List, [], ◌∷◌, Some, sym, ap, ◌∙◌, arith}
use Rattle.std.proofs.lemmas.Grind.{common_steps}
use Rattle.std.specs.Rc.{rc_str_bytes}
use Rattle.rdx_forms.specs.DefineParts.{by_crosses, with_symbol}
use Rattle.rdx_forms.specs.Ends.{closure_ends, kind_ends}
use Rattle.rdx_forms.specs.Inside.PartViews.{closure_of}
use Rattle.rdx_forms.proofs.EndsAsked.{by-name, by-no-name}
use Rattle.rdx_forms.proofs.ends.add_closure_ends.Goals as goal

pub returns-in_ok-push-in-Some-new : goal.returns-in_ok-push-in-Some-new
returns-in_ok-push-in-Some-new c =
    let q = closure_of c.in-Some.closure in
    let h : rc_str_bytes c.in-Some-symbol.text.now ≡ c.in-Some-new.name = grind (arith, common_steps) in
    let e : kind_ends by_crosses c.args.body.now ≡ c.in-Some-new.name ∷ [] =
    ap (λ o. closure_ends (with_symbol o)) (sym c.in-Some.ensures)
    ∙ by-name q c.in-Some-new.name (sym c.in-Some-symbol.ensures ∙ ap (λ (x : List ℕ). Some x) h) (grind (arith, common_steps)) in
    grind (arith, common_steps, e)

pub returns-in-None : goal.returns-in-None
returns-in-None c =
    let q = closure_of c.in-Some.closure in
    let e : kind_ends by_crosses c.args.body.now ≡ [] =
    ap (λ o. closure_ends (with_symbol o)) (sym c.in-Some.ensures)
    ∙ by-no-name q (rc_str_bytes c.in-Some-symbol.text.now) (sym c.in-Some-symbol.ensures) (grind (arith, common_steps)) in
    grind (arith, common_steps, e)
