use Rattle.std.proofs.Common.{◌≡◌, ℕ, length, ap, ◌∙◌, arith}
use Rattle.std.specs.Prelude.{◌==◌}
use Rattle.rdx_term.specs.View.{tree_of}
use Rattle.rdx_lang.specs.Checked.{language_in, pattern_in}
use Rattle.rdx_deriv.specs.Inside.Extending.{asked}
use Rattle.rdx_deriv.proofs.RulesChosen.{fits_found}
use Rattle.rdx_deriv.proofs.judgement.fits.Goals as goal

pub returns-clause-fits : goal.returns-clause-fits
returns-clause-fits g c =
    let e : c.in_ok-found.found.len ≡ length c.in_ok-found.found.items = omega (arith, c.in_ok-found.found.ok.0) in
    fits_found (language_in c.args.language.now) (asked c.args.pattern) (pattern_in c.in-Some.pat.now) (tree_of c.args.t.now)
    c.in_ok-found.found.items
    (ap asked c.in-Some.is) c.in_ok-found.ensures.listing c.is_empty.result (c.is_empty.ensures ∙ ap (λ (n : ℕ). n == 0) e)
