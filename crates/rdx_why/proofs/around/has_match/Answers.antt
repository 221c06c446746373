use Rattle.std.proofs.Common.{◌≡◌, ℕ, length, ap, ◌∙◌, subst, arith}
use Rattle.std.specs.Prelude.{◌==◌}
use Rattle.rdx_lang.specs.Checked.{language_in}
use Rattle.rdx_lang.specs.Listing.{Matches}
use Rattle.rdx_lang.specs.Patterns.{Pattern}
use Rattle.rdx_lang.specs.Shown.{bindings_of}
use Rattle.rdx_term.specs.View.{tree_of}
use Rattle.rdx_why.proofs.HoleQuestions.{some_found, none_found}
use Rattle.rdx_why.proofs.around.has_match.Goals as goal

pub returns-clause-yes : goal.returns-clause-yes
returns-clause-yes g c =
    let e : c.in_ok-found.found.len ≡ length c.in_ok-found.found.items = omega (arith, c.in_ok-found.found.ok.0) in
    some_found c.in_ok-found.found.items c.is_empty.result
    (subst (λ (p : Pattern). Matches (language_in c.args.language.now) p (tree_of c.args.t.now) (bindings_of c.in_ok-found.found.items))
    c.in_ok-question.ensures c.in_ok-found.ensures)
    (c.is_empty.ensures ∙ ap (λ (n : ℕ). n == 0) e)

pub returns-clause-no : goal.returns-clause-no
returns-clause-no g c =
    let e : c.in_ok-found.found.len ≡ length c.in_ok-found.found.items = omega (arith, c.in_ok-found.found.ok.0) in
    none_found c.in_ok-found.found.items c.is_empty.result
    (subst (λ (p : Pattern). Matches (language_in c.args.language.now) p (tree_of c.args.t.now) (bindings_of c.in_ok-found.found.items))
    c.in_ok-question.ensures c.in_ok-found.ensures)
    (c.is_empty.ensures ∙ ap (λ (n : ℕ). n == 0) e)
