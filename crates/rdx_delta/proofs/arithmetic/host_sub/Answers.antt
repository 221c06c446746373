use Rattle.std.proofs.Common.{rules, ◌≡◌, FitsSigned, map, ◌∷◌, ◌-ℤ◌, sym, ◌∙◌, ap}
use Rattle.std.specs.Int.{w128}
use Rattle.rdx_term.specs.declared.term.Term.{Term}
use Rattle.rdx_delta.specs.Delta.{folded, integers, of_integers}
use Rattle.rdx_delta.specs.View.{reply_of}
use Rattle.std.proofs.lemmas.Int.{to_z-of_z}
use Rattle.rdx_term.specs.Tree.{integer}
use Rattle.rdx_term.specs.View.{tree_of}
use Rattle.rdx_delta.proofs.Arguments.{difference_on}
use Rattle.rdx_delta.proofs.arithmetic.host_sub.Goals as goal

pub returns-in-Some-Int-default : goal.returns-in-Some-Int-default
returns-in-Some-Int-default c =
    let n : FitsSigned w128 c.in-Some-Int-default.n = search rules in
    let cases : c.args.args.now ≡ c.in-Some-Int-default.field-0-0.now ∷ c.in-Some-Int-default.others.now = c.in-Some-Int-default.ensures.cases.0 in
    let first : map tree_of c.args.args.now ≡ integer c.in-Some-Int-default.n ∷ map tree_of c.in-Some-Int-default.others.now =
    ap (map tree_of) cases ∙ ap (λ (t : Term). tree_of t ∷ map tree_of c.in-Some-Int-default.others.now) c.in-Some-Int-default.field-0-0-is in
    let others : reply_of c.folded.result ≡ of_integers (folded ◌-ℤ◌ c.in-Some-Int-default.n) (integers (map tree_of c.in-Some-Int-default.others.now)) =
    simp to_z-of_z at (c.folded.ensures ◌-ℤ◌ (λ a b r f g met. search rules)) in
    others ∙ difference_on (map tree_of c.args.args.now) (map tree_of c.in-Some-Int-default.others.now) c.in-Some-Int-default.n (sym c.one_integer.ensures ∙ c.in_default.is) first
