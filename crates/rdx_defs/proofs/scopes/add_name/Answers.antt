use Rattle.std.proofs.Common.{◌≡◌, ◌∙◌, Some, None, sym, arith}
use Rattle.std.specs.Bool.{then_some}
use Rattle.std.proofs.lemmas.Grind.{common_steps}
use Rattle.rdx_term.specs.Spelling.{is_name}
use Rattle.rdx_patterns.specs.Parts.{text_of}
use Rattle.rdx_patterns.proofs.ReadItems.{name-some, name-none}
use Rattle.rdx_defs.proofs.scopes.add_name.Goals as goal

pub returns-in_ok-push-in-Some : goal.returns-in_ok-push-in-Some
returns-in_ok-push-in-Some c =
    let e : Some c.in-Some.name ≡ then_some (is_name (text_of c.args.d.now)) (text_of c.args.d.now) = sym c.in-Some.is ∙ c.in_ok-name.ensures in
    let k = name-some c.args.d.now c.in-Some.name e in
    grind (arith, common_steps, k)

pub returns-in-None : goal.returns-in-None
returns-in-None c =
    let e : None ≡ then_some (is_name (text_of c.args.d.now)) (text_of c.args.d.now) = sym c.in-None.is ∙ c.in_ok-name.ensures in
    let k = name-none c.args.d.now e in
    grind (arith, common_steps, k)
