use Rattle.std.proofs.Common.{◌≤◌, ◌∙◌, sym, arith}
use Rattle.rdx_forms.specs.Options.{attempts_option, seed_option}
use Rattle.std.specs.Prelude.{[], ◌∷◌}
use Rattle.rdx_forms.proofs.OptionFaults.{number-most}
use Rattle.rdx_forms.proofs.generate_forms.attempts_of.Goals as goal

pub overflow_cast-result : goal.overflow_cast-result
overflow_cast-result c =
    let l : c.in-Some.attempts ≤ 100_000 = number-most attempts_option (seed_option ∷ []) c.args.options.now c.in-Some.attempts c.requires (sym c.option_value.ensures ∙ c.in-Some.is) in
    omega (arith, l)
