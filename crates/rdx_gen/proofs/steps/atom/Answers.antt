use Rattle.std.proofs.Common.{[], ap, sym, ◌∙◌}
use Rattle.rdx_term.specs.View.{tree_of}
use Rattle.rdx_lang.specs.PatternView.{pattern_of}
use Rattle.rdx_lang.proofs.PatternEquations.{pattern_except}
use Rattle.rdx_gen.specs.Generation.{any_symbol}
use Rattle.rdx_gen.specs.Inside.Scopes.{term_here}
use Rattle.rdx_gen.specs.Outcomes.{State}
use Rattle.rdx_gen.specs.Variables.{first_five}
use Rattle.rdx_gen.specs.Views.{state_of}
use Rattle.rdx_gen.proofs.SaidOn.{said_of}
use Rattle.rdx_gen.proofs.steps.atom.Goals as goal

pub returns-in-Except : goal.returns-in-Except
returns-in-Except c =
    let s : State = state_of c.args.state.now in
    said_of tree_of (any_symbol (first_five [] c.deref-in-Except.result.now) s) (term_here c.args.setting.now c.args._scope (pattern_of c.args.pat.now) s) c.free_symbol.result _
    (ap (λ p. term_here c.args.setting.now c.args._scope p s) (ap pattern_of c.in-Except.is ∙ pattern_except c.in-Except.names) ∙ ap (λ z. any_symbol (first_five [] z) s) (sym c.deref-in-Except.ensures.value))
    c.free_symbol.ensures
