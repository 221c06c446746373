use Rattle.std.proofs.Common.{arith, ◌<◌, ◌*◌, ℕ, ◌+◌, List, refl}
use Rattle.rdx_term.specs.Tree.{Tree}
use Rattle.rdx_lang.specs.Bindings.{Binding}
use Rattle.rdx_lang.specs.Templates.{Template, Items}
use Rattle.rdx_lang.specs.TemplateView.{template_of}
use Rattle.rdx_eval.specs.Calls.{Calls}
use Rattle.rdx_eval.specs.Inside.Frames.{stays, pushes}
use Rattle.rdx_eval.specs.Inside.Parts.{items_in}
use Rattle.rdx_eval.specs.Inside.Scopes.{calls_here, bound_here}
use Rattle.rdx_eval.specs.Inside.Weights.{items_weight, weight}
use Rattle.rdx_eval.specs.Views.{terms_in}
use Rattle.rdx_eval.specs.declared.frames.Aim.{Aim}
use Rattle.rdx_eval.specs.declared.frames.Frame.TheVariants as frames
use Rattle.rdx_eval.proofs.StepLaws.{row-first_turn, first_turn-less, row-no_turn}
use Rattle.rdx_eval.proofs.steps.begin_turns.Goals as goal

pub returns-then-times-eq0 : goal.returns-then-times-eq0
returns-then-times-eq0 g c =
    let C : Calls = calls_here c.args.scope.now in
    let b : Binding = bound_here c.args.scope.now in
    let is : List ℕ = c.args.turns.now.items in
    let t : Template = template_of c.args.template.now in
    let ts : Items = items_in c.args.row.rest.now in
    let us : List Tree = terms_in c.args.row.found in
    let a : Aim = c.args.row.aim in
    let n : ℕ = c.args.times in
    let l : items_weight ts + 2 < 18446744073709551616 * (weight t + 1) + items_weight ts + 2 + 2 = omega arith in
    stays refl refl l (λ r h. row-no_turn C b is a ts t us n c.requires r c.if-times-eq0.true h)

pub returns : goal.returns
returns g c =
    let C : Calls = calls_here c.args.scope.now in
    let b : Binding = bound_here c.args.scope.now in
    let is : List ℕ = c.args.turns.now.items in
    let t : Template = template_of c.args.template.now in
    let ts : Items = items_in c.args.row.rest.now in
    let us : List Tree = terms_in c.args.row.found in
    let a : Aim = c.args.row.aim in
    let n : ℕ = c.args.times in
    let l : 0 < n = omega (arith, c.if-times-eq0.false) in
    pushes (frames.Turn (record { row = c.args.row; template = c.args.template; turn = 0; times = n })) c.in_ok-push.ensures.items
    c.in_ok-push-2.ensures.items (first_turn-less (weight t) (items_weight ts) n l c.ranges.times.fits) (λ r h. row-first_turn C b is a ts t us n c.requires r l h)
