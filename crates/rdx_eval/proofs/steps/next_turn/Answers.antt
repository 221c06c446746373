use Rattle.std.proofs.Common.{arith, ◌≡◌, ◌<◌, ◌*◌, ◌-◌, ℕ, suc, ◌+◌, List, [], ◌∷◌, ◌++◌, refl, ◌∙◌, ap}
use Rattle.rdx_term.specs.Tree.{Tree}
use Rattle.rdx_term.specs.View.{tree_of}
use Rattle.rdx_lang.specs.Bindings.{Binding}
use Rattle.rdx_lang.specs.Templates.{Template}
use Rattle.rdx_lang.specs.TemplateView.{template_of}
use Rattle.rdx_eval.specs.Calls.{Calls}
use Rattle.rdx_eval.specs.Inside.Frames.{stays, pushes}
use Rattle.rdx_eval.specs.Inside.Parts.{items_in}
use Rattle.rdx_eval.specs.Inside.Scopes.{calls_here, bound_here}
use Rattle.rdx_eval.specs.Inside.Weights.{items_weight, weight}
use Rattle.rdx_eval.specs.Views.{terms_in}
use Rattle.rdx_eval.specs.declared.frames.Frame.TheVariants as frames
use Rattle.rdx_eval.proofs.StepLaws.{last_turn-less, next_turn-less, taken_off, turns-next, turns-none}
use Rattle.rdx_eval.proofs.steps.next_turn.Goals as goal

pub returns-then-turn-times : goal.returns-then-turn-times
returns-then-turn-times g c is e =
    let C : Calls = calls_here c.args._scope.now in
    let b : Binding = bound_here c.args._scope.now in
    let k = c.args.taken in
    let t : Template = template_of k.template.now in
    let us : List Tree = terms_in k.row.found ++ tree_of c.args.t ∷ [] in
    let w = c.in_ok-row.row in
    let p : c.pop.new.self.items ≡ is = taken_off c.args.turns.now.items c.pop.new.self.items is k.turn _ c.pop.ensures.rest c.args.turns.now.ok.0 e in
    stays p refl (last_turn-less ((k.times - suc k.turn) * (weight t + 1)) (items_weight (items_in k.row.rest.now)) (items_weight (items_in w.rest.now)) (ap (λ xs. items_weight (items_in xs)) c.in_ok-row.ensures.rest)) (λ r h. turns-none C b is k.row.aim w.aim (items_in k.row.rest.now) (items_in w.rest.now) t us (terms_in w.found) k.turn k.times r
    c.in_ok-row.ensures.aim (ap items_in c.in_ok-row.ensures.rest) c.in_ok-row.ensures.found (omega (arith, c.if-turn-times.true)) h)

pub returns-then-turn-times-2 : goal.returns-then-turn-times-2
returns-then-turn-times-2 g c is e =
    let C : Calls = calls_here c.args._scope.now in
    let b : Binding = bound_here c.args._scope.now in
    let k = c.args.taken in
    let t : Template = template_of k.template.now in
    let us : List Tree = terms_in k.row.found ++ tree_of c.args.t ∷ [] in
    let w = c.in_ok-row.row in
    let p : c.pop.new.self.items ≡ is = taken_off c.args.turns.now.items c.pop.new.self.items is k.turn _ c.pop.ensures.rest c.args.turns.now.ok.0 e in
    stays p refl (last_turn-less ((k.times - suc k.turn) * (weight t + 1)) (items_weight (items_in k.row.rest.now)) (items_weight (items_in w.rest.now)) (ap (λ xs. items_weight (items_in xs)) c.in_ok-row.ensures.rest)) (λ r h. turns-none C b is k.row.aim w.aim (items_in k.row.rest.now) (items_in w.rest.now) t us (terms_in w.found) k.turn k.times r
    c.in_ok-row.ensures.aim (ap items_in c.in_ok-row.ensures.rest) c.in_ok-row.ensures.found (omega (arith, c.if-turn-times-2.true)) h)

pub returns : goal.returns
returns g c is e =
    let C : Calls = calls_here c.args._scope.now in
    let b : Binding = bound_here c.args._scope.now in
    let k = c.args.taken in
    let t : Template = template_of k.template.now in
    let us : List Tree = terms_in k.row.found ++ tree_of c.args.t ∷ [] in
    let w = c.in_ok-row.row in
    let p : c.pop.new.self.items ≡ is = taken_off c.args.turns.now.items c.pop.new.self.items is k.turn _ c.pop.ensures.rest c.args.turns.now.ok.0 e in
    let q : c.push.new.self.items ≡ is ++ (k.turn + 1) ∷ [] = c.in_ok-push.ensures.items ∙ ap (λ (ks : List ℕ). ks ++ (k.turn + 1) ∷ []) p in
    let d : k.turn + 1 ≡ suc k.turn = omega arith in
    let l : k.turn + 1 < k.times = omega (arith, c.if-turn-times-2.false) in
    pushes (frames.Turn (record { row = w; template = k.template; turn = k.turn + 1; times = k.times })) q c.in_ok-push-2.ensures.items
    (next_turn-less (weight t) (items_weight (items_in k.row.rest.now)) (items_weight (items_in w.rest.now)) k.turn k.times (ap (λ xs. items_weight (items_in xs)) c.in_ok-row.ensures.rest) l)
    (λ r h. turns-next C b is k.row.aim w.aim (items_in k.row.rest.now) (items_in w.rest.now) t us (terms_in w.found) k.turn k.times r
    c.in_ok-row.ensures.aim (ap items_in c.in_ok-row.ensures.rest) c.in_ok-row.ensures.found (k.turn + 1) d l h)
