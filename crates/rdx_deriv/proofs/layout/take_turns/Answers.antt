use Rattle.std.proofs.Common.{◌≡◌, List, [], ◌∷◌, ◌++◌, ◌∙◌, ap, sym, subst, arith, ◌<◌, ◌-◌}
use Rattle.std.proofs.lemmas.List.{map-append}
use Rattle.rdx_lang.specs.Bindings.{Binding}
use Rattle.rdx_lang.specs.PatternView.{pattern_of}
use Rattle.rdx_lang.specs.Shown.{binding_of, bindings_of}
use Rattle.rdx_lang.specs.declared.binding.Binding as code
use Rattle.rdx_deriv.specs.Inside.Layouts.{state_of}
use Rattle.rdx_deriv.proofs.Turning.{TurnsDone, none_done, more_done, no_more}
use Rattle.rdx_deriv.proofs.layout.take_turns.Goals as goal

pub loop-more-init : goal.loop-more-init
loop-more-init c =
    subst (λ (bs : List code.Binding). TurnsDone c.args.l.now (pattern_of c.args.pat.now) c.args.count (state_of c.args.rest) c.args.count (bindings_of bs) (state_of c.args.rest))
    (sym c.new-bindings.ensures.items)
    (none_done c.args.l.now (pattern_of c.args.pat.now) c.args.count (state_of c.args.rest))

pub returns-in_default-clause-none : goal.returns-in_default-clause-none
returns-in_default-clause-none c = no_more c.loop-more.invariant c.loop-more-test.true c.in_default.ensures.none

pub loop-more-preserved : goal.loop-more-preserved
loop-more-preserved c =
    let bs = bindings_of c.loop-more.bindings.items in
    let b = binding_of c.in-Some.taken.binding.now in
    let e : bindings_of c.push.new.self.items ≡ bs ++ b ∷ [] =
    ap bindings_of c.in_ok-push.ensures.items
    ∙ map-append binding_of c.loop-more.bindings.items (c.in_ok-share.field-0 ∷ [])
    ∙ ap (λ (d : Binding). bs ++ d ∷ []) c.in_ok-share.ensures in
    subst (λ (ds : List Binding). TurnsDone c.args.l.now (pattern_of c.args.pat.now) c.args.count (state_of c.args.rest) (c.loop-more.more - 1) ds (state_of c.in-Some.taken.rest)) (sym e)
    (more_done c.loop-more.invariant c.in-Some.ensures.some (let h : 0 < c.loop-more.more = c.loop-more-test.true in omega arith))
