use Rattle.std.proofs.Common.{◌∙◌, ap, sym}
use Rattle.rdx_term.specs.View.{tree_of}
use Rattle.rdx_gen.specs.Inside.Frames.{gives, onward, pending}
use Rattle.rdx_gen.specs.Outcomes.{Outcome}
use Rattle.rdx_gen.specs.Views.{state_of}
use Rattle.rdx_gen.specs.declared.setting.Setting.{Setting}
use Rattle.rdx_gen.proofs.Pending.{stop_by, taken_off, taken_less}
use Rattle.rdx_gen.proofs.generation.advance.Goals as goal

pub returns-in_err-taken-in-Made : goal.returns-in_err-taken-in-Made
returns-in_err-taken-in-Made c =
    let S : Setting = c.args.setting.now in
    let h = sym (taken_off S c.loop-next.stack.items c.pop.new.self.items c.in-Some.frame c.loop-next.next c.in-Made.t (state_of c.loop-next.state) c.in-Made.is c.in-Some.ensures.items)
    ∙ c.loop-next.invariant in
    stop_by S c.pop.new.self.items (onward S c.in-Some.frame (tree_of c.in-Made.t) (state_of c.loop-next.state)) (gives S c.args.next (state_of c.args.state.now))
    c.from_residual.result _ (state_of c.resume.new.state) h c.from_residual.ensures.1 c.in_err-taken-in-Made.ensures.leads

pub loop-next-smaller-in-Made : goal.loop-next-smaller-in-Made
loop-next-smaller-in-Made c =
    taken_less c.args.setting.now c.loop-next.stack.items c.pop.new.self.items c.follow.new.stack.items c.in-Some.frame c.loop-next.next c.in_ok-next-in-Made.next
    c.in_ok-taken-in-Made.taken c.in-Some.ensures.items c.in_ok-taken-in-Made.ensures.less c.in_ok-next-in-Made.ensures.weight

pub loop-next-preserved-in-Made : goal.loop-next-preserved-in-Made
loop-next-preserved-in-Made c =
    let S : Setting = c.args.setting.now in
    c.in_ok-next-in-Made.ensures.leads (state_of c.resume.new.state)
    ∙ ap (λ (o : Outcome _). pending S c.pop.new.self.items o) (sym c.in_ok-taken-in-Made.ensures.leads)
    ∙ sym (taken_off S c.loop-next.stack.items c.pop.new.self.items c.in-Some.frame c.loop-next.next c.in-Made.t (state_of c.loop-next.state) c.in-Made.is c.in-Some.ensures.items)
    ∙ c.loop-next.invariant

pub returns-in_err-taken-in_default : goal.returns-in_err-taken-in_default
returns-in_err-taken-in_default c =
    let S : Setting = c.args.setting.now in
    stop_by S c.loop-next.stack.items (gives S c.loop-next.next (state_of c.loop-next.state)) (gives S c.args.next (state_of c.args.state.now))
    c.from_residual-in_err-taken-in_default.result _ (state_of c.step.new.state) c.loop-next.invariant c.from_residual-in_err-taken-in_default.ensures.1
    c.in_err-taken-in_default.ensures.leads
