use Rattle.std.proofs.Common.{◌≡◌, ℕ, ap, sym, ◌∙◌, map, List, Option}
use Rattle.rdx_term.specs.Tree.{Tree}
use Rattle.rdx_lang.specs.Patterns.{Pattern, Items}
use Rattle.rdx_lang.specs.PatternView.{Slot, repeated, pattern_of, slot_of, items_of}
use Rattle.rdx_lang.proofs.PatternEquations.{slot_many}
use Rattle.rdx_gen.specs.Generation.{new_length, is_hollow}
use Rattle.rdx_gen.specs.Inside.Frames.{spot_then}
use Rattle.rdx_gen.specs.Inside.Scopes.{new_length_here, notes_in}
use Rattle.rdx_gen.specs.Outcomes.{State, made}
use Rattle.rdx_gen.specs.Views.{state_of, terms_in}
use Rattle.rdx_gen.specs.declared.setting.Scope.{Scope}
use Rattle.rdx_gen.specs.declared.setting.Setting.{Setting}
use Rattle.rdx_gen.proofs.ListSteps.{repeated_spot}
use Rattle.rdx_gen.proofs.steps.spot.Goals as goal

pub returns-in-Many-clause-leads : goal.returns-in-Many-clause-leads
returns-in-Many-clause-leads c =
    let S : Setting = c.args.setting.now in
    let sc : Scope = c.args.row.scope in
    let ps : Items = items_of (map slot_of c.args.row.rest.now) in
    let found : List Tree = terms_in c.args.row.found in
    let s : State = state_of c.args.state.now in
    let s1 : State = state_of c.new_length-times.new.state in
    let p : Pattern = pattern_of c.in-Many.pat in
    let x : Option (List ℕ) = c.in-Many.length in
    let d : slot_of c.args.item.now ≡ repeated p x = ap slot_of c.in-Many.is ∙ slot_many c.in-Many.pat c.in-Many.length in
    let h : new_length_here S sc p x s ≡ made c.new_length-times.result s1 =
    ap (λ (z : Option ℕ). new_length (is_hollow (notes_in sc.notes) z x) sc.size s) (sym c.height-height.ensures) ∙ c.new_length-times.ensures in
    ap (λ (k : Slot). spot_then S sc ps k found s) d ∙ repeated_spot S sc ps p x found s c.new_length-times.result s1 h ∙ c.turns.ensures.leads s1
