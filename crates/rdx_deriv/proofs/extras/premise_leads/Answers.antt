use Rattle.rdx_term.specs.Tree.{Tree}
use Rattle.rdx_term.specs.View.{tree_of}
use Rattle.rdx_lang.specs.Bindings.{Binding, visible}
use Rattle.rdx_lang.specs.Join.{IsJoin}
use Rattle.rdx_lang.specs.ProgramView.{premise_of, program_of}
use Rattle.rdx_lang.specs.Programs.{Premise, Program}
use Rattle.rdx_lang.specs.Shown.{binding_of}
use Rattle.rdx_deriv.specs.DerivationView.{goals_of}
use Rattle.rdx_deriv.proofs.ExtraUseLaws.{premise_no_goal, premise_no_join, premise_no_second, premise_some}
use Rattle.rdx_deriv.proofs.FoundOnce.{found_none, found_some}
use Rattle.rdx_deriv.proofs.extras.premise_leads.Goals as goal

pub returns-in_default : goal.returns-in_default
returns-in_default c =
    let P : Program = program_of c.args.program.now in
    let q : Premise = premise_of c.args.premise.now in
    let b : Binding = binding_of c.args.at.binding in
    let t : Tree = tree_of c.args.ins.now in
    premise_no_goal P c.args.l.now q b (goals_of c.args.at.under.now) t c.requires c.in_default.ensures.none

pub returns-in_default-first_match : goal.returns-in_default-first_match
returns-in_default-first_match c =
    let P : Program = program_of c.args.program.now in
    let q : Premise = premise_of c.args.premise.now in
    let b : Binding = binding_of c.args.at.binding in
    let t : Tree = tree_of c.args.ins.now in
    premise_no_second P c.args.l.now q b (goals_of c.args.at.under.now) t c.requires (tree_of c.in-Some.first.outputs.now)
    (goals_of c.in-Some.first.behind.now) c.in-Some.ensures.some c.in_default-first_match.ensures.none

pub returns-in_default-2 : goal.returns-in_default-2
returns-in_default-2 c =
    let P : Program = program_of c.args.program.now in
    let q : Premise = premise_of c.args.premise.now in
    let b : Binding = binding_of c.args.at.binding in
    let t : Tree = tree_of c.args.ins.now in
    let d : Binding = binding_of c.in-Some-first_match.second.binding.now in
    premise_no_join P c.args.l.now q b (goals_of c.args.at.under.now) t c.requires (tree_of c.in-Some.first.outputs.now)
    (goals_of c.in-Some.first.behind.now) c.in-Some.ensures.some d (goals_of c.in-Some-first_match.second.behind.now)
    c.in-Some-first_match.ensures.some
    (found_none binding_of (λ e. IsJoin b (visible d) e) c.in_ok-binding.field-0 c.in_ok-binding.ensures c.in_default-2.is)

pub returns : goal.returns
returns c =
    let P : Program = program_of c.args.program.now in
    let q : Premise = premise_of c.args.premise.now in
    let b : Binding = binding_of c.args.at.binding in
    let t : Tree = tree_of c.args.ins.now in
    let d : Binding = binding_of c.in-Some-first_match.second.binding.now in
    premise_some P c.args.l.now q b (goals_of c.args.at.under.now) t c.requires (tree_of c.in-Some.first.outputs.now)
    (goals_of c.in-Some.first.behind.now) c.in-Some.ensures.some d (goals_of c.in-Some-first_match.second.behind.now)
    c.in-Some-first_match.ensures.some (binding_of c.in-Some-2.binding)
    (found_some binding_of (λ e. IsJoin b (visible d) e) c.in_ok-binding.field-0 c.in_ok-binding.ensures c.in-Some-2.binding c.in-Some-2.is)
