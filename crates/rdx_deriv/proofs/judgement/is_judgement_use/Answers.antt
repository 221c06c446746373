use Rattle.std.proofs.Common.{ℕ, List, subst, false}
use Rattle.std.specs.Prelude.{◌↔◌, IfOk, IsTrue}
use Rattle.std.proofs.lemmas.Result.{IfOk-weaker}
use Rattle.rdx_term.specs.Tree.{Tree}
use Rattle.rdx_term.specs.View.{tree_of}
use Rattle.rdx_lang.specs.ProgramView.{program_of}
use Rattle.rdx_lang.specs.Programs as model
use Rattle.rdx_lang.specs.declared.program.Program.{Program}
use Rattle.rdx_deriv.specs.Derivations.{Goal}
use Rattle.rdx_deriv.specs.DerivationView.{goals_of}
use Rattle.rdx_deriv.specs.Inside.Extending.{named_rule_of, IsChosenRule}
use Rattle.rdx_deriv.specs.JudgementUses.{JudgementUse}
use Rattle.rdx_deriv.proofs.FoundOnce.{found_none, found_some}
use Rattle.rdx_deriv.proofs.RulesChosen.{use_not, use_where}
use Rattle.rdx_deriv.proofs.judgement.is_judgement_use.Goals as goal

pub returns-in-Some-clause-judged : goal.returns-in-Some-clause-judged
returns-in-Some-clause-judged g c =
    let p : Program = c.program-program.result.now in
    let P : model.Program = program_of p in
    let j : List ℕ = c.args.j.now in
    let a : Tree = tree_of c.args.a.now in
    let o : Tree = tree_of c.args.o.now in
    let ks : List ℕ = c.args.choice.now in
    let gs : List Goal = goals_of c.args.under.now in
    subst (λ (q : Program). IfOk c.is_rule_use.result (λ r. IsTrue r ↔ JudgementUse (program_of q) j a o ks gs)) c.program-program.ensures
    (IfOk-weaker c.is_rule_use.result _ _
    (λ r h. use_where P j ks a o gs (named_rule_of c.in-Some.chosen)
    (found_some named_rule_of (IsChosenRule P j ks a o) c.in_ok-chosen.field-0 c.in_ok-chosen.ensures.chosen c.in-Some.chosen c.in-Some.is) r h)
    c.is_rule_use.ensures.used)

pub returns-in-None-clause-judged : goal.returns-in-None-clause-judged
returns-in-None-clause-judged g c =
    let p : Program = c.program-program.result.now in
    let j : List ℕ = c.args.j.now in
    let a : Tree = tree_of c.args.a.now in
    let o : Tree = tree_of c.args.o.now in
    let ks : List ℕ = c.args.choice.now in
    let gs : List Goal = goals_of c.args.under.now in
    subst (λ (q : Program). IsTrue false ↔ JudgementUse (program_of q) j a o ks gs) c.program-program.ensures
    (use_not (program_of p) j ks a o gs
    (found_none named_rule_of (IsChosenRule (program_of p) j ks a o) c.in_ok-chosen.field-0 c.in_ok-chosen.ensures.chosen c.in-None.is))
