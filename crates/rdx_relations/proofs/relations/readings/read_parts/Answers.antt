use Rattle.std.proofs.Common.{◌≡◌, ◌∙◌, List, map, sym, ap}
use Rattle.rdx_lang.specs.ProgramView.{rule_of}
use Rattle.rdx_parts.specs.Outlines as inside
use Rattle.rdx_relations.specs.Inside.BranchReadings.{branch_rules}
use Rattle.rdx_parts.specs.PartViews.{branch_of}
use Rattle.rdx_relations.specs.RelationReading.{rules_reading}
use Rattle.rdx_templates.specs.Scope.{scope_of}
use Rattle.rdx_parts.specs.declared.branches.Branch.{Branch}
use Rattle.rdx_relations.proofs.BranchRules.{rules-branches}
use Rattle.rdx_relations.proofs.relations.readings.read_parts.Goals as goal

pub returns : goal.returns
returns c =
    let S = scope_of c.args.scope.now in
    let ns = c.args.names.now in
    let rules : map rule_of c.in_ok-rules.rules.items ≡ rules_reading S ns c.args.form.cases.now =
    c.in_ok-rules.ensures.rules ∙ ap (λ (bs : List Branch). branch_rules S ns (map branch_of bs)) c.deref.ensures.value
    ∙ ap (λ (o : inside.Outline). branch_rules S ns o.branches) c.requires.outline ∙ sym (rules-branches S ns c.args.form.cases.now) in
    λ i. record { name = c.in_ok-rules.ensures.name i; language = c.in_ok-rules.ensures.language i; domain = c.in_ok-domain.ensures i; rules = rules i }
