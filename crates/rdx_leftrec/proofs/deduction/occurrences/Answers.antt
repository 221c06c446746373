use Rattle.std.proofs.Common.{◌≡◌, ℕ, List, length, sym, ◌∙◌, ap, subst, arith}
use Rattle.std.proofs.lemmas.List.{length-map}
use Rattle.rdx_lang.specs.Members.{In}
use Rattle.rdx_leftrec.specs.Inside.Deductions.{AddsTo}
use Rattle.rdx_leftrec.specs.Inside.EmptyRules.{rule_of, rules_of}
use Rattle.rdx_leftrec.specs.Inside.Leads.{lists_of}
use Rattle.rdx_leftrec.proofs.Deducing.{at-rule}
use Rattle.rdx_leftrec.proofs.Lists.{at-in}
use Rattle.rdx_leftrec.proofs.Occurring.{occur-none, occur-more, occur-all}
use Rattle.rdx_leftrec.proofs.deduction.occurrences.Goals as goal

pub loop-index-init : goal.loop-index-init
loop-index-init c = occur-none (rules_of c.args.rules.now) c.args.size (lists_of c.in_ok-lists.lists.items) c.in_ok-lists.ensures

pub add_rule-requires : goal.add_rule-requires
add_rule-requires c j h =
    let r = c.index-rules-index.result in
    let e : c.deref.result.now ≡ r.parts.items = c.deref.ensures.value ∙ ap (λ q. q.parts.items) (sym c.index-rules-index.is) in
    let a = at-rule c.args.rules.now c.loop-index.index r c.loop-index-test.true c.index-rules-index.is in
    let l = (c.requires (rule_of r) (at-in (rules_of c.args.rules.now) c.loop-index.index (rule_of r) a)).1 j (subst (λ (js : List ℕ). In j js) e h) in
    let k = length-map c.loop-index.lists.items (λ v. v.items) in
    let z = c.loop-index.invariant.size in
    omega arith

pub loop-index-preserved : goal.loop-index-preserved
loop-index-preserved c =
    let r = c.index-rules-index.result in
    let e : c.deref.result.now ≡ r.parts.items = c.deref.ensures.value ∙ ap (λ q. q.parts.items) (sym c.index-rules-index.is) in
    let a = at-rule c.args.rules.now c.loop-index.index r c.loop-index-test.true c.index-rules-index.is in
    occur-more (rules_of c.args.rules.now) c.args.size c.loop-index.index (lists_of c.loop-index.lists.items) (lists_of c.add_rule.new.lists.items) (rule_of r) a
    (subst (λ (js : List ℕ). AddsTo c.loop-index.index js (lists_of c.loop-index.lists.items) (lists_of c.add_rule.new.lists.items)) e c.in_ok-add_rule.ensures) c.loop-index.invariant

pub returns : goal.returns
returns c =
    let e : c.loop-index.index ≡ length (rules_of c.args.rules.now) =
    (let k = length-map c.args.rules.now rule_of in let l = c.loop-index.auto.index-end in let m = c.loop-index-test.false in omega arith) in
    occur-all (rules_of c.args.rules.now) c.args.size c.loop-index.index (lists_of c.loop-index.lists.items) e c.loop-index.invariant
