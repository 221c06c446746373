use Rattle.std.proofs.Common.{◌≡◌, ◌≤◌, ◌+◌, [], ℕ, List, length, replicate, sym, ◌∙◌, ap, subst, inl, inr, ◌⊎◌, arith}
use Rattle.std.proofs.lemmas.Bool.{cases_lt}
use Rattle.std.proofs.lemmas.Grind.{common_steps}
use Rattle.std.proofs.lemmas.List.{length-map}
use Rattle.rdx_lang.specs.Members.{In}
use Rattle.rdx_leftrec.specs.Inside.Deductions.{IsDeduction}
use Rattle.rdx_leftrec.specs.Inside.EmptyRules.{Rule, rule_of, rules_of}
use Rattle.rdx_leftrec.specs.Inside.Leads.{lists_of}
use Rattle.rdx_leftrec.specs.Inside.Lists.{At}
use Rattle.rdx_leftrec.specs.Inside.Marking.{Marking, marking}
use Rattle.rdx_leftrec.specs.Inside.Reach.{targets_at}
use Rattle.rdx_leftrec.proofs.Deducing.{deduction-first, deduction-next, deduction-all, deduction-left, deduction-least, left-inside}
use Rattle.rdx_leftrec.proofs.Lists.{at_inside}
use Rattle.rdx_leftrec.proofs.Paths.{targets_at-read}
use Rattle.rdx_leftrec.proofs.deduction.least_marks.Goals as goal

pub loop-index-init : goal.loop-index-init
loop-index-init c =
    let n : length c.args.rules.now ≡ length (rules_of c.args.rules.now) = sym (length-map c.args.rules.now rule_of) in
    deduction-first (rules_of c.args.rules.now) c.args.size c.in_ok-no_marks.field-0.items c.new.result.items c.in_ok-zeros.field-0.items c.in_ok-no_marks.ensures c.new.ensures.items
    (c.in_ok-zeros.ensures ∙ ap (λ (m : ℕ). replicate m 0) n)

pub loop-index-preserved : goal.loop-index-preserved
loop-index-preserved c =
    let rs : List Rule = rules_of c.args.rules.now in
    let i : ℕ = c.loop-index.index in
    let s : Marking = marking c.loop-index.deduction.marks.items c.loop-index.deduction.pending.items in
    let t : Marking = marking c.settle.new.self.marks.items c.settle.new.self.pending.items in
    let a : (r : Rule) × At rs i r = at_inside rs i (let k = length-map c.args.rules.now rule_of in let l = c.loop-index-test.true in omega arith) in
    let f : (k : ℕ) → i ≤ k → (i + 1 ≤ k) ⊎ (k ≡ i) = λ k h. elim (cases_lt i k) [ inl l ↦ inl (omega arith) | inr l ↦ inr (omega arith) ] in
    deduction-next rs c.args.size (λ k. i ≤ k) (λ k. i + 1 ≤ k) s t c.loop-index.deduction.ahead.items c.settle.new.self.ahead.items i a.0 a.1 (c.in_ok-settle.ensures.settles a.0 a.1) c.in_ok-settle.ensures.ahead f
    c.loop-index.invariant

pub loop-place-init : goal.loop-place-init
loop-place-init c =
    deduction-all (rules_of c.args.rules.now) c.args.size c.loop-index.index (marking c.loop-index.deduction.marks.items c.loop-index.deduction.pending.items) c.loop-index.deduction.ahead.items
    (let k = length-map c.args.rules.now rule_of in let l = c.loop-index-test.false in omega arith) c.loop-index.invariant

pub index-requires : goal.index-requires
index-requires c =
    let l = left-inside (rules_of c.args.rules.now) c.args.size (lists_of c.in_ok-occurrences.occurrences.items) c.in_ok-occurrences.ensures
    (marking c.loop-place.deduction.marks.items c.loop-place.deduction.pending.items) c.pop.new.self.items c.in-Some.place c.loop-place.deduction.ahead.items c.in-Some.ensures.items c.loop-place.invariant in
    let k = length-map c.in_ok-occurrences.occurrences.items (λ v. v.items) in
    grind (arith, common_steps)

-- what is read at the place
lists-read : (c : goal.After-deref) → c.deref.result.now ≡ targets_at (lists_of c.in_ok-occurrences.occurrences.items) c.in-Some.place
lists-read c =
    let l = left-inside (rules_of c.args.rules.now) c.args.size (lists_of c.in_ok-occurrences.occurrences.items) c.in_ok-occurrences.ensures
    (marking c.loop-place.deduction.marks.items c.loop-place.deduction.pending.items) c.pop.new.self.items c.in-Some.place c.loop-place.deduction.ahead.items c.in-Some.ensures.items c.loop-place.invariant in
    let k = length-map c.in_ok-occurrences.occurrences.items (λ v. v.items) in
    c.deref.ensures.value ∙ sym (targets_at-read c.in_ok-occurrences.occurrences.items c.in-Some.place c.index.result.now (omega arith) c.index.ensures)

pub settle_all-requires-clause-inside : goal.settle_all-requires-clause-inside
settle_all-requires-clause-inside c i h =
    let l = c.in_ok-occurrences.ensures.inside i c.in-Some.place (subst (λ (is : List ℕ). In i is) (lists-read c) h) in
    let k = length-map c.args.rules.now rule_of in
    omega arith

pub settle_all-requires-clause-deduction : goal.settle_all-requires-clause-deduction
settle_all-requires-clause-deduction c =
    let x = deduction-left (rules_of c.args.rules.now) c.args.size (lists_of c.in_ok-occurrences.occurrences.items) c.in_ok-occurrences.ensures
    (marking c.loop-place.deduction.marks.items c.loop-place.deduction.pending.items) c.pop.new.self.items c.in-Some.place c.loop-place.deduction.ahead.items c.in-Some.ensures.items c.loop-place.invariant in
    subst (λ (n : ℕ). IsDeduction (rules_of c.args.rules.now) n (λ i. In i c.deref.result.now) (marking c.loop-place.deduction.marks.items c.pop.new.self.items) c.loop-place.deduction.ahead.items)
    (sym c.loop-place.invariant.size)
    (subst (λ (is : List ℕ). IsDeduction (rules_of c.args.rules.now) c.args.size (λ i. In i is) (marking c.loop-place.deduction.marks.items c.pop.new.self.items) c.loop-place.deduction.ahead.items)
    (sym (lists-read c)) x)

pub returns : goal.returns
returns c =
    let e : c.loop-place.deduction.pending.items ≡ [] = grind (arith, common_steps) in
    deduction-least (rules_of c.args.rules.now) c.args.size (marking c.loop-place.deduction.marks.items c.loop-place.deduction.pending.items) c.loop-place.deduction.ahead.items e c.loop-place.invariant
