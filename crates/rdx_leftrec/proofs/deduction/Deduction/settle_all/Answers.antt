use Rattle.std.proofs.Common.{◌≡◌, ◌<◌, ◌+◌, ℕ, List, length, get_or, drop, sym, ◌∙◌, inl, inr, ◌⊎◌, arith}
use Rattle.std.proofs.lemmas.List.{length-map}
use Rattle.rdx_lang.specs.Members.{In}
use Rattle.rdx_leftrec.specs.Inside.Deductions.{Settles}
use Rattle.rdx_leftrec.specs.Inside.EmptyRules.{Rule, rule_of, rules_of}
use Rattle.rdx_leftrec.specs.Inside.Lists.{At, Nothing}
use Rattle.rdx_leftrec.specs.Inside.Marking.{Marking, marking}
use Rattle.rdx_leftrec.proofs.Deducing.{deduction-next, deduction-fewer}
use Rattle.rdx_leftrec.proofs.Lists.{at_inside, read-in, cases_eq, behind-first, none-behind}
use Rattle.rdx_leftrec.proofs.deduction.Deduction.settle_all.Goals as goal

pub settle-requires-clause-inside : goal.settle-requires-clause-inside
settle-requires-clause-inside c = c.requires.inside (get_or c.args.indices.now c.loop-index.index-index 0) (read-in c.args.indices.now c.loop-index.index-index 0 c.loop-index-test.true)

pub loop-index-preserved : goal.loop-index-preserved
loop-index-preserved c =
    let rs : List Rule = rules_of c.args.rules.now in
    let is : List ℕ = c.args.indices.now in
    let m : ℕ = c.loop-index.index-index in
    let i : ℕ = get_or is m 0 in
    let s : Marking = marking c.loop-index.self.marks.items c.loop-index.self.pending.items in
    let t : Marking = marking c.settle.new.self.marks.items c.settle.new.self.pending.items in
    let l : i < length c.args.rules.now = c.requires.inside i (read-in is m 0 c.loop-index-test.true) in
    let a : (r : Rule) × At rs i r = at_inside rs i (let k = length-map c.args.rules.now rule_of in omega arith) in
    let g : Settles a.0 s t = c.in_ok-settle.ensures.settles a.0 a.1 in
    let f : (k : ℕ) → In k (drop m is) → In k (drop (m + 1) is) ⊎ (k ≡ i) = λ k h. elim (cases_eq i k) [ inl e ↦ inr (sym e) | inr n ↦ inl (behind-first is m k h n) ] in
    record {
      deduction = deduction-next rs (length c.args.self.now.marks.items) (λ k. In k (drop m is)) (λ k. In k (drop (m + 1) is)) s t c.loop-index.self.ahead.items c.settle.new.self.ahead.items i a.0 a.1 g
          c.in_ok-settle.ensures.ahead f c.loop-index.invariant.deduction;
      balance = g.balance ∙ c.loop-index.invariant.balance;
    }

pub returns-clause-deduction : goal.returns-clause-deduction
returns-clause-deduction c =
    deduction-fewer (rules_of c.args.rules.now) (length c.args.self.now.marks.items) (λ k. In k (drop c.loop-index.index-index c.args.indices.now)) Nothing
    (marking c.loop-index.self.marks.items c.loop-index.self.pending.items) c.loop-index.self.ahead.items (λ k h. none-behind c.args.indices.now c.loop-index.index-index k c.loop-index-test.false h) c.loop-index.invariant.deduction
