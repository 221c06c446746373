use Rattle.std.proofs.Common.{◌≡◌, ◌<◌, ◌≤◌, ℕ, Bool, List, length, get_or, take, sym, ap, subst, arith}
use Rattle.std.proofs.lemmas.Grind.{common_steps}
use Rattle.std.proofs.lemmas.List.{length-map}
use Rattle.rdx_lang.specs.Members.{In}
use Rattle.rdx_leftrec.specs.Inside.Deductions.{AreMarked, AreAhead, Settles}
use Rattle.rdx_leftrec.specs.Inside.EmptyRules.{Rule, rule_of, rules_of}
use Rattle.rdx_leftrec.specs.Inside.Lists.{At}
use Rattle.rdx_leftrec.specs.Inside.Marking.{Marking, marking}
use Rattle.rdx_leftrec.specs.Inside.Reach.{IsMarked}
use Rattle.rdx_leftrec.specs.declared.empty.Rule as code_rule
use Rattle.rdx_leftrec.proofs.Deducing.{at-rule, all-marked, settles-none, settles-all, ahead-kept, ahead-set}
use Rattle.rdx_leftrec.proofs.Lists.{at_read, at-in, at_same, read-in}
use Rattle.rdx_leftrec.proofs.deduction.Deduction.settle.Goals as goal

-- how many parts were known is read at the place of the rule
known-at : (rs : List code_rule.Rule) (bs : List Bool) (ks : List ℕ) (i k : ℕ) → i < length rs → k ≡ get_or ks i k → AreAhead (rules_of rs) bs ks → At ks i k
known-at rs bs ks i k l e x = let n = length-map rs rule_of in let z = x.size in at_read ks i k (omega arith) e

pub marked_parts-count-requires-clause-inside : goal.marked_parts-count-requires-clause-inside
marked_parts-count-requires-clause-inside c j h =
    let r = c.index-rules-index.result in
    let e : c.deref-2.result.now ≡ r.parts.items = c.deref-2.ensures.value in
    let a = at-rule c.args.rules.now c.args.index r c.requires.inside c.index-rules-index.is in
    let l = (c.requires.rules (rule_of r) (at-in (rules_of c.args.rules.now) c.args.index (rule_of r) a)).1 j (subst (λ (js : List ℕ). In j js) e h) in
    let k = ap length c.deref.ensures.value in
    omega arith

pub marked_parts-count-requires-clause-known : goal.marked_parts-count-requires-clause-known
marked_parts-count-requires-clause-known c =
    let r = c.index-rules-index.result in
    let e : c.deref-2.result.now ≡ r.parts.items = c.deref-2.ensures.value in
    let a = at-rule c.args.rules.now c.args.index r c.requires.inside c.index-rules-index.is in
    let k = known-at c.args.rules.now c.args.self.now.marks.items c.args.self.now.ahead.items c.args.index c.index.result.now c.requires.inside c.index.ensures c.requires.ahead in
    subst (λ (js : List ℕ). c.index.result.now ≤ length js) (sym e) (c.requires.ahead.most c.args.index c.index.result.now (rule_of r) a k)

pub marked_parts-count-requires-clause-marked : goal.marked_parts-count-requires-clause-marked
marked_parts-count-requires-clause-marked c =
    let r = c.index-rules-index.result in
    let e : c.deref-2.result.now ≡ r.parts.items = c.deref-2.ensures.value in
    let a = at-rule c.args.rules.now c.args.index r c.requires.inside c.index-rules-index.is in
    let k = known-at c.args.rules.now c.args.self.now.marks.items c.args.self.now.ahead.items c.args.index c.index.result.now c.requires.inside c.index.ensures c.requires.ahead in
    subst (λ (js : List ℕ). AreMarked c.deref.result.now (take c.index.result.now js)) (sym e)
    (subst (λ (bs : List Bool). AreMarked bs (take c.index.result.now r.parts.items)) (sym c.deref.ensures.value) (c.requires.ahead.marked c.args.index c.index.result.now (rule_of r) a k))

pub mark-requires : goal.mark-requires
mark-requires c =
    let r = c.index-rules-index.result in
    let a = at-rule c.args.rules.now c.args.index r c.requires.inside c.index-rules-index.is in
    (c.requires.rules (rule_of r) (at-in (rules_of c.args.rules.now) c.args.index (rule_of r) a)).0

pub returns-then-count-len-clause-ahead : goal.returns-then-count-len-clause-ahead
returns-then-count-len-clause-ahead c =
    let r = c.index-rules-index.result in
    let e : c.deref-2.result.now ≡ r.parts.items = c.deref-2.ensures.value in
    let a = at-rule c.args.rules.now c.args.index r c.requires.inside c.index-rules-index.is in
    ahead-set (rules_of c.args.rules.now) c.args.self.now.marks.items c.args.self.now.ahead.items c.args.index c.marked_parts-count.result (rule_of r) a
    (subst (λ (js : List ℕ). c.marked_parts-count.result ≤ length js) e c.marked_parts-count.ensures.most)
    (subst (λ (js : List ℕ). AreMarked c.args.self.now.marks.items (take c.marked_parts-count.result js)) e
    (subst (λ (bs : List Bool). AreMarked bs (take c.marked_parts-count.result c.deref-2.result.now)) c.deref.ensures.value c.marked_parts-count.ensures.marked)) c.requires.ahead

pub returns-then-count-len-clause-settles : goal.returns-then-count-len-clause-settles
returns-then-count-len-clause-settles c q b =
    let r = c.index-rules-index.result in
    let s : Marking = marking c.args.self.now.marks.items c.args.self.now.pending.items in
    let n : ℕ = c.marked_parts-count.result in
    let e : c.deref-2.result.now ≡ r.parts.items = c.deref-2.ensures.value in
    let a = at-rule c.args.rules.now c.args.index r c.requires.inside c.index-rules-index.is in
    let l : n < length r.parts.items = (let t = c.if-count-len.true in grind (arith, common_steps)) in
    let f : n < length c.deref-2.result.now = (let k = ap length e in omega arith) in
    let m : ¬ IsMarked c.args.self.now.marks.items (get_or r.parts.items n 0) =
    subst (λ (js : List ℕ). ¬ IsMarked c.args.self.now.marks.items (get_or js n 0)) e
    (subst (λ (bs : List Bool). ¬ IsMarked bs (get_or c.deref-2.result.now n 0)) c.deref.ensures.value (c.marked_parts-count.ensures.next f)) in
    subst (λ (y : Rule). Settles y s s) (at_same (rules_of c.args.rules.now) c.args.index (rule_of r) q a b)
    (settles-none (rule_of r) s (get_or r.parts.items n 0) (read-in r.parts.items n 0 l) m)

-- behind the mark
settled : (c : goal.In_ok-mark) → Settles (rule_of c.index-rules-index.result) (marking c.args.self.now.marks.items c.args.self.now.pending.items) (marking c.mark.new.self.marks.items c.mark.new.self.pending.items)
settled c =
    let r = c.index-rules-index.result in
    let s : Marking = marking c.args.self.now.marks.items c.args.self.now.pending.items in
    let n : ℕ = c.marked_parts-count.result in
    let e : c.deref-2.result.now ≡ r.parts.items = c.deref-2.ensures.value in
    let a = at-rule c.args.rules.now c.args.index r c.requires.inside c.index-rules-index.is in
    let l : length r.parts.items ≤ n = (let t = c.if-count-len.false in grind (arith, common_steps)) in
    let m : AreMarked c.args.self.now.marks.items (take n r.parts.items) = subst (λ (js : List ℕ). AreMarked c.args.self.now.marks.items (take n js)) e
    (subst (λ (bs : List Bool). AreMarked bs (take n c.deref-2.result.now)) c.deref.ensures.value c.marked_parts-count.ensures.marked) in
    settles-all (rule_of r) s (marking c.mark.new.self.marks.items c.mark.new.self.pending.items)
    (c.requires.rules (rule_of r) (at-in (rules_of c.args.rules.now) c.args.index (rule_of r) a)).0 (all-marked c.args.self.now.marks.items r.parts.items n l m) c.in_ok-mark.ensures.marks

pub returns-clause-ahead : goal.returns-clause-ahead
returns-clause-ahead c =
    let r = c.index-rules-index.result in
    let e : c.deref-2.result.now ≡ r.parts.items = c.deref-2.ensures.value in
    let a = at-rule c.args.rules.now c.args.index r c.requires.inside c.index-rules-index.is in
    let x = ahead-set (rules_of c.args.rules.now) c.args.self.now.marks.items c.args.self.now.ahead.items c.args.index c.marked_parts-count.result (rule_of r) a
    (subst (λ (js : List ℕ). c.marked_parts-count.result ≤ length js) e c.marked_parts-count.ensures.most)
    (subst (λ (js : List ℕ). AreMarked c.args.self.now.marks.items (take c.marked_parts-count.result js)) e
    (subst (λ (bs : List Bool). AreMarked bs (take c.marked_parts-count.result c.deref-2.result.now)) c.deref.ensures.value c.marked_parts-count.ensures.marked)) c.requires.ahead in
    subst (λ (ks : List ℕ). AreAhead (rules_of c.args.rules.now) c.mark.new.self.marks.items ks) (sym (ap (λ v. v.items) c.mark.ensures.ahead))
    (ahead-kept (rules_of c.args.rules.now) c.args.self.now.marks.items c.mark.new.self.marks.items _ (settled c).kept x)

pub returns-clause-settles : goal.returns-clause-settles
returns-clause-settles c q b =
    let r = c.index-rules-index.result in
    let a = at-rule c.args.rules.now c.args.index r c.requires.inside c.index-rules-index.is in
    subst (λ (y : Rule). Settles y (marking c.args.self.now.marks.items c.args.self.now.pending.items) (marking c.mark.new.self.marks.items c.mark.new.self.pending.items))
    (at_same (rules_of c.args.rules.now) c.args.index (rule_of r) q a b) (settled c)
