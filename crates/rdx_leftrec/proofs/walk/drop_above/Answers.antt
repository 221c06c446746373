use Rattle.std.proofs.Common.{◌≡◌, ◌-◌, ◌<◌, ◌≤◌, ℕ, List, length, get_or, sym, subst, inl, inr, arith}
use Rattle.std.proofs.lemmas.Bool.{cases_lt}
use Rattle.std.proofs.lemmas.Grind.{common_steps}
use Rattle.rdx_lang.specs.Members.{In}
use Rattle.rdx_leftrec.specs.Inside.Lists.{At, IsSorted}
use Rattle.rdx_leftrec.proofs.Lists.{at_read, drop-in, at-drop, none-behind, read-at}
use Rattle.rdx_leftrec.proofs.Sorted.{sorted-take, kept-members}
use Rattle.rdx_leftrec.proofs.walk.drop_above.Goals as goal
use Rattle.rdx_leftrec.proofs.walk.drop_above.Goals.{then-loop-kept-test+else-position-index, else-loop-kept-test}

pub loop-kept-init : goal.loop-kept-init
loop-kept-init c = let n : c.len-kept.result ≡ length c.args.bounds.now.items = grind (arith, common_steps) in record {
  size = omega arith;
  above = λ b h. absurd (none-behind c.args.bounds.now.items c.len-kept.result b (omega arith) h);
}

pub loop-kept-preserved : goal.loop-kept-preserved
loop-kept-preserved c = record {
  size = (let k = c.loop-kept.invariant.size in omega arith);
  above = λ b h.
      let bs : List ℕ = c.args.bounds.now.items in
      let k = drop-in bs (c.loop-kept.kept - 1) b h in
      let l : c.loop-kept.kept - 1 ≤ k.0 = k.1 in
      let t = c.if-position-index.true in
      elim (cases_lt k.0 c.loop-kept.kept) [
        | inl m ↦
            let e : k.0 ≡ c.loop-kept.kept - 1 = (let p = c.loop-kept-test.true in omega arith) in
            let f : get_or bs (c.loop-kept.kept - 1) c.index.result.now ≡ b = read-at bs (c.loop-kept.kept - 1) b c.index.result.now (subst (λ (i : ℕ). At bs i b) e k.2) in
            let g = c.index.ensures in
            omega arith
        | inr m ↦ c.loop-kept.invariant.above b (at-drop bs c.loop-kept.kept k.0 b k.2 m)
      ];
}

pub returns-clause-sorted : goal.returns-clause-sorted
returns-clause-sorted c = subst (λ (bs : List ℕ). IsSorted (λ a b. a < b) bs) (sym c.truncate.ensures.items) (sorted-take (λ a b. a < b) c.args.bounds.now.items c.loop-kept.kept c.requires)

pub returns-clause-members : goal.returns-clause-members
returns-clause-members c b =
    let bs : List ℕ = c.args.bounds.now.items in
    let k : ℕ = c.loop-kept.kept in
    let last : 0 < k → get_or bs (k - 1) 0 ≤ c.args.position = λ l. elim c.loop-kept-test.branch [
      | then-loop-kept-test+else-position-index w ↦
          let m : k - 1 < length bs = (let n = c.loop-kept.invariant.size in omega arith) in
          let a : At bs (k - 1) w.index.result.now = at_read bs (k - 1) w.index.result.now m w.index.ensures in
          let e : get_or bs (k - 1) 0 ≡ w.index.result.now = read-at bs (k - 1) w.index.result.now 0 a in
          let f = w.if-position-index.false in
          omega arith
      | else-loop-kept-test w ↦ absurd (let f = w.loop-kept-test.false in omega arith)
    ] in
    let m = kept-members bs k c.args.position c.requires c.loop-kept.invariant.size c.loop-kept.invariant.above last b in
    subst (λ (cs : List ℕ). (In b cs → In b bs × (b ≤ c.args.position)) × (In b bs × (b ≤ c.args.position) → In b cs)) (sym c.truncate.ensures.items) m
