use Rattle.std.proofs.Common.{◌≡◌, ◌<◌, ◌≤◌, ◌+◌, ◌-◌, true, ◌∙◌, subst, length, drop, arith}
use Rattle.rdx_lang.specs.Inside.Texts.{texts_in, HaveSame}
use Rattle.rdx_lang.proofs.TextSets.{found-texts}
use Rattle.rdx_alpha.specs.Instances.{are_distinct}
use Rattle.rdx_alpha.proofs.Distinct.{seen-more, distinct-more, twice}
use Rattle.rdx_alpha.proofs.instances.are_distinct.Goals as goal

pub returns-then-contains : goal.returns-then-contains
returns-then-contains c =
    let names = c.args.names.now in
    let n = c.loop-rest.rest in
    let some : 0 < n = c.loop-rest-test.true in
    let within : n ≤ length names = c.loop-rest.invariant.within in
    let e : n ≡ n - 1 + 1 = omega arith in
    let h = subst (λ m. HaveSame (texts_in c.loop-rest.seen) (drop m names)) e c.loop-rest.invariant.seen in
    twice names (n - 1) c.index-names-k.result (omega arith) c.index-names-k.is
    (found-texts c.text-name.result c.index-names-k.result c.loop-rest.seen (drop (n - 1 + 1) names) c.contains.result c.contains.ensures c.text-name.ensures.value h
    ∙ c.if-contains.true)

pub loop-rest-preserved : goal.loop-rest-preserved
loop-rest-preserved c =
    let names = c.args.names.now in
    let n = c.loop-rest.rest in
    let some : 0 < n = c.loop-rest-test.true in
    let within : n ≤ length names = c.loop-rest.invariant.within in
    let e : n ≡ n - 1 + 1 = omega arith in
    let h = subst (λ m. HaveSame (texts_in c.loop-rest.seen) (drop m names)) e c.loop-rest.invariant.seen in
    record {
      within = omega arith;
      seen = seen-more names (n - 1) c.index-names-k.result c.text-name.result c.loop-rest.seen c.insert.new.self (omega arith) c.index-names-k.is
          c.text-name.ensures.value c.in_ok-insert.ensures.updates h;
      distinct = distinct-more names (n - 1) c.index-names-k.result (omega arith) c.index-names-k.is
          (found-texts c.text-name.result c.index-names-k.result c.loop-rest.seen (drop (n - 1 + 1) names) c.contains.result c.contains.ensures c.text-name.ensures.value h
          ∙ c.if-contains.false)
          (subst (λ m. are_distinct (drop m names) ≡ true) e c.loop-rest.invariant.distinct);
    }
