use Rattle.std.proofs.Common.{◌≡◌, length, true, false, arith}
use Rattle.std.proofs.lemmas.Grind.{common_steps}
use Rattle.rdx_sexp.specs.Sexp.{sexps}
use Rattle.rdx_patterns.specs.Heads.{every, pattern, next}
use Rattle.rdx_patterns.specs.HeadView.{roles_view}
use Rattle.rdx_patterns.specs.Reading.{is_pattern}
use Rattle.rdx_patterns.proofs.ShallowData.{depth-at}
use Rattle.rdx_templates.specs.HostHeads.{quoting, host_head}
use Rattle.rdx_templates.specs.Scope.{scope_of}
use Rattle.rdx_templates.specs.TemplateHeads.{evaluating, template_head}
use Rattle.rdx_templates.proofs.DrivenItems.{max-assoc, reach-template, reach-other, reach-host, undriven-template, undriven-other, undriven-host}
use Rattle.rdx_templates.proofs.EarliestPlaces.{lesser_assoc}
use Rattle.rdx_templates.proofs.HeadTests.{is_triple-three, is_triple-other}
use Rattle.rdx_templates.proofs.ItemTests.{parts-behind}
use Rattle.rdx_templates.proofs.ListsReach.{evaluating-pair, quoting-pair, filled-reach, unfilled-reach, hosted-reach, quoted-reach}
use Rattle.rdx_templates.proofs.templates.driving.+driving.Goals.{driving_of_items-then-is_pattern, driving_of_items-else-is_pattern}
use Rattle.rdx_templates.proofs.templates.driving.+driving.Goals as goal

-- ---- depths

pub driving_of_hosts-driving_of_host-inner-requires : goal.driving_of_hosts-driving_of_host-inner-requires
driving_of_hosts-driving_of_host-inner-requires t c =
    let k = depth-at c.args.items.now c.loop-i.i c.index-items-i.result c.loop-i-test.true c.index-items-i.is in (omega (arith, k, c.decreases), tt)

pub driving_of_items-driving_of-inner-requires : goal.driving_of_items-driving_of-inner-requires
driving_of_items-driving_of-inner-requires t c =
    let k = depth-at c.args.items.now c.loop-i.i c.index-items-i.result c.loop-i-test.true c.index-items-i.is in (omega (arith, k, c.decreases), tt)

-- ---- items

pub driving_of_items-loop-i-preserved : goal.driving_of_items-loop-i-preserved
driving_of_items-loop-i-preserved t c =
    let S = scope_of c.args.scope.now in
    let bs = c.args.bound.now in
    let rs = roles_view c.loop-i.left in
    let ds = c.args.items.now in
    let i = c.loop-i.i in
    let d = c.index-items-i.result in
    let h = c.loop-i-test.true in
    let e = c.index-items-i.is in
    elim c.if-is_pattern.branch [
      | driving_of_items-then-is_pattern w ↦
          let f : is_pattern (next rs d) ≡ true = cc in
          let k = reach-template S bs rs ds i d h e f in
          let m = undriven-template S bs rs ds i d h e f in
          (grind (arith, common_steps, k, max-assoc), grind (arith, common_steps, m, lesser_assoc))
      | driving_of_items-else-is_pattern w ↦
          let f : is_pattern (next rs d) ≡ false = cc in
          let k = reach-other S bs rs ds i d h e f in
          let m = undriven-other S bs rs ds i d h e f in
          (grind (arith, common_steps, k), grind (arith, common_steps, m))
    ]

pub driving_of_hosts-loop-i-preserved : goal.driving_of_hosts-loop-i-preserved
driving_of_hosts-loop-i-preserved t c =
    let S = scope_of c.args.scope.now in
    let bs = c.args.bound.now in
    let ds = c.args.items.now in
    let k = reach-host S bs ds c.loop-i.i c.index-items-i.result c.loop-i-test.true c.index-items-i.is in
    let m = undriven-host S bs ds c.loop-i.i c.index-items-i.result c.loop-i-test.true c.index-items-i.is in
    (grind (arith, common_steps, k, max-assoc), grind (arith, common_steps, m, lesser_assoc))

-- ---- lists

pub driving_of-returns-then-len-ne3-clause-reach : goal.driving_of-returns-then-len-ne3-clause-reach
driving_of-returns-then-len-ne3-clause-reach t c =
    let n : length c.in-List.items.items ≡ 3 → ⊥ = omega arith in
    let k = unfilled-reach (scope_of c.args.scope.now) c.args.bound.now c.in-List.items.items n in
    grind (arith, common_steps, k)

pub driving_of-returns-then-len-ne3-clause-undriven : goal.driving_of-returns-then-len-ne3-clause-undriven
driving_of-returns-then-len-ne3-clause-undriven t c =
    let n : length c.in-List.items.items ≡ 3 → ⊥ = omega arith in
    let k = is_triple-other c.in-List.items.items n in
    grind (arith, common_steps, k)

pub driving_of-returns-else-len-ne3-clause-reach : goal.driving_of-returns-else-len-ne3-clause-reach
driving_of-returns-else-len-ne3-clause-reach t c =
    let n : length c.in-List.items.items ≡ 3 = omega arith in
    let k = filled-reach (scope_of c.args.scope.now) c.args.bound.now c.in-List.items.items n in
    grind (arith, common_steps, k)

pub driving_of-returns-else-len-ne3-clause-undriven : goal.driving_of-returns-else-len-ne3-clause-undriven
driving_of-returns-else-len-ne3-clause-undriven t c =
    let n : length c.in-List.items.items ≡ 3 = omega arith in
    let k = is_triple-three c.in-List.items.items n in
    let m = parts-behind (scope_of c.args.scope.now) c.args.bound.now 0 (every pattern) c.in-List.items.items in
    grind (arith, common_steps, k, m)

pub driving_of-returns-in-Evaluating-clause-reach : goal.driving_of-returns-in-Evaluating-clause-reach
driving_of-returns-in-Evaluating-clause-reach t c =
    let S = scope_of c.args.scope.now in
    let bs = c.args.bound.now in
    let ds = sexps c.in-List.items.items in
    let e : template_head S bs ds ≡ evaluating = grind (arith, common_steps) in
    let k = hosted-reach S bs ds (evaluating-pair S bs ds e) in
    grind (arith, common_steps, k)

pub driving_of_host-returns-in-Quoting-clause-reach : goal.driving_of_host-returns-in-Quoting-clause-reach
driving_of_host-returns-in-Quoting-clause-reach t c =
    let ds = c.in-List.items.items in
    let e : host_head (sexps ds) ≡ quoting = grind (arith, common_steps) in
    let k = quoted-reach (scope_of c.args.scope.now) c.args.bound.now ds (quoting-pair (sexps ds) e) in
    grind (arith, common_steps, k)
