use Rattle.std.proofs.Common.{◌≡◌, suc, length, arith}
use Rattle.std.proofs.lemmas.Grind.{common_steps}
use Rattle.rdx_sexp.specs.Sexp.{sexps}
use Rattle.rdx_sexp.specs.Size.{sexp_depth, sexps_depth}
use Rattle.rdx_patterns.specs.Heads.{every, pattern}
use Rattle.rdx_patterns.proofs.RoleItems.{deeper-most}
use Rattle.rdx_patterns.proofs.ShallowData.{depth-at}
use Rattle.rdx_templates.specs.Scope.{scope_of}
use Rattle.rdx_templates.proofs.HeadTests.{is_triple-three, is_triple-other}
use Rattle.rdx_templates.proofs.ItemTests.{parts-behind}
use Rattle.rdx_templates.proofs.templates.parts.+parts.Goals as goal

-- ---- depths

pub add_hosts-add_host-requires : goal.add_hosts-add_host-requires
add_hosts-add_host-requires t c =
    let k = depth-at c.args.items.now c.loop-i.i c.index-items-i.result c.loop-i-test.true c.index-items-i.is in
    (omega (arith, k, c.decreases), omega (arith, k, c.requires))

pub add_items-add_template-requires : goal.add_items-add_template-requires
add_items-add_template-requires t c =
    let k = depth-at c.args.items.now c.loop-i.i c.index-items-i.result c.loop-i-test.true c.index-items-i.is in
    let m = deeper-most c.is_repeated.result c.args.depth in
    (omega (arith, k, c.decreases), omega (arith, k, m, c.deeper-around.ensures, c.requires))

pub add_template-add_items-requires : goal.add_template-add_items-requires
add_template-add_items-requires t c =
    let e : suc (sexps_depth (sexps c.deref-in-Filling.result.now)) ≡ sexp_depth c.args.d.now = grind (arith, common_steps) in
    (omega (arith, e, c.decreases), omega (arith, e, c.requires))

-- ---- a context and what fills it

pub add_template-returns-then-len-ne3 : goal.add_template-returns-then-len-ne3
add_template-returns-then-len-ne3 t c =
    let n : length c.in-List.items.items ≡ 3 → ⊥ = omega arith in
    let k = is_triple-other c.in-List.items.items n in
    grind (arith, common_steps, k)

pub add_template-returns-else-len-ne3 : goal.add_template-returns-else-len-ne3
add_template-returns-else-len-ne3 t c =
    let n : length c.in-List.items.items ≡ 3 = omega arith in
    let k = is_triple-three c.in-List.items.items n in
    let m = parts-behind (scope_of c.args.scope.now) c.args.bound.now c.args.depth (every pattern) c.in-List.items.items in
    grind (arith, common_steps, k, m)
