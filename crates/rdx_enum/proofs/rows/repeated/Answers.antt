use Rattle.std.proofs.Common.{◌≡◌, ◌+◌, ◌∙◌, sym, arith, subst}
use Rattle.std.proofs.lemmas.Grind.{common_steps}
use Rattle.rdx_enum.specs.Inside.Rows.{row_of, row_at, AreSized, Combines, HasOnly}
use Rattle.rdx_enum.specs.Inside.Ways.{spent}
use Rattle.rdx_enum.proofs.Loops.{repeated_next, repeated_end, repeated_start, row_kept}
use Rattle.rdx_enum.proofs.Sizes.{listed_only, only_size}
use Rattle.rdx_enum.proofs.rows.repeated.Goals as goal

pub add_combined-requires-clause-tails : goal.add_combined-requires-clause-tails
add_combined-requires-clause-tails c = subst AreSized (sym c.deref.ensures.value) c.loop-m.invariant.sized

pub loop-m-init : goal.loop-m-init
loop-m-init c = repeated_start c.args.way c.args.base.now c.args.heads.now _ c.new-rows.ensures.items

pub loop-m-preserved : goal.loop-m-preserved
loop-m-preserved c =
    let only : HasOnly c.args.way c.args.heads.now c.loop-m.rows.items c.loop-m.m (row_at c.args.base.now c.loop-m.m) (row_of c.in_ok-listed.listed) =
    subst (λ tails. HasOnly c.args.way c.args.heads.now tails c.loop-m.m (row_at c.args.base.now c.loop-m.m) (row_of c.in_ok-listed.listed)) c.deref.ensures.value
    (listed_only c.args.way c.args.heads.now c.deref.result.now c.loop-m.m _ _ _ _ (c.in_ok-out.ensures ∙ c.row.ensures) c.in_ok-add_combined.ensures.only c.in_ok-listed.ensures.sound) in
    let same : c.loop-m.m ≡ c.loop-m.m + spent c.args.way = let z : spent c.args.way ≡ 0 = c.requires.way in omega arith in
    repeated_next c.args.way c.args.base.now c.args.heads.now c.loop-m.m c.loop-m.rows.items c.push.new.self.items c.in_ok-listed.listed
    (grind (arith, common_steps)) c.loop-m.invariant
    (row_kept _ _ _ _ (c.in_ok-out.ensures ∙ c.row.ensures) c.in_ok-add_combined.ensures.kept c.in_ok-listed.ensures.complete)
    (subst (λ tails. Combines c.args.way c.args.heads.now tails 1 c.loop-m.m (row_of c.in_ok-listed.listed)) c.deref.ensures.value
    (λ j f i t u x e h g k. c.in_ok-listed.ensures.complete x (c.in_ok-add_combined.ensures.made j f i t u x e h g k)))
    c.requires.heads only
    (only_size c.args.way c.args.heads.now c.loop-m.rows.items c.requires.heads c.loop-m.invariant.sized c.loop-m.m _ _ (c.requires.base c.loop-m.m)
    (subst (λ total. HasOnly c.args.way c.args.heads.now c.loop-m.rows.items total (row_at c.args.base.now c.loop-m.m) (row_of c.in_ok-listed.listed)) same only))

pub returns : goal.returns
returns c = repeated_end c.args.way c.args.base.now c.args.heads.now c.args.n c.loop-m.m c.loop-m.rows.items (omega arith) c.loop-m.invariant
