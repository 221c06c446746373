use Rattle.std.proofs.Common.{◌+◌, subst, ◌∙◌, arith}
use Rattle.std.proofs.lemmas.Grind.{common_steps}
use Rattle.rdx_enum.specs.Inside.Rows.{row_of, row_at, HasOnly}
use Rattle.rdx_enum.proofs.Loops.{combined_next, combined_end, combined_start, row_kept}
use Rattle.rdx_enum.proofs.Sizes.{listed_only, only_size}
use Rattle.rdx_enum.proofs.rows.combined.Goals as goal

pub loop-m-init : goal.loop-m-init
loop-m-init c = combined_start c.args.way c.args.more c.args.base.now c.args.heads.now c.args.tails.now _ c.new-rows.ensures.items

pub loop-m-preserved : goal.loop-m-preserved
loop-m-preserved c =
    let only : HasOnly c.args.way c.args.heads.now c.args.tails.now (c.loop-m.m + c.args.more) (row_at c.args.base.now c.loop-m.m) (row_of c.in_ok-listed.listed) =
    listed_only c.args.way c.args.heads.now c.args.tails.now (c.loop-m.m + c.args.more) _ _ _ _ (c.in_ok-out.ensures ∙ c.row.ensures) c.in_ok-add_combined.ensures.only c.in_ok-listed.ensures.sound in
    combined_next c.args.way c.args.more c.args.base.now c.args.heads.now c.args.tails.now c.loop-m.m c.loop-m.rows.items c.push.new.self.items c.in_ok-listed.listed
    (grind (arith, common_steps)) c.loop-m.invariant
    (row_kept _ _ _ _ (c.in_ok-out.ensures ∙ c.row.ensures) c.in_ok-add_combined.ensures.kept c.in_ok-listed.ensures.complete)
    (λ j f i t u x e h g k. c.in_ok-listed.ensures.complete x (c.in_ok-add_combined.ensures.made j f i t u x e h g k))
    only
    (only_size c.args.way c.args.heads.now c.args.tails.now c.requires.heads c.requires.tails c.loop-m.m _ _ (c.requires.base c.loop-m.m)
    (subst (λ i. HasOnly c.args.way c.args.heads.now c.args.tails.now (c.loop-m.m + i) (row_at c.args.base.now c.loop-m.m) (row_of c.in_ok-listed.listed)) c.requires.more only))

pub returns : goal.returns
returns c = combined_end c.args.way c.args.more c.args.base.now c.args.heads.now c.args.tails.now c.args.n c.loop-m.m c.loop-m.rows.items (omega arith) c.loop-m.invariant
