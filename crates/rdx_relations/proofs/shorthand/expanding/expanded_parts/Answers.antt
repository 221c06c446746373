use Rattle.std.proofs.Common.{◌≤◌, List, sym, subst, arith}
use Rattle.std.proofs.lemmas.Grind.{common_steps}
use Rattle.rdx_sexp.specs.Sexp.{Sexp, sexps}
use Rattle.rdx_sexp.specs.Size.{sexps_depth}
use Rattle.rdx_relations.specs.Inside.Filling.{deepest}
use Rattle.rdx_relations.proofs.CopiedDepths.{depth_pushed}
use Rattle.rdx_relations.proofs.shorthand.expanding.expanded_parts.Goals as goal

pub loop-extra-preserved : goal.loop-extra-preserved
loop-extra-preserved c =
    let m = c.loop-extra.invariant.0 in (
      grind (arith, common_steps, m),
      subst (λ (ds : List Sexp). sexps_depth (sexps ds) ≤ deepest) (sym {A = List Sexp} c.in_ok-push-4.ensures.items)
          (depth_pushed c.loop-extra.parts.items c.in_ok-copied-2.field-0 deepest c.loop-extra.invariant.1 c.in_ok-copied-2.ensures.depth),
    )
