use Rattle.std.proofs.Common.{◌+◌, ◌≤◌, List, sym, subst, arith}
use Rattle.std.proofs.lemmas.Grind.{common_steps}
use Rattle.rdx_sexp.specs.Sexp.{Sexp, sexps}
use Rattle.rdx_sexp.specs.Size.{sexps_depth}
use Rattle.rdx_relations.specs.Inside.Filling.{deepest}
use Rattle.rdx_relations.proofs.CopiedDepths.{depth_pushed}
use Rattle.rdx_relations.proofs.shorthand.expanding.expand_cases.Goals as goal

pub loop-d-preserved : goal.loop-d-preserved
loop-d-preserved c =
    let m = c.loop-d.invariant.0 in (
      grind (arith, common_steps, m),
      subst (λ (ds : List Sexp). sexps_depth (sexps ds) ≤ deepest + 1) (sym {A = List Sexp} c.in_ok-push.ensures.items)
          (depth_pushed c.loop-d.expanded.items c.in_ok-expanded_by.field-0 (deepest + 1) c.loop-d.invariant.1 c.in_ok-expanded_by.ensures.depth),
    )
