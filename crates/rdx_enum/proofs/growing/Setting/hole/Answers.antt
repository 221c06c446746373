use Rattle.std.proofs.Common.{◌≡◌, [], ◌∷◌, map, sym, refl, ◌∙◌, arith}
use Rattle.std.proofs.lemmas.Grind.{common_steps}
use Rattle.rdx_term.specs.Tree.{hole}
use Rattle.rdx_term.specs.View.{tree_of}
use Rattle.rdx_lang.specs.Members.{here}
use Rattle.rdx_lang.proofs.Collecting.{In_along}
use Rattle.rdx_enum.proofs.GrownPatterns.{grown_hole}
use Rattle.rdx_enum.proofs.growing.Setting.hole.Goals as goal

pub returns : goal.returns
returns c =
    let e : map tree_of c.push.new.self.items ≡ hole ∷ [] = grind (arith, common_steps) in
    let f : map tree_of c.push-2.new.self.items ≡ hole ∷ [] = grind (arith, common_steps) in
    λ L P n. grown_hole L P n _ _ c.in_ok-terms.ensures.sized c.in_ok-contexts.ensures.sized (In_along _ _ (sym (c.in_ok-terms.ensures.one ∙ e)) (here refl)) (In_along _ _ (sym (c.in_ok-contexts.ensures.one ∙ f)) (here refl))
