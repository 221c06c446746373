use Rattle.std.proofs.Common.{refl, sym, ◌∙◌}
use Rattle.rdx_lang.specs.Members.{here}
use Rattle.rdx_lang.proofs.Collecting.{In_along}
use Rattle.rdx_enum.proofs.GrownItems.{grown_none}
use Rattle.rdx_enum.proofs.growing.none.Goals as goal

pub returns : goal.returns
returns c = λ L P n. grown_none L P n _ _ c.in_ok-terms.ensures.sized c.new.ensures.items (In_along _ _ (sym (c.in_ok-terms.ensures.one ∙ c.in_ok-empty_list.ensures)) (here refl))
