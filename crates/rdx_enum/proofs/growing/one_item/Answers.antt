use Rattle.std.proofs.Common.{refl}
use Rattle.rdx_enum.specs.declared.way.Way.TheVariants.{Item, Context, Behind}
use Rattle.rdx_enum.proofs.GrownItems.{grown_one}
use Rattle.rdx_enum.proofs.Loops.{combined_at}
use Rattle.rdx_enum.proofs.growing.one_item.Goals as goal

pub returns : goal.returns
returns c = λ L P p ps g f. grown_one L P p ps c.args.n _ _ _ _ c.in_ok-terms.terms.items c.in_ok-here.here.items c.in_ok-contexts.contexts.items g f
    (combined_at Item 0 c.args.n _ _ _ _ _ _ _ refl c.deref.ensures.value c.deref-2.ensures.value c.in_ok-terms.ensures)
    (combined_at Context 0 c.args.n _ _ _ _ _ _ _ refl c.deref-3.ensures.value c.deref-4.ensures.value c.in_ok-here.ensures)
    (combined_at Behind 0 c.args.n _ _ _ _ _ _ _ c.deref-5.ensures.value c.deref-6.ensures.value c.deref-7.ensures.value c.in_ok-contexts.ensures)
