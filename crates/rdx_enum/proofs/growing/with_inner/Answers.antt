use Rattle.std.proofs.Common.{refl}
use Rattle.rdx_enum.specs.declared.way.Way.TheVariants.{Filled, Put}
use Rattle.rdx_enum.proofs.GrownPatterns.{grown_in_hole}
use Rattle.rdx_enum.proofs.Loops.{combined_at}
use Rattle.rdx_enum.proofs.growing.with_inner.Goals as goal

pub returns : goal.returns
returns c = λ L P q r g f. grown_in_hole L P q r c.args.n _ _ _ _ c.in_ok-terms.terms.items c.in_ok-contexts.contexts.items g f
    (combined_at Filled 1 c.args.n _ _ _ _ _ _ _ refl c.deref.ensures.value c.deref-2.ensures.value c.in_ok-terms.ensures)
    (combined_at Put 1 c.args.n _ _ _ _ _ _ _ refl c.deref-3.ensures.value c.deref-4.ensures.value c.in_ok-contexts.ensures)
