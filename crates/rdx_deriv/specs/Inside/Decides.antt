-- What the test of a node decides. No public contract cites it.
use Rattle.std.specs.Prelude.{Bool, IsTrue, List}
use Rattle.rdx_deriv.specs.Derivations.{Goal}
use Rattle.rdx_deriv.specs.Inside.Layouts.{BindTheirNames}

-- where the answer is yes, P holds; and it is yes where P holds and the goals bind the names of their patterns
pub record Decides (r : Bool) (gs : List Goal) (P : Type 0) : Type 0 where
  pub sound : IsTrue r → P
  pub complete : BindTheirNames gs → P → IsTrue r
