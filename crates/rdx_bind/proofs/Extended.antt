-- What is made of a spot is one spot at most, since there is one join at most.
use Rattle.std.proofs.Common.{◌≡◌, sym, ◌∙◌}
use Rattle.rdx_term.specs.AtPaths.{context_at}
use Rattle.rdx_term.specs.Tree.{Tree}
use Rattle.rdx_lang.proofs.JoinLaws.{one_join}
use Rattle.rdx_bind.specs.Namings.{Naming, alone}
use Rattle.rdx_bind.specs.Spots.{Spot}
use Rattle.rdx_bind.specs.Splitting.{NamesContext, GoesOn}

-- spots with one path and one binding are one
pub one_spot : (s u : Spot) → s.path ≡ u.path → s.binding ≡ u.binding → s ≡ u
one_spot s u e f = λ i. record { path = e i; binding = f i }

-- with a name for the context
pub one_named : (n : Naming) (t : Tree) (s u y : Spot) → NamesContext n t s u → NamesContext n t s y → y ≡ u
one_named n t s u y h k =
    one_spot y u (k.same ∙ sym h.same) (one_join s.binding (alone n (context_at t s.path)) y.binding u.binding k.joined h.joined)

-- going on from its part
pub one_on : (s u w y : Spot) → GoesOn s u w → GoesOn s u y → y ≡ w
one_on s u w y n m = one_spot y w (m.along ∙ sym n.along) (one_join s.binding u.binding y.binding w.binding m.joined n.joined)
