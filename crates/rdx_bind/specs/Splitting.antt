-- What is made of spots.
use Rattle.std.specs.Prelude.{◌≡◌, List, ◌++◌, Vec, Result, IfOk}
use Rattle.std.specs.declared.alloc.Global.{Global}
use Rattle.rdx_term.specs.Tree.{Tree}
use Rattle.rdx_term.specs.AtPaths.{tree_at, context_at}
use Rattle.rdx_lang.specs.Bindings.{no_names}
use Rattle.rdx_lang.specs.Decompositions.{Decomposition}
use Rattle.rdx_lang.specs.Collecting.{HasExactly}
use Rattle.rdx_lang.specs.Join.{IsJoin}
use Rattle.rdx_bind.specs.Namings.{Naming, alone}
use Rattle.rdx_bind.specs.Spots.{Spot, spots_of}
use Rattle.rdx_bind.specs.declared.spots.Gathered as code_gathered
use Rattle.rdx_bind.specs.declared.spots.Spot as code

-- the answer, if it is no error, has exactly the spots of which R holds
abbrev pub Finds : {E : Type 0} → Result (Vec code.Spot Global) E → (Spot → Type 0) → Type 0
Finds result R = IfOk result (λ found. HasExactly (spots_of found.items) R)

-- the spots that are gathered
abbrev pub gathered_spots : code_gathered.Gathered → List Spot
gathered_spots g = spots_of g.spots.items

-- u is s, with no names
abbrev pub IsNameless : Spot → Spot → Type 0
IsNameless s u = u ≡ record { path = s.path; binding = no_names }

-- u is s, with the name for the context too
pub record NamesContext (n : Naming) (t : Tree) (s u : Spot) : Type 0 where
  pub same : u.path ≡ s.path
  pub joined : IsJoin s.binding (alone n (context_at t s.path)) u.binding

-- w goes on where s ends, as u says
pub record GoesOn (s u w : Spot) : Type 0 where
  pub along : w.path ≡ s.path ++ u.path
  pub joined : IsJoin s.binding u.binding w.binding

-- what t is split into at s
abbrev pub split_of : Tree → Spot → Decomposition
split_of t s = record { context = context_at t s.path; part = tree_at t s.path; binding = s.binding }

-- t is split into d at s
abbrev pub IsSplitAt : Tree → Spot → Decomposition → Type 0
IsSplitAt t s d = d ≡ split_of t s
