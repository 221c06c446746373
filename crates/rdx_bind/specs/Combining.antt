-- Lists of bindings, and what is put together of them.
use Rattle.std.specs.Prelude.{List, map, Vec, Result, IfOk}
use Rattle.std.specs.declared.alloc.Global.{Global}
use Rattle.rdx_term.specs.Tree.{Tree}
use Rattle.rdx_lang.specs.Bindings.{Binding, no_names}
use Rattle.rdx_lang.specs.Collecting.{Arises, Combined, Across, Adds}
use Rattle.rdx_lang.specs.Join.{IsJoin}
use Rattle.rdx_lang.specs.Listing.{IsListing}
use Rattle.rdx_lang.specs.Order.{binding_cmp}
use Rattle.rdx_lang.specs.Shown.{bindings_of}
use Rattle.rdx_lang.specs.declared.binding.Binding as code
use Rattle.rdx_bind.specs.Namings.{Naming, alone}

-- the answer, if it is no error, is the listing of the bindings of which R holds
abbrev pub Lists : {E : Type 0} → Result (Vec code.Binding Global) E → (Binding → Type 0) → Type 0
Lists result R = IfOk result (λ found. IsListing binding_cmp (bindings_of found.items) R)

-- beside the bindings of old, new has exactly those of which R holds
abbrev pub AddsBindings : (Binding → Type 0) → Vec code.Binding Global → Vec code.Binding Global → Type 0
AddsBindings R old new = Adds R (bindings_of old.items) (bindings_of new.items)

-- the joins of c with one of ds
abbrev pub JoinsWith : List Binding → Binding → Binding → Type 0
JoinsWith ds c b = Arises (IsJoin c) ds b

-- the joins of one of cs with one of ds
abbrev pub Joined : List Binding → List Binding → Binding → Type 0
Joined cs ds b = Combined IsJoin cs ds b

-- the joins of one of cs with what the name alone binds for t
abbrev pub Named : List Binding → Naming → Tree → Binding → Type 0
Named cs n t b = Arises (λ c d. IsJoin c (alone n t) d) cs b

-- the joins of one binding of each row
abbrev pub JoinsAcross : List (List Binding) → Binding → Type 0
JoinsAcross rows b = Across IsJoin no_names rows b

-- the rows that rows of the code stand for
abbrev pub rows_of : List (Vec code.Binding Global) → List (List Binding)
rows_of rows = map (λ row. bindings_of row.items) rows
