-- Listings: the strictly ascending list of exactly the members of a set.
use Rattle.std.specs.Prelude.{◌≡◌, List}
use Rattle.std.specs.declared.cmp.Ordering.{Ordering}
use Rattle.rdx_term.specs.Tree.{Tree}
use Rattle.rdx_lang.specs.Members.{In}
use Rattle.rdx_lang.specs.Ascending.{IsAscending}
use Rattle.rdx_lang.specs.Bindings.{Binding, visible}
use Rattle.rdx_lang.specs.Decompositions.{Decomposition}
use Rattle.rdx_lang.specs.Order.{binding_cmp, decomposition_cmp}
use Rattle.rdx_lang.specs.Patterns.{Pattern, Language}
use Rattle.rdx_lang.specs.Rules.{Match, Split}

-- in this order, xs ascends, and its members are exactly those of which R holds
pub record IsListing {A : Type 0} (cmp : A → A → Ordering) (xs : List A) (R : A → Type 0) : Type 0 where
  pub ascending : IsAscending cmp xs
  pub sound : (x : A) → In x xs → R x
  pub complete : (x : A) → R x → In x xs

-- b is what is seen of a binding of which R holds
pub record IsSeen (R : Binding → Type 0) (b : Binding) : Type 0 where
  pub whole : Binding
  pub holds : R whole
  pub seen : b ≡ visible whole

-- bs lists what is seen of the bindings by which p matches t in the language L
abbrev pub Matches : Language → Pattern → Tree → List Binding → Type 0
Matches L p t bs = IsListing binding_cmp bs (IsSeen (Match L p t))

-- bs lists these bindings with their mismatch names, as matchers keep them until they are done
abbrev pub AllMatches : Language → Pattern → Tree → List Binding → Type 0
AllMatches L p t bs = IsListing binding_cmp bs (Match L p t)

-- p splits t so
abbrev pub SplitsInto : Language → Pattern → Tree → Decomposition → Type 0
SplitsInto L p t d = Split L p t d.context d.part d.binding

-- p splits t so, with a binding of which d has what is seen
abbrev pub SplitsVisibly : Language → Pattern → Tree → Decomposition → Type 0
SplitsVisibly L p t d = IsSeen (Split L p t d.context d.part) d.binding

-- ds lists the contexts and parts into which p splits t in the language L, with what is seen of their bindings
abbrev pub Splits : Language → Pattern → Tree → List Decomposition → Type 0
Splits L p t ds = IsListing decomposition_cmp ds (SplitsVisibly L p t)

-- ds lists these with whole bindings
abbrev pub AllSplits : Language → Pattern → Tree → List Decomposition → Type 0
AllSplits L p t ds = IsListing decomposition_cmp ds (SplitsInto L p t)
