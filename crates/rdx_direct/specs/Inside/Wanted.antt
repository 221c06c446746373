-- What is wanted of a part.
use Rattle.std.specs.Prelude.{◌≡◌, ℕ, Bool, IsTrue, Option, IfSome}
use Rattle.rdx_term.specs.Tree.{Tree, Trees, tree_nodes}
use Rattle.rdx_lang.specs.Patterns.{Pattern, Items, Language}
use Rattle.rdx_lang.specs.PatternView.{pattern_of}
use Rattle.rdx_direct.specs.Inside.Going.{Fits}
use Rattle.rdx_direct.specs.Inside.Reaching.{Between, ItemsReach, PlacedReach, Reached}
use Rattle.rdx_direct.specs.declared.paths.Paths as paths
use Rattle.rdx_direct.specs.declared.wanted.Wanted as code

-- nothing is
abbrev pub Anything : Tree → Type 0
Anything t = Unit {0}

-- that the pattern matches it, and that it has so many nodes, where a number is told
pub record IsWanted (L : Language) (r : Pattern) (n : Option ℕ) (s : Tree) : Type 0 where
  pub fits : Fits L r s
  pub size : IfSome n (λ k. tree_nodes s ≡ k)

abbrev pub Wants : Language → code.Wanted → Tree → Type 0
Wants L w s = IsWanted L (pattern_of w.pat.now) w.nodes s

-- P has paths at whose ends p splits t, and all of those whose part is as w wants it
abbrev pub AreReached : Language → code.Wanted → Pattern → Tree → paths.Paths → Type 0
AreReached L w p t P = Between (Reached L (Wants L w) p t) (Reached L Anything p t) P

-- the same where this is so, of the term at place n of a list; and none where it is not
abbrev pub ArePlacedWhere : Bool → Language → code.Wanted → ℕ → Pattern → Tree → paths.Paths → Type 0
ArePlacedWhere so L w n p t P = Between (λ v. IsTrue so × PlacedReach L (Wants L w) n p t v) (λ v. IsTrue so × PlacedReach L Anything n p t v) P

-- the same of items and terms, the first of which is at place n
abbrev pub AreItemsReached : Language → code.Wanted → ℕ → Items → Trees → paths.Paths → Type 0
AreItemsReached L w n ps ts P = Between (ItemsReach L (Wants L w) n ps ts) (ItemsReach L Anything n ps ts) P

-- the same where this is so, and none where it is not
abbrev pub AreItemsReachedWhere : Bool → Language → code.Wanted → ℕ → Items → Trees → paths.Paths → Type 0
AreItemsReachedWhere so L w n ps ts P = Between (λ v. IsTrue so × ItemsReach L (Wants L w) n ps ts v) (λ v. IsTrue so × ItemsReach L Anything n ps ts v) P
