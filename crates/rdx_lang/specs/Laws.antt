-- What follows from the definitions, stated for the contracts of the module of laws.
use Rattle.std.specs.Prelude.{◌≡◌, ◌<◌, ◌≤◌, ◌⊎◌, ℕ, Bool, IsTrue, List}
use Rattle.rdx_term.specs.AtPaths.{IsPlace, tree_at, context_at}
use Rattle.rdx_term.specs.Bare.{bare}
use Rattle.rdx_term.specs.Context.{is_context}
use Rattle.rdx_term.specs.Fill.{fill_of}
use Rattle.rdx_term.specs.Path.{path}
use Rattle.rdx_term.specs.Tree.{Tree, hole, tree_depth, tree_nodes}
use Rattle.rdx_lang.specs.Ascending.{IsAscending}
use Rattle.rdx_lang.specs.Bindings.{Binding, name_cmp, bound_names, HasAscendingNames}
use Rattle.rdx_lang.specs.Join.{IsJoin, Agree}
use Rattle.rdx_lang.specs.Decompositions.{Decomposition}
use Rattle.rdx_lang.specs.Listing.{Matches, Splits}
use Rattle.rdx_lang.specs.Empty.{IsEmpty, TellsEmpty}
use Rattle.rdx_lang.specs.Edges.{Edge, IsFree, IsFirstRecursive}
use Rattle.rdx_lang.specs.Mismatches.{HasNoDifferAhead}
use Rattle.rdx_lang.specs.Names.{names}
use Rattle.rdx_lang.specs.Patterns.{Pattern, Language}
use Rattle.rdx_lang.specs.Ranks.{AreRanks}
use Rattle.rdx_lang.specs.LeftNumbers.{rank_of, left_number}
use Rattle.rdx_lang.specs.Rules.{Match, Split, IsAlternative}
use Rattle.rdx_lang.specs.WellFormed.{IsWellFormed}
use Rattle.rdx_lang.specs.declared.pattern.Ref.{Ref}

-- a pattern has one listing of its bindings at most
abbrev pub OneListing : Type 0
OneListing = (L : Language) (p : Pattern) (t : Tree) (bs cs : List Binding) → Matches L p t bs → Matches L p t cs → bs ≡ cs

-- and one of what it splits a term into
abbrev pub OneSplitsListing : Type 0
OneSplitsListing =
    (L : Language) (p : Pattern) (t : Tree) (ds es : List Decomposition) → Splits L p t ds → Splits L p t es → ds ≡ es

-- the listing of what is seen of the bindings by which p matches t
pub record HasListing (L : Language) (p : Pattern) (t : Tree) : Type 0 where
  pub found : List Binding
  pub listing : Matches L p t found

-- in a language that is free of left recursion each pattern has one
abbrev pub SomeListing : Type 0
SomeListing = (L : Language) → IsFree L → (p : Pattern) (t : Tree) → HasListing L p t

-- the listing of what p splits t into
pub record HasSplitsListing (L : Language) (p : Pattern) (t : Tree) : Type 0 where
  pub found : List Decomposition
  pub listing : Splits L p t found

-- each pattern has one of these, too
abbrev pub SomeSplitsListing : Type 0
SomeSplitsListing = (L : Language) → IsFree L → (p : Pattern) (t : Tree) → HasSplitsListing L p t

-- the first nonterminal that reaches itself
pub record HasFirstRecursive (L : Language) : Type 0 where
  pub nonterminal : Ref
  pub is_first : IsFirstRecursive L nonterminal

-- a language is free of left recursion or has one
abbrev pub FreeOrRecursive : Type 0
FreeOrRecursive = (L : Language) → IsFree L ⊎ HasFirstRecursive L

-- two bindings have one join at most
abbrev pub OneJoin : Type 0
OneJoin = (a b c d : Binding) → IsJoin a b c → IsJoin a b d → c ≡ d

-- bindings that have a join agree
abbrev pub JoinAgrees : Type 0
JoinAgrees = (a b c : Binding) → IsJoin a b c → Agree a b

-- finite maps that agree have a join
abbrev pub JoinExists : Type 0
JoinExists = (a b : Binding) → HasAscendingNames a → HasAscendingNames b → Agree a b → (c : Binding) × IsJoin a b c

-- the names of a pattern ascend, so each comes once
abbrev pub NamesAscend : Type 0
NamesAscend = (p : Pattern) → IsAscending name_cmp (names p)

-- a match binds finite maps
abbrev pub BindsAMap : Type 0
BindsAMap = (L : Language) (p : Pattern) (t : Tree) (b : Binding) → Match L p t b → HasAscendingNames b

-- a match binds exactly the names of its pattern
abbrev pub BindsItsNames : Type 0
BindsItsNames = (L : Language) (p : Pattern) (t : Tree) (b : Binding) → Match L p t b → bound_names b ≡ names p

-- so does a split
abbrev pub SplitBindsAMap : Type 0
SplitBindsAMap = (L : Language) (p : Pattern) (t C s : Tree) (b : Binding) → Split L p t C s b → HasAscendingNames b

-- and binds exactly the names of its pattern
abbrev pub SplitBindsItsNames : Type 0
SplitBindsItsNames =
    (L : Language) (p : Pattern) (t C s : Tree) (b : Binding) → Split L p t C s b → bound_names b ≡ names p

-- ---- splits

-- C is a context, which is t where s is put into it, but for marks; and neither is deeper or larger than t
pub record IsSplitOf (t C s : Tree) : Type 0 where
  pub context : IsTrue (is_context C)
  pub same : bare (fill_of C s) ≡ bare t
  pub context_depth : tree_depth C ≤ tree_depth t
  pub context_nodes : tree_nodes C ≤ tree_nodes t
  pub part_depth : tree_depth s ≤ tree_depth t
  pub part_nodes : tree_nodes s ≤ tree_nodes t

-- what is split is put together again
abbrev pub SplitFills : Type 0
SplitFills = (L : Language) (p : Pattern) (t C s : Tree) (b : Binding) → Split L p t C s b → IsSplitOf t C s

-- the path of C leads to s in t, and C is t with the hole in its place, marked along the path
pub record IsAlongPath (t C s : Tree) : Type 0 where
  pub inside : IsPlace t (path C)
  pub context : C ≡ context_at t (path C)
  pub part : s ≡ tree_at t (path C)

-- a split is fixed by the path of its context
abbrev pub SplitHasPath : Type 0
SplitHasPath = (L : Language) (p : Pattern) (t C s : Tree) (b : Binding) → Split L p t C s b → IsAlongPath t C s

-- the pattern splits t with nothing in the context
pub record SplitsWhole (L : Language) (p : Pattern) (t : Tree) : Type 0 where
  pub part : Tree
  pub binding : Binding
  pub split : Split L p t hole part binding

-- a pattern that splits some term so is Empty
abbrev pub WholeIsEmpty : Type 0
WholeIsEmpty = (L : Language) (p : Pattern) (t : Tree) → SplitsWhole L p t → IsEmpty L p

-- and a pattern that is Empty splits each term so, where no mismatch name stands in it or in an alternative that left edges lead to
abbrev pub EmptySplitsAll : Type 0
EmptySplitsAll = (L : Language) (p : Pattern) (t : Tree) → IsEmpty L p → HasNoDifferAhead L p → SplitsWhole L p t

-- a test for the Empty nonterminals of a language
pub record HasEmptyTest (L : Language) : Type 0 where
  pub test : Ref → Bool
  pub tells : TellsEmpty L test

-- each language has one
abbrev pub EmptyIsDecided : Type 0
EmptyIsDecided = (L : Language) → HasEmptyTest L

-- ---- ranks

-- where ranks fall along every left edge, the number of an alternative is below that of its nonterminal
abbrev pub RanksFall : Type 0
RanksFall =
    (L : Language) (ns : List ℕ) (E : Ref → Bool) → IsWellFormed L → AreRanks L ns → TellsEmpty L E
    → (x : Ref) (p : Pattern) → IsAlternative L x p → left_number E (rank_of L ns) p < rank_of L ns x

-- so do the numbers of patterns, along every left edge
abbrev pub EdgesFall : Type 0
EdgesFall =
    (L : Language) (ns : List ℕ) (E : Ref → Bool) → IsWellFormed L → AreRanks L ns → TellsEmpty L E
    → (p q : Pattern) → Edge L p q → left_number E (rank_of L ns) q < left_number E (rank_of L ns) p

-- and no nonterminal reaches itself
abbrev pub RankedIsFree : Type 0
RankedIsFree = (L : Language) (ns : List ℕ) → IsWellFormed L → AreRanks L ns → IsFree L
