-- Laws of cross nonterminals.
use Rattle.std.specs.Prelude.{◌≡◌, ◌↔◌, ℕ, List, ◌++◌, map, flat_map, IsTrue, IsFalse}
use Rattle.rdx_term.specs.Tree.{Tree}
use Rattle.rdx_lang.specs.Bindings.{Binding}
use Rattle.rdx_lang.specs.Crosses.{plain_names, cross_alternatives, with_crosses, with_crosses_to, Way, language_ways, completed, without_crosses}
use Rattle.rdx_lang.specs.Decompositions.{Decomposition}
use Rattle.rdx_lang.specs.Edges.{IsRecursive, IsFirstRecursive, IsFree}
use Rattle.rdx_lang.specs.Listing.{Matches, Splits}
use Rattle.rdx_lang.specs.Members.{In}
use Rattle.rdx_lang.specs.Patterns.{Pattern, Language}
use Rattle.rdx_lang.specs.References.{is_among, are_distinct}
use Rattle.rdx_lang.specs.Rules.{IsAlternative, Match, Split}
use Rattle.rdx_lang.specs.WellFormed.{defined, is_well_formed, is_well_formed_in, all_alternatives, IsWellFormed}
use Rattle.rdx_lang.specs.declared.pattern.Ref.{Ref}
use Rattle.rdx_lang.specs.declared.pattern.Ref.TheVariants.{Nt, Cross}

-- ---- languages that are well formed already

-- a well-formed language stays so with any cross nonterminals
abbrev pub CrossesWellFormed : Type 0
CrossesWellFormed = (L : Language) (ys : List (List ℕ)) → IsWellFormed L → IsWellFormed (with_crosses_to L ys)

-- and free of left recursion
abbrev pub CrossesFree : Type 0
CrossesFree = (L : Language) (ys : List (List ℕ)) → IsWellFormed L → IsFree L → IsFree (with_crosses_to L ys)

-- a pattern that is well formed in a language stays so
abbrev pub PatternsStay : Type 0
PatternsStay = (L : Language) (ys : List (List ℕ)) (p : Pattern) → IsTrue (is_well_formed_in L p) → IsTrue (is_well_formed_in (with_crosses_to L ys) p)

-- the nonterminals that are no cross nonterminals stay the same
abbrev pub PlainNamesStay : Type 0
PlainNamesStay = (L : Language) (ys : List (List ℕ)) → plain_names (with_crosses_to L ys) ≡ plain_names L

-- where a language has all cross nonterminals to y, nothing is added
abbrev pub CrossesOnce : Type 0
CrossesOnce =
    (L : Language) (y : List ℕ) → ((x : List ℕ) → IsTrue (is_among (Nt x) (defined L)) → IsTrue (is_among (Cross x y) (defined L)))
    → with_crosses L y ≡ L

-- and it has them once they were added, also with others behind
abbrev pub CrossesThere : Type 0
CrossesThere =
    (L : Language) (y : List ℕ) (ys : List (List ℕ)) (x : List ℕ)
    → IsTrue (is_among (Nt x) (defined L)) → IsTrue (is_among (Cross x y) (defined (with_crosses_to (with_crosses L y) ys)))

-- what was well formed before matches the same terms, with the same bindings
abbrev pub CrossesChangeNoMatch : Type 0
CrossesChangeNoMatch =
    (L : Language) (ys : List (List ℕ)) (p : Pattern) → IsWellFormed L → IsTrue (is_well_formed_in L p)
    → (t : Tree) (b : Binding) → (Match L p t b ↔ Match (with_crosses_to L ys) p t b)

-- and splits them in the same ways
abbrev pub CrossesChangeNoSplit : Type 0
CrossesChangeNoSplit =
    (L : Language) (ys : List (List ℕ)) (p : Pattern) → IsWellFormed L → IsTrue (is_well_formed_in L p)
    → (t C s : Tree) (b : Binding) → (Split L p t C s b ↔ Split (with_crosses_to L ys) p t C s b)

-- so the listings of its matches are the same
abbrev pub CrossesChangeNoListing : Type 0
CrossesChangeNoListing =
    (L : Language) (ys : List (List ℕ)) (p : Pattern) → IsWellFormed L → IsTrue (is_well_formed_in L p)
    → (t : Tree) (bs : List Binding) → (Matches L p t bs ↔ Matches (with_crosses_to L ys) p t bs)

-- and those of its splits
abbrev pub CrossesChangeNoSplitsListing : Type 0
CrossesChangeNoSplitsListing =
    (L : Language) (ys : List (List ℕ)) (p : Pattern) → IsWellFormed L → IsTrue (is_well_formed_in L p)
    → (t : Tree) (ds : List Decomposition) → (Splits L p t ds ↔ Splits (with_crosses_to L ys) p t ds)

-- ---- what is read, which may speak of cross nonterminals before the language has them

-- the cross nonterminals to y from each of these
abbrev pub crosses_to : List (List ℕ) → List ℕ → List Ref
crosses_to xs y = map (λ x. Cross x y) xs

-- a language's nonterminals, with the cross nonterminals from those that are none to each of these
abbrev pub known_with : Language → List (List ℕ) → List Ref
known_with L ys = defined L ++ flat_map (crosses_to (plain_names L)) ys

-- a pattern that speaks of no others is well formed once the language has them
abbrev pub PatternsGetTheirs : Type 0
PatternsGetTheirs =
    (L : Language) (ys : List (List ℕ)) (p : Pattern)
    → IsTrue (is_well_formed (known_with L ys) p) → IsTrue (is_well_formed_in (with_crosses_to L ys) p)

-- the nonterminal that a way is
abbrev pub cross_of : Way → Ref
cross_of w = Cross w.0 w.1

-- the nonterminals of a language are distinct, and its alternatives are well formed but that their cross nonterminals need not be there
pub record IsCompletable (L : Language) : Type 0 where
  pub distinct : IsTrue (are_distinct (defined L))
  pub alternatives : IsTrue (all_alternatives (is_well_formed (defined L ++ map cross_of (language_ways L))) L.nonterminals)

-- such a language is well formed once it has the cross nonterminals that it needs
abbrev pub CompletedWellFormed : Type 0
CompletedWellFormed = (L : Language) → IsCompletable L → IsWellFormed (completed L)

-- the language has no cross nonterminal
abbrev pub HasNoCrosses : Language → Type 0
HasNoCrosses L = (x y : List ℕ) → IsFalse (is_among (Cross x y) (defined L))

-- each alternative of a cross nonterminal of the language is one that it should have, by the language's own alternatives
abbrev pub HasItsCrosses : Language → Type 0
HasItsCrosses L = (x y : List ℕ) (q : Pattern) → IsAlternative L (Cross x y) q → In q (cross_alternatives L x y)

-- a completed language has its cross nonterminals
abbrev pub CompletedHasIts : Type 0
CompletedHasIts = (L : Language) → HasNoCrosses L → HasItsCrosses (completed L)

-- each alternative that a cross nonterminal of the language should have is one of it
abbrev pub LeavesNoneOut : Language → Type 0
LeavesNoneOut L =
    (x y : List ℕ) → IsTrue (is_among (Cross x y) (defined L)) → (q : Pattern) → In q (cross_alternatives L x y) → IsAlternative L (Cross x y) q

-- a completed language leaves none out
abbrev pub CompletedLeavesNoneOut : Type 0
CompletedLeavesNoneOut = (L : Language) → HasNoCrosses L → LeavesNoneOut (completed L)

-- where a cross nonterminal has none but those that it should have, it is left-recursive only where the nonterminal is that it leads from
abbrev pub RecursiveIsPlain : Type 0
RecursiveIsPlain = (L : Language) → HasItsCrosses L → (x y : List ℕ) → IsRecursive L (Cross x y) → IsRecursive L (Nt x)

-- so the first left-recursive nonterminal of a completed language is no cross nonterminal
abbrev pub FirstIsPlain : Type 0
FirstIsPlain = (L : Language) → HasNoCrosses L → (r : Ref) → IsFirstRecursive (completed L) r → (x : List ℕ) × (r ≡ Nt x)

-- what an extension begins with has no cross nonterminal
abbrev pub WithoutHasNone : Type 0
WithoutHasNone = (L : Language) → HasNoCrosses (without_crosses L)
