-- The texts of terms.
use Rattle.std.specs.Prelude.{ℕ, List, Vec, map}
use Rattle.std.specs.BTreeSet.{BTreeSet}
use Rattle.std.specs.Cmp.Lexicographic.{slice_cmp}
use Rattle.std.specs.Ordering.{nat_cmp}
use Rattle.std.specs.declared.alloc.Global.{Global}
use Rattle.rdx_term.specs.Terms.{IsTerm}
use Rattle.rdx_term.specs.Text.{tree_text}
use Rattle.rdx_term.specs.Tree.{Tree}
use Rattle.rdx_lang.specs.Listing.{IsListing}
use Rattle.rdx_lang.specs.Members.{In}

-- each is a term
abbrev pub AreTerms : List Tree → Type 0
AreTerms ts = (t : Tree) → In t ts → IsTerm t

-- the bytes of each key
abbrev pub bytes_in : BTreeSet (Vec ℕ Global) → List (List ℕ)
bytes_in set = map (λ x. x.items) set.keys

-- they are the texts of these terms, ascending and each once
abbrev pub AreTexts : List Tree → BTreeSet (Vec ℕ Global) → Type 0
AreTexts ts set = IsListing (slice_cmp nat_cmp) (bytes_in set) (λ x. In x (map tree_text ts))
