-- What the search asks of several patterns, and of the items of lists.
use Rattle.std.specs.Prelude.{◌≡◌, ℕ, Bool, true, List, [], Option, Some, None}
use Rattle.rdx_term.specs.Tree.{Tree}
use Rattle.rdx_lang.specs.Bindings.{Binding}
use Rattle.rdx_lang.specs.Collecting.{HasExactly}
use Rattle.rdx_lang.specs.Members.{In}
use Rattle.rdx_lang.specs.Patterns.{Pattern, Language}
use Rattle.rdx_lang.specs.PatternView.{Slot, just, repeated}
use Rattle.rdx_lang.specs.Rules.{Match}
use Rattle.rdx_bind.specs.Rows.{SplitRow, split_row_of}
use Rattle.rdx_bind.specs.Spots.{Spot, SplitsAt, PlacedAt}
use Rattle.rdx_bind.specs.Splitting.{IsNameless}
use Rattle.rdx_bind.specs.declared.rows.Row as code

-- the pattern of an item, be it one term's or repeated
abbrev pub item_pattern : Slot → Pattern
item_pattern (just p) = p
item_pattern (repeated p n) = p

-- one of the patterns matches t
pub record AnyMatches (L : Language) (ps : List Pattern) (t : Tree) : Type 0 where
  pub pattern : Pattern
  pub among : In pattern ps
  pub binding : Binding
  pub matched : Match L pattern t binding

-- one of the patterns splits t there, its names forgotten
pub record AnySplits (L : Language) (ps : List Pattern) (t : Tree) (r : Spot) : Type 0 where
  pub pattern : Pattern
  pub among : In pattern ps
  pub spot : Spot
  pub split : SplitsAt L pattern t spot
  pub nameless : IsNameless spot r

-- p does not match t
abbrev pub MatchesNone : Language → Pattern → Tree → Type 0
MatchesNone L p t = (b : Binding) → ¬ Match L p t b

-- p does not split t
abbrev pub SplitsNone : Language → Pattern → Tree → Type 0
SplitsNone L p t = (s : Spot) → ¬ SplitsAt L p t s

-- p does not split t, which stands at place n of a list
abbrev pub PlacedNone : Language → ℕ → Pattern → Tree → Type 0
PlacedNone L n p t = (s : Spot) → ¬ PlacedAt L n p t s

-- the row of p at t, which stands at place n of a list, where p has to match t, or may be split: its matches, and where it has none its spots;
-- no row where it can be neither
pub data IsRowOf (L : Language) (n : ℕ) (p : Pattern) (t : Tree) : Bool → Option SplitRow → Type 0 where
  row_matches : {may_split : Bool} {row : SplitRow} → ¬ (row.matches ≡ []) → HasExactly row.matches (Match L p t) → row.spots ≡ []
      → IsRowOf L n p t may_split (Some row)
  row_splits : {row : SplitRow} → row.matches ≡ [] → MatchesNone L p t → HasExactly row.spots (PlacedAt L n p t) → IsRowOf L n p t true (Some row)
  row_fails : {may_split : Bool} → MatchesNone L p t → (may_split ≡ true → PlacedNone L n p t) → IsRowOf L n p t may_split None

-- the row that a row of the code stands for, if there is one
abbrev pub found_row : Option code.Row → Option SplitRow
found_row None = None
found_row (Some row) = Some (split_row_of row)
