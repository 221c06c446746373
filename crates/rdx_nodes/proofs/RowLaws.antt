-- What rows have that have what is asked: splits besides matches, or matches alone.
use Rattle.std.proofs.Common.{◌≡◌, Bool, true, false, if◌then◌else◌, IsTrue, List, [], ◌∷◌, refl, sym, ◌∙◌, ap, subst}
use Rattle.std.specs.Prelude.{◌↔◌}
use Rattle.rdx_term.specs.Tree.{Tree}
use Rattle.rdx_term.specs.Tree.{hole as the_hole}
use Rattle.rdx_lang.specs.Bindings.{Binding, no_names}
use Rattle.rdx_lang.specs.Collecting.{HasExactly}
use Rattle.rdx_lang.specs.Listing.{AllMatches}
use Rattle.rdx_lang.specs.Patterns.{Pattern, hole, Language}
use Rattle.rdx_lang.specs.Rules.{Match}
use Rattle.rdx_bind.specs.Columns.{HasAsked, has_matches, has_splits}
use Rattle.rdx_bind.specs.Rows.{SplitRow}
use Rattle.rdx_bind.specs.Spots.{Spot, SplitsAt}
use Rattle.rdx_bind.specs.declared.asks.Ask.TheVariants.{Splits}
use Rattle.rdx_bind.proofs.AskedRows.{has-match, has-spot, match-has, spot-has, has-as}
use Rattle.rdx_bind.proofs.AtomListings.{listing_hole}
use Rattle.rdx_bind.proofs.Gathering.{exactly_listed, exactly_none}
use Rattle.rdx_bind.proofs.SplitRules.{exactly_hole}
use Rattle.rdx_nodes.specs.Asked.{asked_where}
use Rattle.rdx_nodes.specs.Settings.{DoesAsWell}
use Rattle.rdx_nodes.specs.Inside.PlainRows.{plain_row, hole_spots}

module _ {M : Binding → Type 0} {S : Spot → Type 0} where
  -- what is bound is asked in both cases
  pub row_matches : (splits : Bool) {row : SplitRow} → HasAsked M S (asked_where splits) row → HasExactly row.matches M
  row_matches true h = record { sound = λ b i. has-match h i; complete = λ b m. match-has h tt m }
  row_matches false h = record { sound = λ b i. has-match h i; complete = λ b m. match-has h tt m }

  -- where splits are asked, the row has exactly the spots
  pub row_spots : {row : SplitRow} → HasAsked M S Splits row → HasExactly row.spots S
  row_spots h = record { sound = λ s i. has-spot h i; complete = λ s k. spot-has h tt k }

  -- a row of such matches and such spots has what is asked, whether splits are or not
  pub row_asked : (splits : Bool) {row : SplitRow} → HasExactly row.matches M → (splits ≡ true → HasExactly row.spots S)
      → (splits ≡ false → row.spots ≡ [])
      → HasAsked M S (asked_where splits) row
  row_asked true m s n = has_splits m (s refl)
  row_asked false m s n = has_matches m (n refl)

-- what a row has of a pattern, it has of one that this does as well as
pub row_as_well : {L : Language} {p q : Pattern} {t : Tree} {row : SplitRow} (splits : Bool) → DoesAsWell L p q
    → HasAsked (Match L p t) (SplitsAt L p t) (asked_where splits) row → HasAsked (Match L q t) (SplitsAt L q t) (asked_where splits) row
row_as_well {t = t} splits w h = has-as (λ b m. (w.matches t b).0 m) (λ a b m. (w.matches t b).1 m) (λ s k. (w.splits t s).0 k)
    (λ a s k. (w.splits t s).1 k) h

-- a row of the same pattern
pub row_same : {L : Language} {p q : Pattern} {t : Tree} {row : SplitRow} (splits : Bool) → p ≡ q
    → HasAsked (Match L p t) (SplitsAt L p t) (asked_where splits) row → HasAsked (Match L q t) (SplitsAt L q t) (asked_where splits) row
row_same {L} {t = t} {row} splits e h = subst (λ (p : Pattern). HasAsked (Match L p t) (SplitsAt L p t) (asked_where splits) row) e h

-- the row of a pattern that splits nothing, which matches where something holds
pub row_where : {L : Language} {p q : Pattern} {t : Tree} {row : SplitRow} (splits holds : Bool) → q ≡ p
    → ((bs : List Binding) → bs ≡ (if holds then no_names ∷ [] else []) → AllMatches L p t bs) → ((s : Spot) → SplitsAt L p t s → ⊥)
    → row ≡ plain_row holds
    → HasAsked (Match L q t) (SplitsAt L q t) (asked_where splits) row
row_where {L} {p} {q} {t} {row} splits holds e f n r =
    let n' : row.spots ≡ [] = ap (λ (x : SplitRow). x.spots) r in
    row_same splits (sym e) (row_asked splits (exactly_listed (f row.matches (ap (λ (x : SplitRow). x.matches) r)))
    (λ h. exactly_none (SplitsAt L p t) n' n) (λ h. n'))

-- the row of the hole
pub row_hole : {L : Language} {t : Tree} {row : SplitRow} (splits holds : Bool) → (IsTrue holds ↔ (t ≡ the_hole))
    → row.matches ≡ (if holds then no_names ∷ [] else [])
    → row.spots ≡ hole_spots splits → HasAsked (Match L hole t) (SplitsAt L hole t) (asked_where splits) row
row_hole splits holds h m s = row_asked splits (exactly_listed (listing_hole holds m h)) (λ e. exactly_hole (s ∙ ap hole_spots e))
    (λ e. s ∙ ap hole_spots e)
