use Rattle.std.proofs.Common.{sym, ap, subst}
use Rattle.rdx_lang.specs.Bindings.{Binding}
use Rattle.rdx_lang.specs.Collecting.{HasExactly}
use Rattle.rdx_lang.specs.Shown.{bindings_of}
use Rattle.rdx_bind.specs.Columns.{HasAsked, has_nothing, has_matches, has_splits}
use Rattle.rdx_bind.specs.Combining.{Joined}
use Rattle.rdx_bind.specs.Ones.{SplitsEither}
use Rattle.rdx_bind.specs.Rows.{SplitRow, split_row_of}
use Rattle.rdx_bind.specs.Spots.{Spot, spots_of}
use Rattle.rdx_bind.proofs.Gathering.{exactly_listed}
use Rattle.rdx_bind.proofs.columns.both_rows.Goals as goal

pub returns-in-Nothing : goal.returns-in-Nothing
returns-in-Nothing c =
    let row : SplitRow = split_row_of c.empty_row.result in
    let M : Binding → Type 0 = Joined (bindings_of c.args.a.now.matches.items) (bindings_of c.args.b.now.matches.items) in
    let S : Spot → Type 0 = SplitsEither (split_row_of c.args.a.now) (split_row_of c.args.b.now) in
    subst (λ a. HasAsked M S a row) (sym c.in-Nothing.is) (has_nothing (ap (λ (r : SplitRow). r.matches) c.empty_row.ensures) (ap (λ (r : SplitRow). r.spots) c.empty_row.ensures))

pub returns-in_ok-matches-in-Matches : goal.returns-in_ok-matches-in-Matches
returns-in_ok-matches-in-Matches c =
    let row : SplitRow = record { matches = bindings_of c.in_ok-matches-in-Matches.matches.items; spots = spots_of c.new-spots.result.items } in
    let M : Binding → Type 0 = Joined (bindings_of c.args.a.now.matches.items) (bindings_of c.args.b.now.matches.items) in
    let S : Spot → Type 0 = SplitsEither (split_row_of c.args.a.now) (split_row_of c.args.b.now) in
    let h : HasExactly row.matches M = exactly_listed (rw c.deref.ensures.value at (rw c.deref-in-Matches.ensures.value at c.in_ok-matches-in-Matches.ensures)) in
    subst (λ a. HasAsked M S a row) (sym c.in-Matches.is) (has_matches h (ap spots_of c.new-spots.ensures.items))

pub returns-in_ok-spots-in-Splits : goal.returns-in_ok-spots-in-Splits
returns-in_ok-spots-in-Splits c =
    let row : SplitRow = record { matches = bindings_of c.in_ok-matches-in-Splits.matches.items; spots = spots_of c.in_ok-spots-in-Splits.spots.items } in
    let M : Binding → Type 0 = Joined (bindings_of c.args.a.now.matches.items) (bindings_of c.args.b.now.matches.items) in
    let S : Spot → Type 0 = SplitsEither (split_row_of c.args.a.now) (split_row_of c.args.b.now) in
    let h : HasExactly row.matches M = exactly_listed (rw c.deref-in-Splits.ensures.value at (rw c.deref-in-Splits-2.ensures.value at c.in_ok-matches-in-Splits.ensures)) in
    subst (λ a. HasAsked M S a row) (sym c.in-Splits.is) (has_splits h c.in_ok-spots-in-Splits.ensures)
