use Rattle.std.proofs.Common.{ap}
use Rattle.rdx_lang.specs.Shown.{bindings_of}
use Rattle.rdx_bind.specs.Columns.{has_nothing, has_matches, has_splits}
use Rattle.rdx_bind.specs.Spots.{spots_of}
use Rattle.rdx_bind.proofs.Gathering.{exactly_listed}
use Rattle.rdx_bind.proofs.turns.row_from.Goals as goal

pub returns-in-Nothing : goal.returns-in-Nothing
returns-in-Nothing c = rw c.in-Nothing.is (has_nothing (ap bindings_of c.new.ensures.items) (ap spots_of c.new-in-Nothing.ensures.items))

pub returns-in_ok-matches-in-Matches : goal.returns-in_ok-matches-in-Matches
returns-in_ok-matches-in-Matches c =
    rw c.in-Matches.is (has_matches (exactly_listed c.in_ok-matches-in-Matches.ensures) (ap spots_of c.new-in-Matches.ensures.items))

pub returns-in_ok-spots-in-Splits : goal.returns-in_ok-spots-in-Splits
returns-in_ok-spots-in-Splits c =
    rw c.in-Splits.is (has_splits (exactly_listed c.in_ok-matches-in-Splits.ensures) c.in_ok-spots-in-Splits.ensures)
