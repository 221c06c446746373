use Rattle.rdx_gen.proofs.Barren as barren
use Rattle.rdx_gen.proofs.laws.barren_matches_none.Goals as goal

pub returns : goal.returns
returns c = record { none = barren.barren_matches_none }
