use Rattle.rdx_nodes.proofs.RowLaws.{row_hole}
use Rattle.rdx_nodes.proofs.by_term.hole_row.Goals as goal

pub returns : goal.returns
returns c L = row_hole c.args.splits c.is_hole.result c.is_hole.ensures c.in_ok-matches.ensures c.in_ok-spots.ensures
