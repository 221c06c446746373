-- The answers of the search, by their subjects.
use Rattle.rdx_match.proofs.search.Search.+search.Answers.Matching as matching
use Rattle.rdx_match.proofs.search.Search.+search.Answers.Splitting as splitting
use Rattle.rdx_match.proofs.search.Search.+search.Answers.Columns as columns
use Rattle.rdx_match.proofs.search.Search.+search.Goals as goal
mod Matching
mod Splitting
mod Columns

-- ---- what a search matches

pub any_matches-returns-then-not-is_empty : goal.any_matches-returns-then-not-is_empty
any_matches-returns-then-not-is_empty = matching.any_matches-returns-then-not-is_empty

pub any_matches-loop-pat-preserved : goal.any_matches-loop-pat-preserved
any_matches-loop-pat-preserved = matching.any_matches-loop-pat-preserved

pub any_matches-returns : goal.any_matches-returns
any_matches-returns = matching.any_matches-returns

pub match_items-loop-i-init : goal.match_items-loop-i-init
match_items-loop-i-init = matching.match_items-loop-i-init

pub match_items-returns-then-is_empty : goal.match_items-returns-then-is_empty
match_items-returns-then-is_empty = matching.match_items-returns-then-is_empty

pub match_items-loop-i-preserved : goal.match_items-loop-i-preserved
match_items-loop-i-preserved = matching.match_items-loop-i-preserved

pub match_items-returns : goal.match_items-returns
match_items-returns = matching.match_items-returns

pub match_list-returns-in_default-2 : goal.match_list-returns-in_default-2
match_list-returns-in_default-2 = matching.match_list-returns-in_default-2

pub match_list-returns-in_default-3 : goal.match_list-returns-in_default-3
match_list-returns-in_default-3 = matching.match_list-returns-in_default-3

pub match_list-returns-in_default-4 : goal.match_list-returns-in_default-4
match_list-returns-in_default-4 = matching.match_list-returns-in_default-4

pub match_list-returns : goal.match_list-returns
match_list-returns = matching.match_list-returns

pub matches-returns-in-Wild : goal.matches-returns-in-Wild
matches-returns-in-Wild = matching.matches-returns-in-Wild

pub matches-returns-in-Except : goal.matches-returns-in-Except
matches-returns-in-Except = matching.matches-returns-in-Except

pub matches-returns-in-Prefix : goal.matches-returns-in-Prefix
matches-returns-in-Prefix = matching.matches-returns-in-Prefix

pub matches-returns-in-Kind : goal.matches-returns-in-Kind
matches-returns-in-Kind = matching.matches-returns-in-Kind

pub matches-returns-in-Lit : goal.matches-returns-in-Lit
matches-returns-in-Lit = matching.matches-returns-in-Lit

pub matches-returns-in_ok-any-in-Nt : goal.matches-returns-in_ok-any-in-Nt
matches-returns-in_ok-any-in-Nt = matching.matches-returns-in_ok-any-in-Nt

pub match_named-returns : goal.match_named-returns
match_named-returns = matching.match_named-returns

pub matches-returns-in-Named : goal.matches-returns-in-Named
matches-returns-in-Named = matching.matches-returns-in-Named

pub matches-returns-in-Differ : goal.matches-returns-in-Differ
matches-returns-in-Differ = matching.matches-returns-in-Differ

pub matches-returns-in-Seq : goal.matches-returns-in-Seq
matches-returns-in-Seq = matching.matches-returns-in-Seq

pub matches-returns-in-Hole : goal.matches-returns-in-Hole
matches-returns-in-Hole = matching.matches-returns-in-Hole

pub matches-returns-in-HideHole : goal.matches-returns-in-HideHole
matches-returns-in-HideHole = matching.matches-returns-in-HideHole

pub matches-returns-in_ok-any-in-Closed : goal.matches-returns-in_ok-any-in-Closed
matches-returns-in_ok-any-in-Closed = matching.matches-returns-in_ok-any-in-Closed

pub match_in_hole-part_at-requires : goal.match_in_hole-part_at-requires
match_in_hole-part_at-requires = matching.match_in_hole-part_at-requires

pub match_in_hole-loop-spot-preserved : goal.match_in_hole-loop-spot-preserved
match_in_hole-loop-spot-preserved = matching.match_in_hole-loop-spot-preserved

pub match_in_hole-returns : goal.match_in_hole-returns
match_in_hole-returns = matching.match_in_hole-returns

-- ---- what a search splits

pub split_in_hole-part_at-requires : goal.split_in_hole-part_at-requires
split_in_hole-part_at-requires = splitting.split_in_hole-part_at-requires

pub split_in_hole-loop-outer-preserved : goal.split_in_hole-loop-outer-preserved
split_in_hole-loop-outer-preserved = splitting.split_in_hole-loop-outer-preserved

pub split_in_hole-returns : goal.split_in_hole-returns
split_in_hole-returns = splitting.split_in_hole-returns

pub any_splits-loop-pat-preserved : goal.any_splits-loop-pat-preserved
any_splits-loop-pat-preserved = splitting.any_splits-loop-pat-preserved

pub any_splits-returns : goal.any_splits-returns
any_splits-returns = splitting.any_splits-returns

pub split_named-returns : goal.split_named-returns
split_named-returns = splitting.split_named-returns

pub row_of-returns-then-not-is_empty : goal.row_of-returns-then-not-is_empty
row_of-returns-then-not-is_empty = splitting.row_of-returns-then-not-is_empty

pub row_of-returns-then-not-may_split : goal.row_of-returns-then-not-may_split
row_of-returns-then-not-may_split = splitting.row_of-returns-then-not-may_split

pub row_of-returns-then-is_empty : goal.row_of-returns-then-is_empty
row_of-returns-then-is_empty = splitting.row_of-returns-then-is_empty

pub row_of-returns : goal.row_of-returns
row_of-returns = splitting.row_of-returns

pub rows_of-loop-i-init : goal.rows_of-loop-i-init
rows_of-loop-i-init = splitting.rows_of-loop-i-init

pub rows_of-returns-in_default-clause-searched : goal.rows_of-returns-in_default-clause-searched
rows_of-returns-in_default-clause-searched = splitting.rows_of-returns-in_default-clause-searched

pub rows_of-loop-i-preserved : goal.rows_of-loop-i-preserved
rows_of-loop-i-preserved = splitting.rows_of-loop-i-preserved

pub rows_of-returns-clause-searched : goal.rows_of-returns-clause-searched
rows_of-returns-clause-searched = splitting.rows_of-returns-clause-searched

pub rows_of-returns-clause-rows : goal.rows_of-returns-clause-rows
rows_of-returns-clause-rows = splitting.rows_of-returns-clause-rows

pub add_spots-loop-i-init : goal.add_spots-loop-i-init
add_spots-loop-i-init = splitting.add_spots-loop-i-init

pub add_spots-index_mut-requires : goal.add_spots-index_mut-requires
add_spots-index_mut-requires = splitting.add_spots-index_mut-requires

pub add_spots-loop-i-preserved : goal.add_spots-loop-i-preserved
add_spots-loop-i-preserved = splitting.add_spots-loop-i-preserved

pub add_spots-returns : goal.add_spots-returns
add_spots-returns = splitting.add_spots-returns

pub split_list-returns-in_default-2 : goal.split_list-returns-in_default-2
split_list-returns-in_default-2 = splitting.split_list-returns-in_default-2

pub split_list-returns-in_default-3 : goal.split_list-returns-in_default-3
split_list-returns-in_default-3 = splitting.split_list-returns-in_default-3

pub split_list-returns-in_default-4 : goal.split_list-returns-in_default-4
split_list-returns-in_default-4 = splitting.split_list-returns-in_default-4

pub split_list-returns-then-not-all_match : goal.split_list-returns-then-not-all_match
split_list-returns-then-not-all_match = splitting.split_list-returns-then-not-all_match

pub split_list-returns : goal.split_list-returns
split_list-returns = splitting.split_list-returns

pub splits-returns-in-Hole : goal.splits-returns-in-Hole
splits-returns-in-Hole = splitting.splits-returns-in-Hole

pub splits-returns-in-Nt : goal.splits-returns-in-Nt
splits-returns-in-Nt = splitting.splits-returns-in-Nt

pub splits-returns-in-Closed : goal.splits-returns-in-Closed
splits-returns-in-Closed = splitting.splits-returns-in-Closed

pub splits-returns-in-Seq : goal.splits-returns-in-Seq
splits-returns-in-Seq = splitting.splits-returns-in-Seq

-- ---- the columns, the first row and the middle of a list

pub cell-returns-in-Nothing : goal.cell-returns-in-Nothing
cell-returns-in-Nothing = columns.cell-returns-in-Nothing

pub cell-returns-in_ok-matches-in-Matches : goal.cell-returns-in_ok-matches-in-Matches
cell-returns-in_ok-matches-in-Matches = columns.cell-returns-in_ok-matches-in-Matches

pub cell-returns-in_ok-spots-in-Splits-2 : goal.cell-returns-in_ok-spots-in-Splits-2
cell-returns-in_ok-spots-in-Splits-2 = columns.cell-returns-in_ok-spots-in-Splits-2

pub cells-loop-i-preserved : goal.cells-loop-i-preserved
cells-loop-i-preserved = columns.cells-loop-i-preserved

pub cells-returns : goal.cells-returns
cells-returns = columns.cells-returns

pub turns-loop-i-preserved : goal.turns-loop-i-preserved
turns-loop-i-preserved = columns.turns-loop-i-preserved

pub turns-returns-clause-asked : goal.turns-returns-clause-asked
turns-returns-clause-asked = columns.turns-returns-clause-asked

pub turns-returns-clause-cells : goal.turns-returns-clause-cells
turns-returns-clause-cells = columns.turns-returns-clause-cells

pub column_of_one-asks_behind-requires : goal.column_of_one-asks_behind-requires
column_of_one-asks_behind-requires = columns.column_of_one-asks_behind-requires

pub column_of_one-column-requires : goal.column_of_one-column-requires
column_of_one-column-requires = columns.column_of_one-column-requires

pub column_of_one-one_column-requires-clause-places : goal.column_of_one-one_column-requires-clause-places
column_of_one-one_column-requires-clause-places = columns.column_of_one-one_column-requires-clause-places

pub column_of_one-one_column-requires-clause-behind : goal.column_of_one-one_column-requires-clause-behind
column_of_one-one_column-requires-clause-behind = columns.column_of_one-one_column-requires-clause-behind

pub column_of_one-returns : goal.column_of_one-returns
column_of_one-returns = columns.column_of_one-returns

pub column_of_many-column-requires : goal.column_of_many-column-requires
column_of_many-column-requires = columns.column_of_many-column-requires

pub column_of_many-turns_column-requires-clause-ascending : goal.column_of_many-turns_column-requires-clause-ascending
column_of_many-turns_column-requires-clause-ascending = columns.column_of_many-turns_column-requires-clause-ascending

pub column_of_many-turns_column-requires-clause-places : goal.column_of_many-turns_column-requires-clause-places
column_of_many-turns_column-requires-clause-places = columns.column_of_many-turns_column-requires-clause-places

pub column_of_many-turns_column-requires-clause-behind : goal.column_of_many-turns_column-requires-clause-behind
column_of_many-turns_column-requires-clause-behind = columns.column_of_many-turns_column-requires-clause-behind

pub column_of_many-turns_column-requires-clause-bound : goal.column_of_many-turns_column-requires-clause-bound
column_of_many-turns_column-requires-clause-bound = columns.column_of_many-turns_column-requires-clause-bound

pub column_of_many-returns : goal.column_of_many-returns
column_of_many-returns = columns.column_of_many-returns

pub column-returns-then-nothing_asked : goal.column-returns-then-nothing_asked
column-returns-then-nothing_asked = columns.column-returns-then-nothing_asked

pub column-returns-in_default : goal.column-returns-in_default
column-returns-in_default = columns.column-returns-in_default

pub row_of_items-column-requires : goal.row_of_items-column-requires
row_of_items-column-requires = columns.row_of_items-column-requires

pub row_of_items-returns : goal.row_of_items-returns
row_of_items-returns = columns.row_of_items-returns

pub match_middle-returns-then-is_empty : goal.match_middle-returns-then-is_empty
match_middle-returns-then-is_empty = columns.match_middle-returns-then-is_empty

pub match_middle-returns-then-is_empty-2 : goal.match_middle-returns-then-is_empty-2
match_middle-returns-then-is_empty-2 = columns.match_middle-returns-then-is_empty-2

pub match_middle-returns : goal.match_middle-returns
match_middle-returns = columns.match_middle-returns

pub middle_rows-returns-then-is_empty-clause-searched : goal.middle_rows-returns-then-is_empty-clause-searched
middle_rows-returns-then-is_empty-clause-searched = columns.middle_rows-returns-then-is_empty-clause-searched

pub middle_rows-returns-then-is_empty-3-clause-searched : goal.middle_rows-returns-then-is_empty-3-clause-searched
middle_rows-returns-then-is_empty-3-clause-searched = columns.middle_rows-returns-then-is_empty-3-clause-searched

pub middle_rows-returns-clause-searched : goal.middle_rows-returns-clause-searched
middle_rows-returns-clause-searched = columns.middle_rows-returns-clause-searched

pub middle_rows-returns-clause-spots : goal.middle_rows-returns-clause-spots
middle_rows-returns-clause-spots = columns.middle_rows-returns-clause-spots
