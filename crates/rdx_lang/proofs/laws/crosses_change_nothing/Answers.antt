use Rattle.rdx_lang.proofs.CrossesUnseen.{crosses_change_no_match, crosses_change_no_split, crosses_change_no_listing, crosses_change_no_splits_listing}
use Rattle.rdx_lang.proofs.laws.crosses_change_nothing.Goals as goal

pub returns-clause-matches : goal.returns-clause-matches
returns-clause-matches c = crosses_change_no_match

pub returns-clause-splits : goal.returns-clause-splits
returns-clause-splits c = crosses_change_no_split

pub returns-clause-listing : goal.returns-clause-listing
returns-clause-listing c = crosses_change_no_listing

pub returns-clause-splits_listing : goal.returns-clause-splits_listing
returns-clause-splits_listing c = crosses_change_no_splits_listing
