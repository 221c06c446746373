use Rattle.rdx_lang.proofs.SomeListings.{has_listing, has_splits_listing}
use Rattle.rdx_lang.proofs.laws.some_listing.Goals as goal

pub returns-clause-matches : goal.returns-clause-matches
returns-clause-matches c L free p t = has_listing L free p t

pub returns-clause-splits : goal.returns-clause-splits
returns-clause-splits c L free p t = has_splits_listing L free p t
