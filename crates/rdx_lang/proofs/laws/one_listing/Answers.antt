use Rattle.rdx_lang.specs.Order.{binding_cmp, decomposition_cmp}
use Rattle.rdx_lang.specs.Model.TotalOrders.{binding_cmp-total, decomposition_cmp-total}
use Rattle.rdx_lang.proofs.OrderLaws.{one_listing}
use Rattle.rdx_lang.specs.Listing.{IsSeen, SplitsVisibly}
use Rattle.rdx_lang.specs.Rules.{Match}
use Rattle.rdx_lang.proofs.laws.one_listing.Goals as goal

pub returns-clause-matches : goal.returns-clause-matches
returns-clause-matches c L p t bs cs l m = one_listing binding_cmp (IsSeen (Match L p t)) bs cs binding_cmp-total l m

pub returns-clause-splits : goal.returns-clause-splits
returns-clause-splits c L p t ds es l m = one_listing decomposition_cmp (SplitsVisibly L p t) ds es decomposition_cmp-total l m
