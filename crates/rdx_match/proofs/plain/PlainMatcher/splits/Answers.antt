use Rattle.std.proofs.Common.{subst, sym}
use Rattle.std.proofs.lemmas.Result.{IfOk-weaker}
use Rattle.rdx_lang.proofs.Collecting.{In_along}
use Rattle.rdx_lang.proofs.MemberLaws.{in-map}
use Rattle.rdx_lang.specs.Checked.{language_in, pattern_in}
use Rattle.rdx_lang.specs.Collecting.{Arises, HasExactly}
use Rattle.rdx_lang.specs.Listing.{IsListing}
use Rattle.rdx_lang.specs.Order.{decomposition_cmp}
use Rattle.rdx_lang.specs.Patterns.{Language}
use Rattle.rdx_lang.specs.PatternView.{pattern_of}
use Rattle.rdx_lang.specs.Shown.{decompositions_of}
use Rattle.rdx_term.specs.AtPaths.{IsPlace}
use Rattle.rdx_term.specs.View.{tree_of}
use Rattle.rdx_bind.proofs.Seeing.{splits_seen}
use Rattle.rdx_bind.specs.Seen.{visible_spot}
use Rattle.rdx_bind.specs.Splitting.{IsSplitAt}
use Rattle.rdx_bind.specs.Spots.{Spot, SplitsAt, spots_of}
use Rattle.rdx_match.proofs.plain.PlainMatcher.splits.Goals as goal

pub sorted_splits-requires : goal.sorted_splits-requires
sorted_splits-requires c = λ s i.
    let r = in-map visible_spot (spots_of c.in_ok-spots.spots.items) s (In_along _ _ c.in_ok-visible_spots.ensures i) in
    subst (λ (u : Spot). IsPlace (tree_of c.args.t.now) u.path) (sym r.2) (c.in_ok-spots.ensures.sound r.0 r.1).inside

pub returns : goal.returns
returns c =
    let L : Language = language_in c.args.language.now in
    let found = spots_of c.in_ok-spots.spots.items in
    let h : HasExactly found (SplitsAt (language_in c.new.result.language.now) (pattern_of c.pat.result.now) (tree_of c.args.t.now)) = c.in_ok-spots.ensures in
    let k : HasExactly found (SplitsAt L (pattern_in c.args.pat.now) (tree_of c.args.t.now)) =
    subst (λ p. HasExactly found (SplitsAt L p (tree_of c.args.t.now))) c.pat.ensures
    (subst (λ (l : Language). HasExactly found (SplitsAt l (pattern_of c.pat.result.now) (tree_of c.args.t.now))) c.new.ensures h) in
    IfOk-weaker c.sorted_splits.result _ _ (λ v l. splits_seen found k (subst (λ ss. IsListing decomposition_cmp (decompositions_of v.items) (Arises (IsSplitAt (tree_of c.args.t.now)) ss)) c.in_ok-visible_spots.ensures l)) c.sorted_splits.ensures
