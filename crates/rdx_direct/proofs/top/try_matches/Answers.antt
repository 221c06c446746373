use Rattle.std.proofs.Common.{subst}
use Rattle.rdx_term.specs.View.{tree_of}
use Rattle.rdx_lang.proofs.NameLaws.{match-ascends}
use Rattle.rdx_lang.specs.Checked.{language_in, pattern_in}
use Rattle.rdx_lang.specs.Collecting.{HasExactly}
use Rattle.rdx_lang.specs.Listing.{IsListing}
use Rattle.rdx_lang.specs.Members.{In}
use Rattle.rdx_lang.specs.Order.{binding_cmp}
use Rattle.rdx_lang.specs.Patterns.{Language}
use Rattle.rdx_lang.specs.PatternView.{pattern_of}
use Rattle.rdx_lang.specs.Rules.{Match}
use Rattle.rdx_lang.specs.Shown.{bindings_of}
use Rattle.rdx_bind.proofs.Seeing.{matches_seen}
use Rattle.rdx_direct.proofs.GoingLaws.{goes_first}
use Rattle.rdx_direct.specs.Inside.Going.{Goes}
use Rattle.rdx_direct.proofs.top.try_matches.Goals as goal

pub returns-in_ok-listing-in-Ok : goal.returns-in_ok-listing-in-Ok
returns-in_ok-listing-in-Ok c =
    let gs = bindings_of c.in_ok-given.given.items in
    let bs = bindings_of c.in-Ok.found.items in
    let h : HasExactly bs (Goes (Match (language_in c.new-walk.result.language.now) (pattern_of c.pat-2.result.now) (tree_of c.args.t.now)) gs) = c.in-Ok.ensures in
    let k : HasExactly bs (Goes (Match (language_in c.args.language.now) (pattern_in c.args.pat.now) (tree_of c.args.t.now)) gs) =
    subst (λ p. HasExactly bs (Goes (Match (language_in c.args.language.now) p (tree_of c.args.t.now)) gs)) c.pat-2.ensures
    (subst (λ (l : Language). HasExactly bs (Goes (Match l (pattern_of c.pat-2.result.now) (tree_of c.args.t.now)) gs)) c.new-walk.ensures h) in
    matches_seen bs (goes_first gs bs (λ b r. match-ascends r) c.in_ok-given.ensures k)
    (subst (λ cs. IsListing binding_cmp (bindings_of c.in_ok-listing-in-Ok.field-0.items) (λ b. In b cs)) c.in_ok-all_visible-in-Ok.ensures c.in_ok-listing-in-Ok.ensures)
