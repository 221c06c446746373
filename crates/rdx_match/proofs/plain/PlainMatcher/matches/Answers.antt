use Rattle.std.proofs.Common.{subst}
use Rattle.std.proofs.lemmas.Result.{IfOk-weaker}
use Rattle.rdx_lang.specs.Checked.{language_in, pattern_in}
use Rattle.rdx_lang.specs.Collecting.{HasExactly}
use Rattle.rdx_lang.specs.Listing.{IsListing}
use Rattle.rdx_lang.specs.Members.{In}
use Rattle.rdx_lang.specs.Order.{binding_cmp}
use Rattle.rdx_lang.specs.Patterns.{Language}
use Rattle.rdx_lang.specs.PatternView.{pattern_of}
use Rattle.rdx_lang.specs.Rules.{Match}
use Rattle.rdx_lang.specs.Shown.{bindings_of}
use Rattle.rdx_term.specs.View.{tree_of}
use Rattle.rdx_bind.proofs.Gathering.{exactly_listed}
use Rattle.rdx_bind.proofs.Seeing.{matches_seen}
use Rattle.rdx_match.proofs.plain.PlainMatcher.matches.Goals as goal

pub returns : goal.returns
returns c =
    let L : Language = language_in c.args.language.now in
    let found = bindings_of c.in_ok-found.found.items in
    let h : HasExactly found (Match (language_in c.new.result.language.now) (pattern_of c.pat.result.now) (tree_of c.args.t.now)) = exactly_listed c.in_ok-found.ensures in
    let k : HasExactly found (Match L (pattern_in c.args.pat.now) (tree_of c.args.t.now)) =
    subst (λ p. HasExactly found (Match L p (tree_of c.args.t.now))) c.pat.ensures
    (subst (λ (l : Language). HasExactly found (Match l (pattern_of c.pat.result.now) (tree_of c.args.t.now))) c.new.ensures h) in
    IfOk-weaker c.listing.result _ _ (λ v l. matches_seen found k (subst (λ bs. IsListing binding_cmp (bindings_of v.items) (λ b. In b bs)) c.in_ok-all_visible.ensures l)) c.listing.ensures
