use Rattle.std.proofs.Common.{◌≡◌, ◌∙◌, ℕ, List, ap, sym, subst}
use Rattle.rdx_term.specs.Tree.{Tree}
use Rattle.rdx_term.specs.View.{tree_of}
use Rattle.rdx_lang.proofs.PatternEquations.{pattern_named}
use Rattle.rdx_lang.specs.Checked.{language_in}
use Rattle.rdx_lang.specs.Collecting.{Arises, HasExactly}
use Rattle.rdx_lang.specs.Decompositions.{Decomposition}
use Rattle.rdx_lang.specs.Listing.{SplitsVisibly}
use Rattle.rdx_lang.specs.Patterns.{Pattern, Language, named}
use Rattle.rdx_lang.specs.PatternView.{pattern_of}
use Rattle.rdx_lang.specs.Shown.{decompositions_of}
use Rattle.rdx_direct.proofs.ReachLaws.{split_there}
use Rattle.rdx_direct.proofs.SplitsInto.{named_splits_into, plain_splits_into}
use Rattle.rdx_direct.specs.Inside.Paths.{paths_in}
use Rattle.rdx_direct.specs.Inside.Splits.{IsNamedSplit, IsPlainSplit}
use Rattle.rdx_direct.proofs.walk.Walk.all_splits.Goals as goal

pub returns-in-Named : goal.returns-in-Named
returns-in-Named c =
    let L : Language = language_in c.args.self.now.language.now in
    let t : Tree = tree_of c.args.t.now in
    let x : List ℕ = c.in-Named.name in
    let p : Pattern = pattern_of c.deref.result.now in
    let e : pattern_of c.args.pat.now ≡ named x p = ap pattern_of c.in-Named.is ∙ pattern_named c.in-Named.name c.in-Named.part ∙ ap (λ q. named x (pattern_of q)) (sym c.deref.ensures) in
    let ds : List Decomposition = decompositions_of c.in_ok-named_splits.field-0.items in
    let h : HasExactly ds (Arises (IsNamedSplit x t) (paths_in c.in_ok-paths.paths.items)) = subst (λ ws. HasExactly ds (Arises (IsNamedSplit x t) (paths_in ws))) c.deref-in-Named.ensures.value c.in_ok-named_splits.ensures in
    subst (λ q. HasExactly ds (SplitsVisibly L q t)) (sym e)
    (named_splits_into (λ w k. split_there c.in_ok-paths.ensures.plain k) (λ w b s. record { binding = b; split = s; wanted = tt }) (paths_in c.in_ok-paths.paths.items) c.in_ok-paths.ensures.paths c.in_ok-paths.ensures.plain h)

pub returns : goal.returns
returns c =
    let t : Tree = tree_of c.args.t.now in
    let ds : List Decomposition = decompositions_of c.in_ok-plain_splits.field-0.items in
    let h : HasExactly ds (Arises (IsPlainSplit t) (paths_in c.in_ok-paths-2.paths.items)) = subst (λ ws. HasExactly ds (Arises (IsPlainSplit t) (paths_in ws))) c.deref-2.ensures.value c.in_ok-plain_splits.ensures in
    plain_splits_into (λ w k. split_there c.in_ok-paths-2.ensures.plain k) (λ w b s. record { binding = b; split = s; wanted = tt }) (paths_in c.in_ok-paths-2.paths.items) c.in_ok-paths-2.ensures.paths c.in_ok-paths-2.ensures.plain h
