use Rattle.std.proofs.Common.{List, ℕ, sym, ap, subst, ◌∙◌}
use Rattle.rdx_term.specs.View.{tree_of}
use Rattle.rdx_lang.specs.Ascending.{IsAscending}
use Rattle.rdx_lang.specs.Bindings.{name_cmp}
use Rattle.rdx_lang.specs.Checked.{language_in, pattern_in}
use Rattle.rdx_lang.specs.Mismatches.{has_differ}
use Rattle.rdx_lang.specs.Names.{names}
use Rattle.rdx_lang.specs.PatternView.{pattern_of}
use Rattle.rdx_lang.specs.Patterns.{Pattern}
use Rattle.rdx_lang.specs.Shown.{binding_of}
use Rattle.rdx_lang.proofs.NameLaws.{names-ascend}
use Rattle.rdx_deriv.specs.Derivations.{matched}
use Rattle.rdx_opened.specs.Picking.{picked}
use Rattle.rdx_why.proofs.KnownGoals.{plain_seen}
use Rattle.rdx_why.proofs.WaysLaws.{none_holds}
use Rattle.rdx_why.proofs.judging.known_goal.Goals as goal

pub unreachable-requires : goal.unreachable-requires
unreachable-requires g c =
    none_holds c.in_ok-seen.field-0 c.in_default.is c.in_ok-seen.ensures.none c.requires.found c.requires.matches c.requires.picks

pub restricted-requires : goal.restricted-requires
restricted-requires g c =
    subst (λ (xs : List (List ℕ)). IsAscending name_cmp xs) (sym (c.deref.ensures.value ∙ c.in_ok-names.ensures))
    (names-ascend (pattern_of c.pat-pat.result.now))

pub returns : goal.returns
returns g c =
    let p : Pattern = pattern_in c.args.pat.now in
    plain_seen (language_in c.args.language.now) c.args.l.now p (tree_of c.args.t.now) (binding_of c.args.c.now)
    (binding_of c.in_ok-binding.binding)
    (matched c.in_ok-share.field-0 (pattern_of c.in_ok-share-2.field-0) (tree_of c.in_ok-share-3.field-0) (binding_of c.in_ok-b.b))
    (ap has_differ (sym c.pat.ensures) ∙ sym c.has_differ.ensures ∙ c.if-has_differ.false) c.requires
    (c.in_ok-binding.ensures ∙ ap (λ (xs : List (List ℕ)). picked (binding_of c.args.c.now) xs)
    (c.deref.ensures.value ∙ c.in_ok-names.ensures ∙ ap names c.pat-pat.ensures))
    (λ i. matched (c.in_ok-share.ensures i) ((c.in_ok-share-2.ensures ∙ c.pat-pat.ensures) i) (c.in_ok-share-3.ensures i) (c.in_ok-b.ensures i))
