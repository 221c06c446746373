use Rattle.std.proofs.Common.{List, ℕ, sym, ap, subst, ◌∙◌}
use Rattle.rdx_lang.specs.Ascending.{IsAscending}
use Rattle.rdx_lang.specs.Bindings.{Binding, name_cmp}
use Rattle.rdx_lang.specs.PatternView.{pattern_of}
use Rattle.rdx_lang.specs.Shown.{binding_of}
use Rattle.rdx_lang.proofs.NameLaws.{names-ascend}
use Rattle.rdx_opened.specs.Opening.{IsApart}
use Rattle.rdx_opened.specs.Picking.{picked}
use Rattle.rdx_opened.specs.Seeking.{marks_of}
use Rattle.rdx_opened.proofs.wholes.part_of.Goals as goal

pub restricted-requires : goal.restricted-requires
restricted-requires c =
    subst (λ (xs : List (List ℕ)). IsAscending name_cmp xs) (sym (c.deref.ensures.value ∙ c.in_ok-names.ensures))
    (names-ascend (pattern_of c.args.inner.now))

pub whole-requires-clause-apart : goal.whole-requires-clause-apart
whole-requires-clause-apart c =
    subst (λ (b : Binding). IsApart (marks_of c.args.marks.now) b)
    (sym (c.in_ok-restricted.ensures ∙ ap (λ (xs : List (List ℕ)). picked (binding_of c.args.c.now) xs) (c.deref.ensures.value ∙ c.in_ok-names.ensures)))
    c.requires.apart
