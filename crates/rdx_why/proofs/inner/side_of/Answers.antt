use Rattle.std.proofs.Common.{List, ℕ, sym, subst, ◌∙◌}
use Rattle.rdx_lang.specs.Ascending.{IsAscending}
use Rattle.rdx_lang.specs.Bindings.{name_cmp}
use Rattle.rdx_lang.specs.PatternView.{pattern_of}
use Rattle.rdx_lang.proofs.NameLaws.{names-ascend}
use Rattle.rdx_why.proofs.inner.side_of.Goals as goal

pub restricted-requires : goal.restricted-requires
restricted-requires c =
    subst (λ (xs : List (List ℕ)). IsAscending name_cmp xs) (sym (c.deref.ensures.value ∙ c.in_ok-names.ensures))
    (names-ascend (pattern_of c.args.pat.now))
