use Rattle.std.proofs.Common.{subst, sym}
use Rattle.rdx_term.specs.View.{tree_of}
use Rattle.rdx_lang.specs.Checked.{language_in, pattern_in}
use Rattle.rdx_lang.specs.Shown.{decompositions_of}
use Rattle.rdx_answer.specs.Inside.Contexts.{HaveContexts}
use Rattle.rdx_answer.proofs.Contexts.{listed-contexts}
use Rattle.rdx_answer.proofs.match_answers.answer_splits.Goals as goal

pub write_splits-requires : goal.write_splits-requires
write_splits-requires g c =
    let found = c.in_ok-found.found.items in
    subst (λ ss. HaveContexts (decompositions_of ss)) (sym c.deref.ensures.value)
    (listed-contexts (language_in c.in_ok-language.language.now) (pattern_in c.args.pat.now) (tree_of c.args.t.now) (decompositions_of found)
    c.in_ok-found.ensures.listing)
