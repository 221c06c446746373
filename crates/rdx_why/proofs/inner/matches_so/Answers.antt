use Rattle.std.proofs.Common.{ap}
use Rattle.rdx_term.specs.View.{tree_of}
use Rattle.rdx_lang.specs.Checked.{language_in, pattern_in}
use Rattle.rdx_lang.specs.PatternView.{pattern_of}
use Rattle.rdx_lang.specs.Shown.{binding_of, bindings_of}
use Rattle.rdx_why.proofs.HoleLoops.{seen_among}
use Rattle.rdx_why.proofs.inner.matches_so.Goals as goal

pub returns : goal.returns
returns g c =
    seen_among (language_in c.args.language.now) (pattern_of c.args.pat.now) (pattern_in c.in_ok-question.question) c.in_ok-question.ensures
    (tree_of c.args.t.now) (bindings_of c.in_ok-found.found.items) (bindings_of c.deref.result.now) c.in_ok-found.ensures
    (ap bindings_of c.deref.ensures.value) c.is_among.result (binding_of c.args.c.now) c.is_among.ensures
