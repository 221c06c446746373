use Rattle.std.proofs.Common.{ap, sym, subst}
use Rattle.rdx_lang.specs.Edges.{IsFirstRecursive}
use Rattle.rdx_lang.specs.PatternView.{language_of}
use Rattle.rdx_lang.specs.Patterns.{Language}
use Rattle.rdx_leftrec.proofs.recursion.check.Goals as goal

pub returns-clause-exact : goal.returns-clause-exact
returns-clause-exact c x f = c.check_all.ensures.exact x (subst (λ (L : Language). IsFirstRecursive L x) (ap language_of (sym c.in_ok-nonterminals.ensures)) f)
