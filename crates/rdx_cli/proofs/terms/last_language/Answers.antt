use Rattle.std.proofs.Common.{◌≡◌, ◌-◌, List, length, option_copied, subst}
use Rattle.std.specs.Prelude.{slice_get}
use Rattle.rdx_lang.specs.Checked.{language_in}
use Rattle.rdx_lang.specs.declared.checked.CheckedLang.{CheckedLang}
use Rattle.rdx_cli.proofs.Lasts.{last_some, last_none}
use Rattle.rdx_cli.proofs.terms.last_language.Goals as goal

pub returns-clause-some : goal.returns-clause-some
returns-clause-some c =
    last_some language_in c.args.program.now.languages.items c.last.result
    (subst (λ (ls : List CheckedLang). option_copied c.last.result ≡ slice_get ls (length ls - 1)) c.deref.ensures.value c.last.ensures.value)

pub returns-clause-none : goal.returns-clause-none
returns-clause-none c =
    last_none language_in c.args.program.now.languages.items c.last.result
    (subst (λ (ls : List CheckedLang). option_copied c.last.result ≡ slice_get ls (length ls - 1)) c.deref.ensures.value c.last.ensures.value)
