use Rattle.std.proofs.Common.{List, sym, subst}
use Rattle.std.specs.Prelude.{◌↔◌}
use Rattle.rdx_lang.specs.Checked.{language_in}
use Rattle.rdx_lang.specs.Members.{In}
use Rattle.rdx_lang.specs.Patterns.{Pattern}
use Rattle.rdx_lang.specs.Rules.{IsAlternative}
use Rattle.rdx_lang.proofs.LookupLaws.{alternatives_of-all}
use Rattle.rdx_lang.proofs.checked.CheckedLang.alternatives.Goals as goal

pub returns-clause-all : goal.returns-clause-all
returns-clause-all c p =
    let L = language_in c.args.self.now in
    let x = c.args.name.now in
    subst (λ (ps : List Pattern). In p ps ↔ IsAlternative L x p) (sym c.alternatives.ensures) (alternatives_of-all L x c.args.self.now.well_formed.distinct p)
