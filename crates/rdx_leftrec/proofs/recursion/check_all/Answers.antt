use Rattle.std.proofs.Common.{◌≡◌, ◌∙◌, Bool, ap, sym, subst, List, ℕ}
use Rattle.rdx_lang.specs.Empty.{TellsEmpty}
use Rattle.rdx_lang.specs.PatternView.{language_of}
use Rattle.rdx_lang.specs.Patterns.{Language}
use Rattle.rdx_lang.specs.declared.pattern.Ref.{Ref}
use Rattle.rdx_leftrec.specs.Inside.EmptyRules.{empty_by}
use Rattle.rdx_leftrec.specs.Inside.Leads.{lists_of, targets_of}
use Rattle.rdx_leftrec.specs.Inside.Reach.{AreTargets}
use Rattle.rdx_leftrec.proofs.Paths.{targets-inside, names-first}
use Rattle.rdx_leftrec.proofs.recursion.check_all.Goals as goal

pub of-requires : goal.of-requires
of-requires c =
    let L : Language = language_of c.args.nonterminals.now.language.now in
    let E : Ref → Bool = empty_by L c.deref.result.now in
    let e : lists_of c.deref-2.result.now ≡ targets_of E L = ap lists_of c.deref-2.ensures.value ∙ c.in_ok-targets.ensures in
    let t : TellsEmpty L E = subst (λ (marks : List Bool). TellsEmpty L (empty_by L marks)) (sym c.deref.ensures.value) c.in_ok-empty.ensures in
    subst (λ (ts : List (List ℕ)). AreTargets ts) (sym e) (targets-inside L c.requires E t)

pub returns-in-Recursive-clause-exact : goal.returns-in-Recursive-clause-exact
returns-in-Recursive-clause-exact c x f = names-first (language_of c.args.nonterminals.now.language.now) x c.refusal.result c.refusal.ensures f
