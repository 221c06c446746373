use Rattle.std.proofs.Common.{◌≡◌, ◌∙◌, ap}
use Rattle.std.specs.Prelude.{ℕ, List}
use Rattle.rdx_lang.specs.Checked.{language_in, pattern_in}
use Rattle.rdx_lang.specs.Patterns.{Pattern, Language, in_hole, named, closed}
use Rattle.rdx_lang.specs.PatternView.{pattern_of}
use Rattle.rdx_lang.specs.Programs.{Rule}
use Rattle.rdx_lang.specs.ProgramView.{rule_of}
use Rattle.rdx_lang.specs.WellFormed.{is_well_formed_in}
use Rattle.rdx_lang.proofs.ClosedRules.{rule_in_context-well_formed}
use Rattle.rdx_reduce.proofs.closures.closed_rule.Goals as goal

pub known-requires : goal.known-requires
known-requires c =
    let L : Language = language_in c.args.language.now in
    let p : Pattern = pattern_in c.args.by.now in
    let r : Rule = rule_of c.args.rule.now in
    let x : List ℕ = c.in_ok-context.context in
    let e : pattern_of c.in_ok-pattern.pattern ≡ in_hole (named x (closed p)) r.pattern =
    c.in_ok-pattern.ensures ∙ (λ i. in_hole (named x (closed (c.pat-2.ensures i))) (c.pat-3.ensures i)) in
    ap (is_well_formed_in L) e ∙ rule_in_context-well_formed L p r x c.requires.by c.requires.rule c.in_ok-context.ensures.free
