use Rattle.std.proofs.Common.{◌≡◌, ◌+◌, ◌∙◌, List, ◌∷◌, Bool, true, drop, sym, ap}
use Rattle.std.specs.Prelude.{◌&&◌}
use Rattle.rdx_lang.proofs.Rest.{rest_at}
use Rattle.rdx_lang.specs.Patterns.{Pattern}
use Rattle.rdx_lang.specs.PatternView.{pattern_of, patterns_of, language_of}
use Rattle.rdx_lang.specs.declared.facts.May.{May}
use Rattle.rdx_lang.specs.declared.pattern.Ref.{Ref}
use Rattle.rdx_facts.specs.Inside.Flags.{may_by, may_of, is_within, are_within}
use Rattle.rdx_facts.proofs.closing.are_within.Goals as goal

pub loop-pat-preserved : goal.loop-pat-preserved
loop-pat-preserved c =
    let E : Ref → May = may_by (language_of c.args.language.now) c.args.marks.now in
    let bound : May = c.args.bound in
    let pats = c.args.pats.now in
    let i = c.loop-pat.pat-index in
    let p : Pattern = pattern_of c.pat-item.result in
    let rest : List Pattern = patterns_of (drop (i + 1) pats) in
    let ahead : patterns_of (drop i pats) ≡ p ∷ rest = rest_at pattern_of pats i c.pat-item.result c.loop-pat-test.true c.pat-item.is in
    let so : c.is_within.result ≡ true = cc in
    let within : is_within (may_of E p) bound ≡ true = ap (λ (m : May). is_within m bound) (sym c.pattern_may.ensures) ∙ sym c.is_within.ensures ∙ so in
    sym (ap (λ (ps : List Pattern). are_within E ps bound) ahead ∙ ap (λ (b : Bool). b && are_within E rest bound) within)
    ∙ c.loop-pat.invariant
