use Rattle.std.proofs.Common.{sym, subst, Result}
use Rattle.rand_pcg.specs.Lcg.{Lcg}
use Rattle.rdx_lang.specs.Patterns.{Language, Pattern}
use Rattle.rdx_term.specs.declared.term.Term.{Term}
use Rattle.rdx_gen.specs.Answered.{Answers}
use Rattle.rdx_gen.specs.Generated.{Generates}
use Rattle.rdx_gen.specs.Generators.{language_for, pattern_for}
use Rattle.rdx_gen.specs.Inside.Answering.{answered}
use Rattle.rdx_gen.specs.Views.{state_of}
use Rattle.rdx_gen.specs.declared.fault.GenFault.{GenFault}
use Rattle.rdx_gen.proofs.Start.{generates_so}
use Rattle.rdx_gen.proofs.generator.Generator.generate.Goals as goal

pub returns : goal.returns
returns c =
    let L : Language = language_for c.args.self.now in
    let p : Pattern = pattern_for c.args.self.now in
    let left : Lcg = c.from_start-result.new.state.words.generator in
    let so : Answers (λ a. Generates L p c.args.size c.in_ok-same.field-0.generator a left) (answered c.from_start-result.result) =
    generates_so c.levels-levels.result L p c.args.size c.in_ok-same.field-0.generator c.from_start-result.result (state_of c.from_start-result.new.state)
    c.args.self.now.named c.args.self.now.high c.from_start-result.ensures in
    let st : Answers (λ a. Generates L p c.args.size c.args.words.now.generator a left) (answered c.from_start-result.result) =
    subst (λ (z : Lcg). Answers (λ a. Generates L p c.args.size z a left) (answered c.from_start-result.result)) c.in_ok-same.ensures so in
    subst (λ (z : Result Term GenFault). Answers (λ a. Generates L p c.args.size c.args.words.now.generator a left) z) (sym c.answer_of.ensures) st
