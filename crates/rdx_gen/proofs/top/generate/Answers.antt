use Rattle.rdx_lang.specs.Checked.{language_in, pattern_in}
use Rattle.rdx_gen.proofs.Start.{refused_so}
use Rattle.rdx_gen.proofs.top.generate.Goals as goal

pub returns-in_err-generator : goal.returns-in_err-generator
returns-in_err-generator c =
    refused_so (language_in c.args.language.now) (pattern_in c.args.pat.now) c.args.size c.args.words.now.generator c.from_residual.result _
    c.from_residual.ensures.1 c.in_err-generator.ensures
