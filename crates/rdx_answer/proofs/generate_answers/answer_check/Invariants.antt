use Rattle.std.proofs.Common.{◌≡◌, ◌-◌}
use Rattle.rdx_lang.specs.Checked.{language_in, pattern_in}
use Rattle.rdx_lang.specs.ProgramView.{program_of}
use Rattle.rdx_lang.specs.TemplateView.{host_of}
use Rattle.rdx_gen.specs.Generators.{Begins}
use Rattle.rdx_gen.specs.Words.{words_of}
use Rattle.rdx_eval.specs.Heights.{calls_at, height}
use Rattle.rdx_eval.specs.Views.{program_in}
use Rattle.rdx_answer.specs.GenerateAnswers.{Attempts, Verdict}
use Rattle.rdx_answer.proofs.generate_answers.answer_check.Given as goal

abbrev pub invariant-loop-attempt : goal.invariant-loop-attempt
invariant-loop-attempt g l = record {
  same : program_in l.engine ≡ program_in l.fn.engine;
  kept : l.out.items ≡ l.fn.out.items;
  begins : Begins (language_in l.check.language.now) (pattern_in l.pat) l.generator;
  attempts : (o : Verdict)
      → Attempts (calls_at (program_of (program_in l.fn.engine).now) height) (language_in l.check.language.now) (pattern_in l.pat) (host_of l.host)
      l.attempt (l.attempts - l.attempt) l.words.generator o
      → Attempts (calls_at (program_of (program_in l.fn.engine).now) height) (language_in l.check.language.now) (pattern_in l.pat) (host_of l.host)
      0 l.attempts (words_of l.seed) o;
}
