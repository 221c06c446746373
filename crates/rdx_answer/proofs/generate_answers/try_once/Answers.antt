use Rattle.std.proofs.Common.{◌%◌, subst}
use Rattle.rdx_term.specs.View.{tree_of}
use Rattle.rdx_lang.specs.Checked.{language_in, pattern_in}
use Rattle.rdx_lang.specs.Patterns.{Pattern, Language}
use Rattle.rdx_lang.specs.ProgramView.{program_of}
use Rattle.rdx_lang.specs.TemplateView.{host_of}
use Rattle.rdx_lang.specs.Templates.{Host}
use Rattle.rdx_eval.specs.Calls.{Calls}
use Rattle.rdx_eval.specs.Heights.{calls_at, height}
use Rattle.rdx_eval.specs.Views.{program_in}
use Rattle.rdx_gen.specs.Generators.{Begins}
use Rattle.rdx_answer.proofs.Attempting.{faulted, once_tried, once_hindered}
use Rattle.rdx_answer.proofs.generate_answers.try_once.Goals as goal

pub returns-in-Ok-next_term-clause-answer : goal.returns-in-Ok-next_term-clause-answer
returns-in-Ok-next_term-clause-answer g c =
    let C : Calls = calls_at (program_of (program_in c.args.engine.now).now) height in
    let L : Language = language_in c.args.check.now.language.now in
    let p : Pattern = pattern_in c.args.check.now.pat.now in
    let h : Host = host_of c.args.check.now.host.now in
    once_tried C L p h c.args.attempt c.args.words.now.generator c.next_term.new.words.generator (tree_of c.in-Ok-next_term.t) c.args.out.now.items
    c.try_term.new.out.items c.try_term.result c.in-Ok-next_term.ensures c.try_term.ensures.answer

pub returns-in-Err-clause-answer : goal.returns-in-Err-clause-answer
returns-in-Err-clause-answer g c =
    let C : Calls = calls_at (program_of (program_in c.args.engine.now).now) height in
    let L : Language = language_in c.args.check.now.language.now in
    let p : Pattern = pattern_in c.args.check.now.pat.now in
    let h : Host = host_of c.args.check.now.host.now in
    let w = c.args.words.now.generator in
    let none = faulted L p (c.args.attempt % 6) w c.in-Err.fault (subst (Begins L p) c.in-Err.is c.requires.begins) in
    once_hindered C L p h c.args.attempt w w c.args.out.now.items
    c.write_generation_fault.new.out.items c.in-Err.fault none c.in_ok-write_generation_fault-in-Err.ensures

pub returns-in_ok-write_generation_fault-in-Err-next_term-clause-answer : goal.returns-in_ok-write_generation_fault-in-Err-next_term-clause-answer
returns-in_ok-write_generation_fault-in-Err-next_term-clause-answer g c =
    let C : Calls = calls_at (program_of (program_in c.args.engine.now).now) height in
    let L : Language = language_in c.args.check.now.language.now in
    let p : Pattern = pattern_in c.args.check.now.pat.now in
    let h : Host = host_of c.args.check.now.host.now in
    once_hindered C L p h c.args.attempt c.args.words.now.generator c.next_term.new.words.generator c.args.out.now.items
    c.write_generation_fault-in-Err-next_term.new.out.items c.in-Err-next_term.fault c.in-Err-next_term.ensures c.in_ok-write_generation_fault-in-Err-next_term.ensures
