use Rattle.std.proofs.Common.{◌≡◌, ◌≤◌, Bool, false, Some, Bor, subst, arith}
use Rattle.std.specs.Prelude.{Err, Ok}
use Rattle.rdx_lang.specs.Checked.{language_in, pattern_in}
use Rattle.rdx_lang.specs.Patterns.{Pattern, Language}
use Rattle.rdx_lang.specs.ProgramView.{program_of}
use Rattle.rdx_lang.specs.Programs as programs
use Rattle.rdx_lang.specs.Programs.{language_named}
use Rattle.rdx_lang.specs.TemplateView.{host_of}
use Rattle.rdx_lang.specs.Templates.{Host}
use Rattle.rdx_lang.specs.declared.program.Program.{Program}
use Rattle.rdx_eval.specs.Heights.{calls_at, height}
use Rattle.rdx_eval.specs.Views.{program_in}
use Rattle.rdx_answer.specs.Inside.Attempting.{TriesOnce}
use Rattle.rdx_answer.proofs.Attempting.{check_error, check_ended, check_passed}
use Rattle.rdx_answer.proofs.generate_answers.answer_check.Goals as goal

pub try_once-requires-clause-begins : goal.try_once-requires-clause-begins
try_once-requires-clause-begins g c = c.loop-attempt.invariant.begins

pub returns-in_err-try_once-clause-answer : goal.returns-in_err-try_once-clause-answer
returns-in_err-try_once-clause-answer g c =
    let P : programs.Program = program_of (program_in c.args.engine.now).now in
    let L : Language = language_in c.in_ok-language.language.now in
    let p : Pattern = pattern_in c.args.pat.now in
    let h : Host = host_of c.args.host.now in
    let l = c.loop-attempt in
    let known : language_named P c.args.name.now ≡ Some L = c.in_ok-language.ensures.found in
    let tried : TriesOnce (calls_at P height) L p h l.attempt l.words.generator c.try_once.new.words.generator l.out.items c.try_once.new.out.items
    (Err c.in_err-try_once.field-0.0) =
    subst (λ (b : Bor Program). TriesOnce (calls_at (program_of b.now) height) L p h l.attempt l.words.generator c.try_once.new.words.generator l.out.items
    c.try_once.new.out.items (Err c.in_err-try_once.field-0.0)) l.invariant.same c.in_err-try_once.ensures.answer in
    check_error P c.args.name.now p h c.args.attempts c.args.seed L known l.attempt l.words.generator c.try_once.new.words.generator c.args.out.now.items
    l.out.items c.try_once.new.out.items c.from_residual-in_err-try_once.result _ c.from_residual-in_err-try_once.ensures.1 c.loop-attempt-test.true
    l.invariant.kept tried l.invariant.attempts

pub returns-then-not-branch-clause-answer : goal.returns-then-not-branch-clause-answer
returns-then-not-branch-clause-answer g c =
    let P : programs.Program = program_of (program_in c.args.engine.now).now in
    let L : Language = language_in c.in_ok-language.language.now in
    let p : Pattern = pattern_in c.args.pat.now in
    let h : Host = host_of c.args.host.now in
    let l = c.loop-attempt in
    let known : language_named P c.args.name.now ≡ Some L = c.in_ok-language.ensures.found in
    let unmet : c.in_ok-try_once.field-0 ≡ false = let e = c.if-not-branch.true in cc in
    let ended : TriesOnce (calls_at P height) L p h l.attempt l.words.generator c.try_once.new.words.generator l.out.items c.try_once.new.out.items
    (Ok false) =
    subst (λ (b : Bool). TriesOnce (calls_at P height) L p h l.attempt l.words.generator c.try_once.new.words.generator l.out.items
    c.try_once.new.out.items (Ok b)) unmet
    (subst (λ (b : Bor Program). TriesOnce (calls_at (program_of b.now) height) L p h l.attempt l.words.generator c.try_once.new.words.generator l.out.items
    c.try_once.new.out.items (Ok c.in_ok-try_once.field-0)) l.invariant.same c.in_ok-try_once.ensures.answer) in
    check_ended P c.args.name.now p h c.args.attempts c.args.seed L known l.attempt l.words.generator c.args.out.now.items l.out.items
    c.try_once.new.out.items c.loop-attempt-test.true l.invariant.kept ended l.invariant.attempts

pub returns-clause-answer : goal.returns-clause-answer
returns-clause-answer g c =
    let P : programs.Program = program_of (program_in c.args.engine.now).now in
    let L : Language = language_in c.in_ok-language.language.now in
    let l = c.loop-attempt in
    let known : language_named P c.args.name.now ≡ Some L = c.in_ok-language.ensures.found in
    let done : c.args.attempts ≤ l.attempt = let e = c.loop-attempt-test.false in omega (arith, e) in
    check_passed P c.args.name.now (pattern_in c.args.pat.now) (host_of c.args.host.now) c.args.attempts c.args.seed L known l.attempt l.words.generator
    c.args.out.now.items l.out.items c.write_passed.new.out.items done l.invariant.kept c.in_ok-write_passed.ensures l.invariant.attempts
