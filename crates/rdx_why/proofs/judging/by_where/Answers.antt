use Rattle.std.proofs.lemmas.Result.{IfOk-weaker}
use Rattle.rdx_term.specs.View.{tree_of}
use Rattle.rdx_lang.specs.Bindings.{Binding}
use Rattle.rdx_lang.specs.Checked.{language_in, pattern_in}
use Rattle.rdx_lang.specs.ProgramView.{program_of}
use Rattle.rdx_lang.specs.Programs.{Program, such_as}
use Rattle.rdx_lang.specs.Shown.{binding_of}
use Rattle.rdx_lang.specs.Templates.{Template}
use Rattle.rdx_lang.specs.TemplateView.{template_of}
use Rattle.rdx_eval.specs.Answers.{value}
use Rattle.rdx_eval.specs.Instantiation.{Makes}
use Rattle.rdx_deriv.specs.DerivationView.{goal_of}
use Rattle.rdx_deriv.specs.Avoiding.{avoided_of}
use Rattle.rdx_deriv.specs.Judged.{calls}
use Rattle.rdx_deriv.proofs.FoundOnce.{found_some}
use Rattle.rdx_why.proofs.WaysLaws.{none_holds, passed_by, some_holds, where_joins, where_passed, where_seen}
use Rattle.rdx_why.proofs.judging.by_where.Goals as goal

pub known_goal-requires : goal.known_goal-requires
known_goal-requires g c =
    let P : Program = program_of c.args.program.now in
    let m : Template = template_of c.args.template.now in
    let b : Binding = binding_of c.args.b.now in
    where_seen P (language_in c.args.language.now) (pattern_in c.args.pat.now) m b (binding_of c.args.c.now) c.requires.map c.requires.way
    (tree_of c.in-Some.t)
    (found_some tree_of (λ u. Makes (calls P) b m (value u)) c.in_ok-t.field-0 c.in_ok-t.ensures.made c.in-Some.t c.in-Some.is)

pub unreachable-requires-in_default-2 : goal.unreachable-requires-in_default-2
unreachable-requires-in_default-2 g c =
    let P : Program = program_of c.args.program.now in
    let m : Template = template_of c.args.template.now in
    let b : Binding = binding_of c.args.b.now in
    let seen = c.in_ok-seen.seen in
    where_joins P (language_in c.args.language.now) (pattern_in c.args.pat.now) m b (binding_of c.args.c.now) c.requires.map c.requires.way
    c.args.l.now (tree_of c.in-Some.t) (goal_of seen.goal) (binding_of seen.binding) c.in_ok-seen.ensures
    (none_holds c.in_ok-binding.field-0 c.in_default-2.is c.in_ok-binding.ensures.none)

pub returns-clause-passed : goal.returns-clause-passed
returns-clause-passed g c =
    let P : Program = program_of c.args.program.now in
    let m : Template = template_of c.args.template.now in
    let b : Binding = binding_of c.args.b.now in
    let seen = c.in_ok-seen.seen in
    let j = some_holds _ _ _ c.in-Some-2.is c.in_ok-binding.ensures.some in
    IfOk-weaker c.passed_one.result _ _
    (λ r e. passed_by P c.args.l.now (avoided_of c.args.avoids.now) (such_as (pattern_in c.args.pat.now) m) (binding_of c.args.c.now) b _ _ _ _
    e.0 e.1
    (where_passed P (language_in c.args.language.now) c.args.l.now (avoided_of c.args.avoids.now) (pattern_in c.args.pat.now) m
    (binding_of c.args.c.now) b (binding_of c.in-Some-2.binding) (tree_of c.in-Some.t) (goal_of seen.goal) (binding_of seen.binding)
    c.requires.spoken c.requires.known
    ((found_some tree_of (λ u. Makes (calls P) b m (value u)) c.in_ok-t.field-0 c.in_ok-t.ensures.made c.in-Some.t c.in-Some.is
    (tree_of c.in-Some.t)).1 (λ i. tree_of c.in-Some.t))
    c.in_ok-seen.ensures j))
    c.passed_one.ensures
