use Rattle.std.proofs.Common.{subst}
use Rattle.rdx_lang.specs.ProgramView.{program_of}
use Rattle.rdx_lang.specs.Programs as programs
use Rattle.rdx_eval.specs.Views.{program_in}
use Rattle.rdx_answer.specs.Inside.Explaining.{IsShowableQuery}
use Rattle.rdx_answer.specs.Inside.Tabled.{forms_in}
use Rattle.rdx_answer.specs.Views.{query_of}
use Rattle.rdx_answer.specs.declared.queries.Query.{Query}
use Rattle.rdx_answer.proofs.explained_answers.show.Goals as goal

pub explain_matches-requires-clause-showable : goal.explain_matches-requires-clause-showable
explain_matches-requires-clause-showable g c =
    let P : programs.Program = program_of (program_in c.args.engine.now).now in
    let s = subst (λ (q : Query). IsShowableQuery P (query_of (forms_in c.args.table.now) q)) c.in-Match.is c.requires.shown in
    record { lawful = s.lawful; spoken = s.shown }

pub explain_splits-requires-clause-showable : goal.explain_splits-requires-clause-showable
explain_splits-requires-clause-showable g c =
    let P : programs.Program = program_of (program_in c.args.engine.now).now in
    let s = subst (λ (q : Query). IsShowableQuery P (query_of (forms_in c.args.table.now) q)) c.in-Decompose.is c.requires.shown in
    record { lawful = s.lawful; spoken = s.shown }
