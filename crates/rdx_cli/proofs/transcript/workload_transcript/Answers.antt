use Rattle.std.proofs.Common.{List, ℕ, [], ◌∙◌, ◌++◌, ap, subst, codes, decimal}
use Rattle.rdx_cli.specs.Transcript.{RunWrites, last_line}
use Rattle.rdx_cli.proofs.transcript.workload_transcript.Goals as goal

pub returns : goal.returns
returns g c =
    let whole = c.in_ok-whole.whole in
    let file = c.deref.ensures.value ∙ c.in_ok-file.ensures in
    let written = subst (λ (bytes : List ℕ). RunWrites [] bytes whole.text.items whole.verdict) file c.in_ok-whole.ensures in
    let lines = λ (text : List ℕ). codes "workload " ++ decimal c.args.tests ++ codes "\n" ++ last_line text in
    let printed = c.in_ok-workload_lines.ensures ∙ ap lines c.deref-2.ensures.value in
    record { whole = whole.text.items; written = written; printed = printed }
