use Rattle.std.proofs.Common.{◌∙◌, sym, [], Result, subst, rules}
use Rattle.rdx_base.specs.declared.place.Place.{Place}
use Rattle.rdx_sexp.specs.Blanks.{past_blanks}
use Rattle.rdx_sexp.specs.Inside.Cursor.{StopsAt}
use Rattle.rdx_sexp.specs.Text.{Text}
use Rattle.rdx_sexp.proofs.Steps.{outside_begins, outside_space}
use Rattle.rdx_sexp.proofs.blanks.past_blanks.Goals as goal

pub returns-in_err-at : goal.returns-in_err-at
returns-in_err-at c =
    let begins = outside_begins c.loop-c.at.place c.skip_one.result.place c.in-Some.rest.place c.in-Some.c c.loop-c.at.rest.now c.in-Some.rest.rest.now c.skip_one.result.rest.now
    c.in-Some.ensures.0 c.in-Some.ensures.1 c.skip_one.ensures.value c.if-c-eq59.false (sym c.begins_block.ensures ∙ c.if-begins_block.true) in
    let same : StopsAt c.in_err-at.field-0.0 (past_blanks [] c.args.cursor.place c.args.cursor.rest.now) =
    subst (λ (found : Result Text Place). StopsAt c.in_err-at.field-0.0 found) (begins ∙ c.loop-c.invariant) c.in_err-at.ensures.same in
    search (rules, same)

pub loop-c-preserved-then-begins_block : goal.loop-c-preserved-then-begins_block
loop-c-preserved-then-begins_block c =
    let begins = outside_begins c.loop-c.at.place c.skip_one.result.place c.in-Some.rest.place c.in-Some.c c.loop-c.at.rest.now c.in-Some.rest.rest.now c.skip_one.result.rest.now
    c.in-Some.ensures.0 c.in-Some.ensures.1 c.skip_one.ensures.value c.if-c-eq59.false (sym c.begins_block.ensures ∙ c.if-begins_block.true) in
    sym c.in_ok-at.ensures.same ∙ begins ∙ c.loop-c.invariant

pub loop-c-preserved : goal.loop-c-preserved
loop-c-preserved c =
    outside_space c.loop-c.at.place c.in-Some.rest.place c.in-Some.c c.loop-c.at.rest.now c.in-Some.rest.rest.now
    c.in-Some.ensures.0 c.in-Some.ensures.1 c.if-c-eq59.false (sym c.begins_block.ensures ∙ c.if-begins_block.false) (sym c.is_whitespace.ensures ∙ c.if-is_whitespace.true)
    ∙ c.loop-c.invariant
