use Rattle.std.proofs.Common.{ℕ, ◌+◌, drop, map, length, refl, ap, subst, ◌∙◌}
use Rattle.std.specs.Borrow.{Bor}
use Rattle.std.specs.Prelude.{option_map}
use Rattle.rdx_term.specs.View.{tree_of}
use Rattle.rdx_lang.specs.Checked.{language_in}
use Rattle.rdx_lang.specs.ProgramView.{judgement_rule_of, program_of}
use Rattle.rdx_lang.specs.Programs.{JudgementRule}
use Rattle.rdx_lang.specs.declared.program.Program.{Program}
use Rattle.rdx_lang.proofs.Rest.{rest_at, rest_none}
use Rattle.rdx_bind.proofs.TurnRows.{item_in}
use Rattle.std.proofs.lemmas.Option.{slice_get-map, slice_get_read}
use Rattle.rdx_why.specs.Inside.Ways.{RuleHas}
use Rattle.rdx_why.proofs.EndLaws.{rule_there}
use Rattle.rdx_why.proofs.WaysLaws.{ahead_next, ahead_none, none_holds, some_holds}
use Rattle.rdx_why.proofs.judging.first_rule.Goals as goal

pub final_binding-requires-clause-left : goal.final_binding-requires-clause-left
final_binding-requires-clause-left g c =
    c.requires.left (judgement_rule_of c.index-rules-place.result)
    (item_in judgement_rule_of c.args.rules.now c.loop-place.place c.index-rules-place.result c.loop-place-test.true c.index-rules-place.is)

pub final_binding-requires-clause-ends : goal.final_binding-requires-clause-ends
final_binding-requires-clause-ends g c = ap (λ (p : Bor Program). p.now) c.loop-place.invariant.kept ∙ c.requires.ends

pub final_binding-requires-clause-rule : goal.final_binding-requires-clause-rule
final_binding-requires-clause-rule g c =
    let xs = c.args.rules.now in
    let n : ℕ = c.loop-place.place in
    let r = c.index-rules-place.result in
    rule_there (program_of c.args.program.now) c.args.j.now (language_in c.args.language.now) (map judgement_rule_of xs) n (judgement_rule_of r)
    c.requires.rules
    (slice_get-map judgement_rule_of xs n ∙ ap (option_map judgement_rule_of)
    (slice_get_read xs (length xs) n r refl c.loop-place-test.true c.index-rules-place.is))

pub loop-place-preserved : goal.loop-place-preserved
loop-place-preserved g c = record {
  none = λ x i h. (let xs = c.args.rules.now in
      let n : ℕ = c.loop-place.place in
      let r = c.index-rules-place.result in
      ahead_next x (judgement_rule_of r) (map judgement_rule_of (drop n xs)) (map judgement_rule_of (drop (n + 1) xs))
      (rest_at judgement_rule_of xs n r c.loop-place-test.true c.index-rules-place.is)
      (λ e. none_holds c.in_ok-binding.field-0 c.in_default.is c.in_ok-binding.ensures.none
      (subst (λ (z : JudgementRule). RuleHas (program_of c.args.program.now) (language_in c.args.language.now) z (tree_of c.args.a.now)
      (tree_of c.args.o.now)) e h)) (c.loop-place.invariant.none x i h));
  same = c.final_binding.ensures.same ∙ c.loop-place.invariant.same;
  kept = c.final_binding.ensures.kept ∙ c.loop-place.invariant.kept;
}

pub returns-clause-none : goal.returns-clause-none
returns-clause-none g c = λ x i h.
    ahead_none x (map judgement_rule_of (drop c.loop-place.place c.args.rules.now))
    (rest_none judgement_rule_of c.args.rules.now c.loop-place.place c.loop-place-test.false) (c.loop-place.invariant.none x i h)

pub returns-in-Some-clause-some : goal.returns-in-Some-clause-some
returns-in-Some-clause-some g c =
    let xs = c.args.rules.now in
    let n : ℕ = c.loop-place.place in
    let r = c.index-rules-place.result in (
      c.loop-place-test.true,
      record {
        rule = judgement_rule_of r;
        there = slice_get-map judgement_rule_of xs n ∙ ap (option_map judgement_rule_of)
            (slice_get_read xs (length xs) n r refl c.loop-place-test.true c.index-rules-place.is);
        makes = some_holds _ _ _ c.in-Some.is c.in_ok-binding.ensures.some;
      },
    )
