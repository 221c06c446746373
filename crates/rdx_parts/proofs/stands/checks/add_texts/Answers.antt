use Rattle.std.proofs.Common.{◌≡◌, ◌++◌, ◌∙◌, ◌+◌, drop, List, ◌∷◌, append-nil, sym, ap}
use Rattle.std.specs.List.{list_any}
use Rattle.std.specs.Prelude.{bytes_eq, option_map}
use Rattle.rdx_lang.proofs.Rest.{rest_at, rest_none}
use Rattle.rdx_patterns.specs.Inside.Repeats.{texts_in, HaveSame}
use Rattle.rdx_patterns.specs.OccurrenceView.{occurrence_of, occurrences_of, bounds_of}
use Rattle.rdx_patterns.specs.Parts.{text_of}
use Rattle.rdx_patterns.specs.PatternChecks.{Bound, all_bound}
use Rattle.rdx_patterns.specs.declared.patterns.position.Position.TheVariants.{Query}
use Rattle.rdx_patterns.proofs.Seen.{texts-inserted}
use Rattle.rdx_parts.specs.NamesAgain.{texts_bound}
use Rattle.rdx_parts.proofs.RepeatedNames.{moved-in}
use Rattle.rdx_parts.proofs.stands.checks.add_texts.Goals as goal
use Rattle.rdx_parts.proofs.stands.checks.add_texts.Goals.{in-Some+in_ok-insert, in_default}

pub loop-o-preserved : goal.loop-o-preserved
loop-o-preserved c =
    let ns = c.args.names.now in
    let found = c.args.found.now in
    let rest = occurrences_of (drop (c.loop-o.o-index + 1) found) in
    let behind = texts_bound (all_bound ns Query rest) in
    let old = texts_in c.loop-o.bound in
    let all = all_bound ns Query (occurrences_of (drop c.loop-o.o-index found)) in
    let r : all ≡ bounds_of (option_map (λ b. (b.0, b.1.now)) c.bound_by.result) ++ all_bound ns Query rest =
    ap (all_bound ns Query) (rest_at occurrence_of found c.loop-o.o-index c.o-item.result c.loop-o-test.true c.o-item.is)
    ∙ ap (λ (bs : List Bound). bs ++ all_bound ns Query rest) (sym c.bound_by.ensures) in
    elim c.match-bound_by.branch [
      | in-Some+in_ok-insert w ↦
          let d = w.in-Some.d.now in
          let h : HaveSame (texts_in w.insert.new.self) (text_of d ∷ old) =
          (λ x. texts-inserted w.text.result c.loop-o.bound w.insert.new.self w.in_ok-insert.ensures.updates x
          ∙ ap (λ y. list_any (bytes_eq x) (y ∷ old)) w.text.ensures) in
          let e = r ∙ ap (λ o. bounds_of (option_map (λ b. (b.0, b.1.now)) o) ++ all_bound ns Query rest) w.in-Some.is in
          λ x. ap (λ s. list_any (bytes_eq x) (texts_in s ++ behind)) w.bound-is
          ∙ moved-in (text_of d) old (texts_in w.insert.new.self) behind h x
          ∙ ap (λ (bs : List Bound). list_any (bytes_eq x) (old ++ texts_bound bs)) (sym e) ∙ c.loop-o.invariant x
      | in_default w ↦
          let e = r ∙ ap (λ o. bounds_of (option_map (λ b. (b.0, b.1.now)) o) ++ all_bound ns Query rest) w.in_default.is in
          λ x. ap (λ s. list_any (bytes_eq x) (texts_in s ++ behind)) w.bound-is
          ∙ ap (λ (bs : List Bound). list_any (bytes_eq x) (old ++ texts_bound bs)) (sym e) ∙ c.loop-o.invariant x
    ]

pub returns : goal.returns
returns c =
    let ns = c.args.names.now in
    let bound = texts_in c.loop-o.bound in
    λ x. ap (list_any (bytes_eq x)) (sym (append-nil bound)
    ∙ ap (λ os. bound ++ texts_bound (all_bound ns Query os)) (sym (rest_none occurrence_of c.args.found.now c.loop-o.o-index c.loop-o-test.false)))
    ∙ c.loop-o.invariant x
