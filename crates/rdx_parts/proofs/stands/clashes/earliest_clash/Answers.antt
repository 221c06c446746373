use Rattle.std.proofs.Common.{◌≡◌, ◌++◌, ◌∙◌, ◌+◌, drop, Bool, List, [], ◌∷◌, sym, ap, subst}
use Rattle.std.specs.Prelude.{option_map}
use Rattle.rdx_lang.proofs.Rest.{rest_at}
use Rattle.rdx_patterns.specs.OccurrenceView.{bounds_of, occurrence_of, occurrences_of}
use Rattle.rdx_patterns.specs.PatternChecks.{Bound, when}
use Rattle.rdx_patterns.specs.Refusal.{first}
use Rattle.rdx_templates.specs.Bound.{depth_of}
use Rattle.rdx_templates.specs.Earliest.{start, lesser, earliest}
use Rattle.rdx_parts.specs.PartsHave.{BindNames}
use Rattle.rdx_parts.specs.StandChecks.{is_other, other_depths}
use Rattle.rdx_parts.specs.Stands.{bound_among}
use Rattle.rdx_parts.proofs.OtherDepths.{clash-next}
use Rattle.rdx_parts.proofs.PartsAt.{binds-at, binds-some}
use Rattle.rdx_parts.proofs.stands.clashes.earliest_clash.Goals as goal
use Rattle.rdx_parts.proofs.stands.clashes.earliest_clash.Goals.{in-Some+in_ok-entry+in_ok-push, in_default}

pub bound_name-requires-clause-depth : goal.bound_name-requires-clause-depth
bound_name-requires-clause-depth c =
    let ns = c.args.names.now in
    let h = binds-at ns occurrence_of c.args.found.now c.loop-o.o-index c.o-item.result c.loop-o-test.true c.o-item.is c.requires in
    let k = subst BindNames (sym c.bound_by.ensures) h in
    (binds-some (option_map (λ b. (b.0, b.1.now)) c.bound_by.result) (c.in-Some.depth, c.in-Some.d.now) (ap (option_map (λ b. (b.0, b.1.now))) c.in-Some.is) k).0

pub bound_name-requires-clause-name : goal.bound_name-requires-clause-name
bound_name-requires-clause-name c =
    let ns = c.args.names.now in
    let h = binds-at ns occurrence_of c.args.found.now c.loop-o.o-index c.o-item.result c.loop-o-test.true c.o-item.is c.requires in
    let k = subst BindNames (sym c.bound_by.ensures) h in
    (binds-some (option_map (λ b. (b.0, b.1.now)) c.bound_by.result) (c.in-Some.depth, c.in-Some.d.now) (ap (option_map (λ b. (b.0, b.1.now))) c.in-Some.is) k).1

pub loop-o-preserved : goal.loop-o-preserved
loop-o-preserved c =
    let ns = c.args.names.now in
    let found = c.args.found.now in
    let es = c.args.bound.now ++ c.args.behind.now in
    let hs = c.loop-o.here in
    let rest = bound_among ns (occurrences_of (drop (c.loop-o.o-index + 1) found)) in
    let r : bound_among ns (occurrences_of (drop c.loop-o.o-index found)) ≡ bounds_of (option_map (λ b. (b.0, b.1.now)) c.bound_by.result) ++ rest =
    ap (bound_among ns) (rest_at occurrence_of found c.loop-o.o-index c.o-item.result c.loop-o-test.true c.o-item.is)
    ∙ ap (λ (bs : List Bound). bs ++ rest) (sym c.bound_by.ensures) in
    elim c.match-bound_by.branch [
      | in-Some+in_ok-entry+in_ok-push w ↦
          let e = w.in_ok-entry.entry in
          let b : Bound = record { symbol = w.in-Some.d.now; depth = w.in-Some.depth } in
          let q : bound_among ns (occurrences_of (drop c.loop-o.o-index found)) ≡ b ∷ rest =
          r ∙ ap (λ o. bounds_of (option_map (λ b. (b.0, b.1.now)) o) ++ rest) w.in-Some.is in
          let p : c.match-bound_by.here ≡ hs ++ e ∷ [] = w.here-is ∙ w.in_ok-push.ensures in
          let here : option_map (λ d. d.now) w.when.result ≡ first (when (is_other e.1 (depth_of (es ++ hs) e.0)) b.symbol) =
          w.when.ensures
          ∙ ap (λ (t : Bool). first (when t b.symbol))
          (w.is_another.ensures ∙ ap (is_other e.1) (w.depth_here-first.ensures ∙ ap (depth_of (es ++ hs)) (w.text-name.ensures ∙ ap (λ f. f.0) (sym w.in_ok-entry.ensures)))) in
          (λ i. lesser start ((ap (option_map (λ d. d.now)) w.clash-is ∙ w.earlier-clash.ensures) i) (earliest start (other_depths (es ++ p i) rest)))
          ∙ sym (clash-next es hs e b rest (option_map (λ d. d.now) c.loop-o.clash) (option_map (λ d. d.now) w.when.result) w.in_ok-entry.ensures here)
          ∙ (λ i. lesser start (option_map (λ d. d.now) c.loop-o.clash) (earliest start (other_depths (es ++ hs) (sym q i))))
          ∙ c.loop-o.invariant
      | in_default w ↦
          let q : bound_among ns (occurrences_of (drop c.loop-o.o-index found)) ≡ rest =
          r ∙ ap (λ o. bounds_of (option_map (λ b. (b.0, b.1.now)) o) ++ rest) w.in_default.is in
          (λ i. lesser start (option_map (λ d. d.now) (w.clash-is i)) (earliest start (other_depths (es ++ w.here-is i) (sym q i)))) ∙ c.loop-o.invariant
    ]
