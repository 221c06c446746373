use Rattle.std.proofs.Common.{◌≡◌, ◌++◌, ◌+◌, drop, false, List, [], sym, ap, ◌∙◌, subst}
use Rattle.std.specs.Prelude.{option_map}
use Rattle.std.specs.List.{list_all}
use Rattle.rdx_lang.specs.Depths.{agree}
use Rattle.rdx_lang.specs.Met.{met, use_of, IsMet}
use Rattle.rdx_lang.proofs.Rest.{rest_at}
use Rattle.rdx_patterns.specs.OccurrenceView.{bounds_of, occurrence_of, occurrences_of}
use Rattle.rdx_patterns.specs.Parts.{text_of}
use Rattle.rdx_patterns.specs.PatternChecks.{Bound, all_bound, depth_clashes}
use Rattle.rdx_patterns.specs.Refusal.{first}
use Rattle.rdx_patterns.proofs.Clashes.{clashes_after, clashes_after-clashes, IsFirstClash, first-clash-behind}
use Rattle.rdx_patterns.proofs.patterns.checks.first_depth_clash.Goals as goal
use Rattle.rdx_patterns.proofs.patterns.checks.first_depth_clash.Goals.{in-Some+in_ok-name+in_ok-meet+else-not-branch, in_default}

pub loop-o-init : goal.loop-o-init
loop-o-init c =
    let bs = all_bound c.args.names.now c.args.position (occurrences_of c.args.found.now) in
    (ap first (sym (clashes_after-clashes [] bs) ∙ ap (λ us. clashes_after us bs) (sym c.new-depths.ensures)), c.requires)

pub loop-o-preserved : goal.loop-o-preserved
loop-o-preserved c =
    let ns = c.args.names.now in
    let pos = c.args.position in
    let found = c.args.found.now in
    let whole = first (depth_clashes ns pos (occurrences_of found)) in
    let rest = all_bound ns pos (occurrences_of (drop (c.loop-o.o-index + 1) found)) in
    let r : all_bound ns pos (occurrences_of (drop c.loop-o.o-index found)) ≡ bounds_of (option_map (λ b. (b.0, b.1.now)) c.bound_by.result) ++ rest =
    ap (all_bound ns pos) (rest_at occurrence_of found c.loop-o.o-index c.o-item.result c.loop-o-test.true c.o-item.is) ∙ ap (λ (bs : List Bound). bs ++ rest) (sym c.bound_by.ensures) in
    let h = subst (IsFirstClash whole (met c.loop-o.depths)) r c.loop-o.invariant in
    elim c.match-bound_by.branch [
      | in-Some+in_ok-name+in_ok-meet+else-not-branch w ↦
          let n = w.in-Some.depth in
          let b : Bound = record { symbol = w.in-Some.d.now; depth = n } in
          let x : w.in_ok-name.name ≡ text_of w.in-Some.d.now = w.in_ok-name.ensures in
          let f = sym (subst (λ y. w.in_ok-meet.field-0 ≡ list_all (agree (use_of y n false)) (met c.loop-o.depths)) x w.in_ok-meet.ensures.fits) ∙ w.if-not-branch.false in
          let m = subst (λ y. IsMet c.loop-o.depths w.meet.new.self (use_of y n false)) x (w.in_ok-meet.ensures.met w.if-not-branch.false) in
          subst (λ d. IsFirstClash whole (met d) rest) (sym w.depths-is)
          (first-clash-behind whole c.loop-o.depths w.meet.new.self b rest f m (subst (λ o. IsFirstClash whole (met c.loop-o.depths) (bounds_of (option_map (λ b. (b.0, b.1.now)) o) ++ rest)) w.in-Some.is h))
      | in_default w ↦ subst (λ d. IsFirstClash whole (met d) rest) (sym w.depths-is) (subst (λ o. IsFirstClash whole (met c.loop-o.depths) (bounds_of (option_map (λ b. (b.0, b.1.now)) o) ++ rest)) w.in_default.is h)
    ]
