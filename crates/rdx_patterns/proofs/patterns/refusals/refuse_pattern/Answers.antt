use Rattle.std.proofs.Common.{◌≡◌, ◌++◌, List, None, sym, ap, ◌∙◌, subst}
use Rattle.std.specs.Prelude.{option_map}
use Rattle.rdx_patterns.specs.AreNames.{AreNames}
use Rattle.rdx_patterns.specs.BoundNames.{bound_names}
use Rattle.rdx_patterns.specs.OccurrenceView.{occurrences_of}
use Rattle.rdx_patterns.specs.Occurrences.{Occurrence, occurrences}
use Rattle.rdx_patterns.specs.PatternChecks.{bad_binders, all_bound}
use Rattle.rdx_patterns.specs.Refusal.{first}
use Rattle.rdx_patterns.specs.declared.patterns.position.Position.TheVariants.{Query}
use Rattle.rdx_patterns.proofs.Firsts.{none-empty}
use Rattle.rdx_patterns.proofs.PassedPatterns.{pattern-written, bound-are-names, AreNames-bound}
use Rattle.rdx_patterns.proofs.patterns.refusals.refuse_pattern.Goals as goal

pub first_depth_clash-requires : goal.first_depth_clash-requires
first_depth_clash-requires c =
    let ns = c.args.names.now in
    let os = occurrences 0 c.args.d.now in
    let q : occurrences_of c.add_pattern.new.out.items ≡ os = c.in_ok-add_pattern.ensures ∙ ap (λ xs. occurrences_of xs ++ os) c.new-found.ensures.items in
    let o : occurrences_of c.deref-4.result.now ≡ os = cc in
    let b : occurrences_of c.deref-2.result.now ≡ os = cc in
    let e : first (bad_binders os) ≡ None =
    ap (λ (qs : List Occurrence). first (bad_binders qs)) (sym b) ∙ sym c.first_bad_binder.ensures ∙ ap (option_map (λ d. d.now)) c.in_default-first_bad_binder.is in
    let w = pattern-written c.args.d.now c.requires.nested c.requires.spelled in
    subst (λ (qs : List Occurrence). AreNames (bound_names (all_bound ns Query qs))) (sym o)
    (AreNames-bound 4294967296 (all_bound ns Query os) (bound-are-names ns Query 4294967296 os w (none-empty (bad_binders os) e)))
