use Rattle.std.proofs.Common.{◌≡◌, ◌∙◌, ◌++◌, [], sym, ap}
use Rattle.rdx_patterns.specs.OccurrenceView.{occurrences_of}
use Rattle.rdx_patterns.specs.Occurrences.{occurrences}
use Rattle.rdx_patterns.specs.PatternChecks.{bad_binders}
use Rattle.rdx_forms.proofs.GenerateChecks.{found-bind, none-found}
use Rattle.rdx_forms.proofs.generate_forms.bound_names.Goals as goal

pub add_bound-requires : goal.add_bound-requires
add_bound-requires c =
    let e : occurrences_of c.deref-then-is_none.result.now ≡ occurrences 0 c.args.d.now =
    ap occurrences_of c.deref-then-is_none.ensures.value
    ∙ c.in_ok-add_pattern.ensures
    ∙ ap (λ xs. occurrences_of xs ++ occurrences 0 c.args.d.now) c.new-found.ensures.items
    in
    let f : bad_binders (occurrences_of c.deref-then-is_none.result.now) ≡ [] =
    ap (λ xs. bad_binders (occurrences_of xs)) (c.deref-then-is_none.ensures.value ∙ sym c.deref.ensures.value)
    ∙ none-found (λ d. d.now) c.first_bad_binder.result (bad_binders (occurrences_of c.deref.result.now)) c.if-is_none.ensures c.first_bad_binder.ensures
    in
    found-bind c.args.names.now c.args.d.now (occurrences_of c.deref-then-is_none.result.now) c.requires e f
