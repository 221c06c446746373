-- The definitions of a language that are of no cross nonterminal.
use Rattle.std.proofs.Common.{◌≡◌, true, List, [], ◌∷◌}
use Rattle.std.specs.Prelude.{Bool}
use Rattle.rdx_lang.specs.Crosses.{plain_definitions}
use Rattle.rdx_lang.specs.Patterns.{Pattern, Definition}
use Rattle.rdx_lang.specs.References.{is_same, is_among, are_distinct}
use Rattle.rdx_lang.specs.WellFormed.{all_patterns, all_alternatives}
use Rattle.rdx_lang.specs.declared.pattern.Ref.TheVariants.{Nt, Cross}
use Rattle.rdx_patterns.specs.Found.{heads}
use Rattle.rdx_patterns.proofs.Booleans.{or_true, and_true, and_both, not_and_true, not_and_both, unless_true, not_either_way}
use Rattle.rdx_grammar.proofs.ExtendedNames.{Within}
use Rattle.rdx_patterns.proofs.Tests.{or_left, or_right}

-- their nonterminals are among those of all
pub Within-plain : (ds : List Definition) → Within (heads (plain_definitions ds)) (heads ds)
Within-plain [] x e = e
Within-plain ((Nt z, ps) ∷ ds) x e = or_true (is_same x (Nt z)) (is_among x (heads (plain_definitions ds))) (is_among x (Nt z ∷ heads ds) ≡ true) e
    (λ h. or_left (is_same x (Nt z)) (is_among x (heads ds)) h) (λ h. or_right (is_same x (Nt z)) (is_among x (heads ds)) (Within-plain ds x h))
Within-plain ((Cross z w, ps) ∷ ds) x e = or_right (is_same x (Cross z w)) (is_among x (heads ds)) (Within-plain ds x e)

-- they are distinct where all are
pub are_distinct-plain : (ds : List Definition) → are_distinct (heads ds) ≡ true → are_distinct (heads (plain_definitions ds)) ≡ true
are_distinct-plain [] e = e
are_distinct-plain ((Nt z, ps) ∷ ds) e =
    let k = not_and_true (is_among (Nt z) (heads ds)) (are_distinct (heads ds)) e in
    not_and_both (is_among (Nt z) (heads (plain_definitions ds))) (are_distinct (heads (plain_definitions ds)))
    (unless_true (is_among (Nt z) (heads (plain_definitions ds))) (λ h. not_either_way (is_among (Nt z) (heads ds)) (Within-plain ds (Nt z) h) k.0))
    (are_distinct-plain ds k.1)
are_distinct-plain ((Cross z w, ps) ∷ ds) e =
    are_distinct-plain ds (not_and_true (is_among (Cross z w) (heads ds)) (are_distinct (heads ds)) e).1

-- their alternatives pass what all alternatives do
pub all_alternatives-plain : (test : Pattern → Bool) (ds : List Definition) → all_alternatives test ds ≡ true
    → all_alternatives test (plain_definitions ds) ≡ true
all_alternatives-plain test [] e = e
all_alternatives-plain test ((Nt z, ps) ∷ ds) e =
    let k = and_true (all_patterns test ps) (all_alternatives test ds) e in
    and_both (all_patterns test ps) (all_alternatives test (plain_definitions ds)) k.0 (all_alternatives-plain test ds k.1)
all_alternatives-plain test ((Cross z w, ps) ∷ ds) e =
    all_alternatives-plain test ds (and_true (all_patterns test ps) (all_alternatives test ds) e).1
