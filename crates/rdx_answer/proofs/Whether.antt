-- Whether a pattern matches a term, where it is asked for as a closed one.
use Rattle.std.proofs.Common.{◌≡◌, Bool, true, false, List, [], ◌∷◌, refl, ◌∙◌}
use Rattle.std.proofs.Math.Bool.{beq}
use Rattle.rdx_term.specs.Tree.{Tree}
use Rattle.rdx_lang.proofs.RuleSteps.{closed_inside}
use Rattle.rdx_lang.specs.Bindings.{Binding, no_names, visible}
use Rattle.rdx_lang.specs.Edges.{IsFree}
use Rattle.rdx_lang.specs.Laws.{SomeListing}
use Rattle.rdx_lang.specs.Listing.{Matches}
use Rattle.rdx_lang.specs.Members.{In, here}
use Rattle.rdx_lang.specs.Patterns.{Pattern, Language, closed}
use Rattle.rdx_lang.specs.Rules.{match_closed}
use Rattle.rdx_eval.specs.Judgements.{are_some}
use Rattle.rdx_answer.specs.Inside.Whether.{TellsWhether}
use Rattle.rdx_answer.specs.Tests.{as_wanted}

-- a list without members has none
none_in : (b : Binding) → In b [] → ⊥
none_in b i = elim i [ ]

-- a closed pattern matches the terms that its part matches
some_as_closed : (L : Language) (p : Pattern) (t : Tree) (bs cs : List Binding) → Matches L p t bs → Matches L (closed p) t cs → are_some cs ≡ are_some bs
some_as_closed L p t [] [] m n = refl
some_as_closed L p t (b ∷ bs) (c ∷ cs) m n = refl
some_as_closed L p t (b ∷ bs) [] m n =
    let s = m.sound b (here refl) in
    absurd (none_in no_names (n.complete no_names (record { whole = no_names; holds = match_closed s.holds; seen = refl })))
some_as_closed L p t [] (c ∷ cs) m n =
    let s = (closed_inside (n.sound c (here refl)).holds).0 in
    absurd (none_in (visible s.binding) (m.complete (visible s.binding) (record { whole = s.binding; holds = s.matched; seen = refl })))

-- so what tells whether it does tells it of the part
pub whether_closed : SomeListing → (L : Language) (p : Pattern) (t : Tree) (b : Bool) → IsFree L → TellsWhether L (closed p) t b → TellsWhether L p t b
whether_closed some L p t b free h =
    let l = some L free p t in
    record { found = l.found; listing = l.listing; told = h.told ∙ some_as_closed L p t l.found h.found l.listing h.listing }

-- it is as it was wanted where it is the same as what was wanted
pub wanted_same : (b wanted : Bool) → beq b wanted ≡ as_wanted wanted b
wanted_same true true = refl
wanted_same true false = refl
wanted_same false true = refl
wanted_same false false = refl
