use Rattle.std.proofs.Common.{arith, ◌≡◌, ◌+◌, List, ℕ, Bool, sym, subst, ◌∙◌, ap}
use Rattle.std.proofs.lemmas.Grind.{common_steps}
use Rattle.rdx_lang.proofs.LookupLaws.{alternatives_of-all}
use Rattle.rdx_lang.specs.PatternView.{language_of}
use Rattle.rdx_lang.specs.Patterns.{Language}
use Rattle.rdx_lang.specs.Ranks.{AreRanks}
use Rattle.rdx_lang.specs.WellFormed.{defined}
use Rattle.rdx_lang.specs.declared.pattern.Ref.{Ref}
use Rattle.rdx_leftrec.specs.Inside.EmptyRules.{empty_by}
use Rattle.rdx_leftrec.specs.Inside.Numbers.{height_in, number_at, scaled}
use Rattle.rdx_leftrec.specs.Inside.Preorder.{definitions_ranks}
use Rattle.rdx_leftrec.proofs.Scaling.{number-falls}
use Rattle.rdx_leftrec.proofs.Falling.{ranks-fall}
use Rattle.rdx_leftrec.proofs.ranks.ranks.Goals as goal

pub returns : goal.returns
returns c =
    let L : Language = language_of c.args.nonterminals.now.language.now in
    let E : Ref → Bool = empty_by L c.args.empty.now in
    let R : Ref → ℕ = number_at (defined L) (scaled c.in_ok-scale.scale c.args.falling.now) in
    let e : c.in_ok-scale.scale ≡ height_in L.nonterminals + 1 = grind (arith, common_steps) in
    let f : c.in_ok-of.of.items ≡ definitions_ranks E R L.nonterminals =
    c.in_ok-of.ensures ∙ ap (λ (ns : List ℕ). definitions_ranks E (number_at (defined L) ns) L.nonterminals) (c.deref.ensures.value ∙ c.in_ok-numbers.ensures) in
    subst (λ (ns : List ℕ). AreRanks L ns) (sym f)
    (ranks-fall E R L c.requires.empty (λ x p i.
    number-falls L c.requires.well_formed E c.requires.empty c.args.falling.now c.requires.falling c.in_ok-scale.scale e x p
    ((alternatives_of-all L x c.requires.well_formed.distinct p).0 i)))
