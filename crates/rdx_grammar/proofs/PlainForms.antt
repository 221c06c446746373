-- What is written in a form defines no cross nonterminal, so those of its language are those that it needs.
use Rattle.std.proofs.Common.{◌≡◌, ℕ, false, List, [], ◌∷◌, refl, ap, ◌∙◌}
use Rattle.rdx_lang.proofs.PlainRecursion.{first_is_plain, without_has_none}
use Rattle.rdx_lang.specs.CrossLaws.{HasNoCrosses}
use Rattle.rdx_lang.specs.Crosses.{plain_definitions}
use Rattle.rdx_lang.specs.Patterns.{Language}
use Rattle.rdx_lang.specs.References.{is_among}
use Rattle.rdx_lang.specs.declared.pattern.Ref.TheVariants.{Cross}
use Rattle.rdx_grammar.specs.Extension.{added}
use Rattle.rdx_patterns.specs.Found.{heads}
use Rattle.rdx_grammar.specs.Forms.{GrammarForm}
use Rattle.rdx_grammar.specs.Languages.{definitions_of, written_over}
use Rattle.rdx_grammar.specs.Laws.{RecursionIsPlain}
use Rattle.rdx_grammar.specs.Nonterminals.{names_in, all_names}
use Rattle.rdx_patterns.proofs.Booleans.{or_neither, unless_true, not_either_way}
use Rattle.rdx_grammar.proofs.ExtendedNames.{is_among-append, heads-extended, Within-added}
use Rattle.rdx_grammar.proofs.WellFormedForms.{refs, heads-definitions_of}

-- no plain nonterminal is a cross nonterminal
no-cross-named : (xs : List (List ℕ)) (z w : List ℕ) → is_among (Cross z w) (refs xs) ≡ false
no-cross-named [] z w = refl
no-cross-named (x ∷ xs) z w = no-cross-named xs z w

-- what is written has none, over what base it may be
written-has-none : (base : Language) (g : GrammarForm) → HasNoCrosses (written_over base g)
written-has-none base g z w =
    let old = plain_definitions base.nonterminals in
    let new = definitions_of base (all_names base g.definitions) g.definitions in
    let x = Cross z w in
    let n : is_among x (heads new) ≡ false =
    ap (is_among x) (heads-definitions_of base (all_names base g.definitions) g.definitions) ∙ no-cross-named (names_in g.definitions) z w in
    let a : is_among x (heads (added old new)) ≡ false =
    unless_true (is_among x (heads (added old new))) (λ h. not_either_way (is_among x (heads new)) (Within-added old new x h) n) in
    ap (is_among x) (heads-extended old new) ∙ is_among-append x (heads old) (heads (added old new))
    ∙ or_neither (is_among x (heads old)) (is_among x (heads (added old new))) (without_has_none base z w) a

-- so the first left-recursive nonterminal of its language is none
pub recursion_is_plain : RecursionIsPlain
recursion_is_plain base g x f = first_is_plain (written_over base g) (written-has-none base g) x f
