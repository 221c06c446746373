use Rattle.std.proofs.Common.{◌≡◌, ◌∙◌, ℕ, List, Bool, true, false, Option, Some, None, refl, sym, ap, if◌then◌else◌}
use Rattle.std.specs.Bool.{then_some}
use Rattle.rdx_lang.specs.Checked.{language_in}
use Rattle.rdx_lang.specs.Programs.{language_named}
use Rattle.rdx_patterns.specs.Kinds.{is_among}
use Rattle.rdx_patterns.specs.Nonterminals.{names_of}
use Rattle.rdx_patterns.specs.Parts.{text_of}
use Rattle.rdx_patterns.specs.Refusal.{Refusal, unnamed}
use Rattle.rdx_patterns.specs.declared.shape.fault.DefKind.TheVariants.{BadPattern}
use Rattle.rdx_forms.specs.KnownView.{known_of}
use Rattle.rdx_forms.specs.Known.{or_empty}
use Rattle.rdx_forms.proofs.KeptNames.{some-at}
use Rattle.rdx_forms.proofs.closure_forms.refuse_nonterminal.Goals as goal

-- where the nonterminal is not found, the symbol is refused
unfound : (b : Bool) (y : List ℕ) (o : Option (List ℕ)) (f : Refusal) → o ≡ then_some b y → o ≡ None → Some f ≡ (if b then None else Some f)
unfound true y o f e n = absurd cc
unfound false y o f e n = refl

-- and else it is not
found : (b : Bool) (y z : List ℕ) (o : Option (List ℕ)) (f : Refusal) → o ≡ then_some b y → o ≡ Some z → None ≡ (if b then None else Some f)
found true y z o f e n = refl
found false y z o f e n = absurd cc

pub returns-in_default-2 : goal.returns-in_default-2
returns-in_default-2 c =
    let K = known_of c.args.known.now in
    let l = c.args.closure.language.now in
    let y = text_of c.args.closure.by.now in
    let w = some-at c.args.known.now.program.languages.items c.in-Some.place c.in-Some.ensures.within in
    let L = language_in w.0 in
    let k : language_named K.program (text_of l) ≡ Some L = ap (language_named K.program) (sym c.text.ensures) ∙ c.in-Some.ensures.some w.0 w.1 in
    let e : c.in_ok-nonterminal.field-0 ≡ then_some (is_among (names_of (or_empty (language_named K.program (text_of l)))) y) y =
    c.in_ok-nonterminal.ensures w.0 w.1 ∙ ap (λ x. then_some (is_among (names_of L) x) x) c.text-2.ensures ∙ ap (λ o. then_some (is_among (names_of (or_empty o)) y) y) (sym k) in
    ap Some c.unnamed-in_default-2.ensures
    ∙ unfound (is_among (names_of (or_empty (language_named K.program (text_of l)))) y) y c.in_ok-nonterminal.field-0 (unnamed BadPattern c.args.closure.by.now) e c.in_default-2.is

pub returns : goal.returns
returns c =
    let K = known_of c.args.known.now in
    let l = c.args.closure.language.now in
    let y = text_of c.args.closure.by.now in
    let w = some-at c.args.known.now.program.languages.items c.in-Some.place c.in-Some.ensures.within in
    let L = language_in w.0 in
    let k : language_named K.program (text_of l) ≡ Some L = ap (language_named K.program) (sym c.text.ensures) ∙ c.in-Some.ensures.some w.0 w.1 in
    let e : c.in_ok-nonterminal.field-0 ≡ then_some (is_among (names_of (or_empty (language_named K.program (text_of l)))) y) y =
    c.in_ok-nonterminal.ensures w.0 w.1 ∙ ap (λ x. then_some (is_among (names_of L) x) x) c.text-2.ensures ∙ ap (λ o. then_some (is_among (names_of (or_empty o)) y) y) (sym k) in
    found (is_among (names_of (or_empty (language_named K.program (text_of l)))) y) y c.in-Some-2.field-0 c.in_ok-nonterminal.field-0 (unnamed BadPattern c.args.closure.by.now) e c.in-Some-2.is
