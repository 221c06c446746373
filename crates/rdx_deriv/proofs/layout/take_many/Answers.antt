use Rattle.std.proofs.Common.{◌≡◌, List, ◌∷◌, ℕ, sym, subst, ◌∙◌, ap, arith}
use Rattle.std.proofs.lemmas.Grind.{common_steps}
use Rattle.rdx_lang.specs.Ascending.{IsAscending}
use Rattle.rdx_lang.specs.Bindings.{Binding, name_cmp}
use Rattle.rdx_lang.specs.Collections.{IsRepetition}
use Rattle.rdx_lang.specs.Names.{names}
use Rattle.rdx_lang.specs.PatternView.{pattern_of}
use Rattle.rdx_lang.specs.Shown.{binding_of, bindings_of}
use Rattle.rdx_lang.proofs.CollectionLaws.{BindNames}
use Rattle.rdx_lang.proofs.NameLaws.{names-ascend}
use Rattle.rdx_deriv.specs.Inside.Layouts.{state_of}
use Rattle.rdx_deriv.proofs.Repeats.{many_none, many_one}
use Rattle.rdx_deriv.proofs.layout.take_many.Goals as goal

pub repeated-requires : goal.repeated-requires
repeated-requires c =
    subst (λ (xs : List (List ℕ)). IsAscending name_cmp xs) (sym (c.deref.ensures.value ∙ c.in_ok-names.ensures)) (names-ascend (pattern_of c.args.pat.now))

pub returns-in_default-3-clause-none : goal.returns-in_default-3-clause-none
returns-in_default-3-clause-none c =
    let p = pattern_of c.args.pat.now in
    let n = c.args.length.now in
    let x = state_of c.args.rest in
    let bs = bindings_of c.in-Some-2.turns.bindings.items in
    let e : c.args.choice.now ≡ c.in-Some.count.now ∷ c.in-Some.others.now = grind (arith, common_steps, c.in-Some.ensures.cases) in
    let ns : c.deref.result.now ≡ names p = c.deref.ensures.value ∙ c.in_ok-names.ensures in
    let ts : bindings_of c.deref-2.result.now ≡ bs = ap bindings_of c.deref-2.ensures.value in
    let taken = rw c.in-Some-2.is at c.in_ok-turns.ensures.some in
    let none = rw c.in_default-3.is at c.in_ok-binding.ensures.none in
    let there = subst (λ (xs : List (List ℕ)). BindNames xs (bindings_of c.deref-2.result.now) → (b : Binding) → IsRepetition xs (bindings_of c.deref-2.result.now) n b → ⊥) ns none in
    many_none c.args.l.now p n x c.in-Some.count.now c.in-Some.others.now c.args.choice.now bs (state_of c.in-Some-2.turns.rest) e taken
    (subst (λ (cs : List Binding). BindNames (names p) cs → (b : Binding) → IsRepetition (names p) cs n b → ⊥) ts there)

pub returns-clause-some : goal.returns-clause-some
returns-clause-some c =
    let p = pattern_of c.args.pat.now in
    let n = c.args.length.now in
    let x = state_of c.args.rest in
    let bs = bindings_of c.in-Some-2.turns.bindings.items in
    let b = binding_of c.in-Some-3.binding in
    let e : c.args.choice.now ≡ c.in-Some.count.now ∷ c.in-Some.others.now = grind (arith, common_steps, c.in-Some.ensures.cases) in
    let ns : c.deref.result.now ≡ names p = c.deref.ensures.value ∙ c.in_ok-names.ensures in
    let ts : bindings_of c.deref-2.result.now ≡ bs = ap bindings_of c.deref-2.ensures.value in
    let taken = rw c.in-Some-2.is at c.in_ok-turns.ensures.some in
    let some = rw c.in-Some-3.is at c.in_ok-binding.ensures.some in
    many_one c.args.l.now p n x c.in-Some.count.now c.in-Some.others.now c.args.choice.now c.in-Some-2.turns.bindings.items (state_of c.in-Some-2.turns.rest) b e taken
    (subst (λ (cs : List Binding). IsRepetition (names p) cs n b) ts (subst (λ (xs : List (List ℕ)). IsRepetition xs (bindings_of c.deref-2.result.now) n b) ns some))
