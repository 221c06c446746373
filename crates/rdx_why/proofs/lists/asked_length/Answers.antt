use Rattle.std.proofs.Common.{◌≡◌, ◌∙◌, ℕ, false, List, map, refl, sym, subst, arith}
use Rattle.std.specs.List.{list_any}
use Rattle.std.specs.Prelude.{bytes_eq}
use Rattle.rdx_lang.specs.Ascending.{IsAscending}
use Rattle.rdx_lang.specs.Bindings.{name_cmp}
use Rattle.rdx_lang.specs.Checked.{language_in}
use Rattle.rdx_lang.specs.PatternView.{pattern_of, slot_of}
use Rattle.rdx_lang.specs.Shown.{binding_of}
use Rattle.rdx_lang.proofs.NameLaws.{names-ascend}
use Rattle.rdx_term.specs.Building.{mark_for}
use Rattle.rdx_term.specs.View.{built_list, trees_of}
use Rattle.rdx_why.proofs.AskedLengths.{IsQuestion, is_question, found_taken, sought_there}
use Rattle.rdx_why.proofs.lists.asked_length.Goals as goal

pub restricted-requires : goal.restricted-requires
restricted-requires g c =
    subst (λ (xs : List (List ℕ)). IsAscending name_cmp xs) (sym (c.deref.ensures.value ∙ c.in_ok-names.ensures))
    (names-ascend (pattern_of c.in_ok-repetition_and.field-0))

pub other_name-requires : goal.other_name-requires
other_name-requires g c = let h = c.deref-2.type_inv.0 in omega arith

pub length_found-requires-clause-ascending : goal.length_found-requires-clause-ascending
length_found-requires-clause-ascending g c =
    subst (λ (xs : List (List ℕ)). IsAscending name_cmp xs) (sym (c.deref-3.ensures.value ∙ c.in_ok-names.ensures))
    (names-ascend (pattern_of c.in_ok-repetition_and.field-0))

pub length_found-requires-clause-there : goal.length_found-requires-clause-there
length_found-requires-clause-there g c =
    let y = c.in_ok-length.length in
    let i : IsQuestion (language_in c.args.language.now) (binding_of c.args.c.now) (pattern_of c.args.q.now) (map slot_of c.args.others.now)
    (trees_of c.args.terms.now) c.deref-3.result.now (binding_of c.in_ok-wanted.wanted) y (pattern_of c.in_ok-named.named)
    (built_list c.args.terms.now) =
    is_question (mark_for (trees_of c.args.terms.now)) (c.deref-3.ensures.value ∙ c.in_ok-names.ensures) c.in_ok-repetition_and.ensures
    c.in_ok-wanted.ensures (c.deref.ensures.value ∙ sym c.deref-3.ensures.value) refl c.in_ok-named.ensures c.in_ok-share.ensures refl in
    let d =
    sought_there i c.args.l.now c.requires.ascending c.requires.opens c.requires.known c.requires.nameless
    (subst (λ (xs : List (List ℕ)). list_any (bytes_eq y) xs ≡ false) (c.deref-2.ensures.value ∙ sym c.deref-3.ensures.value) c.in_ok-length.ensures)
    c.requires.laid in
    (d.0, d.2)

pub unreachable-requires : goal.unreachable-requires
unreachable-requires g c =
    let y = c.in_ok-length.length in
    let i : IsQuestion (language_in c.args.language.now) (binding_of c.args.c.now) (pattern_of c.args.q.now) (map slot_of c.args.others.now)
    (trees_of c.args.terms.now) c.deref-3.result.now (binding_of c.in_ok-wanted.wanted) y (pattern_of c.in_ok-named.named)
    (built_list c.args.terms.now) =
    is_question (mark_for (trees_of c.args.terms.now)) (c.deref-3.ensures.value ∙ c.in_ok-names.ensures) c.in_ok-repetition_and.ensures
    c.in_ok-wanted.ensures (c.deref.ensures.value ∙ sym c.deref-3.ensures.value) refl c.in_ok-named.ensures c.in_ok-share.ensures refl in
    let d =
    sought_there i c.args.l.now c.requires.ascending c.requires.opens c.requires.known c.requires.nameless
    (subst (λ (xs : List (List ℕ)). list_any (bytes_eq y) xs ≡ false) (c.deref-2.ensures.value ∙ sym c.deref-3.ensures.value) c.in_ok-length.ensures)
    c.requires.laid in
    let none = rw c.in-None.is at c.in_ok-count.ensures.none in
    none d.0 d.1 d.2 d.3

pub returns : goal.returns
returns g c =
    let i : IsQuestion (language_in c.args.language.now) (binding_of c.args.c.now) (pattern_of c.args.q.now) (map slot_of c.args.others.now)
    (trees_of c.args.terms.now) c.deref-3.result.now (binding_of c.in_ok-wanted.wanted) c.in_ok-length.length (pattern_of c.in_ok-named.named)
    (built_list c.args.terms.now) =
    is_question (mark_for (trees_of c.args.terms.now)) (c.deref-3.ensures.value ∙ c.in_ok-names.ensures) c.in_ok-repetition_and.ensures
    c.in_ok-wanted.ensures (c.deref.ensures.value ∙ sym c.deref-3.ensures.value) refl c.in_ok-named.ensures c.in_ok-share.ensures refl in
    found_taken i c.args.l.now c.requires.ascending c.requires.opens c.requires.known c.in-Some.count (rw c.in-Some.is at c.in_ok-count.ensures.some)
