use Rattle.std.proofs.Common.{◌≡◌, ◌∙◌, ◌∷◌, Some, length, map, sym, ap, subst}
use Rattle.std.proofs.lemmas.Result.{IfOk-weaker}
use Rattle.rdx_lang.specs.Checked.{language_in}
use Rattle.rdx_lang.specs.PatternView.{Slot, pattern_of, slot_of, items_of}
use Rattle.rdx_lang.specs.Shown.{binding_of}
use Rattle.rdx_lang.proofs.PatternEquations.{slot_one, slot_many}
use Rattle.rdx_term.specs.Items.{trees_count}
use Rattle.rdx_term.specs.View.{trees_of}
use Rattle.rdx_term.proofs.PutItems.{trees_count-trees_of}
use Rattle.rdx_why.specs.Inside.Laying.{count_of, left_over, CanBeLaid, CanTake, IsOpenedItems}
use Rattle.rdx_deriv.specs.Inside.Layouts.{focus_of}
use Rattle.rdx_why.proofs.TakenLengths.{takes_known, takes_left, unknown_item}
use Rattle.rdx_why.proofs.lists.item_count.Goals as goal

pub asked_length-requires-clause-nameless : goal.asked_length-requires-clause-nameless
asked_length-requires-clause-nameless g c =
    (unknown_item (language_in c.args.language.now) c.args.l.now (binding_of c.args.c.now) c.requires.ascending (focus_of c.args.focus)
    (slot_of c.args.item.now) (pattern_of c.in-Many.q) c.in-Many.field-1 (map slot_of c.args.others.now) (trees_of c.args.terms.now)
    (ap slot_of c.in-Many.is ∙ slot_many c.in-Many.q c.in-Many.field-1) c.requires.laid (sym c.requires.count ∙ c.in-None.is)).0

pub asked_length-requires-clause-opens : goal.asked_length-requires-clause-opens
asked_length-requires-clause-opens g c =
    let rs = map slot_of c.args.others.now in
    let u =
    unknown_item (language_in c.args.language.now) c.args.l.now (binding_of c.args.c.now) c.requires.ascending (focus_of c.args.focus)
    (slot_of c.args.item.now) (pattern_of c.in-Many.q) c.in-Many.field-1 rs (trees_of c.args.terms.now)
    (ap slot_of c.in-Many.is ∙ slot_many c.in-Many.q c.in-Many.field-1) c.requires.laid (sym c.requires.count ∙ c.in-None.is) in
    subst (λ (s : Slot). IsOpenedItems (items_of (s ∷ rs))) u.1 c.requires.opens

pub asked_length-requires-clause-laid : goal.asked_length-requires-clause-laid
asked_length-requires-clause-laid g c =
    let L = language_in c.args.language.now in
    let b = binding_of c.args.c.now in
    let rs = map slot_of c.args.others.now in
    let ts = trees_of c.args.terms.now in
    let f = focus_of c.args.focus in
    let u =
    unknown_item L c.args.l.now b c.requires.ascending f (slot_of c.args.item.now) (pattern_of c.in-Many.q) c.in-Many.field-1 rs ts
    (ap slot_of c.in-Many.is ∙ slot_many c.in-Many.q c.in-Many.field-1) c.requires.laid (sym c.requires.count ∙ c.in-None.is) in
    subst (λ (s : Slot). CanBeLaid L c.args.l.now b f (items_of (s ∷ rs)) ts) u.1 c.requires.laid

pub returns-in-One : goal.returns-in-One
returns-in-One g c =
    takes_known (language_in c.args.language.now) c.args.l.now (binding_of c.args.c.now) c.requires.ascending (focus_of c.args.focus)
    (slot_of c.args.item.now) (map slot_of c.args.others.now) (trees_of c.args.terms.now) 1 c.requires.opens c.requires.laid
    (ap (count_of (binding_of c.args.c.now)) (ap slot_of c.in-One.is ∙ slot_one c.in-One.field-0))

pub returns-in-Some : goal.returns-in-Some
returns-in-Some g c =
    takes_known (language_in c.args.language.now) c.args.l.now (binding_of c.args.c.now) c.requires.ascending (focus_of c.args.focus)
    (slot_of c.args.item.now) (map slot_of c.args.others.now) (trees_of c.args.terms.now) c.in-Some.count c.requires.opens c.requires.laid
    (sym c.requires.count ∙ c.in-Some.is)

pub returns-in-Some-left_over : goal.returns-in-Some-left_over
returns-in-Some-left_over g c =
    let b = binding_of c.args.c.now in
    let rs = map slot_of c.args.others.now in
    let ts = trees_of c.args.terms.now in
    let k = c.in-Some-left_over.count in
    let left : left_over (map (count_of b) rs) (trees_count ts) ≡ Some k =
    ap (λ i. left_over (map (count_of b) rs) i) (trees_count-trees_of c.args.terms.now)
    ∙ ap (λ ks. left_over ks (length c.args.terms.now)) (sym c.requires.counts) ∙ sym c.left_over.ensures ∙ c.in-Some-left_over.is in
    takes_left (language_in c.args.language.now) c.args.l.now b c.requires.ascending (focus_of c.args.focus) (slot_of c.args.item.now)
    (pattern_of c.in-Many.q) c.in-Many.field-1 rs ts k (ap slot_of c.in-Many.is ∙ slot_many c.in-Many.q c.in-Many.field-1) c.requires.opens
    c.requires.laid left

pub returns-in-None-left_over : goal.returns-in-None-left_over
returns-in-None-left_over g c =
    let L = language_in c.args.language.now in
    let b = binding_of c.args.c.now in
    let rs = map slot_of c.args.others.now in
    let ts = trees_of c.args.terms.now in
    let f = focus_of c.args.focus in
    let u =
    unknown_item L c.args.l.now b c.requires.ascending f (slot_of c.args.item.now) (pattern_of c.in-Many.q) c.in-Many.field-1 rs ts
    (ap slot_of c.in-Many.is ∙ slot_many c.in-Many.q c.in-Many.field-1) c.requires.laid (sym c.requires.count ∙ c.in-None.is) in
    IfOk-weaker c.asked_length.result _ _ (λ k t. subst (λ (s : Slot). CanTake L c.args.l.now b f s rs ts k) (sym u.1) t) c.asked_length.ensures
