use Rattle.std.proofs.Common.{◌≡◌, ◌∙◌, ◌≤◌, ℕ, true, length, map, sym, ap, subst, arith}
use Rattle.std.proofs.lemmas.List.{nil_from_length}
use Rattle.rdx_lang.specs.Checked.{language_in}
use Rattle.rdx_lang.specs.PatternView.{slot_of, items_of}
use Rattle.rdx_lang.specs.Shown.{binding_of}
use Rattle.rdx_lang.specs.WellFormed.{have_known_nonterminals, defined}
use Rattle.rdx_term.specs.Tree.{Trees}
use Rattle.rdx_term.specs.View.{trees_of}
use Rattle.rdx_term.proofs.PutItems.{trees_count-trees_of}
use Rattle.rdx_why.specs.Inside.Laying.{count_of, CanBeLaid, IsOpenedItems, trees_after}
use Rattle.rdx_deriv.specs.Inside.Layouts.{focus_of}
use Rattle.rdx_deriv.specs.Uses.{Focus}
use Rattle.rdx_why.proofs.LengthsAhead.{LengthsAhead, lengths_first, lengths_at, lengths_more, lengths_end}
use Rattle.rdx_why.proofs.lists.list_lengths.Goals as goal

pub loop-item-init : goal.loop-item-init
loop-item-init g c =
    let L = language_in c.args.language.now in
    let b = binding_of c.args.c.now in
    let f = focus_of c.args.focus in
    let rs = map slot_of c.args.opened.now in
    let ts = trees_of c.args.terms.now in
    subst (λ ks. LengthsAhead L c.args.l.now b f (items_of rs) ts f rs c.deref-known.result.now ts ks) (sym c.new-lengths.ensures.items)
    (lengths_first L c.args.l.now b f rs c.deref-known.result.now ts c.requires.opens c.requires.known
    (c.deref-known.ensures.value ∙ c.in_ok-counts.ensures) c.requires.laid)

pub unreachable-requires : goal.unreachable-requires
unreachable-requires g c =
    let e = c.loop-item.invariant.counted ∙ ap (λ xs. map (count_of (binding_of c.args.c.now)) (map slot_of xs)) c.in-Some.ensures.cases.0 in
    let n = ap length e in
    let z = c.in_default-split_first.ensures.cases in
    omega arith

pub item_count-requires : goal.item_count-requires
item_count-requires g c =
    let b = binding_of c.args.c.now in
    let cases = c.in-Some.ensures.cases.0 in
    let i = c.loop-item.invariant in
    let e = sym c.in-Some-split_first.ensures.cases.0 ∙ i.counted ∙ ap (λ xs. map (count_of b) (map slot_of xs)) cases in
    record {
      count = (let h = e in cc);
      counts = (let h = e in cc);
      known = subst (λ xs. have_known_nonterminals (defined (language_in c.args.language.now)) (items_of (map slot_of xs)) ≡ true) cases i.known;
      opens = subst (λ xs. IsOpenedItems (items_of (map slot_of xs))) cases i.opened;
      ascending = i.ascending;
      laid = subst (λ xs. CanBeLaid (language_in c.args.language.now) c.args.l.now b (focus_of c.loop-item.split) (items_of (map slot_of xs))
          (trees_of c.loop-item.left.now)) cases i.laid;
    }

pub loop-item-smaller : goal.loop-item-smaller
loop-item-smaller g c = let n = ap length c.in-Some.ensures.cases.0 in omega arith

pub loop-item-preserved : goal.loop-item-preserved
loop-item-preserved g c =
    let L = language_in c.args.language.now in
    let b = binding_of c.args.c.now in
    let f = focus_of c.args.focus in
    let os = items_of (map slot_of c.args.opened.now) in
    let us = trees_of c.args.terms.now in
    let k = c.in_ok-count.count in
    let rs = map slot_of c.in-Some.others.now in
    let counts = c.in-Some-split_first.behind_first.now in
    let done = c.push_length.new.lengths.items in
    let h =
    lengths_more (slot_of c.in-Some.item.now) rs (lengths_at (ap (map slot_of) c.in-Some.ensures.cases.0) c.loop-item.invariant)
    c.in-Some-split_first.ensures.cases.0 c.in_ok-count.ensures c.in_ok-push_length.ensures in
    subst (λ (ts : Trees). LengthsAhead L c.args.l.now b f os us (focus_of c.behind-split.result) rs counts ts done)
    (sym c.terms_behind-left.ensures)
    (subst (λ (d : Focus). LengthsAhead L c.args.l.now b f os us d rs counts (trees_after k (trees_of c.loop-item.left.now)) done)
    (sym c.behind-split.ensures) h)

pub returns : goal.returns
returns g c =
    lengths_end (lengths_at (ap (map slot_of) (nil_from_length c.loop-item.items.now c.in_default.ensures.cases)) c.loop-item.invariant)

pub terms_behind-left-requires : goal.terms_behind-left-requires
terms_behind-left-requires g c =
    subst (λ (n : ℕ). c.in_ok-count.count ≤ n) (trees_count-trees_of c.loop-item.left.now) c.in_ok-count.ensures.room
