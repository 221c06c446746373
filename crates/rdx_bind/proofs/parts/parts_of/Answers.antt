use Rattle.std.proofs.Common.{◌≡◌, ◌+◌, ◌-◌, ◌<◌, inl, inr, true, List, [], ◌++◌, length, map, refl, sym, ◌∙◌, ap, subst, arith}
use Rattle.std.proofs.lemmas.Grind.{common_steps}
use Rattle.std.proofs.lemmas.List.{length-map, nil_from_length}
use Rattle.rdx_term.specs.Tree.{Tree, Contents, list, trees}
use Rattle.rdx_term.specs.View.{tree_of}
use Rattle.rdx_lang.specs.Singles.{are_single}
use Rattle.rdx_lang.specs.PatternView.{Slot, slot_of}
use Rattle.rdx_bind.specs.Parts.{CannotFit}
use Rattle.rdx_bind.proofs.Cuts.{of_parts, too_few, too_many, no_length}
use Rattle.rdx_bind.proofs.parts.parts_of.Goals as goal

pub returns-then-terms-singles-clause-none : goal.returns-then-terms-singles-clause-none
returns-then-terms-singles-clause-none c n =
    let xs : List Slot = map slot_of c.split_at.result.0.now in
    let os : List Slot = map slot_of c.split_at.result.1.now in
    let ys : List Slot = map slot_of c.split_at-2.result.0.now in
    let zs : List Slot = map slot_of c.split_at-2.result.1.now in
    let ts : List Tree = map tree_of c.items-terms.result.now in
    let e : map slot_of c.args.items.now ≡ xs ++ os = of_parts slot_of c.before_first.result c.args.items.now c.split_at.result.0.now c.split_at.result.1.now c.split_at.ensures.front c.split_at.ensures.back in
    let f : os ≡ ys ++ zs = of_parts slot_of c.behind_last.result c.split_at.result.1.now c.split_at-2.result.0.now c.split_at-2.result.1.now c.split_at-2.ensures.front c.split_at-2.ensures.back in
    let same : tree_of c.args.t.now ≡ list c.in-List.node.value.mark (trees ts) =
    ap tree_of c.in-List.is ∙ ap (λ (us : List Tree). list c.in-List.node.value.mark (trees us)) (ap (λ (l : Contents). l.items) (sym c.deref.ensures) ∙ sym c.items-terms.ensures.value) in
    let a : are_single xs ≡ true = ap (λ l. are_single (map slot_of l)) c.split_at.ensures.front ∙ c.before_first.ensures.single in
    let b : are_single zs ≡ true = ap (λ l. are_single (map slot_of l)) c.split_at-2.ensures.back ∙ c.behind_last.ensures.single in
    let i : length xs ≡ length c.split_at.result.0.now = length-map c.split_at.result.0.now slot_of in
    let j : length zs ≡ length c.split_at-2.result.1.now = length-map c.split_at-2.result.1.now slot_of in
    let k : length ts ≡ length c.items-terms.result.now = length-map c.items-terms.result.now tree_of in
    let h : length ts < length xs + length zs = omega arith in
    subst (λ (s : List Slot). CannotFit s (tree_of c.args.t.now)) (sym (e ∙ ap (λ (s : List Slot). xs ++ s) f))
    (subst (λ (t : Tree). CannotFit (xs ++ (ys ++ zs)) t) (sym same) (too_few xs ys zs c.in-List.node.value.mark ts a b h))

pub returns-then-terms-singles-2-clause-none : goal.returns-then-terms-singles-2-clause-none
returns-then-terms-singles-2-clause-none c n =
    let xs : List Slot = map slot_of c.split_at.result.0.now in
    let os : List Slot = map slot_of c.split_at.result.1.now in
    let ys : List Slot = map slot_of c.split_at-2.result.0.now in
    let zs : List Slot = map slot_of c.split_at-2.result.1.now in
    let ts : List Tree = map tree_of c.items-terms.result.now in
    let e : map slot_of c.args.items.now ≡ xs ++ os = of_parts slot_of c.before_first.result c.args.items.now c.split_at.result.0.now c.split_at.result.1.now c.split_at.ensures.front c.split_at.ensures.back in
    let f : os ≡ ys ++ zs = of_parts slot_of c.behind_last.result c.split_at.result.1.now c.split_at-2.result.0.now c.split_at-2.result.1.now c.split_at-2.ensures.front c.split_at-2.ensures.back in
    let same : tree_of c.args.t.now ≡ list c.in-List.node.value.mark (trees ts) =
    ap tree_of c.in-List.is ∙ ap (λ (us : List Tree). list c.in-List.node.value.mark (trees us)) (ap (λ (l : Contents). l.items) (sym c.deref.ensures) ∙ sym c.items-terms.ensures.value) in
    let a : are_single xs ≡ true = ap (λ l. are_single (map slot_of l)) c.split_at.ensures.front ∙ c.before_first.ensures.single in
    let b : are_single zs ≡ true = ap (λ l. are_single (map slot_of l)) c.split_at-2.ensures.back ∙ c.behind_last.ensures.single in
    let i : length xs ≡ length c.split_at.result.0.now = length-map c.split_at.result.0.now slot_of in
    let j : length zs ≡ length c.split_at-2.result.1.now = length-map c.split_at-2.result.1.now slot_of in
    let k : length ts ≡ length c.items-terms.result.now = length-map c.items-terms.result.now tree_of in
    let h : length xs + length zs < length ts = omega arith in
    let m : length c.split_at-2.result.0.now ≡ 0 = grind (arith, common_steps) in
    let z : ys ≡ [] = ap (map slot_of) (nil_from_length c.split_at-2.result.0.now m) in
    subst (λ (s : List Slot). CannotFit s (tree_of c.args.t.now)) (sym (e ∙ ap (λ (s : List Slot). xs ++ s) f))
    (subst (λ (t : Tree). CannotFit (xs ++ (ys ++ zs)) t) (sym same) (too_many xs ys zs c.in-List.node.value.mark ts a b z h))

pub returns-clause-some : goal.returns-clause-some
returns-clause-some c =
    let xs : List Slot = map slot_of c.split_at.result.0.now in
    let os : List Slot = map slot_of c.split_at.result.1.now in
    let ys : List Slot = map slot_of c.split_at-2.result.0.now in
    let zs : List Slot = map slot_of c.split_at-2.result.1.now in
    let ts : List Tree = map tree_of c.items-terms.result.now in
    let us : List Tree = map tree_of c.split_at-3.result.0.now in
    let rest : List Tree = map tree_of c.split_at-3.result.1.now in
    let vs : List Tree = map tree_of c.split_at-4.result.0.now in
    let ws : List Tree = map tree_of c.split_at-4.result.1.now in
    let e : map slot_of c.args.items.now ≡ xs ++ os = of_parts slot_of c.before_first.result c.args.items.now c.split_at.result.0.now c.split_at.result.1.now c.split_at.ensures.front c.split_at.ensures.back in
    let f : os ≡ ys ++ zs = of_parts slot_of c.behind_last.result c.split_at.result.1.now c.split_at-2.result.0.now c.split_at-2.result.1.now c.split_at-2.ensures.front c.split_at-2.ensures.back in
    let g : ts ≡ us ++ rest = of_parts tree_of (length c.split_at.result.0.now) c.items-terms.result.now c.split_at-3.result.0.now c.split_at-3.result.1.now c.split_at-3.ensures.front c.split_at-3.ensures.back in
    let h : rest ≡ vs ++ ws = of_parts tree_of (length c.split_at-3.result.1.now - length c.split_at-2.result.1.now) c.split_at-3.result.1.now c.split_at-4.result.0.now c.split_at-4.result.1.now c.split_at-4.ensures.front c.split_at-4.ensures.back in
    let same : tree_of c.args.t.now ≡ list c.in-List.node.value.mark (trees ts) =
    ap tree_of c.in-List.is ∙ ap (λ (us : List Tree). list c.in-List.node.value.mark (trees us)) (ap (λ (l : Contents). l.items) (sym c.deref.ensures) ∙ sym c.items-terms.ensures.value) in
    let a : are_single xs ≡ true = ap (λ l. are_single (map slot_of l)) c.split_at.ensures.front ∙ c.before_first.ensures.single in
    let b : are_single zs ≡ true = ap (λ l. are_single (map slot_of l)) c.split_at-2.ensures.back ∙ c.behind_last.ensures.single in
    let i : length xs ≡ length c.split_at.result.0.now = length-map c.split_at.result.0.now slot_of in
    let j : length zs ≡ length c.split_at-2.result.1.now = length-map c.split_at-2.result.1.now slot_of in
    let p : length us ≡ length c.split_at-3.result.0.now = length-map c.split_at-3.result.0.now tree_of in
    let q : length vs ≡ length c.split_at-4.result.0.now = length-map c.split_at-4.result.0.now tree_of in
    let r : length ws ≡ length c.split_at-4.result.1.now = length-map c.split_at-4.result.1.now tree_of in
    record {
      items = e ∙ ap (λ (s : List Slot). xs ++ s) f;
      mark = c.in-List.node.value.mark;
      terms = same ∙ ap (λ (s : List Tree). list c.in-List.node.value.mark (trees s)) (g ∙ ap (λ (s : List Tree). us ++ s) h);
      first_singles = record { single = a; as_many = omega (arith, c.split_at-3.ensures.front_len) };
      last_singles = record { single = b; as_many = omega (arith, c.split_at-4.ensures.back_len, c.split_at-3.ensures.back_len) };
      no_middle = λ z. no_length vs (elim c.else-is_empty.either [
        | inl w ↦ omega (arith, c.split_at-3.ensures.front_len, c.split_at-3.ensures.back_len, c.split_at-4.ensures.front_len)
        | inr w ↦ let m : length c.split_at-2.result.0.now ≡ 0 = sym (length-map c.split_at-2.result.0.now slot_of) ∙ ap length z in absurd (grind (arith, common_steps))
      ]);
      first_place = refl;
      middle_place = sym p;
      last_place = (λ o. sym p o + sym q o);
    }
