use Rattle.std.proofs.Common.{◌≡◌, ◌+◌, ◌-◌, ◌<◌, inl, inr, true, ℕ, List, [], ◌++◌, length, refl, sym, ◌∙◌, ap, subst, arith}
use Rattle.std.proofs.lemmas.Grind.{common_steps}
use Rattle.std.proofs.lemmas.List.{length-map, nil_from_length}
use Rattle.rdx_term.specs.Tree.{Tree, list, trees}
use Rattle.rdx_term.specs.View.{tree_of}
use Rattle.rdx_lang.specs.Singles.{are_single}
use Rattle.rdx_lang.specs.Patterns.{Pattern}
use Rattle.rdx_lang.specs.PatternView.{Slot}
use Rattle.rdx_bind.specs.Parts.{CannotFit}
use Rattle.rdx_bind.proofs.Cuts.{of_parts, too_few, too_many, no_length}
use Rattle.rdx_store.specs.Stored.{tree_by_id, trees_by_ids, AreIds}
use Rattle.rdx_nodes.specs.Nodes.{slot_at, slots_at, AreEntries}
use Rattle.rdx_nodes.specs.Settings.{patterns_at_hand, trees_at_hand}
use Rattle.rdx_nodes.specs.declared.node.Entry.{Entry}
use Rattle.rdx_table.proofs.Entries.{ones_single, first_entries, other_entries, first_ids, other_ids, list_of_items}
use Rattle.rdx_table.specs.Inside.Cuts.{are_ones}
use Rattle.rdx_table.proofs.cut.parts_of.Goals as goal

pub returns-then-ids-singles-clause-none : goal.returns-then-ids-singles-clause-none
returns-then-ids-singles-clause-none c n =
    let ps : List Pattern = patterns_at_hand c.args.setting.now in
    let us : List Tree = trees_at_hand c.args.setting.now in
    let t : Tree = tree_by_id us c.args.id in
    let xs : List Slot = slots_at ps c.split_at.result.0.now in
    let os : List Slot = slots_at ps c.split_at.result.1.now in
    let ys : List Slot = slots_at ps c.split_at-2.result.0.now in
    let zs : List Slot = slots_at ps c.split_at-2.result.1.now in
    let ts : List Tree = trees_by_ids us c.items-ids.result.now in
    let e : slots_at ps c.args.entries.now ≡ xs ++ os = of_parts (slot_at ps) c.before_first.result c.args.entries.now c.split_at.result.0.now
    c.split_at.result.1.now c.split_at.ensures.front c.split_at.ensures.back in
    let f : os ≡ ys ++ zs = of_parts (slot_at ps) c.behind_last.result c.split_at.result.1.now c.split_at-2.result.0.now c.split_at-2.result.1.now
    c.split_at-2.ensures.front c.split_at-2.ensures.back in
    let same : t ≡ list c.in-List.field-0.value.mark (trees ts) =
    list_of_items t c.in-List.field-0.value.mark _ (trees ts) (sym c.term.ensures ∙ ap tree_of c.in-List.is) c.items-ids.ensures.items in
    let a : are_single xs ≡ true = ones_single ps c.split_at.result.0.now (ap are_ones c.split_at.ensures.front ∙ c.before_first.ensures.single) in
    let b : are_single zs ≡ true = ones_single ps c.split_at-2.result.1.now (ap are_ones c.split_at-2.ensures.back ∙ c.behind_last.ensures.single) in
    let i : length xs ≡ length c.split_at.result.0.now = length-map c.split_at.result.0.now (slot_at ps) in
    let j : length zs ≡ length c.split_at-2.result.1.now = length-map c.split_at-2.result.1.now (slot_at ps) in
    let k : length ts ≡ length c.items-ids.result.now = length-map c.items-ids.result.now (tree_by_id us) in
    let h : length ts < length xs + length zs = omega arith in
    subst (λ (s : List Slot). CannotFit s t) (sym (e ∙ ap (λ (s : List Slot). xs ++ s) f))
    (subst (λ (u : Tree). CannotFit (xs ++ (ys ++ zs)) u) (sym same) (too_few xs ys zs c.in-List.field-0.value.mark ts a b h))

pub returns-then-ids-singles-2-clause-none : goal.returns-then-ids-singles-2-clause-none
returns-then-ids-singles-2-clause-none c n =
    let ps : List Pattern = patterns_at_hand c.args.setting.now in
    let us : List Tree = trees_at_hand c.args.setting.now in
    let t : Tree = tree_by_id us c.args.id in
    let xs : List Slot = slots_at ps c.split_at.result.0.now in
    let os : List Slot = slots_at ps c.split_at.result.1.now in
    let ys : List Slot = slots_at ps c.split_at-2.result.0.now in
    let zs : List Slot = slots_at ps c.split_at-2.result.1.now in
    let ts : List Tree = trees_by_ids us c.items-ids.result.now in
    let e : slots_at ps c.args.entries.now ≡ xs ++ os = of_parts (slot_at ps) c.before_first.result c.args.entries.now c.split_at.result.0.now
    c.split_at.result.1.now c.split_at.ensures.front c.split_at.ensures.back in
    let f : os ≡ ys ++ zs = of_parts (slot_at ps) c.behind_last.result c.split_at.result.1.now c.split_at-2.result.0.now c.split_at-2.result.1.now
    c.split_at-2.ensures.front c.split_at-2.ensures.back in
    let same : t ≡ list c.in-List.field-0.value.mark (trees ts) =
    list_of_items t c.in-List.field-0.value.mark _ (trees ts) (sym c.term.ensures ∙ ap tree_of c.in-List.is) c.items-ids.ensures.items in
    let a : are_single xs ≡ true = ones_single ps c.split_at.result.0.now (ap are_ones c.split_at.ensures.front ∙ c.before_first.ensures.single) in
    let b : are_single zs ≡ true = ones_single ps c.split_at-2.result.1.now (ap are_ones c.split_at-2.ensures.back ∙ c.behind_last.ensures.single) in
    let i : length xs ≡ length c.split_at.result.0.now = length-map c.split_at.result.0.now (slot_at ps) in
    let j : length zs ≡ length c.split_at-2.result.1.now = length-map c.split_at-2.result.1.now (slot_at ps) in
    let k : length ts ≡ length c.items-ids.result.now = length-map c.items-ids.result.now (tree_by_id us) in
    let h : length xs + length zs < length ts = omega arith in
    let m : length c.split_at-2.result.0.now ≡ 0 = grind (arith, common_steps) in
    let z : ys ≡ [] = ap (slots_at ps) (nil_from_length c.split_at-2.result.0.now m) in
    subst (λ (s : List Slot). CannotFit s t) (sym (e ∙ ap (λ (s : List Slot). xs ++ s) f))
    (subst (λ (u : Tree). CannotFit (xs ++ (ys ++ zs)) u) (sym same) (too_many xs ys zs c.in-List.field-0.value.mark ts a b z h))

pub returns-clause-some : goal.returns-clause-some
returns-clause-some c =
    let ps : List Pattern = patterns_at_hand c.args.setting.now in
    let qs : List Tree = trees_at_hand c.args.setting.now in
    let t : Tree = tree_by_id qs c.args.id in
    let xs : List Slot = slots_at ps c.split_at.result.0.now in
    let os : List Slot = slots_at ps c.split_at.result.1.now in
    let ys : List Slot = slots_at ps c.split_at-2.result.0.now in
    let zs : List Slot = slots_at ps c.split_at-2.result.1.now in
    let ts : List Tree = trees_by_ids qs c.items-ids.result.now in
    let us : List Tree = trees_by_ids qs c.split_at-3.result.0.now in
    let rest : List Tree = trees_by_ids qs c.split_at-3.result.1.now in
    let vs : List Tree = trees_by_ids qs c.split_at-4.result.0.now in
    let ws : List Tree = trees_by_ids qs c.split_at-4.result.1.now in
    let e : slots_at ps c.args.entries.now ≡ xs ++ os = of_parts (slot_at ps) c.before_first.result c.args.entries.now c.split_at.result.0.now
    c.split_at.result.1.now c.split_at.ensures.front c.split_at.ensures.back in
    let f : os ≡ ys ++ zs = of_parts (slot_at ps) c.behind_last.result c.split_at.result.1.now c.split_at-2.result.0.now c.split_at-2.result.1.now
    c.split_at-2.ensures.front c.split_at-2.ensures.back in
    let g : ts ≡ us ++ rest = of_parts (tree_by_id qs) (length c.split_at.result.0.now) c.items-ids.result.now c.split_at-3.result.0.now
    c.split_at-3.result.1.now c.split_at-3.ensures.front c.split_at-3.ensures.back in
    let h : rest ≡ vs ++ ws = of_parts (tree_by_id qs) (length c.split_at-3.result.1.now - length c.split_at-2.result.1.now)
    c.split_at-3.result.1.now c.split_at-4.result.0.now c.split_at-4.result.1.now c.split_at-4.ensures.front c.split_at-4.ensures.back in
    let same : t ≡ list c.in-List.field-0.value.mark (trees ts) =
    list_of_items t c.in-List.field-0.value.mark _ (trees ts) (sym c.term.ensures ∙ ap tree_of c.in-List.is) c.items-ids.ensures.items in
    let a : are_single xs ≡ true = ones_single ps c.split_at.result.0.now (ap are_ones c.split_at.ensures.front ∙ c.before_first.ensures.single) in
    let b : are_single zs ≡ true = ones_single ps c.split_at-2.result.1.now (ap are_ones c.split_at-2.ensures.back ∙ c.behind_last.ensures.single) in
    let i : length xs ≡ length c.split_at.result.0.now = length-map c.split_at.result.0.now (slot_at ps) in
    let j : length zs ≡ length c.split_at-2.result.1.now = length-map c.split_at-2.result.1.now (slot_at ps) in
    let p : length us ≡ length c.split_at-3.result.0.now = length-map c.split_at-3.result.0.now (tree_by_id qs) in
    let q : length vs ≡ length c.split_at-4.result.0.now = length-map c.split_at-4.result.0.now (tree_by_id qs) in
    let r : length ws ≡ length c.split_at-4.result.1.now = length-map c.split_at-4.result.1.now (tree_by_id qs) in
    record {
      items = e ∙ ap (λ (s : List Slot). xs ++ s) f;
      mark = c.in-List.field-0.value.mark;
      terms = same ∙ ap (λ (s : List Tree). list c.in-List.field-0.value.mark (trees s)) (g ∙ ap (λ (s : List Tree). us ++ s) h);
      first_singles = record { single = a; as_many = omega (arith, c.split_at-3.ensures.front_len) };
      last_singles = record { single = b; as_many = omega (arith, c.split_at-4.ensures.back_len, c.split_at-3.ensures.back_len) };
      no_middle = λ z. no_length vs (elim c.else-is_empty.either [
        | inl w ↦ omega (arith, c.split_at-3.ensures.front_len, c.split_at-3.ensures.back_len, c.split_at-4.ensures.front_len)
        | inr w ↦ let m : length c.split_at-2.result.0.now ≡ 0 = sym (length-map c.split_at-2.result.0.now (slot_at ps))
            ∙ ap length z in absurd (grind (arith, common_steps))
      ]);
      first_place = refl;
      middle_place = sym p;
      last_place = (λ o. sym p o + sym q o);
    }

pub returns-clause-before : goal.returns-clause-before
returns-clause-before c =
    let ps : List Pattern = patterns_at_hand c.args.setting.now in
    let n : ℕ = length (trees_at_hand c.args.setting.now) in
    record {
      entries = subst (λ (es : List Entry). AreEntries ps (length ps) es) (sym c.split_at.ensures.front)
          (first_entries ps (length ps) c.before_first.result c.args.entries.now c.requires.entries);
      ids = subst (λ (is : List ℕ). AreIds is n) (sym c.split_at-3.ensures.front)
          (first_ids n (length c.split_at.result.0.now) c.items-ids.result.now c.items-ids.ensures.ids);
    }

pub returns-clause-middle : goal.returns-clause-middle
returns-clause-middle c =
    let ps : List Pattern = patterns_at_hand c.args.setting.now in
    let n : ℕ = length (trees_at_hand c.args.setting.now) in
    let k : ℕ = length c.split_at-3.result.1.now - length c.split_at-2.result.1.now in
    let others : AreEntries ps (length ps) c.split_at.result.1.now =
    subst (λ (es : List Entry). AreEntries ps (length ps) es) (sym c.split_at.ensures.back)
    (other_entries ps (length ps) c.before_first.result c.args.entries.now c.requires.entries) in
    let rest : AreIds c.split_at-3.result.1.now n =
    subst (λ (is : List ℕ). AreIds is n) (sym c.split_at-3.ensures.back)
    (other_ids n (length c.split_at.result.0.now) c.items-ids.result.now c.items-ids.ensures.ids) in
    record {
      entries = subst (λ (es : List Entry). AreEntries ps (length ps) es) (sym c.split_at-2.ensures.front)
          (first_entries ps (length ps) c.behind_last.result c.split_at.result.1.now others);
      ids = subst (λ (is : List ℕ). AreIds is n) (sym c.split_at-4.ensures.front) (first_ids n k c.split_at-3.result.1.now rest);
    }

pub returns-clause-behind : goal.returns-clause-behind
returns-clause-behind c =
    let ps : List Pattern = patterns_at_hand c.args.setting.now in
    let n : ℕ = length (trees_at_hand c.args.setting.now) in
    let k : ℕ = length c.split_at-3.result.1.now - length c.split_at-2.result.1.now in
    let others : AreEntries ps (length ps) c.split_at.result.1.now =
    subst (λ (es : List Entry). AreEntries ps (length ps) es) (sym c.split_at.ensures.back)
    (other_entries ps (length ps) c.before_first.result c.args.entries.now c.requires.entries) in
    let rest : AreIds c.split_at-3.result.1.now n =
    subst (λ (is : List ℕ). AreIds is n) (sym c.split_at-3.ensures.back)
    (other_ids n (length c.split_at.result.0.now) c.items-ids.result.now c.items-ids.ensures.ids) in
    record {
      entries = subst (λ (es : List Entry). AreEntries ps (length ps) es) (sym c.split_at-2.ensures.back)
          (other_entries ps (length ps) c.behind_last.result c.split_at.result.1.now others);
      ids = subst (λ (is : List ℕ). AreIds is n) (sym c.split_at-4.ensures.back) (other_ids n k c.split_at-3.result.1.now rest);
    }
