use Rattle.std.proofs.Common.{◌≡◌, ◌<◌, ◌++◌, ◌∷◌, [], ℕ, List, length, get_or, set, refl, sym, ◌∙◌, ap, inl, inr, arith}
use Rattle.std.proofs.lemmas.Grind.{common_steps}
use Rattle.std.proofs.lemmas.List.{length-map, length-set}
use Rattle.rdx_leftrec.specs.Inside.Leads.{lists_of}
use Rattle.rdx_leftrec.specs.Inside.Reach.{targets_at}
use Rattle.rdx_leftrec.proofs.Lists.{read-in, none-behind}
use Rattle.rdx_leftrec.proofs.Occurring.{lists-set, adds-first, adds-next}
use Rattle.rdx_leftrec.proofs.Paths.{targets_at-read}
use Rattle.rdx_leftrec.proofs.deduction.add_rule.Goals as goal

pub index_mut-requires : goal.index_mut-requires
index_mut-requires c =
    let h : get_or c.args.parts.now c.loop-part.part-index 0 < length c.args.lists.now.items = c.requires (get_or c.args.parts.now c.loop-part.part-index 0) (read-in c.args.parts.now c.loop-part.part-index 0 c.loop-part-test.true) in
    let z = c.loop-part.invariant.size in
    grind (arith, common_steps)

pub loop-part-init : goal.loop-part-init
loop-part-init c = record { size = refl; adds = adds-first c.args.index c.args.parts.now (lists_of c.args.lists.now.items) }

pub loop-part-preserved : goal.loop-part-preserved
loop-part-preserved c =
    let p : ℕ = get_or c.args.parts.now c.loop-part.part-index 0 in
    let vs = c.loop-part.lists.items in
    let h : p < length c.args.lists.now.items = c.requires p (read-in c.args.parts.now c.loop-part.part-index 0 c.loop-part-test.true) in
    let l : p < length vs = (let z = c.loop-part.invariant.size in omega arith) in
    let r : targets_at (lists_of vs) p ≡ c.index_mut.result.now.items = targets_at-read vs p c.index_mut.result.now l c.index_mut.ensures.value in
    record {
      size = length-set vs p c.add.new.list ∙ c.loop-part.invariant.size;
      adds = adds-next c.args.index c.loop-part.part-index c.args.parts.now (lists_of c.args.lists.now.items) (lists_of vs) (lists_of (set vs p c.add.new.list)) (let k = length-map vs (λ v. v.items) in omega arith)
          (lists-set vs p c.add.new.list ∙ ap (λ (js : List ℕ). set (lists_of vs) p js) (c.in_ok-add.ensures ∙ ap (λ (js : List ℕ). js ++ c.args.index ∷ []) (sym r))) c.loop-part.invariant.adds;
    }

pub returns : goal.returns
returns c = record {
  size = length-map c.loop-part.lists.items (λ v. v.items) ∙ c.loop-part.invariant.size ∙ sym (length-map c.args.lists.now.items (λ v. v.items));
  known = λ j h. elim (c.loop-part.invariant.adds.known j h) [ inl k ↦ k | inr k ↦ absurd (none-behind c.args.parts.now c.loop-part.part-index j c.loop-part-test.false k) ];
  kept = c.loop-part.invariant.adds.kept;
  only = c.loop-part.invariant.adds.only;
}
