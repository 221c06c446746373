use Rattle.std.proofs.Common.{◌≡◌, ◌++◌, ◌∷◌, ◌/◌, ◌∙◌, ℕ, List, [], length, take, drop, sym, subst, arith}
use Rattle.std.proofs.lemmas.Grind.{common_steps}
use Rattle.std.proofs.lemmas.Result.{IfOk-weaker}
use Rattle.std.proofs.lemmas.Option.{IfSome_then}
use Rattle.rdx_lang.specs.BindingView.{mismatches_of}
use Rattle.rdx_lang.specs.Bindings.{Mismatch, Binding}
use Rattle.rdx_lang.specs.Collections.{AreSetsOf, sets_of_none}
use Rattle.rdx_lang.specs.Shown.{binding_of, bindings_of}
use Rattle.rdx_lang.proofs.CollectionLaws.{sets_of-sets}
use Rattle.rdx_bind.proofs.AcrossRows.{map_none, map_one, map_parts}
use Rattle.rdx_bind.proofs.MergingSets.{sets_append, sets_of_one, no_first_part, no_other_part, no_joined_parts}
use Rattle.rdx_bind.proofs.Repeating.{if_none_then}
use Rattle.rdx_bind.proofs.sets.+all_sets.Goals as goal

pub returns-in-empty-clause-some : goal.returns-in-empty-clause-some
returns-in-empty-clause-some t c =
    let e : bindings_of c.args.list.now ≡ [] = map_none binding_of c.args.list.now c.in-empty.len_below in
    let nothing : List Mismatch = [] in
    let f : mismatches_of c.new.result.items ≡ nothing = grind (arith, common_steps) in
    subst (λ (ms : List Mismatch). AreSetsOf (bindings_of c.args.list.now) ms) (sym f) (subst (λ (bs : List Binding). AreSetsOf bs []) (sym e) sets_of_none)

pub returns-in-len1-clause-some : goal.returns-in-len1-clause-some
returns-in-len1-clause-some t c =
    let b : Binding = binding_of c.binding-item.result in
    let e : bindings_of c.args.list.now ≡ b ∷ [] = map_one binding_of c.args.list.now c.binding-item.result c.in-len1.len_at_least c.in-len1.len_below c.binding-item.is in
    let g : mismatches_of c.push_sets.new.sets.items ≡ mismatches_of c.differs.result.now = grind (arith, common_steps) in
    let f : mismatches_of c.push_sets.new.sets.items ≡ b.differs = g ∙ c.differs.ensures.value in
    subst (λ (ms : List Mismatch). AreSetsOf (bindings_of c.args.list.now) ms) (sym f)
    (subst (λ (bs : List Binding). AreSetsOf bs b.differs) (sym e) (sets_of_one b c.binding-item.result.sets))

pub returns-in-None-clause-none : goal.returns-in-None-clause-none
returns-in-None-clause-none t c ms s =
    let half : ℕ = length c.args.list.now / 2 in
    let e : bindings_of c.args.list.now ≡ bindings_of (take half c.args.list.now) ++ bindings_of (drop half c.args.list.now) = map_parts binding_of half c.args.list.now in
    let n : (ls : List Mismatch) → ¬ AreSetsOf (bindings_of (take half c.args.list.now)) ls = rw (c.in-None.is, c.split_at.ensures.front) at c.in_ok-all_sets-in_default.ensures.none in
    no_first_part (bindings_of (take half c.args.list.now)) (bindings_of (drop half c.args.list.now)) n ms (subst (λ (bs : List Binding). AreSetsOf bs ms) e s)

pub returns-in-None-2-clause-none : goal.returns-in-None-2-clause-none
returns-in-None-2-clause-none t c ms s =
    let half : ℕ = length c.args.list.now / 2 in
    let e : bindings_of c.args.list.now ≡ bindings_of (take half c.args.list.now) ++ bindings_of (drop half c.args.list.now) = map_parts binding_of half c.args.list.now in
    let n : (ls : List Mismatch) → ¬ AreSetsOf (bindings_of (drop half c.args.list.now)) ls = rw (c.in-None-2.is, c.split_at.ensures.back) at c.in_ok-all_sets-in-Some.ensures.none in
    no_other_part (bindings_of (take half c.args.list.now)) (bindings_of (drop half c.args.list.now)) n ms (subst (λ (bs : List Binding). AreSetsOf bs ms) e s)

pub join_sets-requires-clause-left : goal.join_sets-requires-clause-left
join_sets-requires-clause-left t c =
    let half : ℕ = length c.args.list.now / 2 in
    let r : AreSetsOf (bindings_of (take half c.args.list.now)) (mismatches_of c.in-Some.lefts.items) = rw (c.in-Some.is, c.split_at.ensures.front) at c.in_ok-all_sets-in_default.ensures.some in
    rw c.deref.ensures.value (sets_of-sets r)

pub join_sets-requires-clause-right : goal.join_sets-requires-clause-right
join_sets-requires-clause-right t c =
    let half : ℕ = length c.args.list.now / 2 in
    let s : AreSetsOf (bindings_of (drop half c.args.list.now)) (mismatches_of c.in-Some-2.rights.items) = rw (c.in-Some-2.is, c.split_at.ensures.back) at c.in_ok-all_sets-in-Some.ensures.some in
    rw c.deref-in-Some-2.ensures.value (sets_of-sets s)

pub returns-clause-some : goal.returns-clause-some
returns-clause-some t c =
    let half : ℕ = length c.args.list.now / 2 in
    let xs : List Binding = bindings_of (take half c.args.list.now) in
    let ys : List Binding = bindings_of (drop half c.args.list.now) in
    let e : bindings_of c.args.list.now ≡ xs ++ ys = map_parts binding_of half c.args.list.now in
    let r : AreSetsOf xs (mismatches_of c.in-Some.lefts.items) = rw (c.in-Some.is, c.split_at.ensures.front) at c.in_ok-all_sets-in_default.ensures.some in
    let s : AreSetsOf ys (mismatches_of c.in-Some-2.rights.items) = rw (c.in-Some-2.is, c.split_at.ensures.back) at c.in_ok-all_sets-in-Some.ensures.some in
    IfOk-weaker c.join_sets.result _ _ (λ v h. IfSome_then v h (λ ms j. subst (λ (bs : List Binding). AreSetsOf bs (mismatches_of ms.items)) (sym e)
    (sets_append xs ys r s (rw (c.deref.ensures.value, c.deref-in-Some-2.ensures.value) at j)))) c.join_sets.ensures.some

pub returns-clause-none : goal.returns-clause-none
returns-clause-none t c =
    let half : ℕ = length c.args.list.now / 2 in
    let xs : List Binding = bindings_of (take half c.args.list.now) in
    let ys : List Binding = bindings_of (drop half c.args.list.now) in
    let e : bindings_of c.args.list.now ≡ xs ++ ys = map_parts binding_of half c.args.list.now in
    let r : AreSetsOf xs (mismatches_of c.in-Some.lefts.items) = rw (c.in-Some.is, c.split_at.ensures.front) at c.in_ok-all_sets-in_default.ensures.some in
    let s : AreSetsOf ys (mismatches_of c.in-Some-2.rights.items) = rw (c.in-Some-2.is, c.split_at.ensures.back) at c.in_ok-all_sets-in-Some.ensures.some in
    IfOk-weaker c.join_sets.result _ _ (λ v h. if_none_then v h (λ n ls t. no_joined_parts xs ys (mismatches_of c.in-Some.lefts.items) (mismatches_of c.in-Some-2.rights.items) r s
    (rw (c.deref.ensures.value, c.deref-in-Some-2.ensures.value) at n) ls (subst (λ (bs : List Binding). AreSetsOf bs ls) e t))) c.join_sets.ensures.none
