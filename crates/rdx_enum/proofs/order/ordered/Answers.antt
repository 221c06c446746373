use Rattle.std.proofs.Common.{◌≡◌, List, map, sym, ◌∙◌, ap, subst, rules}
use Rattle.std.proofs.lemmas.Result.{IfOk-weaker}
use Rattle.std.proofs.lemmas.List.Sorted.{IsNonDecreasingBy-from_sort_by_key}
use Rattle.rdx_lang.specs.Checked.{language_in, ranks_in}
use Rattle.rdx_lang.specs.Patterns.{Definition, Language}
use Rattle.rdx_lang.specs.PatternView.{definition_of}
use Rattle.rdx_enum.specs.declared.ranked.Ranked.{Ranked}
use Rattle.rdx_enum.specs.Inside.Order.{ranking, rankings, IsInOrder}
use Rattle.rdx_enum.proofs.Orders.{in_order}
use Rattle.rdx_enum.proofs.order.ordered.Goals as goal

pub returns : goal.returns
returns c =
    let L : Language = language_in c.args.language.now in
    let ns = ranks_in c.args.language.now in
    let ds : map definition_of c.deref.result.now ≡ L.nonterminals = ap (map definition_of) c.deref.ensures.value ∙ ap (λ (M : Language). M.nonterminals) c.language.ensures.value in
    let rs : c.deref-2.result.now ≡ ns = c.deref-2.ensures.value ∙ c.ranks.ensures.value in
    let e : map ranking c.in_ok-all.all.items ≡ rankings L.nonterminals ns =
    c.in_ok-all.ensures ∙ ap (λ (xs : List Definition). rankings xs c.deref-2.result.now) ds ∙ ap (rankings L.nonterminals) rs in
    let o : IsInOrder L ns (map (λ r. r.name) c.sort_unstable_by_key.new.self.items) =
    in_order L ns c.in_ok-all.all.items c.sort_unstable_by_key.new.self.items c.language.ensures.well_formed e c.sort_unstable_by_key.ensures.permutation
    (IsNonDecreasingBy-from_sort_by_key (λ (r : Ranked). r.number) _ c.sort_unstable_by_key.ensures.sorted (λ a r q k. search rules)) in
    IfOk-weaker c.names.result _ _ (λ v h. subst (IsInOrder L ns) (sym (h ∙ ap (map (λ (r : Ranked). r.name)) c.deref-3.ensures.value)) o) c.names.ensures
