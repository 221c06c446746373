use Rattle.std.proofs.Common.{arith, ◌≡◌, ◌<◌, ℕ, List, ap, sym, ◌∙◌, map, length}
use Rattle.std.specs.Prelude.{slice_index_or}
use Rattle.rdx_lang.specs.Lookup.{alternatives_of}
use Rattle.rdx_lang.specs.Patterns.{Pattern, Language, wild}
use Rattle.rdx_gen.specs.Generation.{choices}
use Rattle.rdx_gen.specs.Heights.{Known, context_height}
use Rattle.rdx_gen.specs.Inside.Picks.{TwoLists, picks_at}
use Rattle.rdx_gen.specs.Inside.Scopes.{alternatives_there, known_here, language_here, one_among}
use Rattle.rdx_gen.specs.Inside.Weights.{patterns_weight}
use Rattle.rdx_gen.specs.Outcomes.{Outcome, State, made, after, one_of}
use Rattle.rdx_gen.specs.Views.{state_of}
use Rattle.rdx_gen.specs.declared.choices.Choices.{Choices}
use Rattle.rdx_gen.specs.declared.setting.Setting.{Setting}
use Rattle.rdx_gen.proofs.Picking.{alternatives_place, as_many, picks_of_size, context_picks}
use Rattle.rdx_gen.proofs.steps.alternative_around.Goals as goal

pub returns-clause-says : goal.returns-clause-says
returns-clause-says c =
    let S : Setting = c.args.setting.now in
    let L : Language = language_here S in
    let K : Known = known_here S in
    let s : State = state_of c.args.state.now in
    let s1 : State = state_of c.one_of.new.state in
    let i : ℕ = c.place-place.result in
    let cs : List Choices = S.choices.items in
    let n : length cs ≡ length L.nonterminals = as_many cs K L.nonterminals S.chosen in
    let l : i < length cs = omega arith in
    let a : alternatives_of L c.args.name.now ≡ alternatives_there S i =
    alternatives_place L.nonterminals c.args.name.now (omega (arith, l, n, c.place-place.ensures))
    ∙ ap (λ (j : ℕ). alternatives_there S j) (sym c.place-place.ensures) in
    let p : c.at.result.now ≡ choices c.args.scope.size (map (context_height K) (alternatives_there S i)) =
    c.at.ensures ∙ ap (λ (z : TwoLists). picks_at z c.args.scope.size) (context_picks cs K L.nonterminals i c.index.result.now S.chosen l c.index.ensures)
    ∙ picks_of_size c.args.scope.size (map (context_height K) (alternatives_there S i)) in
    ap (λ (ps : List Pattern). one_among c.args.scope.size ps (map (context_height K) ps) s) a
    ∙ ap (λ (z : List ℕ). after (one_of z s) (λ k s'. made (slice_index_or (alternatives_there S i) k wild) s')) (sym p)
    ∙ ap (λ (o : Outcome ℕ). after o (λ k s'. made (slice_index_or (alternatives_there S i) k wild) s')) c.in_ok-k.ensures
    ∙ ap (λ (q : Pattern). made q s1) (sym c.in_ok-alternative_at.ensures.there)

pub returns-clause-less : goal.returns-clause-less
returns-clause-less c = λ W.
    let S : Setting = c.args.setting.now in
    let L : Language = language_here S in
    let i : ℕ = c.place-place.result in
    let n : length S.choices.items ≡ length L.nonterminals = as_many S.choices.items (known_here S) L.nonterminals S.chosen in
    let l : i < length S.choices.items = omega arith in
    let a : alternatives_of L c.args.name.now ≡ alternatives_there S i =
    alternatives_place L.nonterminals c.args.name.now (omega (arith, l, n, c.place-place.ensures))
    ∙ ap (λ (j : ℕ). alternatives_there S j) (sym c.place-place.ensures) in
    let d = ap (patterns_weight W) a in
    let h = c.in_ok-alternative_at.ensures.less W in
    omega (arith, d, h)
