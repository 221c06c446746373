use Rattle.std.proofs.Common.{◌≡◌, ◌∙◌, ◌∷◌, [], ◌++◌, ◌≤◌, map, sym, ap, subst, arith}
use Rattle.std.proofs.lemmas.List.{map-append}
use Rattle.rdx_lang.specs.PatternView.{pattern_of}
use Rattle.rdx_lang.specs.Shown.{binding_of}
use Rattle.rdx_term.specs.Items.{trees_count, item_at}
use Rattle.rdx_term.specs.View.{tree_of, trees_of}
use Rattle.rdx_term.proofs.PutItems.{trees_count-trees_of, item_at-trees_of}
use Rattle.rdx_deriv.specs.DerivationView.{goal_of}
use Rattle.rdx_why.specs.Inside.Laying.{focus_after, IsGoalOf}
use Rattle.rdx_deriv.specs.Inside.Layouts.{focus_of}
use Rattle.rdx_opened.specs.Picking.{in_turn}
use Rattle.rdx_opened.specs.Seeking.{marks_of}
use Rattle.rdx_deriv.specs.Uses.{Focus}
use Rattle.rdx_why.proofs.LaidTurns.{turns_more, turns_end}
use Rattle.rdx_why.proofs.lists.turn_goals.Goals as goal

pub loop-turn-preserved : goal.loop-turn-preserved
loop-turn-preserved c =
    let ms = marks_of c.args.marks.now in
    let b = binding_of c.args.c.now in
    let p = pattern_of c.args.q.now in
    let xs = c.args.names.now in
    let f = focus_of c.args.focus in
    let terms = c.args.terms.now in
    let i = c.loop-turn.turn in
    let t = c.index-terms-turn.result in
    let g = goal_of c.in_ok-turn_goal.field-0 in
    let enough : c.args.count ≤ trees_count (trees_of terms) = (let n = trees_count-trees_of terms in let e = c.requires.enough in omega arith) in
    let item : item_at (trees_of terms) i (tree_of t) ≡ tree_of t = item_at-trees_of terms i t ∙ sym (ap tree_of c.index-terms-turn.is) in
    let of_turn : IsGoalOf ms c.args.l.now p (focus_after i f) (tree_of t) (in_turn b i xs) g =
    subst (λ (h : Focus). IsGoalOf ms c.args.l.now p h (tree_of t) (in_turn b i xs) g) c.behind-split.ensures c.in_ok-turn_goal.ensures in
    let all : map goal_of c.push.new.self.items ≡ map goal_of c.loop-turn.goals.items ++ g ∷ [] =
    ap (map goal_of) c.in_ok-push.ensures.items ∙ map-append goal_of c.loop-turn.goals.items (c.in_ok-turn_goal.field-0 ∷ []) in
    turns_more ms b c.args.l.now p xs f (trees_of terms) c.args.count i (map goal_of c.loop-turn.goals.items) (map goal_of c.push.new.self.items) g
    (tree_of t)
    c.loop-turn-test.true enough item c.loop-turn.invariant of_turn all

pub returns : goal.returns
returns c =
    let same : c.loop-turn.turn ≡ c.args.count = (let h = c.loop-turn-test.false in let k = c.loop-turn.auto.turn-end in omega arith) in
    turns_end (marks_of c.args.marks.now) (binding_of c.args.c.now) c.args.l.now (pattern_of c.args.q.now) c.args.names.now (focus_of c.args.focus)
    (trees_of c.args.terms.now) c.args.count c.loop-turn.turn (map goal_of c.loop-turn.goals.items) same c.loop-turn.invariant
