use Rattle.std.proofs.Common.{◌≡◌, ◌<◌, ◌+◌, ◌++◌, ◌∷◌, ◌&&◌, nat_eq, Bool, ℕ, [], None, length, take, drop, sym, ◌∙◌, ap, subst, arith}
use Rattle.std.proofs.lemmas.List.{length-map, map-append, length-take-le}
use Rattle.std.specs.Prelude.{not, IfSome}
use Rattle.rdx_term.specs.Tree.{Tree, hole}
use Rattle.rdx_lang.specs.Patterns.{Pattern, wild}
use Rattle.rdx_lang.specs.PatternView.{just}
use Rattle.rdx_lang.specs.Rules.{Match}
use Rattle.rdx_bind.proofs.Prefixes.{no_row_found, stays, ends}
use Rattle.rdx_bind.proofs.SpotRows.{split_rows_are_maps}
use Rattle.rdx_bind.specs.Columns.{HasAsked}
use Rattle.rdx_bind.specs.Rows.{SplitRow, split_row_of, split_rows_of}
use Rattle.rdx_bind.specs.Searching.{IsRowOf}
use Rattle.rdx_bind.specs.Spots.{SplitsAt, PlacedAt}
use Rattle.rdx_store.specs.Stored.{tree_by_id}
use Rattle.rdx_nodes.specs.Asked.{asked_where}
use Rattle.rdx_nodes.specs.Nodes.{pattern_at}
use Rattle.rdx_table.proofs.AskedItems.{next_taken, all_taken, asked_placed, matches_there, no_row, asked_none, asked_next}
use Rattle.rdx_table.proofs.FoundBehind.{no_matches, no_spots}
use Rattle.rdx_table.specs.Inside.Cuts.{part_in}
use Rattle.rdx_table.specs.Inside.Looks.{language_of_look, patterns_of_look, trees_of_look, Meets}
use Rattle.rdx_table.proofs.look.Look.rows_of.Goals as goal

pub loop-i-init : goal.loop-i-init
loop-i-init c = asked_none (split_rows_of c.new-rows.result.items) (ap split_rows_of c.new-rows.ensures.items)

pub returns-then-has_nothing-clause-searched : goal.returns-then-has_nothing-clause-searched
returns-then-has_nothing-clause-searched c =
    let l = c.args.self.now in
    let L = language_of_look l in
    let part = part_in l c.args.part in
    let i : ℕ = c.loop-i.i in
    let g = c.goal_at-goal.result in
    let p : Pattern = pattern_at (patterns_of_look l) g.number in
    let t : Tree = tree_by_id (trees_of_look l) g.id in
    let row : SplitRow = split_row_of c.in-Some.row in
    let d : length part.terms ≡ length c.args.part.ids.now = length-map c.args.part.ids.now (tree_by_id (trees_of_look l)) in
    let a : length part.terms ≡ length part.slots = c.requires.single.as_many in
    let n : i < length part.terms = omega (arith, c.loop-i-test.true) in
    let m : i < length part.slots = omega arith in
    let e : part.slots ≡ take i part.slots ++ just p ∷ drop (i + 1) part.slots =
    all_taken part.slots i (just wild) (just p) m c.goal_at-goal.ensures.at.slot in
    let f : part.terms ≡ take i part.terms ++ t ∷ drop (i + 1) part.terms = all_taken part.terms i hole t n c.goal_at-goal.ensures.at.tree in
    let found : Meets l g c.in-Some.row = subst (λ o. IfSome o (λ row. Meets l g row)) c.in-Some.is c.in_ok-row.ensures in
    let h : HasAsked (Match L p t) (SplitsAt L p t) (asked_where c.loop-i.splitting) row =
    subst (λ b. HasAsked (Match L p t) (SplitsAt L p t) (asked_where b) row) c.goal_at-goal.ensures.splits found in
    let z = sym c.has_nothing.ensures ∙ c.if-has_nothing.true in
    let r : IsRowOf L (c.args.part.place + i) p t c.loop-i.splitting None = no_row c.loop-i.splitting row h (no_matches row z) (no_spots row z) in
    no_row_found i (drop (i + 1) part.slots) (drop (i + 1) part.terms) e f (length-take-le i part.terms (omega arith)) c.loop-i.invariant.0 r

pub loop-i-preserved : goal.loop-i-preserved
loop-i-preserved c =
    let l = c.args.self.now in
    let L = language_of_look l in
    let part = part_in l c.args.part in
    let i : ℕ = c.loop-i.i in
    let all : Bool = c.loop-i.splitting in
    let g = c.goal_at-goal.result in
    let p : Pattern = pattern_at (patterns_of_look l) g.number in
    let t : Tree = tree_by_id (trees_of_look l) g.id in
    let row : SplitRow = split_row_of c.in-Some.row in
    let new : SplitRow = split_row_of c.in_ok-row-2.row in
    let d : length part.terms ≡ length c.args.part.ids.now = length-map c.args.part.ids.now (tree_by_id (trees_of_look l)) in
    let a : length part.terms ≡ length part.slots = c.requires.single.as_many in
    let n : i < length part.terms = omega (arith, c.loop-i-test.true) in
    let m : i < length part.slots = omega arith in
    let e : take (i + 1) part.slots ≡ take i part.slots ++ just p ∷ [] =
    next_taken part.slots i (just wild) (just p) m c.goal_at-goal.ensures.at.slot in
    let f : take (i + 1) part.terms ≡ take i part.terms ++ t ∷ [] = next_taken part.terms i hole t n c.goal_at-goal.ensures.at.tree in
    let k : split_rows_of c.push_row.new.rows.items ≡ split_rows_of c.loop-i.rows.items ++ new ∷ [] =
    ap split_rows_of c.in_ok-push_row.ensures ∙ map-append split_row_of c.loop-i.rows.items (c.in_ok-row-2.row ∷ []) in
    let found : Meets l g c.in-Some.row = subst (λ o. IfSome o (λ row. Meets l g row)) c.in-Some.is c.in_ok-row.ensures in
    let h : HasAsked (Match L p t) (SplitsAt L p t) (asked_where all) row =
    subst (λ b. HasAsked (Match L p t) (SplitsAt L p t) (asked_where b) row) c.goal_at-goal.ensures.splits found in
    let o : new.matches ≡ row.matches = c.in_ok-row-2.ensures.matches in
    let there : HasAsked (Match L p t) (PlacedAt L (c.args.part.place + i) p t) (asked_where all) new =
    asked_placed all row new o c.in_ok-row-2.ensures.spots h in
    let z = sym c.has_nothing.ensures ∙ c.if-has_nothing.false in
    let empty : c.is_empty.result ≡ nat_eq (length c.in-Some.row.matches.items) 0 =
    c.is_empty.ensures ∙ ap (λ n. nat_eq n 0) c.in-Some.row.matches.ok.0 in
    asked_next (split_rows_are_maps c.loop-i.rows.items) i all (all && not c.is_empty.result) new e f k
    (length-take-le i part.terms (omega arith)) c.loop-i.invariant there
    (λ b q. matches_there all row z h b (sym o ∙ q))
    (λ q. stays c.in-Some.row.matches.items all c.is_empty.result empty (λ s. q (o ∙ s)))
    (λ q. ends c.in-Some.row.matches.items all c.is_empty.result empty (sym o ∙ q))
