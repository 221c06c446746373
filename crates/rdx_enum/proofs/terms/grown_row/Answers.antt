use Rattle.std.proofs.Common.{◌≡◌, ◌+◌, ◌++◌, [], ◌∷◌, drop, map, ◌∙◌, ap, arith}
use Rattle.std.proofs.lemmas.Grind.{common_steps}
use Rattle.rdx_lang.specs.Checked.{language_in}
use Rattle.rdx_lang.specs.Members.{In}
use Rattle.rdx_lang.specs.PatternView.{pattern_of, patterns_of}
use Rattle.rdx_term.specs.View.{tree_of}
use Rattle.rdx_lang.proofs.Collecting.{In_along}
use Rattle.rdx_lang.proofs.MemberLaws.{map-in}
use Rattle.rdx_lang.proofs.Rest.{rest_at, rest_none}
use Rattle.rdx_enum.specs.Inside.Rows.{row_of, row_at}
use Rattle.rdx_enum.proofs.Filters.{member_at}
use Rattle.rdx_enum.proofs.TableRows.{so_far_start, so_far_next, so_far_end}
use Rattle.rdx_enum.proofs.terms.grown_row.Goals as goal

pub grow-requires-clause-ready : goal.grow-requires-clause-ready
grow-requires-clause-ready c =
    let xs = c.alternatives-pat-items.result.now in
    let p = c.pat-item.result in
    c.requires.ready (pattern_of p) (In_along (patterns_of xs) _ c.alternatives-pat-items.ensures.same (map-in pattern_of xs p (member_at xs c.loop-pat.pat-index p c.loop-pat-test.true c.pat-item.is)))

pub loop-pat-init : goal.loop-pat-init
loop-pat-init c =
    let e : row_of c.new-terms.result ≡ [] = grind (arith, common_steps) in
    let f : row_of c.new-contexts.result ≡ [] = grind (arith, common_steps) in
    so_far_start (language_in c.args.setting.now.language.now) (map tree_of c.args.setting.now.pool.now) c.args.n c.args.name.now (patterns_of c.alternatives-pat-items.result.now) _ _ e f

pub loop-pat-preserved : goal.loop-pat-preserved
loop-pat-preserved c =
    let xs = c.alternatives-pat-items.result.now in
    let p = c.pat-item.result in
    let e : patterns_of (drop c.loop-pat.pat-index xs) ≡ pattern_of p ∷ patterns_of (drop (c.loop-pat.pat-index + 1) xs) = rest_at pattern_of xs c.loop-pat.pat-index p c.loop-pat-test.true c.pat-item.is in
    let i : In (pattern_of p) (patterns_of xs) = map-in pattern_of xs p (member_at xs c.loop-pat.pat-index p c.loop-pat-test.true c.pat-item.is) in
    so_far_next (language_in c.args.setting.now.language.now) (map tree_of c.args.setting.now.pool.now) c.args.n c.args.name.now (patterns_of xs) _ _ (pattern_of p)
    c.in_ok-grown.grown.terms.items c.in_ok-grown.grown.contexts.items _ _ _ _ c.alternatives-pat-items.ensures.all i e c.in_ok-grown.ensures
    (c.in_ok-add_all.ensures ∙ ap (λ ys. row_of c.loop-pat.terms ++ ys) (c.row.ensures ∙ ap (λ rows. row_at rows c.args.n) c.deref.ensures.value))
    (c.in_ok-add_all-2.ensures ∙ ap (λ ys. row_of c.loop-pat.contexts ++ ys) (c.row-in-loop-pat.ensures ∙ ap (λ rows. row_at rows c.args.n) c.deref-in-loop-pat.ensures.value))
    c.loop-pat.invariant

pub returns : goal.returns
returns c =
    let xs = c.alternatives-pat-items.result.now in
    so_far_end (language_in c.args.setting.now.language.now) (map tree_of c.args.setting.now.pool.now) c.args.n c.args.name.now (patterns_of xs) (patterns_of (drop c.loop-pat.pat-index xs)) (row_of c.loop-pat.terms) (row_of c.in_ok-all_terms.all_terms) (row_of c.loop-pat.contexts) (row_of c.in_ok-all_contexts.all_contexts)
    c.alternatives-pat-items.ensures.all (rest_none pattern_of xs c.loop-pat.pat-index (omega arith)) c.loop-pat.invariant c.in_ok-all_terms.ensures c.in_ok-all_contexts.ensures
