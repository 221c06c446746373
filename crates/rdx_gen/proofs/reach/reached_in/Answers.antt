use Rattle.std.proofs.Common.{◌≡◌, ◌∙◌, ◌-◌, ◌++◌, ℕ, Bool, false, ap, sym, subst, map, replicate, List, length, arith, [], Bor}
use Rattle.std.proofs.lemmas.Grind.{common_steps}
use Rattle.std.specs.Fn.{iterate}
use Rattle.std.proofs.lemmas.Bool.Decides.{nat_tests}
use Rattle.std.proofs.lemmas.List.{nil_from_length, length-map}
use Rattle.rdx_lang.specs.Checked.{language_in}
use Rattle.rdx_lang.specs.Patterns.{Pattern, Language}
use Rattle.rdx_gen.specs.NameRules.{next_marks, marked_with, mentioned}
use Rattle.rdx_gen.specs.Inside.Places.{IsPlaceOf}
use Rattle.rdx_gen.specs.Inside.Waiting.{Marks}
use Rattle.rdx_lang.specs.PatternView.{definition_of, pattern_of}
use Rattle.rdx_lang.specs.declared.pattern.Ref.{Ref}
use Rattle.rdx_gen.proofs.Rounds.{stays, one_round}
use Rattle.rdx_gen.proofs.ReachedSteps.{step-still, start-marked, start-reached, names-same}
use Rattle.rdx_gen.proofs.reach.reached_in.Goals as goal
use Rattle.rdx_gen.proofs.reach.reached_in.Goals.{then-loop-left-test+else-not-is_empty, else-loop-left-test}

pub loop-left-init : goal.loop-left-init
loop-left-init c =
    let L : Language = language_in c.args.nonterminals.now.language.now in
    let p : Pattern = pattern_of c.args.pat.now in
    let ds = c.language.result.now.nts.items in
    let e : c.len-count.result ≡ length L.nonterminals =
    (let k = length-map ds definition_of in let m = ap length (ap (λ (l : Language). l.nonterminals) c.language.ensures.value) in grind (arith, common_steps)) in
    let b : map (λ (r : Bor Ref). r.now) c.deref.result.now ≡ mentioned p =
    ap (map (λ (r : Bor Ref). r.now)) c.deref.ensures.value ∙ c.in_ok-add_mentioned.ensures ∙ ap (λ (rs : List (Bor Ref)). map (λ (r : Bor Ref). r.now) rs ++ mentioned p) c.new-names.ensures.items in
    let m : Marks (IsPlaceOf L (mentioned p)) (replicate c.len-count.result false) c.mark_names.new.marks.items [] c.mark_names.new.listed.items =
    subst (λ (bs : List Bool). Marks (IsPlaceOf L (mentioned p)) bs c.mark_names.new.marks.items [] c.mark_names.new.listed.items) c.in_ok-marks.ensures
    (subst (λ (ls : List ℕ). Marks (IsPlaceOf L (mentioned p)) c.in_ok-marks.marks.items c.mark_names.new.marks.items ls c.mark_names.new.listed.items) c.new-front.ensures.items
    (names-same L (map (λ (r : Bor Ref). r.now) c.deref.result.now) (mentioned p) c.in_ok-marks.marks.items c.mark_names.new.marks.items c.new-front.result.items c.mark_names.new.listed.items b c.in_ok-mark_names.ensures)) in
    let q : c.mark_names.new.marks.items ≡ marked_with (mentioned p) [] L.nonterminals =
    start-marked L (mentioned p) c.len-count.result c.mark_names.new.marks.items c.mark_names.new.listed.items c.language.ensures.well_formed.distinct e m in
    record {
      reached = start-reached L (mentioned p) c.len-count.result c.mark_names.new.marks.items c.mark_names.new.listed.items e m;
      same = (λ i. iterate (next_marks L) (e i) (q i));
    }

pub loop-left-preserved : goal.loop-left-preserved
loop-left-preserved c =
    let L : Language = language_in c.args.nonterminals.now.language.now in
    record {
      reached = c.in_ok-front.ensures.reached;
      same = ap (iterate (next_marks L) (c.loop-left.left - 1)) c.in_ok-front.ensures.next
          ∙ sym (one_round (next_marks L) c.loop-left.left c.loop-left.marks.items c.loop-left-test.true) ∙ c.loop-left.invariant.same;
    }

pub returns : goal.returns
returns c =
    let L : Language = language_in c.args.nonterminals.now.language.now in
    let bs = c.loop-left.marks.items in
    elim c.loop-left-test.branch [
      | then-loop-left-test+else-not-is_empty w ↦
          let l : length c.loop-left.front.items ≡ 0 = grind (arith, nat_tests) in
          sym (stays (next_marks L) c.loop-left.left bs (step-still L bs c.loop-left.front.items c.language.ensures.well_formed.distinct c.loop-left.invariant.reached (nil_from_length c.loop-left.front.items l)))
          ∙ c.loop-left.invariant.same
      | else-loop-left-test w ↦
          let l : c.loop-left.left ≡ 0 = omega arith in
          sym (ap (λ n. iterate (next_marks L) n bs) l) ∙ c.loop-left.invariant.same
    ]
