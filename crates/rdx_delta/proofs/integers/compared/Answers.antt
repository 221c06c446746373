use Rattle.std.proofs.Common.{rules, ◌≡◌, ℤ, FitsSigned, Bool, ◌&&◌, map, ◌+◌, drop, Option, Some, ◌∷◌, sym, ◌∙◌, ap, arith}
use Rattle.std.proofs.lemmas.Int.{to_z-of_z}
use Rattle.std.specs.Int.{w128}
use Rattle.rdx_term.specs.View.{tree_of}
use Rattle.rdx_lang.proofs.Rest.{rest_at, rest_none}
use Rattle.rdx_delta.proofs.Comparing.{compared_on, compared_on-start, compared_on-end, compared_on-none, compared_on-stopped, compared_on-first, compared_on-later}
use Rattle.rdx_delta.proofs.integers.compared.Goals.{in-Some, in_default-replace}
use Rattle.rdx_delta.proofs.integers.compared.Goals as goal

pub loop-arg-init : goal.loop-arg-init
loop-arg-init g c = λ test h. compared_on-start test (map tree_of c.args.args.now)

pub returns-in_default : goal.returns-in_default
returns-in_default g c = λ test h.
    sym (compared_on-stopped test c.loop-arg.all c.loop-arg.last c.arg-item.result _ _ (rest_at tree_of c.args.args.now c.loop-arg.arg-index c.arg-item.result c.loop-arg-test.true c.arg-item.is) c.in_default.not-Int) ∙ c.loop-arg.invariant test h

pub loop-arg-preserved : goal.loop-arg-preserved
loop-arg-preserved g c = λ test h.
    let arg : FitsSigned w128 c.in-Int.n = search rules in
    let rest : map tree_of (drop c.loop-arg.arg-index c.args.args.now) ≡ tree_of c.arg-item.result ∷ map tree_of (drop (c.loop-arg.arg-index + 1) c.args.args.now) = rest_at tree_of c.args.args.now c.loop-arg.arg-index c.arg-item.result c.loop-arg-test.true c.arg-item.is in
    let after : c.replace.new.self ≡ Some c.in-Int.n = simp to_z-of_z at c.replace.ensures.after in
    ap (λ (o : Option ℤ). compared_on test c.match-replace.all o (map tree_of (drop (c.loop-arg.arg-index + 1) c.args.args.now))) after
    ∙ elim c.match-replace.branch [
      | in-Some w ↦
          let before : FitsSigned w128 w.in-Some.before = search rules in
          let called : goal.F-post g c.args.holds w.in-Some.before c.in-Int.n w.holds-all.result = simp to_z-of_z at w.holds-all.ensures in
          compared_on-later test c.loop-arg.all c.match-replace.all c.loop-arg.last w.in-Some.before c.in-Int.n c.arg-item.result _ _ (sym c.replace.ensures.value ∙ w.in-Some.is) c.in-Int.is rest
          (w.all-is ∙ ap (λ (b : Bool). c.loop-arg.all && b) (h w.in-Some.before c.in-Int.n w.holds-all.result before arg called))
      | in_default-replace w ↦ compared_on-first test c.loop-arg.all c.match-replace.all c.loop-arg.last c.in-Int.n c.arg-item.result _ _ (sym c.replace.ensures.value ∙ w.in_default-replace.is) c.in-Int.is rest w.all-is
    ]
    ∙ c.loop-arg.invariant test h

pub returns-in-Some-last : goal.returns-in-Some-last
returns-in-Some-last g c = λ test h.
    sym (compared_on-end test c.loop-arg.all c.loop-arg.last c.in-Some-last.field-0 _ c.in-Some-last.is (rest_none tree_of c.args.args.now c.loop-arg.arg-index (omega arith))) ∙ c.loop-arg.invariant test h

pub returns : goal.returns
returns g c = λ test h.
    sym (compared_on-none test c.loop-arg.all c.loop-arg.last _ c.in-None.is (rest_none tree_of c.args.args.now c.loop-arg.arg-index (omega arith))) ∙ c.loop-arg.invariant test h
