use Rattle.std.proofs.Common.{rules, ◌≡◌, ℤ, FitsSigned, map, ◌+◌, drop, Option, ◌∷◌, sym, ◌∙◌, subst, arith}
use Rattle.std.proofs.lemmas.Int.{to_z-of_z}
use Rattle.std.specs.Int.{w128}
use Rattle.std.specs.Option.{SomeIff}
use Rattle.rdx_term.specs.View.{tree_of}
use Rattle.rdx_delta.specs.Delta.{folded, integers, of_integers}
use Rattle.rdx_lang.proofs.Rest.{rest_at, rest_none}
use Rattle.rdx_delta.proofs.Folding.{folded_on, folded_on-end, folded_on-overflow, folded_on-stopped, folded_on-step, folded_on-skip}
use Rattle.rdx_delta.proofs.integers.folded.Goals.{in-Some, in_default-so_far}
use Rattle.rdx_delta.proofs.integers.folded.Goals as goal

pub returns-in_default : goal.returns-in_default
returns-in_default g c = λ f h.
    let start : FitsSigned w128 c.args.start = c.ranges.start in
    let kept : folded_on f c.loop-arg.so_far (map tree_of (drop c.loop-arg.arg-index c.args.args.now)) ≡ of_integers (folded f c.args.start) (integers (map tree_of c.args.args.now)) = simp to_z-of_z at (c.loop-arg.invariant f h) in
    sym (folded_on-stopped f c.loop-arg.so_far c.arg-item.result _ _ (rest_at tree_of c.args.args.now c.loop-arg.arg-index c.arg-item.result c.loop-arg-test.true c.arg-item.is) c.in_default.not-Int) ∙ kept

pub loop-arg-preserved : goal.loop-arg-preserved
loop-arg-preserved g c = λ f h.
    let rest : map tree_of (drop c.loop-arg.arg-index c.args.args.now) ≡ tree_of c.arg-item.result ∷ map tree_of (drop (c.loop-arg.arg-index + 1) c.args.args.now) = rest_at tree_of c.args.args.now c.loop-arg.arg-index c.arg-item.result c.loop-arg-test.true c.arg-item.is in
    elim c.match-so_far.branch [
      | in-Some w ↦
          let before : FitsSigned w128 w.in-Some.value = search rules in
          let arg : FitsSigned w128 c.in-Int.n = search rules in
          let called : goal.F-post g c.args.step w.in-Some.value c.in-Int.n w.step-so_far.result = simp to_z-of_z at w.step-so_far.ensures in
          let met : SomeIff c.match-so_far.so_far (FitsSigned w128 (f w.in-Some.value c.in-Int.n)) (f w.in-Some.value c.in-Int.n) =
          subst (λ (r : Option ℤ). SomeIff r (FitsSigned w128 (f w.in-Some.value c.in-Int.n)) (f w.in-Some.value c.in-Int.n)) (sym w.so_far-is) (h w.in-Some.value c.in-Int.n w.step-so_far.result before arg called) in
          folded_on-step f c.loop-arg.so_far w.in-Some.value c.in-Int.n c.match-so_far.so_far c.arg-item.result _ _ w.in-Some.is c.in-Int.is rest met ∙ c.loop-arg.invariant f h
      | in_default-so_far w ↦ folded_on-skip f c.loop-arg.so_far c.match-so_far.so_far c.in-Int.n c.arg-item.result _ _ w.in_default-so_far.is w.so_far-is c.in-Int.is rest ∙ c.loop-arg.invariant f h
    ]

pub returns-in-Some-so_far : goal.returns-in-Some-so_far
returns-in-Some-so_far g c = λ f h.
    let start : FitsSigned w128 c.args.start = c.ranges.start in
    let fits : FitsSigned w128 c.in-Some-so_far.value = search rules in
    let kept : folded_on f c.loop-arg.so_far (map tree_of (drop c.loop-arg.arg-index c.args.args.now)) ≡ of_integers (folded f c.args.start) (integers (map tree_of c.args.args.now)) = simp to_z-of_z at (c.loop-arg.invariant f h) in
    simp to_z-of_z (sym (folded_on-end f c.loop-arg.so_far c.in-Some-so_far.value _ c.in-Some-so_far.is (rest_none tree_of c.args.args.now c.loop-arg.arg-index (omega arith))) ∙ kept)

pub returns : goal.returns
returns g c = λ f h.
    let start : FitsSigned w128 c.args.start = c.ranges.start in
    let kept : folded_on f c.loop-arg.so_far (map tree_of (drop c.loop-arg.arg-index c.args.args.now)) ≡ of_integers (folded f c.args.start) (integers (map tree_of c.args.args.now)) = simp to_z-of_z at (c.loop-arg.invariant f h) in
    sym (folded_on-overflow f c.loop-arg.so_far _ c.in-None.is (rest_none tree_of c.args.args.now c.loop-arg.arg-index (omega arith))) ∙ kept
