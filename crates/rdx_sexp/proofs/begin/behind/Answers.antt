use Rattle.std.proofs.Common.{◌≡◌, ◌<◌, ℕ, None, List, [], ◌∷◌, length, drop, refl, sym, ◌∙◌, arith, length-drop}
use Rattle.rdx_sexp.specs.Begin.{behind}
use Rattle.rdx_sexp.proofs.begin.behind.Goals as goal

behind-empty : (ws cs : List ℕ) → 0 < length ws → length cs ≡ 0 → behind ws cs ≡ None
behind-empty [] cs h e = absurd (omega arith)
behind-empty (w ∷ ws) [] h e = refl
behind-empty (w ∷ ws) (c ∷ cs) h e = absurd (omega arith)

pub returns-in_default : goal.returns-in_default
returns-in_default c =
    let none : length c.loop-byte.rest.now ≡ 0 = grind (arith, c.split_first.ensures.cases, c.split_first.ensures.variant, c.in_default.ensures.cases) in
    let some : 0 < length (drop c.loop-byte.byte-index c.args.word.now) = simp length-drop (omega arith) in
    sym c.loop-byte.invariant ∙ behind-empty (drop c.loop-byte.byte-index c.args.word.now) c.loop-byte.rest.now some none
