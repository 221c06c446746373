use Rattle.std.proofs.Common.{◌≡◌, ◌+◌, ◌++◌, ◌∷◌, ◌∙◌, [], List, ℕ, true, drop, sym, ap, subst}
use Rattle.std.specs.Prelude.{◌||◌}
use Rattle.rdx_lang.specs.Rules.{is_one_of}
use Rattle.rdx_facts.proofs.LiteralLaws.{added, known}
use Rattle.rdx_facts.proofs.literals.each_once.Goals as goal
use Rattle.rdx_facts.proofs.literals.each_once.Goals.{then-not-is_one_of+in_ok-share+in_ok-push, else-not-is_one_of}

pub loop-name-preserved : goal.loop-name-preserved
loop-name-preserved c =
    let names : List (List ℕ) = c.args.names.now in
    let i : ℕ = c.loop-name.name-index in
    let r : List ℕ = c.name-item.result in
    let old : List (List ℕ) = c.loop-name.found.items in
    elim c.if-not-is_one_of.branch [
      | then-not-is_one_of+in_ok-share+in_ok-push w ↦
          let e : c.if-not-is_one_of.found.items ≡ old ++ r ∷ [] =
          ap (λ v. v.items) w.found-is ∙ w.in_ok-push.ensures.items ∙ ap (λ (n : List ℕ). old ++ n ∷ []) w.in_ok-share.ensures in
          subst (λ (found : List (List ℕ)). (s : List ℕ) → (is_one_of found s || is_one_of (drop (i + 1) names) s) ≡ is_one_of names s) (sym e)
          (added old names names i r c.loop-name-test.true c.name-item.is c.loop-name.invariant)
      | else-not-is_one_of w ↦
          let e : c.if-not-is_one_of.found.items ≡ old = ap (λ v. v.items) w.found-is in
          let g : is_one_of old r ≡ true =
          ap (λ (ns : List (List ℕ)). is_one_of ns r) (sym c.deref.ensures.value) ∙ sym c.is_one_of.ensures ∙ w.if-not-is_one_of.false in
          subst (λ (found : List (List ℕ)). (s : List ℕ) → (is_one_of found s || is_one_of (drop (i + 1) names) s) ≡ is_one_of names s) (sym e)
          (known old names names i r c.loop-name-test.true c.name-item.is g c.loop-name.invariant)
    ]
