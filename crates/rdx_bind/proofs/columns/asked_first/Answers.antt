use Rattle.std.proofs.Common.{◌≡◌, ℕ, List, [], ◌∷◌, ◌++◌, sym, ◌∙◌, ap, subst, add-one}
use Rattle.rdx_bind.specs.Ones.{nothings}
use Rattle.rdx_bind.specs.declared.asks.Ask.{Ask}
use Rattle.rdx_bind.specs.declared.asks.Ask.TheVariants.{Nothing}
use Rattle.rdx_bind.proofs.AskedRows.{nothings-more}
use Rattle.rdx_bind.proofs.columns.asked_first.Goals as goal

pub loop-preserved : goal.loop-preserved
loop-preserved c =
    let n : ℕ = c.loop.counter in
    let all : List Ask = c.push-in-loop.new.self.items in
    subst (λ (k : ℕ). all ≡ c.args.ask ∷ nothings k) (sym (add-one n))
    (c.in_ok-push-2.ensures.items ∙ ap (λ (xs : List Ask). xs ++ Nothing ∷ []) c.loop.invariant ∙ ap (λ (xs : List Ask). c.args.ask ∷ xs) (nothings-more n))
