use Rattle.std.proofs.Common.{◌≡◌, ℕ, List, [], ◌∷◌, ◌++◌, sym, ◌∙◌, subst, add-one, arith}
use Rattle.std.proofs.lemmas.Grind.{common_steps}
use Rattle.rdx_bind.specs.Ones.{empty_rows}
use Rattle.rdx_bind.specs.Rows.{SplitRow, split_row_of, split_rows_of}
use Rattle.rdx_bind.proofs.AskedRows.{empty_rows-more}
use Rattle.rdx_bind.proofs.columns.empty_rows.Goals as goal

pub loop-preserved : goal.loop-preserved
loop-preserved c =
    let n : ℕ = c.loop.counter in
    let all : List SplitRow = split_rows_of c.push.new.self.items in
    let e : all ≡ split_rows_of c.loop.found.items ++ split_row_of c.empty_row.result ∷ [] = grind (arith, common_steps) in
    subst (λ (k : ℕ). all ≡ empty_rows k) (sym (add-one n)) (e ∙ (λ i. c.loop.invariant i ++ c.empty_row.ensures i ∷ []) ∙ empty_rows-more n)
