use Rattle.std.proofs.Common.{◌≡◌, Some, None, [], ◌∷◌, ◌∙◌, ap}
use Rattle.rdx_delta.specs.Entries.{operations_in}
use Rattle.rdx_delta.specs.Operations.{operations}
use Rattle.rdx_delta.specs.Table.{table_refusal}
use Rattle.rdx_cli.proofs.main.Goals as goal

pub unreachable-requires : goal.unreachable-requires
unreachable-requires c =
    let same : operations_in c.in-Ok.entries.items ≡ operations =
    ap operations_in c.in-Ok.ensures.items
    ∙ (λ i. c.new.ensures i ∷ c.new-2.ensures i ∷ c.new-3.ensures i ∷ c.new-4.ensures i ∷ c.new-5.ensures i ∷ c.new-6.ensures i ∷ c.new-7.ensures i
    ∷ c.new-8.ensures i ∷ c.new-9.ensures i ∷ c.new-10.ensures i ∷ c.new-11.ensures i ∷ c.new-12.ensures i ∷ c.new-13.ensures i ∷ c.new-14.ensures i
    ∷ c.new-15.ensures i ∷ [])
    in
    let none : table_refusal (operations_in c.in-Ok.entries.items) ≡ None = ap table_refusal same in
    let some : table_refusal (operations_in c.in-Ok.entries.items) ≡ Some c.in_default-new.field-0 = c.in_default-new.ensures in
    cc
