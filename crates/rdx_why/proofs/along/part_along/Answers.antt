use Rattle.std.proofs.Common.{refl, sym, ◌∙◌, true≢false}
use Rattle.rdx_term.specs.View.{tree_of}
use Rattle.rdx_why.proofs.KnownContexts.{along_context}
use Rattle.rdx_why.proofs.along.part_along.Goals as goal

pub unreachable-requires : goal.unreachable-requires
unreachable-requires c =
    let h = along_context (tree_of c.args.t.now) (tree_of c.args.context.now) c.requires.0 c.requires.1 in
    let none = rw c.in_default.is at c.in_ok-path.ensures.none in
    true≢false (sym h ∙ none.0 refl)
