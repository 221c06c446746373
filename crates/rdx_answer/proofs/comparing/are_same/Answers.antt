use Rattle.std.proofs.Common.{List, map, sym, ◌∙◌}
use Rattle.rdx_term.specs.Tree.{Tree}
use Rattle.rdx_term.specs.View.{tree_of}
use Rattle.rdx_answer.proofs.SameTexts.{same-keys, keys-same, same-listed, listed-same}
use Rattle.rdx_answer.specs.Inside.Comparing.{bytes_in}
use Rattle.rdx_answer.proofs.comparing.are_same.Goals as goal

pub returns : goal.returns
returns c =
    let found : List Tree = map tree_of c.args.found.now in
    let wanted : List Tree = map tree_of c.args.wanted.now in
    let a = c.in_ok-texts_of in
    let b = c.in_ok-texts_of-2 in (
      λ h. same-listed found wanted a.ensures.valid b.ensures.valid (bytes_in a.field-0) (bytes_in b.field-0) a.ensures.texts b.ensures.texts
          (same-keys (λ v. v.items) a.field-0.keys b.field-0.keys (sym c.eq.ensures ∙ h)),
      λ s. c.eq.ensures ∙ keys-same (λ v. v.items) a.field-0.keys b.field-0.keys
          (listed-same found wanted a.ensures.valid b.ensures.valid (bytes_in a.field-0) (bytes_in b.field-0) a.ensures.texts b.ensures.texts s),
    )
