use Rattle.rdx_lang.specs.Shown.{decomposition_of}
use Rattle.rdx_answer.proofs.Contexts.{member_at}
use Rattle.rdx_answer.proofs.texts.write_split_lines.Goals as goal

pub write_split_line-requires : goal.write_split_line-requires
write_split_line-requires c =
    let split = c.split-item.result in
    c.requires (decomposition_of split) (member_at decomposition_of c.args.found.now c.loop-split.split-index split c.loop-split-test.true c.split-item.is)
