use Rattle.std.proofs.Common.{get_or, ◌<◌, arith}
use Rattle.std.proofs.lemmas.Str.{lead_after_ascii}
use Rattle.rdx_sexp.proofs.words.keyword_name.Goals as goal

pub range_from-requires : goal.range_from-requires
range_from-requires c =
    let e : get_or c.args.text.now 1 0 < 128 = grind (arith, c.as_bytes-bytes.ensures.value) in
    λ _. (omega arith, λ l h. lead_after_ascii c.args.text.now 1 c.utf8.text e l h)
