use Rattle.std.proofs.Common.{◌≡◌, arith}
use Rattle.std.specs.Rc.{rc_str_bytes}
use Rattle.std.proofs.lemmas.Grind.{common_steps}
use Rattle.rdx_sexp.specs.Sexp.{leaf, symbol}
use Rattle.rdx_templates.proofs.HostWords.{host_head-symbol}
use Rattle.rdx_templates.proofs.templates.host_heads.host_head.Goals as goal

pub returns-in-Sym : goal.returns-in-Sym
returns-in-Sym c =
    let f : c.first-item.result ≡ leaf (symbol (rc_str_bytes c.in-Sym.text)) c.first.inside.span = cc in
    let k = host_head-symbol c.args.items.now c.first-item.result (rc_str_bytes c.in-Sym.text) c.first.inside.span (omega (arith, c.in-len1-up.len_at_least)) c.first-item.is f in
    grind (arith, common_steps, k)
