use Rattle.std.proofs.Common.{◌≡◌, length, sym, arith}
use Rattle.rdx_lang.specs.TemplateView.{host_of}
use Rattle.rdx_templates.proofs.OneItem.{only_host-other}
use Rattle.rdx_templates.proofs.templates.readings.only_host.Goals as goal

pub returns-then-len-ne1 : goal.returns-then-len-ne1
returns-then-len-ne1 c = let n : length c.args.hosts.items ≡ 1 → ⊥ = omega arith in sym (only_host-other host_of c.args.hosts.items n)
