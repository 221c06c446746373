use Rattle.std.proofs.Common.{ap, ◌∙◌, option_map, take, drop, length, ◌-◌}
use Rattle.rdx_templates.specs.Earliest.{earliest, start}
use Rattle.rdx_forms.specs.Inside.OptionViews.{kinds_of}
use Rattle.rdx_forms.specs.Options.{pair_fault, option_faults}
use Rattle.rdx_forms.proofs.OptionFaults.{pair-first, faults-behind}
use Rattle.rdx_forms.proofs.options.option_fault.Goals as goal

pub loop-rest-preserved : goal.loop-rest-preserved
loop-rest-preserved c =
    let k = c.keyword-item.result in
    let v = c.value-item.result in
    let xs = c.loop-rest.rest.now in
    faults-behind (kinds_of c.loop-rest.left) (kinds_of c.behind-left.result) k v xs (take (length xs - 2) (drop 2 xs))
    (option_map (λ d. d.now) c.loop-rest.least) (option_map (λ d. d.now) c.pair_fault.result) (option_map (λ d. d.now) c.earlier-least.result)
    (earliest start (option_faults (kinds_of c.args.allowed) c.args.items.now))
    (pair-first xs k v c.in-len2-up.len_at_least c.keyword-item.is c.value-item.is)
    (c.pair_fault.ensures ∙ ap (λ o. earliest start (pair_fault o k v)) c.kind.ensures)
    c.earlier-least.ensures c.behind-left.ensures c.loop-rest.invariant
