-- What items of the code's list templates stand for.
use Rattle.std.proofs.Common.{◌≡◌, ap, ◌∙◌}
use Rattle.rdx_lang.specs.Templates.{Template, Host}
use Rattle.rdx_lang.specs.TemplateView.{template_of, template_step, part_of, part_step, host_of, host_step, Part, just, repeated}
use Rattle.rdx_lang.specs.declared.template.HostExpr as code_host
use Rattle.rdx_lang.specs.declared.template.HostExpr.TheOpen as layer
use Rattle.rdx_lang.specs.declared.template.TItem as code_item
use Rattle.rdx_lang.specs.declared.template.TItem.TheVariants as item_variants
use Rattle.rdx_lang.specs.declared.template.Template as code_template

-- an item, by its form
part_at : (p : code_item.TItem) (o : layer.TItem-F code_host.HostExpr code_item.TItem code_template.Template) → code_item.out-TItem p ≡ o
    → part_of p ≡ part_step (code_item.map-TItem code_host.HostExpr code_item.TItem code_template.Template Host Part Template host_of part_of template_of o)
part_at p o e =
    code_item.fold_out-TItem Host Part Template host_step part_step template_step p
    ∙ ap (λ x. part_step (code_item.map-TItem code_host.HostExpr code_item.TItem code_template.Template Host Part Template host_of part_of template_of x)) e

-- an item by itself
pub part_one : (t : code_template.Template) → part_of (code_item.One t) ≡ just (template_of t)
part_one t = part_at _ _ (item_variants.outs-One t)

-- an item under an ellipsis
pub part_many : (t : code_template.Template) → part_of (code_item.Many t) ≡ repeated (template_of t)
part_many t = part_at _ _ (item_variants.outs-Many t)
