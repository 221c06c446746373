-- The templates and host expressions that the code's stand for.
use Rattle.std.specs.Prelude.{List, [], ◌∷◌}
use Rattle.rdx_term.specs.View.{tree_of}
use Rattle.rdx_lang.specs.Templates.{Template, lit, var, fill, call, host, seq, Items, nil, one, many, Host, term, number, boolean, apply, both, either, Hosts, none, more}
use Rattle.rdx_lang.specs.declared.template.HostExpr as code_host
use Rattle.rdx_lang.specs.declared.template.TItem as code_item
use Rattle.rdx_lang.specs.declared.template.HostExpr.TheOpen as layer
use Rattle.rdx_lang.specs.declared.template.Template as code_template

-- an item of a list template
pub data Part : Type 0 where
  just : Template → Part
  repeated : Template → Part

-- items in their order
abbrev pub items_of : List Part → Items
items_of [] = nil
items_of (just t ∷ parts) = one t (items_of parts)
items_of (repeated t ∷ parts) = many t (items_of parts)

-- host expressions in their order
abbrev pub hosts_of : List Host → Hosts
hosts_of [] = none
hosts_of (h ∷ hs) = more h (hosts_of hs)

-- a form of templates, once its parts are known
abbrev pub template_step : layer.Template-F Host Part Template → Template
template_step (layer.Lit t) = lit (tree_of t)
template_step (layer.Var x d) = var x d
template_step (layer.Fill c t) = fill c.value t.value
template_step (layer.Template::Call f parts) = call f (items_of parts.items)
template_step (layer.Host h) = host h.value
template_step (layer.Seq parts) = seq (items_of parts.items)

-- a form of items, once its parts are known
abbrev pub part_step : layer.TItem-F Host Part Template → Part
part_step (layer.One t) = just t
part_step (layer.Many t) = repeated t

-- a form of host expressions, once its parts are known
abbrev pub host_step : layer.HostExpr-F Host Part Template → Host
host_step (layer.Term t) = term t
host_step (layer.Int n) = number n
host_step (layer.Bool b) = boolean b
host_step (layer.HostExpr::Call op hs) = apply op (hosts_of hs.items)
host_step (layer.And hs) = both (hosts_of hs.items)
host_step (layer.Or hs) = either (hosts_of hs.items)

-- the template that a template of the code stands for
abbrev pub template_of : code_template.Template → Template
template_of = code_template.fold-Template Host Part Template host_step part_step template_step

-- the item that an item of the code stands for
abbrev pub part_of : code_item.TItem → Part
part_of = code_item.fold-TItem Host Part Template host_step part_step template_step

-- the host expression that one of the code stands for
abbrev pub host_of : code_host.HostExpr → Host
host_of = code_host.fold-HostExpr Host Part Template host_step part_step template_step
