-- The items of list templates, and the arguments of host expressions.
use Rattle.std.specs.Prelude.{Bool, Option, Some, None, if◌then◌else◌}
use Rattle.rdx_lang.specs.TemplateView.{Part, just, repeated}
use Rattle.rdx_lang.specs.Templates.{Template, Items, nil, one, many, Host, Hosts, none, more}

-- the item of a template, by itself or under an ellipsis
abbrev pub item_part : Bool → Template → Part
item_part b t = if b then repeated t else just t

-- the template of a list of one item that no ellipsis repeats
abbrev pub only_item : Items → Option Template
only_item nil = None
only_item (one t nil) = Some t
only_item (one t (one u ts)) = None
only_item (one t (many u ts)) = None
only_item (many t ts) = None

-- the templates of a list of two such items
abbrev pub only_items : Items → Option (Template × Template)
only_items nil = None
only_items (one c nil) = None
only_items (one c (one t nil)) = Some (c, t)
only_items (one c (one t (one u ts))) = None
only_items (one c (one t (many u ts))) = None
only_items (one c (many t ts)) = None
only_items (many c ts) = None

-- the host expression of a list of one
abbrev pub only_host : Hosts → Option Host
only_host none = None
only_host (more h none) = Some h
only_host (more h (more g hs)) = None
