-- The template or the host expression that a datum stands for, where these names are bound. A datum that is refused has one too, which counts for
-- nothing.
use Rattle.std.specs.Prelude.{ℕ, Bool, true, false, List, [], Option, Some, None, if◌then◌else◌}
use Rattle.rdx_sexp.specs.Sexp.{Atom, integer, truth, text, symbol, keyword, Sexp, Sexps, leaf, list, nil, cons}
use Rattle.rdx_term.specs.Spelling.{is_name}
use Rattle.rdx_term.specs.Tree as tree
use Rattle.rdx_lang.specs.Templates as model
use Rattle.rdx_lang.specs.Templates.{Template, lit, var, fill, call, host, seq, Items, Host, term, number, boolean, apply, both, either, Hosts, none, more}
use Rattle.rdx_patterns.specs.Heads.{Role, Roles, item, every, word, pattern, next, rest, is_repeated}
use Rattle.rdx_patterns.specs.Parts.{text_of}
use Rattle.rdx_patterns.specs.Reading.{is_pattern}
use Rattle.rdx_templates.specs.Bound.{Bound, depth_of}
use Rattle.rdx_templates.specs.HostHeads.{HostHead, quoting, applying, all_of, some_of, miscounted, foreign, host_head}
use Rattle.rdx_templates.specs.Scope.{Scope}
use Rattle.rdx_templates.specs.TemplateHeads.{TemplateHead, filling, evaluating, splicing, calling, listing, template_head, template_roles}

-- ---- symbols

-- a name, by the depth with which it is bound, where it is; else it stands for itself
abbrev pub by_depth : List ℕ → Option ℕ → Template
by_depth x None = lit (tree.symbol x)
by_depth x (Some n) = var x n

-- a symbol; the one that is no name is `hole`
abbrev pub symbol_template : Bound → List ℕ → Template
symbol_template bs x = if is_name x then by_depth x (depth_of bs x) else lit tree.hole

-- numbers, booleans and strings stand for themselves; a keyword is refused
abbrev pub atom_template : Bound → Atom → Template
atom_template bs (integer n) = lit (tree.integer n)
atom_template bs (truth b) = lit (tree.truth b)
atom_template bs (text t) = lit (tree.text t)
atom_template bs (symbol x) = symbol_template bs x
atom_template bs (keyword k) = lit tree.hole

-- ---- lists

-- the item templates with this one in front, by itself or under an ellipsis
abbrev pub with_template : Bool → Template → Items → Items
with_template false t ts = model.one t ts
with_template true t ts = model.many t ts

-- the item templates with this one in front, where an item in this role is one
abbrev pub role_template : Option Role → Bool → Template → Items → Items
role_template o repeated t ts = if is_pattern o then with_template repeated t ts else ts

-- the context and what fills it, where these are the two; other lists of that head are refused
abbrev pub filled_by : Items → Template
filled_by model.nil = lit tree.hole
filled_by (model.one c model.nil) = lit tree.hole
filled_by (model.one c (model.one t model.nil)) = fill c t
filled_by (model.one c (model.one t (model.one u ts))) = lit tree.hole
filled_by (model.one c (model.one t (model.many u ts))) = lit tree.hole
filled_by (model.one c (model.many t ts)) = lit tree.hole
filled_by (model.many c ts) = lit tree.hole

-- the text of the head of a list
abbrev pub head_text : Sexps → List ℕ
head_text nil = []
head_text (cons d ds) = text_of d

-- the template of the host expression, where these are the one; others are refused
abbrev pub hosted : Hosts → Template
hosted none = lit tree.hole
hosted (more h none) = host h
hosted (more h (more g hs)) = lit tree.hole

-- a list with such a head, put together from the text of that, from its item templates, and from what stands behind it as host expressions
abbrev pub assembled_template : TemplateHead → List ℕ → Items → Hosts → Template
assembled_template filling f ts hs = filled_by ts
assembled_template evaluating f ts hs = hosted hs
assembled_template splicing f ts hs = lit tree.hole
assembled_template calling f ts hs = call f ts
assembled_template listing f ts hs = seq ts

-- ---- host expressions

-- an integer or a boolean; other atoms are refused
abbrev pub atom_host : Atom → Host
atom_host (integer n) = number n
atom_host (truth b) = boolean b
atom_host (text t) = boolean false
atom_host (symbol x) = boolean false
atom_host (keyword k) = boolean false

-- the host expression of the template, where these are the one; others are refused
abbrev pub quoted : Items → Host
quoted model.nil = boolean false
quoted (model.one t model.nil) = term t
quoted (model.one t (model.one u ts)) = boolean false
quoted (model.one t (model.many u ts)) = boolean false
quoted (model.many t ts) = boolean false

-- a list with such a head, put together from what stands behind it, as templates and as host expressions
abbrev pub assembled_host : HostHead → Items → Hosts → Host
assembled_host quoting ts hs = quoted ts
assembled_host (applying op) ts hs = apply op hs
assembled_host all_of ts hs = both hs
assembled_host some_of ts hs = either hs
assembled_host miscounted ts hs = boolean false
assembled_host foreign ts hs = boolean false

-- ---- data

abbrev mutual
  -- the template of a datum in this scope, where these names are bound
  pub template_reading : Scope → Bound → Sexp → Template
  template_reading S bs (leaf a s) = atom_template bs a
  template_reading S bs (list ds s) =
      assembled_template (template_head S bs ds) (head_text ds) (templates_among S bs (template_roles (template_head S bs ds)) ds) (hosts_behind S bs ds)

  -- the item templates among items in these roles
  pub templates_among : Scope → Bound → Roles → Sexps → Items
  templates_among S bs rs nil = model.nil
  templates_among S bs rs (cons d ds) =
      role_template (next rs d) (is_repeated (rest rs d) ds) (template_reading S bs d) (templates_among S bs (rest rs d) ds)

  -- the host expression of a datum
  pub host_reading : Scope → Bound → Sexp → Host
  host_reading S bs (leaf a s) = atom_host a
  host_reading S bs (list ds s) =
      assembled_host (host_head ds) (templates_among S bs (item word (every pattern)) ds) (hosts_behind S bs ds)

  -- those of data
  pub hosts_among : Scope → Bound → Sexps → Hosts
  hosts_among S bs nil = none
  hosts_among S bs (cons d ds) = more (host_reading S bs d) (hosts_among S bs ds)

  -- those of data behind a head
  pub hosts_behind : Scope → Bound → Sexps → Hosts
  hosts_behind S bs nil = none
  hosts_behind S bs (cons d ds) = hosts_among S bs ds
