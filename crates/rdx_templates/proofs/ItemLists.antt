-- The items of a list template and the arguments of a host expression, read one by one.
use Rattle.std.proofs.Common.{◌≡◌, ◌++◌, Bool, true, false, List, [], ◌∷◌, refl, ap}
use Rattle.rdx_lang.specs.Templates.{Template, Items, nil, one, many, Host, Hosts, none, more}
use Rattle.rdx_lang.specs.TemplateView.{Part, just, repeated, items_of, hosts_of}
use Rattle.rdx_templates.specs.Inside.ItemParts.{item_part}
use Rattle.rdx_templates.specs.TemplateReading.{with_template}

-- the items with those of parts in front
abbrev pub before : List Part → Items → Items
before [] ts = ts
before (just t ∷ ps) ts = one t (before ps ts)
before (repeated t ∷ ps) ts = many t (before ps ts)

-- one part more
pub before-push : (ps : List Part) (b : Bool) (t : Template) (ts : Items) → before (ps ++ item_part b t ∷ []) ts ≡ before ps (with_template b t ts)
before-push [] true t ts = refl
before-push [] false t ts = refl
before-push (just u ∷ ps) b t ts = ap (one u) (before-push ps b t ts)
before-push (repeated u ∷ ps) b t ts = ap (many u) (before-push ps b t ts)

-- no items behind
pub before-nil : (ps : List Part) → before ps nil ≡ items_of ps
before-nil [] = refl
before-nil (just t ∷ ps) = ap (one t) (before-nil ps)
before-nil (repeated t ∷ ps) = ap (many t) (before-nil ps)

-- the host expressions with these in front
abbrev pub hosts_before : List Host → Hosts → Hosts
hosts_before [] hs = hs
hosts_before (g ∷ gs) hs = more g (hosts_before gs hs)

-- one more
pub hosts_before-push : (gs : List Host) (h : Host) (hs : Hosts) → hosts_before (gs ++ h ∷ []) hs ≡ hosts_before gs (more h hs)
hosts_before-push [] h hs = refl
hosts_before-push (g ∷ gs) h hs = ap (more g) (hosts_before-push gs h hs)

-- none behind
pub hosts_before-none : (gs : List Host) → hosts_before gs none ≡ hosts_of gs
hosts_before-none [] = refl
hosts_before-none (g ∷ gs) = ap (more g) (hosts_before-none gs)
