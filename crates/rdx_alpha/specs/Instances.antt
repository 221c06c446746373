-- Instances of binding forms (the Redex reference, "Binding Forms"): the lists that a form's head stands first in and that have just its
-- places, with symbols for binders that all differ.
use Rattle.std.specs.Prelude.{ℕ, suc, Bool, true, false, ◌&&◌, not, List, [], ◌∷◌, ◌++◌, map, Option, Some, None, bytes_eq, nat_eq, if◌then◌else◌}
use Rattle.std.specs.List.{list_any}
use Rattle.rdx_term.specs.Tree.{Tree, hole, integer, truth, text, symbol, list, Trees, nil, cons}
use Rattle.rdx_alpha.specs.Forms.{Place, binder, binders, plain, body, Form}

-- ---- heads

-- this symbol is the head of a form
abbrev pub is_head : List Form → List ℕ → Bool
is_head fs k = list_any (λ f. bytes_eq k f.head) fs

-- the places of the first form with this head, if there is one
abbrev pub places_of : List Form → List ℕ → Option (List Place)
places_of [] k = None
places_of (f ∷ fs) k = if bytes_eq k f.head then Some f.places else places_of fs k

-- the places of the form that a list belongs to in which this item stands first
abbrev pub headed_by : List Form → Tree → Option (List Place)
headed_by fs hole = None
headed_by fs (integer n) = None
headed_by fs (truth b) = None
headed_by fs (text s) = None
headed_by fs (symbol s) = places_of fs s
headed_by fs (list m ts) = None

-- ---- binders

-- the name of a symbol, and none of anything else
abbrev pub symbol_name : Tree → List (List ℕ)
symbol_name hole = []
symbol_name (integer n) = []
symbol_name (truth b) = []
symbol_name (text s) = []
symbol_name (symbol s) = s ∷ []
symbol_name (list m ts) = []

-- the names of the symbols among some items, in order
abbrev pub symbol_names : Trees → List (List ℕ)
symbol_names nil = []
symbol_names (cons t ts) = symbol_name t ++ symbol_names ts

-- the names in a binder place: that of a symbol, or those of a list of symbols
abbrev pub binder_names : Tree → List (List ℕ)
binder_names hole = []
binder_names (integer n) = []
binder_names (truth b) = []
binder_names (text s) = []
binder_names (symbol s) = s ∷ []
binder_names (list m ts) = symbol_names ts

-- the names that the item at such a place binds
abbrev pub names_at : Place → Tree → List (List ℕ)
names_at binder t = binder_names t
names_at binders t = binder_names t
names_at plain t = []
names_at (body js) t = []

-- all names that items at such places bind, in written order
abbrev pub all_names : List Place → Trees → List (List ℕ)
all_names [] ts = []
all_names (p ∷ ps) nil = []
all_names (p ∷ ps) (cons t ts) = names_at p t ++ all_names ps ts

-- Of these names those that stand in the places with these numbers, in written order; the first of these places has the number k.
abbrev pub names_from : List ℕ → ℕ → List Place → Trees → List (List ℕ)
names_from js k [] ts = []
names_from js k (p ∷ ps) nil = []
names_from js k (p ∷ ps) (cons t ts) = (if list_any (nat_eq k) js then names_at p t else []) ++ names_from js (suc k) ps ts

-- the names that a body binds which refers to the places with these numbers
abbrev pub bound_names : List ℕ → List Place → Trees → List (List ℕ)
bound_names js ps ts = names_from js 0 ps ts

-- ---- instances

abbrev pub is_symbol : Tree → Bool
is_symbol hole = false
is_symbol (integer n) = false
is_symbol (truth b) = false
is_symbol (text s) = false
is_symbol (symbol s) = true
is_symbol (list m ts) = false

-- all items are symbols
abbrev pub are_symbols : Trees → Bool
are_symbols nil = true
are_symbols (cons t ts) = is_symbol t && are_symbols ts

-- a list of symbols
abbrev pub is_symbol_list : Tree → Bool
is_symbol_list hole = false
is_symbol_list (integer n) = false
is_symbol_list (truth b) = false
is_symbol_list (text s) = false
is_symbol_list (symbol s) = false
is_symbol_list (list m ts) = are_symbols ts

-- this item may stand in such a place
abbrev pub fits_place : Place → Tree → Bool
fits_place binder t = is_symbol t
fits_place binders t = is_symbol_list t
fits_place plain t = true
fits_place (body js) t = true

-- there is one item for each place, which may stand there
abbrev pub fits : List Place → Trees → Bool
fits [] nil = true
fits [] (cons t ts) = false
fits (p ∷ ps) nil = false
fits (p ∷ ps) (cons t ts) = fits_place p t && fits ps ts

-- no name comes twice
abbrev pub are_distinct : List (List ℕ) → Bool
are_distinct [] = true
are_distinct (s ∷ ss) = not (list_any (bytes_eq s) ss) && are_distinct ss

-- with these items behind a head the list is an instance of the form with these places
abbrev pub is_instance : List Place → Trees → Bool
is_instance ps ts = fits ps ts && are_distinct (all_names ps ts)

-- A list is well headed where it is headed by no form's head or is an instance: what stands behind its first item decides, where that is
-- headed.
abbrev pub is_well_headed_by : Option (List Place) → Trees → Bool
is_well_headed_by None ts = true
is_well_headed_by (Some ps) ts = is_instance ps ts

abbrev pub is_well_headed : List Form → Trees → Bool
is_well_headed fs nil = true
is_well_headed fs (cons t ts) = is_well_headed_by (headed_by fs t) ts

-- ---- the parts of an instance

-- What an item of a list is: the head of an instance, what stands in a binder place of one, an item in which names mean what they mean outside of
-- the list, or a body, which binds these names.
pub data Role : Type 0 where
  of_head : Role
  of_binder : Role
  of_plain : Role
  of_body : List (List ℕ) → Role

-- the role of what stands in such a place, of an instance that has all those places with those items
abbrev pub place_role : List Place → Trees → Place → Role
place_role all items binder = of_binder
place_role all items binders = of_binder
place_role all items plain = of_plain
place_role all items (body js) = of_body (bound_names js all items)

abbrev pub place_roles : List Place → Trees → List Place → List Role
place_roles all items ps = map (place_role all items) ps

-- each item is plain
abbrev pub plain_roles : Trees → List Role
plain_roles nil = []
plain_roles (cons t ts) = of_plain ∷ plain_roles ts

-- the roles of an item and of those behind it, where a form with these places has the item as its head, or none
abbrev pub roles_by : Option (List Place) → Trees → List Role
roles_by None ts = of_plain ∷ plain_roles ts
roles_by (Some ps) ts = if is_instance ps ts then of_head ∷ place_roles ps ts ps else of_plain ∷ plain_roles ts

-- The roles of the items of a list: those of an instance, or all are plain.
abbrev pub roles : List Form → Trees → List Role
roles fs nil = []
roles fs (cons t ts) = roles_by (headed_by fs t) ts

-- The role of the first item, where these are the roles of all. There is a role for each item, so that it does not matter what is said where there is
-- none.
abbrev pub first_role : List Role → Role
first_role [] = of_plain
first_role (r ∷ rs) = r

-- the roles of the others
abbrev pub other_roles : List Role → List Role
other_roles [] = []
other_roles (r ∷ rs) = rs
