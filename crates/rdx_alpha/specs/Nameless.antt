-- Terms without the names that are bound in them, after de Bruijn, "Lambda calculus notation with nameless dummies" (1972). A body may bind
-- several names, so an occurrence has the number of a body and a place among its names, where de Bruijn has one number. Two terms are alpha
-- equivalent where they are the same without names.
use Rattle.std.specs.Prelude.{ℕ, suc, List, [], ◌∷◌, Option, Some, None, option_map, bytes_eq, if◌then◌else◌}
use Rattle.rdx_term.specs.Tree.{Tree, hole, integer, truth, text, symbol, list, Trees, nil, cons}
use Rattle.rdx_alpha.specs.Forms.{Form}
use Rattle.rdx_alpha.specs.Instances.{Role, of_head, of_binder, of_plain, of_body, roles, first_role, other_roles}

-- The hole, an integer, a truth value or a string as it is; a symbol that no body around it binds; an occurrence of one that a body binds, by
-- the number of bodies between, from the innermost, and its place among that body's names, both from 0; a blank in place of a binder; the
-- head of an instance; or a list.
mutual
  pub data Nameless : Type 0 where
    atom : Tree → Nameless
    free : List ℕ → Nameless
    bound : ℕ → ℕ → Nameless
    blank : Nameless
    head : List ℕ → Nameless
    several : NamelessItems → Nameless

  pub data NamelessItems : Type 0 where
    none : NamelessItems
    more : Nameless → NamelessItems → NamelessItems

-- the place of a name among some, if it is one
abbrev pub place_in : List ℕ → List (List ℕ) → Option ℕ
place_in s [] = None
place_in s (b ∷ bs) = if bytes_eq s b then Some 0 else option_map suc (place_in s bs)

-- An occurrence of a symbol, where it may be one of the names of the body that is d bodies out; if it is none of them it is what else it is.
abbrev pub bound_at : ℕ → Option ℕ → Nameless → Nameless
bound_at d None n = n
bound_at d (Some k) n = bound d k

-- What an occurrence of a symbol is among bodies that bind these names, the innermost first, with d further bodies between. The nearest body
-- that binds it counts.
abbrev pub occurrence : ℕ → List (List (List ℕ)) → List ℕ → Nameless
occurrence d [] s = free s
occurrence d (names ∷ around) s = bound_at d (place_in s names) (occurrence (suc d) around s)

-- the bodies around what stands in an item of this role
abbrev pub around_item : Role → List (List (List ℕ)) → List (List (List ℕ))
around_item of_head around = around
around_item of_binder around = around
around_item of_plain around = around
around_item (of_body names) around = names ∷ around

-- each of these items a blank
abbrev pub blanks : Trees → NamelessItems
blanks nil = none
blanks (cons t ts) = more blank (blanks ts)

-- a binder as a blank, and a list of binders as a list of blanks
abbrev pub blanked : Tree → Nameless
blanked hole = blank
blanked (integer n) = blank
blanked (truth b) = blank
blanked (text s) = blank
blanked (symbol s) = blank
blanked (list m ts) = several (blanks ts)

-- the text of a symbol; nothing else is a head
abbrev pub head_text : Tree → List ℕ
head_text hole = []
head_text (integer n) = []
head_text (truth b) = []
head_text (text s) = []
head_text (symbol s) = s
head_text (list m ts) = []

-- the head of an instance
abbrev pub as_head : Tree → Nameless
as_head t = head (head_text t)

-- an item by its role, where what stands in it is known
abbrev pub nameless_as : Role → Tree → Nameless → Nameless
nameless_as of_head t n = as_head t
nameless_as of_binder t n = blanked t
nameless_as of_plain t n = n
nameless_as (of_body names) t n = n

-- A tree among bodies that bind these names, the innermost first, without the names that are bound. Marks are forgotten.
abbrev mutual
  pub nameless_in : List Form → List (List (List ℕ)) → Tree → Nameless
  nameless_in fs around hole = atom hole
  nameless_in fs around (integer n) = atom (integer n)
  nameless_in fs around (truth b) = atom (truth b)
  nameless_in fs around (text s) = atom (text s)
  nameless_in fs around (symbol s) = occurrence 0 around s
  nameless_in fs around (list m ts) = several (nameless_among fs around (roles fs ts) ts)

  -- items with these roles
  pub nameless_among : List Form → List (List (List ℕ)) → List Role → Trees → NamelessItems
  nameless_among fs around rs nil = none
  nameless_among fs around rs (cons t ts) =
      more (nameless_as (first_role rs) t (nameless_in fs (around_item (first_role rs) around) t)) (nameless_among fs around (other_roles rs) ts)

-- a whole tree
abbrev pub nameless : List Form → Tree → Nameless
nameless fs t = nameless_in fs [] t

-- each symbol x that nothing binds replaced by w
abbrev mutual
  pub put_for : List ℕ → Nameless → Nameless → Nameless
  put_for x w (atom t) = atom t
  put_for x w (free s) = if bytes_eq s x then w else free s
  put_for x w (bound d k) = bound d k
  put_for x w blank = blank
  put_for x w (head s) = head s
  put_for x w (several ns) = several (put_for_all x w ns)

  -- in each of these
  pub put_for_all : List ℕ → Nameless → NamelessItems → NamelessItems
  put_for_all x w none = none
  put_for_all x w (more n ns) = more (put_for x w n) (put_for_all x w ns)
