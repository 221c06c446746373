-- Whether two trees without names are the same.
use Rattle.std.specs.Prelude.{ℕ, ◌+◌, Bool, true, false, ◌&&◌, List, Option, Some, None, bytes_eq, nat_eq}
use Rattle.std.specs.declared.cmp.Ordering.{Ordering}
use Rattle.std.specs.declared.cmp.Ordering.TheVariants.{Less, Equal, Greater}
use Rattle.rdx_term.specs.Tree.{Tree, hole, integer, truth, text, symbol, list, nil, cons}
use Rattle.rdx_term.specs.Order.{tree_cmp}
use Rattle.rdx_alpha.specs.Forms.{Form}
use Rattle.rdx_alpha.specs.Instances.{Role}
use Rattle.rdx_alpha.specs.Nameless.{Nameless, NamelessItems, atom, free, bound, blank, head, several, none, more, around_item, nameless_as, nameless_in}
use Rattle.rdx_alpha.specs.declared.occurrence.Occurrence.{Occurrence}
use Rattle.rdx_alpha.specs.declared.occurrence.Occurrence.TheVariants.{Free, Bound}

abbrev pub is_equal : Ordering → Bool
is_equal Less = false
is_equal Equal = true
is_equal Greater = false

abbrev mutual
  pub same : Nameless → Nameless → Bool
  same (atom t) (atom u) = is_equal (tree_cmp t u)
  same (free s) (free r) = bytes_eq s r
  same (bound d k) (bound e l) = nat_eq d e && nat_eq k l
  same blank blank = true
  same (head s) (head r) = bytes_eq s r
  same (several ns) (several ms) = same_items ns ms
  same n m = false

  pub same_items : NamelessItems → NamelessItems → Bool
  same_items none none = true
  same_items none (more m ms) = false
  same_items (more n ns) none = false
  same_items (more n ns) (more m ms) = same n m && same_items ns ms

-- an atom other than a symbol, or the hole
abbrev pub is_atom : Tree → Bool
is_atom hole = true
is_atom (integer n) = true
is_atom (truth b) = true
is_atom (text s) = true
is_atom (symbol s) = false
is_atom (list m ts) = false

-- the empty list
abbrev pub is_empty : Tree → Bool
is_empty hole = false
is_empty (integer n) = false
is_empty (truth b) = false
is_empty (text s) = false
is_empty (symbol s) = false
is_empty (list m nil) = true
is_empty (list m (cons t ts)) = false

-- an item of this role
abbrev pub nameless_item : List Form → List (List (List ℕ)) → Role → Tree → Nameless
nameless_item fs around r t = nameless_as r t (nameless_in fs (around_item r around) t)

-- what an occurrence of a symbol is
abbrev pub occurrence_of : List ℕ → Occurrence → Nameless
occurrence_of s Free = free s
occurrence_of s (Bound d k) = bound d k

-- a place behind k others
abbrev pub behind : ℕ → Option ℕ → Option ℕ
behind k None = None
behind k (Some j) = Some (k + j)
