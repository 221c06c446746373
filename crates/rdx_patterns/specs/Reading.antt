-- The pattern that a datum stands for. A datum that is refused has a pattern too, which counts for nothing, but for what would ask Racket:
-- a language with such a list in it is looked at for left recursion before it is refused for that.
use Rattle.std.specs.Prelude.{ℕ, Bool, true, false, List, [], ◌∷◌, ◌++◌, Option, Some, None, codes, bytes_eq, if◌then◌else◌}
use Rattle.std.specs.Bool.{then_some}
use Rattle.rdx_sexp.specs.Sexp.{Atom, integer, truth, text, symbol, keyword, Sexp, Sexps, leaf, list, nil, cons}
use Rattle.rdx_term.specs.Spelling.{is_name}
use Rattle.rdx_term.specs.Tree as tree
use Rattle.rdx_lang.specs.Patterns.{Pattern, wild, of_kind, except, prefix, hole, lit, nt, named, differ, in_hole, hide_hole, seq, Items}
use Rattle.rdx_lang.specs.PatternView.{Slot, just, repeated}
use Rattle.rdx_lang.specs.Patterns as model
use Rattle.rdx_lang.specs.declared.pattern.Kind.{Kind}
use Rattle.rdx_lang.specs.declared.pattern.Ref.TheVariants.{Nt, Cross}
use Rattle.rdx_patterns.specs.Heads.{Head, naming, avoiding, prefixing, splitting, hiding, crossing, escaping, plain, Role, word, bound, spelt, pattern, ellipsis, unread, Roles, roles_of, head_among, next, rest, is_shaped}
use Rattle.rdx_patterns.specs.Kinds.{kind_of, is_among}
use Rattle.rdx_patterns.specs.Names.{has_suffix, front, is_mismatch}
use Rattle.rdx_patterns.specs.Parts.{text_of}
use Rattle.rdx_patterns.specs.declared.patterns.position.Position.{Position}
use Rattle.rdx_patterns.specs.declared.patterns.position.Position.TheVariants.{Grammar, Query}

-- ---- symbols

-- the built-in name or the nonterminal of this name, over these nonterminals
abbrev pub base_of : List (List ℕ) → List ℕ → Option Kind → Option Pattern
base_of ns x (Some k) = Some (of_kind k)
base_of ns x None = if is_among ns x then Some (nt (Nt x)) else None

-- the pattern of a name without a suffix
abbrev pub base : List (List ℕ) → List ℕ → Option Pattern
base ns x = base_of ns x (kind_of x)

-- without a suffix such a pattern binds its own name outside grammars, and nothing in them
abbrev pub unsuffixed : Position → List ℕ → Pattern → Pattern
unsuffixed Grammar x p = p
unsuffixed Query x p = named x p

-- what `x` with its suffix stands for, by what stands before the suffix: it binds all of x, or all of x is a mismatch name
abbrev pub suffixed : List ℕ → Option Pattern → Pattern
suffixed x None = wild
suffixed x (Some p) = if is_mismatch x then differ x p else named x p

-- a symbol that is neither: one with a suffix, or a literal
abbrev pub other_symbol : List (List ℕ) → List ℕ → Pattern
other_symbol ns x = if has_suffix x then suffixed x (base ns (front x)) else lit (tree.symbol x)

-- a symbol, by the base of its whole text
abbrev pub by_base : List (List ℕ) → Position → List ℕ → Option Pattern → Pattern
by_base ns pos x (Some p) = unsuffixed pos x p
by_base ns pos x None = other_symbol ns x

-- a symbol: `_` matches everything, `hole` is the hole, and both bind nothing; every other symbol of a file is a name
abbrev pub symbol_reading : List (List ℕ) → Position → List ℕ → Pattern
symbol_reading ns pos x =
    if bytes_eq x (codes "_") then wild
    else if bytes_eq x (codes "hole") then hole
    else if is_name x then by_base ns pos x (base ns x)
    else wild

-- numbers, booleans and strings stand for themselves; a keyword is refused
abbrev pub atom_reading : List (List ℕ) → Position → Atom → Pattern
atom_reading ns pos (integer n) = lit (tree.integer n)
atom_reading ns pos (truth b) = lit (tree.truth b)
atom_reading ns pos (text t) = lit (tree.text t)
atom_reading ns pos (symbol x) = symbol_reading ns pos x
atom_reading ns pos (keyword k) = wild

-- ---- lists

-- the name that a symbol is, where it is one
abbrev pub name_in : Sexp → List (List ℕ)
name_in d = if is_name (text_of d) then text_of d ∷ [] else []

-- what an item in this role gives as a name
abbrev pub role_names : Option Role → Sexp → List (List ℕ)
role_names None d = []
role_names (Some word) d = []
role_names (Some bound) d = name_in d
role_names (Some spelt) d = name_in d
role_names (Some pattern) d = []
role_names (Some ellipsis) d = []
role_names (Some unread) d = []

-- the names among items in these roles
abbrev pub names_among : Roles → Sexps → List (List ℕ)
names_among rs nil = []
names_among rs (cons d ds) = role_names (next rs d) d ++ names_among (rest rs d) ds

-- an item in this role is a pattern
abbrev pub is_pattern : Option Role → Bool
is_pattern None = false
is_pattern (Some word) = false
is_pattern (Some bound) = false
is_pattern (Some spelt) = false
is_pattern (Some pattern) = true
is_pattern (Some ellipsis) = false
is_pattern (Some unread) = false

-- the length name of an ellipsis with this text: none of `...`; every symbol of a file is a name
abbrev pub length_name : List ℕ → Option (List ℕ)
length_name x = if bytes_eq x (codes "...") then None else then_some (is_name x) x

-- the ellipsis that an item in this role is, where it is one, by its length name
abbrev pub ellipsis_in : Option Role → Sexp → Option (Option (List ℕ))
ellipsis_in None d = None
ellipsis_in (Some word) d = None
ellipsis_in (Some bound) d = None
ellipsis_in (Some spelt) d = None
ellipsis_in (Some pattern) d = None
ellipsis_in (Some ellipsis) d = Some (length_name (text_of d))
ellipsis_in (Some unread) d = None

-- the ellipsis with which the items in these roles begin, which repeats the item before them, where there is one
abbrev pub ellipsis_behind : Roles → Sexps → Option (Option (List ℕ))
ellipsis_behind rs nil = None
ellipsis_behind rs (cons d ds) = ellipsis_in (next rs d) d

-- the item of a pattern, by itself or repeated by the ellipsis behind it
abbrev pub item_slot : Option (Option (List ℕ)) → Pattern → Slot
item_slot None p = just p
item_slot (Some n) p = repeated p n

-- the item patterns, with this item in front
abbrev pub with_item : Slot → Items → Items
with_item (just p) ps = model.one p ps
with_item (repeated p n) ps = model.many p n ps

-- the item patterns, with this one in front where it is one
abbrev pub role_items : Option Role → Option (Option (List ℕ)) → Pattern → Items → Items
role_items o e p ps = if is_pattern o then with_item (item_slot e p) ps else ps

-- the member of a list of one
abbrev pub only : {A : Type 0} → List A → Option A
only (x ∷ []) = Some x
only xs = None

-- the item pattern of a list pattern of one
abbrev pub only_item : Items → Option Pattern
only_item model.nil = None
only_item (model.one p model.nil) = Some p
only_item (model.one p (model.one q ps)) = None
only_item (model.one p (model.many q n ps)) = None
only_item (model.many p n ps) = None

-- the item patterns of a list pattern of two
abbrev pub only_items : Items → Option (Pattern × Pattern)
only_items model.nil = None
only_items (model.one p model.nil) = None
only_items (model.one p (model.one q model.nil)) = Some (p, q)
only_items (model.one p (model.one q (model.one r ps))) = None
only_items (model.one p (model.one q (model.many r n ps))) = None
only_items (model.one p (model.many q n ps)) = None
only_items (model.many p n ps) = None

-- what begins with this name, where there is one
abbrev pub prefixed : Option (List ℕ) → Pattern
prefixed None = wild
prefixed (Some x) = prefix x

-- this pattern bound to this name, where there are both
abbrev pub bound_to : Option (List ℕ) → Option Pattern → Pattern
bound_to None o = wild
bound_to (Some x) None = wild
bound_to (Some x) (Some p) = named x p

-- a pattern for contexts with one for what stands in their hole, where there are both
abbrev pub split_by : Option (Pattern × Pattern) → Pattern
split_by None = wild
split_by (Some x) = in_hole x.0 x.1

-- this pattern with its contexts hidden, where there is one
abbrev pub hidden : Option Pattern → Pattern
hidden None = wild
hidden (Some p) = hide_hole p

-- the contexts from the nonterminal of this name to itself, where there is one
abbrev pub across_itself : Option (List ℕ) → Pattern
across_itself None = wild
across_itself (Some x) = nt (Cross x x)

-- a list with such a head, put together from the names and the patterns among its items
abbrev pub assembled : Head → List (List ℕ) → Items → Pattern
assembled naming xs ps = bound_to (only xs) (only_item ps)
assembled avoiding xs ps = except xs
assembled prefixing xs ps = prefixed (only xs)
assembled splitting xs ps = split_by (only_items ps)
assembled hiding xs ps = hidden (only_item ps)
assembled crossing xs ps = across_itself (only xs)
assembled escaping xs ps = wild
assembled plain xs ps = seq ps

abbrev mutual
  -- the pattern of a datum over these nonterminals, in a grammar or outside; a list without its shape is refused, and so is one that
  -- would ask Racket
  pub reading : List (List ℕ) → Position → Sexp → Pattern
  reading ns pos (leaf a s) = atom_reading ns pos a
  reading ns pos (list ds s) =
      if is_shaped ds
      then assembled (head_among ds) (names_among (roles_of (head_among ds)) ds) (items_among ns pos (roles_of (head_among ds)) ds)
      else wild

  -- the item patterns among items in these roles
  pub items_among : List (List ℕ) → Position → Roles → Sexps → Items
  items_among ns pos rs nil = model.nil
  items_among ns pos rs (cons d ds) =
      role_items (next rs d) (ellipsis_behind (rest rs d) ds) (reading ns pos d) (items_among ns pos (rest rs d) ds)
