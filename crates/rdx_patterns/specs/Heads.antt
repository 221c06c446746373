-- Lists of patterns by their heads: which words give a list a meaning of its own, and what each of its items is there for. Of a list
-- without such a word each item is a pattern, or the ellipsis that repeats the pattern right before it.
use Rattle.std.specs.Prelude.{ℕ, Bool, true, false, not, ◌&&◌, List, Option, Some, None, codes, bytes_eq, if◌then◌else◌}
use Rattle.rdx_sexp.specs.Sexp.{symbol, Sexp, Sexps, leaf, nil, cons}
use Rattle.rdx_patterns.specs.Names.{is_ellipsis}
use Rattle.rdx_patterns.specs.Parts.{is_symbol, is_word, text_of}

-- the kinds of lists
pub data Head : Type 0 where
  -- `(name x p)`
  naming : Head
  -- `(variable-except x ...)`
  avoiding : Head
  -- `(variable-prefix x)`
  prefixing : Head
  -- `(in-hole p q)`
  splitting : Head
  -- `(hide-hole p)`
  hiding : Head
  -- `(cross e)`
  crossing : Head
  -- a list headed by `unquote` or `side-condition`, which would ask Racket
  escaping : Head
  -- every other list, item by item
  plain : Head

-- the kind of list that begins with this word
abbrev pub head_of : List ℕ → Head
head_of x =
    if bytes_eq x (codes "name") then naming
    else if bytes_eq x (codes "variable-except") then avoiding
    else if bytes_eq x (codes "variable-prefix") then prefixing
    else if bytes_eq x (codes "in-hole") then splitting
    else if bytes_eq x (codes "hide-hole") then hiding
    else if bytes_eq x (codes "cross") then crossing
    else if bytes_eq x (codes "unquote") then escaping
    else if bytes_eq x (codes "side-condition") then escaping
    else plain

-- the kind of a list of these data
abbrev pub head_among : Sexps → Head
head_among (cons (leaf (symbol x) s) ds) = head_of x
head_among ds = plain

-- ---- what the items are there for

-- what one item is there for
pub data Role : Type 0 where
  -- the word at the head
  word : Role
  -- a symbol that is bound
  bound : Role
  -- a symbol other than `hole` that stands for no pattern of its own: for itself, for all that begin so, or for a nonterminal by its name
  spelt : Role
  -- a pattern
  pattern : Role
  -- the ellipsis that repeats the pattern before it
  ellipsis : Role
  -- whatever it is; it is not read
  unread : Role

-- what all items of a list are there for
pub data Roles : Type 0 where
  -- no further items
  done : Roles
  -- one item in this role, and behind it others
  item : Role → Roles → Roles
  -- any number of items in this role
  every : Role → Roles
  -- any number of patterns, each with an ellipsis behind it or not; of the item before, an ellipsis would repeat nothing
  patterns : Roles
  -- the same, where the item before is a pattern that an ellipsis may repeat
  repeatable : Roles

-- the table: a row for each kind of list
abbrev pub roles_of : Head → Roles
roles_of naming = item word (item bound (item pattern done))
roles_of avoiding = item word (every spelt)
roles_of prefixing = item word (item spelt done)
roles_of splitting = item word (item pattern (item pattern done))
roles_of hiding = item word (item pattern done)
roles_of crossing = item word (item spelt done)
roles_of escaping = item word (every unread)
roles_of plain = patterns

-- the datum is an ellipsis
abbrev pub is_ellipsis_symbol : Sexp → Bool
is_ellipsis_symbol d = is_symbol d && is_ellipsis (text_of d)

-- the role of the next item, which is d, where there may be one
abbrev pub next : Roles → Sexp → Option Role
next done d = None
next (item r rs) d = Some r
next (every r) d = Some r
next patterns d = Some pattern
next repeatable d = if is_ellipsis_symbol d then Some ellipsis else Some pattern

-- the roles of the items behind it
abbrev pub rest : Roles → Sexp → Roles
rest done d = done
rest (item r rs) d = rs
rest (every r) d = every r
rest patterns d = repeatable
rest repeatable d = if is_ellipsis_symbol d then patterns else repeatable

-- the role is that of an ellipsis
abbrev pub is_of_ellipsis : Option Role → Bool
is_of_ellipsis None = false
is_of_ellipsis (Some word) = false
is_of_ellipsis (Some bound) = false
is_of_ellipsis (Some spelt) = false
is_of_ellipsis (Some pattern) = false
is_of_ellipsis (Some ellipsis) = true
is_of_ellipsis (Some unread) = false

-- the first of the items in these roles is the ellipsis that repeats the item before them
abbrev pub is_repeated : Roles → Sexps → Bool
is_repeated rs nil = false
is_repeated rs (cons d ds) = is_of_ellipsis (next rs d)

-- no item need follow
abbrev pub may_end : Roles → Bool
may_end done = true
may_end (item r rs) = false
may_end (every r) = true
may_end patterns = true
may_end repeatable = true

-- the datum may stand in this role
abbrev pub suits : Option Role → Sexp → Bool
suits None d = false
suits (Some word) d = is_symbol d
suits (Some bound) d = is_symbol d
suits (Some spelt) d = is_symbol d && not (is_word (codes "hole") d)
suits (Some pattern) d = true
suits (Some ellipsis) d = is_symbol d
suits (Some unread) d = true

-- the data may stand in these roles, one by one, and no other is missing
abbrev pub fits : Roles → Sexps → Bool
fits rs nil = may_end rs
fits rs (cons d ds) = suits (next rs d) d && fits (rest rs d) ds

-- a list has the shape that its head asks for
abbrev pub is_shaped : Sexps → Bool
is_shaped ds = fits (roles_of (head_among ds)) ds
