-- What stands in a pattern, one thing after the other from its beginning to its end, with all that the checks want to know of it: of what
-- may bind a name also how many repetitions stand around it.
use Rattle.std.specs.Prelude.{ℕ, suc, Bool, List, [], ◌∷◌, ◌++◌, Option, Some, None, if◌then◌else◌}
use Rattle.rdx_sexp.specs.Sexp.{Atom, integer, truth, text, symbol, keyword, Sexp, Sexps, leaf, list, nil, cons}
use Rattle.rdx_patterns.specs.Heads.{Head, naming, avoiding, prefixing, splitting, hiding, crossing, escaping, plain, Role, word, bound, spelt, pattern, ellipsis, unread, Roles, roles_of, head_among, next, rest, is_repeated, is_shaped}

-- one thing that stands in a pattern
pub data Occurrence : Type 0 where
  -- a keyword
  key : Sexp → Occurrence
  -- a symbol that is bound, as by `(name x p)`
  binder : ℕ → Sexp → Occurrence
  -- a symbol that is a pattern
  single : ℕ → Sexp → Occurrence
  -- the ellipsis of a repetition, which does not count as one around itself
  repeats : ℕ → Sexp → Occurrence
  -- a symbol that `variable-except`, `variable-prefix` or `cross` names
  excepted : Sexp → Occurrence
  -- a list `(cross e)`
  across : Sexp → Occurrence
  -- a list that has not the shape that its head asks for
  malformed : Sexp → Occurrence
  -- a list that would ask Racket
  escape : Sexp → Occurrence

-- ---- keywords

-- the keywords in a datum
abbrev mutual
  pub keys : Sexp → List Occurrence
  keys (leaf (keyword k) s) = key (leaf (keyword k) s) ∷ []
  keys (leaf a s) = []
  keys (list ds s) = keys_in ds

  -- and in several data
  pub keys_in : Sexps → List Occurrence
  keys_in nil = []
  keys_in (cons d ds) = keys d ++ keys_in ds

-- ---- patterns

-- what stands in an atom, around which n repetitions stand: literals are never refused
abbrev pub atom_occurrences : ℕ → Atom → Sexp → List Occurrence
atom_occurrences n (integer z) d = []
atom_occurrences n (truth b) d = []
atom_occurrences n (text t) d = []
atom_occurrences n (symbol x) d = single n d ∷ []
atom_occurrences n (keyword k) d = key d ∷ []

-- what an item in this role is, where these stand in it as a pattern
abbrev pub role_occurrences : ℕ → Option Role → Sexp → List Occurrence → List Occurrence
role_occurrences n None d os = []
role_occurrences n (Some word) d os = []
role_occurrences n (Some bound) d os = binder n d ∷ []
role_occurrences n (Some spelt) d os = excepted d ∷ []
role_occurrences n (Some pattern) d os = os
role_occurrences n (Some ellipsis) d os = repeats n d ∷ []
role_occurrences n (Some unread) d os = keys d

-- one repetition more, where there is one
abbrev pub deeper : Bool → ℕ → ℕ
deeper b n = if b then suc n else n

-- the list, where its head is `cross`, or one that would ask Racket
abbrev pub head_occurrences : Head → Sexp → List Occurrence
head_occurrences naming d = []
head_occurrences avoiding d = []
head_occurrences prefixing d = []
head_occurrences splitting d = []
head_occurrences hiding d = []
head_occurrences crossing d = across d ∷ []
head_occurrences escaping d = escape d ∷ []
head_occurrences plain d = []

abbrev mutual
  -- what stands in a pattern around which n repetitions stand; of a list without its shape, the list itself and the keywords in it
  pub occurrences : ℕ → Sexp → List Occurrence
  occurrences n (leaf a s) = atom_occurrences n a (leaf a s)
  occurrences n (list ds s) =
      if is_shaped ds
      then head_occurrences (head_among ds) (list ds s) ++ occurrences_among n (roles_of (head_among ds)) ds
      else malformed (list ds s) ∷ keys_in ds

  -- in items in these roles
  pub occurrences_among : ℕ → Roles → Sexps → List Occurrence
  occurrences_among n rs nil = []
  occurrences_among n rs (cons d ds) =
      role_occurrences n (next rs d) d (occurrences (deeper (is_repeated (rest rs d) ds) n) d) ++ occurrences_among n (rest rs d) ds
