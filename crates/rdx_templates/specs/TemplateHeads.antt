-- Lists of templates by their heads. `(in-hole c t)`, `(unquote h)` and `(unquote-splicing d ...)` have a meaning of their own, and so has a list
-- that begins with the name of a metafunction, unless that is bound. In every other list each item is a template, or the ellipsis behind one.
use Rattle.std.specs.Prelude.{Bool, true, false, not, ◌&&◌, is_some, codes, if◌then◌else◌}
use Rattle.rdx_sexp.specs.Sexp.{Sexp, Sexps, nil, cons}
use Rattle.rdx_patterns.specs.Heads.{Roles, item, every, patterns, word, pattern}
use Rattle.rdx_patterns.specs.Parts.{is_symbol, is_word, text_of}
use Rattle.rdx_templates.specs.Bound.{Bound, depth_of}
use Rattle.rdx_templates.specs.Scope.{Scope, has_metafunction}

-- the kinds of lists
pub data TemplateHead : Type 0 where
  -- `(in-hole c t)`
  filling : TemplateHead
  -- `(unquote h)`, of one item behind the head
  evaluating : TemplateHead
  -- `(unquote-splicing d ...)`, which would ask Racket
  splicing : TemplateHead
  -- `(f t ...)`, where f is a metafunction
  calling : TemplateHead
  -- every other list, item by item
  listing : TemplateHead

-- there are two data
abbrev pub is_pair : Sexps → Bool
is_pair (cons d (cons e nil)) = true
is_pair ds = false

-- there are three
abbrev pub is_triple : Sexps → Bool
is_triple (cons d (cons e (cons f nil))) = true
is_triple ds = false

-- the datum is the name of a metafunction, and is not bound
abbrev pub is_called : Scope → Bound → Sexp → Bool
is_called S bs d = is_symbol d && (not (is_some (depth_of bs (text_of d))) && has_metafunction S (text_of d))

-- the kind of a list of these data
abbrev pub template_head : Scope → Bound → Sexps → TemplateHead
template_head S bs nil = listing
template_head S bs (cons d ds) =
    if is_word (codes "in-hole") d then filling
    else if is_word (codes "unquote") d && is_pair (cons d ds) then evaluating
    else if is_word (codes "unquote-splicing") d then splicing
    else if is_called S bs d then calling
    else listing

-- what the items of such a list are there for, where a pattern is to be read as a template; those of the others are none
abbrev pub template_roles : TemplateHead → Roles
template_roles filling = item word (every pattern)
template_roles evaluating = item word (every word)
template_roles splicing = item word (every word)
template_roles calling = item word patterns
template_roles listing = patterns
