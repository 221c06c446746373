-- S1, Shape, in templates and host expressions: a keyword stands in a template, be it in a list that means nothing, or `term` or an operation
-- has a wrong number of arguments. Here no list is a call, since a call has keywords where any list has them. What is no host expression, where one
-- has to stand, is not searched.
use Rattle.std.specs.Prelude.{◌&&◌, List, [], ◌∷◌, ◌++◌, codes, if◌then◌else◌}
use Rattle.rdx_sexp.specs.Sexp.{Atom, integer, truth, text, symbol, keyword, Sexp, Sexps, leaf, list, nil, cons}
use Rattle.rdx_patterns.specs.Occurrences.{keys_in}
use Rattle.rdx_patterns.specs.Parts.{is_word}
use Rattle.rdx_patterns.specs.PatternChecks.{keyword_faults}
use Rattle.rdx_templates.specs.HostHeads.{HostHead, quoting, applying, all_of, some_of, miscounted, foreign, host_head}
use Rattle.rdx_templates.specs.TemplateHeads.{is_pair}

-- the atom, where it is a keyword
abbrev pub keyword_shape : Atom → Sexp → List Sexp
keyword_shape (integer n) d = []
keyword_shape (truth b) d = []
keyword_shape (text t) d = []
keyword_shape (symbol x) d = []
keyword_shape (keyword k) d = d ∷ []

-- such data in a list: those among host expressions behind `unquote`, the keywords behind `unquote-splicing`, and else those among templates
abbrev pub listed_shapes : Sexps → List Sexp → List Sexp → List Sexp
listed_shapes nil ts hs = []
listed_shapes (cons d ds) ts hs =
    if is_word (codes "unquote") d && is_pair (cons d ds) then hs
    else if is_word (codes "unquote-splicing") d then keyword_faults (keys_in ds)
    else ts

-- such data in a list where a host expression has to stand
abbrev pub host_listed_shapes : HostHead → Sexp → List Sexp → List Sexp → List Sexp
host_listed_shapes quoting d ts hs = ts
host_listed_shapes (applying op) d ts hs = hs
host_listed_shapes all_of d ts hs = hs
host_listed_shapes some_of d ts hs = hs
host_listed_shapes miscounted d ts hs = d ∷ []
host_listed_shapes foreign d ts hs = []

abbrev mutual
  -- such data in a template
  pub template_shapes : Sexp → List Sexp
  template_shapes (leaf a s) = keyword_shape a (leaf a s)
  template_shapes (list ds s) = listed_shapes ds (shapes_among ds) (host_shapes_behind ds)

  -- in templates
  pub shapes_among : Sexps → List Sexp
  shapes_among nil = []
  shapes_among (cons d ds) = template_shapes d ++ shapes_among ds

  -- in a host expression
  pub host_shapes : Sexp → List Sexp
  host_shapes (leaf a s) = []
  host_shapes (list ds s) = host_listed_shapes (host_head ds) (list ds s) (shapes_behind ds) (host_shapes_behind ds)

  -- in host expressions
  pub host_shapes_among : Sexps → List Sexp
  host_shapes_among nil = []
  host_shapes_among (cons d ds) = host_shapes d ++ host_shapes_among ds

  -- in host expressions behind a head
  pub host_shapes_behind : Sexps → List Sexp
  host_shapes_behind nil = []
  host_shapes_behind (cons d ds) = host_shapes_among ds

  -- in templates behind a head
  pub shapes_behind : Sexps → List Sexp
  shapes_behind nil = []
  shapes_behind (cons d ds) = shapes_among ds
