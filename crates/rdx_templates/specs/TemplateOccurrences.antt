-- What stands in a template or a host expression, one thing after the other from its beginning to its end, with all that the checks behind S1 want
-- to know of it: of a symbol also how many ellipses stand around it.
use Rattle.std.specs.Prelude.{ℕ, Bool, true, false, List, [], ◌∷◌, ◌++◌, if◌then◌else◌}
use Rattle.rdx_sexp.specs.Sexp.{Atom, integer, truth, text, symbol, keyword, Sexp, Sexps, leaf, list, nil, cons}
use Rattle.rdx_patterns.specs.Heads.{Roles, item, every, word, pattern, next, rest, is_repeated}
use Rattle.rdx_patterns.specs.Occurrences.{deeper}
use Rattle.rdx_patterns.specs.Reading.{is_pattern}
use Rattle.rdx_templates.specs.Bound.{Bound}
use Rattle.rdx_templates.specs.HostHeads.{HostHead, quoting, applying, all_of, some_of, miscounted, foreign, host_head}
use Rattle.rdx_templates.specs.Scope.{Scope}
use Rattle.rdx_templates.specs.TemplateHeads.{TemplateHead, filling, evaluating, splicing, calling, listing, template_head, template_roles, is_triple}

-- one thing that stands in a template
pub data TemplatePart : Type 0 where
  -- a symbol that is a template
  single : ℕ → Sexp → TemplatePart
  -- an item that an ellipsis repeats
  repeated : Sexp → TemplatePart
  -- a list that has not the shape that its head asks for
  malformed : Sexp → TemplatePart
  -- what would ask Racket
  escape : Sexp → TemplatePart

-- what stands in an atom, around which n ellipses stand
abbrev pub atom_parts : ℕ → Atom → Sexp → List TemplatePart
atom_parts n (integer z) d = []
atom_parts n (truth b) d = []
atom_parts n (text t) d = []
atom_parts n (symbol x) d = single n d ∷ []
atom_parts n (keyword k) d = []

-- in an atom where a host expression has to stand: integers and booleans are some
abbrev pub host_atom_parts : Atom → Sexp → List TemplatePart
host_atom_parts (integer z) d = []
host_atom_parts (truth b) d = []
host_atom_parts (text t) d = escape d ∷ []
host_atom_parts (symbol x) d = escape d ∷ []
host_atom_parts (keyword k) d = escape d ∷ []

-- the item, where an ellipsis repeats it
abbrev pub repeated_when : Bool → Sexp → List TemplatePart
repeated_when false d = []
repeated_when true d = repeated d ∷ []

-- in a list with this head, three items or not, in whose items these stand as templates, and these as host expressions
abbrev pub listed_parts : TemplateHead → Bool → Sexp → List TemplatePart → List TemplatePart → List TemplatePart
listed_parts filling true d ts hs = ts
listed_parts filling false d ts hs = malformed d ∷ []
listed_parts evaluating three d ts hs = hs
listed_parts splicing three d ts hs = escape d ∷ []
listed_parts calling three d ts hs = ts
listed_parts listing three d ts hs = ts

-- in a list with this head where a host expression has to stand; S1 refuses one that is miscounted
abbrev pub host_listed_parts : HostHead → Sexp → List TemplatePart → List TemplatePart → List TemplatePart
host_listed_parts quoting d ts hs = ts
host_listed_parts (applying op) d ts hs = hs
host_listed_parts all_of d ts hs = hs
host_listed_parts some_of d ts hs = hs
host_listed_parts miscounted d ts hs = []
host_listed_parts foreign d ts hs = escape d ∷ []

abbrev mutual
  -- what stands in a template around which n ellipses stand
  pub template_parts : Scope → Bound → ℕ → Sexp → List TemplatePart
  template_parts S bs n (leaf a s) = atom_parts n a (leaf a s)
  template_parts S bs n (list ds s) =
      listed_parts (template_head S bs ds) (is_triple ds) (list ds s) (parts_among S bs n (template_roles (template_head S bs ds)) ds)
      (host_parts_behind S bs n ds)

  -- in items in these roles
  pub parts_among : Scope → Bound → ℕ → Roles → Sexps → List TemplatePart
  parts_among S bs n rs nil = []
  parts_among S bs n rs (cons d ds) =
      (if is_pattern (next rs d)
      then repeated_when (is_repeated (rest rs d) ds) d ++ template_parts S bs (deeper (is_repeated (rest rs d) ds) n) d
      else []) ++ parts_among S bs n (rest rs d) ds

  -- in a host expression around which n ellipses stand
  pub host_parts : Scope → Bound → ℕ → Sexp → List TemplatePart
  host_parts S bs n (leaf a s) = host_atom_parts a (leaf a s)
  host_parts S bs n (list ds s) =
      host_listed_parts (host_head ds) (list ds s) (parts_among S bs n (item word (every pattern)) ds) (host_parts_behind S bs n ds)

  -- in host expressions
  pub host_parts_among : Scope → Bound → ℕ → Sexps → List TemplatePart
  host_parts_among S bs n nil = []
  host_parts_among S bs n (cons d ds) = host_parts S bs n d ++ host_parts_among S bs n ds

  -- in host expressions behind a head
  pub host_parts_behind : Scope → Bound → ℕ → Sexps → List TemplatePart
  host_parts_behind S bs n nil = []
  host_parts_behind S bs n (cons d ds) = host_parts_among S bs n ds
