-- Marks as they are made, and the terms that they have. No public contract cites it.
use Rattle.std.specs.Prelude.{◌≡◌, ℕ, suc, List, [], ◌∷◌, ◌++◌, Option, Some, None, length, map, bytes_eq, if◌then◌else◌}
use Rattle.std.specs.List.{list_any}
use Rattle.rdx_term.specs.Tree.{Tree}
use Rattle.rdx_lang.specs.Bindings.{Value, one, many, len, Values, none, more, Pair, Unlike, Binding, one_differs, value_at}
use Rattle.rdx_lang.specs.Decompositions.{Decomposition}
use Rattle.rdx_lang.specs.Patterns.{Pattern, Items}
use Rattle.rdx_lang.specs.Variants.{variant}
use Rattle.rdx_opened.specs.Opening.{Mark, Opens, OpensItems}

-- ---- their names

-- the names of the marks are variants of the name x, numbered from n + 1 on
abbrev pub AreMade : List ℕ → ℕ → List Mark → Type 0
AreMade x n [] = Unit {0}
AreMade x n (m ∷ ms) = (m.0 ≡ variant x (suc n)) × AreMade x (suc n) ms

-- o is p opened by marks that are variants of x, which come behind those before
pub record OpensBehind (x : List ℕ) (before after : List Mark) (p o : Pattern) : Type 0 where
  pub added : List Mark
  pub whole : after ≡ before ++ added
  pub opens : Opens p o added
  pub made : AreMade x (length before) added

-- so are the items os for the items ps
pub record OpensItemsBehind (x : List ℕ) (before after : List Mark) (ps os : Items) : Type 0 where
  pub added : List Mark
  pub whole : after ≡ before ++ added
  pub opens : OpensItems ps os added
  pub made : AreMade x (length before) added

-- ---- their terms

abbrev mutual
  -- the terms in a value, in their order
  pub terms_in : Value → List Tree
  terms_in (one t) = t ∷ []
  terms_in (many vs) = all_terms vs
  terms_in (len n) = []

  -- those in each of the values, one after the other
  pub all_terms : Values → List Tree
  all_terms none = []
  all_terms (more v vs) = terms_in v ++ all_terms vs

-- each of the terms with the name
abbrev pub under_name : List ℕ → List Tree → List Unlike
under_name x ts = map (λ t. (x, t)) ts

-- the terms in a value, where there is one
abbrev pub terms_where : Option Value → List Tree
terms_where None = []
terms_where (Some v) = terms_in v

-- the terms that the marks have, each with the mismatch name
abbrev pub marked_terms : List Mark → Binding → List Unlike
marked_terms [] c = []
marked_terms (m ∷ ms) c = under_name m.1 (terms_where (value_at c m.0)) ++ marked_terms ms c

-- each of them as a binding
abbrev pub each_alone : List Unlike → List Binding
each_alone us = map (λ u. one_differs u.0 u.1) us

-- the pairs whose names are none of these
abbrev pub without : List (List ℕ) → List Pair → List Pair
without xs [] = []
without xs (p ∷ ps) = if list_any (bytes_eq p.0) xs then without xs ps else p ∷ without xs ps

-- ---- splits

-- a split into this context and this part
abbrev pub into : Tree → Tree → Binding → Decomposition
into C s c = record { context = C; part = s; binding = c }
