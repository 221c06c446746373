-- What stands in a form of a relation, a metafunction or a judgement, one thing after the other from its beginning to its end, with all that the checks want to
-- know of it: what is bound before it, too. The order of binding is not that of standing: the template of a case or a clause sees the names of its
-- pattern and of all its extras; an extra sees those of the pattern and of the extras before it. Of one extra the pattern comes first, which sees the
-- names before it but for its own, and then the template.
use Rattle.std.specs.Prelude.{ℕ, Bool, true, false, List, [], ◌∷◌, ◌++◌, Option, Some, None, map, flat_map, if◌then◌else◌}
use Rattle.rdx_sexp.specs.Sexp.{Sexp, sexps}
use Rattle.rdx_patterns.specs.Heads.{patterns as items_of_list}
use Rattle.rdx_patterns.specs.Occurrences.{Occurrence, occurrences, occurrences_among}
use Rattle.rdx_patterns.specs.Parts.{text_of}
use Rattle.rdx_patterns.specs.PatternChecks as patterns
use Rattle.rdx_patterns.specs.PatternChecks.{all_bound}
use Rattle.rdx_patterns.specs.declared.patterns.position.Position.TheVariants.{Query}
use Rattle.rdx_templates.specs.Bound.{Bound}
use Rattle.rdx_templates.specs.Scope.{Scope, mode_of}
use Rattle.rdx_parts.specs.Arguments.{Arguments, in_premise, is_misfit, patterns_in}
use Rattle.rdx_parts.specs.ExtraForms.{ExtraForm, such_that, provided, confirmed, holding, freshly, name, no_extra, ExtraPlace, form_at}
use Rattle.rdx_parts.specs.Headed.{Headed, headed}

-- one thing that stands in such a form
pub data Stand : Type 0 where
  -- a form, a case, a clause, a rule, an extra or an option that has not its shape
  misshaped : Sexp → Stand
  -- the name of a metafunction
  function : Sexp → Stand
  -- the name of a judgement where it is defined
  judgement : Sexp → Stand
  -- the name of a judgement in a premise
  asked : Sexp → Stand
  -- the arrow of a case, or an arrow that no shortcut has where one has to stand
  arrow : Sexp → Stand
  -- a pattern in which these stand, and the symbols that bind names before it
  pattern : List patterns.Bound → List Occurrence → Stand
  -- a template, and the names that are bound where it stands
  template : Bound → Sexp → Stand
  -- a host expression, and the names that are bound where it stands
  condition : Bound → Sexp → Stand
  -- what stands in an argument of a conclusion or a premise that is neither a pattern nor a template, since the mode is not known or does not fit
  plain : List Occurrence → Stand
  -- what does not fit the mode of a judgement, or lacks one, and the name of the judgement, where there is one
  misfit : Sexp → Option Sexp → Stand
  -- a name that is made, and the symbols that bind names before it
  fresh : List patterns.Bound → Sexp → Stand
  -- the name of a case or a rule, and whether none may come here
  named : Bool → Sexp → Stand
  -- the arrow of a shortcut, which an earlier one has
  repeated : Sexp → Stand

-- what stands in the arguments of a clause, which are the items of a list pattern
abbrev pub argument_occurrences : List Sexp → List Occurrence
argument_occurrences ds = occurrences_among 0 items_of_list (sexps ds)

-- the symbols that bind names in a pattern in which these stand
abbrev pub bound_among : List (List ℕ) → List Occurrence → List patterns.Bound
bound_among ns os = all_bound ns Query os

-- those in a pattern
abbrev pub bound_in : List (List ℕ) → Sexp → List patterns.Bound
bound_in ns p = bound_among ns (occurrences 0 p)

-- the names that symbols bind, with their depths
abbrev pub names_bound : List patterns.Bound → Bound
names_bound bs = map (λ b. (text_of b.symbol, b.depth)) bs

-- ---- arguments

-- the symbols that bind names in these patterns
abbrev pub bound_by_patterns : List (List ℕ) → List Sexp → List patterns.Bound
bound_by_patterns ns ds = flat_map (bound_in ns) ds

-- what stands in arguments with such flags, behind symbols that bind names before the first pattern, where these names are bound for the templates
abbrev pub flagged_stand : List (List ℕ) → List patterns.Bound → Bound → List Bool → List Sexp → List Stand
flagged_stand ns bs es [] ds = []
flagged_stand ns bs es (f ∷ fs) [] = []
flagged_stand ns bs es (true ∷ fs) (d ∷ ds) = pattern bs (occurrences 0 d) ∷ flagged_stand ns (bs ++ bound_in ns d) es fs ds
flagged_stand ns bs es (false ∷ fs) (d ∷ ds) = template es d ∷ flagged_stand ns bs es fs ds

-- an argument that is neither
abbrev pub plain_argument : Sexp → Stand
plain_argument d = plain (occurrences 0 d)

-- the same where there are flags; without them they are neither patterns nor templates
abbrev pub arguments_by : List (List ℕ) → List patterns.Bound → Bound → Option (List Bool) → List Sexp → List Stand
arguments_by ns bs es None ds = map plain_argument ds
arguments_by ns bs es (Some fs) ds = flagged_stand ns bs es fs ds

-- what stands in arguments
abbrev pub arguments_stand : List (List ℕ) → List patterns.Bound → Bound → Arguments → List Stand
arguments_stand ns bs es a = arguments_by ns bs es a.flags a.items

-- the datum d, where these arguments of it do not fit the mode of the judgement of this name
abbrev pub misfits : Bool → Sexp → Sexp → List Stand
misfits b d x = if b then misfit d (Some x) ∷ [] else []

-- ---- premises

-- the arguments of a premise
abbrev pub premise_arguments : Scope → Headed → Arguments
premise_arguments S q = in_premise (mode_of S (text_of q.head)) q.arguments

-- what stands in the premise d with these parts, behind symbols that bind names: its templates do not see the names of its own patterns
abbrev pub premise_stands : Scope → List (List ℕ) → List patterns.Bound → Sexp → Headed → List Stand
premise_stands S ns bs d q =
    asked q.head
    ∷ misfits (is_misfit (mode_of S (text_of q.head)) q.arguments) d q.head
    ++ arguments_stand ns bs (names_bound bs) (premise_arguments S q)

-- what stands in d, which has to be a premise
abbrev pub held_stands : Scope → List (List ℕ) → List patterns.Bound → Sexp → Option Headed → List Stand
held_stands S ns bs d None = misshaped d ∷ []
held_stands S ns bs d (Some q) = premise_stands S ns bs d q

-- the symbols that bind names in a premise
abbrev pub bound_by_premise : Scope → List (List ℕ) → Option Headed → List patterns.Bound
bound_by_premise S ns None = []
bound_by_premise S ns (Some q) = bound_by_patterns ns (patterns_in (premise_arguments S q))

-- ---- fresh names

-- the symbol binds its name to a symbol
abbrev pub bound_freshly : Sexp → patterns.Bound
bound_freshly d = record { symbol = d; depth = 0 }

-- what stands in names to be made, behind symbols that bind names
abbrev pub fresh_stands : List patterns.Bound → List Sexp → List Stand
fresh_stands bs [] = []
fresh_stands bs (d ∷ ds) = fresh bs d ∷ fresh_stands (bs ++ bound_freshly d ∷ []) ds

-- ---- extras

-- the symbols that bind names in an extra
abbrev pub bound_by_extra : Scope → List (List ℕ) → ExtraForm → List patterns.Bound
bound_by_extra S ns (such_that p t) = bound_in ns p
bound_by_extra S ns (provided h) = []
bound_by_extra S ns (confirmed t) = []
bound_by_extra S ns (holding d) = bound_by_premise S ns (headed d)
bound_by_extra S ns (freshly ds) = map bound_freshly ds
bound_by_extra S ns name = []
bound_by_extra S ns no_extra = []

-- in extras at such a place
abbrev pub bound_by_extras : ExtraPlace → Scope → List (List ℕ) → List Sexp → List patterns.Bound
bound_by_extras k S ns [] = []
bound_by_extras k S ns (d ∷ ds) = bound_by_extra S ns (form_at k d) ++ bound_by_extras k S ns ds

-- what stands in the extra d, behind symbols that bind names; `again` says whether no name may come here, since there is one already, or since
-- clauses have none
abbrev pub extra_stands : Scope → List (List ℕ) → List patterns.Bound → Bool → Sexp → ExtraForm → List Stand
extra_stands S ns bs again d (such_that p t) = pattern bs (occurrences 0 p) ∷ template (names_bound bs) t ∷ []
extra_stands S ns bs again d (provided h) = condition (names_bound bs) h ∷ []
extra_stands S ns bs again d (confirmed t) = template (names_bound bs) t ∷ []
extra_stands S ns bs again d (holding e) = held_stands S ns bs e (headed e)
extra_stands S ns bs again d (freshly ds) = fresh_stands bs ds
extra_stands S ns bs again d name = named again d ∷ []
extra_stands S ns bs again d no_extra = misshaped d ∷ []

-- no name may come behind this extra
abbrev pub is_named : Bool → ExtraForm → Bool
is_named again (such_that p t) = again
is_named again (provided h) = again
is_named again (confirmed t) = again
is_named again (holding d) = again
is_named again (freshly ds) = again
is_named again name = true
is_named again no_extra = again

-- what stands in extras at such a place
abbrev pub extras_stand : ExtraPlace → Scope → List (List ℕ) → List patterns.Bound → Bool → List Sexp → List Stand
extras_stand k S ns bs again [] = []
extras_stand k S ns bs again (d ∷ ds) =
    extra_stands S ns bs again d (form_at k d)
    ++ extras_stand k S ns (bs ++ bound_by_extra S ns (form_at k d)) (is_named again (form_at k d)) ds
