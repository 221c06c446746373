-- What a binding has to meet, as it is written: behind the template of a case or a clause, or among the premises of a rule. What makes fresh names
-- stands in cases alone.
use Rattle.std.specs.Prelude.{Bool, true, false, ◌&&◌, ◌||◌, List, [], ◌∷◌, Option, Some, None, is_some, codes, if◌then◌else◌}
use Rattle.std.specs.List.{list_all}
use Rattle.rdx_sexp.specs.Sexp.{integer, truth, text, symbol, keyword, Sexp, leaf, list}
use Rattle.rdx_patterns.specs.Parts.{parts, is_symbol, is_word}
use Rattle.rdx_parts.specs.Headed.{headed}

-- `(where p t)`; `(side-condition h)`, which in a rule is `(side-condition t)` and stands for the host expression `(term t)`; a premise
-- `(K d ...)`, which is written `(judgment-holds (K d ...))` but may stand by itself in a rule; `(fresh x ...)`; a name; or what is none of these
pub data ExtraForm : Type 0 where
  such_that : Sexp → Sexp → ExtraForm
  provided : Sexp → ExtraForm
  confirmed : Sexp → ExtraForm
  -- what has to be a premise
  holding : Sexp → ExtraForm
  freshly : List Sexp → ExtraForm
  name : ExtraForm
  no_extra : ExtraForm

-- where extras stand: in a case of a relation, in a clause of a metafunction, or in a rule of a judgement
pub data ExtraPlace : Type 0 where
  of_case : ExtraPlace
  of_clause : ExtraPlace
  of_rule : ExtraPlace

-- ---- in cases and clauses

-- a list with such a head as an extra of a clause, by what stands behind that
abbrev pub condition_behind : Sexp → List Sexp → ExtraForm
condition_behind w (h ∷ []) =
    if is_word (codes "side-condition") w then provided h else if is_word (codes "judgment-holds") w then holding h else no_extra
condition_behind w (p ∷ t ∷ []) = if is_word (codes "where") w then such_that p t else no_extra
condition_behind w ds = no_extra

-- names to be made, which have to be symbols
abbrev pub fresh_names : List Sexp → ExtraForm
fresh_names ds = if list_all is_symbol ds then freshly ds else no_extra

-- a list of these parts as an extra; in a case it may make fresh names
abbrev pub extra_among : Bool → Option (List Sexp) → ExtraForm
extra_among case None = no_extra
extra_among case (Some []) = no_extra
extra_among case (Some (w ∷ ds)) = if case && is_word (codes "fresh") w then fresh_names ds else condition_behind w ds

-- a datum as an extra of a case or of a clause; a symbol or a string is a name
abbrev pub extra_form : Bool → Sexp → ExtraForm
extra_form case (leaf (integer n) s) = no_extra
extra_form case (leaf (truth b) s) = no_extra
extra_form case (leaf (text x) s) = name
extra_form case (leaf (symbol x) s) = name
extra_form case (leaf (keyword k) s) = no_extra
extra_form case (list ds s) = extra_among case (parts (list ds s))

-- ---- in rules

-- the head of a list gives it another meaning than that of a premise
abbrev pub is_extra_head : Sexp → Bool
is_extra_head h = is_word (codes "where") h || is_word (codes "side-condition") h || is_word (codes "judgment-holds") h

-- a list d with such a head, by what stands behind that
abbrev pub extra_behind : Sexp → List Sexp → ExtraForm
extra_behind w (h ∷ []) =
    if is_word (codes "side-condition") w then confirmed h else if is_word (codes "judgment-holds") w then holding h else no_extra
extra_behind w (p ∷ t ∷ []) = if is_word (codes "where") w then such_that p t else no_extra
extra_behind w ds = no_extra

-- the list d with these parts as a premise; one that begins with no symbol is none
abbrev pub premise_among : Sexp → Option (List Sexp) → ExtraForm
premise_among d None = no_extra
premise_among d (Some []) = no_extra
premise_among d (Some (h ∷ ds)) = if is_extra_head h then extra_behind h ds else if is_symbol h then holding d else no_extra

-- a datum as a premise
abbrev pub premise_form : Sexp → ExtraForm
premise_form d = premise_among d (parts d)

-- ---- in all

-- a datum as what it is to be at such a place
abbrev pub form_at : ExtraPlace → Sexp → ExtraForm
form_at of_case d = extra_form true d
form_at of_clause d = extra_form false d
form_at of_rule d = premise_form d

-- it has its shape, and is no name
abbrev pub is_condition : ExtraForm → Bool
is_condition (such_that p t) = true
is_condition (provided h) = true
is_condition (confirmed t) = true
is_condition (holding d) = is_some (headed d)
is_condition (freshly ds) = true
is_condition name = false
is_condition no_extra = false
