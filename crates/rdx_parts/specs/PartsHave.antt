-- What the patterns, the templates and the host expressions in a form have, each by itself.
use Rattle.std.specs.Prelude.{◌≡◌, ℕ, true, ◌+◌, ◌<◌, IsTrue, IsSome, List, [], ◌∷◌, Option, Some, None}
use Rattle.rdx_sexp.specs.Sexp.{Sexp, sexps}
use Rattle.rdx_sexp.specs.Size.{sexps_depth, AreSpelled}
use Rattle.rdx_term.specs.Spelling.{is_name}
use Rattle.rdx_lang.specs.Patterns.{Language}
use Rattle.rdx_lang.specs.WellFormed.{is_well_formed_in}
use Rattle.rdx_patterns.specs.Parts.{text_of, is_symbol}
use Rattle.rdx_patterns.specs.PatternChecks as patterns
use Rattle.rdx_patterns.specs.Readable.{IsReadable}
use Rattle.rdx_templates.specs.Scope.{Scope}
use Rattle.rdx_parts.specs.Arguments.{Arguments, patterns_in}
use Rattle.rdx_parts.specs.ExtraForms.{ExtraForm, such_that, provided, confirmed, holding, freshly, name, no_extra, ExtraPlace, of_rule, form_at}
use Rattle.rdx_parts.specs.Headed.{Headed, headed}
use Rattle.rdx_parts.specs.Outlines.{Takes, one, several, each, Branch, RuleBranch, Question, Outline, bound_by_taken, taken_reading}
use Rattle.rdx_parts.specs.Stands.{premise_arguments}

-- ---- readable data

-- each of these is readable
abbrev pub AreReadable : List Sexp → Type 0
AreReadable [] = Unit {0}
AreReadable (d ∷ ds) = IsReadable d × AreReadable ds

-- and is a symbol
abbrev pub AreReadableSymbols : List Sexp → Type 0
AreReadableSymbols [] = Unit {0}
AreReadableSymbols (d ∷ ds) = ((is_symbol d ≡ true) × IsReadable d) × AreReadableSymbols ds

-- as the items of a list they are
pub record AreReadableItems (ds : List Sexp) : Type 0 where
  pub nested : sexps_depth (sexps ds) + 1 < 4294967296
  pub spelled : AreSpelled (sexps ds)
  pub each : AreReadable ds

-- what is taken is readable
abbrev pub IsReadableTaken : Takes → Type 0
IsReadableTaken (one p) = IsReadable p
IsReadableTaken (several ds) = AreReadableItems ds
IsReadableTaken (each ds) = AreReadable ds

-- a datum is, where there is one
abbrev pub IsReadableIn : Option Sexp → Type 0
IsReadableIn None = Unit {0}
IsReadableIn (Some d) = IsReadable d

-- ---- parts

-- each of these patterns has P
abbrev pub AloneHave : (Takes → Type 0) → List Sexp → Type 0
AloneHave P [] = Unit {0}
AloneHave P (p ∷ ps) = P (one p) × AloneHave P ps

-- what is wanted: of what is taken, of a premise, and of names to be made
pub record Wanted : Type 1 where
  pub taken : Takes → Type 0
  pub asked : Headed → Type 0
  pub made : List Sexp → Type 0

module _ (S : Scope) (W : Wanted) where
  -- the list of the patterns among arguments is as wanted, and all of them are readable
  pub record ArgumentsHave (a : Arguments) : Type 0 where
    pub patterns : W.taken (each (patterns_in a))
    pub readable : AreReadable a.items

  -- a premise is, and its arguments are
  abbrev pub PremiseHas : Option Headed → Type 0
  PremiseHas None = Unit {0}
  PremiseHas (Some q) = W.asked q × ArgumentsHave (premise_arguments S q)

  -- the pattern of an extra is, its template is readable, and names to be made are as wanted
  abbrev pub ExtraHas : ExtraForm → Type 0
  ExtraHas (such_that p t) = W.taken (one p) × IsReadable t
  ExtraHas (provided h) = IsReadable h
  ExtraHas (confirmed t) = IsReadable t
  ExtraHas (holding d) = PremiseHas (headed d)
  ExtraHas (freshly ds) = W.made ds
  ExtraHas name = Unit {0}
  ExtraHas no_extra = Unit {0}

  -- so it is with each of these extras
  abbrev pub ExtrasHave : ExtraPlace → List Sexp → Type 0
  ExtrasHave k [] = Unit {0}
  ExtrasHave k (d ∷ ds) = ExtraHas (form_at k d) × ExtrasHave k ds

  -- and with a branch
  pub record BranchHas (b : Branch) : Type 0 where
    pub takes : W.taken b.takes
    pub result : IsReadable b.result
    pub extras : ExtrasHave b.place b.extras

  -- with each of these
  abbrev pub BranchesHave : List Branch → Type 0
  BranchesHave [] = Unit {0}
  BranchesHave (b ∷ bs) = BranchHas b × BranchesHave bs

  -- with a rule
  pub record RuleHas (r : RuleBranch) : Type 0 where
    pub arguments : ArgumentsHave r.arguments
    pub premises : ExtrasHave of_rule r.premises

  -- with each of these
  abbrev pub RulesHave : List RuleBranch → Type 0
  RulesHave [] = Unit {0}
  RulesHave (r ∷ rs) = RuleHas r × RulesHave rs

  -- with a premise by itself
  pub record QuestionHas (q : Question) : Type 0 where
    pub premise : PremiseHas (headed q.premise)
    pub result : IsReadableIn q.result

  -- with each of these
  abbrev pub QuestionsHave : List Question → Type 0
  QuestionsHave [] = Unit {0}
  QuestionsHave (q ∷ qs) = QuestionHas q × QuestionsHave qs

  -- and so it is with a form
  pub record OutlineHas (o : Outline) : Type 0 where
    pub alone : AloneHave W.taken o.alone
    pub branches : BranchesHave o.branches
    pub rules : RulesHave o.rules
    pub questions : QuestionsHave o.questions

-- ---- of which these are used

-- what these bind are names, at depths below 2^32
abbrev pub BindNames : List patterns.Bound → Type 0
BindNames [] = Unit {0}
BindNames (b ∷ bs) = ((b.depth < 4294967296) × IsTrue (is_name (text_of b.symbol))) × BindNames bs

-- these symbols are names
abbrev pub AreNames : List Sexp → Type 0
AreNames [] = Unit {0}
AreNames (d ∷ ds) = IsTrue (is_name (text_of d)) × AreNames ds

-- what is taken is readable, and what it binds are names
pub record CanBind (ns : List (List ℕ)) (w : Takes) : Type 0 where
  pub readable : IsReadableTaken w
  pub names : BindNames (bound_by_taken ns w)

-- and its reading is well formed in the language
pub record IsPattern (L : Language) (ns : List (List ℕ)) (w : Takes) : Type 0 where
  pub binds : CanBind ns w
  pub well_formed : IsTrue (is_well_formed_in L (taken_reading ns w))

-- ---- what is wanted at each step

-- that it is readable
abbrev pub readable : Wanted
readable = record { taken = IsReadableTaken; asked = λ q. Unit {0}; made = AreReadableSymbols }

-- that what it binds are names
abbrev pub can_bind : List (List ℕ) → Wanted
can_bind ns = record { taken = CanBind ns; asked = λ q. Unit {0}; made = AreNames }

-- that it is read in the language: its patterns are well formed there, and its premises fit the modes of judgements
abbrev pub can_read : Scope → Language → List (List ℕ) → Wanted
can_read S L ns = record { taken = IsPattern L ns; asked = λ q. IsSome (premise_arguments S q).flags; made = AreNames }
