-- What the parts of a form have by what each datum has, where that passes from a list to its items.
use Rattle.std.proofs.Common.{◌≡◌, false, List, [], ◌∷◌, IsTrue}
use Rattle.std.specs.Prelude.{Option, Some, None, codes}
use Rattle.rdx_sexp.specs.Sexp.{Sexp}
use Rattle.rdx_term.specs.Spelling.{is_name}
use Rattle.rdx_patterns.specs.Parts.{is_word, text_of}
use Rattle.rdx_defs.specs.JudgementForms.{RuleForm, OptionForm, JudgementForm}
use Rattle.rdx_defs.specs.MetafunctionForms.{ContractForm, MetafunctionForm}
use Rattle.rdx_relations.proofs.PartsOfForms.{IsNamed, Each, HeadedHas}

-- ---- names

-- where there is one
abbrev pub IsNamedIn : Option Sexp → Type 0
IsNamedIn None = Unit {0}
IsNamedIn (Some f) = IsNamed f

-- ---- several data

module _ (P : Sexp → Type 0) where
  -- a datum has it, where there is one
  abbrev pub HasIn : Option Sexp → Type 0
  HasIn None = Unit {0}
  HasIn (Some d) = P d

  -- ---- forms

  -- both sides of a cut
  abbrev pub SidesHave : Option (List Sexp × List Sexp) → Type 0
  SidesHave None = Unit {0}
  SidesHave (Some c) = Each P c.0 × Each P c.1

  -- what a contract is to have
  pub record ContractHas (c : ContractForm) : Type 0 where
    pub function : IsNamed c.function
    pub arguments : Each P c.arguments
    pub value : P c.value

  -- where there is one
  abbrev pub ContractHasIn : Option ContractForm → Type 0
  ContractHasIn None = Unit {0}
  ContractHasIn (Some c) = ContractHas c

  -- what a form of a metafunction is to have
  pub record MetafunctionHas (m : MetafunctionForm) : Type 0 where
    pub contract : ContractHasIn m.contract
    pub clauses : Each P m.clauses
    pub some : m.clauses ≡ [] → ⊥
    pub language : is_word (codes "hole") m.language ≡ false → IsTrue (is_name (text_of m.language))

  -- where there is one
  abbrev pub MetafunctionHasIn : Option MetafunctionForm → Type 0
  MetafunctionHasIn None = Unit {0}
  MetafunctionHasIn (Some m) = MetafunctionHas m

  -- what a rule is to have
  pub record RuleFormHas (r : RuleForm) : Type 0 where
    pub conclusion : P r.conclusion
    pub parts : HeadedHas P r.parts
    pub premises : Each P r.premises
    pub name : HasIn r.name

  -- where there is one
  abbrev pub RuleFormHasIn : Option RuleForm → Type 0
  RuleFormHasIn None = Unit {0}
  RuleFormHasIn (Some r) = RuleFormHas r

  -- an option and what it gives have it
  pub record OptionHas (o : OptionForm) : Type 0 where
    pub key : P o.key
    pub given : HasIn o.given

  -- so it is with each of these
  abbrev pub OptionsHave : List OptionForm → Type 0
  OptionsHave [] = Unit {0}
  OptionsHave (o ∷ os) = OptionHas o × OptionsHave os

  -- what a form of a judgement is to have: such parts, and the name of a language, which `hole` is none of
  pub record JudgementHas (f : JudgementForm) : Type 0 where
    pub options : OptionsHave f.options
    pub rules : Each P f.rules
    pub language : is_word (codes "hole") f.language ≡ false → IsTrue (is_name (text_of f.language))

  -- where there is one
  abbrev pub JudgementHasIn : Option JudgementForm → Type 0
  JudgementHasIn None = Unit {0}
  JudgementHasIn (Some f) = JudgementHas f

  -- options and rules behind them
  abbrev pub CutHas : List OptionForm × List Sexp → Type 0
  CutHas c = OptionsHave c.0 × Each P c.1
