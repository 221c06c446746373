-- Contracts of metafunctions and judgements: the patterns of their items, closed, and that they are well formed.
use Rattle.std.specs.Prelude.{ℕ, IsTrue, List, Option, Some, None}
use Rattle.rdx_lang.specs.PatternView.{Slot, just, repeated}
use Rattle.rdx_lang.specs.Patterns.{Language, closed}
use Rattle.rdx_lang.specs.Programs.{Mode}
use Rattle.rdx_lang.specs.WellFormed.{is_well_formed_in}
use Rattle.rdx_parts.specs.Headed.{Headed}
use Rattle.rdx_defs.specs.JudgementReading as judgements
use Rattle.rdx_defs.specs.MetafunctionForms.{ContractForm}
use Rattle.rdx_defs.specs.MetafunctionReading.{contract_reading}

-- the same item with its pattern closed
abbrev pub closed_slot : Slot → Slot
closed_slot (just p) = just (closed p)
closed_slot (repeated p n) = repeated (closed p) n

-- both patterns of a contract are well formed in the language
pub record IsContract (L : Language) (ns : List (List ℕ)) (c : ContractForm) : Type 0 where
  pub arguments : IsTrue (is_well_formed_in L (contract_reading ns c).0)
  pub value : IsTrue (is_well_formed_in L (contract_reading ns c).1)

-- where there is one
abbrev pub IsContractIn : Language → List (List ℕ) → Option ContractForm → Type 0
IsContractIn L ns None = Unit {0}
IsContractIn L ns (Some c) = IsContract L ns c

-- both patterns of the contract of a judgement of this mode are
pub record IsJudgementContract (L : Language) (ns : List (List ℕ)) (m : Option Mode) (h : Headed) : Type 0 where
  pub inputs : IsTrue (is_well_formed_in L (judgements.contract_reading ns m h).0)
  pub outputs : IsTrue (is_well_formed_in L (judgements.contract_reading ns m h).1)

-- where there is one
abbrev pub IsJudgementContractIn : Language → List (List ℕ) → Option Mode → Option Headed → Type 0
IsJudgementContractIn L ns m None = Unit {0}
IsJudgementContractIn L ns m (Some h) = IsJudgementContract L ns m h
