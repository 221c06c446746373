-- The parts of forms that values of the code stand for.
use Rattle.std.specs.Prelude.{ℕ, [], List, ◌∷◌, Option, Some, None, map, reverse, option_map}
use Rattle.std.specs.Borrow.{Bor}
use Rattle.rdx_sexp.specs.Sexp.{Sexp}
use Rattle.rdx_sexp.specs.declared.datum.Datum.{Datum}
use Rattle.rdx_defs.specs.MetafunctionForms as metafunctions
use Rattle.rdx_defs.specs.JudgementForms as judgements
use Rattle.rdx_defs.specs.declared.judgements.forms.JudgementForm.{JudgementForm}
use Rattle.rdx_defs.specs.declared.judgements.forms.OptionForm.{OptionForm}
use Rattle.rdx_defs.specs.declared.judgements.forms.RuleForm.{RuleForm}
use Rattle.rdx_defs.specs.declared.metafunctions.forms.ClauseForm.{ClauseForm}
use Rattle.rdx_defs.specs.declared.metafunctions.forms.ContractForm.{ContractForm}
use Rattle.rdx_defs.specs.declared.metafunctions.forms.MetafunctionForm.{MetafunctionForm}
use Rattle.rdx_parts.specs.PartViews.{headed_of}

-- the clause
abbrev pub clause_form_of : ClauseForm → metafunctions.ClauseForm
clause_form_of c = record { function = c.function.now; arguments = c.arguments.now; result = c.result.now; extras = c.extras.now }

-- the contract
abbrev pub contract_form_of : ContractForm → metafunctions.ContractForm
contract_form_of c = record { function = c.function.now; arguments = c.arguments.now; value = c.value.now }

-- the metafunction
abbrev pub metafunction_form_of : MetafunctionForm → metafunctions.MetafunctionForm
metafunction_form_of m = record { language = m.language.now; contract = option_map contract_form_of m.contract; clauses = m.clauses.now }

-- the rule of a judgement as it is written
abbrev pub rule_form_of : RuleForm → judgements.RuleForm
rule_form_of r = record {
  conclusion = r.conclusion.now;
  parts = headed_of r.parts;
  premises = r.premises.now;
  name = option_map (λ d. d.now) r.name;
  is_last = r.is_last;
}

-- the option
abbrev pub option_form_of : OptionForm → judgements.OptionForm
option_form_of o = record { key = o.key.now; given = option_map (λ d. d.now) o.given }

-- the options that data are in pairs
abbrev pub paired : List Sexp → List judgements.OptionForm
paired [] = []
paired (k ∷ []) = record { key = k; given = None } ∷ []
paired (k ∷ v ∷ ds) = record { key = k; given = Some v } ∷ paired ds

-- the first of several, and the others
abbrev pub next_of : {A : Type 0} → List A → Option (A × List A)
next_of [] = None
next_of (x ∷ xs) = Some (x, xs)

-- the texts of keywords, the last one first
abbrev pub keys_of : List (Bor Datum) → List (List ℕ)
keys_of ds = map (λ d. judgements.key_text d.now) (reverse ds)

-- the judgement
abbrev pub judgement_form_of : JudgementForm → judgements.JudgementForm
judgement_form_of f = record { language = f.language.now; options = paired f.options.now; rules = f.rules.now }
