-- The programs that the code's stand for.
use Rattle.std.specs.Prelude.{List, map, option_map}
use Rattle.std.specs.Rc.{rc_str_bytes}
use Rattle.rdx_lang.specs.Checked.{language_in, pattern_in}
use Rattle.rdx_lang.specs.Patterns.{Pattern}
use Rattle.rdx_lang.specs.Programs as model
use Rattle.rdx_lang.specs.Programs.{such_as, provided, holds, fresh}
use Rattle.rdx_lang.specs.TemplateView.{template_of, host_of}
use Rattle.rdx_lang.specs.declared.checked.CheckedPat.{CheckedPat}
use Rattle.rdx_lang.specs.declared.program.Clause.{Clause}
use Rattle.rdx_lang.specs.declared.program.Extra.{Extra}
use Rattle.rdx_lang.specs.declared.program.Extra.TheVariants.{Where, Side, Holds, Fresh}
use Rattle.rdx_lang.specs.declared.program.JRule.{JRule}
use Rattle.rdx_lang.specs.declared.program.Judgement.{Judgement}
use Rattle.rdx_lang.specs.declared.program.Metafunction.{Metafunction}
use Rattle.rdx_lang.specs.declared.program.Premise.{Premise}
use Rattle.rdx_lang.specs.declared.program.Program.{Program}
use Rattle.rdx_lang.specs.declared.program.Relation.{Relation}
use Rattle.rdx_lang.specs.declared.program.Rule.{Rule}

-- the premise that a premise of the code stands for
abbrev pub premise_of : Premise → model.Premise
premise_of q = record { judgement = q.judgement; inputs = map template_of q.ins.items; outputs = pattern_in q.outs }

-- the extra that an extra of the code stands for
abbrev pub extra_of : Extra → model.Extra
extra_of (Where p t) = such_as (pattern_in p) (template_of t)
extra_of (Side h) = provided (host_of h)
extra_of (Holds q) = holds (premise_of q)
extra_of (Fresh x) = fresh x

-- extras in their order
abbrev pub extras_of : List Extra → List model.Extra
extras_of es = map extra_of es

-- the clause that a clause of the code stands for
abbrev pub clause_of : Clause → model.Clause
clause_of c = record { arguments = pattern_in c.args; extras = extras_of c.extras.items; result = template_of c.result }

-- clauses in their order
abbrev pub clauses_of : List Clause → List model.Clause
clauses_of cs = map clause_of cs

-- both patterns of a contract
abbrev pub contract_of : CheckedPat × CheckedPat → Pattern × Pattern
contract_of c = (pattern_in c.0, pattern_in c.1)

-- the metafunction that a metafunction of the code stands for
abbrev pub metafunction_of : Metafunction → model.Metafunction
metafunction_of f = record {
  name = f.name;
  language = f.language;
  contract = option_map contract_of f.contract;
  clauses = clauses_of f.clauses.items;
}

-- the rule of a judgement that one of the code stands for
abbrev pub judgement_rule_of : JRule → model.JudgementRule
judgement_rule_of r = record {
  name = option_map rc_str_bytes r.name;
  inputs = pattern_in r.ins;
  extras = extras_of r.extras.items;
  outputs = map template_of r.outs.items;
}

-- rules of a judgement in their order
abbrev pub judgement_rules_of : List JRule → List model.JudgementRule
judgement_rules_of rs = map judgement_rule_of rs

-- the judgement that a judgement of the code stands for
abbrev pub judgement_of : Judgement → model.Judgement
judgement_of j = record {
  name = j.name;
  language = j.language;
  mode = j.inputs.items;
  contract = option_map contract_of j.contract;
  rules = judgement_rules_of j.rules.items;
}

-- the rule of a relation that one of the code stands for
abbrev pub rule_of : Rule → model.Rule
rule_of r = record {
  name = option_map rc_str_bytes r.name;
  pattern = pattern_in r.pattern;
  extras = extras_of r.extras.items;
  result = template_of r.result;
}

-- the relation that a relation of the code stands for
abbrev pub relation_of : Relation → model.Relation
relation_of r = record {
  name = r.name;
  language = r.language;
  domain = option_map pattern_in r.domain;
  rules = map rule_of r.rules.items;
}

-- the program that a program of the code stands for
abbrev pub program_of : Program → model.Program
program_of p = record {
  languages = map language_in p.languages.items;
  metafunctions = map metafunction_of p.metafunctions.items;
  judgements = map judgement_of p.judgements.items;
  relations = map relation_of p.relations.items;
}
