-- Closures of relations: where a relation takes a step from a term, its closure takes the step from each term that has that one in a context (the
-- Redex reference manual, "Reduction Relations"; Felleisen, Findler and Flatt, "Semantics Engineering with PLT Redex", 2009).
use Rattle.std.specs.List.{list_all}
use Rattle.std.specs.Prelude.{ℕ, Bool, List, map, codes}
use Rattle.rdx_lang.specs.Patterns.{Pattern, Language, nt, named, in_hole, closed}
use Rattle.rdx_lang.specs.Programs.{Relation, Rule}
use Rattle.rdx_lang.specs.Scopes.{case_uses}
use Rattle.rdx_lang.specs.Templates.{var, fill}
use Rattle.rdx_lang.specs.Variants.{first_variant}
use Rattle.rdx_lang.specs.WellFormed.{is_well_formed_in}
use Rattle.rdx_lang.specs.declared.pattern.Ref.TheVariants.{Cross}

-- the names that a rule binds, in its pattern and its extras; length names count
abbrev pub rule_names : Rule → List (List ℕ)
rule_names r = map (λ u. u.name) (case_uses r.pattern r.extras)

-- the name of the context around a rule's step: the first of `context`, `context1` and so on that the rule does not bind
abbrev pub context_name : Rule → List ℕ
context_name r = first_variant (codes "context") (rule_names r)

-- the rule from a to b becomes one from a in a context to b in it; the names in the context's pattern stand for nothing
abbrev pub closed_rule : Pattern → Rule → Rule
closed_rule p r = record r {
  pattern = in_hole (named (context_name r) (closed p)) r.pattern;
  result = fill (var (context_name r) 0) r.result;
}

-- the closure of a relation by a pattern for contexts, by this name: its domain, and the names and the order of its rules, stay
abbrev pub context_closure : Pattern → List ℕ → Relation → Relation
context_closure p x R = record R { name = x; rules = map (closed_rule p) R.rules }

-- the closure by the contexts of an e in an e
abbrev pub compatible_closure : List ℕ → List ℕ → Relation → Relation
compatible_closure e x R = context_closure (nt (Cross e e)) x R

-- the pattern of each rule is well formed in the language
abbrev pub has_well_formed_patterns : Language → Relation → Bool
has_well_formed_patterns L R = list_all (λ r. is_well_formed_in L r.pattern) R.rules
