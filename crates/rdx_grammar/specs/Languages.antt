-- The language that a form stands for, over a base whose nonterminals it extends; a form that defines a language by itself has an empty base.
use Rattle.std.specs.Prelude.{ℕ, List, [], ◌∷◌, ◌++◌, Option, Some, None, map, codes, if◌then◌else◌}
use Rattle.rdx_sexp.specs.Sexp.{Sexp}
use Rattle.rdx_lang.specs.Crosses.{completed, without_crosses}
use Rattle.rdx_lang.specs.Lookup.{alternatives_of}
use Rattle.rdx_lang.specs.Patterns.{Pattern, Language}
use Rattle.rdx_lang.specs.Patterns as model
use Rattle.rdx_lang.specs.declared.pattern.Ref.{Ref}
use Rattle.rdx_lang.specs.declared.pattern.Ref.TheVariants.{Nt}
use Rattle.rdx_grammar.specs.Definitions.{Definition, definition_in}
use Rattle.rdx_grammar.specs.Extension.{extended}
use Rattle.rdx_grammar.specs.Forms.{GrammarForm}
use Rattle.rdx_grammar.specs.Nonterminals.{all_names}
use Rattle.rdx_patterns.specs.Parts.{text_of, is_word}
use Rattle.rdx_patterns.specs.Reading.{reading}
use Rattle.rdx_patterns.specs.declared.patterns.position.Position.TheVariants.{Grammar as InGrammar}

-- ---- its alternatives

-- the alternatives of the nonterminal x: those that are written, with the inherited ones at `....`
abbrev pub alternatives : Language → List (List ℕ) → Ref → List Sexp → List Pattern
alternatives base ns x [] = []
alternatives base ns x (d ∷ ds) =
    (if is_word (codes "....") d then alternatives_of base x else reading ns InGrammar d ∷ []) ++ alternatives base ns x ds

-- each name with all the alternatives
abbrev pub defined_by : Language → List (List ℕ) → Option Definition → List model.Definition
defined_by base ns None = []
defined_by base ns (Some def) = map (λ e. (Nt (text_of e), alternatives base ns (Nt (text_of e)) def.alternatives)) def.names

-- the definitions of a form, each name with its alternatives
abbrev pub definitions_of : Language → List (List ℕ) → List Sexp → List model.Definition
definitions_of base ns [] = []
definitions_of base ns (d ∷ ds) = defined_by base ns (definition_in d) ++ definitions_of base ns ds

-- ---- the language

-- without a nonterminal
abbrev pub empty_language : Language
empty_language = record { name = []; nonterminals = [] }

-- the definitions of these parts, behind those of the base that are of no cross nonterminal
abbrev pub written_over : Language → GrammarForm → Language
written_over base g = record {
  name = text_of g.name;
  nonterminals = extended (without_crosses base) (definitions_of base (all_names base g.definitions) g.definitions);
}

-- the language of these parts over a base: with the cross nonterminals that its own alternatives need, of which it takes over none
abbrev pub language_over : Language → GrammarForm → Language
language_over base g = completed (written_over base g)
