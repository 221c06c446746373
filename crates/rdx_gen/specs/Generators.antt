-- Generators: a language and a pattern, with all that generation needs to know of both.
use Rattle.std.specs.Prelude.{◌≡◌, Result, Ok, Err, Some, None, IsFalse}
use Rattle.rdx_lang.specs.Checked.{language_in}
use Rattle.rdx_lang.specs.Patterns.{Pattern, Language}
use Rattle.rdx_lang.specs.PatternView.{pattern_of}
use Rattle.rdx_gen.specs.Generation.{lacks}
use Rattle.rdx_gen.specs.Heights.{known_in, term_height}
use Rattle.rdx_gen.specs.NameRules.{first_bad_name}
use Rattle.rdx_gen.specs.declared.fault.GenFault.{GenFault}
use Rattle.rdx_gen.specs.declared.fault.GenFault.TheVariants.{GenName, Barren, TooDeep, TooLarge, NoMemory}
use Rattle.rdx_gen.specs.declared.generator.Generator.{Generator}

-- the language and the pattern of a generator
abbrev pub language_for : Generator → Language
language_for g = language_in g.setting.nonterminals.language.now

abbrev pub pattern_for : Generator → Pattern
pattern_for g = pattern_of g.pat.now

-- it is one of this language and this pattern, in which no name breaks a rule, and which has a height
pub record IsFor (L : Language) (p : Pattern) (g : Generator) : Type 0 where
  pub language : language_for g ≡ L
  pub pattern : pattern_for g ≡ p
  pub named : first_bad_name L p ≡ None
  pub high : IsFalse (lacks (term_height (known_in L) p))

-- there is one, or a name breaks a rule, or else the pattern has no height; want of memory is free
abbrev pub Begins : Language → Pattern → Result Generator GenFault → Type 0
Begins L p (Ok g) = IsFor L p g
Begins L p (Err (GenName x)) = first_bad_name L p ≡ Some x
Begins L p (Err Barren) = (first_bad_name L p ≡ None) × (term_height (known_in L) p ≡ None)
Begins L p (Err TooDeep) = ⊥
Begins L p (Err TooLarge) = ⊥
Begins L p (Err NoMemory) = Unit {0}
