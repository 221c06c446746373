-- Derivations behind the lines of answers.
use Rattle.std.specs.Prelude.{◌≡◌, ℕ, Bool, true, false, IsTrue, List, [], ◌∷◌, ◌++◌, Some, Result, Ok, Err}
use Rattle.rdx_term.specs.Tree.{Tree}
use Rattle.rdx_lang.specs.Bindings.{Binding, no_names}
use Rattle.rdx_lang.specs.Listing.{IsSeen}
use Rattle.rdx_lang.specs.Members.{In}
use Rattle.rdx_lang.specs.Patterns.{Pattern, Language}
use Rattle.rdx_lang.specs.Programs.{Judgement, Premise, Program, language_named, judgement_named}
use Rattle.rdx_lang.specs.Rules.{Match}
use Rattle.rdx_lang.specs.Templates.{Template}
use Rattle.rdx_lang.specs.Valid.{is_valid}
use Rattle.rdx_lang.specs.WellFormed.{is_well_formed_in}
use Rattle.rdx_eval.specs.Answers.{value}
use Rattle.rdx_eval.specs.Heights.{calls_at, height}
use Rattle.rdx_eval.specs.Instantiation.{Makes, MakeList}
use Rattle.rdx_eval.specs.Views.{fault_of}
use Rattle.rdx_eval.specs.declared.fault.EvalFault.{EvalFault}
use Rattle.rdx_eval.specs.declared.fault.EvalFault.TheVariants.{Named, NoMemory}
use Rattle.rdx_deriv.specs.Derivations.{Goal, Derivation}
use Rattle.rdx_deriv.specs.Holds.{Spoken}
use Rattle.rdx_deriv.specs.Laws.{HasWellFormedLanguages}
use Rattle.rdx_deriv.specs.Lines.{derivation_lines}
use Rattle.rdx_why.specs.Explaining.{CanBeAsked, Explains}
use Rattle.rdx_answer.specs.AnswerText.{fault_line}
use Rattle.rdx_answer.specs.Explained.{CanBeExplained, IsExplained, Part, said, whole_text}
use Rattle.rdx_answer.specs.HoldsAnswers.{FindsMet, Values}
use Rattle.rdx_answer.specs.Queries.{Query, NamesKnown, matches, whether, splits, value as value_query, holds, reducts, tagged, stepper, generate, check, alike, substituted, test_equal, test_step, test_run, test_match, test_holds, test_results}
use Rattle.rdx_answer.specs.Tests.{Counts}

-- ---- what is asked for

-- the program is valid, and its languages are well formed
pub record IsLawful (P : Program) : Type 0 where
  pub valid : IsTrue (is_valid P)
  pub languages : HasWellFormedLanguages P

-- the goal may be asked for, and some derivation explains it
pub record HasExplanation (P : Program) (g : Goal) : Type 0 where
  pub asked : CanBeAsked P g
  pub derivation : Derivation
  pub explains : Explains P g derivation

-- what is found by the pattern, in the language of this name, has derivations
pub record IsShowable (P : Program) (name : List ℕ) (p : Pattern) : Type 0 where
  pub lawful : IsLawful P
  pub spoken : Spoken P name p (λ L. IsTrue (is_well_formed_in L p))

-- so has what is found for the query
pub record IsShowableQuery (P : Program) (q : Query) : Type 0 where
  pub lawful : IsLawful P
  pub named : NamesKnown P q
  pub shown : CanBeExplained P q

-- derivations stand in the answers to such queries
abbrev pub is_shown : Query → Bool
is_shown (matches name p h) = true
is_shown (whether name p h) = false
is_shown (splits name p h) = true
is_shown (value_query h) = false
is_shown (holds q t) = true
is_shown (reducts name h) = false
is_shown (tagged name h) = false
is_shown (stepper name h) = false
is_shown (generate name p size seed) = false
is_shown (check name p h attempts seed) = false
is_shown (alike fs h k) = false
is_shown (substituted fs h k l) = false
is_shown (test_equal h k) = false
is_shown (test_step name h ks) = false
is_shown (test_run name h ks) = false
is_shown (test_match name p h wanted) = false
is_shown (test_holds q) = false
is_shown test_results = false

-- ---- what is written

-- after holds what before held, and then the lines of a derivation that explains the goal
pub record GainsDerivation (P : Program) (g : Goal) (before after : List ℕ) : Type 0 where
  pub derivation : Derivation
  pub explains : Explains P g derivation
  pub gained : after ≡ before ++ derivation_lines P 0 derivation

-- after holds what before held, and then a text, and the lines of a derivation that R has
pub record GainsBehind (P : Program) (R : Derivation → Type 0) (s before after : List ℕ) : Type 0 where
  pub derivation : Derivation
  pub explains : R derivation
  pub gained : after ≡ before ++ (s ++ derivation_lines P 0 derivation)

-- after holds what before held, and then the text of parts that W has
pub record Gains (P : Program) (W : List Part → Type 0) (before after : List ℕ) : Type 0 where
  pub parts : List Part
  pub shows : W parts
  pub gained : after ≡ before ++ whole_text P parts

-- the same of the parts of the answer to a query, of which it is told whether all is met
abbrev pub GainsAnswer : Program → Counts → Query → List ℕ → List ℕ → Bool → Type 0
GainsAnswer P c q before after met = Gains P (λ ps. IsExplained P c q ps met) before after

-- parts that explain the answer to a query, whatever was counted before it
abbrev pub AreParts : Program → Query → List Part → Bool → Type 0
AreParts P q ps met = (c : Counts) → IsExplained P c q ps met

-- such parts are appended, by which all is met; or nothing is, since there is a fault, and its line is the one part, by which something stays unmet
abbrev pub TriesParts : Program → Query → List ℕ → List ℕ → Result (Unit {0}) EvalFault → Type 0
TriesParts P q before after (Ok u) = Gains P (λ ps. AreParts P q ps true) before after
TriesParts P q before after (Err (Named f)) = (after ≡ before) × AreParts P q (said (fault_line (fault_of f)) ∷ []) false
TriesParts P q before after (Err NoMemory) = Unit {0}

-- ---- premises

-- For the premise by itself the judgement is asked with these inputs and answered with these outputs, and L is the language of its pattern.
pub record IsAsked (P : Program) (q : Premise) (L : Language) (a : Tree) (os : List Tree) : Type 0 where
  pub judgement : Judgement
  pub named : judgement_named P q.judgement ≡ Some judgement
  pub known : language_named P judgement.language ≡ Some L
  pub inputs : MakeList (calls_at P height) no_names q.inputs (value a)
  pub outputs : (calls_at P height).outputs_of q.judgement a (value os)

-- there are such
pub record HasAsked (P : Program) (q : Premise) : Type 0 where
  pub language : Language
  pub inputs : Tree
  pub outputs : List Tree
  pub asked : IsAsked P q language inputs outputs

-- what the inputs of the premise make
pub record HasInputs (P : Program) (q : Premise) : Type 0 where
  pub inputs : Tree
  pub made : MakeList (calls_at P height) no_names q.inputs (value inputs)

-- the outputs o are among these, and the pattern binds b by them
pub record IsGiven (L : Language) (p : Pattern) (os : List Tree) (b : Binding) (o : Tree) : Type 0 where
  pub among : In o os
  pub seen : IsSeen (Match L p o) b

-- some outputs are
pub record HasGiven (L : Language) (p : Pattern) (os : List Tree) (b : Binding) : Type 0 where
  pub given : Tree
  pub is_given : IsGiven L p os b given

-- the outputs o are, by some binding
pub record IsMatched (L : Language) (p : Pattern) (os : List Tree) (o : Tree) : Type 0 where
  pub binding : Binding
  pub is_given : IsGiven L p os binding o

-- some outputs are
pub record HasMatched (L : Language) (p : Pattern) (os : List Tree) : Type 0 where
  pub given : Tree
  pub is_matched : IsMatched L p os given

-- the binding b is among these, and the template makes v of it
pub record IsSource (P : Program) (m : Template) (bs : List Binding) (v : Tree) (b : Binding) : Type 0 where
  pub among : In b bs
  pub makes : Makes (calls_at P height) b m (value v)

-- some binding is
pub record HasSource (P : Program) (m : Template) (bs : List Binding) (v : Tree) : Type 0 where
  pub binding : Binding
  pub is_source : IsSource P m bs v binding

-- the premise is met, and the outputs that meet it may be explained
pub record IsHeld (P : Program) (q : Premise) : Type 0 where
  pub lawful : IsLawful P
  pub binding : Binding
  pub others : List Binding
  pub finds : FindsMet P q (value (binding ∷ others))

-- the premise is met by these bindings, of which the template makes these values, and the outputs that meet it may be explained
pub record HasValues (P : Program) (q : Premise) (m : Template) (bs : List Binding) (vs : List Tree) : Type 0 where
  pub lawful : IsLawful P
  pub finds : FindsMet P q (value bs)
  pub values : Values (calls_at P height) m bs (value vs)

-- the same of one value, for which the judgement is asked so
pub record HasValue (P : Program) (q : Premise) (L : Language) (a : Tree) (os : List Tree) (m : Template) (bs : List Binding) (v : Tree) : Type 0 where
  pub lawful : IsLawful P
  pub asked : IsAsked P q L a os
  pub finds : FindsMet P q (value bs)
  pub source : HasSource P m bs v
