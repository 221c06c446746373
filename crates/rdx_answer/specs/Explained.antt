-- Answers with derivations: what a file writes that is asked why. Under each binding, each split, each judgement that holds and each value of a
-- template stands a derivation of it; without these lines the text is that of a run.
use Rattle.std.specs.Prelude.{◌≡◌, ℕ, Bool, true, ◌&&◌, IsTrue, List, [], ◌∷◌, ◌++◌, Some, None, codes, decimal, length}
use Rattle.rdx_term.specs.Tree.{Tree}
use Rattle.rdx_lang.specs.Bindings.{Binding, no_names}
use Rattle.rdx_lang.specs.Decompositions.{Decomposition}
use Rattle.rdx_lang.specs.Listing.{IsSeen}
use Rattle.rdx_lang.specs.Patterns.{Pattern, Language}
use Rattle.rdx_lang.specs.Programs.{Judgement, Premise, Program, language_named, judgement_named}
use Rattle.rdx_lang.specs.Rules.{Match}
use Rattle.rdx_lang.specs.Templates.{Host, Template}
use Rattle.rdx_lang.specs.Valid.{is_valid}
use Rattle.rdx_lang.specs.WellFormed.{is_well_formed_in}
use Rattle.rdx_eval.specs.Answers.{value, fault, Fault}
use Rattle.rdx_eval.specs.Heights.{calls_at, height}
use Rattle.rdx_eval.specs.Instantiation.{Makes, MakeList}
use Rattle.rdx_deriv.specs.Derivations.{matched, split, judged, Derivation}
use Rattle.rdx_deriv.specs.Holds.{Spoken}
use Rattle.rdx_deriv.specs.Laws.{HasWellFormedLanguages}
use Rattle.rdx_deriv.specs.Lines.{derivation_lines}
use Rattle.rdx_why.specs.Explaining.{Explains}
use Rattle.rdx_answer.specs.Answering.{IsAnswer, HostValue, counts_behind}
use Rattle.rdx_answer.specs.AnswerText.{binding_text, split_text, holds_text, line_text}
use Rattle.rdx_answer.specs.HoldsAnswers.{FindsMet, Values}
use Rattle.rdx_answer.specs.MatchAnswers.{Finds, FindsSplits}
use Rattle.rdx_answer.specs.Queries.{Query, matches, whether, splits, value as value_query, holds, reducts, tagged, stepper, generate, check, alike, substituted, test_equal, test_step, test_run, test_match, test_holds, test_results}
use Rattle.rdx_answer.specs.Tests.{Counts}
use Rattle.rdx_term.specs.Text.{tree_text}

-- a part of what is written: what a run writes, or a derivation
pub data Part : Type 0 where
  said : List ℕ → Part
  shown : Derivation → Part

-- what a run writes
abbrev pub said_text : List Part → List ℕ
said_text [] = []
said_text (said s ∷ ps) = s ++ said_text ps
said_text (shown d ∷ ps) = said_text ps

-- all that is written
abbrev pub whole_text : Program → List Part → List ℕ
whole_text P [] = []
whole_text P (said s ∷ ps) = s ++ whole_text P ps
whole_text P (shown d ∷ ps) = derivation_lines P 0 d ++ whole_text P ps

-- a line of an answer, after two blanks, and below it a derivation
abbrev pub explained_line : List ℕ → Derivation → List Part → List Part
explained_line s d ps = said (line_text s) ∷ shown d ∷ ps

-- what there is and how many there are, as the first line of an answer
abbrev pub head_line : List ℕ → ℕ → Part
head_line what n = said (what ++ codes " " ++ decimal n ++ codes "\n")

-- no derivation is among them
abbrev pub AreSaid : List Part → Type 0
AreSaid ps = (s : List ℕ) × (ps ≡ said s ∷ [])

-- each of these is printed so, and below it stands a derivation that R has for it
pub data ExplainEach {A : Type 0} (R : A → Derivation → Type 0) (text : A → List ℕ) : List A → List Part → Type 0 where
  explain_none : ExplainEach R text [] []
  explain_more : {x : A} {xs : List A} {d : Derivation} {ps : List Part} →
      R x d → ExplainEach R text xs ps → ExplainEach R text (x ∷ xs) (explained_line (text x) d ps)

-- ---- matches and splits

-- each binding that is found is explained as a match
pub record ShowMatches (P : Program) (name : List ℕ) (p : Pattern) (t : Tree) (ps : List Part) : Type 0 where
  pub found : List Binding
  pub finds : Finds P name p t found
  pub explained : List Part
  pub each : ExplainEach (λ b. Explains P (matched name p t b)) binding_text found explained
  pub parts : ps ≡ head_line (codes "match") (length found) ∷ explained

-- each split that is found is explained
pub record ShowSplits (P : Program) (name : List ℕ) (p : Pattern) (t : Tree) (ps : List Part) : Type 0 where
  pub found : List Decomposition
  pub finds : FindsSplits P name p t found
  pub explained : List Part
  pub each : ExplainEach (λ s. Explains P (split name p t s.context s.part s.binding)) split_text found explained
  pub parts : ps ≡ head_line (codes "splits") (length found) ∷ explained

-- the same over what a host expression makes; where that has a fault, nothing is explained
pub data ShowOver (P : Program) (h : Host) (W : Tree → List Part → Type 0) (ps : List Part) : Type 0 where
  show_value : (t : Tree) → HostValue P h (value t) → W t ps → ShowOver P h W ps
  show_fault : (f : Fault) → HostValue P h (fault f) → AreSaid ps → ShowOver P h W ps

-- ---- judgements

-- the premise by itself is met with the binding b by these outputs of its judgement for these inputs
pub record IsMetBy (P : Program) (q : Premise) (a o : Tree) (b : Binding) : Type 0 where
  pub judgement : Judgement
  pub named : judgement_named P q.judgement ≡ Some judgement
  pub language : Language
  pub known : language_named P judgement.language ≡ Some language
  pub inputs : MakeList (calls_at P height) no_names q.inputs (value a)
  pub seen : IsSeen (Match language q.outputs o) b

-- the derivation explains outputs with which the premise is met
pub record ExplainsMet (P : Program) (q : Premise) (d : Derivation) : Type 0 where
  pub inputs : Tree
  pub outputs : Tree
  pub binding : Binding
  pub met : IsMetBy P q inputs outputs binding
  pub explains : Explains P (judged q.judgement inputs outputs) d

-- where the premise is met, some outputs of its judgement that its pattern matches are explained; else nothing is
pub data ShowHolds (P : Program) (q : Premise) (ps : List Part) : Type 0 where
  show_met : (d : Derivation) → ExplainsMet P q d → ps ≡ said (holds_text true) ∷ shown d ∷ [] → ShowHolds P q ps
  show_unmet : FindsMet P q (value []) → AreSaid ps → ShowHolds P q ps
  show_no_answer : (f : Fault) → FindsMet P q (fault f) → AreSaid ps → ShowHolds P q ps

-- the derivation explains outputs with which the premise is met by a binding of which the template makes the value
pub record ExplainsValue (P : Program) (q : Premise) (m : Template) (v : Tree) (d : Derivation) : Type 0 where
  pub inputs : Tree
  pub outputs : Tree
  pub binding : Binding
  pub met : IsMetBy P q inputs outputs binding
  pub makes : Makes (calls_at P height) binding m (value v)
  pub explains : Explains P (judged q.judgement inputs outputs) d

-- where there are values, each is explained
pub data ShowValues (P : Program) (q : Premise) (m : Template) (ps : List Part) : Type 0 where
  show_values : (bs : List Binding) (vs : List Tree) (explained : List Part) → FindsMet P q (value bs)
      → Values (calls_at P height) m bs (value vs) → ExplainEach (ExplainsValue P q m) tree_text vs explained
      → ps ≡ head_line (codes "answers") (length vs) ∷ explained → ShowValues P q m ps
  show_no_bindings : (f : Fault) → FindsMet P q (fault f) → AreSaid ps → ShowValues P q m ps
  show_no_values : (bs : List Binding) (f : Fault) → FindsMet P q (value bs) → Values (calls_at P height) m bs (fault f) → AreSaid ps
      → ShowValues P q m ps

-- ---- what can be explained

-- the pattern by which the query matches or splits is well formed in the language of its name
abbrev pub CanBeExplained : Program → Query → Type 0
CanBeExplained P (matches name p h) = Spoken P name p (λ L. IsTrue (is_well_formed_in L p))
CanBeExplained P (whether name p h) = Unit {0}
CanBeExplained P (splits name p h) = Spoken P name p (λ L. IsTrue (is_well_formed_in L p))
CanBeExplained P (value_query h) = Unit {0}
CanBeExplained P (holds q t) = Unit {0}
CanBeExplained P (reducts name h) = Unit {0}
CanBeExplained P (tagged name h) = Unit {0}
CanBeExplained P (stepper name h) = Unit {0}
CanBeExplained P (generate name p size seed) = Unit {0}
CanBeExplained P (check name p h attempts seed) = Unit {0}
CanBeExplained P (alike fs h k) = Unit {0}
CanBeExplained P (substituted fs h k l) = Unit {0}
CanBeExplained P (test_equal h k) = Unit {0}
CanBeExplained P (test_step name h ks) = Unit {0}
CanBeExplained P (test_run name h ks) = Unit {0}
CanBeExplained P (test_match name p h wanted) = Unit {0}
CanBeExplained P (test_holds q) = Unit {0}
CanBeExplained P test_results = Unit {0}

-- each of these queries can
abbrev pub AllCanBeExplained : Program → List Query → Type 0
AllCanBeExplained P [] = Unit {0}
AllCanBeExplained P (q ∷ qs) = CanBeExplained P q × AllCanBeExplained P qs

-- the program is valid, its languages are well formed, and each of the queries can be explained
pub record IsExplainable (P : Program) (qs : List Query) : Type 0 where
  pub valid : IsTrue (is_valid P)
  pub languages : HasWellFormedLanguages P
  pub queries : AllCanBeExplained P qs

-- ---- queries

-- the derivations in the answer to a query
abbrev pub Shows : Program → Query → List Part → Type 0
Shows P (matches name p h) ps = ShowOver P h (ShowMatches P name p) ps
Shows P (whether name p h) ps = AreSaid ps
Shows P (splits name p h) ps = ShowOver P h (ShowSplits P name p) ps
Shows P (value_query h) ps = AreSaid ps
Shows P (holds q None) ps = ShowHolds P q ps
Shows P (holds q (Some m)) ps = ShowValues P q m ps
Shows P (reducts name h) ps = AreSaid ps
Shows P (tagged name h) ps = AreSaid ps
Shows P (stepper name h) ps = AreSaid ps
Shows P (generate name p size seed) ps = AreSaid ps
Shows P (check name p h attempts seed) ps = AreSaid ps
Shows P (alike fs h k) ps = AreSaid ps
Shows P (substituted fs h k l) ps = AreSaid ps
Shows P (test_equal h k) ps = AreSaid ps
Shows P (test_step name h ks) ps = AreSaid ps
Shows P (test_run name h ks) ps = AreSaid ps
Shows P (test_match name p h wanted) ps = AreSaid ps
Shows P (test_holds q) ps = AreSaid ps
Shows P test_results ps = AreSaid ps

-- the parts of an answer to a query: what is said is the answer of a run, and these derivations are shown
pub record IsExplained (P : Program) (c : Counts) (q : Query) (ps : List Part) (met : Bool) : Type 0 where
  pub answer : IsAnswer P [] c q (said_text ps) met
  pub shows : Shows P q ps

-- the parts of the answers to queries, in their order, and whether all is met
pub data AreExplained (P : Program) : Counts → List Query → List Part → Bool → Type 0 where
  none_explained : {c : Counts} → AreExplained P c [] [] true
  more_explained : {c : Counts} {q : Query} {qs : List Query} (ps all : List Part) (met all_met : Bool) →
      IsExplained P c q ps met → AreExplained P (counts_behind q met c) qs all all_met → AreExplained P c (q ∷ qs) (ps ++ all) (met && all_met)

-- what is written for the queries, with derivations
pub record WritesExplained (P : Program) (c : Counts) (qs : List Query) (text : List ℕ) (met : Bool) : Type 0 where
  pub parts : List Part
  pub explained : AreExplained P c qs parts met
  pub printed : text ≡ whole_text P parts
