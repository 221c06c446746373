-- What `explain` is asked and what it finds: a derivation of the goal that is asked, up to mismatch names, whose sets a caller doesn't see.
use Rattle.std.specs.Prelude.{◌≡◌, ℕ, List, Some, IsTrue}
use Rattle.rdx_term.specs.Tree.{Tree}
use Rattle.rdx_lang.specs.Bindings.{visible}
use Rattle.rdx_lang.specs.Members.{In}
use Rattle.rdx_lang.specs.Patterns.{Language}
use Rattle.rdx_lang.specs.Programs.{Extra, such_as, provided, holds, fresh, JudgementRule, Judgement, Program, language_named, judgement_named}
use Rattle.rdx_lang.specs.WellFormed.{has_known_nonterminals, defined, is_well_formed_in}
use Rattle.rdx_eval.specs.Answers.{value}
use Rattle.rdx_deriv.specs.Derivations.{Goal, matched, split, judged, Derivation, root}
use Rattle.rdx_deriv.specs.Holds.{Holds, Spoken}
use Rattle.rdx_deriv.specs.Judged.{calls}

-- ---- what is asked

-- the pattern of the extra, if it has one, has nonterminals of the language alone
abbrev pub IsKnownExtra : Language → Extra → Type 0
IsKnownExtra L (such_as p t) = IsTrue (has_known_nonterminals (defined L) p)
IsKnownExtra L (provided h) = Unit {0}
IsKnownExtra L (holds q) = IsTrue (has_known_nonterminals (defined L) q.outputs)
IsKnownExtra L (fresh x) = Unit {0}

-- so have the patterns of the rule
pub record IsKnownRule (L : Language) (r : JudgementRule) : Type 0 where
  pub inputs : IsTrue (has_known_nonterminals (defined L) r.inputs)
  pub extras : (e : Extra) → In e r.extras → IsKnownExtra L e

-- so have those of each rule of each judgement of the program, whose language this is
abbrev pub HasKnownRules : Program → Type 0
HasKnownRules P =
    (j : List ℕ) (J : Judgement) (L : Language) → judgement_named P j ≡ Some J → language_named P J.language ≡ Some L
    → (r : JudgementRule) → In r J.rules → IsKnownRule L r

-- the judgement is answered a list of outputs for these inputs
pub record HasOutputs (P : Program) (j : List ℕ) (a : Tree) : Type 0 where
  pub outputs : List Tree
  pub answered : (calls P).outputs_of j a (value outputs)

-- What may be asked: a match or a split by a pattern that is well formed in a language of the program, or what a judgement has for inputs for which
-- it is answered without a fault.
abbrev pub CanBeAsked : Program → Goal → Type 0
CanBeAsked P (matched l p t b) = Spoken P l p (λ L. IsTrue (is_well_formed_in L p))
CanBeAsked P (split l p t C s b) = Spoken P l p (λ L. IsTrue (is_well_formed_in L p))
CanBeAsked P (judged j a o) = HasKnownRules P × HasOutputs P j a

-- ---- what is found

-- what is seen of a goal: its bindings without mismatch names
abbrev pub seen : Goal → Goal
seen (matched l p t b) = matched l p t (visible b)
seen (split l p t C s b) = split l p t C s (visible b)
seen (judged j a o) = judged j a o

-- the derivation holds, and derives this goal, up to mismatch names
pub record Explains (P : Program) (g : Goal) (d : Derivation) : Type 0 where
  pub holds : Holds P d
  pub of_goal : seen (root d) ≡ seen g
