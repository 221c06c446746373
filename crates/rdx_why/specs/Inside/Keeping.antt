-- What is kept of a rule. No public contract cites it.
use Rattle.std.specs.Prelude.{◌≡◌, ℕ, List, Some}
use Rattle.rdx_term.specs.Tree.{Tree}
use Rattle.rdx_term.specs.View.{tree_of}
use Rattle.rdx_lang.specs.Members.{In}
use Rattle.rdx_lang.specs.Patterns.{Language}
use Rattle.rdx_lang.specs.Programs.{Judgement, JudgementRule, Program, judgement_named, language_named}
use Rattle.rdx_why.specs.declared.kept.End.{End}
use Rattle.rdx_why.specs.declared.kept.Kept.{Kept}

-- among these are kept the ends of the rule at this place of the judgement, for these inputs
pub record IsKept (ks : List Kept) (j : List ℕ) (i : ℕ) (a : Tree) (es : List End) : Type 0 where
  pub kept : Kept
  pub member : In kept ks
  pub judgement : kept.judgement ≡ j
  pub place : kept.place ≡ i
  pub inputs : tree_of kept.inputs ≡ a
  pub ends : kept.ends.items ≡ es

-- these are the rules of the judgement j, and L is its language
pub record AreRulesOf (P : Program) (j : List ℕ) (L : Language) (rs : List JudgementRule) : Type 0 where
  pub judgement : Judgement
  pub named : judgement_named P j ≡ Some judgement
  pub spoken : language_named P judgement.language ≡ Some L
  pub rules : judgement.rules ≡ rs
