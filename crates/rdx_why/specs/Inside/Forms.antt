-- What the form of a pattern rules out. No public contract cites it.
use Rattle.std.specs.Prelude.{◌≡◌, ℕ, false, []}
use Rattle.rdx_term.specs.Items.{put_at}
use Rattle.rdx_term.specs.Tree.{Tree, Trees}
use Rattle.rdx_lang.specs.Bindings.{Binding}
use Rattle.rdx_lang.specs.Mismatches.{has_differ}
use Rattle.rdx_lang.specs.Names.{names}
use Rattle.rdx_lang.specs.Patterns.{Pattern, Items, Language}
use Rattle.rdx_lang.specs.Rules.{Match, MatchItems, Split, SplitItems}
use Rattle.rdx_deriv.specs.Derivations.{Goal, matched, split, judged}

-- no name and no mismatch name stands in the pattern itself
pub record BindsNothing (p : Pattern) : Type 0 where
  pub names : names p ≡ []
  pub no_differ : has_differ p ≡ false

-- the pattern does not match the term
abbrev pub NeverMatches : Language → Pattern → Tree → Type 0
NeverMatches L p t = (b : Binding) → ¬ Match L p t b

-- the items do not match the terms
abbrev pub NeverMatch : Language → Items → Trees → Type 0
NeverMatch L ps ts = (b : Binding) → ¬ MatchItems L ps ts b

-- the pattern splits no term into this context
abbrev pub NeverSplits : Language → Pattern → Tree → Type 0
NeverSplits L p C = (t s : Tree) (b : Binding) → ¬ Split L p t C s b

-- the items split no terms at the place k of which this is left with the context in the place of the term there
abbrev pub NeverSplit : Language → Items → Trees → ℕ → Type 0
NeverSplit L ps us k = (ts : Trees) (D s : Tree) (b : Binding) → us ≡ put_at ts k D → ¬ SplitItems L ps ts k D s b

-- no mismatch name stands in the pattern of the goal, if it has one
abbrev pub IsPlain : Goal → Type 0
IsPlain (matched l p t b) = has_differ p ≡ false
IsPlain (split l p t C s b) = has_differ p ≡ false
IsPlain (judged j a o) = Unit {0}
