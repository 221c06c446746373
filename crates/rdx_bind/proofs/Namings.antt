-- The rules of patterns with a name, whichever way it is given: what is bound is what the part binds, joined with what the name alone binds.
use Rattle.rdx_term.specs.Tree.{Tree}
use Rattle.rdx_lang.proofs.RuleSteps.{named_inside, differ_inside, named_splits, differ_splits}
use Rattle.rdx_lang.specs.Bindings.{Binding}
use Rattle.rdx_lang.specs.Join.{IsJoin}
use Rattle.rdx_lang.specs.Patterns.{Pattern, Language}
use Rattle.rdx_lang.specs.Rules.{Match, Split, match_named, match_differ, split_named, split_differ}
use Rattle.rdx_bind.specs.Namings.{Naming, binds, differs, under, alone}

-- a match of a pattern with a name: one of the pattern, joined with the name
pub record MatchesUnder (L : Language) (n : Naming) (q : Pattern) (t : Tree) (b : Binding) : Type 0 where
  pub inside : Binding
  pub matched : Match L q t inside
  pub joined : IsJoin inside (alone n t) b

-- a split of one
pub record SplitsUnder (L : Language) (n : Naming) (q : Pattern) (t C s : Tree) (b : Binding) : Type 0 where
  pub inside : Binding
  pub split : Split L q t C s inside
  pub joined : IsJoin inside (alone n C) b

module _ {L : Language} where
  -- the rules
  pub match_under : (n : Naming) {q : Pattern} {t : Tree} {c b : Binding} → Match L q t c → IsJoin c (alone n t) b → Match L (under n q) t b
  match_under (binds x) h j = match_named h j
  match_under (differs x) h j = match_differ h j

  pub split_under : (n : Naming) {q : Pattern} {t C s : Tree} {c b : Binding} → Split L q t C s c → IsJoin c (alone n C) b → Split L (under n q) t C s b
  split_under (binds x) h j = split_named h j
  split_under (differs x) h j = split_differ h j

  -- and that nothing else is derived
  pub under_inside : (n : Naming) {q : Pattern} {t : Tree} {b : Binding} → Match L (under n q) t b → MatchesUnder L n q t b
  under_inside (binds x) h = let i = named_inside h in record { inside = i.inside; matched = i.matched; joined = i.joined }
  under_inside (differs x) h = let i = differ_inside h in record { inside = i.inside; matched = i.matched; joined = i.joined }

  pub under_splits : (n : Naming) {q : Pattern} {t C s : Tree} {b : Binding} → Split L (under n q) t C s b → SplitsUnder L n q t C s b
  under_splits (binds x) h = let i = named_splits h in record { inside = i.inside; split = i.split; joined = i.joined }
  under_splits (differs x) h = let i = differ_splits h in record { inside = i.inside; split = i.split; joined = i.joined }
