-- A list pattern that matches, or that splits a list, as items that are laid over the terms.
use Rattle.std.proofs.Common.{◌≡◌, ◌∙◌, sym, ℕ, true, List, Option}
use Rattle.rdx_term.specs.Tree.{Tree, list, Trees}
use Rattle.rdx_lang.specs.Bindings.{Binding}
use Rattle.rdx_lang.specs.Patterns.{seq, Items, Language}
use Rattle.rdx_lang.specs.Rules.{Match, Split}
use Rattle.rdx_lang.specs.WellFormed.{has_known_nonterminals, have_known_nonterminals, defined}
use Rattle.rdx_lang.proofs.RuleSteps.{list_inside}
use Rattle.rdx_deriv.specs.Uses.{nowhere, at}
use Rattle.rdx_deriv.specs.Around.{IsAround}
use Rattle.rdx_opened.specs.Opening.{Mark, Opens, OpensItems, opens_seq}
use Rattle.rdx_why.proofs.AskedLengths.{split-used}
use Rattle.rdx_why.proofs.LaidItems.{all_match, one_splits, SomeLaid, used-laid}
use Rattle.rdx_opened.proofs.OpenedPlain.{opened_items-known}

-- the items of an opened list pattern are opened
pub opens-items : {ps os : Items} {ms : List Mark} → Opens (seq ps) (seq os) ms → OpensItems ps os ms
opens-items (opens_seq h) = h

-- their nonterminals are those of the language
pub items-known : (L : Language) {ps os : Items} {ms : List Mark} → Opens (seq ps) (seq os) ms → has_known_nonterminals (defined L) (seq ps) ≡ true
    → have_known_nonterminals (defined L) os ≡ true
items-known L h k = sym (opened_items-known (defined L) (opens-items h)) ∙ k

module _ {L : Language} (l : List ℕ) {ps os : Items} {ms : List Mark} (h : Opens (seq ps) (seq os) ms)
    (k : has_known_nonterminals (defined L) (seq ps) ≡ true) where
  -- where the opened pattern matches a list, they can be laid over its terms
  pub list-matched : {m : Option ℕ} {ts : Trees} {c : Binding} → Match L (seq os) (list m ts) c → SomeLaid L l nowhere os ts c
  list-matched n = used-laid L l os (items-known L h k) (all_match (list_inside n))

  -- so they can where it splits a list, around which the context is
  pub list-split : {m : Option ℕ} {ts us : Trees} {C D s : Tree} {i : ℕ} {c : Binding} → Split L (seq os) (list m ts) C s c
      → IsAround (list m ts) C i us D → SomeLaid L l (at i D s) os ts c
  list-split n a = used-laid L l os (items-known L h k) (one_splits (split-used n a))
