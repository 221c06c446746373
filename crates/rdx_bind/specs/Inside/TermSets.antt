-- Two sets of terms together.
use Rattle.std.specs.Prelude.{List, ◌⊎◌}
use Rattle.rdx_term.specs.Order.{tree_cmp}
use Rattle.rdx_term.specs.Tree.{Tree}
use Rattle.rdx_lang.specs.Ascending.{IsAscending}
use Rattle.rdx_lang.specs.Members.{In}

-- no term is in both
abbrev pub AreTermsApart : List Tree → List Tree → Type 0
AreTermsApart ts us = (t : Tree) → In t ts → In t us → ⊥

-- vs has the terms of ts and those of us, which have none in common
pub record JoinsTerms (ts us vs : List Tree) : Type 0 where
  pub ascending : IsAscending tree_cmp vs
  pub sound : (t : Tree) → In t vs → In t ts ⊎ In t us
  pub left : (t : Tree) → In t ts → In t vs
  pub right : (t : Tree) → In t us → In t vs
  pub apart : AreTermsApart ts us
