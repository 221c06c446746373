-- When a node of a derivation is a use of its rule of matching or of splitting (Klein, McCarthy, Jaconette and Findler, "A semantics for
-- context-sensitive reduction semantics", APLAS 2011): for each form of patterns what has to hold of the goal, of the choice and of the goals
-- right under the node.
use Rattle.std.specs.Prelude.{◌≡◌, ℕ, zero, suc, List, [], ◌∷◌, ◌++◌, Option, Some, IsTrue, ⊤, slice_get}
use Rattle.rdx_term.specs.Tree.{Tree, list, Trees, cons}
use Rattle.rdx_term.specs.Tree.{nil as no_trees}
use Rattle.rdx_term.specs.Tree.{hole as the_hole}
use Rattle.rdx_term.specs.Bare.{bare}
use Rattle.rdx_term.specs.Fill.{fill_of}
use Rattle.rdx_term.specs.Items.{put_at}
use Rattle.rdx_lang.specs.Bindings.{Binding, no_names, one_name, one_differs}
use Rattle.rdx_lang.specs.Bindings.{one as one_term}
use Rattle.rdx_lang.specs.Collections.{IsRepetition}
use Rattle.rdx_lang.specs.Join.{IsJoin}
use Rattle.rdx_lang.specs.Members.{In}
use Rattle.rdx_lang.specs.Names.{names}
use Rattle.rdx_lang.specs.Patterns.{Pattern, wild, of_kind, except, prefix, hole, lit, nt, named, differ, in_hole, hide_hole, closed, seq, Items, nil, one, many, Language}
use Rattle.rdx_lang.specs.Rules.{is_of_kind}
use Rattle.rdx_lang.specs.declared.pattern.Ref.{Ref}
use Rattle.rdx_bind.specs.Atoms.{is_other_symbol, has_prefix}
use Rattle.rdx_deriv.specs.Derivations.{Goal, matched, split}

-- ---- nothing under the node

-- the pattern fits by itself: nothing is bound, chosen or under the node
pub record IsAlone (P : Type 0) (b : Binding) (ks : List ℕ) (gs : List Goal) : Type 0 where
  pub fits : P
  pub nameless : b ≡ no_names
  pub no_choice : ks ≡ []
  pub nothing_under : gs ≡ []

-- ---- nonterminals

-- p is the alternative of x at this place
pub record IsAlternativeAt (L : Language) (x : Ref) (i : ℕ) (p : Pattern) : Type 0 where
  pub all : List Pattern
  pub defined : In (x, all) L.nonterminals
  pub there : slice_get all i ≡ Some p

-- no choice, and one goal under the node, which binds what passes the test
pub record OneUnder (goal : Binding → Goal) (test : Binding → Type 0) (ks : List ℕ) (gs : List Goal) : Type 0 where
  pub inside : Binding
  pub passes : test inside
  pub no_choice : ks ≡ []
  pub under : gs ≡ goal inside ∷ []

-- the choice is the place of an alternative, which matches the term, whatever it binds
pub record NonterminalMatch (L : Language) (l : List ℕ) (x : Ref) (t : Tree) (b : Binding) (ks : List ℕ) (gs : List Goal) : Type 0 where
  pub place : ℕ
  pub pattern : Pattern
  pub alternative : IsAlternativeAt L x place pattern
  pub choice : ks ≡ place ∷ []
  pub one : OneUnder (matched l pattern t) (λ c. b ≡ no_names) [] gs

-- the same for a split
pub record NonterminalSplit (L : Language) (l : List ℕ) (x : Ref) (t C s : Tree) (b : Binding) (ks : List ℕ) (gs : List Goal) : Type 0 where
  pub place : ℕ
  pub pattern : Pattern
  pub alternative : IsAlternativeAt L x place pattern
  pub choice : ks ≡ place ∷ []
  pub one : OneUnder (split l pattern t C s) (λ c. b ≡ no_names) [] gs

-- ---- one pattern inside

-- what the inner pattern binds, joined with the name for the term, is b
abbrev pub NamedMatch : List ℕ → List ℕ → Pattern → Tree → Binding → List ℕ → List Goal → Type 0
NamedMatch l x q t b ks gs = OneUnder (matched l q t) (λ c. IsJoin c (one_name x (one_term t)) b) ks gs

-- joined with the name for the context
abbrev pub NamedSplit : List ℕ → List ℕ → Pattern → Tree → Tree → Tree → Binding → List ℕ → List Goal → Type 0
NamedSplit l x q t C s b ks gs = OneUnder (split l q t C s) (λ c. IsJoin c (one_name x (one_term C)) b) ks gs

-- what the inner pattern binds, joined with the set of the term alone for the mismatch name, is b
abbrev pub DifferMatch : List ℕ → List ℕ → Pattern → Tree → Binding → List ℕ → List Goal → Type 0
DifferMatch l x q t b ks gs = OneUnder (matched l q t) (λ c. IsJoin c (one_differs x t) b) ks gs

-- joined with the set of the context alone
abbrev pub DifferSplit : List ℕ → List ℕ → Pattern → Tree → Tree → Tree → Binding → List ℕ → List Goal → Type 0
DifferSplit l x q t C s b ks gs = OneUnder (split l q t C s) (λ c. IsJoin c (one_differs x C) b) ks gs

-- the inner pattern matches, and binds the same
abbrev pub HiddenMatch : List ℕ → Pattern → Tree → Binding → List ℕ → List Goal → Type 0
HiddenMatch l q t b ks gs = OneUnder (matched l q t) (λ c. c ≡ b) ks gs

-- it matches, whatever it binds
abbrev pub ClosedMatch : List ℕ → Pattern → Tree → Binding → List ℕ → List Goal → Type 0
ClosedMatch l q t b ks gs = OneUnder (matched l q t) (λ c. b ≡ no_names) ks gs

-- it splits, whatever it binds
abbrev pub ClosedSplit : List ℕ → Pattern → Tree → Tree → Tree → Binding → List ℕ → List Goal → Type 0
ClosedSplit l q t C s b ks gs = OneUnder (split l q t C s) (λ c. b ≡ no_names) ks gs

-- ---- two patterns inside

-- the left one splits the term, and the right one matches the part
pub record InHoleMatch (l : List ℕ) (q r : Pattern) (t : Tree) (b : Binding) (ks : List ℕ) (gs : List Goal) : Type 0 where
  pub context : Tree
  pub part : Tree
  pub outer : Binding
  pub inner : Binding
  pub joined : IsJoin outer inner b
  pub no_choice : ks ≡ []
  pub under : gs ≡ split l q t context part outer ∷ matched l r part inner ∷ []

-- the right one splits the part once more
pub record InHoleSplit (l : List ℕ) (q r : Pattern) (t C s : Tree) (b : Binding) (ks : List ℕ) (gs : List Goal) : Type 0 where
  pub first : Tree
  pub second : Tree
  pub part : Tree
  pub outer : Binding
  pub inner : Binding
  pub joined : IsJoin outer inner b
  pub filled : C ≡ fill_of first second
  pub no_choice : ks ≡ []
  pub under : gs ≡ split l q t first part outer ∷ split l r part second s inner ∷ []

-- ---- lists

-- which item of a list is split: none; or that at this place, into this context and part
pub data Focus : Type 0 where
  nowhere : Focus
  at : ℕ → Tree → Tree → Focus

-- which one of the items behind the first
abbrev pub next : Focus → Focus
next nowhere = nowhere
next (at zero D s) = nowhere
next (at (suc k) D s) = at k D s

-- what has to be derived of the first item: that it is split, if it is the one, and else that it matches
abbrev pub item_goal : Focus → List ℕ → Pattern → Tree → Binding → Goal
item_goal nowhere l p t c = matched l p t c
item_goal (at zero D s) l p t c = split l p t D s c
item_goal (at (suc k) D s) l p t c = matched l p t c

mutual
  -- The items of a list pattern, laid out by the lengths ks of its repetitions over the terms: each term has its goal under the node, in
  -- their order, and what these bind, that of a repetition collected, is joined to b.
  pub data ItemUses (l : List ℕ) : Focus → Items → Trees → List ℕ → List Goal → Binding → Type 0 where
    uses_none : ItemUses l nowhere nil no_trees [] [] no_names
    uses_one : {f : Focus} {p : Pattern} {ps : Items} {t : Tree} {ts : Trees} {ks : List ℕ} {g : Goal} {gs : List Goal} {c d b : Binding} →
        g ≡ item_goal f l p t c → ItemUses l (next f) ps ts ks gs d → IsJoin c d b → ItemUses l f (one p ps) (cons t ts) ks (g ∷ gs) b
    uses_many : {f : Focus} {p : Pattern} {n : Option (List ℕ)} {ps : Items} {ts : Trees} {k : ℕ} {ks : List ℕ} {gs : List Goal}
        {cs : List Binding} {c d b : Binding} →
        TurnUses l f p ps ts k ks gs cs d → IsRepetition (names p) cs n c → IsJoin c d b → ItemUses l f (many p n ps) ts (k ∷ ks) gs b

  -- k turns of a repetition, which bind cs, and behind them the items ps, which bind d
  pub data TurnUses (l : List ℕ) : Focus → Pattern → Items → Trees → ℕ → List ℕ → List Goal → List Binding → Binding → Type 0 where
    turns_end : {f : Focus} {p : Pattern} {ps : Items} {ts : Trees} {ks : List ℕ} {gs : List Goal} {d : Binding} →
        ItemUses l f ps ts ks gs d → TurnUses l f p ps ts zero ks gs [] d
    turns_more : {f : Focus} {p : Pattern} {ps : Items} {t : Tree} {ts : Trees} {k : ℕ} {ks : List ℕ} {g : Goal} {gs : List Goal} {c d : Binding}
        {cs : List Binding} →
        g ≡ item_goal f l p t c → TurnUses l (next f) p ps ts k ks gs cs d → TurnUses l f p ps (cons t ts) (suc k) ks (g ∷ gs) (c ∷ cs) d

-- the choice is the lengths of the repetitions
pub record ListMatch (l : List ℕ) (ps : Items) (t : Tree) (b : Binding) (ks : List ℕ) (gs : List Goal) : Type 0 where
  pub mark : Option ℕ
  pub items : Trees
  pub same : t ≡ list mark items
  pub uses : ItemUses l nowhere ps items ks gs b

-- the choice is these lengths, and then the place of the item that is split
pub record ListSplit (l : List ℕ) (ps : Items) (t C s : Tree) (b : Binding) (ks : List ℕ) (gs : List Goal) : Type 0 where
  pub mark : Option ℕ
  pub items : Trees
  pub lengths : List ℕ
  pub place : ℕ
  pub inner : Tree
  pub same : t ≡ list mark items
  pub around : C ≡ list (Some place) (put_at items place inner)
  pub choice : ks ≡ lengths ++ place ∷ []
  pub uses : ItemUses l (at place inner s) ps items lengths gs b

-- ---- all forms of patterns

-- that p matches t and binds b follows by its rule from the goals gs, with the choice ks
abbrev pub IsMatchUse : Language → List ℕ → Pattern → Tree → Binding → List ℕ → List Goal → Type 0
IsMatchUse L l wild t b ks gs = IsAlone ⊤ b ks gs
IsMatchUse L l (of_kind k) t b ks gs = IsAlone (IsTrue (is_of_kind L k t)) b ks gs
IsMatchUse L l (except rs) t b ks gs = IsAlone (IsTrue (is_other_symbol rs t)) b ks gs
IsMatchUse L l (prefix r) t b ks gs = IsAlone (IsTrue (has_prefix r t)) b ks gs
IsMatchUse L l hole t b ks gs = IsAlone (t ≡ the_hole) b ks gs
IsMatchUse L l (lit u) t b ks gs = IsAlone (bare t ≡ bare u) b ks gs
IsMatchUse L l (nt x) t b ks gs = NonterminalMatch L l x t b ks gs
IsMatchUse L l (named x q) t b ks gs = NamedMatch l x q t b ks gs
IsMatchUse L l (differ x q) t b ks gs = DifferMatch l x q t b ks gs
IsMatchUse L l (in_hole q r) t b ks gs = InHoleMatch l q r t b ks gs
IsMatchUse L l (hide_hole q) t b ks gs = HiddenMatch l q t b ks gs
IsMatchUse L l (closed q) t b ks gs = ClosedMatch l q t b ks gs
IsMatchUse L l (seq ps) t b ks gs = ListMatch l ps t b ks gs

-- that p splits t into C and s and binds b does; most patterns have no rule
abbrev pub IsSplitUse : Language → List ℕ → Pattern → Tree → Tree → Tree → Binding → List ℕ → List Goal → Type 0
IsSplitUse L l wild t C s b ks gs = ⊥
IsSplitUse L l (of_kind k) t C s b ks gs = ⊥
IsSplitUse L l (except rs) t C s b ks gs = ⊥
IsSplitUse L l (prefix r) t C s b ks gs = ⊥
IsSplitUse L l hole t C s b ks gs = IsAlone ((C ≡ the_hole) × (s ≡ t)) b ks gs
IsSplitUse L l (lit u) t C s b ks gs = ⊥
IsSplitUse L l (nt x) t C s b ks gs = NonterminalSplit L l x t C s b ks gs
IsSplitUse L l (named x q) t C s b ks gs = NamedSplit l x q t C s b ks gs
IsSplitUse L l (differ x q) t C s b ks gs = DifferSplit l x q t C s b ks gs
IsSplitUse L l (in_hole q r) t C s b ks gs = InHoleSplit l q r t C s b ks gs
IsSplitUse L l (hide_hole q) t C s b ks gs = ⊥
IsSplitUse L l (closed q) t C s b ks gs = ClosedSplit l q t C s b ks gs
IsSplitUse L l (seq ps) t C s b ks gs = ListSplit l ps t C s b ks gs
