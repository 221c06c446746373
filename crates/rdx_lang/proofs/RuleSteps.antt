-- The rules of matching and of splitting read backwards, a lemma for each: what a pattern of each form matches, what it splits a term into, and
-- what it binds then.
use Rattle.std.proofs.Common.{◌≡◌, ℕ, zero, suc, eqb, true, false, Option, Some, List, [], ◌∷◌, length, refl, arith}
use Rattle.std.specs.List.{starts_with}
use Rattle.rdx_term.specs.Bare.{bare}
use Rattle.rdx_term.specs.Tree.{Tree, symbol, list, Trees, cons}
use Rattle.rdx_term.specs.Tree.{nil as no_trees}
use Rattle.rdx_term.specs.Tree.{hole as the_hole}
use Rattle.rdx_term.specs.Fill.{fill_of}
use Rattle.rdx_term.specs.Items.{trees_count, put_at}
use Rattle.rdx_lang.specs.Bindings.{Binding, no_names, one_name, one_differs}
use Rattle.rdx_lang.specs.Bindings.{one as one_term}
use Rattle.rdx_lang.specs.Collections.{IsRepetition}
use Rattle.rdx_lang.specs.Inside.Alternatives.{AnyAlternative, AnySplit}
use Rattle.rdx_lang.specs.Singles.{are_single}
use Rattle.rdx_lang.specs.Join.{IsJoin}
use Rattle.rdx_lang.specs.Names.{names}
use Rattle.rdx_lang.specs.Patterns.{Pattern, wild, of_kind, except, prefix, hole, lit, nt, named, differ, in_hole, hide_hole, closed, seq, Items, nil, one, many, Language}
use Rattle.rdx_lang.specs.PatternView.{Slot, just, repeated, items_of}
use Rattle.rdx_lang.specs.Rules.{Match, MatchItems, MatchRun, match_wild, match_kind, match_except, match_prefix, match_hole, match_lit, match_nt, match_named, match_differ, match_in_hole, match_hide_hole, match_closed, match_seq, match_none, match_one, match_many, run_end, run_more, is_of_kind, is_one_of}
use Rattle.rdx_lang.specs.Rules.{Split, SplitItems, SplitRun, split_hole, split_nt, split_named, split_differ, split_in_hole, split_closed, split_seq, split_here, split_behind, split_many, run_here, run_there, run_behind}
use Rattle.rdx_lang.specs.declared.pattern.Kind.{Kind}
use Rattle.rdx_lang.specs.declared.pattern.Ref.{Ref}

-- t is a symbol that passes the test
pub record IsSymbol (test : List ℕ → Type 0) (t : Tree) : Type 0 where
  pub spelled : List ℕ
  pub same : t ≡ symbol spelled
  pub passes : test spelled

-- t is a list whose items ps match, and bind b
pub record ListParts (L : Language) (ps : Items) (t : Tree) (b : Binding) : Type 0 where
  pub mark : Option ℕ
  pub items : Trees
  pub same : t ≡ list mark items
  pub matched : MatchItems L ps items b

-- what q binds at t, joined with the name x for t, is b
pub record NamedParts (L : Language) (x : List ℕ) (q : Pattern) (t : Tree) (b : Binding) : Type 0 where
  pub inside : Binding
  pub matched : Match L q t inside
  pub joined : IsJoin inside (one_name x (one_term t)) b

-- what q binds at t, joined with the mismatch name x for t, is b
pub record DifferParts (L : Language) (x : List ℕ) (q : Pattern) (t : Tree) (b : Binding) : Type 0 where
  pub inside : Binding
  pub matched : Match L q t inside
  pub joined : IsJoin inside (one_differs x t) b

-- what p binds at t, joined with what the items ps bind at ts, is b
pub record ItemParts (L : Language) (p : Pattern) (ps : Items) (t : Tree) (ts : Trees) (b : Binding) : Type 0 where
  pub first : Binding
  pub rest : Binding
  pub first_matched : Match L p t first
  pub rest_matched : MatchItems L ps ts rest
  pub joined : IsJoin first rest b

-- a run of p and the items behind it match ts, and what the repetition binds, joined with what these items bind, is b
pub record ManyParts (L : Language) (p : Pattern) (n : Option (List ℕ)) (ps : Items) (ts : Trees) (b : Binding) : Type 0 where
  pub turns : List Binding
  pub first : Binding
  pub rest : Binding
  pub run : MatchRun L p ps ts turns rest
  pub repeats : IsRepetition (names p) turns n first
  pub joined : IsJoin first rest b

-- what a run does at the term t with ts behind it: it has ended before t, or has a turn there
pub data RunParts (L : Language) (p : Pattern) (ps : Items) (t : Tree) (ts : Trees) : List Binding → Binding → Type 0 where
  ended : {d : Binding} → MatchItems L ps (cons t ts) d → RunParts L p ps t ts [] d
  turned : {c d : Binding} {cs : List Binding} → Match L p t c → MatchRun L p ps ts cs d → RunParts L p ps t ts (c ∷ cs) d

-- what q binds at t, whatever it is
pub record SomeMatch (L : Language) (q : Pattern) (t : Tree) : Type 0 where
  pub binding : Binding
  pub matched : Match L q t binding

-- q splits t, r matches the part, and what they bind is b together
pub record InHoleParts (L : Language) (q r : Pattern) (t : Tree) (b : Binding) : Type 0 where
  pub context : Tree
  pub part : Tree
  pub outer : Binding
  pub inner : Binding
  pub split : Split L q t context part outer
  pub matched : Match L r part inner
  pub joined : IsJoin outer inner b

-- q splits t into the context C and the part s, and what it binds, joined with the name x for C, is b
pub record NamedSplit (L : Language) (x : List ℕ) (q : Pattern) (t C s : Tree) (b : Binding) : Type 0 where
  pub inside : Binding
  pub split : Split L q t C s inside
  pub joined : IsJoin inside (one_name x (one_term C)) b

-- q splits t into the context C and the part s, and what it binds, joined with the mismatch name x for C, is b
pub record DifferSplit (L : Language) (x : List ℕ) (q : Pattern) (t C s : Tree) (b : Binding) : Type 0 where
  pub inside : Binding
  pub split : Split L q t C s inside
  pub joined : IsJoin inside (one_differs x C) b

-- q splits t, r splits the part into a context and s, the one context put into the other is C, and what they bind is b together
pub record InHoleSplit (L : Language) (q r : Pattern) (t C s : Tree) (b : Binding) : Type 0 where
  pub first : Tree
  pub second : Tree
  pub part : Tree
  pub outer : Binding
  pub inner : Binding
  pub split : Split L q t first part outer
  pub again : Split L r part second s inner
  pub filled : C ≡ fill_of first second
  pub joined : IsJoin outer inner b

-- q splits t into C and s, and binds something
pub record SomeSplit (L : Language) (q : Pattern) (t C s : Tree) : Type 0 where
  pub binding : Binding
  pub split : Split L q t C s binding

-- t is a list, one of whose items splits into a context and s while all others match, C is the list with the context in its place, marked
-- there, and b is what they bind
pub record ListSplit (L : Language) (ps : Items) (t C s : Tree) (b : Binding) : Type 0 where
  pub mark : Option ℕ
  pub items : Trees
  pub place : ℕ
  pub inner : Tree
  pub same : t ≡ list mark items
  pub split : SplitItems L ps items place inner s b
  pub around : C ≡ list (Some place) (put_at items place inner)

-- where one of the items of a list splits: at the first, or at place k of those behind it
pub data ItemSplit (L : Language) (p : Pattern) (ps : Items) (t : Tree) (ts : Trees) : ℕ → Tree → Tree → Binding → Type 0 where
  at_first : {D s : Tree} {c d b : Binding} → Split L p t D s c → MatchItems L ps ts d → IsJoin c d b → ItemSplit L p ps t ts zero D s b
  at_later : {k : ℕ} {D s : Tree} {c d b : Binding} → Match L p t c → SplitItems L ps ts k D s d → IsJoin c d b → ItemSplit L p ps t ts (suc k) D s b

-- a run of p and the items behind it, one of whose terms is split, and what the repetition binds, joined with what these items bind, is b
pub record ManySplit (L : Language) (p : Pattern) (n : Option (List ℕ)) (ps : Items) (ts : Trees) (k : ℕ) (D s : Tree) (b : Binding) : Type 0 where
  pub turns : List Binding
  pub first : Binding
  pub rest : Binding
  pub run : SplitRun L p ps ts k D s turns rest
  pub repeats : IsRepetition (names p) turns n first
  pub joined : IsJoin first rest b

-- what a run in which one term is split does at the term t with ts behind it: it splits t in a turn, has a turn there and splits a later
-- term, or has ended before t
pub data RunSplit (L : Language) (p : Pattern) (ps : Items) (t : Tree) (ts : Trees) : ℕ → Tree → Tree → List Binding → Binding → Type 0 where
  in_turn : {D s : Tree} {c d : Binding} {cs : List Binding} → Split L p t D s c → MatchRun L p ps ts cs d
      → RunSplit L p ps t ts zero D s (c ∷ cs) d
  in_later : {k : ℕ} {D s : Tree} {c d : Binding} {cs : List Binding} →
      Match L p t c → SplitRun L p ps ts k D s cs d → RunSplit L p ps t ts (suc k) D s (c ∷ cs) d
  behind_turns : {k : ℕ} {D s : Tree} {d : Binding} → SplitItems L ps (cons t ts) k D s d → RunSplit L p ps t ts k D s [] d

module _ {L : Language} where
  -- `_`
  pub wild_inside : {t : Tree} {b : Binding} → Match L wild t b → b ≡ no_names
  wild_inside match_wild = refl

  -- a built-in name
  pub kind_inside : {k : Kind} {t : Tree} {b : Binding} → Match L (of_kind k) t b → (is_of_kind L k t ≡ true) × (b ≡ no_names)
  kind_inside (match_kind h) = (h, refl)

  -- `variable-except`
  pub except_inside : {rs : List (List ℕ)} {t : Tree} {b : Binding} → Match L (except rs) t b → IsSymbol (λ s. is_one_of rs s ≡ false) t × (b ≡ no_names)
  except_inside (match_except {s = s} h) = (record { spelled = s; same = refl; passes = h }, refl)

  -- `variable-prefix`
  pub prefix_inside : {r : List ℕ} {t : Tree} {b : Binding} → Match L (prefix r) t b → IsSymbol (λ s. starts_with eqb s r ≡ true) t × (b ≡ no_names)
  prefix_inside (match_prefix {s = s} h) = (record { spelled = s; same = refl; passes = h }, refl)

  -- the hole
  pub hole_inside : {t : Tree} {b : Binding} → Match L hole t b → (t ≡ the_hole) × (b ≡ no_names)
  hole_inside match_hole = (refl, refl)

  -- a literal
  pub lit_inside : {u t : Tree} {b : Binding} → Match L (lit u) t b → (bare t ≡ bare u) × (b ≡ no_names)
  lit_inside (match_lit h) = (h, refl)

  -- a nonterminal
  pub nt_inside : {x : Ref} {t : Tree} {b : Binding} → Match L (nt x) t b → AnyAlternative L x t × (b ≡ no_names)
  nt_inside (match_nt {p = p} {c = c} a h) = (record { pattern = p; alternative = a; binding = c; matched = h }, refl)

  -- a pattern with a name
  pub named_inside : {x : List ℕ} {q : Pattern} {t : Tree} {b : Binding} → Match L (named x q) t b → NamedParts L x q t b
  named_inside (match_named {c = c} h j) = record { inside = c; matched = h; joined = j }

  -- a pattern with a mismatch name
  pub differ_inside : {x : List ℕ} {q : Pattern} {t : Tree} {b : Binding} → Match L (differ x q) t b → DifferParts L x q t b
  differ_inside (match_differ {c = c} h j) = record { inside = c; matched = h; joined = j }

  -- a pattern in the hole of another
  pub in_hole_inside : {q r : Pattern} {t : Tree} {b : Binding} → Match L (in_hole q r) t b → InHoleParts L q r t b
  in_hole_inside (match_in_hole {C = C} {u = u} {c = c} {d = d} h g j) =
      record { context = C; part = u; outer = c; inner = d; split = h; matched = g; joined = j }

  -- a hidden pattern
  pub hide_hole_inside : {q : Pattern} {t : Tree} {b : Binding} → Match L (hide_hole q) t b → Match L q t b
  hide_hole_inside (match_hide_hole h) = h

  -- a closed pattern
  pub closed_inside : {q : Pattern} {t : Tree} {b : Binding} → Match L (closed q) t b → SomeMatch L q t × (b ≡ no_names)
  closed_inside (match_closed {c = c} h) = (record { binding = c; matched = h }, refl)

  -- a list pattern
  pub seq_inside : {ps : Items} {t : Tree} {b : Binding} → Match L (seq ps) t b → ListParts L ps t b
  seq_inside (match_seq {m = m} {ts = ts} h) = record { mark = m; items = ts; same = refl; matched = h }

  -- a list pattern at a list
  pub list_inside : {ps : Items} {m : Option ℕ} {ts : Trees} {b : Binding} → Match L (seq ps) (list m ts) b → MatchItems L ps ts b
  list_inside (match_seq h) = h

  -- no items
  pub none_inside : {b : Binding} → MatchItems L nil no_trees b → b ≡ no_names
  none_inside match_none = refl

  -- an item and those behind it
  pub item_inside : {p : Pattern} {ps : Items} {t : Tree} {ts : Trees} {b : Binding} → MatchItems L (one p ps) (cons t ts) b → ItemParts L p ps t ts b
  item_inside (match_one {c = c} {d = d} h g j) = record { first = c; rest = d; first_matched = h; rest_matched = g; joined = j }

  -- a repetition and the items behind it
  pub many_inside : {p : Pattern} {n : Option (List ℕ)} {ps : Items} {ts : Trees} {b : Binding} → MatchItems L (many p n ps) ts b
      → ManyParts L p n ps ts b
  many_inside (match_many {cs = cs} {c = c} {d = d} h r j) = record { turns = cs; first = c; rest = d; run = h; repeats = r; joined = j }

  -- a run at the end of the terms has no turn
  pub run_at_end : {p : Pattern} {ps : Items} {cs : List Binding} {d : Binding} → MatchRun L p ps no_trees cs d
      → (cs ≡ []) × MatchItems L ps no_trees d
  run_at_end (run_end h) = (refl, h)

  -- a run at a term
  pub run_at_term : {p : Pattern} {ps : Items} {t : Tree} {ts : Trees} {cs : List Binding} {d : Binding} →
      MatchRun L p ps (cons t ts) cs d → RunParts L p ps t ts cs d
  run_at_term (run_end h) = ended h
  run_at_term (run_more h r) = turned h r

  -- items without repetitions match as many terms as they are
  pub same_length : {b : Binding} (slots : List Slot) (ts : Trees) → are_single slots ≡ true → MatchItems L (items_of slots) ts b
      → trees_count ts ≡ length slots
  same_length [] no_trees a m = refl
  same_length [] (cons t ts) a m = elim m [ ]
  same_length (just p ∷ slots) no_trees a m = elim m [ ]
  same_length (just p ∷ slots) (cons t ts) a (match_one h g j) =
      let more : trees_count ts ≡ length slots = same_length slots ts a g in omega arith
  same_length (repeated p n ∷ slots) ts a m = absurd cc

  -- ---- splitting

  -- `_` splits nothing
  pub wild_splits : {t C s : Tree} {b : Binding} → Split L wild t C s b → ⊥
  wild_splits h = elim h [ ]

  -- nor does a built-in name
  pub kind_splits : {k : Kind} {t C s : Tree} {b : Binding} → Split L (of_kind k) t C s b → ⊥
  kind_splits h = elim h [ ]

  -- nor `variable-except`
  pub except_splits : {rs : List (List ℕ)} {t C s : Tree} {b : Binding} → Split L (except rs) t C s b → ⊥
  except_splits h = elim h [ ]

  -- nor `variable-prefix`
  pub prefix_splits : {r : List ℕ} {t C s : Tree} {b : Binding} → Split L (prefix r) t C s b → ⊥
  prefix_splits h = elim h [ ]

  -- nor a literal
  pub lit_splits : {u t C s : Tree} {b : Binding} → Split L (lit u) t C s b → ⊥
  lit_splits h = elim h [ ]

  -- nor a hidden pattern
  pub hide_hole_splits : {q : Pattern} {t C s : Tree} {b : Binding} → Split L (hide_hole q) t C s b → ⊥
  hide_hole_splits h = elim h [ ]

  -- the hole splits a term into the hole and the term
  pub hole_splits : {t C s : Tree} {b : Binding} → Split L hole t C s b → (C ≡ the_hole) × (s ≡ t) × (b ≡ no_names)
  hole_splits split_hole = (refl, refl, refl)

  -- a nonterminal
  pub nt_splits : {x : Ref} {t C s : Tree} {b : Binding} → Split L (nt x) t C s b → AnySplit L x t C s × (b ≡ no_names)
  nt_splits (split_nt {p = p} {c = c} a h) = (record { pattern = p; alternative = a; binding = c; split = h }, refl)

  -- a pattern with a name
  pub named_splits : {x : List ℕ} {q : Pattern} {t C s : Tree} {b : Binding} → Split L (named x q) t C s b → NamedSplit L x q t C s b
  named_splits (split_named {c = c} h j) = record { inside = c; split = h; joined = j }

  -- a pattern with a mismatch name
  pub differ_splits : {x : List ℕ} {q : Pattern} {t C s : Tree} {b : Binding} → Split L (differ x q) t C s b → DifferSplit L x q t C s b
  differ_splits (split_differ {c = c} h j) = record { inside = c; split = h; joined = j }

  -- a pattern in the hole of another
  pub in_hole_splits : {q r : Pattern} {t C s : Tree} {b : Binding} → Split L (in_hole q r) t C s b → InHoleSplit L q r t C s b
  in_hole_splits (split_in_hole {D = D} {E = E} {u = u} {c = c} {d = d} h g e j) =
      record { first = D; second = E; part = u; outer = c; inner = d; split = h; again = g; filled = e; joined = j }

  -- a closed pattern
  pub closed_splits : {q : Pattern} {t C s : Tree} {b : Binding} → Split L (closed q) t C s b → SomeSplit L q t C s × (b ≡ no_names)
  closed_splits (split_closed {c = c} h) = (record { binding = c; split = h }, refl)

  -- a list pattern
  pub seq_splits : {ps : Items} {t C s : Tree} {b : Binding} → Split L (seq ps) t C s b → ListSplit L ps t C s b
  seq_splits (split_seq {m = m} {ts = ts} {k = k} {D = D} h e) =
      record { mark = m; items = ts; place = k; inner = D; same = refl; split = h; around = e }

  -- an item and those behind it
  pub item_splits : {p : Pattern} {ps : Items} {t : Tree} {ts : Trees} {k : ℕ} {D s : Tree} {b : Binding} →
      SplitItems L (one p ps) (cons t ts) k D s b → ItemSplit L p ps t ts k D s b
  item_splits (split_here h g j) = at_first h g j
  item_splits (split_behind h g j) = at_later h g j

  -- of no items none splits
  pub none_splits : {ts : Trees} {k : ℕ} {D s : Tree} {b : Binding} → SplitItems L nil ts k D s b → ⊥
  none_splits h = elim h [ ]

  -- a repetition and the items behind it
  pub many_splits : {p : Pattern} {n : Option (List ℕ)} {ps : Items} {ts : Trees} {k : ℕ} {D s : Tree} {b : Binding} →
      SplitItems L (many p n ps) ts k D s b → ManySplit L p n ps ts k D s b
  many_splits (split_many {cs = cs} {c = c} {d = d} h r j) = record { turns = cs; first = c; rest = d; run = h; repeats = r; joined = j }

  -- a run at the end of the terms splits none in a turn
  pub run_splits_end : {p : Pattern} {ps : Items} {k : ℕ} {D s : Tree} {cs : List Binding} {d : Binding} →
      SplitRun L p ps no_trees k D s cs d → (cs ≡ []) × SplitItems L ps no_trees k D s d
  run_splits_end (run_behind h) = (refl, h)

  -- a run at a term
  pub run_splits_term : {p : Pattern} {ps : Items} {t : Tree} {ts : Trees} {k : ℕ} {D s : Tree} {cs : List Binding} {d : Binding} →
      SplitRun L p ps (cons t ts) k D s cs d → RunSplit L p ps t ts k D s cs d
  run_splits_term (run_here h r) = in_turn h r
  run_splits_term (run_there h r) = in_later h r
  run_splits_term (run_behind h) = behind_turns h

  -- items without repetitions, of which one splits, are as many as the terms
  pub same_length_split : {k : ℕ} {D s : Tree} {b : Binding} (slots : List Slot) (ts : Trees) →
      are_single slots ≡ true → SplitItems L (items_of slots) ts k D s b → trees_count ts ≡ length slots
  same_length_split [] ts a h = elim h [ ]
  same_length_split (just p ∷ slots) no_trees a h = elim h [ ]
  same_length_split (just p ∷ slots) (cons t ts) a (split_here h g j) =
      let more : trees_count ts ≡ length slots = same_length slots ts a g in omega arith
  same_length_split (just p ∷ slots) (cons t ts) a (split_behind h g j) =
      let more : trees_count ts ≡ length slots = same_length_split slots ts a g in omega arith
  same_length_split (repeated p n ∷ slots) ts a h = absurd cc
