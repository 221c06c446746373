-- The names of a pattern ascend, and a match binds exactly them, as a split does.
use Rattle.std.proofs.Common.{◌≡◌, ℕ, List, [], ◌∷◌, refl, sym, ◌∙◌, ap, subst}
use Rattle.rdx_term.specs.Tree.{Tree, Trees}
use Rattle.rdx_lang.specs.Ascending.{IsAscending}
use Rattle.rdx_lang.specs.Bindings.{Binding, one_name, one_differs, name_cmp, pair_names, bound_names, HasAscendingNames}
use Rattle.rdx_lang.specs.Bindings.{one as one_term}
use Rattle.rdx_lang.specs.Join.{IsJoin}
use Rattle.rdx_lang.specs.Members.{here, there}
use Rattle.rdx_lang.specs.Names.{names, item_names, with_length_name}
use Rattle.rdx_lang.specs.Patterns.{Pattern, wild, of_kind, except, prefix, hole, lit, nt, named, differ, in_hole, hide_hole, closed, seq, Items, nil, one, many, Language}
use Rattle.rdx_lang.specs.Rules.{Match, MatchItems, MatchRun, match_wild, match_kind, match_except, match_prefix, match_hole, match_lit, match_nt, match_named, match_differ, match_in_hole, match_hide_hole, match_closed, match_seq, match_none, match_one, match_many, run_end, run_more}
use Rattle.rdx_lang.specs.Rules.{Split, SplitItems, SplitRun, split_hole, split_nt, split_named, split_differ, split_in_hole, split_closed, split_seq, split_here, split_behind, split_many, run_here, run_there, run_behind}
use Rattle.rdx_lang.proofs.CollectionLaws.{AreMaps, BindNames, repetition-names}
use Rattle.rdx_lang.proofs.JoinLaws.{one_pairs_join, join_ascends, no_pairs_right}
use Rattle.rdx_lang.proofs.NameLists.{add_names-ascends, joined}

-- ---- the names of a pattern

mutual
  -- the names of a pattern ascend
  pub names-ascend : (p : Pattern) → IsAscending name_cmp (names p)
  names-ascend wild = tt
  names-ascend (of_kind k) = tt
  names-ascend (except rs) = tt
  names-ascend (prefix r) = tt
  names-ascend hole = tt
  names-ascend (lit u) = tt
  names-ascend (nt x) = tt
  names-ascend (named x q) = add_names-ascends (names q) (x ∷ []) (tt, tt)
  names-ascend (differ x q) = names-ascend q
  names-ascend (in_hole q r) = add_names-ascends (names q) (names r) (names-ascend r)
  names-ascend (hide_hole q) = names-ascend q
  names-ascend (closed q) = tt
  names-ascend (seq ps) = item_names-ascend ps

  -- the names of items ascend
  item_names-ascend : (ps : Items) → IsAscending name_cmp (item_names ps)
  item_names-ascend nil = tt
  item_names-ascend (one p ps) = add_names-ascends (names p) (item_names ps) (item_names-ascend ps)
  item_names-ascend (many p n ps) = add_names-ascends (with_length_name n (names p)) (item_names ps) (item_names-ascend ps)

-- ---- the names of a match, and of a split

mutual
  -- a match binds a finite map
  pub match-ascends : {L : Language} {p : Pattern} {t : Tree} {b : Binding} → Match L p t b → HasAscendingNames b
  match-ascends match_wild = (tt, (tt, tt))
  match-ascends (match_kind h) = (tt, (tt, tt))
  match-ascends (match_except h) = (tt, (tt, tt))
  match-ascends (match_prefix h) = (tt, (tt, tt))
  match-ascends match_hole = (tt, (tt, tt))
  match-ascends (match_lit h) = (tt, (tt, tt))
  match-ascends (match_nt a h) = (tt, (tt, tt))
  match-ascends (match_named h j) = join_ascends j
  match-ascends (match_differ h j) = join_ascends j
  match-ascends (match_in_hole h g j) = join_ascends j
  match-ascends (match_hide_hole h) = match-ascends h
  match-ascends (match_closed h) = (tt, (tt, tt))
  match-ascends (match_seq h) = items-ascends h

  -- so do items that match
  pub items-ascends : {L : Language} {ps : Items} {ts : Trees} {b : Binding} → MatchItems L ps ts b → HasAscendingNames b
  items-ascends match_none = (tt, (tt, tt))
  items-ascends (match_one h g j) = join_ascends j
  items-ascends (match_many h r j) = join_ascends j

-- so do items of which one splits
pub split_items-ascends : {L : Language} {ps : Items} {ts : Trees} {k : ℕ} {D s : Tree} {b : Binding} → SplitItems L ps ts k D s b → HasAscendingNames b
split_items-ascends (split_here h g j) = join_ascends j
split_items-ascends (split_behind h g j) = join_ascends j
split_items-ascends (split_many h r j) = join_ascends j

-- a split binds a finite map
pub split-ascends : {L : Language} {p : Pattern} {t C s : Tree} {b : Binding} → Split L p t C s b → HasAscendingNames b
split-ascends split_hole = (tt, (tt, tt))
split-ascends (split_nt a h) = (tt, (tt, tt))
split-ascends (split_named h j) = join_ascends j
split-ascends (split_differ h j) = join_ascends j
split-ascends (split_in_hole h g e j) = join_ascends j
split-ascends (split_closed h) = (tt, (tt, tt))
split-ascends (split_seq h e) = split_items-ascends h

-- ---- runs

-- all of these bindings are finite maps, where the first is
first_map : {c : Binding} {cs : List Binding} → HasAscendingNames c → AreMaps cs → AreMaps (c ∷ cs)
first_map h f b (here e) = subst (λ (d : Binding). HasAscendingNames d) (sym e) h
first_map h f b (there i) = f b i

-- each turn of a run binds a finite map
pub run-maps : {L : Language} {p : Pattern} {ps : Items} {ts : Trees} {cs : List Binding} {d : Binding} → MatchRun L p ps ts cs d
    → AreMaps cs
run-maps (run_end g) = λ b i. elim i [ ]
run-maps (run_more h r) = first_map (match-ascends h) (run-maps r)

-- so do the items behind the turns
pub run-ascends : {L : Language} {p : Pattern} {ps : Items} {ts : Trees} {cs : List Binding} {d : Binding} → MatchRun L p ps ts cs d
    → HasAscendingNames d
run-ascends (run_end g) = items-ascends g
run-ascends (run_more h r) = run-ascends r

-- so does each turn of a run in which one term is split
pub split_run-maps : {L : Language} {p : Pattern} {ps : Items} {ts : Trees} {k : ℕ} {D s : Tree} {cs : List Binding} {d : Binding} →
    SplitRun L p ps ts k D s cs d → AreMaps cs
split_run-maps (run_here h r) = first_map (split-ascends h) (run-maps r)
split_run-maps (run_there h r) = first_map (match-ascends h) (split_run-maps r)
split_run-maps (run_behind g) = λ b i. elim i [ ]

-- and the items behind them
pub split_run-ascends : {L : Language} {p : Pattern} {ps : Items} {ts : Trees} {k : ℕ} {D s : Tree} {cs : List Binding} {d : Binding} →
    SplitRun L p ps ts k D s cs d → HasAscendingNames d
split_run-ascends (run_here h r) = run-ascends r
split_run-ascends (run_there h r) = split_run-ascends r
split_run-ascends (run_behind g) = split_items-ascends g

-- ---- what is bound

-- one mismatch name more binds no name
differs-names : (c : Binding) (x : List ℕ) (t : Tree) {b : Binding} → HasAscendingNames c → IsJoin c (one_differs x t) b → bound_names b ≡ bound_names c
differs-names c x t {b = b} h j = ap pair_names (one_pairs_join c.pairs [] b.pairs c.pairs j.pairs (no_pairs_right c.pairs h.0))

mutual
  -- a match binds exactly the names of its pattern
  pub match-names : {L : Language} {p : Pattern} {t : Tree} {b : Binding} → Match L p t b → bound_names b ≡ names p
  match-names match_wild = refl
  match-names (match_kind h) = refl
  match-names (match_except h) = refl
  match-names (match_prefix h) = refl
  match-names match_hole = refl
  match-names (match_lit h) = refl
  match-names (match_nt a h) = refl
  match-names (match_named {x = x} {t = t} {c = c} h j) = joined c (one_name x (one_term t)) ((tt, tt), (tt, tt)) j (match-names h) refl
  match-names (match_differ {x = x} {t = t} {c = c} h j) = differs-names c x t (match-ascends h) j ∙ match-names h
  match-names (match_in_hole {c = c} {d = d} h g j) = joined c d (match-ascends g) j (split-names h) (match-names g)
  match-names (match_hide_hole h) = match-names h
  match-names (match_closed h) = refl
  match-names (match_seq h) = items-names h

  -- items that match bind exactly their names
  pub items-names : {L : Language} {ps : Items} {ts : Trees} {b : Binding} → MatchItems L ps ts b → bound_names b ≡ item_names ps
  items-names match_none = refl
  items-names (match_one {c = c} {d = d} h g j) = joined c d (items-ascends g) j (match-names h) (items-names g)
  items-names (match_many {c = c} {d = d} h r j) = joined c d (run-ascends h) j (repetition-names r) (run-names h)

  -- so do the items behind the turns of a run
  pub run-names : {L : Language} {p : Pattern} {ps : Items} {ts : Trees} {cs : List Binding} {d : Binding} → MatchRun L p ps ts cs d
      → bound_names d ≡ item_names ps
  run-names (run_end g) = items-names g
  run-names (run_more h r) = run-names r

  -- so does a split
  pub split-names : {L : Language} {p : Pattern} {t C s : Tree} {b : Binding} → Split L p t C s b → bound_names b ≡ names p
  split-names split_hole = refl
  split-names (split_nt a h) = refl
  split-names (split_named {x = x} {C = C} {c = c} h j) = joined c (one_name x (one_term C)) ((tt, tt), (tt, tt)) j (split-names h) refl
  split-names (split_differ {x = x} {C = C} {c = c} h j) = differs-names c x C (split-ascends h) j ∙ split-names h
  split-names (split_in_hole {c = c} {d = d} h g e j) = joined c d (split-ascends g) j (split-names h) (split-names g)
  split-names (split_closed h) = refl
  split-names (split_seq h e) = split_items-names h

  -- so do items of which one splits
  pub split_items-names : {L : Language} {ps : Items} {ts : Trees} {k : ℕ} {D s : Tree} {b : Binding} → SplitItems L ps ts k D s b → bound_names b ≡ item_names ps
  split_items-names (split_here {c = c} {d = d} h g j) = joined c d (items-ascends g) j (split-names h) (items-names g)
  split_items-names (split_behind {c = c} {d = d} h g j) = joined c d (split_items-ascends g) j (match-names h) (split_items-names g)
  split_items-names (split_many {c = c} {d = d} h r j) = joined c d (split_run-ascends h) j (repetition-names r) (split_run-names h)

  -- so do the items behind the turns of a run in which one term is split
  pub split_run-names : {L : Language} {p : Pattern} {ps : Items} {ts : Trees} {k : ℕ} {D s : Tree} {cs : List Binding} {d : Binding} →
      SplitRun L p ps ts k D s cs d → bound_names d ≡ item_names ps
  split_run-names (run_here h r) = run-names r
  split_run-names (run_there h r) = split_run-names r
  split_run-names (run_behind g) = split_items-names g

-- ---- the names of turns

-- all of these bindings bind exactly xs, where the first does
first_names : {xs : List (List ℕ)} {c : Binding} {cs : List Binding} → bound_names c ≡ xs → BindNames xs cs → BindNames xs (c ∷ cs)
first_names h f b (here e) = ap bound_names e ∙ h
first_names h f b (there i) = f b i

-- each turn of a run binds exactly the names of its pattern
pub turn-names : {L : Language} {p : Pattern} {ps : Items} {ts : Trees} {cs : List Binding} {d : Binding} → MatchRun L p ps ts cs d
    → BindNames (names p) cs
turn-names (run_end g) = λ b i. elim i [ ]
turn-names (run_more h r) = first_names (match-names h) (turn-names r)

-- so does each turn of a run in which one term is split
pub split_turn-names : {L : Language} {p : Pattern} {ps : Items} {ts : Trees} {k : ℕ} {D s : Tree} {cs : List Binding} {d : Binding} →
    SplitRun L p ps ts k D s cs d → BindNames (names p) cs
split_turn-names (run_here h r) = first_names (split-names h) (turn-names r)
split_turn-names (run_there h r) = first_names (match-names h) (split_turn-names r)
split_turn-names (run_behind g) = λ b i. elim i [ ]
