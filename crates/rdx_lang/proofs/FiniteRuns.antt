-- A repetition has finitely many bindings and splits at the terms of a list, where its pattern has at each of them, and where the items
-- behind it have at those that are left.
use Rattle.std.proofs.Common.{ℕ, zero, suc, ◌⊎◌, inl, inr, List, [], ◌∷◌, length, Option, Some, None, refl, sym, subst}
use Rattle.rdx_term.specs.Tree as tree
use Rattle.rdx_term.specs.Tree.{Tree, Trees}
use Rattle.rdx_lang.specs.Ascending.{IsAscending}
use Rattle.rdx_lang.specs.Bindings.{len, Mismatch, Binding, one_name, name_cmp, HasAscendingNames}
use Rattle.rdx_lang.specs.Collections.{AreSetsOf, IsCollection, IsRepetition, without_length, with_length}
use Rattle.rdx_lang.specs.Decompositions.{Decomposition}
use Rattle.rdx_lang.specs.Join.{IsJoin}
use Rattle.rdx_lang.specs.Listing.{SplitsInto}
use Rattle.rdx_lang.specs.Names.{names}
use Rattle.rdx_lang.specs.Patterns.{Pattern, Items, many, Language}
use Rattle.rdx_lang.specs.Rules.{Match, MatchItems, MatchRun, match_many, run_end, run_more, SplitRun, split_many, run_here, run_there, run_behind}
use Rattle.rdx_lang.proofs.CollectionLaws.{AreMaps, BindNames, collection-ascends, repetition-ascends, one_collection, some_collection}
use Rattle.rdx_lang.proofs.Finite.{Finite, Comes, IsImage, finite_none, finite_one, finite_as, finite_either, finite_comes, finite_by, finite_images}
use Rattle.rdx_lang.proofs.FiniteJoins.{finite_joins, sets_decided}
use Rattle.rdx_lang.proofs.FinitePatterns.{FinitelyMany, FinitelyManyItems, ItemDecomposition, ItemSplitsInto}
use Rattle.rdx_lang.proofs.NameLaws.{names-ascend, run-maps, run-ascends, split_run-maps, split_run-ascends, turn-names, split_turn-names}
use Rattle.rdx_lang.proofs.RuleSteps.{many_inside, run_at_end, run_at_term, many_splits, run_splits_end, run_splits_term}
use Rattle.rdx_lang.proofs.RuleSteps.{ManyParts, RunParts, ended, turned, ManySplit, RunSplit, in_turn, in_later, behind_turns}

-- ---- what a repetition binds

module _ (xs : List (List ℕ)) (cs : List Binding) (a : IsAscending name_cmp xs) (m : AreMaps cs) (f : BindNames xs cs) where
  -- turns that bind exactly these names are collected in one way
  finite_collections : Finite (IsCollection xs cs)
  finite_collections = by_sets (sets_decided cs)
    where
      by_sets : ((ms : List Mismatch) × AreSetsOf cs ms) ⊎ ((ms : List Mismatch) → AreSetsOf cs ms → ⊥) → Finite (IsCollection xs cs)
      by_sets (inl s) =
          let k = some_collection xs cs f s.0 s.1 in
          finite_one (IsCollection xs cs) k.0 k.1 (λ c l. one_collection xs cs c k.0 a m l k.1)
      by_sets (inr n) = finite_none (IsCollection xs cs) (λ c k. n c.differs k.differs)

  -- b is c joined with the length name for the number of turns
  abbrev LengthJoined : List ℕ → Binding → Binding → Type 0
  LengthJoined x c b = IsJoin c (one_name x (len (length cs))) b

  -- so a repetition of them binds one thing, or none
  finite_repetitions : (n : Option (List ℕ)) → Finite (IsRepetition xs cs n)
  finite_repetitions None = finite_as (IsCollection xs cs) (IsRepetition xs cs None) (λ c k. without_length k) back finite_collections
    where
      back : (b : Binding) → IsRepetition xs cs None b → IsCollection xs cs b
      back b (without_length k) = k
  finite_repetitions (Some x) =
      finite_by (IsCollection xs cs) (LengthJoined x) (IsRepetition xs cs (Some x)) (λ b c. with_length c.has c.by) back
      finite_collections joined
    where
      joined : (c : Binding) → IsCollection xs cs c → Finite (LengthJoined x c)
      joined c k = finite_joins c (one_name x (len (length cs))) (collection-ascends xs cs c a k) ((tt, tt), (tt, tt))

      back : (b : Binding) → IsRepetition xs cs (Some x) b → Comes (IsCollection xs cs) (LengthJoined x) b
      back b (with_length {c = c} k j) = record { from = c; has = k; by = j }

-- ---- runs

-- what the turns of a run bind, and what the items behind them bind
pub record RunBindings : Type 0 where
  pub turns : List Binding
  pub behind : Binding

-- p runs so over the first terms, and the items ps match the others
abbrev pub RunsInto : Language → Pattern → Items → Trees → RunBindings → Type 0
RunsInto L p ps ts r = MatchRun L p ps ts r.turns r.behind

-- what one term of a run, or behind it, is split into, with its place
pub record RunDecomposition : Type 0 where
  pub place : ℕ
  pub context : Tree
  pub part : Tree
  pub bound : RunBindings

-- one term is split so, and the others match
abbrev pub RunSplitsInto : Language → Pattern → Items → Trees → RunDecomposition → Type 0
RunSplitsInto L p ps ts x = SplitRun L p ps ts x.place x.context x.part x.bound.turns x.bound.behind

-- p has finitely many runs over the terms with ps behind them, and finitely many in which one term is split
pub record FinitelyManyRuns (L : Language) (p : Pattern) (ps : Items) (ts : Trees) : Type 0 where
  pub matches : Finite (RunsInto L p ps ts)
  pub splits : Finite (RunSplitsInto L p ps ts)

-- no turn, and d behind
abbrev no_turns : Binding → RunBindings
no_turns d = record { turns = []; behind = d }

-- one turn before the others
abbrev turn_before : Binding → RunBindings → RunBindings
turn_before c r = record { turns = c ∷ r.turns; behind = r.behind }

-- no turn, and an item behind split so
abbrev split_items : ItemDecomposition → RunDecomposition
split_items y = record { place = y.place; context = y.inner.context; part = y.inner.part; bound = no_turns y.inner.binding }

-- the first turn split so, before the others
abbrev split_turn : Decomposition → RunBindings → RunDecomposition
split_turn d r = record { place = zero; context = d.context; part = d.part; bound = turn_before d.binding r }

-- one turn before what is split so
abbrev split_later : Binding → RunDecomposition → RunDecomposition
split_later c x = record { place = suc x.place; context = x.context; part = x.part; bound = turn_before c x.bound }

-- split at the same place into the same, with this binding
abbrev as_item : RunDecomposition → Binding → ItemDecomposition
as_item x b = record { place = x.place; inner = record { context = x.context; part = x.part; binding = b } }

module _ (L : Language) (p : Pattern) (ps : Items) where
  -- ---- the run ends here

  -- r has no turns, and the items match
  abbrev Ends : Trees → RunBindings → Type 0
  Ends ts r = IsImage (MatchItems L ps ts) no_turns r

  -- x has no turns, and one of the items splits
  abbrev SplitEnds : Trees → RunDecomposition → Type 0
  SplitEnds ts x = IsImage (ItemSplitsInto L ps ts) split_items x

  -- then it is a run
  to_end : (ts : Trees) (r : RunBindings) → Ends ts r → RunsInto L p ps ts r
  to_end ts r c = subst (RunsInto L p ps ts) (sym c.by) (run_end c.has)

  -- and a run with a split
  to_split_end : (ts : Trees) (x : RunDecomposition) → SplitEnds ts x → RunSplitsInto L p ps ts x
  to_split_end ts x c = subst (RunSplitsInto L p ps ts) (sym c.by) (run_behind c.has)

  -- finitely many runs over no terms, where there are finitely many for the items
  pub finite_no_turn : FinitelyManyItems L ps tree.nil → FinitelyManyRuns L p ps tree.nil
  finite_no_turn f = record {
    matches = finite_as (Ends tree.nil) (RunsInto L p ps tree.nil) (to_end tree.nil) from_match ends;
    splits = finite_as (SplitEnds tree.nil) (RunSplitsInto L p ps tree.nil) (to_split_end tree.nil) from_split split_ends;
  }
    where
      ends : Finite (Ends tree.nil)
      ends = finite_images (MatchItems L ps tree.nil) no_turns f.matches

      split_ends : Finite (SplitEnds tree.nil)
      split_ends = finite_images (ItemSplitsInto L ps tree.nil) split_items f.splits

      from_match : (r : RunBindings) → RunsInto L p ps tree.nil r → Ends tree.nil r
      from_match r m =
          let n = run_at_end m in
          record { from = r.behind; has = n.1; by = λ i. record { turns = n.0 i; behind = r.behind } }

      from_split : (x : RunDecomposition) → RunSplitsInto L p ps tree.nil x → SplitEnds tree.nil x
      from_split x h =
          let n = run_splits_end h in
          record {
            from = as_item x x.bound.behind;
            has = n.1;
            by = λ i. record {
              place = x.place;
              context = x.context;
              part = x.part;
              bound = record { turns = n.0 i; behind = x.bound.behind };
            };
          }

  -- ---- one turn more

  -- the first term is matched in a turn with the binding c, before a run over the others
  abbrev TurnBefore : Trees → Binding → RunBindings → Type 0
  TurnBefore ts c r = IsImage (RunsInto L p ps ts) (turn_before c) r

  -- the run ends here, or there is one turn more
  abbrev Turns : Tree → Trees → RunBindings → Type 0
  Turns t ts r = Ends (tree.cons t ts) r ⊎ Comes (Match L p t) (TurnBefore ts) r

  -- the first term is split in a turn, before a run over the others
  abbrev SplitTurn : Trees → Decomposition → RunDecomposition → Type 0
  SplitTurn ts d x = IsImage (RunsInto L p ps ts) (split_turn d) x

  -- the first term is matched in a turn with the binding c, before a run over the others with a split
  abbrev SplitLater : Trees → Binding → RunDecomposition → Type 0
  SplitLater ts c x = IsImage (RunSplitsInto L p ps ts) (split_later c) x

  -- one or the other
  abbrev InTurns : Tree → Trees → RunDecomposition → Type 0
  InTurns t ts x = Comes (SplitsInto L p t) (SplitTurn ts) x ⊎ Comes (Match L p t) (SplitLater ts) x

  -- the split is behind the turns, or in one of them
  abbrev SplitTurns : Tree → Trees → RunDecomposition → Type 0
  SplitTurns t ts x = SplitEnds (tree.cons t ts) x ⊎ InTurns t ts x

  -- finitely many runs over one term more, where there are finitely many over the others
  pub finite_turn_more : (t : Tree) (ts : Trees) → FinitelyManyItems L ps (tree.cons t ts) → FinitelyMany L p t → FinitelyManyRuns L p ps ts
      → FinitelyManyRuns L p ps (tree.cons t ts)
  finite_turn_more t ts e f g = record {
    matches = finite_as (Turns t ts) (RunsInto L p ps (tree.cons t ts)) to_match (λ r m. from_run r.turns r.behind (run_at_term m)) turns;
    splits = finite_as (SplitTurns t ts) (RunSplitsInto L p ps (tree.cons t ts)) to_split from_split split_turns;
  }
    where
      turns : Finite (Turns t ts)
      turns =
          finite_either (Ends (tree.cons t ts)) (Comes (Match L p t) (TurnBefore ts))
          (finite_images (MatchItems L ps (tree.cons t ts)) no_turns e.matches)
          (finite_comes (Match L p t) (TurnBefore ts) f.matches (λ c m. finite_images (RunsInto L p ps ts) (turn_before c) g.matches))

      in_turns : Finite (InTurns t ts)
      in_turns =
          finite_either (Comes (SplitsInto L p t) (SplitTurn ts)) (Comes (Match L p t) (SplitLater ts))
          (finite_comes (SplitsInto L p t) (SplitTurn ts) f.splits (λ d h. finite_images (RunsInto L p ps ts) (split_turn d) g.matches))
          (finite_comes (Match L p t) (SplitLater ts) f.matches (λ c m. finite_images (RunSplitsInto L p ps ts) (split_later c) g.splits))

      split_turns : Finite (SplitTurns t ts)
      split_turns =
          finite_either (SplitEnds (tree.cons t ts)) (InTurns t ts)
          (finite_images (ItemSplitsInto L ps (tree.cons t ts)) split_items e.splits)
          in_turns

      to_match : (r : RunBindings) → Turns t ts r → RunsInto L p ps (tree.cons t ts) r
      to_match r (inl c) = to_end (tree.cons t ts) r c
      to_match r (inr c) = subst (RunsInto L p ps (tree.cons t ts)) (sym c.by.by) (run_more c.has c.by.has)

      from_run : (cs : List Binding) (d : Binding) → RunParts L p ps t ts cs d → Turns t ts (record { turns = cs; behind = d })
      from_run cs d (ended m) = inl (record { from = d; has = m; by = refl })
      from_run cs d (turned {c = c} {cs = bs} m r) =
          inr (record { from = c; has = m; by = record { from = record { turns = bs; behind = d }; has = r; by = refl } })

      to_split : (x : RunDecomposition) → SplitTurns t ts x → RunSplitsInto L p ps (tree.cons t ts) x
      to_split x (inl c) = to_split_end (tree.cons t ts) x c
      to_split x (inr (inl c)) = subst (RunSplitsInto L p ps (tree.cons t ts)) (sym c.by.by) (run_here c.has c.by.has)
      to_split x (inr (inr c)) = subst (RunSplitsInto L p ps (tree.cons t ts)) (sym c.by.by) (run_there c.has c.by.has)

      from_split_run : (k : ℕ) (D s : Tree) (cs : List Binding) (d : Binding) → RunSplit L p ps t ts k D s cs d
          → SplitTurns t ts (record { place = k; context = D; part = s; bound = record { turns = cs; behind = d } })
      from_split_run k D s cs d (behind_turns h) = inl (record {
        from = record { place = k; inner = record { context = D; part = s; binding = d } };
        has = h;
        by = refl;
      })
      from_split_run k D s cs d (in_turn {c = c} {cs = bs} h r) = inr (inl (record {
        from = record { context = D; part = s; binding = c };
        has = h;
        by = record { from = record { turns = bs; behind = d }; has = r; by = refl };
      }))
      from_split_run k D s cs d (in_later {k = i} {c = c} {cs = bs} m r) = inr (inr (record {
        from = c;
        has = m;
        by = record {
          from = record { place = i; context = D; part = s; bound = record { turns = bs; behind = d } };
          has = r;
          by = refl;
        };
      }))

      from_split : (x : RunDecomposition) → RunSplitsInto L p ps (tree.cons t ts) x → SplitTurns t ts x
      from_split x h = from_split_run x.place x.context x.part x.bound.turns x.bound.behind (run_splits_term h)

  -- ---- a repetition

  -- b is what the repetition of these turns binds, joined with what is behind them
  abbrev RunBinds : Option (List ℕ) → RunBindings → Binding → Type 0
  RunBinds n r b = Comes (IsRepetition (names p) r.turns n) (λ c. IsJoin c r.behind) b

  -- y is split as x is, with what both bind
  abbrev RunMade : Option (List ℕ) → RunDecomposition → ItemDecomposition → Type 0
  RunMade n x y = IsImage (RunBinds n x.bound) (as_item x) y

  -- a run binds finitely many things
  finite_run : (n : Option (List ℕ)) (r : RunBindings) → AreMaps r.turns → BindNames (names p) r.turns → HasAscendingNames r.behind
      → Finite (RunBinds n r)
  finite_run n r m f h =
      finite_comes (IsRepetition (names p) r.turns n) (λ c. IsJoin c r.behind) (finite_repetitions (names p) r.turns (names-ascend p) m f n)
      (λ c k. finite_joins c r.behind (repetition-ascends (names-ascend p) k) h)

  -- finitely many bindings and splits of a repetition with items behind it, where there are finitely many runs
  pub finite_many : (n : Option (List ℕ)) (ts : Trees) → FinitelyManyRuns L p ps ts → FinitelyManyItems L (many p n ps) ts
  finite_many n ts f = record {
    matches = finite_by (RunsInto L p ps ts) (RunBinds n) (MatchItems L (many p n ps) ts) to_match from_match f.matches binds;
    splits = finite_by (RunSplitsInto L p ps ts) (RunMade n) (ItemSplitsInto L (many p n ps) ts) to_split from_split f.splits made;
  }
    where
      binds : (r : RunBindings) → RunsInto L p ps ts r → Finite (RunBinds n r)
      binds r m = finite_run n r (run-maps m) (turn-names m) (run-ascends m)

      made : (x : RunDecomposition) → RunSplitsInto L p ps ts x → Finite (RunMade n x)
      made x h =
          finite_images (RunBinds n x.bound) (as_item x)
          (finite_run n x.bound (split_run-maps h) (split_turn-names h) (split_run-ascends h))

      to_match : (b : Binding) → Comes (RunsInto L p ps ts) (RunBinds n) b → MatchItems L (many p n ps) ts b
      to_match b c = match_many c.has c.by.has c.by.by

      from_match : (b : Binding) → MatchItems L (many p n ps) ts b → Comes (RunsInto L p ps ts) (RunBinds n) b
      from_match b m =
          let k : ManyParts L p n ps ts b = many_inside m in
          record {
            from = record { turns = k.turns; behind = k.rest };
            has = k.run;
            by = record { from = k.first; has = k.repeats; by = k.joined };
          }

      to_split : (y : ItemDecomposition) → Comes (RunSplitsInto L p ps ts) (RunMade n) y → ItemSplitsInto L (many p n ps) ts y
      to_split y c = subst (ItemSplitsInto L (many p n ps) ts) (sym c.by.by) (split_many c.has c.by.has.has c.by.has.by)

      from_split : (y : ItemDecomposition) → ItemSplitsInto L (many p n ps) ts y → Comes (RunSplitsInto L p ps ts) (RunMade n) y
      from_split y h =
          let k : ManySplit L p n ps ts y.place y.inner.context y.inner.part y.inner.binding = many_splits h in
          record {
            from = record {
              place = y.place;
              context = y.inner.context;
              part = y.inner.part;
              bound = record { turns = k.turns; behind = k.rest };
            };
            has = k.run;
            by = record { from = y.inner.binding; has = record { from = k.first; has = k.repeats; by = k.joined }; by = refl };
          }
