-- A run is a choice of one binding of each of some first cells, and a member of what comes behind them; where it is split, so is one of
-- these.
use Rattle.std.proofs.Common.{◌≡◌, ◌∙◌, ℕ, zero, suc, ◌+◌, ◌-◌, ◌<◌, ◌≤◌, ◌⊎◌, inl, inr, List, [], ◌∷◌, length, take, drop, Option, refl}
use Rattle.std.proofs.Common.{sym, subst, arith, add-one}
use Rattle.rdx_lang.proofs.Collecting.{In_along, no_member, only}
use Rattle.rdx_lang.specs.Bindings.{Binding}
use Rattle.rdx_lang.specs.Collections.{IsRepetition}
use Rattle.rdx_lang.specs.Collecting.{Adds, Arises, HasExactly}
use Rattle.rdx_lang.specs.Join.{IsJoin}
use Rattle.rdx_lang.specs.Members.{In, here, there}
use Rattle.rdx_bind.proofs.Gathering.{exactly_as}
use Rattle.rdx_bind.specs.Choices.{IsChoice, choice_end, choice_more, NoneEmpty, RepeatsWith}
use Rattle.rdx_bind.specs.Ends.{HasMatches, HasSpots, IsReached, reached_here, reached_behind, IsSplitEnd, split_end_here}
use Rattle.rdx_bind.specs.Ends.{split_end_behind, row_at, rows_around, MatchesUpTo, MatchesTo, SplitsCellAt, SplitsNextAt}
use Rattle.rdx_bind.specs.Ends.{SplitsCellTo, SplitsNextTo}
use Rattle.rdx_bind.specs.Rows.{SplitRow, all_matches}
use Rattle.rdx_bind.specs.Spots.{Spot}
use Rattle.rdx_bind.specs.Turns.{Runs, runs_end, runs_more, SplitRuns, split_runs_here, split_runs_there, split_runs_behind}
use Rattle.rdx_bind.specs.Turns.{TurnsTo, SplitsTurn}

-- ---- places

-- a list with a member isn't empty
not_empty : {A : Type 0} {x : A} {xs : List A} → In x xs → ¬ (xs ≡ [])
not_empty {xs = xs} i e = no_member (In_along xs [] e i)

-- a place that is reached has at most all cells from it on
pub reached_bound : {P : SplitRow → Type 0} (cells nexts : List SplitRow) (k : ℕ) → IsReached P cells nexts k → k ≤ length cells
reached_bound cells [] k r = elim r [ ]
reached_bound cells (next ∷ nexts) k (reached_here p e) = omega arith
reached_bound (cell ∷ cells) (next ∷ nexts) k (reached_behind h r) = let i = reached_bound cells nexts k r in omega arith

-- all cells before it match
pub reached_full : {P : SplitRow → Type 0} (m : ℕ) (cells nexts : List SplitRow) (k : ℕ) → m + k ≡ length cells →
    IsReached P cells nexts k → NoneEmpty (all_matches (take m cells))
reached_full zero cells nexts k e r row i = no_member i
reached_full (suc m) [] nexts k e r row i = absurd (omega arith)
reached_full (suc m) (cell ∷ cells) [] k e r row i = elim r [ ]
reached_full (suc m) (cell ∷ cells) (next ∷ nexts) k e (reached_here p f) row i = absurd (omega arith)
reached_full (suc m) (cell ∷ cells) (next ∷ nexts) k e (reached_behind h r) row (here f) = λ g. h (sym f ∙ g)
reached_full (suc m) (cell ∷ cells) (next ∷ nexts) k e (reached_behind h r) row (there i) =
    reached_full m cells nexts k (omega arith) r row i

-- the cell that is split comes before the end
pub split_end_bounds : (cells nexts : List SplitRow) (p : ℕ × ℕ) → IsSplitEnd cells nexts p → (p.0 ≤ length cells) × (p.1 < p.0)
split_end_bounds [] nexts p r = elim r [ ]
split_end_bounds (cell ∷ cells) [] p r = elim r [ ]
split_end_bounds (cell ∷ cells) (next ∷ nexts) p (split_end_here h e r) =
    let b = reached_bound cells nexts p.1 r in (omega arith, omega arith)
split_end_bounds (cell ∷ cells) (next ∷ nexts) p (split_end_behind h r) = let b = split_end_bounds cells nexts p r in (omega arith, b.1)

-- all cells before the end match, but for the one that is split
pub split_end_full : (m l : ℕ) (cells nexts : List SplitRow) (p : ℕ × ℕ) (c : Binding) → m + p.0 ≡ length cells →
    suc (m + l) + p.1 ≡ length cells → IsSplitEnd cells nexts p →
    NoneEmpty (rows_around (take m cells) c (take l (drop (suc m) cells)))
split_end_full m l [] nexts p c e f r row i = elim r [ ]
split_end_full m l (cell ∷ cells) [] p c e f r row i = elim r [ ]
split_end_full zero l (cell ∷ cells) (next ∷ nexts) p c e f (split_end_here h g r) row (here k) = λ z. cc
split_end_full zero l (cell ∷ cells) (next ∷ nexts) p c e f (split_end_here h g r) row (there i) =
    reached_full l cells nexts p.1 (omega arith) r row i
split_end_full zero l (cell ∷ cells) (next ∷ nexts) p c e f (split_end_behind h r) row i =
    let b = split_end_bounds cells nexts p r in let d = b.0 in absurd (omega arith)
split_end_full (suc m) l (cell ∷ cells) (next ∷ nexts) p c e f (split_end_here h g r) row i = absurd (omega arith)
split_end_full (suc m) l (cell ∷ cells) (next ∷ nexts) p c e f (split_end_behind h r) row (here k) = λ z. h (sym k ∙ z)
split_end_full (suc m) l (cell ∷ cells) (next ∷ nexts) p c e f (split_end_behind h r) row (there i) =
    split_end_full m l cells nexts p c (omega arith) (omega arith) r row i

-- ---- runs

-- where a run ends
record RunEnd (cells nexts : List SplitRow) (cs : List Binding) (d : Binding) : Type 0 where
  place : ℕ
  way : ℕ
  reached : IsReached HasMatches cells nexts place
  sum : way + place ≡ length cells
  choice : IsChoice (all_matches (take way cells)) cs
  among : In d (row_at way nexts).matches

-- each run ends somewhere
run_end : {cells nexts : List SplitRow} {cs : List Binding} {d : Binding} → Runs cells nexts cs d → RunEnd cells nexts cs d
run_end (runs_end {cells = cells} i) =
    record { place = length cells; way = zero; reached = reached_here (not_empty i) refl; sum = omega arith; choice = choice_end; among = i }
run_end (runs_more i r) =
    let e = run_end r in
    let s = e.sum in
    record { place = e.place; way = suc e.way; reached = reached_behind (not_empty i) e.reached; sum = omega arith; choice = choice_more i e.choice; among = e.among }

-- the first cells, with what comes behind them, are a run
end_run : (n : ℕ) (cells nexts : List SplitRow) (cs : List Binding) (d : Binding) → n ≤ length cells →
    IsChoice (all_matches (take n cells)) cs → In d (row_at n nexts).matches → Runs cells nexts cs d
end_run zero cells [] cs d h k i = no_member i
end_run zero cells (next ∷ nexts) [] d h k i = runs_end i
end_run zero cells (next ∷ nexts) (c ∷ cs) d h k i = elim k [ ]
end_run (suc n) [] nexts cs d h k i = absurd (omega arith)
end_run (suc n) (cell ∷ cells) [] cs d h k i = no_member i
end_run (suc n) (cell ∷ cells) (next ∷ nexts) [] d h k i = elim k [ ]
end_run (suc n) (cell ∷ cells) (next ∷ nexts) (c ∷ cs) d h (choice_more j k) i =
    runs_more j (end_run n cells nexts cs d (omega arith) k i)

-- what is bound up to the ends is what the repetition binds with what comes behind it
pub turns_by_ends : (xs : List (List ℕ)) (x : Option (List ℕ)) (cells nexts : List SplitRow) (ends : List ℕ) (found : List Binding) →
    HasExactly ends (IsReached HasMatches cells nexts) →
    HasExactly found (Arises (MatchesTo xs x cells nexts) ends) → HasExactly found (TurnsTo xs x cells nexts)
turns_by_ends xs x cells nexts ends found h g = exactly_as onward back g
  where
    onward : (b : Binding) → Arises (MatchesTo xs x cells nexts) ends b → TurnsTo xs x cells nexts b
    onward b a =
        let i = reached_bound cells nexts a.from (h.sound a.from a.among) in
        let r = a.by in record {
          turns = r.repeated.turns;
          others = r.other;
          collected = r.collected;
          run = end_run (length cells - a.from) cells nexts r.repeated.turns r.other (omega arith) r.repeated.choice r.among;
          repetition = r.repeated.repetition;
          joined = r.joined;
        }

    back : (b : Binding) → TurnsTo xs x cells nexts b → Arises (MatchesTo xs x cells nexts) ends b
    back b t =
        let e = run_end t.run in
        let s = e.sum in
        let f : e.way ≡ length cells - e.place = omega arith in
        let r : MatchesUpTo xs x cells nexts e.way b = record {
          collected = t.collected;
          repeated = record { turns = t.turns; choice = e.choice; repetition = t.repetition };
          other = t.others;
          among = e.among;
          joined = t.joined;
        } in
        record { from = e.place; among = h.complete e.place e.reached; by = subst (λ (n : ℕ). MatchesUpTo xs x cells nexts n b) f r }

-- ---- split runs

-- where a run whose cell is split is so, and where it ends
record CellRun (cells nexts : List SplitRow) (ks : List ℕ) (cs : List Binding) (d : Binding) : Type 0 where
  places : ℕ × ℕ
  before : ℕ
  between : ℕ
  way : ℕ
  reached : IsSplitEnd cells nexts places
  cell : before + places.0 ≡ length cells
  end : way + places.1 ≡ length cells
  apart : suc (before + between) ≡ way
  spot : Spot
  split : In spot (row_at before cells).spots
  path : ks ≡ spot.path
  choice : IsChoice (rows_around (take before cells) spot.binding (take between (drop (suc before) cells))) cs
  among : In d (row_at way nexts).matches

-- where a run behind which the list is split ends
record NextRun (cells nexts : List SplitRow) (ks : List ℕ) (cs : List Binding) (d : Binding) : Type 0 where
  place : ℕ
  way : ℕ
  reached : IsReached HasSpots cells nexts place
  sum : way + place ≡ length cells
  spot : Spot
  split : In spot (row_at way nexts).spots
  path : ks ≡ spot.path
  binding : d ≡ spot.binding
  choice : IsChoice (all_matches (take way cells)) cs

-- one cell before them
cell_behind : {cell next : SplitRow} {cells nexts : List SplitRow} {ks : List ℕ} {c d : Binding} {cs : List Binding} →
    In c cell.matches → CellRun cells nexts ks cs d → CellRun (cell ∷ cells) (next ∷ nexts) ks (c ∷ cs) d
cell_behind i r =
    let f = r.cell in
    let g = r.end in
    let h = r.apart in record {
      places = r.places;
      before = suc r.before;
      between = r.between;
      way = suc r.way;
      reached = split_end_behind (not_empty i) r.reached;
      cell = omega arith;
      end = omega arith;
      apart = omega arith;
      spot = r.spot;
      split = r.split;
      path = r.path;
      choice = choice_more i r.choice;
      among = r.among;
    }

next_behind : {cell next : SplitRow} {cells nexts : List SplitRow} {ks : List ℕ} {c d : Binding} {cs : List Binding} →
    In c cell.matches → NextRun cells nexts ks cs d → NextRun (cell ∷ cells) (next ∷ nexts) ks (c ∷ cs) d
next_behind i r =
    let f = r.sum in record {
      place = r.place;
      way = suc r.way;
      reached = reached_behind (not_empty i) r.reached;
      sum = omega arith;
      spot = r.spot;
      split = r.split;
      path = r.path;
      binding = r.binding;
      choice = choice_more i r.choice;
    }

-- each split run is one of the two
split_run : {cells nexts : List SplitRow} {ks : List ℕ} {cs : List Binding} {d : Binding} → SplitRuns cells nexts ks cs d →
    CellRun cells nexts ks cs d ⊎ NextRun cells nexts ks cs d
split_run (split_runs_here {cells = cells} {s = s} i r e) =
    let f = run_end r in
    let g = f.sum in
    inl (record {
      places = (suc (length cells), f.place);
      before = zero;
      between = f.way;
      way = suc f.way;
      reached = split_end_here (not_empty i) refl f.reached;
      cell = omega arith;
      end = omega arith;
      apart = omega arith;
      spot = s;
      split = i;
      path = e;
      choice = choice_more (here refl) f.choice;
      among = f.among;
    })
split_run (split_runs_there i r) = elim (split_run r) [ inl c ↦ inl (cell_behind i c) | inr n ↦ inr (next_behind i n) ]
split_run (split_runs_behind {cells = cells} {s = s} i e) = inr (record {
  place = length cells;
  way = zero;
  reached = reached_here (not_empty i) refl;
  sum = omega arith;
  spot = s;
  split = i;
  path = e;
  binding = refl;
  choice = choice_end;
})

-- a split cell among first cells, with what comes behind them, is a split run
cell_run : (m l n : ℕ) (cells nexts : List SplitRow) (ks : List ℕ) (cs : List Binding) (d : Binding) (s : Spot) → suc (m + l) ≡ n →
    n ≤ length cells → In s (row_at m cells).spots → ks ≡ s.path →
    IsChoice (rows_around (take m cells) s.binding (take l (drop (suc m) cells))) cs → In d (row_at n nexts).matches → SplitRuns cells nexts ks cs d
cell_run m l n [] nexts ks cs d s e h i p k j = no_member i
cell_run m l n (cell ∷ cells) [] ks cs d s e h i p k j = no_member j
cell_run m l zero (cell ∷ cells) (next ∷ nexts) ks cs d s e h i p k j = absurd (omega arith)
cell_run zero l (suc n) (cell ∷ cells) (next ∷ nexts) ks [] d s e h i p k j = elim k [ ]
cell_run zero l (suc n) (cell ∷ cells) (next ∷ nexts) ks (c ∷ cs) d s e h i p (choice_more o k) j =
    let f : n ≡ l = omega arith in
    let r : Runs cells nexts cs d = end_run l cells nexts cs d (omega arith) k (subst (λ (w : ℕ). In d (row_at w nexts).matches) f j) in
    subst (λ (b : Binding). SplitRuns (cell ∷ cells) (next ∷ nexts) ks (b ∷ cs) d) (sym (only o)) (split_runs_here i r p)
cell_run (suc m) l (suc n) (cell ∷ cells) (next ∷ nexts) ks [] d s e h i p k j = elim k [ ]
cell_run (suc m) l (suc n) (cell ∷ cells) (next ∷ nexts) ks (c ∷ cs) d s e h i p (choice_more o k) j =
    split_runs_there o (cell_run m l n cells nexts ks cs d s (omega arith) (omega arith) i p k j)

-- first cells, with what is split behind them, are one
next_run : (n : ℕ) (cells nexts : List SplitRow) (ks : List ℕ) (cs : List Binding) (s : Spot) → n ≤ length cells →
    In s (row_at n nexts).spots → ks ≡ s.path → IsChoice (all_matches (take n cells)) cs →
    SplitRuns cells nexts ks cs s.binding
next_run n cells [] ks cs s h i p k = no_member i
next_run zero cells (next ∷ nexts) ks [] s h i p k = split_runs_behind i p
next_run zero cells (next ∷ nexts) ks (c ∷ cs) s h i p k = elim k [ ]
next_run (suc n) [] (next ∷ nexts) ks cs s h i p k = absurd (omega arith)
next_run (suc n) (cell ∷ cells) (next ∷ nexts) ks [] s h i p k = elim k [ ]
next_run (suc n) (cell ∷ cells) (next ∷ nexts) ks (c ∷ cs) s h i p (choice_more o k) =
    split_runs_there o (next_run n cells nexts ks cs s (omega arith) i p k)

module _ (xs : List (List ℕ)) (x : Option (List ℕ)) (cells nexts : List SplitRow) where
  -- a repetition over some rows, with what comes behind it
  repeats_with : {rows : List (List Binding)} {others : List Binding} {b : Binding} (turns : List Binding) (d c : Binding) →
      IsChoice rows turns → In d others → IsRepetition xs turns x c → IsJoin c d b → RepeatsWith xs x rows others b
  repeats_with turns d c k i h j =
      record { collected = c; repeated = record { turns = turns; choice = k; repetition = h }; other = d; among = i; joined = j }

  -- where the run is given, the rest is the same
  splits_turn : (r : Spot) (turns : List Binding) (d c : Binding) → SplitRuns cells nexts r.path turns d → IsRepetition xs turns x c →
      IsJoin c d r.binding → SplitsTurn xs x cells nexts r
  splits_turn r turns d c run h j = record { turns = turns; others = d; collected = c; run = run; repetition = h; joined = j }

  -- what is split in a cell is a spot of the repetition
  cell_turn : (ps : List (ℕ × ℕ)) (r : Spot) → HasExactly ps (IsSplitEnd cells nexts) → Arises (SplitsCellTo xs x cells nexts) ps r →
      SplitsTurn xs x cells nexts r
  cell_turn ps r h a =
      let m : ℕ = length cells - a.from.0 in
      let n : ℕ = length cells - a.from.1 in
      let b = split_end_bounds cells nexts a.from (h.sound a.from a.among) in
      let f = b.0 in
      let g = b.1 in
      let w = a.by.by.repeated in
      let l : ℕ = n - suc m in
      let k : IsChoice (rows_around (take m cells) a.by.from.binding (take l (drop (suc m) cells))) w.repeated.turns =
      rw add-one at w.repeated.choice in
      splits_turn r w.repeated.turns w.other w.collected
      (cell_run m l n cells nexts r.path w.repeated.turns w.other a.by.from (omega arith) (omega arith) a.by.among a.by.by.path k w.among) w.repeated.repetition w.joined

  -- what is split behind the cells is one
  next_turn : (ks : List ℕ) (r : Spot) → HasExactly ks (IsReached HasSpots cells nexts) → Arises (SplitsNextTo xs x cells nexts) ks r →
      SplitsTurn xs x cells nexts r
  next_turn ks r h a =
      let n : ℕ = length cells - a.from in
      let w = a.by.by.repeated in
      let b = reached_bound cells nexts a.from (h.sound a.from a.among) in
      let j : IsJoin w.collected a.by.from.binding r.binding =
      subst (λ (d : Binding). IsJoin w.collected d r.binding) (only w.among) w.joined in
      splits_turn r w.repeated.turns a.by.from.binding w.collected
      (next_run n cells nexts r.path w.repeated.turns a.by.from (omega arith) a.by.among a.by.by.path w.repeated.choice) w.repeated.repetition j

  -- a split run whose cell is split is found in it
  turn_cell : (ps : List (ℕ × ℕ)) (r : Spot) → HasExactly ps (IsSplitEnd cells nexts) → (t : SplitsTurn xs x cells nexts r) →
      CellRun cells nexts r.path t.turns t.others
      → Arises (SplitsCellTo xs x cells nexts) ps r
  turn_cell ps r h t e =
      let f = e.cell in
      let g = e.end in
      let a = e.apart in
      let m : e.before ≡ length cells - e.places.0 = omega arith in
      let n : e.way ≡ length cells - e.places.1 = omega arith in
      let l : e.between ≡ e.way - suc e.before = omega arith in
      let k : IsChoice (rows_around (take e.before cells) e.spot.binding (take (e.way - (e.before + 1)) (drop (e.before + 1) cells))) t.turns =
      rw (add-one, ← l) e.choice in
      let w : SplitsCellAt xs x cells nexts e.before e.way r = record {
        from = e.spot;
        among = e.split;
        by = record { path = e.path; repeated = repeats_with t.turns t.others t.collected k e.among t.repetition t.joined };
      } in
      record {
        from = e.places;
        among = h.complete e.places e.reached;
        by =
            subst (λ (i : ℕ). SplitsCellAt xs x cells nexts i (length cells - e.places.1) r) m (subst (λ (i : ℕ). SplitsCellAt xs x cells nexts e.before i r) n w);
      }

  -- one behind which the list is split is found there
  turn_next : (ks : List ℕ) (r : Spot) → HasExactly ks (IsReached HasSpots cells nexts) → (t : SplitsTurn xs x cells nexts r) →
      NextRun cells nexts r.path t.turns t.others
      → Arises (SplitsNextTo xs x cells nexts) ks r
  turn_next ks r h t e =
      let f = e.sum in
      let n : e.way ≡ length cells - e.place = omega arith in
      let w : SplitsNextAt xs x cells nexts e.way r = record {
        from = e.spot;
        among = e.split;
        by =
            record { path = e.path; repeated = repeats_with t.turns t.others t.collected e.choice (here e.binding) t.repetition t.joined };
      } in
      record { from = e.place; among = h.complete e.place e.reached; by = subst (λ (i : ℕ). SplitsNextAt xs x cells nexts i r) n w }

  -- what is split at the ways is what the repetition splits with what comes behind it
  pub splits_by_ways : (ps : List (ℕ × ℕ)) (ks : List ℕ) (mid found : List Spot) → HasExactly ps (IsSplitEnd cells nexts) →
      HasExactly ks (IsReached HasSpots cells nexts) →
      Adds (Arises (SplitsCellTo xs x cells nexts) ps) [] mid → Adds (Arises (SplitsNextTo xs x cells nexts) ks) mid found → HasExactly found (SplitsTurn xs x cells nexts)
  splits_by_ways ps ks mid found h g a b = record { sound = λ r i. last r ((b r).0 i); complete = λ r t. back r t (split_run t.run) }
    where
      first : (r : Spot) → In r [] ⊎ Arises (SplitsCellTo xs x cells nexts) ps r → SplitsTurn xs x cells nexts r
      first r (inl i) = no_member i
      first r (inr c) = cell_turn ps r h c

      last : (r : Spot) → In r mid ⊎ Arises (SplitsNextTo xs x cells nexts) ks r → SplitsTurn xs x cells nexts r
      last r (inl i) = first r ((a r).0 i)
      last r (inr n) = next_turn ks r g n

      back : (r : Spot) (t : SplitsTurn xs x cells nexts r) →
          CellRun cells nexts r.path t.turns t.others ⊎ NextRun cells nexts r.path t.turns t.others → In r found
      back r t (inl c) = (b r).1 (inl ((a r).1 (inr (turn_cell ps r h t c))))
      back r t (inr n) = (b r).1 (inr (turn_next ks r g t n))
