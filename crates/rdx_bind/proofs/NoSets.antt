-- A pattern without mismatch names binds none, and one without names besides binds nothing.
use Rattle.std.proofs.Common.{◌≡◌, ◌||◌, ℕ, Bool, true, false, List, [], ◌∷◌, Option, refl, ◌∙◌, ap, subst}
use Rattle.rdx_term.specs.Tree.{Tree, Trees}
use Rattle.rdx_lang.proofs.NameLaws.{match-names, split-names}
use Rattle.rdx_lang.proofs.SetJoins.{one_sets_join, no_sets_left}
use Rattle.rdx_lang.specs.Bindings.{Pair, Mismatch, Binding, bound_names, pair_names, no_names}
use Rattle.rdx_lang.specs.Collections.{AreSetsOf, sets_of_none, sets_of_more, IsRepetition, without_length, with_length}
use Rattle.rdx_lang.specs.Join.{JoinsSets, IsJoin}
use Rattle.rdx_lang.specs.Members.{here, there}
use Rattle.rdx_lang.specs.Mismatches.{has_differ, have_differ}
use Rattle.rdx_lang.specs.Names.{names}
use Rattle.rdx_lang.specs.Patterns.{Pattern, Items, Language}
use Rattle.rdx_lang.specs.Rules.{Match, MatchItems, MatchRun, match_wild, match_kind, match_except, match_prefix, match_hole, match_lit, match_nt, match_named, match_differ, match_in_hole, match_hide_hole, match_closed, match_seq, match_none, match_one, match_many, run_end, run_more}
use Rattle.rdx_lang.specs.Rules.{Split, SplitItems, SplitRun, split_hole, split_nt, split_named, split_differ, split_in_hole, split_closed, split_seq, split_here, split_behind, split_many, run_here, run_there, run_behind}
use Rattle.rdx_bind.specs.Choices.{ArePlain}

-- ---- both of two tests fail

first_fails : (a b : Bool) → (a || b) ≡ false → a ≡ false
first_fails true b e = absurd cc
first_fails false b e = refl

second_fails : (a b : Bool) → (a || b) ≡ false → b ≡ false
second_fails true b e = absurd cc
second_fails false b e = e

-- ---- joins and collections without sets

-- the join of no sets with none has none
pub no_sets_joined : (ms ns ls : List Mismatch) → JoinsSets ms ns ls → ms ≡ [] → ns ≡ [] → ls ≡ []
no_sets_joined ms ns ls j e f =
    one_sets_join [] [] ls [] (subst (λ ks. JoinsSets [] ks ls) f (subst (λ ks. JoinsSets ks ns ls) e j)) (no_sets_left [] (tt, tt))

-- so has that of bindings without sets
pub join_plain : {a b c : Binding} → IsJoin a b c → a.differs ≡ [] → b.differs ≡ [] → c.differs ≡ []
join_plain {a} {b} {c} j e f = no_sets_joined a.differs b.differs c.differs j.differs e f

-- bindings without sets have none together
pub no_sets_of : (cs : List Binding) (ms : List Mismatch) → ArePlain cs → AreSetsOf cs ms → ms ≡ []
no_sets_of [] ms h sets_of_none = refl
no_sets_of (c ∷ cs) ms h (sets_of_more {ms = ns} s j) = no_sets_joined c.differs ns ms j (h c (here refl)) (no_sets_of cs ns (λ b i. h b (there i)) s)

-- a repetition of turns without sets has none
pub repetition_plain : {xs : List (List ℕ)} {cs : List Binding} {n : Option (List ℕ)} {c : Binding} → IsRepetition xs cs n c → ArePlain cs → c.differs ≡ []
repetition_plain {cs = cs} {c = c} (without_length h) f = no_sets_of cs c.differs f h.differs
repetition_plain {cs = cs} (with_length {c = d} h j) f = join_plain j (no_sets_of cs d.differs f h.differs) refl

-- one binding more
more_plain : {c : Binding} {cs : List Binding} → c.differs ≡ [] → ArePlain cs → ArePlain (c ∷ cs)
more_plain e f b (here g) = ap (λ (d : Binding). d.differs) g ∙ e
more_plain e f b (there i) = f b i

-- ---- patterns without mismatch names

mutual
  -- a match of one has no sets
  pub match-plain : {L : Language} {p : Pattern} {t : Tree} {b : Binding} → has_differ p ≡ false → Match L p t b → b.differs ≡ []
  match-plain e match_wild = refl
  match-plain e (match_kind h) = refl
  match-plain e (match_except h) = refl
  match-plain e (match_prefix h) = refl
  match-plain e match_hole = refl
  match-plain e (match_lit h) = refl
  match-plain e (match_nt a h) = refl
  match-plain e (match_named h j) = join_plain j (match-plain e h) refl
  match-plain e (match_differ h j) = absurd cc
  match-plain e (match_in_hole {q = q} {r = r} h g j) =
      join_plain j (split-plain (first_fails (has_differ q) (has_differ r) e) h) (match-plain (second_fails (has_differ q) (has_differ r) e) g)
  match-plain e (match_hide_hole h) = match-plain e h
  match-plain e (match_closed h) = refl
  match-plain e (match_seq h) = items-plain e h

  -- nor have items that match
  pub items-plain : {L : Language} {ps : Items} {ts : Trees} {b : Binding} → have_differ ps ≡ false → MatchItems L ps ts b → b.differs ≡ []
  items-plain e match_none = refl
  items-plain e (match_one {p = p} {ps = ps} h g j) =
      join_plain j (match-plain (first_fails (has_differ p) (have_differ ps) e) h) (items-plain (second_fails (has_differ p) (have_differ ps) e) g)
  items-plain e (match_many {p = p} {ps = ps} h r j) =
      join_plain j (repetition_plain r (turns-plain (first_fails (has_differ p) (have_differ ps) e) h)) (behind-plain (second_fails (has_differ p) (have_differ ps) e) h)

  -- nor has a turn of a run
  pub turns-plain : {L : Language} {p : Pattern} {ps : Items} {ts : Trees} {cs : List Binding} {d : Binding} → has_differ p ≡ false → MatchRun L p ps ts cs d → ArePlain cs
  turns-plain e (run_end g) = λ b i. elim i [ ]
  turns-plain e (run_more h r) = more_plain (match-plain e h) (turns-plain e r)

  -- nor have the items behind the turns
  pub behind-plain : {L : Language} {p : Pattern} {ps : Items} {ts : Trees} {cs : List Binding} {d : Binding} → have_differ ps ≡ false → MatchRun L p ps ts cs d → d.differs ≡ []
  behind-plain e (run_end g) = items-plain e g
  behind-plain e (run_more h r) = behind-plain e r

  -- nor has a split
  pub split-plain : {L : Language} {p : Pattern} {t C s : Tree} {b : Binding} → has_differ p ≡ false → Split L p t C s b → b.differs ≡ []
  split-plain e split_hole = refl
  split-plain e (split_nt a h) = refl
  split-plain e (split_named h j) = join_plain j (split-plain e h) refl
  split-plain e (split_differ h j) = absurd cc
  split-plain e (split_in_hole {q = q} {r = r} h g f j) =
      join_plain j (split-plain (first_fails (has_differ q) (has_differ r) e) h) (split-plain (second_fails (has_differ q) (has_differ r) e) g)
  split-plain e (split_closed h) = refl
  split-plain e (split_seq h f) = split_items-plain e h

  -- nor have items of which one splits
  pub split_items-plain : {L : Language} {ps : Items} {ts : Trees} {k : ℕ} {D s : Tree} {b : Binding} → have_differ ps ≡ false → SplitItems L ps ts k D s b → b.differs ≡ []
  split_items-plain e (split_here {p = p} {ps = ps} h g j) =
      join_plain j (split-plain (first_fails (has_differ p) (have_differ ps) e) h) (items-plain (second_fails (has_differ p) (have_differ ps) e) g)
  split_items-plain e (split_behind {p = p} {ps = ps} h g j) =
      join_plain j (match-plain (first_fails (has_differ p) (have_differ ps) e) h) (split_items-plain (second_fails (has_differ p) (have_differ ps) e) g)
  split_items-plain e (split_many {p = p} {ps = ps} h r j) =
      join_plain j (repetition_plain r (split_turns-plain (first_fails (has_differ p) (have_differ ps) e) h)) (split_behind-plain (second_fails (has_differ p) (have_differ ps) e) h)

  -- nor has a turn of a run in which one term is split
  pub split_turns-plain : {L : Language} {p : Pattern} {ps : Items} {ts : Trees} {k : ℕ} {D s : Tree} {cs : List Binding} {d : Binding} → has_differ p ≡ false
      → SplitRun L p ps ts k D s cs d → ArePlain cs
  split_turns-plain e (run_here h r) = more_plain (split-plain e h) (turns-plain e r)
  split_turns-plain e (run_there h r) = more_plain (match-plain e h) (split_turns-plain e r)
  split_turns-plain e (run_behind g) = λ b i. elim i [ ]

  -- nor have the items behind them
  pub split_behind-plain : {L : Language} {p : Pattern} {ps : Items} {ts : Trees} {k : ℕ} {D s : Tree} {cs : List Binding} {d : Binding} → have_differ ps ≡ false
      → SplitRun L p ps ts k D s cs d → d.differs ≡ []
  split_behind-plain e (run_here h r) = behind-plain e r
  split_behind-plain e (run_there h r) = split_behind-plain e r
  split_behind-plain e (run_behind g) = split_items-plain e g

-- ---- patterns that bind nothing

-- no name is bound by no pair
no_pair : (ps : List Pair) → pair_names ps ≡ [] → ps ≡ []
no_pair [] e = refl
no_pair (p ∷ ps) e = absurd cc

-- what has neither names nor sets is the binding of no name
pub nothing_bound : (b : Binding) → bound_names b ≡ [] → b.differs ≡ [] → b ≡ no_names
nothing_bound b e f = λ i. record { pairs = no_pair b.pairs e i; differs = f i }

-- a pattern without names and mismatch names binds nothing, as it matches and as it splits
pub match-nothing : {L : Language} {p : Pattern} {t : Tree} {b : Binding} → names p ≡ [] → has_differ p ≡ false → Match L p t b → b ≡ no_names
match-nothing {b = b} e f h = nothing_bound b (match-names h ∙ e) (match-plain f h)

pub split-nothing : {L : Language} {p : Pattern} {t C s : Tree} {b : Binding} → names p ≡ [] → has_differ p ≡ false → Split L p t C s b → b ≡ no_names
split-nothing {b = b} e f h = nothing_bound b (split-names h ∙ e) (split-plain f h)
