-- A list pattern splits a list as the pattern with `hole` in the place of its item on the path matches the list with the hole in the place of the
-- term there.
use Rattle.std.proofs.Common.{◌≡◌, ◌≢◌, ℕ, zero, suc, List, [], ◌∷◌, ◌++◌, Option, Some, None, refl, sym, ◌∙◌, ap, subst, inl, inr}
use Rattle.std.proofs.lemmas.Option.{same_Some}
use Rattle.std.specs.Prelude.{slice_get}
use Rattle.rdx_term.specs.Items.{item_at, put_at}
use Rattle.rdx_term.specs.Tree.{Tree, Trees, cons}
use Rattle.rdx_term.specs.Tree.{nil as no_trees}
use Rattle.rdx_term.specs.Tree.{hole as the_hole}
use Rattle.rdx_lang.specs.Bindings.{Binding, no_names, HasAscendingNames}
use Rattle.rdx_lang.specs.Collections.{AreSetsOf, sets_of_none, sets_of_more, IsRepetition, without_length}
use Rattle.rdx_lang.specs.Join.{JoinsSets, IsJoin}
use Rattle.rdx_lang.specs.Members.{In, here, there}
use Rattle.rdx_lang.specs.Names.{names}
use Rattle.rdx_lang.specs.Patterns.{Pattern, hole, Items, one, many, Language}
use Rattle.rdx_lang.specs.PatternView.{Slot, just, repeated, items_of}
use Rattle.rdx_lang.specs.Rules.{MatchItems, MatchRun, match_hole, match_one, match_many, run_end, run_more}
use Rattle.rdx_lang.specs.Rules.{Split, SplitItems, SplitRun, split_here, split_behind, split_many, run_here, run_there, run_behind}
use Rattle.rdx_lang.proofs.JoinLaws.{unit_left, unit_left-only}
use Rattle.rdx_lang.proofs.NameLaws.{items-ascends, run-ascends}
use Rattle.rdx_lang.proofs.RuleSteps.{SomeSplit, hole_inside}
use Rattle.rdx_lang.proofs.SetJoins.{no_sets_left}
use Rattle.rdx_bind.proofs.NoSets.{match-nothing, split-nothing, nothing_bound, repetition_plain}
use Rattle.rdx_why.specs.Inside.Around.{IsGoing, IsAlone, hole_in, with_hole, NoneIsHole, NoOtherIsHole}
use Rattle.rdx_why.specs.Inside.Forms.{BindsNothing, NeverSplits}
use Rattle.rdx_why.specs.Inside.Laying.{slot_pattern}

-- a member behind the first is no first one
behind_first : {i : ℕ} → suc i ≢ zero
behind_first e = absurd cc

before_others : {i : ℕ} → zero ≢ suc i
before_others e = absurd cc

further : {j i : ℕ} → j ≢ i → suc j ≢ suc i
further n e = n (cc)

module _ (L : Language) where
  -- ---- items of which none may split

  abbrev NoneSplits : Tree → List Slot → Type 0
  NoneSplits D rs = (j : ℕ) (r : Slot) → slice_get rs j ≡ Some r → NeverSplits L (slot_pattern r) D

  abbrev NotBehind : Items → Tree → Tree → Type 0
  NotBehind ps D s = (ts : Trees) (k : ℕ) (d : Binding) → SplitItems L ps ts k D s d → ⊥

  no_run : {p : Pattern} {ps : Items} {ts : Trees} {k : ℕ} {D s : Tree} {cs : List Binding} {d : Binding} → NeverSplits L p D → NotBehind ps D s
      → SplitRun L p ps ts k D s cs d → ⊥
  no_run n f (run_here {t = t} {s = s} {c = c} m r) = n t s c m
  no_run n f (run_there m r) = no_run n f r
  no_run n f (run_behind {ts = ts} {k = k} {d = d} h) = f ts k d h

  none_split : (rs : List Slot) {ts : Trees} {k : ℕ} {D s : Tree} {b : Binding} → NoneSplits D rs → SplitItems L (items_of rs) ts k D s b → ⊥
  none_split [] n h = elim h [ ]
  none_split (just p ∷ rs) n (split_here {t = t} {s = s} {c = c} m ms j) = n 0 (just p) refl t s c m
  none_split (just p ∷ rs) n (split_behind m h j) = none_split rs (λ i r e. n (suc i) r e) h
  none_split (repeated p m ∷ rs) n (split_many r h j) =
      no_run (n 0 (repeated p m) refl) (λ ts k d u. none_split rs (λ i r e. n (suc i) r e) u) r

  -- ---- terms of which none is the hole

  abbrev NotThere : Items → Type 0
  NotThere qs = (ts : Trees) (d : Binding) → NoneIsHole ts → MatchItems L qs ts d → ⊥

  no_hole_run : {q : Pattern} {qs : Items} (ts : Trees) {cs : List Binding} {d : Binding} → NotThere qs → NoneIsHole ts → MatchRun L q qs ts cs d → ⊥
  no_hole_run ts {d = d} f n (run_end h) = f ts d n h
  no_hole_run (cons t ts) f n (run_more m r) = no_hole_run ts f n.1 r

  hole_first : {ps : Items} (ts : Trees) {b : Binding} → NoneIsHole ts → MatchItems L (one hole ps) ts b → ⊥
  hole_first no_trees n h = elim h [ ]
  hole_first (cons t ts) n (match_one m ms j) = n.0 (hole_inside m).0

  hole_among : {p : Pattern} {m : Option (List ℕ)} {ps : Items} (ts : Trees) {b : Binding} → NoneIsHole ts → MatchItems L (many p m (one hole ps)) ts b → ⊥
  hole_among ts n (match_many r h j) = no_hole_run ts (λ us d o u. hole_first us o u) n r

  no_hole : {p : Pattern} (rs : List Slot) (i : ℕ) (ts : Trees) {b : Binding} → IsGoing rs i p → NoneIsHole ts
      → MatchItems L (items_of (with_hole i rs)) ts b → ⊥
  no_hole [] i ts g n h = elim g [ inl e ↦ absurd cc | inr e ↦ absurd cc ]
  no_hole {p = p} (r ∷ rs) zero ts {b = b} g n h = elim g [
    | inl e ↦ hole_first ts n (subst (λ (x : Slot). MatchItems L (items_of (hole_in x ++ rs)) ts b) (same_Some r (just p) e) h)
    | inr e ↦ hole_among ts n (subst (λ (x : Slot). MatchItems L (items_of (hole_in x ++ rs)) ts b) (same_Some r (repeated p None) e) h)
  ]
  no_hole (just q ∷ rs) (suc i) no_trees g n h = elim h [ ]
  no_hole (just q ∷ rs) (suc i) (cons t ts) g n (match_one m ms j) = no_hole rs i ts g n.1 ms
  no_hole (repeated q m ∷ rs) (suc i) ts g n (match_many r h j) = no_hole_run ts (λ us d o u. no_hole rs i us g o u) n r

  module _ (p : Pattern) (nothing : BindsNothing p) where
    -- ---- turns that bind nothing

    quiet : {t C s : Tree} {c : Binding} → Split L p t C s c → c ≡ no_names
    quiet m = split-nothing nothing.names nothing.no_differ m

    abbrev AreSilent : List Binding → Type 0
    AreSilent cs = (c : Binding) → In c cs → c ≡ no_names

    silent_more : {c : Binding} {cs : List Binding} → c ≡ no_names → AreSilent cs → AreSilent (c ∷ cs)
    silent_more e f d (here g) = g ∙ e
    silent_more e f d (there i) = f d i

    silent_run : {ps : Items} {ts : Trees} {cs : List Binding} {d : Binding} → MatchRun L p ps ts cs d → AreSilent cs
    silent_run (run_end h) = λ c i. elim i [ ]
    silent_run (run_more m r) = silent_more (match-nothing nothing.names nothing.no_differ m) (silent_run r)

    silent_split : {ps : Items} {ts : Trees} {k : ℕ} {D s : Tree} {cs : List Binding} {d : Binding} → SplitRun L p ps ts k D s cs d → AreSilent cs
    silent_split (run_here m r) = silent_more (quiet m) (silent_run r)
    silent_split (run_there m r) = silent_more (match-nothing nothing.names nothing.no_differ m) (silent_split r)
    silent_split (run_behind h) = λ c i. elim i [ ]

    no_sets : (cs : List Binding) → AreSilent cs → AreSetsOf cs []
    no_sets [] f = sets_of_none
    no_sets (c ∷ cs) f =
        sets_of_more (no_sets cs (λ d i. f d (there i)))
        (subst (λ (d : Binding). JoinsSets d.differs [] []) (sym (f c (here refl))) (no_sets_left [] (tt, tt)))

    repeats : (cs : List Binding) → AreSilent cs → IsRepetition (names p) cs None no_names
    repeats cs f = without_length (record { names = sym nothing.names; sequences = λ x v i. elim i [ ]; differs = no_sets cs f })

    collected : {cs : List Binding} {c : Binding} → IsRepetition (names p) cs None c → AreSilent cs → c ≡ no_names
    collected {c = c} (without_length h) f =
        nothing_bound c (h.names ∙ nothing.names) (repetition_plain (without_length h) (λ d i. ap (λ (b : Binding). b.differs) (f d i)))

    -- ---- from a split to a match

    -- the items match with the hole there, and what stands there is split
    abbrev IsRound : Items → Trees → ℕ → Tree → Tree → Binding → Type 0
    IsRound qs ts k D s b = MatchItems L qs (put_at ts k the_hole) b × SomeSplit L p (item_at ts k the_hole) D s

    abbrev IsRoundRun : Pattern → Items → Trees → ℕ → Tree → Tree → List Binding → Binding → Type 0
    IsRoundRun q qs ts k D s cs d = MatchRun L q qs (put_at ts k the_hole) cs d × SomeSplit L p (item_at ts k the_hole) D s

    some_split : {t D s : Tree} {c : Binding} → Split L p t D s c → SomeSplit L p t D s
    some_split {c = c} m = record { binding = c; split = m }

    -- a run before the item
    run_round : {q : Pattern} {ps qs : Items} {ts : Trees} {k : ℕ} {D s : Tree} {cs : List Binding} {d : Binding} → NeverSplits L q D
        → ((us : Trees) (l : ℕ) (e : Binding) → SplitItems L ps us l D s e → IsRound qs us l D s e) → SplitRun L q ps ts k D s cs d
        → IsRoundRun q qs ts k D s cs d
    run_round n f (run_here {t = t} {s = s} {c = c} m r) = absurd (n t s c m)
    run_round n f (run_there m r) = let g = run_round n f r in (run_more m g.0, g.1)
    run_round n f (run_behind {ts = ts} {k = k} {d = d} h) = let g = f ts k d h in (run_end g.0, g.1)

    -- a run of the item
    turn_round : {ps : Items} {ts : Trees} {k : ℕ} {D s : Tree} {cs : List Binding} {d : Binding} → NotBehind ps D s → SplitRun L p ps ts k D s cs d
        → (es : List Binding) × IsRoundRun p (one hole (many p None ps)) ts k D s es d
    turn_round f (run_here {d = d} {cs = cs} m r) =
        let a : HasAscendingNames d = run-ascends r in
        ([], (run_end (match_one match_hole (match_many r (repeats cs (silent_run r)) (unit_left d a)) (unit_left d a)), some_split m))
    turn_round f (run_there {c = c} m r) = let g = turn_round f r in (c ∷ g.0, (run_more m g.1.0, g.1.1))
    turn_round f (run_behind {ts = ts} {k = k} {d = d} h) = absurd (f ts k d h)

    one_round : {ps : Items} {ts : Trees} {k : ℕ} {D s : Tree} {b : Binding} → NotBehind ps D s → SplitItems L (one p ps) ts k D s b
        → IsRound (one hole ps) ts k D s b
    one_round {b = b} f (split_here {d = d} m ms j) = (match_one match_hole ms (subst (λ (c : Binding). IsJoin c d b) (quiet m) j), some_split m)
    one_round f (split_behind {ts = ts} {k = k} {d = d} m h j) = absurd (f ts k d h)

    many_round : {ps : Items} {ts : Trees} {k : ℕ} {D s : Tree} {b : Binding} → NotBehind ps D s → SplitItems L (many p None ps) ts k D s b
        → IsRound (many p None (one hole (many p None ps))) ts k D s b
    many_round {b = b} f (split_many {d = d} r h j) =
        let g = turn_round f r in (
          match_many g.1.0 (repeats g.0 (silent_run g.1.0)) (subst (λ (c : Binding). IsJoin c d b) (collected h (silent_split r)) j),
          g.1.1,
        )

    -- the split is one of the item, and the others match around the hole
    pub split-round : (rs : List Slot) (i : ℕ) {ts : Trees} {k : ℕ} {D s : Tree} {b : Binding} → IsGoing rs i p → IsAlone L D rs i
        → SplitItems L (items_of rs) ts k D s b → IsRound (items_of (with_hole i rs)) ts k D s b
    split-round [] i g a h = elim h [ ]
    split-round (r ∷ rs) zero {ts} {k} {D} {s} {b} g a h =
        let none : NotBehind (items_of rs) D s = λ us l e u. none_split rs (λ j x f. a (suc j) x f behind_first) u in
        elim g [
          | inl e ↦
              (let f : r ≡ just p = same_Some r (just p) e in
              subst (λ (x : Slot). IsRound (items_of (hole_in x ++ rs)) ts k D s b) (sym f)
              (one_round none (subst (λ (x : Slot). SplitItems L (items_of (x ∷ rs)) ts k D s b) f h)))
          | inr e ↦
              (let f : r ≡ repeated p None = same_Some r (repeated p None) e in
              subst (λ (x : Slot). IsRound (items_of (hole_in x ++ rs)) ts k D s b) (sym f)
              (many_round none (subst (λ (x : Slot). SplitItems L (items_of (x ∷ rs)) ts k D s b) f h)))
        ]
    split-round (just q ∷ rs) (suc i) g a (split_here {t = t} {s = s} {c = c} m ms j) = absurd (a 0 (just q) refl before_others t s c m)
    split-round (just q ∷ rs) (suc i) g a (split_behind m h j) =
        let w = split-round rs i g (λ l x e n. a (suc l) x e (further n)) h in (match_one m w.0 j, w.1)
    split-round (repeated q m ∷ rs) (suc i) g a (split_many r h j) =
        let w = run_round (a 0 (repeated q m) refl before_others) (λ us l e u. split-round rs i g (λ l x e n. a (suc l) x e (further n)) u) r in
        (match_many w.0 h j, w.1)

    -- ---- and from the match to the split

    one_split : {ps : Items} (ts : Trees) (k : ℕ) {D s : Tree} {b : Binding} → NoOtherIsHole ts k → SomeSplit L p (item_at ts k the_hole) D s
        → MatchItems L (one hole ps) (put_at ts k the_hole) b → SplitItems L (one p ps) ts k D s b
    one_split no_trees k o w h = elim h [ ]
    one_split (cons t ts) zero {b = b} o w (match_one {d = d} m ms j) =
        split_here w.split ms (subst (λ (c : Binding). IsJoin c d b) ((hole_inside m).1 ∙ sym (quiet w.split)) j)
    one_split (cons t ts) (suc k) o w (match_one m ms j) = absurd (o.0 (hole_inside m).0)

    -- the turn that is split, with the turns behind it
    last_turn : {ps : Items} {t : Tree} {ts : Trees} {D s : Tree} {b : Binding} → SomeSplit L p t D s
        → MatchItems L (one hole (many p None ps)) (cons the_hole ts) b → (es : List Binding) × SplitRun L p ps (cons t ts) zero D s es b
    last_turn {ps} {t} {ts} {D} {s} {b} w (match_one {d = d} m ms j) =
        with_turns ms (unit_left-only (items-ascends ms) (subst (λ (c : Binding). IsJoin c d b) (hole_inside m).1 j))
      where
        with_turns : {d : Binding} → MatchItems L (many p None ps) ts d → b ≡ d → (es : List Binding) × SplitRun L p ps (cons t ts) zero D s es b
        with_turns {d = d} (match_many {cs = cs} {d = e} r h k) f =
            let same : d ≡ e = unit_left-only (run-ascends r) (subst (λ (c : Binding). IsJoin c e d) (collected h (silent_run r)) k) in
            (w.binding ∷ cs, subst (λ (x : Binding). SplitRun L p ps (cons t ts) zero D s (w.binding ∷ cs) x) (sym (f ∙ same)) (run_here w.split r))

    turn_split : {ps : Items} (ts : Trees) (k : ℕ) {D s : Tree} {cs : List Binding} {d : Binding} → NoOtherIsHole ts k
        → SomeSplit L p (item_at ts k the_hole) D s → MatchRun L p (one hole (many p None ps)) (put_at ts k the_hole) cs d
        → (es : List Binding) × SplitRun L p ps ts k D s es d
    turn_split no_trees k o w (run_end h) = elim h [ ]
    turn_split (cons t ts) zero o w (run_end h) = last_turn w h
    turn_split (cons t ts) zero o w (run_more m r) = absurd (no_hole_run ts (λ us d n u. hole_first us n u) o r)
    turn_split (cons t ts) (suc k) o w (run_end h) = absurd (no_first h)
      where
        no_first : {qs : Items} {us : Trees} {b : Binding} → MatchItems L (one hole qs) (cons t us) b → ⊥
        no_first (match_one m ms j) = o.0 (hole_inside m).0
    turn_split (cons t ts) (suc k) o w (run_more {c = c} m r) = let g = turn_split ts k o.1 w r in (c ∷ g.0, run_there m g.1)

    many_split : {ps : Items} (ts : Trees) (k : ℕ) {D s : Tree} {b : Binding} → NoOtherIsHole ts k → SomeSplit L p (item_at ts k the_hole) D s
        → MatchItems L (many p None (one hole (many p None ps))) (put_at ts k the_hole) b → SplitItems L (many p None ps) ts k D s b
    many_split ts k {b = b} o w (match_many {d = d} r h j) =
        let g = turn_split ts k o w r in
        split_many g.1 (repeats g.0 (silent_split g.1)) (subst (λ (c : Binding). IsJoin c d b) (collected h (silent_run r)) j)

    -- a run before the item
    run_split : {q : Pattern} {ps qs : Items} (ts : Trees) (k : ℕ) {D s : Tree} {cs : List Binding} {d : Binding} → NotThere qs
        → ((us : Trees) (l : ℕ) (e : Binding) → NoOtherIsHole us l → SomeSplit L p (item_at us l the_hole) D s
        → MatchItems L qs (put_at us l the_hole) e → SplitItems L ps us l D s e)
        → NoOtherIsHole ts k → SomeSplit L p (item_at ts k the_hole) D s → MatchRun L q qs (put_at ts k the_hole) cs d
        → SplitRun L q ps ts k D s cs d
    run_split no_trees k {d = d} n f o w (run_end h) = run_behind (f no_trees k d o w h)
    run_split (cons t ts) zero {d = d} n f o w (run_end h) = run_behind (f (cons t ts) zero d o w h)
    run_split (cons t ts) zero n f o w (run_more m r) = absurd (no_hole_run ts n o r)
    run_split (cons t ts) (suc k) {d = d} n f o w (run_end h) = run_behind (f (cons t ts) (suc k) d o w h)
    run_split (cons t ts) (suc k) n f o w (run_more m r) = run_there m (run_split ts k n f o.1 w r)

    -- where the item splits what stands there, and no other term is the hole, a match around the hole is a split
    pub round-split : (rs : List Slot) (i : ℕ) (ts : Trees) (k : ℕ) {D s : Tree} {b : Binding} → IsGoing rs i p → NoOtherIsHole ts k
        → SomeSplit L p (item_at ts k the_hole) D s → MatchItems L (items_of (with_hole i rs)) (put_at ts k the_hole) b
        → SplitItems L (items_of rs) ts k D s b
    round-split [] i ts k g o w h = elim g [ inl e ↦ absurd cc | inr e ↦ absurd cc ]
    round-split (r ∷ rs) zero ts k {D} {s} {b} g o w h = elim g [
      | inl e ↦
          (let f : r ≡ just p = same_Some r (just p) e in
          subst (λ (x : Slot). SplitItems L (items_of (x ∷ rs)) ts k D s b) (sym f)
          (one_split ts k o w (subst (λ (x : Slot). MatchItems L (items_of (hole_in x ++ rs)) (put_at ts k the_hole) b) f h)))
      | inr e ↦
          (let f : r ≡ repeated p None = same_Some r (repeated p None) e in
          subst (λ (x : Slot). SplitItems L (items_of (x ∷ rs)) ts k D s b) (sym f)
          (many_split ts k o w (subst (λ (x : Slot). MatchItems L (items_of (hole_in x ++ rs)) (put_at ts k the_hole) b) f h)))
    ]
    round-split (just q ∷ rs) (suc i) no_trees k g o w h = elim h [ ]
    round-split (just q ∷ rs) (suc i) (cons t ts) zero g o w (match_one m ms j) = absurd (no_hole rs i ts g o ms)
    round-split (just q ∷ rs) (suc i) (cons t ts) (suc k) g o w (match_one m ms j) = split_behind m (round-split rs i ts k g o.1 w ms) j
    round-split (repeated q m ∷ rs) (suc i) ts k g o w (match_many r h j) =
        split_many
        (run_split ts k (λ us d n u. no_hole rs i us g n u) (λ us l e n v u. round-split rs i us l g n v u) o w r)
        h j
