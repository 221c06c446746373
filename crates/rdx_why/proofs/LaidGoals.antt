-- The goals of a list whose opened items are laid over its terms: those of each item follow where they bind what stands for what the opened list
-- binds, and together they are a use of the list's rule.
use Rattle.std.proofs.Common.{◌≡◌, ℕ, zero, suc, ◌+◌, ◌≤◌, true, List, [], ◌∷◌, ◌++◌, Option, Some, None, refl, sym, ◌∙◌, subst, arith, append_assoc}
use Rattle.std.proofs.lemmas.List.{append-nil}
use Rattle.std.specs.Prelude.{slice_get}
use Rattle.rdx_term.specs.Items.{trees_count}
use Rattle.rdx_term.specs.Tree.{Tree, Trees, cons}
use Rattle.rdx_lang.specs.Bindings.{Binding}
use Rattle.rdx_lang.specs.Collections.{IsRepetition}
use Rattle.rdx_lang.specs.Join.{IsJoin}
use Rattle.rdx_lang.specs.Members.{In, here, there}
use Rattle.rdx_lang.specs.Names.{with_length_name, names, item_names}
use Rattle.rdx_lang.specs.Patterns.{Pattern, Items, nil, one, many, Language}
use Rattle.rdx_lang.specs.PatternView.{Slot, just, repeated, items_of}
use Rattle.rdx_lang.specs.WellFormed.{has_known_nonterminals, defined}
use Rattle.rdx_lang.proofs.CollectionLaws.{AreMaps, BindNames, repetition-names}
use Rattle.rdx_lang.proofs.NameLaws.{names-ascend}
use Rattle.rdx_bind.specs.Choices.{ArePlain}
use Rattle.rdx_deriv.specs.Derivations.{Goal}
use Rattle.rdx_deriv.specs.Uses.{Focus, nowhere, at, next, item_goal, ItemUses, TurnUses, uses_none, uses_one, uses_many, turns_end, turns_more}
use Rattle.rdx_why.specs.Inside.Laying.{focus_after, trees_after, IsMarked, IsGoalOf, AreTurnGoals, no_turn_goals, one_turn_goal, HasRoom, TakesGoals, takes_goal, takes_goals, slot_pattern}
use Rattle.rdx_opened.specs.Opening.{Mark, Opens, OpensItems, opens_none, opens_one, opens_many, AreNew, IsApart, Stands, HasStanding}
use Rattle.rdx_opened.specs.Picking.{picked, turn_pairs, in_turn}
use Rattle.rdx_why.specs.Inside.Steps.{FollowsIn, AllFollowIn, IsLaid}
use Rattle.rdx_why.proofs.LaidItems.{IsOpenedPattern, ItemFollows, item_matches, item_splits, item_before, follows-names, follows-plain, used-names, run_used-names, turns_used-names, turns_used-maps, turns_used-plain, goal-follows, follows-goal, no_follow, more_follow, first_follows, others_follow, used-ascends, turns-used, laid-used}
use Rattle.rdx_opened.proofs.OpenedMatches.{match_forth, split_forth}
use Rattle.rdx_opened.proofs.OpenedNames.{Fits, fits-left, fits-right, fits-length, binds_marks-names, binds_marks-items, binds_marks-length, parts-no_common, opened-others, length-no_mark}
use Rattle.rdx_opened.proofs.OpenedPlain.{opened-known}
use Rattle.rdx_opened.proofs.Picking.{picked-part, turn-repetition}
use Rattle.rdx_opened.proofs.Standing.{stands-one, stands-part, stands-none, stands-join}
use Rattle.rdx_opened.proofs.StandingTurns.{StandEach, each_none, each_more, repetition-forth}
use Rattle.rdx_why.proofs.TakenLengths.{IsWithin, turns_behind}
use Rattle.rdx_opened.proofs.TurnParts.{turn-apart}

-- ---- inversions

-- the first of opened items, and the others
record OpensFirst (p o : Pattern) (ps os : Items) (ms : List Mark) : Type 0 where
  pub first : List Mark
  pub others : List Mark
  pub opens : Opens p o first
  pub rest : OpensItems ps os others
  pub together : ms ≡ first ++ others

opens_first : {p o : Pattern} {ps os : Items} {ms : List Mark} → OpensItems (one p ps) (one o os) ms → OpensFirst p o ps os ms
opens_first (opens_one {ms = ms} {ns = ns} h k) = record { first = ms; others = ns; opens = h; rest = k; together = refl }

opens_repetition : {p o : Pattern} {n m : Option (List ℕ)} {ps os : Items} {ms : List Mark} → OpensItems (many p n ps) (many o m os) ms
    → OpensFirst p o ps os ms × (m ≡ n)
opens_repetition (opens_many {ms = ms} {ns = ns} h k) = (record { first = ms; others = ns; opens = h; rest = k; together = refl }, refl)

-- what is found at a place is a member
got_in : {A : Type 0} (xs : List A) (i : ℕ) (x : A) → slice_get xs i ≡ Some x → In x xs
got_in [] i x e = absurd cc
got_in (y ∷ xs) zero x e = here (cc)
got_in (y ∷ xs) (suc i) x e = there (got_in xs i x e)

module _ (L : Language) (l : List ℕ) where
  -- what the first term does, which is in no repetition, and the others
  record OneLaidAt (f : Focus) (o : Pattern) (os : Items) (t : Tree) (ts : Trees) (ks : List ℕ) (b : Binding) : Type 0 where
    pub first : Binding
    pub rest : Binding
    pub goal : FollowsIn L l (item_goal f l o t first)
    pub laid : IsLaid L l (next f) os ts ks rest
    pub joined : IsJoin first rest b

  one_laid_at : {f : Focus} {o : Pattern} {os : Items} {t : Tree} {ts : Trees} {ks : List ℕ} {gs : List Goal} {b : Binding}
      → ItemUses l f (one o os) (cons t ts) ks gs b → AllFollowIn L l gs → OneLaidAt f o os t ts ks b
  one_laid_at (uses_one {gs = gs} {c = c} {d = d} e u j) a = record {
    first = c;
    rest = d;
    goal = first_follows L l e a;
    laid = record { goals = gs; uses = u; follow = others_follow L l a };
    joined = j;
  }

  -- what so many turns do, and the items behind them
  record ManyLaidAt (f : Focus) (o : Pattern) (n : Option (List ℕ)) (os : Items) (ts : Trees) (k : ℕ) (ks : List ℕ) (b : Binding) : Type 0 where
    pub turns : List Binding
    pub first : Binding
    pub rest : Binding
    pub goals : List Goal
    pub uses : TurnUses l f o os ts k ks goals turns rest
    pub follow : AllFollowIn L l goals
    pub repeats : IsRepetition (names o) turns n first
    pub joined : IsJoin first rest b

  many_laid_at : {f : Focus} {o : Pattern} {n : Option (List ℕ)} {os : Items} {ts : Trees} {k : ℕ} {ks : List ℕ} {gs : List Goal} {b : Binding}
      → ItemUses l f (many o n os) ts (k ∷ ks) gs b → AllFollowIn L l gs → ManyLaidAt f o n os ts k ks b
  many_laid_at (uses_many {gs = gs} {cs = cs} {c = c} {d = d} r h j) a =
      record { turns = cs; first = c; rest = d; goals = gs; uses = r; follow = a; repeats = h; joined = j }

  -- there is a term
  one_room : {f : Focus} {o : Pattern} {os : Items} {ts : Trees} {ks : List ℕ} {gs : List Goal} {b : Binding} → ItemUses l f (one o os) ts ks gs b
      → 1 ≤ trees_count ts
  one_room (uses_one e u j) = omega arith

  -- there are as many as turns
  turns_room : {f : Focus} {o : Pattern} {os : Items} {ts : Trees} {k : ℕ} {ks : List ℕ} {gs : List Goal} {cs : List Binding} {d : Binding}
      → TurnUses l f o os ts k ks gs cs d → k ≤ trees_count ts
  turns_room (turns_end u) = omega arith
  turns_room (turns_more e r) = let h = turns_room r in omega arith

  many_room : {f : Focus} {o : Pattern} {n : Option (List ℕ)} {os : Items} {ts : Trees} {ks : List ℕ} {gs : List Goal} {b : Binding}
      → ItemUses l f (many o n os) ts ks gs b → (k : ℕ) × (js : List ℕ) × (ks ≡ k ∷ js) × (k ≤ trees_count ts)
  many_room (uses_many {k = k} {ks = ks} r h j) = (k, ks, refl, turns_room r)

  module _ (ms : List Mark) (c : Binding) (mk : IsMarked ms c) where
    -- goals of items, which bind what d stands for
    pub record HasGoals (f : Focus) (ps : Items) (ts : Trees) (ks : List ℕ) (d : Binding) (gs : List Goal) : Type 0 where
      pub whole : Binding
      pub stands : Stands ms d whole
      pub uses : ItemUses l f ps ts ks gs whole
      pub follow : AllFollowIn L l gs

    -- a part of c has no two terms that are equal
    part_apart : {d : Binding} → IsWithin d c → IsApart ms d
    part_apart w = stands-part w mk.apart

    -- ---- the goal of a term

    -- a pattern does what the opened one does
    item_forth : {f : Focus} {p o : Pattern} {ns : List Mark} {t : Tree} {d : Binding} → Opens p o ns → Fits ms (names p) ns → ItemFollows L f o t d
        → IsApart ms d → HasStanding ms d (ItemFollows L f p t)
    item_forth {d = d} h g (item_matches {t = t} k) a =
        let w = match_forth L ms mk.distinct h g t d k a in record { whole = w.whole; stands = w.stands; holds = item_matches w.holds }
    item_forth {d = d} h g (item_splits {t = t} {D = D} {s = s} k) a =
        let w = split_forth L ms mk.distinct h g t D s d k a in record { whole = w.whole; stands = w.stands; holds = item_splits w.holds }
    item_forth {d = d} h g (item_before {t = t} k) a =
        let w = match_forth L ms mk.distinct h g t d k a in record { whole = w.whole; stands = w.stands; holds = item_before w.holds }

    -- the goal's pattern is one of the language's
    item_known : (f : Focus) (o : Pattern) (t : Tree) (d : Binding) → FollowsIn L l (item_goal f l o t d)
        → has_known_nonterminals (defined L) o ≡ true
    item_known nowhere o t d h = h.1
    item_known (at zero D s) o t d h = h.1
    item_known (at (suc i) D s) o t d h = h.1

    -- a goal that follows, and binds what d stands for
    record GoalThere (f : Focus) (p : Pattern) (t : Tree) (d : Binding) (g : Goal) : Type 0 where
      pub bound : Binding
      pub stands : Stands ms d bound
      pub same : g ≡ item_goal f l p t bound
      pub follows : FollowsIn L l g

    goal_there : (f : Focus) {p o : Pattern} {ns : List Mark} {t : Tree} {d e : Binding} {g : Goal} → Opens p o ns → Fits ms (names p) ns
        → FollowsIn L l (item_goal f l o t d) → IsApart ms d → e ≡ d → IsGoalOf ms l p f t e g → GoalThere f p t d g
    goal_there f {p = p} {o = o} {t = t} {d = d} h k v a e q =
        let s : Stands ms d q.0 = subst (λ (b : Binding). Stands ms b q.0) e q.1 in
        let w = item_forth h k (goal-follows L l f o t d v) a in
        let i : ItemFollows L f p t q.0 = subst (λ (b : Binding). ItemFollows L f p t b) (stands-one w.stands s) w.holds in
        let n : has_known_nonterminals (defined L) p ≡ true = opened-known (defined L) h ∙ item_known f o t d v in
        record {
          bound = q.0;
          stands = s;
          same = q.2;
          follows = subst (λ (x : Goal). FollowsIn L l x) (sym q.2) (follows-goal L l n i);
        }

    -- ---- items

    -- an item that is no repetition, before others
    one_before : (f : Focus) {p o : Pattern} {ps os : Items} {ns : List Mark} {t : Tree} {ts : Trees} {ks : List ℕ} {b : Binding} {g : Goal}
        {gs : List Goal} → (k : OpensFirst p o ps os ns) → Fits ms (item_names (one p ps)) ns → (u : OneLaidAt f o os t ts ks b) → IsWithin b c
        → IsGoalOf ms l p f t (picked c (names o)) g → HasGoals (next f) ps ts ks u.rest gs → HasGoals f (one p ps) (cons t ts) ks b (g ∷ gs)
    one_before f {p = p} {o = o} {ps = ps} {os = os} {ns = ns} {t = t} {g = g} k fits u w q r =
        let fs : Fits ms (item_names (one p ps)) (k.first ++ k.others) =
        subst (λ (xs : List Mark). Fits ms (item_names (one p ps)) xs) k.together fits in
        let fp = fits-left (names p) (item_names ps) k.first k.others fs in
        let fr = fits-right (names p) (item_names ps) k.first k.others fs in
        let wf : IsWithin u.first c = λ x i. w x (u.joined.pairs.left x i) in
        let i = goal-follows L l f o t u.first u.goal in
        let same : picked c (names o) ≡ u.first =
        picked-part c u.first (names o) mk.ascending wf (follows-names i) (follows-plain (p, k.first, k.opens) i) in
        let h : GoalThere f p t u.first g = goal_there f k.opens fp u.goal (part_apart wf) same q in
        let apart =
        parts-no_common ms k.first k.others u.first u.rest fs.distinct (binds_marks-names k.opens fp u.first (follows-names i))
        (binds_marks-items k.rest fr u.rest (used-names (laid-used L l u.laid))) in
        let j = stands-join h.stands r.stands apart u.joined (part_apart w) in
        record { whole = j.0; stands = j.2; uses = uses_one h.same r.uses j.1; follow = more_follow L l h.follows r.follow }

    -- ---- turns

    -- the turns of a repetition, and the items behind them
    record HasTurns (f : Focus) (p : Pattern) (ps : Items) (ts : Trees) (k : ℕ) (ks : List ℕ) (cs : List Binding) (d : Binding) (gs : List Goal) :
        Type 0 where
      pub bounds : List Binding
      pub behind : Binding
      pub each : StandEach ms cs bounds
      pub stands : Stands ms d behind
      pub uses : TurnUses l f p ps ts k ks gs bounds behind
      pub follow : AllFollowIn L l gs

    -- what c says of the names in each turn from the i-th on is what the turn binds
    abbrev AreInTurn : List (List ℕ) → ℕ → List Binding → Type 0
    AreInTurn xs i cs = (j : ℕ) (e : Binding) → slice_get cs j ≡ Some e → in_turn c (i + j) xs ≡ e

    first_turn : (xs : List (List ℕ)) (i : ℕ) (d : Binding) (cs : List Binding) → AreInTurn xs i (d ∷ cs) → in_turn c i xs ≡ d
    first_turn xs i d cs h = let n : i + 0 ≡ i = omega arith in subst (λ (j : ℕ). in_turn c j xs ≡ d) n (h 0 d refl)

    other_turns : (xs : List (List ℕ)) (i : ℕ) (d : Binding) (cs : List Binding) → AreInTurn xs i (d ∷ cs) → AreInTurn xs (suc i) cs
    other_turns xs i d cs h j e g = let n : i + suc j ≡ suc i + j = omega arith in subst (λ (m : ℕ). in_turn c m xs ≡ e) n (h (suc j) e g)

    module _ {p o : Pattern} {ps os : Items} {ns : List Mark} (opens : Opens p o ns) (fits : Fits ms (names p) ns) where
      -- the goals of turns, before those of the items behind them
      turns_before : {f : Focus} {ts : Trees} {k : ℕ} {ks : List ℕ} {hs : List Goal} {cs : List Binding} {d : Binding} (i : ℕ) {gs es : List Goal}
          → TurnUses l f o os ts k ks hs cs d → AllFollowIn L l hs → AreInTurn (names o) i cs
          → AreTurnGoals ms c l p (names o) i f ts k gs → HasGoals (focus_after k f) ps (trees_after k ts) ks d es
          → HasTurns f p ps ts k ks cs d (gs ++ es)
      turns_before i (turns_end u) a in_turns no_turn_goals r =
          record { bounds = []; behind = r.whole; each = each_none; stands = r.stands; uses = turns_end r.uses; follow = r.follow }
      turns_before i (turns_more {f = f} {t = t} {c = e} {cs = cs} g u) a in_turns (one_turn_goal {g = m} q qs) r =
          let same = first_turn (names o) i e cs in_turns in
          let apart : IsApart ms e =
          subst (λ (b : Binding). IsApart ms b) same (turn-apart c mk.ascending mk.apart i (names o)) in
          let h : GoalThere f p t e m = goal_there f opens fits (first_follows L l g a) apart same q in
          let z = turns_before (suc i) u (others_follow L l a) (other_turns (names o) i e cs in_turns) qs r in
          record {
            bounds = h.bound ∷ z.bounds;
            behind = z.behind;
            each = each_more h.stands z.each;
            stands = z.stands;
            uses = turns_more h.same z.uses;
            follow = more_follow L l h.follows z.follow;
          }

    -- a part of c without sets in a turn
    turn_is : (e : Binding) (i : ℕ) (xs : List (List ℕ)) → turn_pairs c i xs ≡ e.pairs → e.differs ≡ [] → in_turn c i xs ≡ e
    turn_is e i xs f g = λ j. record { pairs = f j; differs = sym g j }

    -- a repetition, before other items
    many_before : (f : Focus) {p o : Pattern} {n m : Option (List ℕ)} {ps os : Items} {ns : List Mark} {ts : Trees} {k : ℕ} {ks : List ℕ}
        {b : Binding} {gs es : List Goal} → (q : OpensFirst p o ps os ns) → m ≡ n → Fits ms (item_names (many p n ps)) ns
        → (u : ManyLaidAt f o m os ts k ks b)
        → IsWithin b c
        → AreTurnGoals ms c l p (names o) zero f ts k gs → HasGoals (focus_after k f) ps (trees_after k ts) ks u.rest es
        → HasGoals f (many p n ps) ts (k ∷ ks) b (gs ++ es)
    many_before f {p = p} {o = o} {n = n} {m = m} {ps = ps} {os = os} {ns = ns} {gs = gs} {es = es} q same fits u w g r =
        let fs : Fits ms (item_names (many p n ps)) (q.first ++ q.others) =
        subst (λ (xs : List Mark). Fits ms (item_names (many p n ps)) xs) q.together fits in
        let fn = fits-left (with_length_name n (names p)) (item_names ps) q.first q.others fs in
        let fp = fits-length n (names p) fn in
        let fr = fits-right (with_length_name n (names p)) (item_names ps) q.first q.others fs in
        let wf : IsWithin u.first c = λ x i. w x (u.joined.pairs.left x i) in
        let run = turns-used L l u.uses u.follow in
        let o_opened : IsOpenedPattern o = (p, q.first, q.opens) in
        let bind : BindNames (names o) u.turns = turns_used-names run in
        let maps : AreMaps u.turns = turns_used-maps run in
        let plain : ArePlain u.turns = turns_used-plain o_opened run in
        let turns : AreInTurn (names o) zero u.turns = λ j e d.
        let i : In e u.turns = got_in u.turns j e d in
        let zero_more : 0 + j ≡ j = omega arith in
        subst (λ (x : ℕ). in_turn c x (names o) ≡ e) (sym zero_more)
        (turn_is e j (names o) (turn-repetition c u.first mk.ascending wf u.repeats j e (maps e i) (bind e i) d) (plain e i)) in
        let z = turns_before q.opens fp zero u.uses u.follow turns g r in
        let rep : IsRepetition (names o) u.turns n u.first =
        subst (λ (x : Option (List ℕ)). IsRepetition (names o) u.turns x u.first) same u.repeats in
        let b =
        repetition-forth ms (names o) (names p) (opened-others q.opens fp) (names-ascend p) u.turns z.bounds z.each maps bind
        (length-no_mark n (names p) fn) rep (part_apart wf) in
        let apart =
        parts-no_common ms q.first q.others u.first u.rest fs.distinct (binds_marks-length n q.opens fn u.first (repetition-names rep))
        (binds_marks-items q.rest fr u.rest (run_used-names run)) in
        let j = stands-join b.2 z.stands apart u.joined (part_apart w) in
        record { whole = j.0; stands = j.2; uses = uses_many z.uses b.1 j.1; follow = z.follow }

    -- ---- items in a loop

    -- the items that are left are laid over what is left, and whatever goals they have, so W holds of those that are there with these behind them
    pub record GoalsAhead (W : List Goal → Type 0) (f : Focus) (ps os : Items) (ts : Trees) (ks : List ℕ) (done : List Goal) : Type 0 where
      pub marks : List Mark
      pub opens : OpensItems ps os marks
      pub fits : Fits ms (item_names ps) marks
      pub bound : Binding
      pub laid : IsLaid L l f os ts ks bound
      pub within : IsWithin bound c
      pub whole : (gs : List Goal) → HasGoals f ps ts ks bound gs → W (done ++ gs)

    -- at first
    pub ahead_first : {f : Focus} {ps os : Items} {ts : Trees} {ks : List ℕ} {ns : List Mark} → OpensItems ps os ns → Fits ms (item_names ps) ns
        → IsLaid L l f os ts ks c → GoalsAhead (HasGoals f ps ts ks c) f ps os ts ks []
    ahead_first {ns = ns} h k u = record { marks = ns; opens = h; fits = k; bound = c; laid = u; within = λ p i. i; whole = λ gs r. r }

    module _ (W : List Goal → Type 0) where
      -- at the end
      pub ahead_end : {f : Focus} {os : Items} {ts : Trees} {ks : List ℕ} {done : List Goal} → GoalsAhead W f nil os ts ks done → W done
      ahead_end {done = done} h = subst (λ (gs : List Goal). W gs) (append-nil done) (h.whole [] (of_none h.opens h.laid.uses))
        where
          of_none : {f : Focus} {os : Items} {ns : List Mark} {ts : Trees} {ks : List ℕ} {gs : List Goal} {b : Binding} → OpensItems nil os ns
              → ItemUses l f os ts ks gs b → HasGoals f nil ts ks b []
          of_none opens_none uses_none = record { whole = _; stands = stands-none; uses = uses_none; follow = no_follow L l }

      -- there are as many opened items
      no_opened_one : {p : Pattern} {ps : Items} {ns : List Mark} → OpensItems (one p ps) nil ns → ⊥
      no_opened_one h = elim h [ ]

      no_opened_many : {p : Pattern} {n : Option (List ℕ)} {ps : Items} {ns : List Mark} → OpensItems (many p n ps) nil ns → ⊥
      no_opened_many h = elim h [ ]

      pub ahead_more : (r : Slot) (rs : List Slot) {f : Focus} {ts : Trees} {ks : List ℕ} {done : List Goal}
          → GoalsAhead W f (items_of (r ∷ rs)) nil ts ks done → ⊥
      ahead_more (just p) rs h = no_opened_one h.opens
      ahead_more (repeated p n) rs h = no_opened_many h.opens

      -- of the same form
      no_repetition : {p o : Pattern} {n : Option (List ℕ)} {ps os : Items} {ns : List Mark} → OpensItems (one p ps) (many o n os) ns → ⊥
      no_repetition h = elim h [ ]

      no_single : {p o : Pattern} {n : Option (List ℕ)} {ps os : Items} {ns : List Mark} → OpensItems (many p n ps) (one o os) ns → ⊥
      no_single h = elim h [ ]

      -- and for the first item there is what it takes
      pub ahead_room : (r s : Slot) (rs ss : List Slot) {f : Focus} {ts : Trees} {ks : List ℕ} {done : List Goal}
          → GoalsAhead W f (items_of (r ∷ rs)) (items_of (s ∷ ss)) ts ks done → HasRoom r s ts ks
      ahead_room (just p) (just o) rs ss h = one_room h.laid.uses
      ahead_room (just p) (repeated o m) rs ss h = absurd (no_repetition h.opens)
      ahead_room (repeated p n) (just o) rs ss h = absurd (no_single h.opens)
      ahead_room (repeated p n) (repeated o m) rs ss h = many_room h.laid.uses

      -- an item that is no repetition
      one_more : (p o : Pattern) (rs ss : List Slot) (f : Focus) (t : Tree) (ts : Trees) (ks : List ℕ) (done : List Goal) (g : Goal)
          → GoalsAhead W f (one p (items_of rs)) (one o (items_of ss)) (cons t ts) ks done → IsGoalOf ms l p f t (picked c (names o)) g
          → GoalsAhead W (next f) (items_of rs) (items_of ss) ts ks (done ++ g ∷ [])
      one_more p o rs ss f t ts ks done g h q =
          let ps = items_of rs in
          let k = opens_first h.opens in
          let u = one_laid_at h.laid.uses h.laid.follow in
          let fs : Fits ms (item_names (one p ps)) (k.first ++ k.others) =
          subst (λ (xs : List Mark). Fits ms (item_names (one p ps)) xs) k.together h.fits in
          record {
            marks = k.others;
            opens = k.rest;
            fits = fits-right (names p) (item_names ps) k.first k.others fs;
            bound = u.rest;
            laid = u.laid;
            within = λ x i. h.within x (u.joined.pairs.right x i);
            whole = λ es r.
                subst (λ (xs : List Goal). W xs) (sym (append_assoc done (g ∷ []) es)) (h.whole (g ∷ es) (one_before f k h.fits u h.within q r));
          }

      -- a repetition
      many_more : (p o : Pattern) (n m : Option (List ℕ)) (rs ss : List Slot) (f : Focus) (ts : Trees) (k : ℕ) (ks : List ℕ) (done gs : List Goal)
          → GoalsAhead W f (many p n (items_of rs)) (many o m (items_of ss)) ts (k ∷ ks) done → AreTurnGoals ms c l p (names o) zero f ts k gs
          → GoalsAhead W (focus_after k f) (items_of rs) (items_of ss) (trees_after k ts) ks (done ++ gs)
      many_more p o n m rs ss f ts k ks done gs h g =
          let ps = items_of rs in
          let q = opens_repetition h.opens in
          let u = many_laid_at h.laid.uses h.laid.follow in
          let fs : Fits ms (item_names (many p n ps)) (q.0.first ++ q.0.others) =
          subst (λ (xs : List Mark). Fits ms (item_names (many p n ps)) xs) q.0.together h.fits in
          record {
            marks = q.0.others;
            opens = q.0.rest;
            fits = fits-right (with_length_name n (names p)) (item_names ps) q.0.first q.0.others fs;
            bound = u.rest;
            laid = (turns_behind L l u.uses u.follow).rest;
            within = λ x i. h.within x (u.joined.pairs.right x i);
            whole = λ es r.
                subst (λ (xs : List Goal). W xs) (sym (append_assoc done gs es)) (h.whole (gs ++ es) (many_before f q.0 q.1 h.fits u h.within g r));
          }

      -- an item more
      pub ahead_item : {r s : Slot} (rs ss : List Slot) {f g : Focus} {ts us : Trees} {ks js : List ℕ} {done gs : List Goal}
          → GoalsAhead W f (items_of (r ∷ rs)) (items_of (s ∷ ss)) ts ks done → TakesGoals l ms c r s f ts ks gs g us js
          → GoalsAhead W g (items_of rs) (items_of ss) us js (done ++ gs)
      ahead_item rs ss {done = done} h (takes_goal {p = p} {o = o} {f = f} {t = t} {ts = ts} {ks = ks} {g = g} q) =
          one_more p o rs ss f t ts ks done g h q
      ahead_item rs ss {done = done} h (takes_goals {p = p} {o = o} {n = n} {m = m} {f = f} {ts = ts} {k = k} {ks = ks} {gs = gs} q) =
          many_more p o n m rs ss f ts k ks done gs h q

-- all this in the loop over the items
pub record IsGoing (L : Language) (l : List ℕ) (ms : List Mark) (c : Binding) (g : Focus) (qs : Items) (us : Trees) (js : List ℕ) (f : Focus)
    (ps os : Items) (ts : Trees) (ks : List ℕ) (done : List Goal) : Type 0 where
  pub marked : IsMarked ms c
  pub ahead : GoalsAhead L l ms c marked (HasGoals L l ms c marked g qs us js c) f ps os ts ks done

-- at first
pub going_first : (L : Language) (l : List ℕ) (ms : List Mark) (c b : Binding) (f : Focus) (ps os : Items) (ts : Trees) (ks : List ℕ)
    → OpensItems ps os ms
    → AreNew (item_names ps) ms → Stands ms c b → IsLaid L l f os ts ks c → IsGoing L l ms c f ps ts ks f ps os ts ks []
going_first L l ms c b f ps os ts ks h n s u =
    let mk : IsMarked ms c = record { distinct = n.distinct; ascending = used-ascends (laid-used L l u); plain = s.plain; apart = s.apart } in
    record { marked = mk; ahead = ahead_first L l ms c mk h (record { within = λ m i. i; distinct = n.distinct; other = n.other }) u }

module _ {L : Language} {l : List ℕ} {ms : List Mark} {c : Binding} {g : Focus} {qs : Items} {us : Trees} {js : List ℕ} where
  -- the same items
  pub going_at : {rs rs' ss ss' : List Slot} {f : Focus} {ts : Trees} {ks : List ℕ} {done : List Goal} → rs ≡ rs' → ss ≡ ss'
      → IsGoing L l ms c g qs us js f (items_of rs) (items_of ss) ts ks done → IsGoing L l ms c g qs us js f (items_of rs') (items_of ss') ts ks done
  going_at {rs' = rs'} {ss = ss} {f = f} {ts = ts} {ks = ks} {done = done} d e h =
      subst (λ (ps : List Slot). IsGoing L l ms c g qs us js f (items_of rs') (items_of ps) ts ks done) e
      (subst (λ (ps : List Slot). IsGoing L l ms c g qs us js f (items_of ps) (items_of ss) ts ks done) d h)

  -- there are as many opened items
  pub going_alike : (r : Slot) (rs : List Slot) {f : Focus} {ts : Trees} {ks : List ℕ} {done : List Goal}
      → IsGoing L l ms c g qs us js f (items_of (r ∷ rs)) nil ts ks done → ⊥
  going_alike r rs h = ahead_more L l ms c h.marked (HasGoals L l ms c h.marked g qs us js c) r rs h.ahead

  -- for the first item there is what it takes
  pub going_room : (r s : Slot) (rs ss : List Slot) {f : Focus} {ts : Trees} {ks : List ℕ} {done : List Goal}
      → IsGoing L l ms c g qs us js f (items_of (r ∷ rs)) (items_of (s ∷ ss)) ts ks done → HasRoom r s ts ks
  going_room r s rs ss h = ahead_room L l ms c h.marked (HasGoals L l ms c h.marked g qs us js c) r s rs ss h.ahead

  -- an item more
  pub going_on : {r s : Slot} (rs ss : List Slot) {f f' : Focus} {ts ts' : Trees} {ks ks' : List ℕ} {done gs all : List Goal}
      → IsGoing L l ms c g qs us js f (items_of (r ∷ rs)) (items_of (s ∷ ss)) ts ks done → TakesGoals l ms c r s f ts ks gs f' ts' ks'
      → all ≡ done ++ gs → IsGoing L l ms c g qs us js f' (items_of rs) (items_of ss) ts' ks' all
  going_on rs ss {f' = f'} {ts' = ts'} {ks' = ks'} h t e =
      let a = ahead_item L l ms c h.marked (HasGoals L l ms c h.marked g qs us js c) rs ss h.ahead t in
      subst (λ (xs : List Goal). IsGoing L l ms c g qs us js f' (items_of rs) (items_of ss) ts' ks' xs) (sym e)
      (record { marked = h.marked; ahead = a })

  -- at the end the goals are those of a use, and follow
  pub going_end : (b : Binding) {f : Focus} {os : Items} {ts : Trees} {ks : List ℕ} {done : List Goal} → Stands ms c b
      → IsGoing L l ms c g qs us js f nil os ts ks done → ItemUses l g qs us js done b × AllFollowIn L l done
  going_end b {done = done} s h =
      let r = ahead_end L l ms c h.marked (HasGoals L l ms c h.marked g qs us js c) h.ahead in
      (subst (λ (d : Binding). ItemUses l g qs us js done d) (stands-one r.stands s) r.uses, r.follow)

-- ---- goals of one item in the code

-- one that is no repetition
pub takes_single : {l : List ℕ} {ms : List Mark} {c : Binding} {p o : Pattern} {f g : Focus} {t : Tree} {ts us : Trees} {ks : List ℕ}
    {gs : List Goal} {m : Goal} {xs : List (List ℕ)} → us ≡ cons t ts → xs ≡ names o → gs ≡ m ∷ [] → g ≡ next f → IsGoalOf ms l p f t (picked c xs) m
    → TakesGoals l ms c (just p) (just o) f us ks gs g ts ks
takes_single {l = l} {ms = ms} {c = c} {p = p} {o = o} {f = f} {g = g} {t = t} {ts = ts} {us = us} {ks = ks} {gs = gs} {m = m} a b d e h =
    subst (λ (vs : Trees). TakesGoals l ms c (just p) (just o) f vs ks gs g ts ks) (sym a)
    (subst (λ (hs : List Goal). TakesGoals l ms c (just p) (just o) f (cons t ts) ks hs g ts ks) (sym d)
    (subst (λ (k : Focus). TakesGoals l ms c (just p) (just o) f (cons t ts) ks (m ∷ []) k ts ks) (sym e)
    (takes_goal (subst (λ (ys : List (List ℕ)). IsGoalOf ms l p f t (picked c ys) m) b h))))

-- a repetition
pub takes_turns_of : {l : List ℕ} {ms : List Mark} {c : Binding} {p o : Pattern} {n m : Option (List ℕ)} {f g : Focus} {ts us : Trees} {k : ℕ}
    {ks js : List ℕ} {gs : List Goal} {xs : List (List ℕ)} → ks ≡ k ∷ js → xs ≡ names o → g ≡ focus_after k f → us ≡ trees_after k ts
    → AreTurnGoals ms c l p xs zero f ts k gs → TakesGoals l ms c (repeated p n) (repeated o m) f ts ks gs g us js
takes_turns_of {l = l} {ms = ms} {c = c} {p = p} {o = o} {n = n} {m = m} {f = f} {g = g} {ts = ts} {us = us} {k = k} {js = js} {gs = gs}
    a b d e h =
    subst (λ (is : List ℕ). TakesGoals l ms c (repeated p n) (repeated o m) f ts is gs g us js) (sym a)
    (subst (λ (i : Focus). TakesGoals l ms c (repeated p n) (repeated o m) f ts (k ∷ js) gs i us js) (sym d)
    (subst (λ (vs : Trees). TakesGoals l ms c (repeated p n) (repeated o m) f ts (k ∷ js) gs (focus_after k f) vs js) (sym e)
    (takes_goals (subst (λ (ys : List (List ℕ)). AreTurnGoals ms c l p ys zero f ts k gs) b h))))

-- a repetition has so many terms as its length says
pub room_for : (ts : Trees) {ks js : List ℕ} {k : ℕ} → ((i : ℕ) × (is : List ℕ) × (ks ≡ i ∷ is) × (i ≤ trees_count ts)) → ks ≡ k ∷ js
    → k ≤ trees_count ts
room_for ts {k = k} h e = let g : h.0 ≡ k = (let i = h.2 in cc) in subst (λ (j : ℕ). j ≤ trees_count ts) g h.3

-- the opened item has the form of the other
pub room_single : (p : Pattern) (s : Slot) (ts : Trees) (ks : List ℕ) → HasRoom (just p) s ts ks → HasRoom (just p) (just (slot_pattern s)) ts ks
room_single p (just o) ts ks h = h
room_single p (repeated o m) ts ks h = absurd h

pub takes_opened : {l : List ℕ} {ms : List Mark} {c : Binding} {p : Pattern} {f g : Focus} {ts us : Trees} {ks js : List ℕ} {gs : List Goal}
    (s : Slot) → HasRoom (just p) s ts ks → TakesGoals l ms c (just p) (just (slot_pattern s)) f ts ks gs g us js
    → TakesGoals l ms c (just p) s f ts ks gs g us js
takes_opened (just o) h t = t
takes_opened (repeated o m) h t = absurd h

pub room_turns : (p : Pattern) (n : Option (List ℕ)) (s : Slot) (ts : Trees) (ks : List ℕ) → HasRoom (repeated p n) s ts ks
    → HasRoom (repeated p None) (repeated (slot_pattern s) None) ts ks
room_turns p n (just o) ts ks h = absurd h
room_turns p n (repeated o m) ts ks h = h

pub takes_opened_turns : {l : List ℕ} {ms : List Mark} {c : Binding} {p : Pattern} {n : Option (List ℕ)} {f g : Focus} {ts us : Trees}
    {ks js : List ℕ} {gs : List Goal} (s : Slot) → HasRoom (repeated p n) s ts ks
    → ((i j : Option (List ℕ)) → TakesGoals l ms c (repeated p i) (repeated (slot_pattern s) j) f ts ks gs g us js)
    → TakesGoals l ms c (repeated p n) s f ts ks gs g us js
takes_opened_turns (just o) h t = absurd h
takes_opened_turns {n = n} (repeated o m) h t = t n m
