-- Where a pattern matches, the opened pattern matches, and binds what stands for what the pattern binds; and so it is where it splits a term.
use Rattle.std.proofs.Common.{ℕ, List, [], ◌∷◌, refl}
use Rattle.rdx_term.specs.Tree.{Tree, Trees}
use Rattle.rdx_lang.specs.Bindings.{Binding, no_names, HasAscendingNames}
use Rattle.rdx_lang.specs.Bindings.{one as one_term}
use Rattle.rdx_lang.specs.Join.{IsJoin}
use Rattle.rdx_lang.specs.Members.{here}
use Rattle.rdx_lang.specs.Names.{with_length_name, names, item_names}
use Rattle.rdx_lang.specs.Patterns.{Pattern, Items, Language}
use Rattle.rdx_lang.specs.Rules.{Match, MatchItems, MatchRun, match_wild, match_kind, match_except, match_prefix, match_hole, match_lit, match_nt, match_named, match_differ, match_in_hole, match_hide_hole, match_closed, match_seq, match_none, match_one, match_many, run_end, run_more}
use Rattle.rdx_lang.specs.Rules.{Split, SplitItems, SplitRun, split_hole, split_nt, split_named, split_differ, split_in_hole, split_closed, split_seq, split_here, split_behind, split_many, run_here, run_there, run_behind}
use Rattle.rdx_lang.proofs.CollectionLaws.{repetition-names, repetition-ascends}
use Rattle.rdx_lang.proofs.NameLaws.{names-ascend, match-ascends, items-ascends, split-ascends, split_items-ascends, match-names, items-names, run-names, run-maps, run-ascends, turn-names, split-names, split_items-names, split_run-names, split_run-maps, split_run-ascends, split_turn-names}
use Rattle.rdx_opened.specs.Opening.{Mark, mark_names, Opens, OpensItems, opens_wild, opens_kind, opens_except, opens_prefix, opens_hole, opens_lit, opens_nt, opens_named, opens_differ, opens_in_hole, opens_hide_hole, opens_closed, opens_seq, opens_none, opens_one, opens_many, AreDistinct, IsOpened, Stands, IsOpenedBy}
use Rattle.rdx_lang.proofs.JoinLaws.{one_name-ascends}
use Rattle.rdx_opened.proofs.OpenedMatches.{mark_no_common}
use Rattle.rdx_opened.proofs.OpenedNames.{Fits, fits-left, fits-right, fits-behind, fits-inside, fits-length, binds_marks-names, binds_marks-items, binds_marks-length, parts-no_common, opened-others, length-no_mark, name-no_mark, opened-fits}
use Rattle.rdx_opened.proofs.Standing.{HaveNoCommonMark, name-no_common, stands-none, stands-name, stands-mark, stands-opened}
use Rattle.rdx_opened.proofs.StandingTurns.{StandEach, each_none, each_more, repetition-back}

-- ---- joins

module _ (ms : List Mark) (R : Binding → Type 0) where
  -- where a join of two bindings holds for that of what they stand for
  join_opened : {c d a b w : Binding} → Stands ms c a → Stands ms d b → HasAscendingNames c → HasAscendingNames d → HaveNoCommonMark ms c d
      → IsJoin a b w → ((e : Binding) → IsJoin c d e → R e) → IsOpenedBy ms w R
  join_opened s r f g n j h = let k = stands-opened s r n f g j in record { opened = k.0; stands = k.2; holds = h k.0 k.1 }

  -- a binding of no name stands for itself
  none_opened : R no_names → IsOpenedBy ms no_names R
  none_opened r = record { opened = no_names; stands = stands-none; holds = r }

-- what the opened pattern binds in the turns of a run and behind it stands for what the pattern binds there
pub record RunOpened (ms : List Mark) (bs : List Binding) (b : Binding) (R : List Binding → Binding → Type 0) : Type 0 where
  pub turns : List Binding
  pub behind : Binding
  pub each : StandEach ms turns bs
  pub stands : Stands ms behind b
  pub holds : R turns behind

module _ (L : Language) (ms : List Mark) where
  -- whatever p matches the opened pattern o matches
  abbrev pub MatchBack : Pattern → Pattern → Type 0
  MatchBack p o = (t : Tree) (b : Binding) → Match L p t b → IsOpenedBy ms b (Match L o t)

  -- so for items
  abbrev pub ItemsBack : Items → Items → Type 0
  ItemsBack ps os = (ts : Trees) (b : Binding) → MatchItems L ps ts b → IsOpenedBy ms b (MatchItems L os ts)

  -- so for splits
  abbrev pub SplitBack : Pattern → Pattern → Type 0
  SplitBack p o = (t C s : Tree) (b : Binding) → Split L p t C s b → IsOpenedBy ms b (Split L o t C s)

  -- so for items of which one splits
  abbrev pub SplitItemsBack : Items → Items → Type 0
  SplitItemsBack ps os = (ts : Trees) (k : ℕ) (D s : Tree) (b : Binding) → SplitItems L ps ts k D s b → IsOpenedBy ms b (SplitItems L os ts k D s)

  -- ---- runs

  module _ (p o : Pattern) (ps os : Items) (f : MatchBack p o) (g : ItemsBack ps os) where
    -- a run, turn by turn
    pub run_back : {ts : Trees} {bs : List Binding} {b : Binding} → MatchRun L p ps ts bs b → RunOpened ms bs b (MatchRun L o os ts)
    run_back (run_end {ts = ts} {d = d} h) =
        let k = g ts d h in record { turns = []; behind = k.opened; each = each_none; stands = k.stands; holds = run_end k.holds }
    run_back (run_more {t = t} {c = c} h r) =
        let k = f t c h in
        let q = run_back r in
        record {
          turns = k.opened ∷ q.turns;
          behind = q.behind;
          each = each_more k.stands q.each;
          stands = q.stands;
          holds = run_more k.holds q.holds;
        }

    -- a run in which one term is split
    pub split_run_back : SplitBack p o → SplitItemsBack ps os → {ts : Trees} {k : ℕ} {D s : Tree} {bs : List Binding} {b : Binding}
        → SplitRun L p ps ts k D s bs b → RunOpened ms bs b (SplitRun L o os ts k D s)
    split_run_back f' g' (run_here {t = t} {D = D} {s = s} {c = c} h r) =
        let k = f' t D s c h in
        let q = run_back r in
        record {
          turns = k.opened ∷ q.turns;
          behind = q.behind;
          each = each_more k.stands q.each;
          stands = q.stands;
          holds = run_here k.holds q.holds;
        }
    split_run_back f' g' (run_there {t = t} {c = c} h r) =
        let k = f t c h in
        let q = split_run_back f' g' r in
        record {
          turns = k.opened ∷ q.turns;
          behind = q.behind;
          each = each_more k.stands q.each;
          stands = q.stands;
          holds = run_there k.holds q.holds;
        }
    split_run_back f' g' (run_behind {ts = ts} {k = n} {D = D} {s = s} {d = d} h) =
        let k = g' ts n D s d h in record { turns = []; behind = k.opened; each = each_none; stands = k.stands; holds = run_behind k.holds }

  -- ---- patterns

  module _ (different : AreDistinct (mark_names ms)) where
    mutual
      -- a match of a pattern is one of the opened pattern
      pub match_back : {p o : Pattern} {ns : List Mark} → Opens p o ns → Fits ms (names p) ns → MatchBack p o
      match_back opens_wild f t b match_wild = none_opened ms (Match L _ t) match_wild
      match_back opens_kind f t b (match_kind h) = none_opened ms (Match L _ t) (match_kind h)
      match_back opens_except f t b (match_except h) = none_opened ms (Match L _ _) (match_except h)
      match_back opens_prefix f t b (match_prefix h) = none_opened ms (Match L _ _) (match_prefix h)
      match_back opens_hole f t b match_hole = none_opened ms (Match L _ _) match_hole
      match_back opens_lit f t b (match_lit h) = none_opened ms (Match L _ t) (match_lit h)
      match_back opens_nt f t b (match_nt i h) = none_opened ms (Match L _ t) (match_nt i h)
      match_back (opens_named {x = x} {q = q} r) f t e (match_named {c = c} h j) =
          let v = one_term t in
          let n = name-no_mark x (names q) f in
          let k = match_back r (fits-inside (names q) (x ∷ []) f) t c h in
          join_opened ms (Match L _ t) k.stands (stands-name v n) (match-ascends k.holds) (one_name-ascends x v)
          (name-no_common ms k.opened x v n) j (λ w i. match_named k.holds i)
      match_back (opens_differ {x = x} {y = y} {q = q} {ms = ns} r) f t e (match_differ {c = c} h j) =
          let g = fits-behind f in
          let v = one_term t in
          let i = f.within (y, x) (here refl) in
          let k = match_back r g t c h in
          let n = mark_no_common ms ns k.opened y x v i f.distinct.0 (binds_marks-names r g k.opened (match-names k.holds)) in
          join_opened ms (Match L _ t) k.stands (stands-mark different i t) (match-ascends k.holds) (one_name-ascends y v) n j
          (λ w l. match_named k.holds l)
      match_back (opens_in_hole {q = q} {r = r} {ms = ns} {ns = ks} u v) f t e (match_in_hole {C = C} {u = s} {c = c} {d = d} h k j) =
          let fu = fits-left (names q) (names r) ns ks f in
          let fv = fits-right (names q) (names r) ns ks f in
          let l = split_back u fu t C s c h in
          let m = match_back v fv s d k in
          let n =
          parts-no_common ms ns ks l.opened m.opened f.distinct (binds_marks-names u fu l.opened (split-names l.holds))
          (binds_marks-names v fv m.opened (match-names m.holds)) in
          join_opened ms (Match L _ t) {c = l.opened} {d = m.opened} l.stands m.stands (split-ascends l.holds) (match-ascends m.holds) n j
          (λ w i. match_in_hole l.holds m.holds i)
      match_back (opens_hide_hole r) f t b (match_hide_hole h) =
          let k = match_back r f t b h in record { opened = k.opened; stands = k.stands; holds = match_hide_hole k.holds }
      match_back opens_closed f t b (match_closed h) = none_opened ms (Match L _ t) (match_closed h)
      match_back (opens_seq r) f t b (match_seq {ts = ts} h) =
          let k = items_back r f ts b h in record { opened = k.opened; stands = k.stands; holds = match_seq k.holds }

      -- so is one of items
      pub items_back : {ps os : Items} {ns : List Mark} → OpensItems ps os ns → Fits ms (item_names ps) ns → ItemsBack ps os
      items_back opens_none f ts b match_none = none_opened ms (MatchItems L _ _) match_none
      items_back (opens_one {p = p} {ps = ps} {ms = ns} {ns = ks} u v) f ts e (match_one {t = t} {ts = us} {c = c} {d = d} h k j) =
          let fu = fits-left (names p) (item_names ps) ns ks f in
          let fv = fits-right (names p) (item_names ps) ns ks f in
          let l = match_back u fu t c h in
          let m = items_back v fv us d k in
          let n =
          parts-no_common ms ns ks l.opened m.opened f.distinct (binds_marks-names u fu l.opened (match-names l.holds))
          (binds_marks-items v fv m.opened (items-names m.holds)) in
          join_opened ms (MatchItems L _ _) {c = l.opened} {d = m.opened} l.stands m.stands (match-ascends l.holds) (items-ascends m.holds) n j
          (λ w i. match_one l.holds m.holds i)
      items_back (opens_many {p = p} {o = o} {n = n} {ps = ps} {os = os} {ms = ns} {ns = ks} u v) f ts e
          (match_many {cs = bs} {c = c} {d = d} h g j) =
          let fn = fits-left (with_length_name n (names p)) (item_names ps) ns ks f in
          let fu = fits-length n (names p) fn in
          let fv = fits-right (with_length_name n (names p)) (item_names ps) ns ks f in
          let q = run_back p o ps os (λ t b m. match_back u fu t b m) (λ us b m. items_back v fv us b m) h in
          let w =
          repetition-back ms (names o) (names p) (opened-others u fu) (names-ascend p) q.turns bs q.each (run-maps q.holds) (turn-names q.holds)
          (names-ascend o) (length-no_mark n (names p) fn) g in
          let m =
          parts-no_common ms ns ks w.0 q.behind f.distinct (binds_marks-length n u fn w.0 (repetition-names w.1))
          (binds_marks-items v fv q.behind (run-names q.holds)) in
          join_opened ms (MatchItems L _ ts) {c = w.0} {d = q.behind} w.2 q.stands (repetition-ascends (names-ascend o) w.1) (run-ascends q.holds)
          m j
          (λ b i. match_many q.holds w.1 i)

      -- a split of a pattern is one of the opened pattern
      pub split_back : {p o : Pattern} {ns : List Mark} → Opens p o ns → Fits ms (names p) ns → SplitBack p o
      split_back opens_wild f t C s b h = elim h [ ]
      split_back opens_kind f t C s b h = elim h [ ]
      split_back opens_except f t C s b h = elim h [ ]
      split_back opens_prefix f t C s b h = elim h [ ]
      split_back opens_hole f t C s b split_hole = none_opened ms (Split L _ _ _ _) split_hole
      split_back opens_lit f t C s b h = elim h [ ]
      split_back opens_nt f t C s b (split_nt i h) = none_opened ms (Split L _ t C s) (split_nt i h)
      split_back (opens_named {x = x} {q = q} r) f t C s e (split_named {c = c} h j) =
          let v = one_term C in
          let n = name-no_mark x (names q) f in
          let k = split_back r (fits-inside (names q) (x ∷ []) f) t C s c h in
          join_opened ms (Split L _ t C s) k.stands (stands-name v n) (split-ascends k.holds) (one_name-ascends x v)
          (name-no_common ms k.opened x v n) j (λ w i. split_named k.holds i)
      split_back (opens_differ {x = x} {y = y} {q = q} {ms = ns} r) f t C s e (split_differ {c = c} h j) =
          let g = fits-behind f in
          let v = one_term C in
          let i = f.within (y, x) (here refl) in
          let k = split_back r g t C s c h in
          let n = mark_no_common ms ns k.opened y x v i f.distinct.0 (binds_marks-names r g k.opened (split-names k.holds)) in
          join_opened ms (Split L _ t C s) k.stands (stands-mark different i C) (split-ascends k.holds) (one_name-ascends y v) n j
          (λ w l. split_named k.holds l)
      split_back (opens_in_hole {q = q} {r = r} {ms = ns} {ns = ks} u v) f t C s e (split_in_hole {D = D} {E = E} {u = y} {c = c} {d = d} h k g j) =
          let fu = fits-left (names q) (names r) ns ks f in
          let fv = fits-right (names q) (names r) ns ks f in
          let l = split_back u fu t D y c h in
          let m = split_back v fv y E s d k in
          let n =
          parts-no_common ms ns ks l.opened m.opened f.distinct (binds_marks-names u fu l.opened (split-names l.holds))
          (binds_marks-names v fv m.opened (split-names m.holds)) in
          join_opened ms (Split L _ t C s) {c = l.opened} {d = m.opened} l.stands m.stands (split-ascends l.holds) (split-ascends m.holds) n j
          (λ w i. split_in_hole l.holds m.holds g i)
      split_back (opens_hide_hole r) f t C s b h = elim h [ ]
      split_back opens_closed f t C s b (split_closed h) = none_opened ms (Split L _ t C s) (split_closed h)
      split_back (opens_seq r) f t C s b (split_seq {ts = ts} {k = n} {D = D} h g) =
          let k = split_items_back r f ts n D s b h in record { opened = k.opened; stands = k.stands; holds = split_seq k.holds g }

      -- so is one of items of which one splits
      pub split_items_back : {ps os : Items} {ns : List Mark} → OpensItems ps os ns → Fits ms (item_names ps) ns → SplitItemsBack ps os
      split_items_back opens_none f ts k D s b h = elim h [ ]
      split_items_back (opens_one {p = p} {ps = ps} {ms = ns} {ns = ks} u v) f ts i D s e (split_here {t = t} {ts = us} {c = c} {d = d} h k j) =
          let fu = fits-left (names p) (item_names ps) ns ks f in
          let fv = fits-right (names p) (item_names ps) ns ks f in
          let l = split_back u fu t D s c h in
          let m = items_back v fv us d k in
          let n =
          parts-no_common ms ns ks l.opened m.opened f.distinct (binds_marks-names u fu l.opened (split-names l.holds))
          (binds_marks-items v fv m.opened (items-names m.holds)) in
          join_opened ms (SplitItems L _ _ _ D s) {c = l.opened} {d = m.opened} l.stands m.stands (split-ascends l.holds) (items-ascends m.holds) n j
          (λ w b. split_here l.holds m.holds b)
      split_items_back (opens_one {p = p} {ps = ps} {ms = ns} {ns = ks} u v) f ts i D s e
          (split_behind {t = t} {ts = us} {k = y} {c = c} {d = d} h k j) =
          let fu = fits-left (names p) (item_names ps) ns ks f in
          let fv = fits-right (names p) (item_names ps) ns ks f in
          let l = match_back u fu t c h in
          let m = split_items_back v fv us y D s d k in
          let n =
          parts-no_common ms ns ks l.opened m.opened f.distinct (binds_marks-names u fu l.opened (match-names l.holds))
          (binds_marks-items v fv m.opened (split_items-names m.holds)) in
          join_opened ms (SplitItems L _ _ _ D s) {c = l.opened} {d = m.opened} l.stands m.stands (match-ascends l.holds)
          (split_items-ascends m.holds)
          n j
          (λ w b. split_behind l.holds m.holds b)
      split_items_back (opens_many {p = p} {o = o} {n = n} {ps = ps} {os = os} {ms = ns} {ns = ks} u v) f ts k D s e
          (split_many {cs = bs} {c = c} {d = d} h g j) =
          let fn = fits-left (with_length_name n (names p)) (item_names ps) ns ks f in
          let fu = fits-length n (names p) fn in
          let fv = fits-right (with_length_name n (names p)) (item_names ps) ns ks f in
          let q =
          split_run_back p o ps os (λ t b m. match_back u fu t b m) (λ us b m. items_back v fv us b m)
          (λ t B y b m. split_back u fu t B y b m) (λ us i B y b m. split_items_back v fv us i B y b m) h in
          let w =
          repetition-back ms (names o) (names p) (opened-others u fu) (names-ascend p) q.turns bs q.each (split_run-maps q.holds)
          (split_turn-names q.holds) (names-ascend o) (length-no_mark n (names p) fn) g in
          let m =
          parts-no_common ms ns ks w.0 q.behind f.distinct (binds_marks-length n u fn w.0 (repetition-names w.1))
          (binds_marks-items v fv q.behind (split_run-names q.holds)) in
          join_opened ms (SplitItems L _ ts k D s) {c = w.0} {d = q.behind} w.2 q.stands (repetition-ascends (names-ascend o) w.1)
          (split_run-ascends q.holds)
          m j
          (λ b i. split_many q.holds w.1 i)

-- where a pattern matches, so does the opened pattern
pub matches-opened : (L : Language) {p o : Pattern} {ms : List Mark} → IsOpened p o ms → {t : Tree} {b : Binding} → Match L p t b
    → IsOpenedBy ms b (Match L o t)
matches-opened L {ms = ms} h {t = t} {b = b} k = match_back L ms h.new.distinct h.opens (opened-fits h (λ m i. i) h.new) t b k

-- where it splits a term, so does the opened pattern
pub splits-opened : (L : Language) {p o : Pattern} {ms : List Mark} → IsOpened p o ms → {t C s : Tree} {b : Binding} → Split L p t C s b
    → IsOpenedBy ms b (Split L o t C s)
splits-opened L {ms = ms} h {t = t} {C = C} {s = s} {b = b} k = split_back L ms h.new.distinct h.opens (opened-fits h (λ m i. i) h.new) t C s b k
