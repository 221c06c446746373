-- Where an opened pattern matches, and the terms of its marks differ, the pattern itself matches, and binds what the opened one's binding stands
-- for; and so it is where it splits a term.
use Rattle.std.proofs.Common.{ℕ, List, [], ◌∷◌, refl, subst}
use Rattle.rdx_term.specs.Tree.{Tree, Trees}
use Rattle.rdx_lang.specs.Bindings.{Value, Binding, no_names, one_name}
use Rattle.rdx_lang.specs.Bindings.{one as one_term}
use Rattle.rdx_lang.specs.Join.{IsJoin}
use Rattle.rdx_lang.specs.Members.{In, here}
use Rattle.rdx_lang.specs.Names.{with_length_name, names, item_names}
use Rattle.rdx_lang.specs.Patterns.{Pattern, Items, Language}
use Rattle.rdx_lang.specs.Rules.{Match, MatchItems, MatchRun, match_wild, match_kind, match_except, match_prefix, match_hole, match_lit, match_nt, match_named, match_differ, match_in_hole, match_hide_hole, match_closed, match_seq, match_none, match_one, match_many, run_end, run_more}
use Rattle.rdx_lang.specs.Rules.{Split, SplitItems, SplitRun, split_hole, split_nt, split_named, split_differ, split_in_hole, split_closed, split_seq, split_here, split_behind, split_many, run_here, run_there, run_behind}
use Rattle.rdx_lang.proofs.CollectionLaws.{repetition-names}
use Rattle.rdx_lang.proofs.NameLaws.{names-ascend, match-names, items-names, run-names, run-maps, turn-names, split-names, split_items-names, split_run-names, split_run-maps, split_turn-names}
use Rattle.rdx_opened.specs.Opening.{Mark, mark_names, Opens, OpensItems, opens_wild, opens_kind, opens_except, opens_prefix, opens_hole, opens_lit, opens_nt, opens_named, opens_differ, opens_in_hole, opens_hide_hole, opens_closed, opens_seq, opens_none, opens_one, opens_many, AreDistinct, AreNew, IsOpened, IsApart, Stands, HasStanding}
use Rattle.rdx_opened.proofs.Leaves.{mark-named}
use Rattle.rdx_opened.proofs.OpenedNames.{Fits, fits-left, fits-right, fits-behind, fits-inside, fits-length, BindsMarks, binds_marks-names, binds_marks-items, binds_marks-length, parts-no_common, opened-others, length-no_mark, name-no_mark, opened-fits}
use Rattle.rdx_opened.proofs.Standing.{HaveNoCommonMark, name-no_common, new-no_common, stands-one, stands-part, stands-none, stands-name, stands-mark, stands-join}
use Rattle.rdx_opened.proofs.StandingTurns.{AreTurnsApart, first_apart, later_apart, StandEach, each_none, each_more, repetition-forth, repetition-turns_apart}

-- ---- joins

module _ (ms : List Mark) (R : Binding → Type 0) where
  -- where a join holds for the join of what two bindings stand for
  join_standing : {c d e a b : Binding} → Stands ms c a → Stands ms d b → HaveNoCommonMark ms c d → IsJoin c d e → IsApart ms e
      → ((w : Binding) → IsJoin a b w → R w) → HasStanding ms e R
  join_standing s r n j f g = let k = stands-join s r n j f in record { whole = k.0; stands = k.2; holds = g k.0 k.1 }

  -- a binding of no name stands for itself
  none_standing : R no_names → HasStanding ms no_names R
  none_standing r = record { whole = no_names; stands = stands-none; holds = r }

-- one mark more, of a pattern with the marks ns, and with names of which the mark is none
pub mark_no_common : (ms ns : List Mark) (c : Binding) (y x : List ℕ) (v : Value) → In (y, x) ms → (In y (mark_names ns) → ⊥) → BindsMarks ms ns c
    → HaveNoCommonMark ms c (one_name y v)
mark_no_common ms ns c y x v i n f = new-no_common ms c y v (λ k. n (f y (mark-named ms i) k))

-- what the opened pattern binds in the turns of a run and behind it stands for what the pattern binds there
pub record RunStanding (ms : List Mark) (cs : List Binding) (d : Binding) (R : List Binding → Binding → Type 0) : Type 0 where
  pub turns : List Binding
  pub behind : Binding
  pub each : StandEach ms cs turns
  pub stands : Stands ms d behind
  pub holds : R turns behind

module _ (L : Language) (ms : List Mark) where
  -- whatever the opened pattern o matches p matches, where the terms differ
  abbrev pub MatchForth : Pattern → Pattern → Type 0
  MatchForth p o = (t : Tree) (c : Binding) → Match L o t c → IsApart ms c → HasStanding ms c (Match L p t)

  -- so for items
  abbrev pub ItemsForth : Items → Items → Type 0
  ItemsForth ps os = (ts : Trees) (c : Binding) → MatchItems L os ts c → IsApart ms c → HasStanding ms c (MatchItems L ps ts)

  -- so for splits
  abbrev pub SplitForth : Pattern → Pattern → Type 0
  SplitForth p o = (t C s : Tree) (c : Binding) → Split L o t C s c → IsApart ms c → HasStanding ms c (Split L p t C s)

  -- so for items of which one splits
  abbrev pub SplitItemsForth : Items → Items → Type 0
  SplitItemsForth ps os =
      (ts : Trees) (k : ℕ) (D s : Tree) (c : Binding) → SplitItems L os ts k D s c → IsApart ms c → HasStanding ms c (SplitItems L ps ts k D s)

  -- ---- runs

  module _ (p o : Pattern) (ps os : Items) (f : MatchForth p o) (g : ItemsForth ps os) where
    -- a run, turn by turn
    pub run_forth : {ts : Trees} {cs : List Binding} {d : Binding} → MatchRun L o os ts cs d → AreTurnsApart ms cs → IsApart ms d
        → RunStanding ms cs d (MatchRun L p ps ts)
    run_forth (run_end {ts = ts} {d = d} h) a b =
        let k = g ts d h b in record { turns = []; behind = k.whole; each = each_none; stands = k.stands; holds = run_end k.holds }
    run_forth (run_more {t = t} {c = c} {cs = cs} h r) a b =
        let k = f t c h (first_apart ms c cs a) in
        let q = run_forth r (later_apart ms c cs a) b in
        record {
          turns = k.whole ∷ q.turns;
          behind = q.behind;
          each = each_more k.stands q.each;
          stands = q.stands;
          holds = run_more k.holds q.holds;
        }

    -- a run in which one term is split
    pub split_run_forth : SplitForth p o → SplitItemsForth ps os → {ts : Trees} {k : ℕ} {D s : Tree} {cs : List Binding} {d : Binding}
        → SplitRun L o os ts k D s cs d → AreTurnsApart ms cs → IsApart ms d → RunStanding ms cs d (SplitRun L p ps ts k D s)
    split_run_forth f' g' (run_here {t = t} {D = D} {s = s} {c = c} {cs = cs} h r) a b =
        let k = f' t D s c h (first_apart ms c cs a) in
        let q = run_forth r (later_apart ms c cs a) b in
        record {
          turns = k.whole ∷ q.turns;
          behind = q.behind;
          each = each_more k.stands q.each;
          stands = q.stands;
          holds = run_here k.holds q.holds;
        }
    split_run_forth f' g' (run_there {t = t} {c = c} {cs = cs} h r) a b =
        let k = f t c h (first_apart ms c cs a) in
        let q = split_run_forth f' g' r (later_apart ms c cs a) b in
        record {
          turns = k.whole ∷ q.turns;
          behind = q.behind;
          each = each_more k.stands q.each;
          stands = q.stands;
          holds = run_there k.holds q.holds;
        }
    split_run_forth f' g' (run_behind {ts = ts} {k = n} {D = D} {s = s} {d = d} h) a b =
        let k = g' ts n D s d h b in record { turns = []; behind = k.whole; each = each_none; stands = k.stands; holds = run_behind k.holds }

  -- ---- patterns

  module _ (different : AreDistinct (mark_names ms)) where
    mutual
      -- a match of an opened pattern is one of the pattern
      pub match_forth : {p o : Pattern} {ns : List Mark} → Opens p o ns → Fits ms (names p) ns → MatchForth p o
      match_forth opens_wild f t c match_wild a = none_standing ms (Match L _ t) match_wild
      match_forth opens_kind f t c (match_kind h) a = none_standing ms (Match L _ t) (match_kind h)
      match_forth opens_except f t c (match_except h) a = none_standing ms (Match L _ _) (match_except h)
      match_forth opens_prefix f t c (match_prefix h) a = none_standing ms (Match L _ _) (match_prefix h)
      match_forth opens_hole f t c match_hole a = none_standing ms (Match L _ _) match_hole
      match_forth opens_lit f t c (match_lit h) a = none_standing ms (Match L _ t) (match_lit h)
      match_forth opens_nt f t c (match_nt i h) a = none_standing ms (Match L _ t) (match_nt i h)
      match_forth (opens_named {x = x} {q = q} r) f t e (match_named {c = c} h j) a =
          let n = name-no_mark x (names q) f in
          let k = match_forth r (fits-inside (names q) (x ∷ []) f) t c h (stands-part j.pairs.left a) in
          join_standing ms (Match L _ t) k.stands (stands-name (one_term t) n) (name-no_common ms c x (one_term t) n) j a
          (λ w i. match_named k.holds i)
      match_forth (opens_differ {x = x} {y = y} {q = q} {ms = ns} r) f t e (match_named {c = c} h j) a =
          let g = fits-behind f in
          let i = f.within (y, x) (here refl) in
          let k = match_forth r g t c h (stands-part j.pairs.left a) in
          let n = mark_no_common ms ns c y x (one_term t) i f.distinct.0 (binds_marks-names r g c (match-names h)) in
          join_standing ms (Match L _ t) k.stands (stands-mark different i t) n j a (λ w l. match_differ k.holds l)
      match_forth (opens_in_hole {q = q} {r = r} {ms = ns} {ns = ks} u v) f t e (match_in_hole {C = C} {u = s} {c = c} {d = d} h k j) a =
          let fu = fits-left (names q) (names r) ns ks f in
          let fv = fits-right (names q) (names r) ns ks f in
          let l = split_forth u fu t C s c h (stands-part j.pairs.left a) in
          let m = match_forth v fv s d k (stands-part j.pairs.right a) in
          let n = parts-no_common ms ns ks c d f.distinct (binds_marks-names u fu c (split-names h)) (binds_marks-names v fv d (match-names k)) in
          join_standing ms (Match L _ t) {a = l.whole} {b = m.whole} l.stands m.stands n j a (λ w i. match_in_hole l.holds m.holds i)
      match_forth (opens_hide_hole r) f t c (match_hide_hole h) a =
          let k = match_forth r f t c h a in record { whole = k.whole; stands = k.stands; holds = match_hide_hole k.holds }
      match_forth opens_closed f t c (match_closed h) a = none_standing ms (Match L _ t) (match_closed h)
      match_forth (opens_seq r) f t c (match_seq {ts = ts} h) a =
          let k = items_forth r f ts c h a in record { whole = k.whole; stands = k.stands; holds = match_seq k.holds }

      -- so is one of items
      pub items_forth : {ps os : Items} {ns : List Mark} → OpensItems ps os ns → Fits ms (item_names ps) ns → ItemsForth ps os
      items_forth opens_none f ts c match_none a = none_standing ms (MatchItems L _ _) match_none
      items_forth (opens_one {p = p} {ps = ps} {ms = ns} {ns = ks} u v) f ts e (match_one {t = t} {ts = us} {c = c} {d = d} h k j) a =
          let fu = fits-left (names p) (item_names ps) ns ks f in
          let fv = fits-right (names p) (item_names ps) ns ks f in
          let l = match_forth u fu t c h (stands-part j.pairs.left a) in
          let m = items_forth v fv us d k (stands-part j.pairs.right a) in
          let n = parts-no_common ms ns ks c d f.distinct (binds_marks-names u fu c (match-names h)) (binds_marks-items v fv d (items-names k)) in
          join_standing ms (MatchItems L _ _) {a = l.whole} {b = m.whole} l.stands m.stands n j a (λ w i. match_one l.holds m.holds i)
      items_forth (opens_many {p = p} {o = o} {n = n} {ps = ps} {os = os} {ms = ns} {ns = ks} u v) f ts e
          (match_many {cs = cs} {c = c} {d = d} h g j) a =
          let fn = fits-left (with_length_name n (names p)) (item_names ps) ns ks f in
          let fu = fits-length n (names p) fn in
          let fv = fits-right (with_length_name n (names p)) (item_names ps) ns ks f in
          let q =
          run_forth p o ps os (λ t b m. match_forth u fu t b m) (λ us b m. items_forth v fv us b m) h
          (repetition-turns_apart ms (names o) cs (run-maps h) (turn-names h) g (stands-part j.pairs.left a)) (stands-part j.pairs.right a) in
          let w =
          repetition-forth ms (names o) (names p) (opened-others u fu) (names-ascend p) cs q.turns q.each (run-maps h) (turn-names h)
          (length-no_mark n (names p) fn) g (stands-part j.pairs.left a) in
          let m =
          parts-no_common ms ns ks c d f.distinct (binds_marks-length n u fn c (repetition-names g)) (binds_marks-items v fv d (run-names h)) in
          join_standing ms (MatchItems L _ ts) {a = w.0} {b = q.behind} w.2 q.stands m j a (λ b i. match_many q.holds w.1 i)

      -- a split of an opened pattern is one of the pattern
      pub split_forth : {p o : Pattern} {ns : List Mark} → Opens p o ns → Fits ms (names p) ns → SplitForth p o
      split_forth opens_wild f t C s c h a = elim h [ ]
      split_forth opens_kind f t C s c h a = elim h [ ]
      split_forth opens_except f t C s c h a = elim h [ ]
      split_forth opens_prefix f t C s c h a = elim h [ ]
      split_forth opens_hole f t C s c split_hole a = none_standing ms (Split L _ _ _ _) split_hole
      split_forth opens_lit f t C s c h a = elim h [ ]
      split_forth opens_nt f t C s c (split_nt i h) a = none_standing ms (Split L _ t C s) (split_nt i h)
      split_forth (opens_named {x = x} {q = q} r) f t C s e (split_named {c = c} h j) a =
          let n = name-no_mark x (names q) f in
          let k = split_forth r (fits-inside (names q) (x ∷ []) f) t C s c h (stands-part j.pairs.left a) in
          join_standing ms (Split L _ t C s) k.stands (stands-name (one_term C) n) (name-no_common ms c x (one_term C) n) j a
          (λ w i. split_named k.holds i)
      split_forth (opens_differ {x = x} {y = y} {q = q} {ms = ns} r) f t C s e (split_named {c = c} h j) a =
          let g = fits-behind f in
          let i = f.within (y, x) (here refl) in
          let k = split_forth r g t C s c h (stands-part j.pairs.left a) in
          let n = mark_no_common ms ns c y x (one_term C) i f.distinct.0 (binds_marks-names r g c (split-names h)) in
          join_standing ms (Split L _ t C s) k.stands (stands-mark different i C) n j a (λ w l. split_differ k.holds l)
      split_forth (opens_in_hole {q = q} {r = r} {ms = ns} {ns = ks} u v) f t C s e
          (split_in_hole {D = D} {E = E} {u = y} {c = c} {d = d} h k g j) a =
          let fu = fits-left (names q) (names r) ns ks f in
          let fv = fits-right (names q) (names r) ns ks f in
          let l = split_forth u fu t D y c h (stands-part j.pairs.left a) in
          let m = split_forth v fv y E s d k (stands-part j.pairs.right a) in
          let n = parts-no_common ms ns ks c d f.distinct (binds_marks-names u fu c (split-names h)) (binds_marks-names v fv d (split-names k)) in
          join_standing ms (Split L _ t C s) {a = l.whole} {b = m.whole} l.stands m.stands n j a (λ w i. split_in_hole l.holds m.holds g i)
      split_forth (opens_hide_hole r) f t C s c h a = elim h [ ]
      split_forth opens_closed f t C s c (split_closed h) a = none_standing ms (Split L _ t C s) (split_closed h)
      split_forth (opens_seq r) f t C s c (split_seq {ts = ts} {k = n} {D = D} h g) a =
          let k = split_items_forth r f ts n D s c h a in record { whole = k.whole; stands = k.stands; holds = split_seq k.holds g }

      -- so is one of items of which one splits
      pub split_items_forth : {ps os : Items} {ns : List Mark} → OpensItems ps os ns → Fits ms (item_names ps) ns → SplitItemsForth ps os
      split_items_forth opens_none f ts k D s c h a = elim h [ ]
      split_items_forth (opens_one {p = p} {ps = ps} {ms = ns} {ns = ks} u v) f ts i D s e (split_here {t = t} {ts = us} {c = c} {d = d} h k j) a =
          let fu = fits-left (names p) (item_names ps) ns ks f in
          let fv = fits-right (names p) (item_names ps) ns ks f in
          let l = split_forth u fu t D s c h (stands-part j.pairs.left a) in
          let m = items_forth v fv us d k (stands-part j.pairs.right a) in
          let n = parts-no_common ms ns ks c d f.distinct (binds_marks-names u fu c (split-names h)) (binds_marks-items v fv d (items-names k)) in
          join_standing ms (SplitItems L _ _ _ D s) {a = l.whole} {b = m.whole} l.stands m.stands n j a (λ w b. split_here l.holds m.holds b)
      split_items_forth (opens_one {p = p} {ps = ps} {ms = ns} {ns = ks} u v) f ts i D s e
          (split_behind {t = t} {ts = us} {k = y} {c = c} {d = d} h k j) a =
          let fu = fits-left (names p) (item_names ps) ns ks f in
          let fv = fits-right (names p) (item_names ps) ns ks f in
          let l = match_forth u fu t c h (stands-part j.pairs.left a) in
          let m = split_items_forth v fv us y D s d k (stands-part j.pairs.right a) in
          let n =
          parts-no_common ms ns ks c d f.distinct (binds_marks-names u fu c (match-names h)) (binds_marks-items v fv d (split_items-names k)) in
          join_standing ms (SplitItems L _ _ _ D s) {a = l.whole} {b = m.whole} l.stands m.stands n j a (λ w b. split_behind l.holds m.holds b)
      split_items_forth (opens_many {p = p} {o = o} {n = n} {ps = ps} {os = os} {ms = ns} {ns = ks} u v) f ts k D s e
          (split_many {cs = cs} {c = c} {d = d} h g j) a =
          let fn = fits-left (with_length_name n (names p)) (item_names ps) ns ks f in
          let fu = fits-length n (names p) fn in
          let fv = fits-right (with_length_name n (names p)) (item_names ps) ns ks f in
          let q =
          split_run_forth p o ps os (λ t b m. match_forth u fu t b m) (λ us b m. items_forth v fv us b m)
          (λ t B y b m. split_forth u fu t B y b m) (λ us i B y b m. split_items_forth v fv us i B y b m) h
          (repetition-turns_apart ms (names o) cs (split_run-maps h) (split_turn-names h) g (stands-part j.pairs.left a))
          (stands-part j.pairs.right a) in
          let w =
          repetition-forth ms (names o) (names p) (opened-others u fu) (names-ascend p) cs q.turns q.each (split_run-maps h) (split_turn-names h)
          (length-no_mark n (names p) fn) g (stands-part j.pairs.left a) in
          let m =
          parts-no_common ms ns ks c d f.distinct (binds_marks-length n u fn c (repetition-names g))
          (binds_marks-items v fv d (split_run-names h)) in
          join_standing ms (SplitItems L _ ts k D s) {a = w.0} {b = q.behind} w.2 q.stands m j a (λ b i. split_many q.holds w.1 i)

-- where an opened pattern matches, and the terms of its marks differ, so does the pattern
pub opened-matches : (L : Language) {p o : Pattern} {ms ns : List Mark} → IsOpened p o ns → ((m : Mark) → In m ns → In m ms) → AreNew (names p) ms
    → {t : Tree} {c : Binding} → Match L o t c → IsApart ms c → HasStanding ms c (Match L p t)
opened-matches L {ms = ms} h f n {t = t} {c = c} k a = match_forth L ms n.distinct h.opens (opened-fits h f n) t c k a

-- where it splits a term, and they differ, so does the pattern
pub opened-splits : (L : Language) {p o : Pattern} {ms ns : List Mark} → IsOpened p o ns → ((m : Mark) → In m ns → In m ms) → AreNew (names p) ms
    → {t C s : Tree} {c : Binding} → Split L o t C s c → IsApart ms c → HasStanding ms c (Split L p t C s)
opened-splits L {ms = ms} h f n {t = t} {C = C} {s = s} {c = c} k a = split_forth L ms n.distinct h.opens (opened-fits h f n) t C s c k a

-- so the pattern binds what a binding of the opened one stands for
pub stands-match : (L : Language) {p o : Pattern} {ms : List Mark} → IsOpened p o ms → {t : Tree} {c b : Binding} → Match L o t c → Stands ms c b
    → Match L p t b
stands-match L {p = p} h {t = t} k s =
    let w = opened-matches L h (λ m i. i) h.new k s.apart in subst (λ (d : Binding). Match L p t d) (stands-one w.stands s) w.holds

-- and so it is where it splits a term
pub stands-split : (L : Language) {p o : Pattern} {ms : List Mark} → IsOpened p o ms → {t C u : Tree} {c b : Binding} → Split L o t C u c
    → Stands ms c b
    → Split L p t C u b
stands-split L {p = p} h {t = t} {C = C} {u = u} k s =
    let w = opened-splits L h (λ m i. i) h.new k s.apart in subst (λ (d : Binding). Split L p t C u d) (stands-one w.stands s) w.holds
