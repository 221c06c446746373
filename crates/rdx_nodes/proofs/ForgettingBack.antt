-- Where a pattern matches without names that stand once in it, it matches with them, and so it splits: what it binds is what was bound
-- before, and the names.
use Rattle.std.proofs.Common.{◌≡◌, ◌++◌, ℕ, List, [], ◌∷◌, map, Option, Some, None, refl, sym, ◌∙◌, ap, subst}
use Rattle.rdx_term.specs.Tree.{Tree, Trees}
use Rattle.rdx_lang.specs.Bindings.{Value, Binding, no_names, one_name, one_differs, bound_names, HasAscendingNames}
use Rattle.rdx_lang.specs.Bindings.{one as one_term}
use Rattle.rdx_lang.specs.Collections.{IsRepetition}
use Rattle.rdx_lang.specs.Join.{IsJoin}
use Rattle.rdx_lang.specs.Members.{In, here}
use Rattle.rdx_lang.specs.Names.{names, item_names}
use Rattle.rdx_lang.specs.Patterns.{Pattern, Items, many, Language}
use Rattle.rdx_lang.specs.Rules.{Match, MatchItems, MatchRun, match_wild, match_kind, match_except, match_prefix, match_hole, match_lit, match_nt, match_named, match_differ, match_in_hole, match_hide_hole, match_closed, match_seq, match_none, match_one, match_many, run_end, run_more}
use Rattle.rdx_lang.specs.Rules.{Split, SplitItems, SplitRun, split_hole, split_nt, split_named, split_differ, split_in_hole, split_closed, split_seq, split_here, split_behind, split_many, run_here, run_there, run_behind}
use Rattle.rdx_lang.proofs.CollectionLaws.{AreMaps, BindNames, repetition-ascends, repetition-names}
use Rattle.rdx_lang.proofs.JoinLaws.{unit_right, one_name-ascends, one_differs-ascends}
use Rattle.rdx_lang.proofs.NameLaws.{names-ascend, match-ascends, match-names, items-ascends, items-names, split-ascends, split-names, split_items-ascends, split_items-names, run-maps, run-ascends, run-names, split_run-maps, split_run-ascends, split_run-names, turn-names, split_turn-names}
use Rattle.rdx_bind.proofs.NoSets.{match-plain, split-plain, nothing_bound}
use Rattle.rdx_nodes.specs.Inside.Forgetting.{length_names, binders, item_binders, AreOnce, StandOnce, without_names, ForgetsLength, Forgets, ForgetsItems, forgets_wild, forgets_kind, forgets_except, forgets_prefix, forgets_hole, forgets_lit, forgets_nt, forgets_named, keeps_named, forgets_differ, forgets_in_hole, forgets_hide_hole, forgets_closed, forgets_open, forgets_seq, forgets_nil, forgets_one, forgets_many}
use Rattle.rdx_nodes.proofs.ForgettingBindings.{without-one, without-other, join-back}
use Rattle.rdx_nodes.proofs.ForgettingNames.{names-without, name-bound, item_name-bound, repetition-bound, once-left, once-right, once-apart}
use Rattle.rdx_nodes.proofs.ForgettingRepetitions.{repetition-back}

-- ---- parts

-- a finite map whose names are all among ys, and which is c without the names xs
record Part (xs ys : List (List ℕ)) (c : Binding) : Type 0 where
  whole : Binding
  ascends : HasAscendingNames whole
  among : (z : List ℕ) → In z (bound_names whole) → In z ys
  same : without_names xs whole ≡ c

-- one that binds the names of a pattern
abbrev pattern_part : {xs : List (List ℕ)} (p : Pattern) (b : Binding) {c : Binding} → HasAscendingNames b → bound_names b ≡ names p
    → without_names xs b ≡ c → Part xs (binders p) c
pattern_part p b a e f = record {
  whole = b;
  ascends = a;
  among = λ z h. name-bound p z (subst (λ (ws : List (List ℕ)). In z ws) e h);
  same = f;
}

-- one that binds the names of items
abbrev items_part : {xs : List (List ℕ)} (ps : Items) (b : Binding) {c : Binding} → HasAscendingNames b → bound_names b ≡ item_names ps
    → without_names xs b ≡ c → Part xs (item_binders ps) c
items_part ps b a e f = record {
  whole = b;
  ascends = a;
  among = λ z h. item_name-bound ps z (subst (λ (ws : List (List ℕ)). In z ws) e h);
  same = f;
}

-- what a repetition binds
abbrev repetition_part : {xs : List (List ℕ)} (p : Pattern) (n : Option (List ℕ)) {cs : List Binding} {b c : Binding} →
    IsRepetition (names p) cs n b → without_names xs b ≡ c → Part xs (binders p ++ length_names n) c
repetition_part p n {b = b} r f = record {
  whole = b;
  ascends = repetition-ascends (names-ascend p) r;
  among = λ z h. repetition-bound n (names p) (binders p) z (names-ascend p) (name-bound p z)
      (subst (λ (ws : List (List ℕ)). In z ws) (repetition-names r) h);
  same = f;
}

-- a join that is e without names
abbrev JoinBack : List (List ℕ) → Binding → Binding → Binding → Type 0
JoinBack xs a b e = (r : Binding) × IsJoin a b r × (without_names xs r ≡ e)

module _ {xs : List (List ℕ)} where
  -- two parts that share none of the names
  parts_back : {ys zs : List (List ℕ)} {c d e : Binding} → AreOnce xs (ys ++ zs) → (a : Part xs ys c) (b : Part xs zs d) → IsJoin c d e
      → JoinBack xs a.whole b.whole e
  parts_back {ys = ys} {zs = zs} {c = c} {d = d} {e = e} o a b j =
      join-back xs a.whole b.whole c d e a.ascends b.ascends (λ x i l m. once-apart xs ys zs o x i (a.among x l) (b.among x m)) a.same b.same j

  -- a part and a name
  name_back : {ys : List (List ℕ)} {x : List ℕ} {v : Value} {c d e : Binding} → AreOnce xs (x ∷ ys) → (a : Part xs ys c)
      → without_names xs (one_name x v) ≡ d → IsJoin c d e → JoinBack xs a.whole (one_name x v) e
  name_back {ys = ys} {x = x} {v = v} {c = c} {d = d} {e = e} o a f j =
      join-back xs a.whole (one_name x v) c d e a.ascends (one_name-ascends x v) (λ y i l m. once-apart xs (x ∷ []) ys o y i m (a.among y l)) a.same f j

  -- a part and a mismatch name
  differ_back : {ys : List (List ℕ)} {x : List ℕ} {t : Tree} {c e : Binding} (a : Part xs ys c) → IsJoin c (one_differs x t) e
      → JoinBack xs a.whole (one_differs x t) e
  differ_back {x = x} {t = t} {c = c} {e = e} a j =
      join-back xs a.whole (one_differs x t) c (one_differs x t) e a.ascends (one_differs-ascends x t) (λ y i l m. elim m [ ]) a.same refl j

  -- the names of a repetition's pattern, and its length name
  length_apart : (p : Pattern) (n : Option (List ℕ)) → AreOnce xs (binders p ++ length_names n)
      → (x : List ℕ) → n ≡ Some x → In x xs → In x (names p) → ⊥
  length_apart p None o x e i h = absurd cc
  length_apart p (Some y) o x e i h = once-apart xs (binders p) (y ∷ []) o x i (name-bound p x h) (here same)
    where
      same : x ≡ y
      same = cc

-- the names of a repetition's pattern and its length name are once, where all are
turn_once : (xs : List (List ℕ)) (p : Pattern) (n : Option (List ℕ)) (ps : Items) → AreOnce xs (item_binders (many p n ps))
    → AreOnce xs (binders p ++ length_names n)
turn_once xs p n ps o = once-left xs (binders p ++ length_names n) (item_binders ps) o

module _ (L : Language) where
  -- whatever the pattern without names matches, the pattern matches, and binds the names besides
  abbrev pub MatchBack : List (List ℕ) → Pattern → Pattern → Type 0
  MatchBack xs p q = (t : Tree) (c : Binding) → Match L q t c → (b : Binding) × Match L p t b × (without_names xs b ≡ c)

  -- so for items
  abbrev pub ItemsBack : List (List ℕ) → Items → Items → Type 0
  ItemsBack xs ps qs = (ts : Trees) (c : Binding) → MatchItems L qs ts c → (b : Binding) × MatchItems L ps ts b × (without_names xs b ≡ c)

  -- so for splits
  abbrev pub SplitBack : List (List ℕ) → Pattern → Pattern → Type 0
  SplitBack xs p q = (t C s : Tree) (c : Binding) → Split L q t C s c → (b : Binding) × Split L p t C s b × (without_names xs b ≡ c)

  -- so for items of which one splits
  abbrev pub SplitItemsBack : List (List ℕ) → Items → Items → Type 0
  SplitItemsBack xs ps qs = (ts : Trees) (k : ℕ) (D s : Tree) (c : Binding) → SplitItems L qs ts k D s c
      → (b : Binding) × SplitItems L ps ts k D s b × (without_names xs b ≡ c)

  -- ---- runs

  -- a run whose turns and what is behind them bind this without names
  record RunBack (xs : List (List ℕ)) (p : Pattern) (ps : Items) (ts : Trees) (cs : List Binding) (d : Binding) : Type 0 where
    turns : List Binding
    rest : Binding
    run : MatchRun L p ps ts turns rest
    same_turns : map (without_names xs) turns ≡ cs
    same_rest : without_names xs rest ≡ d

  -- so for a run in which one term is split
  record SplitRunBack (xs : List (List ℕ)) (p : Pattern) (ps : Items) (ts : Trees) (k : ℕ) (D s : Tree) (cs : List Binding) (d : Binding) : Type 0 where
    turns : List Binding
    rest : Binding
    run : SplitRun L p ps ts k D s turns rest
    same_turns : map (without_names xs) turns ≡ cs
    same_rest : without_names xs rest ≡ d

  module _ (xs : List (List ℕ)) (p q : Pattern) (ps qs : Items) (f : MatchBack xs p q) (g : ItemsBack xs ps qs) where
    -- there is one for each run of the pattern without names
    run_back : {ts : Trees} {cs : List Binding} {d : Binding} → MatchRun L q qs ts cs d → RunBack xs p ps ts cs d
    run_back (run_end {ts = ts} {d = d} h) =
        let k = g ts d h in record { turns = []; rest = k.0; run = run_end k.1; same_turns = refl; same_rest = k.2 }
    run_back (run_more {t = t} {c = c} h r) =
        let k = f t c h in let m = run_back r in
        record {
          turns = k.0 ∷ m.turns;
          rest = m.rest;
          run = run_more k.1 m.run;
          same_turns = λ i. k.2 i ∷ m.same_turns i;
          same_rest = m.same_rest;
        }

    -- so for those in which one term is split
    split_run_back : SplitBack xs p q → SplitItemsBack xs ps qs → {ts : Trees} {k : ℕ} {D s : Tree} {cs : List Binding} {d : Binding}
        → SplitRun L q qs ts k D s cs d → SplitRunBack xs p ps ts k D s cs d
    split_run_back f' g' (run_here {t = t} {D = D} {s = s} {c = c} h r) =
        let k = f' t D s c h in let m = run_back r in
        record {
          turns = k.0 ∷ m.turns;
          rest = m.rest;
          run = run_here k.1 m.run;
          same_turns = λ i. k.2 i ∷ m.same_turns i;
          same_rest = m.same_rest;
        }
    split_run_back f' g' (run_there {t = t} {c = c} h r) =
        let k = f t c h in let m = split_run_back f' g' r in
        record {
          turns = k.0 ∷ m.turns;
          rest = m.rest;
          run = run_there k.1 m.run;
          same_turns = λ i. k.2 i ∷ m.same_turns i;
          same_rest = m.same_rest;
        }
    split_run_back f' g' (run_behind {ts = ts} {k = n} {D = D} {s = s} {d = d} h) =
        let k = g' ts n D s d h in record { turns = []; rest = k.0; run = run_behind k.1; same_turns = refl; same_rest = k.2 }

  -- ---- repetitions

  -- what a repetition with these turns binds, joined with what is behind it, is e without names
  record ManyBack (xs : List (List ℕ)) (p : Pattern) (n : Option (List ℕ)) (turns : List Binding) (rest e : Binding) : Type 0 where
    first : Binding
    all : Binding
    repeats : IsRepetition (names p) turns n first
    joined : IsJoin first rest all
    same : without_names xs all ≡ e

  module _ {xs : List (List ℕ)} {p q : Pattern} {n m : Option (List ℕ)} (ps : Items) (f : Forgets xs p q) (l : ForgetsLength xs n m)
      (o : AreOnce xs (item_binders (many p n ps))) where
    -- there is something where it is so without names
    many_back : {turns cs : List Binding} {c d e : Binding} → AreMaps turns → BindNames (names p) turns → map (without_names xs) turns ≡ cs
        → (rest : Part xs (item_binders ps) d) → IsRepetition (names q) cs m c → IsJoin c d e → ManyBack xs p n turns rest.whole e
    many_back {turns = turns} {c = c} maps bind same rest r j =
        let s : IsRepetition (names q) (map (without_names xs) turns) m c =
        subst (λ (cs : List Binding). IsRepetition (names q) cs m c) (sym same) r in
        let k = repetition-back xs (names p) (names q) (names-ascend p) (names-without f) turns maps bind (length_apart p n (turn_once xs p n ps o)) l s in
        let b = parts_back o (repetition_part p n k.1 k.2) rest j in
        record { first = k.0; all = b.0; repeats = k.1; joined = b.1; same = b.2 }

    -- so the items match
    repetition_matches : {ts : Trees} {cs : List Binding} {c d e : Binding} → RunBack xs p ps ts cs d → IsRepetition (names q) cs m c → IsJoin c d e
        → (b : Binding) × MatchItems L (many p n ps) ts b × (without_names xs b ≡ e)
    repetition_matches k h j =
        let rest = items_part ps k.rest (run-ascends k.run) (run-names k.run) k.same_rest in
        let b = many_back (run-maps k.run) (turn-names k.run) k.same_turns rest h j in
        (b.all, match_many {c = b.first} k.run b.repeats b.joined, b.same)

    -- so one of them splits
    repetition_splits : {ts : Trees} {k : ℕ} {D s : Tree} {cs : List Binding} {c d e : Binding} → SplitRunBack xs p ps ts k D s cs d
        → IsRepetition (names q) cs m c → IsJoin c d e → (b : Binding) × SplitItems L (many p n ps) ts k D s b × (without_names xs b ≡ e)
    repetition_splits k h j =
        let rest = items_part ps k.rest (split_run-ascends k.run) (split_run-names k.run) k.same_rest in
        let b = many_back (split_run-maps k.run) (split_turn-names k.run) k.same_turns rest h j in
        (b.all, split_many {c = b.first} k.run b.repeats b.joined, b.same)

  -- ---- patterns

  -- a match as a part
  abbrev match_part : {xs : List (List ℕ)} {t : Tree} {b c : Binding} (p : Pattern) → Match L p t b → without_names xs b ≡ c → Part xs (binders p) c
  match_part {b = b} p h e = pattern_part p b (match-ascends h) (match-names h) e

  -- a split as a part
  abbrev split_part : {xs : List (List ℕ)} {t C s : Tree} {b c : Binding} (p : Pattern) → Split L p t C s b → without_names xs b ≡ c
      → Part xs (binders p) c
  split_part {b = b} p h e = pattern_part p b (split-ascends h) (split-names h) e

  mutual
    -- a match of a pattern without names that stand once in it comes of one of the pattern
    pub match_back : {xs : List (List ℕ)} {p q : Pattern} → Forgets xs p q → StandOnce xs p → MatchBack xs p q
    match_back forgets_wild o t c match_wild = (no_names, match_wild, refl)
    match_back forgets_kind o t c (match_kind h) = (no_names, match_kind h, refl)
    match_back forgets_except o t c (match_except h) = (no_names, match_except h, refl)
    match_back forgets_prefix o t c (match_prefix h) = (no_names, match_prefix h, refl)
    match_back forgets_hole o t c match_hole = (no_names, match_hole, refl)
    match_back forgets_lit o t c (match_lit h) = (no_names, match_lit h, refl)
    match_back forgets_nt o t c (match_nt a h) = (no_names, match_nt a h, refl)
    match_back {xs = xs} (forgets_named {x = x} {p = p} i f) o t c h =
        let k = match_back f (once-right xs (x ∷ []) (binders p) o) t c h in
        let b = name_back o (match_part p k.1 k.2) (without-one xs x (one_term t) i) (unit_right c (match-ascends h)) in
        (b.0, match_named k.1 b.1, b.2)
    match_back {xs = xs} (keeps_named {x = x} {p = p} i f) o t e (match_named {c = c} h j) =
        let k = match_back f (once-right xs (x ∷ []) (binders p) o) t c h in
        let b = name_back o (match_part p k.1 k.2) (without-other xs x (one_term t) i) j in
        (b.0, match_named k.1 b.1, b.2)
    match_back (forgets_differ {p = p} f) o t e (match_differ {c = c} h j) =
        let k = match_back f o t c h in
        let b = differ_back (match_part p k.1 k.2) j in
        (b.0, match_differ k.1 b.1, b.2)
    match_back {xs = xs} (forgets_in_hole {p = p} {r = r} f g) o t e (match_in_hole {C = C} {u = u} {c = c} {d = d} h m j) =
        let k = split_back f (once-left xs (binders p) (binders r) o) t C u c h in
        let l = match_back g (once-right xs (binders p) (binders r) o) u d m in
        let b = parts_back o (split_part p k.1 k.2) (match_part r l.1 l.2) j in
        (b.0, match_in_hole k.1 l.1 b.1, b.2)
    match_back (forgets_hide_hole f) o t c (match_hide_hole h) = let k = match_back f o t c h in (k.0, match_hide_hole k.1, k.2)
    match_back (forgets_closed i f) o t e (match_closed {c = c} h) = let k = match_back f i t c h in (no_names, match_closed k.1, refl)
    match_back (forgets_open i f e d) o t c h =
        let k = match_back f i t c h in
        let n : c.differs ≡ [] = ap (λ (a : Binding). a.differs) (sym k.2) ∙ match-plain d k.1 in
        (no_names, match_closed k.1, sym (nothing_bound c (match-names h ∙ e) n))
    match_back (forgets_seq f) o t c (match_seq {ts = ts} h) = let k = items_back f o ts c h in (k.0, match_seq k.1, k.2)

    -- so for items
    pub items_back : {xs : List (List ℕ)} {ps qs : Items} → ForgetsItems xs ps qs → AreOnce xs (item_binders ps) → ItemsBack xs ps qs
    items_back forgets_nil o ts c match_none = (no_names, match_none, refl)
    items_back {xs = xs} (forgets_one {p = p} {ps = ps} f g) o ts e (match_one {t = t} {ts = us} {c = c} {d = d} h m j) =
        let k = match_back f (once-left xs (binders p) (item_binders ps) o) t c h in
        let l = items_back g (once-right xs (binders p) (item_binders ps) o) us d m in
        let b = parts_back o (match_part p k.1 k.2) (items_part ps l.0 (items-ascends l.1) (items-names l.1) l.2) j in
        (b.0, match_one k.1 l.1 b.1, b.2)
    items_back {xs = xs} (forgets_many {p = p} {q = q} {n = n} {ps = ps} {qs = qs} f l g) o ts e (match_many r h j) =
        let first = match_back f (once-left xs (binders p) (length_names n) (turn_once xs p n ps o)) in
        let rest = items_back g (once-right xs (binders p ++ length_names n) (item_binders ps) o) in
        repetition_matches ps f l o (run_back xs p q ps qs first rest r) h j

    -- a split of a pattern without names that stand once in it comes of one of the pattern
    pub split_back : {xs : List (List ℕ)} {p q : Pattern} → Forgets xs p q → StandOnce xs p → SplitBack xs p q
    split_back forgets_wild o t C s c h = elim h [ ]
    split_back forgets_kind o t C s c h = elim h [ ]
    split_back forgets_except o t C s c h = elim h [ ]
    split_back forgets_prefix o t C s c h = elim h [ ]
    split_back forgets_hole o t C s c split_hole = (no_names, split_hole, refl)
    split_back forgets_lit o t C s c h = elim h [ ]
    split_back forgets_nt o t C s c (split_nt a h) = (no_names, split_nt a h, refl)
    split_back {xs = xs} (forgets_named {x = x} {p = p} i f) o t C s c h =
        let k = split_back f (once-right xs (x ∷ []) (binders p) o) t C s c h in
        let b = name_back o (split_part p k.1 k.2) (without-one xs x (one_term C) i) (unit_right c (split-ascends h)) in
        (b.0, split_named k.1 b.1, b.2)
    split_back {xs = xs} (keeps_named {x = x} {p = p} i f) o t C s e (split_named {c = c} h j) =
        let k = split_back f (once-right xs (x ∷ []) (binders p) o) t C s c h in
        let b = name_back o (split_part p k.1 k.2) (without-other xs x (one_term C) i) j in
        (b.0, split_named k.1 b.1, b.2)
    split_back (forgets_differ {p = p} f) o t C s e (split_differ {c = c} h j) =
        let k = split_back f o t C s c h in
        let b = differ_back (split_part p k.1 k.2) j in
        (b.0, split_differ k.1 b.1, b.2)
    split_back {xs = xs} (forgets_in_hole {p = p} {r = r} f g) o t C s e (split_in_hole {D = D} {E = E} {u = u} {c = c} {d = d} h m i j) =
        let k = split_back f (once-left xs (binders p) (binders r) o) t D u c h in
        let l = split_back g (once-right xs (binders p) (binders r) o) u E s d m in
        let b = parts_back o (split_part p k.1 k.2) (split_part r l.1 l.2) j in
        (b.0, split_in_hole k.1 l.1 i b.1, b.2)
    split_back (forgets_hide_hole f) o t C s c h = elim h [ ]
    split_back (forgets_closed i f) o t C s e (split_closed {c = c} h) = let k = split_back f i t C s c h in (no_names, split_closed k.1, refl)
    split_back (forgets_open i f e d) o t C s c h =
        let k = split_back f i t C s c h in
        let n : c.differs ≡ [] = ap (λ (a : Binding). a.differs) (sym k.2) ∙ split-plain d k.1 in
        (no_names, split_closed k.1, sym (nothing_bound c (split-names h ∙ e) n))
    split_back (forgets_seq f) o t C s c (split_seq {ts = ts} {k = n} {D = D} h e) =
        let k = split_items_back f o ts n D s c h in (k.0, split_seq k.1 e, k.2)

    -- so for items of which one splits
    pub split_items_back : {xs : List (List ℕ)} {ps qs : Items} → ForgetsItems xs ps qs → AreOnce xs (item_binders ps) → SplitItemsBack xs ps qs
    split_items_back forgets_nil o ts n D s c h = elim h [ ]
    split_items_back {xs = xs} (forgets_one {p = p} {ps = ps} f g) o ts n D s e (split_here {t = t} {ts = us} {c = c} {d = d} h m j) =
        let k = split_back f (once-left xs (binders p) (item_binders ps) o) t D s c h in
        let l = items_back g (once-right xs (binders p) (item_binders ps) o) us d m in
        let b = parts_back o (split_part p k.1 k.2) (items_part ps l.0 (items-ascends l.1) (items-names l.1) l.2) j in
        (b.0, split_here k.1 l.1 b.1, b.2)
    split_items_back {xs = xs} (forgets_one {p = p} {ps = ps} f g) o ts n D s e (split_behind {t = t} {ts = us} {k = i} {c = c} {d = d} h m j) =
        let k = match_back f (once-left xs (binders p) (item_binders ps) o) t c h in
        let l = split_items_back g (once-right xs (binders p) (item_binders ps) o) us i D s d m in
        let b = parts_back o (match_part p k.1 k.2) (items_part ps l.0 (split_items-ascends l.1) (split_items-names l.1) l.2) j in
        (b.0, split_behind k.1 l.1 b.1, b.2)
    split_items_back {xs = xs} (forgets_many {p = p} {q = q} {n = n} {ps = ps} {qs = qs} f l g) o ts i D s e (split_many r h j) =
        let first = once-left xs (binders p) (length_names n) (turn_once xs p n ps o) in
        let rest = once-right xs (binders p ++ length_names n) (item_binders ps) o in
        let run = split_run_back xs p q ps qs (match_back f first) (items_back g rest) (split_back f first) (split_items_back g rest) r in
        repetition_splits ps f l o run h j
