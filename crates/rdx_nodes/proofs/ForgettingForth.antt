-- Where a pattern matches, it matches without names, and so it splits: what it binds then is without them.
use Rattle.std.proofs.Common.{◌≡◌, ℕ, List, [], map, sym, ◌∙◌, subst}
use Rattle.rdx_term.specs.Tree.{Tree, Trees}
use Rattle.rdx_lang.specs.Bindings.{Binding, no_names, one_differs, bound_names}
use Rattle.rdx_lang.specs.Bindings.{one as one_term}
use Rattle.rdx_lang.specs.Names.{names}
use Rattle.rdx_lang.specs.Patterns.{Pattern, Items, Language}
use Rattle.rdx_lang.specs.Rules.{Match, MatchItems, MatchRun, match_wild, match_kind, match_except, match_prefix, match_hole, match_lit, match_nt, match_named, match_differ, match_in_hole, match_hide_hole, match_closed, match_seq, match_none, match_one, match_many, run_end, run_more}
use Rattle.rdx_lang.specs.Rules.{Split, SplitItems, SplitRun, split_hole, split_nt, split_named, split_differ, split_in_hole, split_closed, split_seq, split_here, split_behind, split_many, run_here, run_there, run_behind}
use Rattle.rdx_lang.proofs.NameLaws.{names-ascend, match-ascends, match-names, split-ascends, split-names}
use Rattle.rdx_bind.proofs.NoSets.{match-plain, split-plain, nothing_bound}
use Rattle.rdx_nodes.specs.Inside.Forgetting.{without_names, Forgets, ForgetsItems, forgets_wild, forgets_kind, forgets_except, forgets_prefix, forgets_hole, forgets_lit, forgets_nt, forgets_named, keeps_named, forgets_differ, forgets_in_hole, forgets_hide_hole, forgets_closed, forgets_open, forgets_seq, forgets_nil, forgets_one, forgets_many}
use Rattle.rdx_nodes.proofs.ForgettingBindings.{without-join, join-forgotten, join-kept}
use Rattle.rdx_nodes.proofs.ForgettingNames.{names-without}
use Rattle.rdx_nodes.proofs.ForgettingRepetitions.{repetition-forth}

module _ (L : Language) where
  -- whatever the one pattern matches the other matches, and binds what stays
  abbrev MatchForth : List (List ℕ) → Pattern → Pattern → Type 0
  MatchForth xs p q = (t : Tree) (b : Binding) → Match L p t b → Match L q t (without_names xs b)

  -- so for items
  abbrev ItemsForth : List (List ℕ) → Items → Items → Type 0
  ItemsForth xs ps qs = (ts : Trees) (b : Binding) → MatchItems L ps ts b → MatchItems L qs ts (without_names xs b)

  -- so for splits
  abbrev SplitForth : List (List ℕ) → Pattern → Pattern → Type 0
  SplitForth xs p q = (t C s : Tree) (b : Binding) → Split L p t C s b → Split L q t C s (without_names xs b)

  -- so for items of which one splits
  abbrev SplitItemsForth : List (List ℕ) → Items → Items → Type 0
  SplitItemsForth xs ps qs =
      (ts : Trees) (k : ℕ) (D s : Tree) (b : Binding) → SplitItems L ps ts k D s b → SplitItems L qs ts k D s (without_names xs b)

  -- ---- runs

  module _ (xs : List (List ℕ)) (p q : Pattern) (ps qs : Items) (f : MatchForth xs p q) (g : ItemsForth xs ps qs) where
    -- a run, each turn without names
    run_forth : {ts : Trees} {cs : List Binding} {d : Binding} → MatchRun L p ps ts cs d
        → MatchRun L q qs ts (map (without_names xs) cs) (without_names xs d)
    run_forth (run_end {ts = ts} {d = d} h) = run_end (g ts d h)
    run_forth (run_more {t = t} {c = c} h r) = run_more (f t c h) (run_forth r)

    -- a run in which one term is split
    split_run_forth : SplitForth xs p q → SplitItemsForth xs ps qs → {ts : Trees} {k : ℕ} {D s : Tree} {cs : List Binding} {d : Binding}
        → SplitRun L p ps ts k D s cs d → SplitRun L q qs ts k D s (map (without_names xs) cs) (without_names xs d)
    split_run_forth f' g' (run_here {t = t} {D = D} {s = s} {c = c} h r) = run_here (f' t D s c h) (run_forth r)
    split_run_forth f' g' (run_there {t = t} {c = c} h r) = run_there (f t c h) (split_run_forth f' g' r)
    split_run_forth f' g' (run_behind {ts = ts} {k = k} {D = D} {s = s} {d = d} h) = run_behind (g' ts k D s d h)

  -- what binds no name and has no sets binds nothing, without names too
  nothing_stays : (ys : List (List ℕ)) (c : Binding) (q : Pattern) → bound_names (without_names ys c) ≡ names q → names q ≡ [] → c.differs ≡ []
      → without_names ys c ≡ no_names
  nothing_stays ys c q f e d = nothing_bound (without_names ys c) (f ∙ e) d

  -- ---- patterns

  mutual
    -- a match of a pattern is one of the pattern without names, which binds what stays
    pub match_forth : {xs : List (List ℕ)} {p q : Pattern} → Forgets xs p q → MatchForth xs p q
    match_forth forgets_wild t b match_wild = match_wild
    match_forth forgets_kind t b (match_kind h) = match_kind h
    match_forth forgets_except t b (match_except h) = match_except h
    match_forth forgets_prefix t b (match_prefix h) = match_prefix h
    match_forth forgets_hole t b match_hole = match_hole
    match_forth forgets_lit t b (match_lit h) = match_lit h
    match_forth forgets_nt t b (match_nt a h) = match_nt a h
    match_forth {xs = xs} (forgets_named {x = x} {q = q} i f) t b (match_named {c = c} h j) =
        subst (λ (d : Binding). Match L q t d) (sym (join-forgotten xs x (one_term t) c b i (match-ascends h) j)) (match_forth f t c h)
    match_forth {xs = xs} (keeps_named {x = x} i f) t b (match_named {c = c} h j) =
        match_named (match_forth f t c h) (join-kept xs x (one_term t) c b i j)
    match_forth {xs = xs} (forgets_differ {x = x} f) t b (match_differ {c = c} h j) =
        match_differ (match_forth f t c h) (without-join xs c (one_differs x t) b j)
    match_forth {xs = xs} (forgets_in_hole f g) t b (match_in_hole {C = C} {u = u} {c = c} {d = d} h k j) =
        match_in_hole (split_forth f t C u c h) (match_forth g u d k) (without-join xs c d b j)
    match_forth (forgets_hide_hole f) t b (match_hide_hole h) = match_hide_hole (match_forth f t b h)
    match_forth (forgets_closed o f) t b (match_closed {c = c} h) = match_closed (match_forth f t c h)
    match_forth (forgets_open {ys = ys} {q = q} o f e d) t b (match_closed {c = c} h) =
        let m : Match L q t (without_names ys c) = match_forth f t c h in
        subst (λ (a : Binding). Match L q t a) (nothing_stays ys c q (match-names m) e (match-plain d h)) m
    match_forth (forgets_seq f) t b (match_seq {ts = ts} h) = match_seq (items_forth f ts b h)

    -- so is one of items
    pub items_forth : {xs : List (List ℕ)} {ps qs : Items} → ForgetsItems xs ps qs → ItemsForth xs ps qs
    items_forth forgets_nil ts b match_none = match_none
    items_forth {xs = xs} (forgets_one f g) ts b (match_one {t = t} {ts = us} {c = c} {d = d} h k j) =
        match_one (match_forth f t c h) (items_forth g us d k) (without-join xs c d b j)
    items_forth {xs = xs} (forgets_many {p = p} {q = q} {ps = ps} {qs = qs} f l g) ts b (match_many {c = c} {d = d} r h j) =
        match_many (run_forth xs p q ps qs (λ t e m. match_forth f t e m) (λ us e m. items_forth g us e m) r)
        (repetition-forth xs (names p) (names q) (names-ascend p) (names-without f) l h) (without-join xs c d b j)

    -- a split of a pattern is one of the pattern without names, which binds what stays
    pub split_forth : {xs : List (List ℕ)} {p q : Pattern} → Forgets xs p q → SplitForth xs p q
    split_forth forgets_wild t C s b h = elim h [ ]
    split_forth forgets_kind t C s b h = elim h [ ]
    split_forth forgets_except t C s b h = elim h [ ]
    split_forth forgets_prefix t C s b h = elim h [ ]
    split_forth forgets_hole t C s b split_hole = split_hole
    split_forth forgets_lit t C s b h = elim h [ ]
    split_forth forgets_nt t C s b (split_nt a h) = split_nt a h
    split_forth {xs = xs} (forgets_named {x = x} {q = q} i f) t C s b (split_named {c = c} h j) =
        subst (λ (d : Binding). Split L q t C s d) (sym (join-forgotten xs x (one_term C) c b i (split-ascends h) j)) (split_forth f t C s c h)
    split_forth {xs = xs} (keeps_named {x = x} i f) t C s b (split_named {c = c} h j) =
        split_named (split_forth f t C s c h) (join-kept xs x (one_term C) c b i j)
    split_forth {xs = xs} (forgets_differ {x = x} f) t C s b (split_differ {c = c} h j) =
        split_differ (split_forth f t C s c h) (without-join xs c (one_differs x C) b j)
    split_forth {xs = xs} (forgets_in_hole f g) t C s b (split_in_hole {D = D} {E = E} {u = u} {c = c} {d = d} h k e j) =
        split_in_hole (split_forth f t D u c h) (split_forth g u E s d k) e (without-join xs c d b j)
    split_forth (forgets_hide_hole f) t C s b h = elim h [ ]
    split_forth (forgets_closed o f) t C s b (split_closed {c = c} h) = split_closed (split_forth f t C s c h)
    split_forth (forgets_open {ys = ys} {q = q} o f e d) t C s b (split_closed {c = c} h) =
        let m : Split L q t C s (without_names ys c) = split_forth f t C s c h in
        subst (λ (a : Binding). Split L q t C s a) (nothing_stays ys c q (split-names m) e (split-plain d h)) m
    split_forth (forgets_seq f) t C s b (split_seq {ts = ts} {k = k} {D = D} h e) = split_seq (split_items_forth f ts k D s b h) e

    -- so is one of items of which one splits
    pub split_items_forth : {xs : List (List ℕ)} {ps qs : Items} → ForgetsItems xs ps qs → SplitItemsForth xs ps qs
    split_items_forth forgets_nil ts k D s b h = elim h [ ]
    split_items_forth {xs = xs} (forgets_one f g) ts k D s b (split_here {t = t} {ts = us} {c = c} {d = d} h m j) =
        split_here (split_forth f t D s c h) (items_forth g us d m) (without-join xs c d b j)
    split_items_forth {xs = xs} (forgets_one f g) ts k D s b (split_behind {t = t} {ts = us} {k = n} {c = c} {d = d} h m j) =
        split_behind (match_forth f t c h) (split_items_forth g us n D s d m) (without-join xs c d b j)
    split_items_forth {xs = xs} (forgets_many {p = p} {q = q} {ps = ps} {qs = qs} f l g) ts k D s b (split_many {c = c} {d = d} r h j) =
        split_many
        (split_run_forth xs p q ps qs (λ t e m. match_forth f t e m) (λ us e m. items_forth g us e m) (λ t D s e m. split_forth f t D s e m) (λ us k D s e m. split_items_forth g us k D s e m) r)
        (repetition-forth xs (names p) (names q) (names-ascend p) (names-without f) l h) (without-join xs c d b j)
