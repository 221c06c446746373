-- Items that are laid over terms with their lengths, and the rules of matching and of splitting, which say it without lengths and goals.
use Rattle.std.proofs.Common.{◌≡◌, ℕ, zero, suc, true, List, [], ◌∷◌, ◌++◌, length, Option, refl, sym, subst}
use Rattle.std.proofs.lemmas.Bool.{and_parts}
use Rattle.rdx_term.specs.Tree.{Tree, Trees, cons}
use Rattle.rdx_lang.specs.Bindings.{Binding, bound_names, HasAscendingNames}
use Rattle.rdx_lang.specs.Collections.{IsRepetition}
use Rattle.rdx_lang.specs.Join.{IsJoin}
use Rattle.rdx_lang.specs.Members.{here, there}
use Rattle.rdx_lang.specs.Names.{names, item_names}
use Rattle.rdx_lang.specs.Patterns.{Pattern, Items, nil, one, many, Language}
use Rattle.rdx_lang.specs.Rules.{Match, MatchItems, MatchRun, match_none, match_one, match_many, run_end, run_more}
use Rattle.rdx_lang.specs.Rules.{Split, SplitItems, SplitRun, split_here, split_behind, split_many, run_here, run_there, run_behind}
use Rattle.rdx_lang.specs.WellFormed.{has_known_nonterminals, have_known_nonterminals, defined}
use Rattle.rdx_lang.proofs.CollectionLaws.{AreMaps, BindNames}
use Rattle.rdx_lang.proofs.NameLaws.{match-names, items-names, run-names, turn-names, split-names, split_items-names, split_run-names, split_turn-names, items-ascends, run-ascends, run-maps, split_items-ascends, split_run-ascends, split_run-maps}
use Rattle.rdx_bind.specs.Choices.{ArePlain}
use Rattle.rdx_deriv.specs.Derivations.{Goal}
use Rattle.rdx_deriv.specs.Uses.{Focus, nowhere, at, next, item_goal, ItemUses, TurnUses, uses_none, uses_one, uses_many, turns_end, turns_more}
use Rattle.rdx_why.specs.Inside.Laying.{IsOpenedItems}
use Rattle.rdx_opened.specs.Opening.{Mark, Opens, OpensItems, opens_one, opens_many}
use Rattle.rdx_why.specs.Inside.Steps.{FollowsIn, AllFollowIn, IsLaid}
use Rattle.rdx_opened.proofs.OpenedPlain.{opened_match-plain, opened_items-plain, opened_turns-plain, opened_split-plain, opened_split_items-plain, opened_split_turns-plain}

-- ---- opened items

-- a pattern is one that is opened
abbrev pub IsOpenedPattern : Pattern → Type 0
IsOpenedPattern o = (p : Pattern) × (ms : List Mark) × Opens p o ms

-- the first of opened items, and the others
pub opened_one : {o : Pattern} {os : Items} → IsOpenedItems (one o os) → IsOpenedPattern o × IsOpenedItems os
opened_one h = parts h.2
  where
    parts : {o : Pattern} {ps os : Items} {ms : List Mark} → OpensItems ps (one o os) ms → IsOpenedPattern o × IsOpenedItems os
    parts (opens_one {p = p} {ps = ps} {ms = ms} {ns = ns} k m) = ((p, ms, k), (ps, ns, m))

pub opened_many : {o : Pattern} {n : Option (List ℕ)} {os : Items} → IsOpenedItems (many o n os) → IsOpenedPattern o × IsOpenedItems os
opened_many h = parts h.2
  where
    parts : {o : Pattern} {n : Option (List ℕ)} {ps os : Items} {ms : List Mark} → OpensItems ps (many o n os) ms
        → IsOpenedPattern o × IsOpenedItems os
    parts (opens_many {p = p} {ps = ps} {ms = ms} {ns = ns} k m) = ((p, ms, k), (ps, ns, m))

-- a repetition may have any length name
pub opened_length : {o : Pattern} {n : Option (List ℕ)} {os : Items} (m : Option (List ℕ)) → IsOpenedItems (many o n os)
    → IsOpenedItems (many o m os)
opened_length m h = parts h.2
  where
    parts : {o : Pattern} {n : Option (List ℕ)} {ps os : Items} {ms : List Mark} → OpensItems ps (many o n os) ms → IsOpenedItems (many o m os)
    parts (opens_many {p = p} {ps = ps} {ms = ms} {ns = ns} k l) = (many p m ps, ms ++ ns, opens_many k l)

-- ---- what items do

-- the items match the terms, or one of them is split, and they bind e
pub data AreUsed (L : Language) : Focus → Items → Trees → Binding → Type 0 where
  all_match : {os : Items} {ts : Trees} {e : Binding} → MatchItems L os ts e → AreUsed L nowhere os ts e
  one_splits : {os : Items} {ts : Trees} {k : ℕ} {D s : Tree} {e : Binding} → SplitItems L os ts k D s e → AreUsed L (at k D s) os ts e

-- the pattern of an item matches its term, or splits it
pub data ItemFollows (L : Language) : Focus → Pattern → Tree → Binding → Type 0 where
  item_matches : {p : Pattern} {t : Tree} {c : Binding} → Match L p t c → ItemFollows L nowhere p t c
  item_splits : {p : Pattern} {t D s : Tree} {c : Binding} → Split L p t D s c → ItemFollows L (at zero D s) p t c
  item_before : {p : Pattern} {t D s : Tree} {k : ℕ} {c : Binding} → Match L p t c → ItemFollows L (at (suc k) D s) p t c

-- a pattern does it with some first terms, and the items behind it with the others
pub data RunUsed (L : Language) : Focus → Pattern → Items → Trees → List Binding → Binding → Type 0 where
  run_matches : {p : Pattern} {os : Items} {ts : Trees} {cs : List Binding} {d : Binding} → MatchRun L p os ts cs d → RunUsed L nowhere p os ts cs d
  run_splits : {p : Pattern} {os : Items} {ts : Trees} {k : ℕ} {D s : Tree} {cs : List Binding} {d : Binding} → SplitRun L p os ts k D s cs d
      → RunUsed L (at k D s) p os ts cs d

-- what a repetition and the items behind it do
pub record ManyUsed (L : Language) (f : Focus) (p : Pattern) (n : Option (List ℕ)) (os : Items) (ts : Trees) (b : Binding) : Type 0 where
  pub turns : List Binding
  pub first : Binding
  pub rest : Binding
  pub run : RunUsed L f p os ts turns rest
  pub repeats : IsRepetition (names p) turns n first
  pub joined : IsJoin first rest b

module _ {L : Language} where
  -- the rules
  used_one : {f : Focus} {p : Pattern} {os : Items} {t : Tree} {ts : Trees} {c d b : Binding} → ItemFollows L f p t c → AreUsed L (next f) os ts d
      → IsJoin c d b → AreUsed L f (one p os) (cons t ts) b
  used_one (item_matches h) (all_match u) j = all_match (match_one h u j)
  used_one (item_splits h) (all_match u) j = one_splits (split_here h u j)
  used_one (item_before h) (one_splits u) j = one_splits (split_behind h u j)

  pub used_many : {f : Focus} {p : Pattern} {n : Option (List ℕ)} {os : Items} {ts : Trees} {cs : List Binding} {c d b : Binding}
      → RunUsed L f p os ts cs d → IsRepetition (names p) cs n c → IsJoin c d b → AreUsed L f (many p n os) ts b
  used_many (run_matches r) h j = all_match (match_many r h j)
  used_many (run_splits r) h j = one_splits (split_many r h j)

  run_used_end : {f : Focus} {p : Pattern} {os : Items} {ts : Trees} {d : Binding} → AreUsed L f os ts d → RunUsed L f p os ts [] d
  run_used_end (all_match u) = run_matches (run_end u)
  run_used_end (one_splits u) = run_splits (run_behind u)

  run_used_more : {f : Focus} {p : Pattern} {os : Items} {t : Tree} {ts : Trees} {cs : List Binding} {c d : Binding} → ItemFollows L f p t c
      → RunUsed L (next f) p os ts cs d → RunUsed L f p os (cons t ts) (c ∷ cs) d
  run_used_more (item_matches h) (run_matches r) = run_matches (run_more h r)
  run_used_more (item_splits h) (run_matches r) = run_splits (run_here h r)
  run_used_more (item_before h) (run_splits r) = run_splits (run_there h r)

  many_matched : {p : Pattern} {n : Option (List ℕ)} {os : Items} {ts : Trees} {b : Binding} → MatchItems L (many p n os) ts b
      → ManyUsed L nowhere p n os ts b
  many_matched (match_many {cs = cs} {c = c} {d = d} r h j) =
      record { turns = cs; first = c; rest = d; run = run_matches r; repeats = h; joined = j }

  many_split : {p : Pattern} {n : Option (List ℕ)} {os : Items} {ts : Trees} {k : ℕ} {D s : Tree} {b : Binding}
      → SplitItems L (many p n os) ts k D s b
      → ManyUsed L (at k D s) p n os ts b
  many_split (split_many {cs = cs} {c = c} {d = d} r h j) =
      record { turns = cs; first = c; rest = d; run = run_splits r; repeats = h; joined = j }

  pub many_used : {f : Focus} {p : Pattern} {n : Option (List ℕ)} {os : Items} {ts : Trees} {b : Binding} → AreUsed L f (many p n os) ts b
      → ManyUsed L f p n os ts b
  many_used (all_match u) = many_matched u
  many_used (one_splits u) = many_split u

  -- ---- what they bind

  pub follows-names : {f : Focus} {p : Pattern} {t : Tree} {c : Binding} → ItemFollows L f p t c → bound_names c ≡ names p
  follows-names (item_matches h) = match-names h
  follows-names (item_splits h) = split-names h
  follows-names (item_before h) = match-names h

  pub follows-plain : {f : Focus} {o : Pattern} {t : Tree} {c : Binding} → IsOpenedPattern o → ItemFollows L f o t c → c.differs ≡ []
  follows-plain o (item_matches h) = opened_match-plain o.2 h
  follows-plain o (item_splits h) = opened_split-plain o.2 h
  follows-plain o (item_before h) = opened_match-plain o.2 h

  pub used-names : {f : Focus} {os : Items} {ts : Trees} {b : Binding} → AreUsed L f os ts b → bound_names b ≡ item_names os
  used-names (all_match h) = items-names h
  used-names (one_splits h) = split_items-names h

  pub used-ascends : {f : Focus} {os : Items} {ts : Trees} {b : Binding} → AreUsed L f os ts b → HasAscendingNames b
  used-ascends (all_match h) = items-ascends h
  used-ascends (one_splits h) = split_items-ascends h

  pub used-plain : {f : Focus} {os : Items} {ts : Trees} {b : Binding} → IsOpenedItems os → AreUsed L f os ts b → b.differs ≡ []
  used-plain o (all_match h) = opened_items-plain o.2 h
  used-plain o (one_splits h) = opened_split_items-plain o.2 h

  pub run_used-names : {f : Focus} {p : Pattern} {os : Items} {ts : Trees} {cs : List Binding} {d : Binding} → RunUsed L f p os ts cs d
      → bound_names d ≡ item_names os
  run_used-names (run_matches h) = run-names h
  run_used-names (run_splits h) = split_run-names h

  pub run_used-ascends : {f : Focus} {p : Pattern} {os : Items} {ts : Trees} {cs : List Binding} {d : Binding} → RunUsed L f p os ts cs d
      → HasAscendingNames d
  run_used-ascends (run_matches h) = run-ascends h
  run_used-ascends (run_splits h) = split_run-ascends h

  pub turns_used-names : {f : Focus} {p : Pattern} {os : Items} {ts : Trees} {cs : List Binding} {d : Binding} → RunUsed L f p os ts cs d
      → BindNames (names p) cs
  turns_used-names (run_matches h) = turn-names h
  turns_used-names (run_splits h) = split_turn-names h

  pub turns_used-maps : {f : Focus} {p : Pattern} {os : Items} {ts : Trees} {cs : List Binding} {d : Binding} → RunUsed L f p os ts cs d → AreMaps cs
  turns_used-maps (run_matches h) = run-maps h
  turns_used-maps (run_splits h) = split_run-maps h

  pub turns_used-plain : {f : Focus} {o : Pattern} {os : Items} {ts : Trees} {cs : List Binding} {d : Binding} → IsOpenedPattern o
      → RunUsed L f o os ts cs d → ArePlain cs
  turns_used-plain o (run_matches h) = opened_turns-plain o.2 h
  turns_used-plain o (run_splits h) = opened_split_turns-plain o.2 h

-- ---- goals that follow

module _ (L : Language) (l : List ℕ) where
  -- the goal of an item, and what follows
  pub goal-follows : (f : Focus) (p : Pattern) (t : Tree) (c : Binding) → FollowsIn L l (item_goal f l p t c) → ItemFollows L f p t c
  goal-follows nowhere p t c h = item_matches h.2
  goal-follows (at zero D s) p t c h = item_splits h.2
  goal-follows (at (suc k) D s) p t c h = item_before h.2

  pub follows-goal : {f : Focus} {p : Pattern} {t : Tree} {c : Binding} → has_known_nonterminals (defined L) p ≡ true → ItemFollows L f p t c
      → FollowsIn L l (item_goal f l p t c)
  follows-goal k (item_matches h) = (refl, k, h)
  follows-goal k (item_splits h) = (refl, k, h)
  follows-goal k (item_before h) = (refl, k, h)

  -- no goals, one more, and those behind the first
  pub no_follow : AllFollowIn L l []
  no_follow g i = elim i [ ]

  pub more_follow : {g : Goal} {gs : List Goal} → FollowsIn L l g → AllFollowIn L l gs → AllFollowIn L l (g ∷ gs)
  more_follow h a k (here e) = subst (λ (g : Goal). FollowsIn L l g) (sym e) h
  more_follow h a k (there i) = a k i

  pub first_follows : {g h : Goal} {gs : List Goal} → g ≡ h → AllFollowIn L l (g ∷ gs) → FollowsIn L l h
  first_follows {g = g} e a = subst (λ (k : Goal). FollowsIn L l k) e (a g (here refl))

  pub others_follow : {g : Goal} {gs : List Goal} → AllFollowIn L l (g ∷ gs) → AllFollowIn L l gs
  others_follow a k i = a k (there i)

  -- ---- what is laid is used

  mutual
    pub uses-used : {f : Focus} {os : Items} {ts : Trees} {ks : List ℕ} {gs : List Goal} {b : Binding} → ItemUses l f os ts ks gs b
        → AllFollowIn L l gs → AreUsed L f os ts b
    uses-used uses_none a = all_match match_none
    uses-used (uses_one {f = f} {p = p} {t = t} {c = c} e u j) a =
        used_one (goal-follows f p t c (first_follows e a)) (uses-used u (others_follow a)) j
    uses-used (uses_many r h j) a = used_many (turns-used r a) h j

    pub turns-used : {f : Focus} {p : Pattern} {os : Items} {ts : Trees} {k : ℕ} {ks : List ℕ} {gs : List Goal} {cs : List Binding} {d : Binding}
        → TurnUses l f p os ts k ks gs cs d → AllFollowIn L l gs → RunUsed L f p os ts cs d
    turns-used (turns_end u) a = run_used_end (uses-used u a)
    turns-used (turns_more {f = f} {p = p} {t = t} {c = c} e r) a =
        run_used_more (goal-follows f p t c (first_follows e a)) (turns-used r (others_follow a))

  pub laid-used : {f : Focus} {os : Items} {ts : Trees} {ks : List ℕ} {b : Binding} → IsLaid L l f os ts ks b → AreUsed L f os ts b
  laid-used h = uses-used h.uses h.follow

  -- ---- what is used is laid

  -- laid with some lengths
  abbrev pub SomeLaid : Focus → Items → Trees → Binding → Type 0
  SomeLaid f os ts b = (ks : List ℕ) × IsLaid L l f os ts ks b

  -- the turns of a repetition, and the items behind them
  pub record RunLaid (f : Focus) (p : Pattern) (os : Items) (ts : Trees) (cs : List Binding) (d : Binding) : Type 0 where
    pub lengths : List ℕ
    pub goals : List Goal
    pub uses : TurnUses l f p os ts (length cs) lengths goals cs d
    pub follow : AllFollowIn L l goals

  -- one term more
  one_laid : (f : Focus) {p : Pattern} {os : Items} {t : Tree} {ts : Trees} {c d b : Binding} → has_known_nonterminals (defined L) p ≡ true
      → ItemFollows L f p t c → SomeLaid (next f) os ts d → IsJoin c d b → SomeLaid f (one p os) (cons t ts) b
  one_laid f {p = p} {t = t} {c = c} k h u j = (
    u.0,
    record {
      goals = item_goal f l p t c ∷ u.1.goals;
      uses = uses_one refl u.1.uses j;
      follow = more_follow (follows-goal k h) u.1.follow;
    },
  )

  run_laid_end : (f : Focus) {p : Pattern} {os : Items} {ts : Trees} {d : Binding} → SomeLaid f os ts d → RunLaid f p os ts [] d
  run_laid_end f u = record { lengths = u.0; goals = u.1.goals; uses = turns_end u.1.uses; follow = u.1.follow }

  run_laid_more : (f : Focus) {p : Pattern} {os : Items} {t : Tree} {ts : Trees} {c d : Binding} {cs : List Binding}
      → has_known_nonterminals (defined L) p ≡ true → ItemFollows L f p t c → RunLaid (next f) p os ts cs d → RunLaid f p os (cons t ts) (c ∷ cs) d
  run_laid_more f {p = p} {t = t} {c = c} k h r = record {
    lengths = r.lengths;
    goals = item_goal f l p t c ∷ r.goals;
    uses = turns_more refl r.uses;
    follow = more_follow (follows-goal k h) r.follow;
  }

  many_laid : (f : Focus) {p : Pattern} {n : Option (List ℕ)} {os : Items} {ts : Trees} {cs : List Binding} {c d b : Binding}
      → RunLaid f p os ts cs d
      → IsRepetition (names p) cs n c → IsJoin c d b → SomeLaid f (many p n os) ts b
  many_laid f {cs = cs} r h j = (length cs ∷ r.lengths, record { goals = r.goals; uses = uses_many r.uses h j; follow = r.follow })

  -- two tests
  known_parts : (p : Pattern) (os : Items) → have_known_nonterminals (defined L) (one p os) ≡ true
      → (has_known_nonterminals (defined L) p ≡ true) × (have_known_nonterminals (defined L) os ≡ true)
  known_parts p os k = and_parts (has_known_nonterminals (defined L) p) (have_known_nonterminals (defined L) os) k

  mutual
    items-laid : (os : Items) {ts : Trees} {b : Binding} → have_known_nonterminals (defined L) os ≡ true → MatchItems L os ts b
        → SomeLaid nowhere os ts b
    items-laid nil k match_none = ([], record { goals = []; uses = uses_none; follow = no_follow })
    items-laid (one p os) k (match_one h u j) =
        let ks = known_parts p os k in one_laid nowhere ks.0 (item_matches h) (items-laid os ks.1 u) j
    items-laid (many p n os) k (match_many r h j) =
        let ks = known_parts p os k in many_laid nowhere (run-laid p os ks.0 ks.1 r) h j

    run-laid : (p : Pattern) (os : Items) {ts : Trees} {cs : List Binding} {d : Binding} → has_known_nonterminals (defined L) p ≡ true
        → have_known_nonterminals (defined L) os ≡ true → MatchRun L p os ts cs d → RunLaid nowhere p os ts cs d
    run-laid p os k m (run_end u) = run_laid_end nowhere (items-laid os m u)
    run-laid p os k m (run_more h r) = run_laid_more nowhere k (item_matches h) (run-laid p os k m r)

  mutual
    split_items-laid : (os : Items) {ts : Trees} {i : ℕ} {D s : Tree} {b : Binding} → have_known_nonterminals (defined L) os ≡ true
        → SplitItems L os ts i D s b → SomeLaid (at i D s) os ts b
    split_items-laid nil k h = elim h [ ]
    split_items-laid (one p os) {D = D} {s = s} k (split_here h u j) =
        let ks = known_parts p os k in one_laid (at zero D s) ks.0 (item_splits h) (items-laid os ks.1 u) j
    split_items-laid (one p os) {D = D} {s = s} k (split_behind {k = i} h u j) =
        let ks = known_parts p os k in one_laid (at (suc i) D s) ks.0 (item_before h) (split_items-laid os ks.1 u) j
    split_items-laid (many p n os) {i = i} {D = D} {s = s} k (split_many r h j) =
        let ks = known_parts p os k in many_laid (at i D s) (split_run-laid p os ks.0 ks.1 r) h j

    split_run-laid : (p : Pattern) (os : Items) {ts : Trees} {i : ℕ} {D s : Tree} {cs : List Binding} {d : Binding}
        → has_known_nonterminals (defined L) p ≡ true → have_known_nonterminals (defined L) os ≡ true → SplitRun L p os ts i D s cs d
        → RunLaid (at i D s) p os ts cs d
    split_run-laid p os {D = D} {s = s} k m (run_here h r) = run_laid_more (at zero D s) k (item_splits h) (run-laid p os k m r)
    split_run-laid p os {D = D} {s = s} k m (run_there {k = i} h r) = run_laid_more (at (suc i) D s) k (item_before h) (split_run-laid p os k m r)
    split_run-laid p os {i = i} {D = D} {s = s} k m (run_behind u) = run_laid_end (at i D s) (split_items-laid os m u)

  -- turns of which the rules speak have lengths and goals
  pub run_used-laid : {f : Focus} (p : Pattern) (os : Items) {ts : Trees} {cs : List Binding} {d : Binding}
      → has_known_nonterminals (defined L) p ≡ true → have_known_nonterminals (defined L) os ≡ true → RunUsed L f p os ts cs d
      → RunLaid f p os ts cs d
  run_used-laid p os k m (run_matches r) = run-laid p os k m r
  run_used-laid p os k m (run_splits r) = split_run-laid p os k m r

  -- so have items
  pub used-laid : {f : Focus} (os : Items) {ts : Trees} {b : Binding} → have_known_nonterminals (defined L) os ≡ true → AreUsed L f os ts b
      → SomeLaid f os ts b
  used-laid os k (all_match u) = items-laid os k u
  used-laid os k (one_splits u) = split_items-laid os k u
