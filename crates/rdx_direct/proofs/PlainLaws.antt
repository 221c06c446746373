-- Patterns that bind nothing: as they match and as they split, they bind no name, and no mismatch name.
use Rattle.std.proofs.Common.{◌≡◌, ◌∙◌, ℕ, Bool, true, IsTrue, List, [], ◌∷◌, Option, Some, None, refl, sym, ap, subst}
use Rattle.std.proofs.lemmas.Bool.{and_parts, and_from}
use Rattle.std.specs.Prelude.{◌↔◌}
use Rattle.rdx_term.specs.Tree.{Tree, Trees, cons}
use Rattle.rdx_lang.proofs.JoinLaws.{none_left, none_left-only, unit_left}
use Rattle.rdx_lang.proofs.NameLaws.{run-ascends}
use Rattle.rdx_lang.proofs.RuleSteps.{many_inside}
use Rattle.rdx_lang.specs.Bindings.{Binding, no_names}
use Rattle.rdx_lang.specs.Collections.{AreSetsOf, sets_of_none, sets_of_more, IsRepetition, without_length}
use Rattle.rdx_lang.specs.Join.{JoinsSets, IsJoin}
use Rattle.rdx_lang.specs.Members.{In, here, there}
use Rattle.rdx_lang.specs.Names.{names, item_names, add_names}
use Rattle.rdx_lang.specs.Patterns.{Pattern, wild, of_kind, except, prefix, hole, lit, nt, named, differ, in_hole, hide_hole, closed, seq, Items, nil, one, many, Language}
use Rattle.rdx_lang.specs.Rules.{Match, MatchItems, MatchRun, match_wild, match_kind, match_except, match_prefix, match_hole, match_lit, match_nt, match_named, match_differ, match_in_hole, match_hide_hole, match_closed, match_seq, match_none, match_one, match_many, run_end, run_more}
use Rattle.rdx_lang.specs.Rules.{Split, SplitItems, SplitRun, split_hole, split_nt, split_named, split_differ, split_in_hole, split_closed, split_seq, split_here, split_behind, split_many, run_here, run_there, run_behind}
use Rattle.rdx_bind.proofs.Namings.{match_under, under_inside}
use Rattle.rdx_bind.proofs.NoSets.{repetition_plain}
use Rattle.rdx_bind.proofs.NoSets.{nothing_bound as neither_bound}
use Rattle.rdx_bind.specs.Namings.{Naming, under, alone}
use Rattle.rdx_direct.proofs.GoingLaws.{alone-ascends}
use Rattle.rdx_direct.specs.Inside.Going.{Fits}
use Rattle.rdx_direct.specs.Inside.Plain.{is_plain, are_plain}

-- ---- their names

-- a repetition that binds nothing has no length name, and neither its pattern nor the items behind it bind anything
pub record PlainParts (p : Pattern) (n : Option (List ℕ)) (ps : Items) : Type 0 where
  pub unnamed : n ≡ None
  pub turns : is_plain p ≡ true
  pub behind : are_plain ps ≡ true

pub plain_parts : (p : Pattern) (n : Option (List ℕ)) (ps : Items) → are_plain (many p n ps) ≡ true → PlainParts p n ps
plain_parts p None ps e = let k = and_parts (is_plain p) (are_plain ps) e in record { unnamed = refl; turns = k.0; behind = k.1 }
plain_parts p (Some x) ps e = absurd cc

mutual
  -- they have none
  pub plain_names : (p : Pattern) → is_plain p ≡ true → names p ≡ []
  plain_names wild e = refl
  plain_names (of_kind k) e = refl
  plain_names (except rs) e = refl
  plain_names (prefix r) e = refl
  plain_names hole e = refl
  plain_names (lit u) e = refl
  plain_names (nt x) e = refl
  plain_names (named x q) e = absurd cc
  plain_names (differ x q) e = absurd cc
  plain_names (in_hole q r) e = let k = and_parts (is_plain q) (is_plain r) e in (λ i. add_names (plain_names q k.0 i) (plain_names r k.1 i))
  plain_names (hide_hole q) e = plain_names q e
  plain_names (closed q) e = refl
  plain_names (seq ps) e = plain_item_names ps e

  plain_item_names : (ps : Items) → are_plain ps ≡ true → item_names ps ≡ []
  plain_item_names nil e = refl
  plain_item_names (one p ps) e = let k = and_parts (is_plain p) (are_plain ps) e in (λ i. add_names (plain_names p k.0 i) (plain_item_names ps k.1 i))
  plain_item_names (many p None ps) e = let k = and_parts (is_plain p) (are_plain ps) e in (λ i. add_names (plain_names p k.0 i) (plain_item_names ps k.1 i))
  plain_item_names (many p (Some x) ps) e = absurd cc

-- ---- what they bind

-- what is joined of nothing and nothing
join_empty : {a b c : Binding} → IsJoin a b c → a ≡ no_names → b ≡ no_names → c ≡ no_names
join_empty {a} {b} {c} j e f = none_left-only (subst (λ d. IsJoin no_names d c) f (subst (λ d. IsJoin d b c) e j))

-- these bind nothing
abbrev pub AreEmpty : List Binding → Type 0
AreEmpty cs = (b : Binding) → In b cs → b ≡ no_names

pub more_empty : {c : Binding} {cs : List Binding} → c ≡ no_names → AreEmpty cs → AreEmpty (c ∷ cs)
more_empty e f b (here g) = g ∙ e
more_empty e f b (there i) = f b i

-- a repetition whose turns bind nothing
repetition_empty : {xs : List (List ℕ)} {cs : List Binding} {c : Binding} → xs ≡ [] → AreEmpty cs → IsRepetition xs cs None c → c ≡ no_names
repetition_empty {c = c} e f (without_length h) =
    neither_bound c (h.names ∙ e) (repetition_plain (without_length h) (λ b i. ap (λ (d : Binding). d.differs) (f b i)))

-- the same, of a pattern that binds nothing
plain_repetition : (p : Pattern) {n : Option (List ℕ)} {cs : List Binding} {c : Binding} → is_plain p ≡ true → n ≡ None → AreEmpty cs
    → IsRepetition (names p) cs n c → c ≡ no_names
plain_repetition p {n} {cs} {c} e f g r = repetition_empty (plain_names p e) g (subst (λ m. IsRepetition (names p) cs m c) f r)

mutual
  -- a match
  pub match-empty : {L : Language} {p : Pattern} {t : Tree} {b : Binding} → is_plain p ≡ true → Match L p t b → b ≡ no_names
  match-empty e match_wild = refl
  match-empty e (match_kind h) = refl
  match-empty e (match_except h) = refl
  match-empty e (match_prefix h) = refl
  match-empty e match_hole = refl
  match-empty e (match_lit h) = refl
  match-empty e (match_nt a h) = refl
  match-empty e (match_named h j) = absurd cc
  match-empty e (match_differ h j) = absurd cc
  match-empty e (match_in_hole {q = q} {r = r} h g j) =
      let k = and_parts (is_plain q) (is_plain r) e in join_empty j (split-empty k.0 h) (match-empty k.1 g)
  match-empty e (match_hide_hole h) = match-empty e h
  match-empty e (match_closed h) = refl
  match-empty e (match_seq h) = items-empty e h

  -- of items
  pub items-empty : {L : Language} {ps : Items} {ts : Trees} {b : Binding} → are_plain ps ≡ true → MatchItems L ps ts b → b ≡ no_names
  items-empty e match_none = refl
  items-empty e (match_one {p = p} {ps = ps} h g j) =
      let k = and_parts (is_plain p) (are_plain ps) e in join_empty j (match-empty k.0 h) (items-empty k.1 g)
  items-empty e (match_many {p = p} {n = n} {ps = ps} h r j) =
      let k = plain_parts p n ps e in join_empty j (plain_repetition p k.turns k.unnamed (turns-empty k.turns h) r) (behind-empty k.behind h)

  -- in the turns of a run
  pub turns-empty : {L : Language} {p : Pattern} {ps : Items} {ts : Trees} {cs : List Binding} {d : Binding} → is_plain p ≡ true → MatchRun L p ps ts cs d → AreEmpty cs
  turns-empty e (run_end g) = λ b i. elim i [ ]
  turns-empty e (run_more h r) = more_empty (match-empty e h) (turns-empty e r)

  -- and behind them
  pub behind-empty : {L : Language} {p : Pattern} {ps : Items} {ts : Trees} {cs : List Binding} {d : Binding} → are_plain ps ≡ true → MatchRun L p ps ts cs d → d ≡ no_names
  behind-empty e (run_end g) = items-empty e g
  behind-empty e (run_more h r) = behind-empty e r

  -- a split
  pub split-empty : {L : Language} {p : Pattern} {t C s : Tree} {b : Binding} → is_plain p ≡ true → Split L p t C s b → b ≡ no_names
  split-empty e split_hole = refl
  split-empty e (split_nt a h) = refl
  split-empty e (split_named h j) = absurd cc
  split-empty e (split_differ h j) = absurd cc
  split-empty e (split_in_hole {q = q} {r = r} h g f j) =
      let k = and_parts (is_plain q) (is_plain r) e in join_empty j (split-empty k.0 h) (split-empty k.1 g)
  split-empty e (split_closed h) = refl
  split-empty e (split_seq h f) = split_items-empty e h

  -- of items
  split_items-empty : {L : Language} {ps : Items} {ts : Trees} {k : ℕ} {D s : Tree} {b : Binding} → are_plain ps ≡ true → SplitItems L ps ts k D s b → b ≡ no_names
  split_items-empty e (split_here {p = p} {ps = ps} h g j) =
      let k = and_parts (is_plain p) (are_plain ps) e in join_empty j (split-empty k.0 h) (items-empty k.1 g)
  split_items-empty e (split_behind {p = p} {ps = ps} h g j) =
      let k = and_parts (is_plain p) (are_plain ps) e in join_empty j (match-empty k.0 h) (split_items-empty k.1 g)
  split_items-empty e (split_many {p = p} {n = n} {ps = ps} h r j) =
      let k = plain_parts p n ps e in join_empty j (plain_repetition p k.turns k.unnamed (split_turns-empty k.turns h) r) (split_behind-empty k.behind h)

  -- in the turns of a run of which one is split
  split_turns-empty : {L : Language} {p : Pattern} {ps : Items} {ts : Trees} {k : ℕ} {D s : Tree} {cs : List Binding} {d : Binding} → is_plain p ≡ true
      → SplitRun L p ps ts k D s cs d → AreEmpty cs
  split_turns-empty e (run_here h r) = more_empty (split-empty e h) (turns-empty e r)
  split_turns-empty e (run_there h r) = more_empty (match-empty e h) (split_turns-empty e r)
  split_turns-empty e (run_behind g) = λ b i. elim i [ ]

  -- and behind them
  split_behind-empty : {L : Language} {p : Pattern} {ps : Items} {ts : Trees} {k : ℕ} {D s : Tree} {cs : List Binding} {d : Binding} → are_plain ps ≡ true
      → SplitRun L p ps ts k D s cs d → d ≡ no_names
  split_behind-empty e (run_here h r) = behind-empty e r
  split_behind-empty e (run_there h r) = split_behind-empty e r
  split_behind-empty e (run_behind g) = split_items-empty e g

-- ---- what they match

-- turns that bind nothing have no sets
no_sets : (cs : List Binding) → AreEmpty cs → AreSetsOf cs []
no_sets [] h = sets_of_none
no_sets (c ∷ cs) h =
    sets_of_more (no_sets cs (λ b i. h b (there i))) (subst (λ (d : Binding). JoinsSets d.differs [] []) (sym (h c (here refl))) none_left.differs)

-- a repetition of them binds nothing
pub nothing_repeated : (p : Pattern) {cs : List Binding} → is_plain p ≡ true → AreEmpty cs → IsRepetition (names p) cs None no_names
nothing_repeated p {cs} e f = subst (λ xs. IsRepetition xs cs None no_names) (sym (plain_names p e))
    (without_length (record { names = refl; sequences = λ x v i. elim i [ ]; differs = no_sets cs f }))

module _ {L : Language} where
  -- what matches binds nothing
  pub nothing_bound : {p : Pattern} {t : Tree} {b : Binding} → is_plain p ≡ true → Match L p t b → Match L p t no_names
  nothing_bound {p} {t} e m = subst (Match L p t) (match-empty e m) m

  pub nothing_bound_by_items : {ps : Items} {ts : Trees} {b : Binding} → are_plain ps ≡ true → MatchItems L ps ts b → MatchItems L ps ts no_names
  nothing_bound_by_items {ps} {ts} e m = subst (MatchItems L ps ts) (items-empty e m) m

  -- what a run and the items behind it match, a repetition matches
  pub run_matches : {p : Pattern} {ps : Items} {ts : Trees} {cs : List Binding} {d : Binding} → is_plain p ≡ true → are_plain ps ≡ true → MatchRun L p ps ts cs d → MatchItems L (many p None ps) ts no_names
  run_matches {p} {ps} {d = d} e f r =
      nothing_bound_by_items (and_from (is_plain p) (are_plain ps) e f) (match_many r (nothing_repeated p e (turns-empty e r)) (unit_left d (run-ascends r)))

  -- one turn more
  pub one_turn_more : {p : Pattern} {ps : Items} {t : Tree} {ts : Trees} {b : Binding} → is_plain p ≡ true → are_plain ps ≡ true → Match L p t b → MatchItems L (many p None ps) ts no_names → MatchItems L (many p None ps) (cons t ts) no_names
  one_turn_more e f h m = let i = many_inside m in run_matches e f (run_more h i.run)

  -- no turn more
  pub no_turn_more : {p : Pattern} {ps : Items} {ts : Trees} → is_plain p ≡ true → are_plain ps ≡ true → MatchItems L ps ts no_names → MatchItems L (many p None ps) ts no_names
  no_turn_more e f m = run_matches e f (run_end m)

-- ---- under a name

-- a pattern with a name or a mismatch name matches exactly where its part does, if that binds nothing
pub fits_under : {L : Language} {q : Pattern} {t : Tree} (n : Naming) (so : Bool) → is_plain q ≡ true → (IsTrue so ↔ Fits L q t)
    → (IsTrue so ↔ Fits L (under n q) t)
fits_under {L} {q} {t} n so e f = (onward, back)
  where
    onward : IsTrue so → Fits L (under n q) t
    onward h =
        let k = f.0 h in
        record {
          binding = alone n t;
          matched =
              match_under n k.matched
              (subst (λ c. IsJoin c (alone n t) (alone n t)) (sym (match-empty e k.matched)) (unit_left (alone n t) (alone-ascends n t)));
        }

    back : Fits L (under n q) t → IsTrue so
    back k = let i = under_inside n k.matched in f.1 (record { binding = i.inside; matched = i.matched })
