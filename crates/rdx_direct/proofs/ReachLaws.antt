-- Where patterns that bind nothing split a term, as far as another pattern may match the part.
use Rattle.std.proofs.Common.{◌≡◌, ◌∙◌, ◌⊎◌, inl, inr, ℕ, zero, suc, ◌+◌, ◌≤◌, Bool as Truth, true, false, IsTrue, IsFalse, List, [], ◌∷◌, length, Option, Some, None, refl, sym, ap, subst, arith}
use Rattle.std.proofs.lemmas.Bool.{and_parts}
use Rattle.std.specs.Prelude.{◌↔◌, ◌&&◌, ◌||◌, not}
use Rattle.rdx_term.specs.AtPaths.{tree_at}
use Rattle.rdx_term.specs.Path.{path}
use Rattle.rdx_term.proofs.PutItems.{path_at-put}
use Rattle.rdx_term.specs.Items.{tree_items}
use Rattle.rdx_term.specs.Tree.{Tree, Trees, cons, list, trees}
use Rattle.rdx_term.specs.Tree.{nil as no_trees}
use Rattle.rdx_term.specs.Tree.{hole as the_hole}
use Rattle.rdx_lang.proofs.Collecting.{In_along, no_member}
use Rattle.rdx_lang.proofs.JoinLaws.{none_left}
use Rattle.rdx_lang.proofs.NameLaws.{items-ascends}
use Rattle.rdx_lang.proofs.RuleSteps.{hole_inside, seq_splits, nt_splits, hole_splits, list_inside, item_inside, many_inside, run_at_end, run_at_term, RunParts, ended, turned}
use Rattle.rdx_lang.proofs.SplitLaws.{split-along, items-along}
use Rattle.rdx_lang.specs.Bindings.{Binding, no_names}
use Rattle.rdx_lang.specs.Collecting.{HasExactly}
use Rattle.rdx_lang.specs.Join.{IsJoin}
use Rattle.rdx_lang.specs.Laws.{IsAlongPath}
use Rattle.rdx_lang.specs.Members.{In, here, there}
use Rattle.rdx_lang.specs.Patterns.{Pattern, Items, nil, one, many, seq, nt, hole, Language}
use Rattle.rdx_lang.specs.Rules.{AreAlternatives, Match, match_none, MatchItems, MatchRun, Split, match_hole, split_nt, split_hole, match_seq, SplitItems, SplitRun, match_one, split_here, split_behind, split_many, run_here, run_there, run_behind}
use Rattle.rdx_bind.proofs.SplitRules.{at_its_path, path_there}
use Rattle.rdx_bind.proofs.SplitItems.{list_splits}
use Rattle.rdx_lang.specs.Shown.{bindings_of}
use Rattle.rdx_lang.specs.declared.binding.Binding as code
use Rattle.rdx_lang.specs.declared.pattern.Ref.{Ref}
use Rattle.rdx_bind.specs.Searching.{AnyMatches, SplitsNone}
use Rattle.rdx_bind.specs.Spots.{Spot, SplitsAt, PlacedAt, ItemsSplitAt, RunSplitsAt, splits_here, splits_behind, splits_many, run_splits_here, run_splits_there, run_splits_behind}
use Rattle.rdx_direct.proofs.GoingLaws.{goes_first, some_found, none_found}
use Rattle.rdx_direct.proofs.ItemLaws.{no_term}
use Rattle.rdx_direct.proofs.SplitLaws.{both_true, first_true, second_true}
use Rattle.rdx_direct.proofs.PlainLaws.{AreEmpty, more_empty, match-empty, turns-empty, behind-empty, split-empty, nothing_repeated, nothing_bound, nothing_bound_by_items, run_matches, one_turn_more, no_turn_more}
use Rattle.rdx_direct.specs.Inside.Going.{FitAll, Fits, Goes}
use Rattle.rdx_direct.specs.Inside.Wanted.{Anything}
use Rattle.rdx_direct.specs.Inside.Plain.{is_plain, are_plain}
use Rattle.rdx_direct.specs.Inside.Paths.{AreBoth, AreKeptAnd, Leads, LeadsWithin, NoPaths}
use Rattle.rdx_direct.specs.declared.paths.Paths.{Paths}
use Rattle.rdx_direct.specs.Inside.Reaching.{IsApart, Reached, AnyReached, PlacedReach, ItemsReach, reach_here, reach_behind, reach_ended, reach_turn, reach_past, Between}

-- ---- what binds nothing

along_zero : (n : ℕ) (ks : List ℕ) → (n + zero) ∷ ks ≡ n ∷ ks
along_zero n ks = let z : n + zero ≡ n = omega arith in ap (λ k. k ∷ ks) z

along_suc : (n k : ℕ) (ks : List ℕ) → (suc n + k) ∷ ks ≡ (n + suc k) ∷ ks
along_suc n k ks = let z : suc n + k ≡ n + suc k = omega arith in ap (λ j. j ∷ ks) z

-- the spot of this path, with no names
abbrev pub spot_at : List ℕ → Spot
spot_at w = record { path = w; binding = no_names }

-- what is joined to no names binds nothing
only_second : {c : Binding} (d : Binding) → IsJoin c d no_names → IsJoin no_names d no_names
only_second d j = record {
  pairs = record { map = tt; sound = λ p i. inl i; left = λ p i. i; right = λ p i. j.pairs.right p i };
  differs = record { sets = (tt, tt); sound = λ u i. inl i; left = λ u i. i; right = λ u i. j.differs.right u i; apart = λ u i k. no_member i };
}

module _ {L : Language} where
  pub fits_nothing : {p : Pattern} {t : Tree} → is_plain p ≡ true → Fits L p t → Match L p t no_names
  fits_nothing e f = nothing_bound e f.matched

  -- ---- from a split on

  -- a split with a part that is matched
  pub reached_split : {Q : Tree → Type 0} {p : Pattern} {t C s : Tree} {c : Binding} → Split L p t C s c → Q s → Reached L Q p t (path C)
  reached_split {Q} {t = t} {C = C} {c = c} h f = let a : IsAlongPath t C _ = split-along h in record { binding = c; split = at_its_path h; wanted = subst Q a.part f }

  -- where a run splits a term, for what its items do
  run_reaches : {Q : Tree → Type 0} {p : Pattern} {ps : Items} → is_plain p ≡ true → are_plain ps ≡ true
      → ((n k : ℕ) (ts : Trees) (D s : Tree) (b : Binding) → SplitItems L ps ts k D s b → Q s → ItemsReach L Q n ps ts ((n + k) ∷ path D))
      → (n k : ℕ) (ts : Trees) (D s : Tree) (cs : List Binding) (d : Binding) → SplitRun L p ps ts k D s cs d → Q s → ItemsReach L Q n (many p None ps) ts ((n + k) ∷ path D)
  run_reaches e f items n zero (cons t ts) D s cs d (run_here h m) g = reach_turn (record { path = path D; along = along_zero n (path D); reached = reached_split h g }) (run_matches e f m)
  run_reaches {Q} {p} {ps} e f items n (suc k) (cons t ts) D s cs d (run_there {c = c} m h) g =
      subst (ItemsReach L Q n (many p None ps) (cons t ts)) (along_suc n k (path D)) (reach_past (record { binding = c; matched = m }) (run_reaches e f items (suc n) k ts D s _ d h g))
  run_reaches e f items n k ts D s cs d (run_behind h) g = reach_ended (items n k ts D s d h g)

  -- where items split a term
  pub items_reach : {Q : Tree → Type 0} (ps : Items) → are_plain ps ≡ true → (n k : ℕ) (ts : Trees) (D s : Tree) (b : Binding) → SplitItems L ps ts k D s b → Q s → ItemsReach L Q n ps ts ((n + k) ∷ path D)
  items_reach nil e n k ts D s b h g = elim h [ ]
  items_reach (one p ps) e n zero (cons t ts) D s b (split_here h m j) g =
      reach_here (record { path = path D; along = along_zero n (path D); reached = reached_split h g }) (nothing_bound_by_items (and_parts (is_plain p) (are_plain ps) e).1 m)
  items_reach {Q} (one p ps) e n (suc k) (cons t ts) D s b (split_behind {c = c} {d = d} m h j) g =
      subst (ItemsReach L Q n (one p ps) (cons t ts)) (along_suc n k (path D)) (reach_behind (record { binding = c; matched = m }) (items_reach ps (and_parts (is_plain p) (are_plain ps) e).1 (suc n) k ts D s d h g))
  items_reach (one p ps) e n zero no_trees D s b h g = elim h [ ]
  items_reach (one p ps) e n (suc k) no_trees D s b h g = elim h [ ]
  items_reach (many p None ps) e n k ts D s b (split_many {cs = cs} {d = d} h o j) g =
      let a = and_parts (is_plain p) (are_plain ps) e in
      run_reaches a.0 a.1 (λ i l us E u c q f. items_reach ps a.1 i l us E u c q f) n k ts D s cs d h g
  items_reach (many p (Some x) ps) e n k ts D s b h g = absurd cc

  -- ---- back to a split

  -- a pattern that binds nothing splits there with no names
  pub split_there : {Q : Tree → Type 0} {p : Pattern} {t : Tree} {w : List ℕ} → is_plain p ≡ true → Reached L Q p t w → SplitsAt L p t (spot_at w)
  split_there {Q} {p} {t} {w} e h = subst (λ b. SplitsAt L p t (record { path = w; binding = b })) (split-empty e h.split.split) h.split

  placed_there : {Q : Tree → Type 0} {p : Pattern} {n : ℕ} {t : Tree} {w : List ℕ} → is_plain p ≡ true → PlacedReach L Q n p t w → PlacedAt L n p t (spot_at w)
  placed_there e h = record { spot = spot_at h.path; split = split_there e h.reached; placed = record { path = h.along; binding = refl } }

  -- the turns of a run of which one is split bind nothing
  run_turns-empty : {n : ℕ} {p : Pattern} {ps : Items} {ts : Trees} {w : List ℕ} {cs : List Binding} {d : Binding} → is_plain p ≡ true → RunSplitsAt L n p ps ts w cs d → AreEmpty cs
  run_turns-empty e (run_splits_here h m q) = more_empty (h.placed.binding ∙ split-empty e h.split.split) (turns-empty e m)
  run_turns-empty e (run_splits_there m h) = more_empty (match-empty e m) (run_turns-empty e h)
  run_turns-empty e (run_splits_behind h q) = λ b i. no_member i

  -- a repetition splits where a run of it does
  many_splits_at : {n : ℕ} {p : Pattern} {ps : Items} {ts : Trees} {w : List ℕ} {cs : List Binding} {d : Binding} → is_plain p ≡ true → d ≡ no_names → RunSplitsAt L n p ps ts w cs d → ItemsSplitAt L n (many p None ps) ts (spot_at w)
  many_splits_at {n} {p} {ps} {ts} {w} {cs} e f h = splits_many (subst (RunSplitsAt L n p ps ts w cs) f h) (nothing_repeated p e (run_turns-empty e h)) none_left

  past : {n : ℕ} {p : Pattern} {ps : Items} {t : Tree} {ts : Trees} (w : List ℕ) → is_plain p ≡ true → Fits L p t → ItemsSplitAt L (suc n) (many p None ps) ts (spot_at w) → ItemsSplitAt L n (many p None ps) (cons t ts) (spot_at w)
  past {p = p} w e f (splits_many {d = d} h o j) = splits_many (run_splits_there (fits_nothing e f) h) (nothing_repeated p e (more_empty refl (run_turns-empty e h))) (only_second d j)

  -- items split where they reach
  pub reach_splits : {Q : Tree → Type 0} {n : ℕ} {ps : Items} {ts : Trees} {w : List ℕ} → are_plain ps ≡ true → ItemsReach L Q n ps ts w → ItemsSplitAt L n ps ts (spot_at w)
  reach_splits {ps = nil} e h = elim h [ ]
  reach_splits {ps = many p (Some x) ps} e h = elim h [ ]
  reach_splits {ps = one p ps} e (reach_here h m) = splits_here (placed_there (and_parts (is_plain p) (are_plain ps) e).0 h) m none_left refl
  reach_splits {ps = one p ps} e (reach_behind f h) = let a = and_parts (is_plain p) (are_plain ps) e in splits_behind (fits_nothing a.0 f) (reach_splits a.1 h) none_left refl
  reach_splits {ps = many p None ps} e (reach_ended h) = let a = and_parts (is_plain p) (are_plain ps) e in many_splits_at a.0 refl (run_splits_behind (reach_splits a.1 h) refl)
  reach_splits {ps = many p None ps} e (reach_turn h m) =
      let a = and_parts (is_plain p) (are_plain ps) e in
      let i = many_inside m in
      many_splits_at a.0 (behind-empty a.1 i.run) (run_splits_here (placed_there a.0 h) i.run refl)
  reach_splits {ps = many p None ps} {w = w} e (reach_past f h) = past w (and_parts (is_plain p) (are_plain ps) e).0 f (reach_splits e h)

  -- a list pattern splits where its items reach
  pub list_reached : {Q : Tree → Type 0} {ps : Items} {m : Option ℕ} {ts : Trees} {w : List ℕ} → are_plain ps ≡ true → ItemsReach L Q 0 ps ts w → Reached L Anything (seq ps) (list m ts) w
  list_reached {w = w} e h = record { binding = no_names; split = list_splits (spot_at w) (reach_splits e h); wanted = tt }

  -- and only there
  pub reached_list : {Q : Tree → Type 0} {ps : Items} {m : Option ℕ} {ts : Trees} {w : List ℕ} → are_plain ps ≡ true → Reached L Q (seq ps) (list m ts) w → ItemsReach L Q 0 ps ts w
  reached_list {Q} {ps} {m} {ts} {w} e h =
      let i = seq_splits h.split.split in
      let same : i.items ≡ ts = sym (ap tree_items i.same) in
      let z : i.place ≡ 0 + i.place = omega arith in
      let along : (0 + i.place) ∷ path i.inner ≡ w = sym (sym (path_there (record { path = w; binding = h.binding }) h.split) ∙ ap path i.around
      ∙ ap (λ (js : List ℕ). i.place ∷ js) (path_at-put i.items i.place i.inner (items-along i.split).inside) ∙ ap (λ (l : ℕ). l ∷ path i.inner) z) in
      let there : ItemsReach L Q 0 ps i.items ((0 + i.place) ∷ path i.inner) = items_reach ps e 0 i.place i.items i.inner _ h.binding i.split h.wanted in
      subst (ItemsReach L Q 0 ps ts) along (subst (λ us. ItemsReach L Q 0 ps us ((0 + i.place) ∷ path i.inner)) same there)

-- ---- paths that are found

-- where nothing is found since nothing splits
pub between_nothing : {S R : List ℕ → Type 0} {P : Paths} → NoPaths P → ((w : List ℕ) → S w → ⊥) → Between S R P
between_nothing e f = record { sound = λ w p. absurd (e w p); complete = λ w s. absurd (f w s) }

-- between others
pub between_as : {S R T U : List ℕ → Type 0} {ss : Paths} → ((w : List ℕ) → T w → S w) → ((w : List ℕ) → R w → U w) → Between S R ss → Between T U ss
between_as f g b = record { sound = λ w p. g w (b.sound w p); complete = λ w t. b.complete w (f w t) }

-- ---- a walk over items

-- the rest is reached at w, where all before match; or an item before is, and the rest matches
abbrev pub RestReach : (L : Language) → (Tree → Type 0) → ℕ → Items → Trees → Paths → Truth → List ℕ → Type 0
RestReach L Q n ps ts ss all w = (IsTrue all × ItemsReach L Q n ps ts w) ⊎ (Leads ss w × MatchItems L ps ts no_names)

-- whatever comes of the rest comes of all, and what comes of all comes of the rest
pub record StillReach (L : Language) (Q : Tree → Type 0) (i : ℕ) (whole : Items) (all_terms : Trees) (n : ℕ) (ps : Items) (ts : Trees) (ss : Paths) (all : Truth) : Type 0 where
  pub plain : are_plain ps ≡ true
  pub onward : (w : List ℕ) → RestReach L Anything n ps ts ss all w → ItemsReach L Anything i whole all_terms w
  pub back : (w : List ℕ) → ItemsReach L Q i whole all_terms w → RestReach L Q n ps ts ss all w
  pub some : IsTrue all → MatchItems L ps ts no_names → MatchItems L whole all_terms no_names
  pub every : MatchItems L whole all_terms no_names → IsTrue all × MatchItems L ps ts no_names

-- an item with no term
no_term_reached : {L : Language} {n : ℕ} {q : Tree → Type 0} {p : Pattern} {ps : Items} {w : List ℕ} → ItemsReach L q n (one p ps) no_trees w → ⊥
no_term_reached h = elim h [ ]

-- no items reach anything
pub no_item_reached : {L : Language} {n : ℕ} {q : Tree → Type 0} {ts : Trees} {w : List ℕ} → ItemsReach L q n nil ts w → ⊥
no_item_reached h = elim h [ ]

module _ {L : Language} {Q : Tree → Type 0} where
  -- at the start
  pub reach_start : (n : ℕ) (ps : Items) (ts : Trees) (ss : Paths) → are_plain ps ≡ true → NoPaths ss → StillReach L Q n ps ts n ps ts ss true
  reach_start n ps ts ss e f = record {
    plain = e;
    onward = λ w. elim [ inl h ↦ h.1 | inr h ↦ absurd (f w h.0) ];
    back = λ w h. inl (refl, h);
    some = λ a m. m;
    every = λ m. (refl, m);
  }

  -- behind one item more
  pub reach_next : (i : ℕ) (whole : Items) (all_terms : Trees) (n : ℕ) {p : Pattern} {ps qs : Items} {t : Tree} {ts us : Trees} (ss more new : Paths) (all so : Truth) → qs ≡ one p ps → us ≡ cons t ts
      → (IsTrue so ↔ Fits L p t) → Between (λ w. IsTrue all × PlacedReach L Q n p t w) (λ w. IsTrue all × PlacedReach L Anything n p t w) more
      → AreKeptAnd so ss more new → StillReach L Q i whole all_terms n qs us ss all → StillReach L Q i whole all_terms (suc n) ps ts new (all && so)
  reach_next i whole all_terms n {p} {ps} {qs} {t} {ts} {us} ss more new all so e f fit reach kept s = record {
    plain = apart.1;
    onward = λ w h. s.onward w (along w (before w h));
    back = λ w h. further w (against w (s.back w h));
    some = λ a m. s.some (first_true all so a) (subst (λ x. MatchItems L x us no_names) (sym e) (subst (λ x. MatchItems L (one p ps) x no_names) (sym f) (match_one (fit_nothing (second_true all so a)) m none_left)));
    every = λ m. let k = s.every m in let g = item_inside (subst (λ x. MatchItems L (one p ps) x no_names) f (subst (λ x. MatchItems L x us no_names) e k.1)) in
        (both_true all so k.0 (fit.1 (record { binding = g.first; matched = g.first_matched })), nothing_bound_by_items apart.1 g.rest_matched);
  }
    where
      apart : (is_plain p ≡ true) × (are_plain ps ≡ true)
      apart = and_parts (is_plain p) (are_plain ps) (ap are_plain (sym e) ∙ s.plain)

      fit_nothing : IsTrue so → Match L p t no_names
      fit_nothing h = fits_nothing apart.0 (fit.0 h)

      along : (w : List ℕ) → RestReach L Anything n (one p ps) (cons t ts) ss all w → RestReach L Anything n qs us ss all w
      along w h = subst (λ x. RestReach L Anything n x us ss all w) (sym e) (subst (λ x. RestReach L Anything n (one p ps) x ss all w) (sym f) h)

      against : (w : List ℕ) → RestReach L Q n qs us ss all w → RestReach L Q n (one p ps) (cons t ts) ss all w
      against w h = subst (λ x. RestReach L Q n (one p ps) x ss all w) f (subst (λ x. RestReach L Q n x us ss all w) e h)

      further : (w : List ℕ) → RestReach L Q n (one p ps) (cons t ts) ss all w → RestReach L Q (suc n) ps ts new (all && so) w
      further w (inl (a, reach_here h m)) = inr ((kept w).1 (inr (reach.complete w (a, h))), m)
      further w (inl (a, reach_behind g h)) = inl (both_true all so a (fit.1 g), h)
      further w (inr (k, m)) = let g = item_inside m in
          inr ((kept w).1 (inl (fit.1 (record { binding = g.first; matched = g.first_matched }), k)), nothing_bound_by_items apart.1 g.rest_matched)

      before : (w : List ℕ) → RestReach L Anything (suc n) ps ts new (all && so) w → RestReach L Anything n (one p ps) (cons t ts) ss all w
      before w (inl (a, h)) = inl (first_true all so a, reach_behind (fit.0 (second_true all so a)) h)
      before w (inr (k, m)) = elim ((kept w).0 k) [
        | inl g ↦ inr (g.1, match_one (fit_nothing g.0) m none_left)
        | inr g ↦ let q = reach.sound w g in inl (q.0, reach_here q.1 m)
      ]

  module _ (i : ℕ) (whole : Items) (all_terms : Trees) (n : ℕ) (ss : Paths) (all : Truth) where
    -- where the rest does not match and is not reached, nothing is
    pub reach_none : {qs : Items} {us : Trees} {bs : Paths} → NoPaths bs → StillReach L Q i whole all_terms n qs us ss all → ((w : List ℕ) → RestReach L Q n qs us ss all w → ⊥)
        → Between (ItemsReach L Q i whole all_terms) (ItemsReach L Anything i whole all_terms) bs
    reach_none e s f = between_nothing e (λ w h. f w (s.back w h))

    pub reach_short : {p : Pattern} {ps qs : Items} {us : Trees} {bs : Paths} → qs ≡ one p ps → us ≡ no_trees → NoPaths bs → StillReach L Q i whole all_terms n qs us ss all
        → Between (ItemsReach L Q i whole all_terms) (ItemsReach L Anything i whole all_terms) bs
    reach_short {p} {ps} {qs} {us} e f g s = reach_none g s (λ w h. never w (subst (λ x. RestReach L Q n (one p ps) x ss all w) f (subst (λ x. RestReach L Q n x us ss all w) e h)))
      where
        never : (w : List ℕ) → RestReach L Q n (one p ps) no_trees ss all w → ⊥
        never w (inl h) = no_term_reached h.1
        never w (inr h) = no_term h.1

    pub short_unmatched : {p : Pattern} {ps qs : Items} {us : Trees} → qs ≡ one p ps → us ≡ no_trees → StillReach L Q i whole all_terms n qs us ss all → MatchItems L whole all_terms no_names → ⊥
    short_unmatched {p} {ps} {qs} {us} e f s m = no_term (subst (λ x. MatchItems L (one p ps) x no_names) f (subst (λ x. MatchItems L x us no_names) e (s.every m).1))

    -- where nothing is found and not all match
    pub reach_over : {qs : Items} {us : Trees} {bs : Paths} → NoPaths ss → all ≡ false → NoPaths bs → StillReach L Q i whole all_terms n qs us ss all
        → Between (ItemsReach L Q i whole all_terms) (ItemsReach L Anything i whole all_terms) bs
    reach_over {qs} {us} e f g s = reach_none g s never
      where
        never : (w : List ℕ) → RestReach L Q n qs us ss all w → ⊥
        never w (inl h) = let k : IsTrue all = h.0 in absurd cc
        never w (inr h) = e w h.0

    pub over_unmatched : {qs : Items} {us : Trees} → all ≡ false → StillReach L Q i whole all_terms n qs us ss all → MatchItems L whole all_terms no_names → ⊥
    over_unmatched f s m = let k : IsTrue all = (s.every m).0 in absurd cc

    -- where the rest is worked out by itself
    pub reach_rest : {qs : Items} {us : Trees} (more new : Paths) (so : Truth) → (IsTrue so ↔ MatchItems L qs us no_names)
        → Between (λ w. IsTrue all × ItemsReach L Q n qs us w) (λ w. IsTrue all × ItemsReach L Anything n qs us w) more → AreKeptAnd so ss more new
        → StillReach L Q i whole all_terms n qs us ss all → Between (ItemsReach L Q i whole all_terms) (ItemsReach L Anything i whole all_terms) new
    reach_rest {qs} {us} more new so f b kept s = record {
      sound = λ w p. s.onward w (elim ((kept w).0 p) [ inl g ↦ inr (g.1, f.0 g.0) | inr g ↦ inl (b.sound w g) ]);
      complete = λ w h. (kept w).1 (elim (s.back w h) [ inl g ↦ inr (b.complete w g) | inr g ↦ inl (f.1 g.1, g.0) ]);
    }

    pub rest_matched : {qs : Items} {us : Trees} (so : Truth) → (IsTrue so ↔ MatchItems L qs us no_names) → StillReach L Q i whole all_terms n qs us ss all → (IsTrue (all && so) ↔ MatchItems L whole all_terms no_names)
    rest_matched so f s = (λ h. s.some (first_true all so h) (f.0 (second_true all so h)), λ m. let k = s.every m in both_true all so k.0 (f.1 k.1))

-- behind one item more, for a walk that is at a place which is n
pub next_at : {L : Language} {Q : Tree → Type 0} (i : ℕ) (whole : Items) (all_terms : Trees) {n here : ℕ} {p : Pattern} {ps qs : Items} {t : Tree} {ts us : Trees} (ss more new : Paths) (all so : Truth) → here ≡ n → qs ≡ one p ps
    → us ≡ cons t ts → (IsTrue so ↔ Fits L p t) → Between (λ w. IsTrue all × PlacedReach L Q here p t w) (λ w. IsTrue all × PlacedReach L Anything here p t w) more → AreKeptAnd so ss more new
    → StillReach L Q i whole all_terms n qs us ss all → StillReach L Q i whole all_terms (suc n) ps ts new (all && so)
next_at {L} {Q} i whole all_terms {n} {here} {p} {t = t} ss more new all so at e f fit reach kept s =
    reach_next i whole all_terms n ss more new all so e f fit
    (subst (λ k. Between (λ w. IsTrue all × PlacedReach L Q k p t w) (λ w. IsTrue all × PlacedReach L Anything k p t w) more) at reach) kept s

-- a repetition and the items behind it, worked out by themselves
pub record RestDone (L : Language) (Q : Tree → Type 0) (i : ℕ) (whole : Items) (all_terms : Trees) (new : Paths) (fits : Truth) : Type 0 where
  pub reached : Between (ItemsReach L Q i whole all_terms) (ItemsReach L Anything i whole all_terms) new
  pub fit : IsTrue fits ↔ MatchItems L whole all_terms no_names

pub rest_done_at : {L : Language} {Q : Tree → Type 0} (i : ℕ) (whole : Items) (all_terms : Trees) {n here : ℕ} {qs rs : Items} {us vs : Trees} (ss more new : Paths) (all so : Truth) → here ≡ n → rs ≡ qs → vs ≡ us
    → (IsTrue so ↔ MatchItems L rs vs no_names) → Between (λ w. IsTrue all × ItemsReach L Q here rs vs w) (λ w. IsTrue all × ItemsReach L Anything here rs vs w) more → AreKeptAnd so ss more new
    → StillReach L Q i whole all_terms n qs us ss all → RestDone L Q i whole all_terms new (all && so)
rest_done_at {L} {Q} i whole all_terms {n} {here} {qs} {rs} {us} {vs} ss more new all so at e f fit reach kept s =
    let fit_here : IsTrue so ↔ MatchItems L qs us no_names = subst (λ x. IsTrue so ↔ MatchItems L x us no_names) e (subst (λ x. IsTrue so ↔ MatchItems L rs x no_names) f fit) in
    let reach_here : Between (λ w. IsTrue all × ItemsReach L Q n qs us w) (λ w. IsTrue all × ItemsReach L Anything n qs us w) more =
    subst (λ x. Between (λ w. IsTrue all × ItemsReach L Q n x us w) (λ w. IsTrue all × ItemsReach L Anything n x us w) more) e
    (subst (λ x. Between (λ w. IsTrue all × ItemsReach L Q n rs x w) (λ w. IsTrue all × ItemsReach L Anything n rs x w) more) f
    (subst (λ k. Between (λ w. IsTrue all × ItemsReach L Q k rs vs w) (λ w. IsTrue all × ItemsReach L Anything k rs vs w) more) at reach)) in
    record { reached = reach_rest i whole all_terms n ss all more new so fit_here reach_here kept s; fit = rest_matched i whole all_terms n ss all so fit_here s }

-- ---- one more turn at a time

-- what is found, and what the repetition reaches from here on, is what it reaches in all
pub record StillTurns (L : Language) (Q : Tree → Type 0) (p : Pattern) (ps : Items) (i : ℕ) (all_terms : Trees) (n : ℕ) (ts : Trees) (ss : Paths) (fits : Truth) : Type 0 where
  pub found : (w : List ℕ) → Leads ss w → ItemsReach L Anything i (many p None ps) all_terms w
  pub onward : (w : List ℕ) → ItemsReach L Anything n (many p None ps) ts w → ItemsReach L Anything i (many p None ps) all_terms w
  pub back : (w : List ℕ) → ItemsReach L Q i (many p None ps) all_terms w → Leads ss w ⊎ ItemsReach L Q n (many p None ps) ts w
  pub some_found : IsTrue fits → MatchItems L (many p None ps) all_terms no_names
  pub some : MatchItems L (many p None ps) ts no_names → MatchItems L (many p None ps) all_terms no_names
  pub every : MatchItems L (many p None ps) all_terms no_names → IsTrue fits ⊎ MatchItems L (many p None ps) ts no_names

either_true : (a b : Truth) → IsTrue (a || b) → IsTrue a ⊎ IsTrue b
either_true true b h = inl refl
either_true false b h = inr h

true_first : (a b : Truth) → IsTrue a → IsTrue (a || b)
true_first true b h = refl
true_first false b h = absurd cc

true_second : (a b : Truth) → IsTrue b → IsTrue (a || b)
true_second true b h = refl
true_second false b h = h

module _ {L : Language} {Q : Tree → Type 0} {p : Pattern} {ps : Items} (e : is_plain p ≡ true) (f : are_plain ps ≡ true) (i : ℕ) (all_terms : Trees) where
  pub turns_start : (ss : Paths) → NoPaths ss → StillTurns L Q p ps i all_terms i all_terms ss false
  turns_start ss z = record {
    found = λ w q. absurd (z w q);
    onward = λ w h. h;
    back = λ w h. inr h;
    some_found = λ h. absurd cc;
    some = λ m. m;
    every = λ m. inr m;
  }

  module _ (n : ℕ) (ts : Trees) (ss ends new : Paths) (fits so : Truth) (fit : IsTrue so ↔ MatchItems L ps ts no_names) (reach : Between (ItemsReach L Q n ps ts) (ItemsReach L Anything n ps ts) ends)
      (adds : AreBoth ss ends new) (s : StillTurns L Q p ps i all_terms n ts ss fits) where
    -- the ends are found
    end_found : (w : List ℕ) → Leads new w → ItemsReach L Anything i (many p None ps) all_terms w
    end_found w q = elim ((adds w).0 q) [ inl o ↦ s.found w o | inr o ↦ s.onward w (reach_ended (reach.sound w o)) ]

    kept_found : {w : List ℕ} → Leads ss w → Leads new w
    kept_found {w} q = (adds w).1 (inl q)

    added_found : {w : List ℕ} → Leads ends w → Leads new w
    added_found {w} q = (adds w).1 (inr q)

    some_ends : IsTrue (fits || so) → MatchItems L (many p None ps) all_terms no_names
    some_ends h = elim (either_true fits so h) [ inl a ↦ s.some_found a | inr a ↦ s.some (no_turn_more e f (fit.0 a)) ]

    -- at the end of the terms
    pub turns_done : ts ≡ no_trees → Between (ItemsReach L Q i (many p None ps) all_terms) (ItemsReach L Anything i (many p None ps) all_terms) new
    turns_done z = record {
      sound = end_found;
      complete = λ w k. elim (s.back w k) [ inl q ↦ kept_found q | inr q ↦ added_found (reach.complete w (only_end w (subst (λ us. ItemsReach L Q n (many p None ps) us w) z q))) ];
    }
      where
        only_end : (w : List ℕ) → ItemsReach L Q n (many p None ps) no_trees w → ItemsReach L Q n ps ts w
        only_end w (reach_ended k) = subst (λ us. ItemsReach L Q n ps us w) (sym z) k

    pub turns_done_fit : ts ≡ no_trees → (IsTrue (fits || so) ↔ MatchItems L (many p None ps) all_terms no_names)
    turns_done_fit z = (some_ends, λ m. elim (s.every m) [ inl a ↦ true_first fits so a | inr k ↦ true_second fits so (fit.1 (only_end (many_inside (subst (λ us. MatchItems L (many p None ps) us no_names) z k)).run)) ])
      where
        only_end : {cs : List Binding} {d : Binding} → MatchRun L p ps no_trees cs d → MatchItems L ps ts no_names
        only_end k = subst (λ us. MatchItems L ps us no_names) (sym z) (nothing_bound_by_items f (run_at_end k).1)

    module _ (t : Tree) (us : Trees) (turn kept final : Paths) (more : Truth) (z : ts ≡ cons t us) (turn_fit : IsTrue more ↔ Fits L p t)
        (turn_reach : Between (λ w. IsTrue true × PlacedReach L Q n p t w) (λ w. IsTrue true × PlacedReach L Anything n p t w) turn)
        (keeps : (w : List ℕ) → Leads kept w ↔ (Leads turn w × MatchItems L (many p None ps) us no_names)) (adds_turn : AreBoth new kept final) where
      all_found : (w : List ℕ) → Leads final w → ItemsReach L Anything i (many p None ps) all_terms w
      all_found w q = elim ((adds_turn w).0 q) [
        | inl o ↦ end_found w o
        | inr o ↦ let k = (keeps w).0 o in s.onward w (subst (λ vs. ItemsReach L Anything n (many p None ps) vs w) (sym z) (reach_turn (turn_reach.sound w k.0).1 k.1))
      ]

      still_found : {w : List ℕ} → Leads new w → Leads final w
      still_found {w} q = (adds_turn w).1 (inl q)

      turn_found : {w : List ℕ} → PlacedReach L Q n p t w → MatchItems L (many p None ps) us no_names → Leads final w
      turn_found {w} h m = (adds_turn w).1 (inr ((keeps w).1 (turn_reach.complete w (refl, h), m)))

      from_here : (w : List ℕ) → ItemsReach L Q n (many p None ps) (cons t us) w → Leads final w ⊎ (Fits L p t × ItemsReach L Q (suc n) (many p None ps) us w)
      from_here w (reach_ended k) = inl (still_found (added_found (reach.complete w (subst (λ vs. ItemsReach L Q n ps vs w) (sym z) k))))
      from_here w (reach_turn k m) = inl (turn_found k m)
      from_here w (reach_past g k) = inr (g, k)

      found_or_on : (w : List ℕ) → ItemsReach L Q i (many p None ps) all_terms w → Leads final w ⊎ (Fits L p t × ItemsReach L Q (suc n) (many p None ps) us w)
      found_or_on w h = elim (s.back w h) [ inl q ↦ inl (still_found (kept_found q)) | inr q ↦ from_here w (subst (λ vs. ItemsReach L Q n (many p None ps) vs w) z q) ]

      fit_here : {cs : List Binding} {d : Binding} → RunParts L p ps t us cs d → IsTrue so ⊎ (Fits L p t × MatchItems L (many p None ps) us no_names)
      fit_here (ended k) = inl (fit.1 (subst (λ vs. MatchItems L ps vs no_names) (sym z) (nothing_bound_by_items f k)))
      fit_here (turned {c = c} h k) = inr (record { binding = c; matched = h }, run_matches e f k)

      fit_or_on : MatchItems L (many p None ps) all_terms no_names → IsTrue (fits || so) ⊎ (Fits L p t × MatchItems L (many p None ps) us no_names)
      fit_or_on m = elim (s.every m) [
        | inl a ↦ inl (true_first fits so a)
        | inr k ↦ elim (fit_here (run_at_term (many_inside (subst (λ vs. MatchItems L (many p None ps) vs no_names) z k)).run)) [ inl a ↦ inl (true_second fits so a) | inr g ↦ inr g ]
      ]

      -- behind one turn more
      pub turns_next : more ≡ true → StillTurns L Q p ps i all_terms (suc n) us final (fits || so)
      turns_next y = record {
        found = all_found;
        onward = λ w h. s.onward w (subst (λ vs. ItemsReach L Anything n (many p None ps) vs w) (sym z) (reach_past (turn_fit.0 y) h));
        back = λ w h. elim (found_or_on w h) [ inl q ↦ inl q | inr q ↦ inr q.1 ];
        some_found = some_ends;
        some = λ m. s.some (subst (λ vs. MatchItems L (many p None ps) vs no_names) (sym z) (one_turn_more e f (turn_fit.0 y).matched m));
        every = λ m. elim (fit_or_on m) [ inl a ↦ inl a | inr k ↦ inr k.1 ];
      }

      no_fit : more ≡ false → Fits L p t → ⊥
      no_fit y g = let h : IsTrue more = turn_fit.1 g in absurd cc

      -- where there is none
      pub turns_last : more ≡ false → Between (ItemsReach L Q i (many p None ps) all_terms) (ItemsReach L Anything i (many p None ps) all_terms) final
      turns_last y = record { sound = all_found; complete = λ w k. elim (found_or_on w k) [ inl q ↦ q | inr q ↦ absurd (no_fit y q.0) ] }

      pub turns_last_fit : more ≡ false → (IsTrue (fits || so) ↔ MatchItems L (many p None ps) all_terms no_names)
      turns_last_fit y = (some_ends, λ m. elim (fit_or_on m) [ inl a ↦ a | inr k ↦ absurd (no_fit y k.0) ])

-- what comes of one turn more
pub record Turned (L : Language) (Q : Tree → Type 0) (p : Pattern) (ps : Items) (i : ℕ) (all_terms : Trees) (n : ℕ) (us : Trees) (final : Paths) (more fits : Truth) : Type 0 where
  pub next : more ≡ true → StillTurns L Q p ps i all_terms (suc n) us final fits
  pub last : more ≡ false → Between (ItemsReach L Q i (many p None ps) all_terms) (ItemsReach L Anything i (many p None ps) all_terms) final
  pub last_fit : more ≡ false → (IsTrue fits ↔ MatchItems L (many p None ps) all_terms no_names)

-- the same for a walk that is at a place which is n, with terms which are ts, and with items which are the repetition and those behind it
pub turned_at : {L : Language} {Q : Tree → Type 0} {p : Pattern} {ps from : Items} (i : ℕ) (all_terms : Trees) {n here : ℕ} {t : Tree} {us ts rest behind : Trees} (ss ends new turn kept final : Paths) (fits so more : Truth)
    → are_plain (many p None ps) ≡ true → from ≡ many p None ps → here ≡ n → ts ≡ cons t us → rest ≡ ts → behind ≡ us
    → (IsTrue so ↔ MatchItems L ps rest no_names) → Between (ItemsReach L Q here ps rest) (ItemsReach L Anything here ps rest) ends → AreBoth ss ends new
    → (IsTrue more ↔ Fits L p t) → Between (λ w. IsTrue true × PlacedReach L Q here p t w) (λ w. IsTrue true × PlacedReach L Anything here p t w) turn
    → ((w : List ℕ) → Leads kept w ↔ (Leads turn w × MatchItems L from behind no_names)) → AreBoth new kept final
    → StillTurns L Q p ps i all_terms n ts ss fits → Turned L Q p ps i all_terms n us final more (fits || so)
turned_at {L} {Q} {p} {ps} {from} i all_terms {n} {here} {t} {us} {ts} {rest} {behind} ss ends new turn kept final fits so more plain whole at here_terms same same_behind fit reach adds turn_fit turn_reach keeps adds_turn s =
    record { next = turns_next_here; last = turns_last_here; last_fit = turns_last_fit_here }
  where
    apart : (is_plain p ≡ true) × (are_plain ps ≡ true)
    apart = and_parts (is_plain p) (are_plain ps) plain

    fit_here : IsTrue so ↔ MatchItems L ps ts no_names
    fit_here = subst (λ x. IsTrue so ↔ MatchItems L ps x no_names) same fit

    reach_here : Between (ItemsReach L Q n ps ts) (ItemsReach L Anything n ps ts) ends
    reach_here = subst (λ x. Between (ItemsReach L Q n ps x) (ItemsReach L Anything n ps x) ends) same (subst (λ k. Between (ItemsReach L Q k ps rest) (ItemsReach L Anything k ps rest) ends) at reach)

    turn_here : Between (λ w. IsTrue true × PlacedReach L Q n p t w) (λ w. IsTrue true × PlacedReach L Anything n p t w) turn
    turn_here = subst (λ k. Between (λ w. IsTrue true × PlacedReach L Q k p t w) (λ w. IsTrue true × PlacedReach L Anything k p t w) turn) at turn_reach

    keeps_here : (w : List ℕ) → Leads kept w ↔ (Leads turn w × MatchItems L (many p None ps) us no_names)
    keeps_here = subst (λ x. (w : List ℕ) → Leads kept w ↔ (Leads turn w × MatchItems L (many p None ps) x no_names)) same_behind
        (subst (λ x. (w : List ℕ) → Leads kept w ↔ (Leads turn w × MatchItems L x behind no_names)) whole keeps)

    turns_next_here : more ≡ true → StillTurns L Q p ps i all_terms (suc n) us final (fits || so)
    turns_next_here = turns_next apart.0 apart.1 i all_terms n ts ss ends new fits so fit_here reach_here adds s t us turn kept final more here_terms turn_fit turn_here keeps_here adds_turn

    turns_last_here : more ≡ false → Between (ItemsReach L Q i (many p None ps) all_terms) (ItemsReach L Anything i (many p None ps) all_terms) final
    turns_last_here = turns_last apart.0 apart.1 i all_terms n ts ss ends new fits so fit_here reach_here adds s t us turn kept final more here_terms turn_fit turn_here keeps_here adds_turn

    turns_last_fit_here : more ≡ false → (IsTrue (fits || so) ↔ MatchItems L (many p None ps) all_terms no_names)
    turns_last_fit_here = turns_last_fit apart.0 apart.1 i all_terms n ts ss ends new fits so fit_here reach_here adds s t us turn kept final more here_terms turn_fit turn_here keeps_here adds_turn

-- what comes of the end of the terms
pub record TurnsDone (L : Language) (Q : Tree → Type 0) (p : Pattern) (ps : Items) (i : ℕ) (all_terms : Trees) (new : Paths) (fits : Truth) : Type 0 where
  pub reached : Between (ItemsReach L Q i (many p None ps) all_terms) (ItemsReach L Anything i (many p None ps) all_terms) new
  pub fit : IsTrue fits ↔ MatchItems L (many p None ps) all_terms no_names

pub done_at : {L : Language} {Q : Tree → Type 0} {p : Pattern} {ps : Items} (i : ℕ) (all_terms : Trees) {n here : ℕ} {ts rest : Trees} (ss ends new : Paths) (fits so : Truth)
    → are_plain (many p None ps) ≡ true → here ≡ n → ts ≡ no_trees → rest ≡ ts
    → (IsTrue so ↔ MatchItems L ps rest no_names) → Between (ItemsReach L Q here ps rest) (ItemsReach L Anything here ps rest) ends → AreBoth ss ends new
    → StillTurns L Q p ps i all_terms n ts ss fits → TurnsDone L Q p ps i all_terms new (fits || so)
done_at {L} {Q} {p} {ps} i all_terms {n} {here} {ts} {rest} ss ends new fits so plain at none same fit reach adds s =
    let apart : (is_plain p ≡ true) × (are_plain ps ≡ true) = and_parts (is_plain p) (are_plain ps) plain in
    let fit_here : IsTrue so ↔ MatchItems L ps ts no_names = subst (λ x. IsTrue so ↔ MatchItems L ps x no_names) same fit in
    let reach_here : Between (ItemsReach L Q n ps ts) (ItemsReach L Anything n ps ts) ends = subst (λ x. Between (ItemsReach L Q n ps x) (ItemsReach L Anything n ps x) ends) same
    (subst (λ k. Between (ItemsReach L Q k ps rest) (ItemsReach L Anything k ps rest) ends) at reach) in
    record {
      reached = turns_done apart.0 apart.1 i all_terms n ts ss ends new fits so fit_here reach_here adds s none;
      fit = turns_done_fit apart.0 apart.1 i all_terms n ts ss ends new fits so fit_here reach_here adds s none;
    }

-- ---- alternatives

-- what is found, and what the other patterns reach, is what all reach
pub record StillAny (L : Language) (Q : Tree → Type 0) (t : Tree) (all rest : List Pattern) (ss : Paths) (fits : Truth) : Type 0 where
  pub part : (p : Pattern) → In p rest → In p all
  pub found : (w : List ℕ) → Leads ss w → AnyReached L Anything all t w
  pub back : (w : List ℕ) → AnyReached L Q all t w → Leads ss w ⊎ AnyReached L Q rest t w
  pub some : IsTrue fits → AnyMatches L all t
  pub every : AnyMatches L all t → IsTrue fits ⊎ AnyMatches L rest t

module _ {L : Language} {Q : Tree → Type 0} (t : Tree) (all : List Pattern) where
  pub any_start : (ss : Paths) → NoPaths ss → StillAny L Q t all all ss false
  any_start ss z = record { part = λ p i. i; found = λ w q. absurd (z w q); back = λ w h. inr h; some = λ h. absurd cc; every = λ m. inr m }

  pub any_next : (p : Pattern) (rest more : List Pattern) (ss ends new : Paths) (fits so : Truth) → rest ≡ p ∷ more → (IsTrue so ↔ Fits L p t) → Between (Reached L Q p t) (Reached L Anything p t) ends
      → AreBoth ss ends new → StillAny L Q t all rest ss fits → StillAny L Q t all more new (fits || so)
  any_next p rest more ss ends new fits so e fit reach adds s = record {
    part = λ q i. s.part q (In_along (p ∷ more) rest (sym e) (there i));
    found = λ w q. elim ((adds w).0 q) [ inl o ↦ s.found w o | inr o ↦ record { pattern = p; among = first; reached = reach.sound w o } ];
    back = λ w h. elim (s.back w h) [
      | inl q ↦ inl ((adds w).1 (inl q))
      | inr q ↦ reached w (In_along rest (p ∷ more) e q.among) q.reached
    ];
    some = λ h. elim (either_true fits so h) [ inl a ↦ s.some a | inr a ↦ let g = fit.0 a in record { pattern = p; among = first; binding = g.binding; matched = g.matched } ];
    every = λ m. elim (s.every m) [ inl a ↦ inl (true_first fits so a) | inr q ↦ matched (In_along rest (p ∷ more) e q.among) q.matched ];
  }
    where
      first : In p all
      first = s.part p (In_along (p ∷ more) rest (sym e) (here refl))

      reached : {q : Pattern} (w : List ℕ) → In q (p ∷ more) → Reached L Q q t w → Leads new w ⊎ AnyReached L Q more t w
      reached w (here d) h = inl ((adds w).1 (inr (reach.complete w (subst (λ x. Reached L Q x t w) d h))))
      reached {q} w (there i) h = inr (record { pattern = q; among = i; reached = h })

      matched : {q : Pattern} {b : Binding} → In q (p ∷ more) → Match L q t b → IsTrue (fits || so) ⊎ AnyMatches L more t
      matched {b = b} (here d) m = inl (true_second fits so (fit.1 (record { binding = b; matched = subst (λ x. Match L x t b) d m })))
      matched {q} {b} (there i) m = inr (record { pattern = q; among = i; binding = b; matched = m })

  -- a pattern that neither matches nor splits
  pub any_skipped : (p : Pattern) (rest more : List Pattern) (ss : Paths) (fits : Truth) → rest ≡ p ∷ more → IsApart L p t → StillAny L Q t all rest ss fits → StillAny L Q t all more ss fits
  any_skipped p rest more ss fits e apart s = record {
    part = λ q i. s.part q (In_along (p ∷ more) rest (sym e) (there i));
    found = s.found;
    back = λ w h. elim (s.back w h) [ inl q ↦ inl q | inr q ↦ inr (reached w (In_along rest (p ∷ more) e q.among) q.reached) ];
    some = s.some;
    every = λ m. elim (s.every m) [ inl a ↦ inl a | inr q ↦ inr (matched (In_along rest (p ∷ more) e q.among) q.matched) ];
  }
    where
      reached : {q : Pattern} (w : List ℕ) → In q (p ∷ more) → Reached L Q q t w → AnyReached L Q more t w
      reached w (here d) h = absurd (apart.split_none _ (subst (λ x. Reached L Q x t w) d h).split)
      reached {q} w (there i) h = record { pattern = q; among = i; reached = h }

      matched : {q : Pattern} {b : Binding} → In q (p ∷ more) → Match L q t b → AnyMatches L more t
      matched {b = b} (here d) m = absurd (apart.match_none b (subst (λ x. Match L x t b) d m))
      matched {q} {b} (there i) m = record { pattern = q; among = i; binding = b; matched = m }

  pub any_done : {rest : List Pattern} {ss : Paths} {fits : Truth} → rest ≡ [] → StillAny L Q t all rest ss fits → Between (AnyReached L Q all t) (AnyReached L Anything all t) ss
  any_done {rest} e s = record { sound = s.found; complete = λ w k. elim (s.back w k) [ inl q ↦ q | inr q ↦ absurd (no_member (In_along rest [] e q.among)) ] }

  pub any_done_fit : {rest : List Pattern} {ss : Paths} {fits : Truth} → rest ≡ [] → StillAny L Q t all rest ss fits → (IsTrue fits ↔ AnyMatches L all t)
  any_done_fit {rest} e s = (s.some, λ m. elim (s.every m) [ inl a ↦ a | inr q ↦ absurd (no_member (In_along rest [] e q.among)) ])

-- ---- the forms of patterns

module _ {L : Language} where
  -- a nonterminal
  pub nt_reached : {Q : Tree → Type 0} {x : Ref} {t : Tree} {xs : Paths} (ps : List Pattern) → AreAlternatives L x ps → Between (AnyReached L Q ps t) (AnyReached L Anything ps t) xs → Between (Reached L Q (nt x) t) (Reached L Anything (nt x) t) xs
  nt_reached {Q} {x} {t} ps are = between_as
      (λ w h. let i = nt_splits h.split.split in record {
        pattern = i.0.pattern;
        among = (are i.0.pattern).1 i.0.alternative;
        reached = record { binding = i.0.binding; split = record { inside = h.split.inside; split = i.0.split }; wanted = h.wanted };
      })
      (λ w h. record { binding = no_names; split = record { inside = h.reached.split.inside; split = split_nt ((are h.pattern).0 h.among) h.reached.split.split }; wanted = tt })

  -- the hole is reached at the root alone
  at_root : {Q : Tree → Type 0} {t : Tree} {w : List ℕ} → Reached L Q hole t w → (w ≡ []) × Q t
  at_root {Q} {t} {w} h =
      let k = hole_splits h.split.split in
      let z : w ≡ [] = sym (path_there (record { path = w; binding = h.binding }) h.split) ∙ ap path k.0 in
      (z, subst (λ v. Q (tree_at t v)) z h.wanted)

  pub hole_matched : {t : Tree} (so : Truth) → (IsTrue so ↔ (t ≡ the_hole)) → (IsTrue so ↔ Fits L hole t)
  hole_matched {t} so f = (
    λ h. record { binding = no_names; matched = subst (λ u. Match L hole u no_names) (sym (f.0 h)) match_hole },
    λ k. f.1 (hole_inside k.matched).0,
  )

  pub hole_reached : {Q : Tree → Type 0} {t : Tree} {xs : Paths} → ((w : List ℕ) → Leads xs w ↔ (w ≡ [])) → Between (Reached L Q hole t) (Reached L Anything hole t) xs
  hole_reached {Q} {t} e = record {
    sound = λ w q. subst (Reached L Anything hole t) (sym ((e w).0 q)) (record { binding = no_names; split = record { inside = tt; split = split_hole }; wanted = tt });
    complete = λ w h. (e w).1 (at_root h).0;
  }

  pub hole_not_reached : {Q : Tree → Type 0} {t : Tree} {xs : Paths} → NoPaths xs → (Q t → ⊥) → Between (Reached L Q hole t) (Reached L Anything hole t) xs
  hole_not_reached e n = between_nothing e (λ w h. n (at_root h).1)

  -- what splits no term reaches nothing
  pub nothing_reached : {Q : Tree → Type 0} {p : Pattern} {t : Tree} {xs : Paths} → NoPaths xs → SplitsNone L p t → Between (Reached L Q p t) (Reached L Anything p t) xs
  nothing_reached {t = t} e n = between_nothing e (λ w h. n (record { path = w; binding = h.binding }) h.split)

  -- an item of a list
  pub placed_reached : {Q : Tree → Type 0} {p : Pattern} {t : Tree} (n : ℕ) (cs xs : Paths) → ((w : List ℕ) → Leads xs w ↔ LeadsWithin n cs w) → Between (Reached L Q p t) (Reached L Anything p t) cs
      → Between (λ w. IsTrue true × PlacedReach L Q n p t w) (λ w. IsTrue true × PlacedReach L Anything n p t w) xs
  placed_reached n cs xs h b = record {
    sound = λ w q. let a = (h w).0 q in (refl, record { path = a.path; along = a.along; reached = b.sound a.path a.among });
    complete = λ w k. (h w).1 (record { path = k.1.path; along = k.1.along; among = b.complete k.1.path k.1.reached });
  }

  -- a list pattern
  pub list_between : {Q : Tree → Type 0} {ps : Items} {ts : Trees} {xs : Paths} (t : Tree) (m : Option ℕ) → t ≡ list m ts → are_plain ps ≡ true → Between (ItemsReach L Q 0 ps ts) (ItemsReach L Anything 0 ps ts) xs
      → Between (Reached L Q (seq ps) t) (Reached L Anything (seq ps) t) xs
  list_between {Q} {ps} {ts} {xs} t m e f b = subst (λ u. Between (Reached L Q (seq ps) u) (Reached L Anything (seq ps) u) xs) (sym e) (between_as (λ w h. reached_list f h) (λ w h. list_reached f h) b)

  pub list_matched : {ps : Items} {ts : Trees} (t : Tree) (m : Option ℕ) (so : Truth) → t ≡ list m ts → are_plain ps ≡ true → (IsTrue so ↔ MatchItems L ps ts no_names) → (IsTrue so ↔ Fits L (seq ps) t)
  list_matched {ps} {ts} t m so e f g = (
    λ h. record { binding = no_names; matched = subst (λ u. Match L (seq ps) u no_names) (sym e) (match_seq (g.0 h)) },
    λ k. g.1 (nothing_bound_by_items f (list_inside (subst (λ u. Match L (seq ps) u k.binding) e k.matched))),
  )

  -- a term that is no list
  pub no_list_reached : {Q : Tree → Type 0} {ps : Items} {t : Tree} {xs : Paths} → NoPaths xs → ((m : Option ℕ) (ts : Trees) → t ≡ list m ts → ⊥) → Between (Reached L Q (seq ps) t) (Reached L Anything (seq ps) t) xs
  no_list_reached e n = between_nothing e (λ w h. let i = seq_splits h.split.split in n i.mark i.items i.same)

-- ---- whether items match, by what comes of the binding of no name

pub items_found : {L : Language} {ps : Items} {ts : Trees} (gs : List Binding) (bs : List code.Binding) (empty : Truth) → are_plain ps ≡ true → gs ≡ no_names ∷ [] → (IsTrue empty ↔ (length bs ≡ 0))
    → HasExactly (bindings_of bs) (Goes (MatchItems L ps ts) gs) → (IsTrue (not empty) ↔ MatchItems L ps ts no_names)
items_found {L} {ps} {ts} gs bs empty n e f h = (onward empty f, back empty f)
  where
    k : HasExactly (bindings_of bs) (MatchItems L ps ts)
    k = goes_first gs (bindings_of bs) (λ b r. items-ascends r) e h

    onward : (a : Truth) → (IsTrue a ↔ (length bs ≡ 0)) → IsTrue (not a) → MatchItems L ps ts no_names
    onward true g z = absurd cc
    onward false g z = let s = some_found bs (λ y. let w : IsTrue false = g.1 y in absurd cc) k in nothing_bound_by_items n s.1

    back : (a : Truth) → (IsTrue a ↔ (length bs ≡ 0)) → MatchItems L ps ts no_names → IsTrue (not a)
    back true g m = absurd (none_found bs (g.0 refl) k no_names m)
    back false g m = refl

-- whether items match, by what comes of the binding of no name
pub fit_found : {L : Language} {ps : Items} {ts : Trees} (gs : List Binding) (bs : List code.Binding) (empty : Truth) → gs ≡ no_names ∷ [] → (IsTrue empty ↔ (length bs ≡ 0))
    → HasExactly (bindings_of bs) (Goes (MatchItems L ps ts) gs) → FitAll L ps ts (not empty)
fit_found {L} {ps} {ts} gs bs empty e f h = record { some = λ g n. (items_found gs bs empty n e f h).0 g; none = back empty f }
  where
    back : (a : Truth) → (IsTrue a ↔ (length bs ≡ 0)) → IsFalse (not a) → (b : Binding) → ¬ MatchItems L ps ts b
    back true g n b m = none_found bs (g.0 refl) (goes_first gs (bindings_of bs) (λ c r. items-ascends r) e h) b m
    back false g n b m = absurd cc

-- where the items are done, only what was found before is reached, and no terms may be left
no_more_reached : {L : Language} {Q : Tree → Type 0} {n : ℕ} {qs : Items} {ts : Trees} {ss : Paths} {all : Truth} {w : List ℕ} → qs ≡ nil → RestReach L Q n qs ts ss all w → Leads ss w × MatchItems L nil ts no_names
no_more_reached {L} {Q} {n} {qs} {ts} {w = w} e (inl k) = absurd (no_item_reached (subst (λ x. ItemsReach L Q n x ts w) e k.1))
no_more_reached {L} {ts = ts} e (inr k) = (k.0, subst (λ x. MatchItems L x ts no_names) e k.1)

left_over : {L : Language} {b : Binding} (us : List Tree) → (us ≡ [] → ⊥) → MatchItems L nil (trees us) b → ⊥
left_over [] f m = f refl
left_over (u ∷ us) f m = elim m [ ]

-- where none are, all is reached that was found
pub reach_done : {L : Language} {Q : Tree → Type 0} (i : ℕ) (whole : Items) (all_terms : Trees) (n : ℕ) {qs : Items} (us : List Tree) (ss : Paths) (all : Truth) → qs ≡ nil → us ≡ []
    → StillReach L Q i whole all_terms n qs (trees us) ss all → Between (ItemsReach L Q i whole all_terms) (ItemsReach L Anything i whole all_terms) ss
reach_done {L} {Q} i whole all_terms n {qs} us ss all e f s = record {
  sound = λ w q. s.onward w (inr (q, subst (λ x. MatchItems L x (trees us) no_names) (sym e) (subst (λ vs. MatchItems L nil (trees vs) no_names) (sym f) match_none)));
  complete = λ w v. (no_more_reached e (s.back w v)).0;
}

-- and where some are left, nothing is reached
pub reach_left : {L : Language} {Q : Tree → Type 0} (i : ℕ) (whole : Items) (all_terms : Trees) (n : ℕ) {qs : Items} (us : List Tree) (ss : Paths) (all : Truth) {bs : Paths} → qs ≡ nil → (us ≡ [] → ⊥) → NoPaths bs
    → StillReach L Q i whole all_terms n qs (trees us) ss all → Between (ItemsReach L Q i whole all_terms) (ItemsReach L Anything i whole all_terms) bs
reach_left i whole all_terms n us ss all e f g s = between_nothing g (λ w v. left_over us f (no_more_reached e (s.back w v)).1)

-- whether all match is told by the items before then
pub done_matched : {L : Language} {Q : Tree → Type 0} (i : ℕ) (whole : Items) (all_terms : Trees) (n : ℕ) {qs : Items} (us : List Tree) (ss : Paths) (all : Truth) → qs ≡ nil → us ≡ []
    → StillReach L Q i whole all_terms n qs (trees us) ss all → (IsTrue all ↔ MatchItems L whole all_terms no_names)
done_matched {L} i whole all_terms n us ss all e f s = (
  λ h. s.some h (subst (λ x. MatchItems L x (trees us) no_names) (sym e) (subst (λ vs. MatchItems L nil (trees vs) no_names) (sym f) match_none)),
  λ m. (s.every m).0,
)

pub left_unmatched : {L : Language} {Q : Tree → Type 0} (i : ℕ) (whole : Items) (all_terms : Trees) (n : ℕ) {qs : Items} (us : List Tree) (ss : Paths) (all : Truth) → qs ≡ nil → (us ≡ [] → ⊥)
    → StillReach L Q i whole all_terms n qs (trees us) ss all → MatchItems L whole all_terms no_names → ⊥
left_unmatched {L} i whole all_terms n us ss all e f s m = left_over us f (subst (λ x. MatchItems L x (trees us) no_names) e (s.every m).1)

-- what is said not to match does not
pub unmatched : {X : Type 0} (a : Truth) → a ≡ false → (X → ⊥) → (IsTrue a ↔ X)
unmatched a e n = (λ h. absurd cc, λ x. absurd (n x))

-- the place behind as many
pub at_the_end : (n i k : ℕ) → i ≤ k → k ≤ i → n + k ≡ n + i
at_the_end n i k a b = omega (arith, a, b)
