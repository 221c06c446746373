-- Items in two parts split terms where these come in two parts: one part of the items splits its terms, and the other matches its own.
use Rattle.std.proofs.Common.{◌≡◌, ℕ, suc, ◌+◌, Option, List, [], ◌∷◌, ◌++◌, length, refl, sym, ◌∙◌, ap, subst, arith}
use Rattle.rdx_term.specs.Tree.{Tree, Trees, trees}
use Rattle.rdx_lang.proofs.CollectionLaws.{repetition-ascends}
use Rattle.rdx_lang.proofs.JoinLaws.{join_ascends, unit_right, unit_right-only, turned_join}
use Rattle.rdx_lang.proofs.Joins.{joined_first, joined_last}
use Rattle.rdx_lang.proofs.NameLaws.{names-ascend, match-ascends, items-ascends, run-ascends, split-ascends}
use Rattle.rdx_lang.specs.Bindings.{Binding, HasAscendingNames}
use Rattle.rdx_lang.specs.Collections.{IsRepetition}
use Rattle.rdx_lang.specs.Join.{IsJoin}
use Rattle.rdx_lang.specs.Names.{names}
use Rattle.rdx_lang.specs.Patterns.{Pattern, Items, Language}
use Rattle.rdx_lang.specs.PatternView.{Slot, just, repeated, items_of}
use Rattle.rdx_lang.specs.Rules.{Match, MatchItems, MatchRun, match_none, match_one, match_many, run_end, run_more}
use Rattle.rdx_bind.proofs.Extended.{one_spot}
use Rattle.rdx_bind.proofs.PartedItems.{MatchParts, match_parts, RunParts, run_parts, parts_match, parts_run}
use Rattle.rdx_bind.specs.Rows.{JoinedSpot}
use Rattle.rdx_bind.specs.Spots.{Spot, PlacedAt, ItemsSplitAt, splits_here, splits_behind, splits_many, RunSplitsAt, run_splits_here, run_splits_there, run_splits_behind}

-- the terms come in two parts; the first items split theirs and the others match theirs, or the other way
pub data SplitParts (L : Language) (n : ℕ) (xs ys : List Slot) (ts : List Tree) (r : Spot) : Type 0 where
  first_split : (us vs : List Tree) {s : Spot} {d : Binding} → ts ≡ us ++ vs → ItemsSplitAt L n (items_of xs) (trees us) s → MatchItems L (items_of ys) (trees vs) d
      → JoinedSpot s d r → SplitParts L n xs ys ts r
  other_split : (us vs : List Tree) {s : Spot} {c : Binding} → ts ≡ us ++ vs → MatchItems L (items_of xs) (trees us) c
      → ItemsSplitAt L (n + length us) (items_of ys) (trees vs) s → JoinedSpot s c r → SplitParts L n xs ys ts r

-- the same of a run of p before the first items
data RunSplitParts (L : Language) (n : ℕ) (p : Pattern) (xs ys : List Slot) (ts : List Tree) (ks : List ℕ) (cs : List Binding) (b : Binding) : Type 0 where
  first_run : (us vs : List Tree) {c d : Binding} → ts ≡ us ++ vs → RunSplitsAt L n p (items_of xs) (trees us) ks cs c → MatchItems L (items_of ys) (trees vs) d
      → IsJoin c d b → RunSplitParts L n p xs ys ts ks cs b
  other_run : (us vs : List Tree) {s : Spot} {c : Binding} → ts ≡ us ++ vs → MatchRun L p (items_of xs) (trees us) cs c
      → ItemsSplitAt L (n + length us) (items_of ys) (trees vs) s → ks ≡ s.path → IsJoin c s.binding b → RunSplitParts L n p xs ys ts ks cs b

module _ {L : Language} where
  -- ---- finite maps

  -- what items bind as they split is a finite map
  pub items_split_map : {n : ℕ} {ps : Items} {ts : Trees} {r : Spot} → ItemsSplitAt L n ps ts r → HasAscendingNames r.binding
  items_split_map (splits_here h g j e) = join_ascends j
  items_split_map (splits_behind h g j e) = join_ascends j
  items_split_map (splits_many h e j) = join_ascends j

  -- so is what the items behind a run bind
  run_split_map : {n : ℕ} {p : Pattern} {ps : Items} {ts : Trees} {ks : List ℕ} {cs : List Binding} {d : Binding} → RunSplitsAt L n p ps ts ks cs d → HasAscendingNames d
  run_split_map (run_splits_here h m e) = run-ascends m
  run_split_map (run_splits_there m h) = run_split_map h
  run_split_map (run_splits_behind g e) = items_split_map g

  -- and what a pattern binds as it splits a term of a list
  placed_map : {n : ℕ} {p : Pattern} {t : Tree} {r : Spot} → PlacedAt L n p t r → HasAscendingNames r.binding
  placed_map h = subst (λ (b : Binding). HasAscendingNames b) (sym h.placed.binding) (split-ascends h.split.split)

  -- ---- from all to the parts

  -- a run that ends before items that split
  run_ends : {n : ℕ} {p : Pattern} {xs ys : List Slot} {ts : List Tree} {s : Spot} {ks : List ℕ} → ks ≡ s.path → SplitParts L n xs ys ts s → RunSplitParts L n p xs ys ts ks [] s.binding
  run_ends e (first_split us vs t h m p) = first_run us vs t (run_splits_behind h (e ∙ p.path)) m p.joined
  run_ends {s = r} e (other_split us vs {s = s} {c = c} t m h p) = other_run us vs t (run_end m) h (e ∙ p.path) (turned_join s.binding c r.binding p.joined)

  -- a run with one turn more
  run_goes : {n : ℕ} {p : Pattern} {xs ys : List Slot} {t : Tree} {ts : List Tree} {ks : List ℕ} {cs : List Binding} {c d : Binding} → Match L p t c
      → RunSplitParts L (suc n) p xs ys ts ks cs d → RunSplitParts L n p xs ys (t ∷ ts) ks (c ∷ cs) d
  run_goes {t = t} m (first_run us vs e h g j) = first_run (t ∷ us) vs (ap (λ (ws : List Tree). t ∷ ws) e) (run_splits_there m h) g j
  run_goes {n} {ys = ys} {t = t} m (other_run us vs {s = s} e r h k j) =
      let z : suc n + length us ≡ n + suc (length us) = omega arith in
      other_run (t ∷ us) vs (ap (λ (ws : List Tree). t ∷ ws) e) (run_more m r) (subst (λ (i : ℕ). ItemsSplitAt L i (items_of ys) (trees vs) s) z h) k j

  -- a run, one of whose turns splits its term
  run_turns : {n : ℕ} {p : Pattern} {xs ys : List Slot} {t : Tree} {ts : List Tree} {s : Spot} {ks : List ℕ} {cs : List Binding} {d : Binding} → PlacedAt L n p t s → ks ≡ s.path
      → RunParts L p xs ys ts cs d → RunSplitParts L n p xs ys (t ∷ ts) ks (s.binding ∷ cs) d
  run_turns {t = t} h e k = first_run (t ∷ k.firsts) k.others (ap (λ (us : List Tree). t ∷ us) k.terms) (run_splits_here h k.run e) k.others_matched k.joined

  -- a run before items in two parts, where these split terms in two parts
  run_split_parts : {p : Pattern} {cs : List Binding} {ks : List ℕ} (xs ys : List Slot)
      → ((n : ℕ) (ts : List Tree) (r : Spot) → ItemsSplitAt L n (items_of (xs ++ ys)) (trees ts) r → SplitParts L n xs ys ts r)
      → (n : ℕ) (ts : List Tree) (d : Binding) → RunSplitsAt L n p (items_of (xs ++ ys)) (trees ts) ks cs d → RunSplitParts L n p xs ys ts ks cs d
  run_split_parts xs ys behind n [] d (run_splits_behind {s = s} h e) = run_ends e (behind n [] s h)
  run_split_parts xs ys behind n (t ∷ ts) d (run_splits_behind {s = s} h e) = run_ends e (behind n (t ∷ ts) s h)
  run_split_parts xs ys behind n (t ∷ ts) d (run_splits_there m h) = run_goes m (run_split_parts xs ys behind (suc n) ts d h)
  run_split_parts xs ys behind n (t ∷ ts) d (run_splits_here h m e) = run_turns h e (run_parts xs ys (λ us b g. match_parts xs ys us b g) ts d m)

  -- an item that matches, before items in two parts
  one_before : {n : ℕ} {p : Pattern} {xs ys : List Slot} {t : Tree} {ts : List Tree} {c : Binding} {s r : Spot} → Match L p t c → IsJoin c s.binding r.binding → r.path ≡ s.path
      → SplitParts L (suc n) xs ys ts s → SplitParts L n (just p ∷ xs) ys (t ∷ ts) r
  one_before {t = t} {c = c} {s = s} {r = r} h j e (first_split us vs {s = u} {d = d} a q m p) =
      let l = joined_first c u.binding d s.binding r.binding (match-ascends h) (items_split_map q) p.joined j in
      let v : Spot = record { path = u.path; binding = l.0 } in
      first_split (t ∷ us) vs {s = v} (ap (λ (ws : List Tree). t ∷ ws) a) (splits_behind h q l.1 refl) m (record { joined = l.2; path = e ∙ p.path })
  one_before {n} {ys = ys} {t = t} {c = c} {s = s} {r = r} h j e (other_split us vs {s = u} {c = f} a m q p) =
      let l = joined_first c f u.binding s.binding r.binding (match-ascends h) (items-ascends m) (turned_join u.binding f s.binding p.joined) j in
      let z : suc n + length us ≡ n + suc (length us) = omega arith in
      other_split (t ∷ us) vs (ap (λ (ws : List Tree). t ∷ ws) a) (match_one h m l.1) (subst (λ (i : ℕ). ItemsSplitAt L i (items_of ys) (trees vs) u) z q)
      (record { joined = turned_join l.0 u.binding r.binding l.2; path = e ∙ p.path })

  -- an item that splits, before them
  one_splits : {n : ℕ} {p : Pattern} {xs ys : List Slot} {t : Tree} {ts : List Tree} {d : Binding} {s r : Spot} → PlacedAt L n p t s → IsJoin s.binding d r.binding → r.path ≡ s.path
      → MatchParts L xs ys ts d → SplitParts L n (just p ∷ xs) ys (t ∷ ts) r
  one_splits {t = t} {d = d} {s = s} {r = r} h j e k =
      let l = joined_first s.binding k.first k.other d r.binding (placed_map h) (items-ascends k.firsts_matched) k.joined j in
      let v : Spot = record { path = s.path; binding = l.0 } in
      first_split (t ∷ k.firsts) k.others {s = v} (ap (λ (ws : List Tree). t ∷ ws) k.terms) (splits_here h k.firsts_matched l.1 refl) k.others_matched (record { joined = l.2; path = e })

  -- a repetition before them
  many_before : {n : ℕ} {p : Pattern} {x : Option (List ℕ)} {xs ys : List Slot} {ts : List Tree} {cs : List Binding} {c d : Binding} {r : Spot} → IsRepetition (names p) cs x c
      → IsJoin c d r.binding → RunSplitParts L n p xs ys ts r.path cs d → SplitParts L n (repeated p x ∷ xs) ys ts r
  many_before {p = p} {c = c} {d = d} {r = r} e j (first_run us vs {c = f} {d = o} a h m k) =
      let l = joined_first c f o d r.binding (repetition-ascends (names-ascend p) e) (run_split_map h) k j in
      let v : Spot = record { path = r.path; binding = l.0 } in
      first_split us vs {s = v} a (splits_many h e l.1) m (record { joined = l.2; path = refl })
  many_before {p = p} {c = c} {d = d} {r = r} e j (other_run us vs {s = u} {c = f} a h q g k) =
      let l = joined_first c f u.binding d r.binding (repetition-ascends (names-ascend p) e) (run-ascends h) k j in
      other_split us vs a (match_many h e l.1) q (record { joined = turned_join l.0 u.binding r.binding l.2; path = g })

  -- items in two parts split terms in two parts
  pub split_parts : (xs ys : List Slot) (n : ℕ) (ts : List Tree) (r : Spot) → ItemsSplitAt L n (items_of (xs ++ ys)) (trees ts) r → SplitParts L n xs ys ts r
  split_parts [] ys n ts r h =
      let z : n ≡ n + 0 = omega arith in
      other_split [] ts refl match_none (subst (λ (i : ℕ). ItemsSplitAt L i (items_of ys) (trees ts) r) z h)
      (record { joined = unit_right r.binding (items_split_map h); path = refl })
  split_parts (just p ∷ xs) ys n [] r h = elim h [ ]
  split_parts (just p ∷ xs) ys n (t ∷ ts) r (splits_here {d = d} h g j e) = one_splits h j e (match_parts xs ys ts d g)
  split_parts (just p ∷ xs) ys n (t ∷ ts) r (splits_behind {s = s} h g j e) = one_before h j e (split_parts xs ys (suc n) ts s g)
  split_parts (repeated p x ∷ xs) ys n ts r (splits_many {d = d} h e j) =
      many_before e j (run_split_parts xs ys (λ i us s g. split_parts xs ys i us s g) n ts d h)

  -- ---- from the parts to all

  -- a run before the first items, one of whose terms is split, and the items behind them
  first_run_splits : {p : Pattern} {cs : List Binding} {ks : List ℕ} (xs ys : List Slot) (vs : List Tree) (d : Binding) → MatchItems L (items_of ys) (trees vs) d
      → ((n : ℕ) (us : List Tree) (s r : Spot) → ItemsSplitAt L n (items_of xs) (trees us) s → JoinedSpot s d r → ItemsSplitAt L n (items_of (xs ++ ys)) (trees (us ++ vs)) r)
      → (n : ℕ) (us : List Tree) (c b : Binding) → RunSplitsAt L n p (items_of xs) (trees us) ks cs c → IsJoin c d b
      → RunSplitsAt L n p (items_of (xs ++ ys)) (trees (us ++ vs)) ks cs b
  first_run_splits xs ys vs d m both n [] c b (run_splits_behind {s = s} h e) j =
      let r : Spot = record { path = s.path; binding = b } in
      run_splits_behind (both n [] s r h (record { joined = j; path = refl })) e
  first_run_splits xs ys vs d m both n (u ∷ us) c b (run_splits_behind {s = s} h e) j =
      let r : Spot = record { path = s.path; binding = b } in
      run_splits_behind (both n (u ∷ us) s r h (record { joined = j; path = refl })) e
  first_run_splits xs ys vs d m both n (u ∷ us) c b (run_splits_there g h) j = run_splits_there g (first_run_splits xs ys vs d m both (suc n) us c b h j)
  first_run_splits xs ys vs d m both n (u ∷ us) c b (run_splits_here h g e) j =
      run_splits_here h (parts_run xs ys vs d (λ ws f a k i. parts_match xs ys ws vs f d a k m i) us c b g j) e

  -- the first items split theirs
  pub parts_split_first : (xs ys : List Slot) (n : ℕ) (us vs : List Tree) (s r : Spot) (d : Binding) → ItemsSplitAt L n (items_of xs) (trees us) s → MatchItems L (items_of ys) (trees vs) d
      → JoinedSpot s d r → ItemsSplitAt L n (items_of (xs ++ ys)) (trees (us ++ vs)) r
  parts_split_first [] ys n us vs s r d h m p = elim h [ ]
  parts_split_first (just p ∷ xs) ys n [] vs s r d h m q = elim h [ ]
  parts_split_first (just p ∷ xs) ys n (u ∷ us) vs s r d (splits_here {s = t} {d = c} h g j e) m q =
      let l = joined_last t.binding c d s.binding r.binding (items-ascends g) (items-ascends m) j q.joined in
      splits_here h (parts_match xs ys us vs c d l.0 g m l.1) l.2 (q.path ∙ e)
  parts_split_first (just p ∷ xs) ys n (u ∷ us) vs s r d (splits_behind {s = t} {c = c} h g j e) m q =
      let l = joined_last c t.binding d s.binding r.binding (items_split_map g) (items-ascends m) j q.joined in
      let v : Spot = record { path = t.path; binding = l.0 } in
      splits_behind h (parts_split_first xs ys (suc n) us vs t v d g m (record { joined = l.1; path = refl })) l.2 (q.path ∙ e)
  parts_split_first (repeated p x ∷ xs) ys n us vs s r d (splits_many {cs = cs} {c = c} {d = f} h e j) m q =
      let l = joined_last c f d s.binding r.binding (run_split_map h) (items-ascends m) j q.joined in
      let h' : RunSplitsAt L n p (items_of xs) (trees us) r.path cs f = subst (λ (ks : List ℕ). RunSplitsAt L n p (items_of xs) (trees us) ks cs f) (sym q.path) h in
      splits_many (first_run_splits xs ys vs d m (λ i ws a b g k. parts_split_first xs ys i ws vs a b d g m k) n us f l.0 h' l.1) e l.2

  -- a run before the first items, and items behind them that split theirs
  other_run_splits : {p : Pattern} {cs : List Binding} (xs ys : List Slot) (vs : List Tree) (s : Spot)
      → ((n : ℕ) (us : List Tree) (c : Binding) (r : Spot) → MatchItems L (items_of xs) (trees us) c → ItemsSplitAt L (n + length us) (items_of ys) (trees vs) s → JoinedSpot s c r
      → ItemsSplitAt L n (items_of (xs ++ ys)) (trees (us ++ vs)) r)
      → (n : ℕ) (us : List Tree) (c : Binding) (r : Spot) → MatchRun L p (items_of xs) (trees us) cs c → ItemsSplitAt L (n + length us) (items_of ys) (trees vs) s → JoinedSpot s c r
      → RunSplitsAt L n p (items_of (xs ++ ys)) (trees (us ++ vs)) r.path cs r.binding
  other_run_splits xs ys vs s both n [] c r (run_end h) k q = run_splits_behind (both n [] c r h k q) refl
  other_run_splits xs ys vs s both n (u ∷ us) c r (run_end h) k q = run_splits_behind (both n (u ∷ us) c r h k q) refl
  other_run_splits xs ys vs s both n (u ∷ us) c r (run_more h g) k q =
      let z : n + suc (length us) ≡ suc n + length us = omega arith in
      run_splits_there h (other_run_splits xs ys vs s both (suc n) us c r g (subst (λ (i : ℕ). ItemsSplitAt L i (items_of ys) (trees vs) s) z k) q)

  -- the other items split theirs
  pub parts_split_other : (xs ys : List Slot) (n : ℕ) (us vs : List Tree) (s r : Spot) (c : Binding) → MatchItems L (items_of xs) (trees us) c
      → ItemsSplitAt L (n + length us) (items_of ys) (trees vs) s → JoinedSpot s c r → ItemsSplitAt L n (items_of (xs ++ ys)) (trees (us ++ vs)) r
  parts_split_other [] ys n [] vs s r c match_none k q =
      let z : n + 0 ≡ n = omega arith in
      let same : s ≡ r = one_spot s r (sym q.path) (sym (unit_right-only (items_split_map k) q.joined)) in
      subst (λ (u : Spot). ItemsSplitAt L n (items_of ys) (trees vs) u) same (subst (λ (i : ℕ). ItemsSplitAt L i (items_of ys) (trees vs) s) z k)
  parts_split_other [] ys n (u ∷ us) vs s r c h k q = elim h [ ]
  parts_split_other (just p ∷ xs) ys n [] vs s r c h k q = elim h [ ]
  parts_split_other (just p ∷ xs) ys n (u ∷ us) vs s r c (match_one {c = x} {d = y} h g i) k q =
      let l = joined_last x y s.binding c r.binding (items-ascends g) (items_split_map k) i (turned_join s.binding c r.binding q.joined) in
      let v : Spot = record { path = s.path; binding = l.0 } in
      let z : n + suc (length us) ≡ suc n + length us = omega arith in
      let k' : ItemsSplitAt L (suc n + length us) (items_of ys) (trees vs) s = subst (λ (o : ℕ). ItemsSplitAt L o (items_of ys) (trees vs) s) z k in
      splits_behind h (parts_split_other xs ys (suc n) us vs s v y g k' (record { joined = turned_join y s.binding l.0 l.1; path = refl })) l.2 q.path
  parts_split_other (repeated p o ∷ xs) ys n us vs s r c (match_many {cs = cs} {c = x} {d = y} h e i) k q =
      let l = joined_last x y s.binding c r.binding (run-ascends h) (items_split_map k) i (turned_join s.binding c r.binding q.joined) in
      let v : Spot = record { path = r.path; binding = l.0 } in
      let w : JoinedSpot s y v = record { joined = turned_join y s.binding l.0 l.1; path = q.path } in
      splits_many (other_run_splits xs ys vs s (λ f us a b g m j. parts_split_other xs ys f us vs s b a g m j) n us y v h k w) e l.2
