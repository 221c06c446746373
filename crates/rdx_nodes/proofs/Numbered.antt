-- The pattern of a number that was made for a pattern.
use Rattle.std.proofs.Common.{◌≡◌, ◌<◌, ◌++◌, ◌⊎◌, inl, inr, ℕ, List, [], ◌∷◌, Bool, true, false, Result, Ok, Err, IfOk, length, refl, sym, ◌∙◌, ap, subst, arith, append_assoc, HashMap, Bor}
use Rattle.std.specs.Prelude.{◌↔◌}
use Rattle.std.proofs.lemmas.List.{map-append}
use Rattle.rdx_term.specs.Tree.{Tree}
use Rattle.rdx_lang.specs.Bindings.{Binding}
use Rattle.rdx_lang.specs.Members.{In, here}
use Rattle.rdx_lang.specs.Mismatches.{has_differ}
use Rattle.rdx_lang.specs.Patterns.{Pattern, closed, Items, Language}
use Rattle.rdx_lang.specs.PatternView.{Slot, items_of}
use Rattle.rdx_lang.specs.Rules.{Match}
use Rattle.rdx_lang.proofs.Collecting.{only}
use Rattle.rdx_lang.proofs.MemberLaws.{in-append, append-left, append-right}
use Rattle.rdx_bind.specs.Searching.{AnyMatches, AnySplits}
use Rattle.rdx_bind.specs.Spots.{Spot, SplitsAt}
use Rattle.rdx_nodes.specs.Nodes.{pattern_at, patterns_at, patterns_in, slot_at, slots_at, AreBelow, AreEntries, DoAsWell}
use Rattle.rdx_nodes.specs.Settings.{language_at, patterns_at_hand, DoesAsWell}
use Rattle.rdx_nodes.specs.Inside.Forgetting.{binders, Forgets, ForgetsItems, forgets_closed, forgets_open, forgets_one, forgets_many, LeavesOut, StandOnce}
use Rattle.rdx_nodes.specs.Inside.Numbering.{Adds, ForgetsSlot, forgets_just, forgets_repeated}
use Rattle.rdx_nodes.specs.Inside.Once.{is_once, AreTold, Tells}
use Rattle.rdx_nodes.specs.declared.node.Entry.{Entry}
use Rattle.rdx_nodes.specs.declared.node.Node.{Node}
use Rattle.rdx_nodes.specs.declared.setting.Setting.{Setting}
use Rattle.rdx_nodes.proofs.Adding.{adds-length, adds-patterns_at, adds-slots}
use Rattle.rdx_nodes.proofs.Forgetting.{match-same, split-same, some_match-same, some_split-same}
use Rattle.rdx_nodes.proofs.NodePatterns.{below-more, below-push, patterns_in-length}
use Rattle.rdx_nodes.proofs.OnceTold.{once_among, once_among-told, once_among-once, none-told, no_names-left}

-- ---- numbers that are made

-- the pattern with the number is p without the names that are told
abbrev pub IsLeft : {S : Type 0} → HashMap (Bor (List ℕ)) Bool S → List Pattern → Pattern → ℕ → Type 0
IsLeft m ps p n = (xs : List (List ℕ)) → AreTold xs m → Forgets xs p (pattern_at ps n)

-- it is where the pattern is q, and q is p without these names
pub left-made : {S E : Type 0} (m : HashMap (Bor (List ℕ)) Bool S) (r : Result ℕ E) (ps : List Pattern) (p q : Pattern)
    → ((xs : List (List ℕ)) → AreTold xs m → Forgets xs p q) → IfOk r (λ n. pattern_at ps n ≡ q) → IfOk r (IsLeft m ps p)
left-made m (Ok n) ps p q f e = λ xs t. subst (λ (z : Pattern). Forgets xs p z) (sym e) (f xs t)
left-made m (Err e) ps p q f h = tt

-- what another pattern is without names that its own map tells, p is without these
pub left-through : {S T E : Type 0} (m : HashMap (Bor (List ℕ)) Bool S) (k : HashMap (Bor (List ℕ)) Bool T) (r : Result ℕ E) (ps : List Pattern)
    (p q : Pattern)
    → ((n : ℕ) → IsLeft k ps q n → IsLeft m ps p n) → IfOk r (IsLeft k ps q) → IfOk r (IsLeft m ps p)
left-through m k (Ok n) ps p q f h = f n h
left-through m k (Err e) ps p q f h = tt

-- what is q without any names, p is where it is q
pub left-anyhow : {S E : Type 0} (m : HashMap (Bor (List ℕ)) Bool S) (r : Result ℕ E) (ps : List Pattern) (p q : Pattern) → p ≡ q
    → IfOk r (λ n. (xs : List (List ℕ)) → Forgets xs q (pattern_at ps n)) → IfOk r (IsLeft m ps p)
left-anyhow m (Ok n) ps p q e f = λ xs t. subst (λ (z : Pattern). Forgets xs z (pattern_at ps n)) (sym e) (f xs)
left-anyhow m (Err e) ps p q f h = tt

-- a closed pattern all of whose names stand once, and that has no mismatch names, is what is left of its part
pub left-open : {S E : Type 0} (k : HashMap (Bor (List ℕ)) Bool S) (r : Result ℕ E) (ps : List Pattern) (p : Pattern)
    → Tells k (binders p) → ((x : List ℕ) → In x (binders p) → is_once k x ≡ true) → has_differ p ≡ false → IfOk r (IsLeft k ps p)
    → IfOk r (λ n. (xs : List (List ℕ)) → Forgets xs (closed p) (pattern_at ps n))
left-open k (Ok n) ps p t all plain g = λ xs.
    let told_once = once_among-told k (binders p) t in
    let f = g (once_among k (binders p)) told_once in
    forgets_open (once_among-once k (binders p) t) f (no_names-left k (once_among k (binders p)) told_once p (pattern_at ps n) f all) plain
left-open k (Err e) ps p t all plain g = tt

-- another one is what is left of its part, closed
pub left-closed : {S E : Type 0} (k : HashMap (Bor (List ℕ)) Bool S) (r : Result ℕ E) (ps : List Pattern) (p q : Pattern)
    → Tells k (binders p) → ((xs : List (List ℕ)) → AreTold xs k → Forgets xs p q) → IfOk r (λ n. pattern_at ps n ≡ closed q)
    → IfOk r (λ n. (xs : List (List ℕ)) → Forgets xs (closed p) (pattern_at ps n))
left-closed k (Ok n) ps p q t f e = λ xs.
    subst (λ (z : Pattern). Forgets xs (closed p) z) (sym e)
    (forgets_closed (once_among-once k (binders p) t) (f (once_among k (binders p)) (once_among-told k (binders p) t)))
left-closed k (Err e) ps p q t f h = tt

-- what is left of a pattern by itself, where the map tells of its names
pub left-out : {S E : Type 0} (k : HashMap (Bor (List ℕ)) Bool S) (r : Result ℕ E) (ps : List Pattern) (p : Pattern) → Tells k (binders p)
    → IfOk r (IsLeft k ps p) → IfOk r (λ n. LeavesOut p (pattern_at ps n))
left-out k (Ok n) ps p t f = record {
  names = once_among k (binders p);
  once = once_among-once k (binders p) t;
  left = f (once_among k (binders p)) (once_among-told k (binders p) t);
}
left-out k (Err e) ps p t h = tt

-- ---- items

-- one item more
pub forgets-slot : {xs : List (List ℕ)} {x y : Slot} (more rs : List Slot) → ForgetsSlot xs x y → ForgetsItems xs (items_of more) (items_of rs)
    → ForgetsItems xs (items_of (x ∷ more)) (items_of (y ∷ rs))
forgets-slot more rs (forgets_just f) h = forgets_one f h
forgets-slot more rs (forgets_repeated f l) h = forgets_many f l h

-- one entry more
pub entries-next : (xs : List (List ℕ)) (s t : Setting) (a : Adds s t) (es : List Entry) (e : Entry) (new : List Entry) (x : Slot)
    (more rest : List Slot) (all : Items)
    → AreEntries (patterns_at_hand s) (length s.nodes.items) es → new ≡ es ++ e ∷ [] → rest ≡ x ∷ more
    → ForgetsSlot xs x (slot_at (patterns_at_hand t) e)
    → ((qs : List Slot) → ForgetsItems xs (items_of rest) (items_of qs) → ForgetsItems xs all (items_of (slots_at (patterns_at_hand s) es ++ qs)))
    → (rs : List Slot) → ForgetsItems xs (items_of more) (items_of rs) → ForgetsItems xs all (items_of (slots_at (patterns_at_hand t) new ++ rs))
entries-next xs s t a es e new x more rest all h f g k l rs i =
    let y : Slot = slot_at (patterns_at_hand t) e in
    let b : ForgetsItems xs (items_of rest) (items_of (y ∷ rs)) =
    subst (λ (zs : List Slot). ForgetsItems xs (items_of zs) (items_of (y ∷ rs))) (sym g) (forgets-slot more rs k i) in
    let d : slots_at (patterns_at_hand s) es ++ y ∷ rs ≡ slots_at (patterns_at_hand t) new ++ rs =
    sym (append_assoc (slots_at (patterns_at_hand s) es) (y ∷ []) rs)
    ∙ ap (λ zs. (zs ++ y ∷ []) ++ rs) (sym (adds-slots s t a es h))
    ∙ ap (λ zs. zs ++ rs) (sym (map-append (slot_at (patterns_at_hand t)) es (e ∷ [])))
    ∙ ap (λ ds. slots_at (patterns_at_hand t) ds ++ rs) (sym f) in
    subst (λ (zs : List Slot). ForgetsItems xs all (items_of zs)) d (l (y ∷ rs) b)

-- ---- what does as well

module _ (L : Language) (xs : List (List ℕ)) (p q : Pattern) (f : Forgets xs p q) (o : StandOnce xs p) where
  -- a spot of one is one of the other, with names or without
  spot-forth : (t : Tree) (s : Spot) → SplitsAt L p t s → (b : Binding) × SplitsAt L q t (record { path = s.path; binding = b })
  spot-forth t s h =
      let k = (some_split-same f o).0 (record { binding = s.binding; split = h.split }) in (k.binding, record { inside = h.inside; split = k.split })

  spot-back : (t : Tree) (s : Spot) → SplitsAt L q t s → (b : Binding) × SplitsAt L p t (record { path = s.path; binding = b })
  spot-back t s h =
      let k = (some_split-same f o).1 (record { binding = s.binding; split = h.split }) in (k.binding, record { inside = h.inside; split = k.split })

  module _ (ps qs : List Pattern) (h : DoAsWell L ps qs) where
    matches_more : (t : Tree) → AnyMatches L (ps ++ q ∷ []) t → AnyMatches L (qs ++ p ∷ []) t
    matches_more t a = by_side (in-append ps (q ∷ []) a.pattern a.among)
      where
        by_side : In a.pattern ps ⊎ In a.pattern (q ∷ []) → AnyMatches L (qs ++ p ∷ []) t
        by_side (inl i) =
            let b = h.matches t (record { pattern = a.pattern; among = i; binding = a.binding; matched = a.matched }) in
            record { pattern = b.pattern; among = append-left qs (p ∷ []) b.pattern b.among; binding = b.binding; matched = b.matched }
        by_side (inr i) =
            let k = (some_match-same f o).1
            (record { binding = a.binding; matched = subst (λ (z : Pattern). Match L z t a.binding) (only i) a.matched }) in
            record { pattern = p; among = append-right qs (p ∷ []) p (here refl); binding = k.binding; matched = k.matched }

    matches_less : (t : Tree) → AnyMatches L (qs ++ p ∷ []) t → AnyMatches L (ps ++ q ∷ []) t
    matches_less t a = by_side (in-append qs (p ∷ []) a.pattern a.among)
      where
        by_side : In a.pattern qs ⊎ In a.pattern (p ∷ []) → AnyMatches L (ps ++ q ∷ []) t
        by_side (inl i) =
            let b = h.matches_back t (record { pattern = a.pattern; among = i; binding = a.binding; matched = a.matched }) in
            record { pattern = b.pattern; among = append-left ps (q ∷ []) b.pattern b.among; binding = b.binding; matched = b.matched }
        by_side (inr i) =
            let k = (some_match-same f o).0
            (record { binding = a.binding; matched = subst (λ (z : Pattern). Match L z t a.binding) (only i) a.matched }) in
            record { pattern = q; among = append-right ps (q ∷ []) q (here refl); binding = k.binding; matched = k.matched }

    splits_more : (t : Tree) (r : Spot) → AnySplits L (ps ++ q ∷ []) t r → AnySplits L (qs ++ p ∷ []) t r
    splits_more t r a = by_side (in-append ps (q ∷ []) a.pattern a.among)
      where
        by_side : In a.pattern ps ⊎ In a.pattern (q ∷ []) → AnySplits L (qs ++ p ∷ []) t r
        by_side (inl i) =
            let b = h.splits t r (record { pattern = a.pattern; among = i; spot = a.spot; split = a.split; nameless = a.nameless }) in
            record { pattern = b.pattern; among = append-left qs (p ∷ []) b.pattern b.among; spot = b.spot; split = b.split; nameless = b.nameless }
        by_side (inr i) =
            let k = spot-back t a.spot (subst (λ (z : Pattern). SplitsAt L z t a.spot) (only i) a.split) in
            record {
              pattern = p;
              among = append-right qs (p ∷ []) p (here refl);
              spot = record { path = a.spot.path; binding = k.0 };
              split = k.1;
              nameless = a.nameless;
            }

    splits_less : (t : Tree) (r : Spot) → AnySplits L (qs ++ p ∷ []) t r → AnySplits L (ps ++ q ∷ []) t r
    splits_less t r a = by_side (in-append qs (p ∷ []) a.pattern a.among)
      where
        by_side : In a.pattern qs ⊎ In a.pattern (p ∷ []) → AnySplits L (ps ++ q ∷ []) t r
        by_side (inl i) =
            let b = h.splits_back t r (record { pattern = a.pattern; among = i; spot = a.spot; split = a.split; nameless = a.nameless }) in
            record { pattern = b.pattern; among = append-left ps (q ∷ []) b.pattern b.among; spot = b.spot; split = b.split; nameless = b.nameless }
        by_side (inr i) =
            let k = spot-forth t a.spot (subst (λ (z : Pattern). SplitsAt L z t a.spot) (only i) a.split) in
            record {
              pattern = q;
              among = append-right ps (q ∷ []) q (here refl);
              spot = record { path = a.spot.path; binding = k.0 };
              split = k.1;
              nameless = a.nameless;
            }

    -- one alternative more, without names that stand once
    pub do_as_well-push : DoAsWell L (ps ++ q ∷ []) (qs ++ p ∷ [])
    do_as_well-push = record { matches = matches_more; matches_back = matches_less; splits = splits_more; splits_back = splits_less }

-- one more number that is made
pub numbers-next : (s t : Setting) (a : Adds s t) (ns : List ℕ) (n : ℕ) (new : List ℕ) (ps next : List Pattern) (p : Pattern) (xs : List (List ℕ))
    → AreBelow ns (length s.nodes.items) → DoAsWell (language_at s) (patterns_at (patterns_at_hand s) ns) ps → new ≡ ns ++ n ∷ []
    → next ≡ ps ++ p ∷ []
    → n < length t.nodes.items → Forgets xs p (pattern_at (patterns_at_hand t) n) → StandOnce xs p
    → AreBelow new (length t.nodes.items) × DoAsWell (language_at t) (patterns_at (patterns_at_hand t) new) next
numbers-next s t a ns n new ps next p xs h d e g l f o =
    let L = language_at t in
    let k = length t.nodes.items in
    let old = patterns_at (patterns_at_hand s) ns in
    let q : Pattern = pattern_at (patterns_at_hand t) n in
    let c : DoAsWell L old ps = subst (λ (M : Language). DoAsWell M old ps) (sym a.language) d in
    let b : DoAsWell L (old ++ q ∷ []) (ps ++ p ∷ []) = do_as_well-push L xs p q f o old ps c in
    let i : patterns_at (patterns_at_hand t) new ≡ old ++ q ∷ [] =
    ap (patterns_at (patterns_at_hand t)) e ∙ map-append (pattern_at (patterns_at_hand t)) ns (n ∷ [])
    ∙ ap (λ qs. qs ++ q ∷ []) (adds-patterns_at s t a ns h) in (
      subst (λ (ms : List ℕ). AreBelow ms k) (sym e) (below-push ns n k (below-more ns (length s.nodes.items) k (adds-length s t a) h) l),
      subst (λ (qs : List Pattern). DoAsWell L (patterns_at (patterns_at_hand t) new) qs) (sym g)
          (subst (λ (qs : List Pattern). DoAsWell L qs (ps ++ p ∷ [])) (sym i) b),
    )

-- where no name is left out, all is bound that was
pub does_as_well : (L : Language) (p q : Pattern) → Forgets [] p q → DoesAsWell L q p
does_as_well L p q f = record { matches = matches; splits = splits }
  where
    matches : (t : Tree) (b : Binding) → (Match L q t b ↔ Match L p t b)
    matches t b = let k = match-same f in (k.1, k.0)

    splits : (t : Tree) (s : Spot) → (SplitsAt L q t s ↔ SplitsAt L p t s)
    splits t s = (
      λ h. record { inside = h.inside; split = (split-same f).1 h.split },
      λ h. record { inside = h.inside; split = (split-same f).0 h.split },
    )

-- so it does where the map tells of no name
pub left-whole : {S E : Type 0} (L : Language) (m : HashMap (Bor (List ℕ)) Bool S) (r : Result ℕ E) (ps : List Pattern) (p : Pattern) → Tells m []
    → IfOk r (IsLeft m ps p) → IfOk r (λ n. DoesAsWell L (pattern_at ps n) p)
left-whole L m (Ok n) ps p t f = does_as_well L p (pattern_at ps n) (f [] (none-told m t))
left-whole L m (Err e) ps p t f = tt

-- a node's number is that of a pattern
pub number-pattern : {E : Type 0} (r : Result ℕ E) (ns : List Node) → IfOk r (λ n. n < length ns) → IfOk r (λ n. n < length (patterns_in ns))
number-pattern (Ok n) ns h = let l = patterns_in-length ns in omega (arith, h, l)
number-pattern (Err e) ns h = tt
