-- How many terms the first item takes of those over which opened items can be laid: so many as the binding says, or as the other items leave.
use Rattle.std.proofs.Common.{◌≡◌, inl, inr, ℕ, suc, ◌+◌, ◌-◌, ◌≤◌, List, [], ◌∷◌, length, map, Option, Some, None, refl, sym, ◌∙◌, ap, subst, arith}
use Rattle.rdx_term.specs.Items.{trees_count}
use Rattle.rdx_term.specs.Tree.{Tree, Trees, cons}
use Rattle.rdx_lang.specs.Bindings.{Value, Pair, Binding, HasAscendingNames, value_at}
use Rattle.rdx_lang.specs.Collections.{IsRepetition}
use Rattle.rdx_lang.specs.Join.{IsJoin}
use Rattle.rdx_lang.specs.Members.{In, here, there}
use Rattle.rdx_lang.specs.Names.{names, item_names}
use Rattle.rdx_lang.specs.Patterns.{Pattern, Items, one, many, Language}
use Rattle.rdx_lang.specs.Patterns.{nil as no_items}
use Rattle.rdx_lang.specs.PatternView.{Slot, just, repeated, items_of}
use Rattle.rdx_lang.proofs.MemberLaws.{in-append}
use Rattle.rdx_lang.proofs.Values.{value_at-exact}
use Rattle.rdx_deriv.specs.Derivations.{Goal}
use Rattle.rdx_deriv.specs.Uses.{Focus, next, item_goal, ItemUses, TurnUses, uses_none, uses_one, uses_many, turns_end, turns_more}
use Rattle.rdx_why.specs.Inside.Laying.{focus_after, trees_after, count_of, left_over, IsOpenedItems, IsLaidIn, CanBeLaid, CanTake}
use Rattle.rdx_opened.specs.Picking.{pair_where, picked_pairs, picked, turns_of}
use Rattle.rdx_why.specs.Inside.Steps.{FollowsIn, AllFollowIn, IsLaid}
use Rattle.rdx_why.proofs.LaidBehind.{count_after}
use Rattle.rdx_why.proofs.LaidItems.{opened_one, opened_many, used-names, used-plain, more_follow, first_follows, others_follow, laid-used}
use Rattle.rdx_opened.proofs.Picking.{picked-part, turns-repetition}

-- ---- what a binding says of names is a part of it

-- pairs are all among those of a binding
abbrev pub IsWithin : Binding → Binding → Type 0
IsWithin d c = (p : Pair) → In p d.pairs → In p c.pairs

-- the pair of a name is
where_within : (c : Binding) → HasAscendingNames c → (x : List ℕ) (o : Option Value) → value_at c x ≡ o → (p : Pair) → In p (pair_where x o)
    → In p c.pairs
where_within c a x None e p h = elim h [ ]
where_within c a x (Some v) e p (here f) = subst (λ (q : Pair). In q c.pairs) (sym f) ((value_at-exact c x v a).0 e)
where_within c a x (Some v) e p (there h) = elim h [ ]

-- so is what it says of names
pub picked-within : (c : Binding) → HasAscendingNames c → (xs : List (List ℕ)) → IsWithin (picked c xs) c
picked-within c a [] p h = elim h [ ]
picked-within c a (x ∷ xs) p h = elim (in-append (pair_where x (value_at c x)) (picked_pairs c xs) p h) [
  | inl l ↦ where_within c a x (value_at c x) refl p l
  | inr r ↦ picked-within c a xs p r
]

-- ---- what is laid, taken apart

-- what the first item does, which is no repetition, and the others
record OneLaid (L : Language) (l : List ℕ) (f : Focus) (p : Pattern) (os : Items) (ts : Trees) (ks : List ℕ) (b : Binding) : Type 0 where
  pub term : Tree
  pub terms : Trees
  pub same : ts ≡ cons term terms
  pub first : Binding
  pub rest : Binding
  pub goal : FollowsIn L l (item_goal f l p term first)
  pub laid : IsLaid L l (next f) os terms ks rest
  pub joined : IsJoin first rest b

-- what the turns of a repetition do, and the items behind it
pub record ManyLaid (L : Language) (l : List ℕ) (f : Focus) (p : Pattern) (n : Option (List ℕ)) (os : Items) (ts : Trees) (ks : List ℕ)
    (b : Binding) : Type 0 where
  pub count : ℕ
  pub others : List ℕ
  pub same : ks ≡ count ∷ others
  pub turns : List Binding
  pub first : Binding
  pub rest : Binding
  pub goals : List Goal
  pub uses : TurnUses l f p os ts count others goals turns rest
  pub follow : AllFollowIn L l goals
  pub repeats : IsRepetition (names p) turns n first
  pub joined : IsJoin first rest b

module _ (L : Language) (l : List ℕ) where
  uses_apart : {f : Focus} {p : Pattern} {os : Items} {ts : Trees} {ks : List ℕ} {gs : List Goal} {b : Binding} → ItemUses l f (one p os) ts ks gs b
      → AllFollowIn L l gs → OneLaid L l f p os ts ks b
  uses_apart (uses_one {t = t} {ts = ts} {gs = gs} {c = c} {d = d} e u j) a = record {
    term = t;
    terms = ts;
    same = refl;
    first = c;
    rest = d;
    goal = first_follows L l e a;
    laid = record { goals = gs; uses = u; follow = others_follow L l a };
    joined = j;
  }

  one_apart : {f : Focus} {p : Pattern} {os : Items} {ts : Trees} {ks : List ℕ} {b : Binding} → IsLaid L l f (one p os) ts ks b
      → OneLaid L l f p os ts ks b
  one_apart h = uses_apart h.uses h.follow

  turns_apart : {f : Focus} {p : Pattern} {n : Option (List ℕ)} {os : Items} {ts : Trees} {ks : List ℕ} {gs : List Goal} {b : Binding}
      → ItemUses l f (many p n os) ts ks gs b → AllFollowIn L l gs → ManyLaid L l f p n os ts ks b
  turns_apart (uses_many {k = k} {ks = ks} {gs = gs} {cs = cs} {c = c} {d = d} r h j) a = record {
    count = k;
    others = ks;
    same = refl;
    turns = cs;
    first = c;
    rest = d;
    goals = gs;
    uses = r;
    follow = a;
    repeats = h;
    joined = j;
  }

  pub many_apart : {f : Focus} {p : Pattern} {n : Option (List ℕ)} {os : Items} {ts : Trees} {ks : List ℕ} {b : Binding}
      → IsLaid L l f (many p n os) ts ks b → ManyLaid L l f p n os ts ks b
  many_apart h = turns_apart h.uses h.follow

  -- there are as many bindings as turns
  turn_count : {f : Focus} {p : Pattern} {os : Items} {ts : Trees} {k : ℕ} {ks : List ℕ} {gs : List Goal} {cs : List Binding} {d : Binding}
      → TurnUses l f p os ts k ks gs cs d → length cs ≡ k
  turn_count (turns_end u) = refl
  turn_count (turns_more e r) = ap suc (turn_count r)

  -- the items behind the turns are laid over the terms behind them, and whatever lengths they have there, so the turns and they are used
  pub record TurnsLaid (f : Focus) (p : Pattern) (os : Items) (ts : Trees) (k : ℕ) (ks : List ℕ) (cs : List Binding) (d : Binding) : Type 0 where
    pub room : k ≤ trees_count ts
    pub rest : IsLaid L l (focus_after k f) os (trees_after k ts) ks d
    pub whole : (js : List ℕ) → IsLaid L l (focus_after k f) os (trees_after k ts) js d
        → (gs : List Goal) × TurnUses l f p os ts k js gs cs d × AllFollowIn L l gs

  pub turns_behind : {f : Focus} {p : Pattern} {os : Items} {ts : Trees} {k : ℕ} {ks : List ℕ} {gs : List Goal} {cs : List Binding} {d : Binding}
      → TurnUses l f p os ts k ks gs cs d → AllFollowIn L l gs → TurnsLaid f p os ts k ks cs d
  turns_behind (turns_end {gs = gs} u) a = record {
    room = omega arith;
    rest = record { goals = gs; uses = u; follow = a };
    whole = λ js h. (h.goals, turns_end h.uses, h.follow);
  }
  turns_behind (turns_more {g = g} e r) a =
      let q = turns_behind r (others_follow L l a) in
      record {
        room = let h = q.room in omega arith;
        rest = q.rest;
        whole = λ js h. let k = q.whole js h in (g ∷ k.0, turns_more e k.1, more_follow L l (a g (here refl)) k.2);
      }

  module _ (c : Binding) (asc : HasAscendingNames c) where
    -- what laid items bind, which is a part of c, is what c says of their names
    pub laid-picked : {f : Focus} {os : Items} {ts : Trees} {ks : List ℕ} {d : Binding} → IsOpenedItems os → IsWithin d c → IsLaid L l f os ts ks d
        → picked c (item_names os) ≡ d
    laid-picked {f = f} {os = os} {d = d} o w h =
        let u = laid-used L l h in picked-part c d (item_names os) asc w (used-names u) (used-plain o u)

    pub in-picked : {f : Focus} {os : Items} {ts : Trees} {ks : List ℕ} {d : Binding} → IsOpenedItems os → IsWithin d c → IsLaid L l f os ts ks d
        → IsLaidIn L l c f os ts ks
    in-picked {f = f} {os = os} {ts = ts} {ks = ks} o w h = subst (λ (d : Binding). IsLaid L l f os ts ks d) (sym (laid-picked o w h)) h

    -- ---- the first item

    -- one that is no repetition takes one term
    pub takes_one_term : (f : Focus) (p : Pattern) (rs : List Slot) (ts : Trees) → IsOpenedItems (one p (items_of rs))
        → CanBeLaid L l c f (one p (items_of rs)) ts → CanTake L l c f (just p) rs ts 1
    takes_one_term f p rs ts o h =
        let os = items_of rs in
        let u : OneLaid L l f p os ts h.0 (picked c (item_names (one p os))) = one_apart h.1 in
        let w : IsWithin u.rest c = λ q i. picked-within c asc (item_names (one p os)) q (u.joined.pairs.right q i) in
        let same : picked c (item_names os) ≡ u.rest = laid-picked (opened_one o).1 w u.laid in
        subst (λ (us : Trees). CanTake L l c f (just p) rs us 1) (sym u.same) (record {
          room = omega arith;
          rest = (h.0, in-picked (opened_one o).1 w u.laid);
          whole = λ ks k.
              let m : IsLaid L l (next f) os u.terms ks u.rest = subst (λ (d : Binding). IsLaid L l (next f) os u.terms ks d) same k in
              record {
                goals = item_goal f l p u.term u.first ∷ m.goals;
                uses = uses_one refl m.uses u.joined;
                follow = more_follow L l u.goal m.follow;
              };
        })

    -- a repetition takes so many as it has turns
    takes_turns : (f : Focus) (p : Pattern) (n : Option (List ℕ)) (rs : List Slot) (ts : Trees) (ks : List ℕ) (e : Binding)
        → IsOpenedItems (many p n (items_of rs)) → e ≡ picked c (item_names (many p n (items_of rs)))
        → (u : ManyLaid L l f p n (items_of rs) ts ks e)
        → CanTake L l c f (repeated p n) rs ts u.count
    takes_turns f p n rs ts ks e o g u =
        let os = items_of rs in
        let q = turns_behind u.uses u.follow in
        let i : IsWithin e c = subst (λ (d : Binding). IsWithin d c) (sym g) (picked-within c asc (item_names (many p n os))) in
        let w : IsWithin u.rest c = λ r j. i r (u.joined.pairs.right r j) in
        let same : picked c (item_names os) ≡ u.rest = laid-picked (opened_many o).1 w q.rest in
        record {
          room = q.room;
          rest = (u.others, in-picked (opened_many o).1 w q.rest);
          whole = λ js k.
              let m = q.whole js (subst (λ (d : Binding). IsLaid L l (focus_after u.count f) os (trees_after u.count ts) js d) same k) in
              subst (λ (d : Binding). IsLaid L l f (many p n os) ts (u.count ∷ js) d) g
              (record { goals = m.0; uses = uses_many m.1 u.repeats u.joined; follow = m.2 });
        }

    -- what it binds is a part of c
    first_within : {f : Focus} {p : Pattern} {n : Option (List ℕ)} {os : Items} {ts : Trees} {ks : List ℕ}
        → (u : ManyLaid L l f p n os ts ks (picked c (item_names (many p n os)))) → IsWithin u.first c
    first_within {p = p} {n = n} {os = os} u q i = picked-within c asc (item_names (many p n os)) q (u.joined.pairs.left q i)

    -- so it takes k, where it has as many turns
    pub takes_count : (f : Focus) (p : Pattern) (n : Option (List ℕ)) (rs : List Slot) (ts : Trees) (k : ℕ) → IsOpenedItems (many p n (items_of rs))
        → (h : CanBeLaid L l c f (many p n (items_of rs)) ts) → (many_apart h.1).count ≡ k → CanTake L l c f (repeated p n) rs ts k
    takes_count f p n rs ts k o h e =
        subst (λ (j : ℕ). CanTake L l c f (repeated p n) rs ts j) e
        (takes_turns f p n rs ts h.0 (picked c (item_names (many p n (items_of rs)))) o refl (many_apart h.1))

    -- ---- how many turns a repetition has

    -- where a name or a length name says so
    turns_say : {f : Focus} {p : Pattern} {n : Option (List ℕ)} {os : Items} {ts : Trees} {ks : List ℕ}
        → (u : ManyLaid L l f p n os ts ks (picked c (item_names (many p n os)))) → (names p ≡ [] → n ≡ None → ⊥)
        → turns_of c (names p) n ≡ Some u.count
    turns_say {p = p} {n = n} u q =
        turns-repetition c u.first asc (first_within u) (names p) u.turns n u.repeats q ∙ ap (λ (k : ℕ). Some k) (turn_count u.uses)

    said : (xs : List (List ℕ)) (n : Option (List ℕ)) (j k : ℕ) → ((xs ≡ [] → n ≡ None → ⊥) → turns_of c xs n ≡ Some j) → turns_of c xs n ≡ Some k
        → j ≡ k
    said (x ∷ xs) n j k f e = let g : turns_of c (x ∷ xs) n ≡ Some j = f (λ a b. absurd cc) in cc
    said [] (Some y) j k f e = let g : turns_of c [] (Some y) ≡ Some j = f (λ a b. absurd cc) in cc
    said [] None j k f e = absurd cc

    unsaid : (xs : List (List ℕ)) (n : Option (List ℕ)) (j : ℕ) → ((xs ≡ [] → n ≡ None → ⊥) → turns_of c xs n ≡ Some j) → turns_of c xs n ≡ None
        → (xs ≡ []) × (n ≡ None)
    unsaid (x ∷ xs) n j f e = absurd (let g : turns_of c (x ∷ xs) n ≡ Some j = f (λ a b. absurd cc) in cc)
    unsaid [] (Some y) j f e = absurd (let g : turns_of c [] (Some y) ≡ Some j = f (λ a b. absurd cc) in cc)
    unsaid [] None j f e = (refl, refl)

    -- an item takes what is known
    pub takes_known : (f : Focus) (r : Slot) (rs : List Slot) (ts : Trees) (k : ℕ) → IsOpenedItems (items_of (r ∷ rs))
        → CanBeLaid L l c f (items_of (r ∷ rs)) ts → count_of c r ≡ Some k → CanTake L l c f r rs ts k
    takes_known f (just p) rs ts k o h e =
        let g : 1 ≡ k = (cc) in subst (λ (j : ℕ). CanTake L l c f (just p) rs ts j) g (takes_one_term f p rs ts o h)
    takes_known f (repeated p n) rs ts k o h e =
        let u = many_apart h.1 in takes_count f p n rs ts k o h (said (names p) n u.count k (turns_say u) e)

    unknown_free : (f : Focus) (p : Pattern) (n : Option (List ℕ)) (rs : List Slot) (ts : Trees) → CanBeLaid L l c f (many p n (items_of rs)) ts
        → count_of c (repeated p n) ≡ None → (names p ≡ []) × (n ≡ None)
    unknown_free f p n rs ts h e = let u = many_apart h.1 in unsaid (names p) n u.count (turns_say u) e

    -- where nothing is known, a repetition has neither names nor a length name
    pub unknown_item : (f : Focus) (s : Slot) (p : Pattern) (n : Option (List ℕ)) (rs : List Slot) (ts : Trees) → s ≡ repeated p n
        → CanBeLaid L l c f (items_of (s ∷ rs)) ts → count_of c s ≡ None → (names p ≡ []) × (s ≡ repeated p None)
    unknown_item f s p n rs ts d h e =
        let none : count_of c (repeated p n) ≡ None = sym (ap (λ (r : Slot). count_of c r) d) ∙ e in
        let u = unknown_free f p n rs ts (subst (λ (r : Slot). CanBeLaid L l c f (items_of (r ∷ rs)) ts) d h) none in
        (u.0, d ∙ ap (λ (m : Option (List ℕ)). repeated p m) u.1)

    -- ---- what the other items leave

    -- the items behind the first are opened too
    pub others_opened : (r : Slot) (rs : List Slot) → IsOpenedItems (items_of (r ∷ rs)) → IsOpenedItems (items_of rs)
    others_opened (just p) rs o = (opened_one o).1
    others_opened (repeated p n) rs o = (opened_many o).1

    -- so many terms less
    less_terms : (n k t m : ℕ) → n + k ≡ t → t + m - k ≡ n + m
    less_terms n k t m e = omega arith

    -- no items have no terms
    none_left : {f : Focus} {ts : Trees} {ks : List ℕ} {gs : List Goal} {b : Binding} → ItemUses l f no_items ts ks gs b → trees_count ts ≡ 0
    none_left uses_none = refl

    -- items of which all is known leave what is more than they take
    leaves_exactly : (rs : List Slot) (f : Focus) (ts : Trees) (m k : ℕ) → IsOpenedItems (items_of rs) → CanBeLaid L l c f (items_of rs) ts
        → left_over (map (count_of c) rs) (trees_count ts + m) ≡ Some k → k ≡ m
    leaves_exactly [] f ts m k o h e = let z = none_left h.1.uses in let g : trees_count ts + m ≡ k = (cc) in omega arith
    leaves_exactly (r ∷ rs) f ts m k o h e =
        by_count (count_of c r) refl e (λ g us. leaves_exactly rs g us m k (others_opened r rs o))
      where
        by_count : (q : Option ℕ) → count_of c r ≡ q → left_over (q ∷ map (count_of c) rs) (trees_count ts + m) ≡ Some k
            → ((g : Focus) (us : Trees) → CanBeLaid L l c g (items_of rs) us → left_over (map (count_of c) rs) (trees_count us + m) ≡ Some k → k ≡ m)
            → k ≡ m
        by_count None d e rest = absurd cc
        by_count (Some j) d e rest =
            let t = takes_known f r rs ts j o h d in
            let n = less_terms (trees_count (trees_after j ts)) j (trees_count ts) m (count_after j ts t.room) in
            rest (focus_after j f) (trees_after j ts) t.rest (subst (λ (i : ℕ). left_over (map (count_of c) rs) i ≡ Some k) n e)

    -- so a repetition before them takes what they leave
    takes_others_left : (f : Focus) (p : Pattern) (n : Option (List ℕ)) (rs : List Slot) (ts : Trees) (k : ℕ)
        → IsOpenedItems (many p n (items_of rs))
        → CanBeLaid L l c f (many p n (items_of rs)) ts → left_over (map (count_of c) rs) (trees_count ts) ≡ Some k
        → CanTake L l c f (repeated p n) rs ts k
    takes_others_left f p n rs ts k o h e =
        let u = many_apart h.1 in
        let t : CanTake L l c f (repeated p n) rs ts u.count = takes_count f p n rs ts u.count o h refl in
        let all : trees_count ts ≡ trees_count (trees_after u.count ts) + u.count = sym (count_after u.count ts t.room) in
        let d : k ≡ u.count =
        leaves_exactly rs (focus_after u.count f) (trees_after u.count ts) u.count k (opened_many o).1 t.rest
        (subst (λ (i : ℕ). left_over (map (count_of c) rs) i ≡ Some k) all e) in
        subst (λ (j : ℕ). CanTake L l c f (repeated p n) rs ts j) (sym d) t

    pub takes_left : (f : Focus) (s : Slot) (p : Pattern) (n : Option (List ℕ)) (rs : List Slot) (ts : Trees) (k : ℕ) → s ≡ repeated p n
        → IsOpenedItems (items_of (s ∷ rs)) → CanBeLaid L l c f (items_of (s ∷ rs)) ts → left_over (map (count_of c) rs) (trees_count ts) ≡ Some k
        → CanTake L l c f s rs ts k
    takes_left f s p n rs ts k d o h e =
        subst (λ (r : Slot). CanTake L l c f r rs ts k) (sym d)
        (takes_others_left f p n rs ts k (subst (λ (r : Slot). IsOpenedItems (items_of (r ∷ rs))) d o)
        (subst (λ (r : Slot). CanBeLaid L l c f (items_of (r ∷ rs)) ts) d h) e)
