-- The rows that are asked for are there, where the nonterminals are grown in the order of their ranks.
use Rattle.std.proofs.Common.{◌≡◌, ℕ, zero, suc, ◌+◌, ◌-◌, ◌<◌, ◌≤◌, ◌⊎◌, inl, inr, max, Bool, true, false, List, [], ◌∷◌, length, get_or, map, refl, sym, ◌∙◌, ap, subst, if◌then◌else◌, arith}
use Rattle.std.specs.Cmp.{first_so, second_so}
use Rattle.rdx_lang.specs.Empty.{IsEmpty, is_empty, TellsEmpty}
use Rattle.rdx_lang.specs.LeftNumbers.{rank_of, left_number}
use Rattle.rdx_lang.specs.Lookup.{alternatives_of}
use Rattle.rdx_lang.specs.Members.{In, here, there}
use Rattle.rdx_lang.specs.Patterns.{Pattern, wild, of_kind, except, prefix, hole, lit, nt, named, differ, in_hole, hide_hole, closed, seq, Items, nil, one, many, Language}
use Rattle.rdx_lang.specs.PatternView.{Slot, just, repeated, slot_of, items_of}
use Rattle.rdx_lang.specs.Ranks.{AreRanks}
use Rattle.rdx_lang.specs.References.{is_among}
use Rattle.rdx_lang.specs.Rules.{IsAlternative}
use Rattle.rdx_lang.specs.WellFormed.{defined, has_known_nonterminals, have_known_nonterminals, IsWellFormed}
use Rattle.rdx_lang.specs.declared.pattern.Item.{Item}
use Rattle.rdx_lang.specs.declared.pattern.Ref.{Ref}
use Rattle.rdx_term.specs.Tree.{Tree}
use Rattle.rdx_lang.proofs.Collecting.{In_along}
use Rattle.rdx_lang.proofs.Emptiness.{is_empty-exact, empty_is_decided}
use Rattle.rdx_lang.proofs.KnownCrosses.{well_formed-knows}
use Rattle.rdx_lang.proofs.LookupLaws.{looked_up-alternative}
use Rattle.rdx_lang.proofs.MemberLaws.{in-map}
use Rattle.rdx_lang.proofs.RankLaws.{ranks_fall}
use Rattle.rdx_lang.proofs.WellFormedCrosses.{alternative-passes}
use Rattle.rdx_enum.specs.declared.tables.Table.{Table}
use Rattle.rdx_enum.specs.Inside.Order.{IsInOrder}
use Rattle.rdx_enum.specs.Inside.Rows.{Rows, row_at}
use Rattle.rdx_enum.specs.Inside.Sizes.{with_slot, inner_bound, bound_by}
use Rattle.rdx_enum.specs.Inside.Tables.{table_name, sizes, IsThere, IsReady, AreReady, AreFilled}

-- the items with this one alone are ready where they are with more
pub slot_ready : (L : Language) (ts : List Table) (n : ℕ) (xs : List Item) (i : ℕ) (x : Item) → i < length xs → x ≡ get_or xs i x
    → AreReady L ts (items_of (map slot_of xs)) n → AreReady L ts (with_slot (slot_of x) []) n
slot_ready L ts n [] i x l e h = absurd (omega arith)
slot_ready L ts n (y ∷ ys) zero x l e h = subst (λ (z : Item). AreReady L ts (with_slot (slot_of z) []) n) (sym e) (first (slot_of y) (map slot_of ys) h)
  where
    first : (s : Slot) (slots : List Slot) → AreReady L ts (items_of (s ∷ slots)) n → AreReady L ts (with_slot s []) n
    first (just p) slots k = (k.0, tt)
    first (repeated p v) slots k = (k.0, tt)
slot_ready L ts n (y ∷ ys) (suc i) x l e h = slot_ready L ts n ys i x (omega arith) e (others (slot_of y) (map slot_of ys) h)
  where
    others : (s : Slot) (slots : List Slot) → AreReady L ts (items_of (s ∷ slots)) n → AreReady L ts (items_of slots) n
    others (just p) slots k = k.1
    others (repeated p v) slots k = k.1

module _ (L : Language) (ts : List Table) (n : ℕ) (below : (x : Ref) (m : ℕ) → is_among x (defined L) ≡ true → m < n → IsThere ts x m) where
  xs : List Ref
  xs = defined L

  -- ---- at smaller sizes

  mutual
    ready_below : (p : Pattern) (m : ℕ) → has_known_nonterminals (defined L) p ≡ true → m < n → IsReady L ts p m
    ready_below wild m h l = tt
    ready_below (of_kind k) m h l = tt
    ready_below (except rs) m h l = tt
    ready_below (prefix r) m h l = tt
    ready_below hole m h l = tt
    ready_below (lit u) m h l = tt
    ready_below (nt x) m h l = below x m h l
    ready_below (named x q) m h l = ready_below q m h l
    ready_below (differ x q) m h l = ready_below q m h l
    ready_below (in_hole q r) m h l =
        let a : has_known_nonterminals (defined L) q ≡ true = first_so (has_known_nonterminals (defined L) q) (has_known_nonterminals (defined L) r) h in
        let b : has_known_nonterminals (defined L) r ≡ true = second_so (has_known_nonterminals (defined L) q) (has_known_nonterminals (defined L) r) h in
        (ready_below q m a l, ((λ i e. ready_below r i b (omega arith)), (λ e. ready_below r m b l)))
    ready_below (hide_hole q) m h l = ready_below q m h l
    ready_below (closed q) m h l = ready_below q m h l
    ready_below (seq ps) m h l = items_below ps m h (omega arith)

    items_below : (ps : Items) (m : ℕ) → have_known_nonterminals (defined L) ps ≡ true → m ≤ n → AreReady L ts ps m
    items_below nil m h l = tt
    items_below (one p ps) m h l = (
      (λ i e. ready_below p i (first_so (has_known_nonterminals (defined L) p) (have_known_nonterminals (defined L) ps) h) (omega arith)),
      items_below ps m (second_so (has_known_nonterminals (defined L) p) (have_known_nonterminals (defined L) ps) h) l,
    )
    items_below (many p v ps) m h l = (
      (λ i e. ready_below p i (first_so (has_known_nonterminals (defined L) p) (have_known_nonterminals (defined L) ps) h) (omega arith)),
      items_below ps m (second_so (has_known_nonterminals (defined L) p) (have_known_nonterminals (defined L) ps) h) l,
    )

  -- ---- at this size

  module _ (E : Ref → Bool) (tells : TellsEmpty L E) (R : Ref → ℕ) (r : ℕ) (lower : (x : Ref) → is_among x (defined L) ≡ true → R x < r → IsThere ts x n) where
    behind_empty : (b : Bool) (a k : ℕ) → b ≡ true → max a (if b then k else 0) + 1 < r → k < r
    behind_empty true a k e h = omega arith
    behind_empty false a k e h = absurd cc

    ready_at : (p : Pattern) → has_known_nonterminals (defined L) p ≡ true → left_number E R p < r → IsReady L ts p n
    ready_at wild h l = tt
    ready_at (of_kind k) h l = tt
    ready_at (except rs) h l = tt
    ready_at (prefix s) h l = tt
    ready_at hole h l = tt
    ready_at (lit u) h l = tt
    ready_at (nt x) h l = lower x h l
    ready_at (named x q) h l = ready_at q h (omega arith)
    ready_at (differ x q) h l = ready_at q h (omega arith)
    ready_at (in_hole q s) h l =
        let a : has_known_nonterminals (defined L) q ≡ true = first_so (has_known_nonterminals (defined L) q) (has_known_nonterminals (defined L) s) h in
        let b : has_known_nonterminals (defined L) s ≡ true = second_so (has_known_nonterminals (defined L) q) (has_known_nonterminals (defined L) s) h in (
          ready_at q a (omega arith),
          (
            (λ i e. ready_below s i b (omega arith)),
            (λ e. ready_at s b (behind_empty (is_empty E q) (left_number E R q) (left_number E R s) ((is_empty-exact L E tells q).1 e) l)),
          ),
        )
    ready_at (hide_hole q) h l = ready_at q h (omega arith)
    ready_at (closed q) h l = ready_at q h (omega arith)
    ready_at (seq ps) h l = items_below ps n h (omega arith)

-- what stands in the hole of a pattern is ready at the size at which it is asked for
pub inner_ready : (L : Language) (ts : List Table) (q r : Pattern) (n m : ℕ) (contexts : Rows) → m ≡ inner_bound contexts n → 1 ≤ n → IsReady L ts (in_hole q r) n
    → ((C : Tree) → In C (row_at contexts 1) → IsEmpty L q) → IsReady L ts r m
inner_ready L ts q r n m contexts e l h f = subst (IsReady L ts r) (sym e) (go (row_at contexts 1) refl)
  where
    go : (row : List Tree) → row_at contexts 1 ≡ row → IsReady L ts r (bound_by (row_at contexts 1) n)
    go [] d = subst (λ (row : List Tree). IsReady L ts r (bound_by row n)) (sym d) (h.1.0 (n - 1) (omega arith))
    go (t ∷ us) d = subst (λ (row : List Tree). IsReady L ts r (bound_by row n)) (sym d) (h.1.1 (f t (In_along (t ∷ us) (row_at contexts 1) (sym d) (here refl))))

-- ---- tables

-- each table among the first i has a row more, and the others stand from place i on
filled_cases : (n i : ℕ) (ts : List Table) (t : Table) → AreFilled n i ts → In t ts
    → (sizes t ≡ n + 1) ⊎ ((sizes t ≡ n) × ((j : ℕ) × (i ≤ j) × (j < length ts) × (t ≡ get_or ts j t)))
filled_cases n i [] t f h = elim h [ ]
filled_cases n zero (u ∷ us) t f (here e) = inr (ap sizes e ∙ f.0, (0, (omega arith), (omega arith), e))
filled_cases n zero (u ∷ us) t f (there h) = go (filled_cases n zero us t f.1 h)
  where
    go : (sizes t ≡ n + 1) ⊎ ((sizes t ≡ n) × ((j : ℕ) × (0 ≤ j) × (j < length us) × (t ≡ get_or us j t)))
        → (sizes t ≡ n + 1) ⊎ ((sizes t ≡ n) × ((j : ℕ) × (0 ≤ j) × (j < length (u ∷ us)) × (t ≡ get_or (u ∷ us) j t)))
    go (inl k) = inl k
    go (inr k) = inr (k.0, (suc k.1.0, (omega arith), (let l : k.1.0 < length us = k.1.2 in omega arith), k.1.3))
filled_cases n (suc i) (u ∷ us) t f (here e) = inl (ap sizes e ∙ f.0)
filled_cases n (suc i) (u ∷ us) t f (there h) = go (filled_cases n i us t f.1 h)
  where
    go : (sizes t ≡ n + 1) ⊎ ((sizes t ≡ n) × ((j : ℕ) × (i ≤ j) × (j < length us) × (t ≡ get_or us j t)))
        → (sizes t ≡ n + 1) ⊎ ((sizes t ≡ n) × ((j : ℕ) × (suc i ≤ j) × (j < length (u ∷ us)) × (t ≡ get_or (u ∷ us) j t)))
    go (inl k) = inl k
    go (inr k) = inr (k.0, (suc k.1.0, (let a : i ≤ k.1.0 = k.1.1 in omega arith), (let l : k.1.0 < length us = k.1.2 in omega arith), k.1.3))

-- a name that stands at a place
name_at : (ts : List Table) (j : ℕ) (t : Table) (d : Ref) → j < length ts → t ≡ get_or ts j t → get_or (map table_name ts) j d ≡ t.name
name_at [] j t d l e = absurd (omega arith)
name_at (u ∷ us) zero t d l e = ap table_name (sym e)
name_at (u ∷ us) (suc j) t d l e = name_at us j t d (omega arith) e

pub length-names : (ts : List Table) → length (map table_name ts) ≡ length ts
length-names [] = refl
length-names (t ∷ ts) = let k : length (map table_name ts) ≡ length ts = length-names ts in omega arith

module _ (L : Language) (ns : List ℕ) (ts : List Table) (n i : ℕ) (o : IsInOrder L ns (map table_name ts)) (f : AreFilled n i ts) where
  -- a row that each table of x has is there
  has_row : (x : Ref) (m : ℕ) → is_among x (defined L) ≡ true → ((t : Table) → In t ts → t.name ≡ x → m < sizes t) → IsThere ts x m
  has_row x m h g = let k = in-map table_name ts x (o.all x h) in record { table = k.0; among = k.1; name = sym k.2; size = g }

  -- all rows of smaller sizes are
  smaller : (x : Ref) (m : ℕ) → is_among x (defined L) ≡ true → m < n → IsThere ts x m
  smaller x m h l = has_row x m h (λ t j e. go t (filled_cases n i ts t f j))
    where
      go : (t : Table) → (sizes t ≡ n + 1) ⊎ ((sizes t ≡ n) × ((j : ℕ) × (i ≤ j) × (j < length ts) × (t ≡ get_or ts j t))) → m < sizes t
      go t (inl k) = omega arith
      go t (inr k) = let e : sizes t ≡ n = k.0 in omega arith

  module _ (x : Ref) (t : Table) (l : i < length ts) (e : t ≡ get_or ts i t) (named_x : t.name ≡ x) where
    -- so are those of this size of nonterminals of lower rank
    lower_rank : (y : Ref) → is_among y (defined L) ≡ true → rank_of L ns y < rank_of L ns x → IsThere ts y n
    lower_rank y h r = has_row y n h (λ u j d. go u d (filled_cases n i ts u f j))
      where
        go : (u : Table) → u.name ≡ y → (sizes u ≡ n + 1) ⊎ ((sizes u ≡ n) × ((j : ℕ) × (i ≤ j) × (j < length ts) × (u ≡ get_or ts j u))) → n < sizes u
        go u d (inl k) = omega arith
        go u d (inr k) =
            let j : ℕ = k.1.0 in
            let here_x : get_or (map table_name ts) i x ≡ x = name_at ts i t x l e ∙ named_x in
            let here_y : get_or (map table_name ts) j x ≡ y = name_at ts j u x k.1.2 k.1.3 ∙ d in
            let within : j < length (map table_name ts) = let a : length (map table_name ts) ≡ length ts = length-names ts in let b : j < length ts = k.1.2 in omega arith in
            let up : rank_of L ns (get_or (map table_name ts) i x) ≤ rank_of L ns (get_or (map table_name ts) j x) = o.rising i j x k.1.1 within in
            let up_x : rank_of L ns x ≤ rank_of L ns y = subst (λ z. rank_of L ns z ≤ rank_of L ns y) here_x (subst (λ z. rank_of L ns (get_or (map table_name ts) i x) ≤ rank_of L ns z) here_y up) in
            absurd (omega arith)

    -- so each alternative of the nonterminal at place i is ready
    pub alternatives_ready : IsWellFormed L → AreRanks L ns → (p : Pattern) → In p (alternatives_of L x) → IsReady L ts p n
    alternatives_ready w r p h =
        let a : IsAlternative L x p = looked_up-alternative L x p h in
        let d = empty_is_decided L in
        ready_at L ts n smaller d.test d.tells (rank_of L ns) (rank_of L ns x) lower_rank p
        (alternative-passes (has_known_nonterminals (defined L)) L x p (well_formed-knows L w) a)
        (ranks_fall L ns d.test w r d.tells x p a)

-- at the end of a size all rows of it are there
pub all_there : (L : Language) (ns : List ℕ) (ts : List Table) (k : ℕ) → IsInOrder L ns (map table_name ts) → AreFilled (k + 1) 0 ts
    → (x : Ref) → is_among x (defined L) ≡ true → IsThere ts x k
all_there L ns ts k o f x h = smaller L ns ts (k + 1) 0 o f x k h (omega arith)
