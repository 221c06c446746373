-- Where a pattern has a height, something comes of it.
use Rattle.std.proofs.Common.{◌≡◌, ℕ, zero, suc, ◌<◌, Bool, true, false, List, [], ◌∷◌, ◌++◌, length, Option, Some, None, if◌then◌else◌, refl, sym, subst, arith}
use Rattle.std.specs.Prelude.{◌||◌, ◌==◌, IsTrue, nat_lt, slice_index_or}
use Rattle.rdx_term.specs.Building.{list_of}
use Rattle.rdx_term.specs.Context.{is_context, is_context_at}
use Rattle.rdx_term.specs.Fill.{fill_of}
use Rattle.rdx_term.specs.Tree.{Tree, trees, list, tree_depth, tree_nodes}
use Rattle.rdx_term.proofs.Contexts.{is_context-fill_of}
use Rattle.rdx_lang.specs.Patterns.{Pattern, wild, of_kind, except, prefix, hole, lit, nt, named, differ, in_hole, hide_hole, closed, seq, Items, nil, one, many}
use Rattle.rdx_lang.specs.Rules.{is_one_of}
use Rattle.rdx_lang.specs.declared.pattern.Kind.{Kind}
use Rattle.rdx_lang.specs.declared.pattern.Kind.TheVariants.{Any, Number, Natural, Integer, Real, Text, Boolean, Variable, Unmentioned}
use Rattle.rdx_lang.specs.declared.pattern.Ref.{Ref}
use Rattle.rdx_gen.specs.Generation.{Setting, Inner, Notes, lacks, term, items, context, around, turns, length_of, new_length, had_or_new, with_length, is_hollow, for_name, had_or_made, with_term, choices, of_number, any_atom, any_integer, any_symbol, any_truth, any_string, any_of_kind}
use Rattle.rdx_gen.specs.Heights.{height_in, term_height, items_height, context_height, place_heights}
use Rattle.rdx_gen.specs.Outcomes.{Outcome, State, made, stopped, nothing, large, after, limited, listed, filled, found_for, one_of, with_words}
use Rattle.rdx_gen.specs.Variables.{first_five}
use Rattle.rdx_gen.specs.Words.{pick}
use Rattle.rdx_gen.proofs.Choosing.{Low, low-greater, Comes, comes-choice, least_place, Spot, spot-low}
use Rattle.rdx_gen.proofs.HollowNames.{IsNoted, AllNoted, ItemsNoted}

-- ---- what is put together

pub comes-after : {A B : Type 0} (P : A → State → Type 0) (Q : B → State → Type 0) (r : Outcome A) (f : A → State → Outcome B)
    → Comes P r → ((x : A) (s : State) → P x s → Comes Q (f x s)) → Comes Q (after r f)
comes-after P Q (made x s) f c g = g x s c
comes-after P Q (stopped l w) f c g = tt
comes-after P Q nothing f c g = absurd c

comes-either : {A : Type 0} (P : A → State → Type 0) (b : Bool) (r q : Outcome A) → Comes P r → Comes P q → Comes P (if b then r else q)
comes-either P true r q c d = c
comes-either P false r q c d = d

-- a tree within the limits, or one that passes them
comes-limited : (P : Tree → State → Type 0) (t : Tree) (s : State) → P t s → Comes P (limited t s)
comes-limited P t s c =
    comes-either P (nat_lt 500 (tree_depth t)) _ _ tt (comes-either P (nat_lt 4_000_000 (tree_nodes t)) (stopped large s.words) (made t s) tt c)

where_true : (P : Tree → State → Type 0) (b : Bool) (r : Outcome Tree) → b ≡ true → Comes P r → Comes P (if b then r else nothing)
where_true P true r e c = c
where_true P false r e c = absurd cc

comes-filled : (P : Tree → State → Type 0) (C t : Tree) (s : State) → IsTrue (is_context C) → P (fill_of C t) s → Comes P (filled C t s)
comes-filled P C t s e c = where_true P (is_context C) (limited (fill_of C t) s) e (comes-limited P (fill_of C t) s c)

-- ---- a context in a list

-- a context stands at this place, where it is one
abbrev HasContext : Option ℕ → List Tree → Type 0
HasContext None ts = Unit {0}
HasContext (Some k) ts = IsTrue (is_context_at (trees ts) k)

still-at : (k : ℕ) (ts : List Tree) (u : Tree) → HasContext (Some k) ts → HasContext (Some k) (ts ++ u ∷ [])
still-at k [] u e = absurd cc
still-at zero (t ∷ ts) u e = e
still-at (suc k) (t ∷ ts) u e = still-at k ts u e

context-stays : (m : Option ℕ) (ts : List Tree) (u : Tree) → HasContext m ts → HasContext m (ts ++ u ∷ [])
context-stays None ts u e = tt
context-stays (Some k) ts u e = still-at k ts u e

context-here : (ts : List Tree) (C : Tree) → IsTrue (is_context C) → HasContext (Some (length ts)) (ts ++ C ∷ [])
context-here [] C e = e
context-here (t ∷ ts) C e = context-here ts C e

-- ---- lengths

-- the length is 0 at size 0, and where b says so
abbrev pub IsBare : ℕ → Bool → ℕ → Type 0
IsBare size b k = (size ≡ 0 → k ≡ 0) × (b ≡ true → k ≡ 0)

comes-new_length : (b : Bool) (size : ℕ) (s : State) → Comes (λ k y. IsBare size b k × (y.lengths ≡ s.lengths)) (new_length b size s)
comes-new_length true size s = ((λ e. refl, λ e. refl), refl)
comes-new_length false zero s = ((λ e. refl, λ e. absurd cc), refl)
comes-new_length false (suc n) s = ((λ e. absurd (omega (arith, e)), λ e. absurd cc), refl)

-- where there are turns, the pattern has a low height
low-turns : (size g k : ℕ) (o : Option ℕ) → IsBare size (lacks o) k → 0 < k → Low size g o
low-turns size g k None b h = let e = b.1 refl in absurd (omega (arith, e, h))
low-turns size g k (Some m) b h = λ z. let e = b.0 z in absurd (omega (arith, e, h))

left-bare : (size k : ℕ) (a b : Bool) → IsBare size (a || b) k → IsBare size a k
left-bare size k true b h = h
left-bare size k false b h = (h.0, λ e. absurd cc)

right-bare : (size k : ℕ) (a b : Bool) → IsBare size (a || b) k → IsBare size b k
right-bare size k true b h = (h.0, λ e. h.1 refl)
right-bare size k false b h = h

-- ---- what is known of a pattern's surroundings

-- What nonterminals of low heights give; and P holds of the lengths that length names have, from which it follows that they are 0 where they are
-- to be.
pub record Gives (S : Setting) (N : Inner) (o : Notes) (size g : ℕ) (P : List (List ℕ × ℕ) → Type 0) : Type 0 where
  pub terms : (x : Ref) → Low size g (height_in S.known x).as_term → (s : State) → Comes (λ t y. y.lengths ≡ s.lengths) (N.as_term x size s)
  pub contexts : (x : Ref) → Low size g (height_in S.known x).as_context → (s : State)
      → Comes (λ C y. IsTrue (is_context C) × (y.lengths ≡ s.lengths)) (N.as_context x size s)
  pub had : (x : List ℕ) (ls : List (List ℕ × ℕ)) (k : ℕ) → IsTrue (is_one_of o.again x) → P ls → found_for x ls ≡ Some k
      → IsBare size (is_one_of o.hollow x) k
  pub new : (x : List ℕ) (ls : List (List ℕ × ℕ)) (k : ℕ) → IsTrue (is_one_of o.again x) → P ls → IsBare size (is_one_of o.hollow x) k
      → P (ls ++ (x, k) ∷ [])

module _ (S : Setting) (N : Inner) (o : Notes) (size g : ℕ) (P : List (List ℕ × ℕ) → Type 0) (gives : Gives S N o size g P) where
  -- P holds of the lengths behind a tree
  abbrev Kept : Tree → State → Type 0
  Kept t y = P y.lengths

  -- the tree is a context, too
  abbrev KeptContext : Tree → State → Type 0
  KeptContext C y = IsTrue (is_context C) × P y.lengths

  -- a context stands among the terms, too
  abbrev KeptList : Option ℕ → List Tree → State → Type 0
  KeptList m ts y = HasContext m ts × P y.lengths

  -- it is the length of a repetition of a pattern of this height, too
  abbrev KeptLength : Bool → ℕ → State → Type 0
  KeptLength b k y = IsBare size b k × P y.lengths

  same-kept : (s y : State) → P s.lengths → y.lengths ≡ s.lengths → P y.lengths
  same-kept s y l e = subst P (sym e) l

  -- ---- atoms and names

  number-comes : (k : ℕ) (s : State) → P s.lengths → Comes Kept (of_number k s)
  number-comes k s l =
      comes-either Kept (k == 0) (any_integer s) _ l
      (comes-either Kept (k == 1) (any_symbol (first_five [] []) s) _ l (comes-either Kept (k == 2) (any_truth s) (any_string s) l l))

  atom-comes : (s : State) → P s.lengths → Comes Kept (any_atom s)
  atom-comes s l = number-comes (pick 4 s.words).0 (with_words (pick 4 s.words).1 s) l

  kind-comes : (k : Kind) (s : State) → P s.lengths → Comes Kept (any_of_kind S.unmentioned k s)
  kind-comes Any s l = atom-comes s l
  kind-comes Number s l = l
  kind-comes Natural s l = l
  kind-comes Integer s l = l
  kind-comes Real s l = l
  kind-comes Text s l = l
  kind-comes Boolean s l = l
  kind-comes Variable s l = l
  kind-comes Unmentioned s l = l

  had-comes : (h : Option Tree) (x : List ℕ) (r : Outcome Tree) (s : State) → Comes Kept r → P s.lengths → Comes Kept (had_or_made h x r s)
  had-comes (Some t) x r s c l = l
  had-comes None x r s c l = comes-after Kept Kept r (λ t y. made t (with_term x t y)) c (λ t y m. m)

  name-comes : (b : Bool) (x : List ℕ) (r : Outcome Tree) (s : State) → Comes Kept r → P s.lengths → Comes Kept (for_name b x r s)
  name-comes true x r s c l = had-comes (found_for x s.terms) x r s c l
  name-comes false x r s c l = c

  -- ---- lengths

  new-comes : (b : Bool) (s : State) → P s.lengths → Comes (KeptLength b) (new_length b size s)
  new-comes b s l = kept _ (comes-new_length b size s)
    where
      kept : (r : Outcome ℕ) → Comes (λ k y. IsBare size b k × (y.lengths ≡ s.lengths)) r → Comes (KeptLength b) r
      kept (made k y) c = (c.0, same-kept s y l c.1)
      kept (stopped w v) c = tt
      kept nothing c = absurd c

  -- that of a length name which comes again
  again-comes : (a : Bool) (x : List ℕ) (s : State) (h : Option ℕ) → found_for x s.lengths ≡ h → IsTrue (is_one_of o.again x)
      → (IsTrue a → IsTrue (is_one_of o.hollow x)) → P s.lengths → Comes (KeptLength a) (had_or_new h x (a || is_one_of o.hollow x) size s)
  again-comes a x s (Some k) e i n l = let b = gives.had x s.lengths k i l e in ((b.0, λ z. b.1 (n z)), l)
  again-comes a x s None e i n l =
      comes-after (KeptLength (a || is_one_of o.hollow x)) (KeptLength a) (new_length (a || is_one_of o.hollow x) size s)
      (λ k y. made k (with_length x k y)) (new-comes (a || is_one_of o.hollow x) s l)
      (λ k y b. (left-bare size k a (is_one_of o.hollow x) b.0, gives.new x y.lengths k i b.1 (right-bare size k a (is_one_of o.hollow x) b.0)))

  any-bare : (a b : Bool) (r : Outcome ℕ) → Comes (KeptLength (a || b)) r → Comes (KeptLength a) r
  any-bare a b (made k y) c = (left-bare size k a b c.0, c.1)
  any-bare a b (stopped w v) c = tt
  any-bare a b nothing c = absurd c

  either-comes : (i a : Bool) (x : List ℕ) (s : State) → is_one_of o.again x ≡ i
      → (IsTrue (is_one_of o.again x) → IsTrue a → IsTrue (is_one_of o.hollow x)) → P s.lengths
      → Comes (KeptLength a) (if i then had_or_new (found_for x s.lengths) x (a || is_one_of o.hollow x) size s
      else new_length (a || is_one_of o.hollow x) size s)
  either-comes true a x s e n l = again-comes a x s (found_for x s.lengths) refl e (n e) l
  either-comes false a x s e n l = any-bare a (is_one_of o.hollow x) _ (new-comes (a || is_one_of o.hollow x) s l)

  length-comes : (h : Option ℕ) (x : Option (List ℕ)) (s : State) → IsNoted o h x → P s.lengths
      → Comes (KeptLength (lacks h)) (length_of o h x size s)
  length-comes h None s n l = new-comes (lacks h) s l
  length-comes h (Some x) s n l = either-comes (is_one_of o.again x) (lacks h) x s refl n l

  -- the lengths beside a context
  beside-comes : (h : Option ℕ) (x : Option (List ℕ)) (s : State) → P s.lengths → Comes (KeptLength (lacks h)) (new_length (is_hollow o h x) size s)
  beside-comes h None s l = new-comes (lacks h) s l
  beside-comes h (Some x) s l = any-bare (lacks h) (is_one_of o.hollow x) _ (new-comes (lacks h || is_one_of o.hollow x) s l)

  -- ---- turns

  turns-come : (c : Option ℕ) (G : State → Outcome Tree) (n : ℕ)
      → (0 < n → (s : State) → P s.lengths → Comes Kept (G s)) → (found : List Tree) (s : State) → HasContext c found → P s.lengths
      → Comes (KeptList c) (turns G n found s)
  turns-come c G zero g found s q l = (q, l)
  turns-come c G (suc n) g found s q l =
      comes-after Kept (KeptList c) (G s) _ (g (omega arith) s l)
      (λ t y m. turns-come c G n (λ z. g (omega arith)) (found ++ t ∷ []) y (context-stays c found t q) m)

  -- ---- patterns

  mutual
    pub terms-come : (p : Pattern) (s : State) → Low size g (term_height S.known p) → AllNoted S.known o p → P s.lengths
        → Comes Kept (term S N o size p s)
    terms-come wild s h n l = atom-comes s l
    terms-come (of_kind k) s h n l = kind-comes k s l
    terms-come (except rs) s h n l = l
    terms-come (prefix r) s h n l = l
    terms-come hole s h n l = l
    terms-come (lit u) s h n l = l
    terms-come (nt x) s h n l = kept _ (gives.terms x h s)
      where
        kept : (r : Outcome Tree) → Comes (λ t y. y.lengths ≡ s.lengths) r → Comes Kept r
        kept (made t y) c = same-kept s y l c
        kept (stopped w v) c = tt
        kept nothing c = absurd c
    terms-come (named x q) s h n l = name-comes (is_one_of o.again x) x (term S N o size q s) s (terms-come q s h n l) l
    terms-come (differ x q) s h n l = terms-come q s h n l
    terms-come (in_hole q r) s h n l =
        let both = low-greater size g (context_height S.known q) (term_height S.known r) h in
        comes-after KeptContext Kept (context S N o size q s) _ (contexts-come q s both.0 n.0 l)
        (λ C y c. comes-after Kept Kept (term S N o size r y) _ (terms-come r y both.1 n.1 c.1)
        (λ t z m. comes-filled Kept C t z c.0 m))
    terms-come (hide_hole q) s h n l = terms-come q s h n l
    terms-come (closed q) s h n l = absurd h
    terms-come (seq ps) s h n l =
        comes-after (KeptList None) Kept (items S N o size ps [] s) listed (items-come None ps [] s h n tt l)
        (λ ts y c. comes-limited Kept (list_of (trees ts)) y c.1)

    items-come : (c : Option ℕ) (ps : Items) (found : List Tree) (s : State)
        → Low size g (items_height S.known ps) → ItemsNoted S.known o ps → HasContext c found → P s.lengths
        → Comes (KeptList c) (items S N o size ps found s)
    items-come c nil found s h n q l = (q, l)
    items-come c (one p ps) found s h n q l =
        let both = low-greater size g (term_height S.known p) (items_height S.known ps) h in
        comes-after Kept (KeptList c) (term S N o size p s) _ (terms-come p s both.0 n.0 l)
        (λ t y m. items-come c ps (found ++ t ∷ []) y both.1 n.1 (context-stays c found t q) m)
    items-come c (many p x ps) found s h n q l =
        comes-after (KeptLength (lacks (term_height S.known p))) (KeptList c) (length_of o (term_height S.known p) x size s) _
        (length-comes (term_height S.known p) x s n.1.0 l)
        (λ k y b. comes-after (KeptList c) (KeptList c) (turns (λ z. term S N o size p z) k found y) _
        (turns-come c (λ z. term S N o size p z) k (λ i z m. terms-come p z (low-turns size g k (term_height S.known p) b.0 i) n.0 m) found y q b.1)
        (λ more z d. items-come c ps more z h n.1.1 d.0 d.1))

    pub contexts-come : (p : Pattern) (s : State) → Low size g (context_height S.known p) → AllNoted S.known o p → P s.lengths
        → Comes KeptContext (context S N o size p s)
    contexts-come wild s h n l = absurd h
    contexts-come (of_kind k) s h n l = absurd h
    contexts-come (except rs) s h n l = absurd h
    contexts-come (prefix r) s h n l = absurd h
    contexts-come hole s h n l = (refl, l)
    contexts-come (lit u) s h n l = absurd h
    contexts-come (nt x) s h n l = kept _ (gives.contexts x h s)
      where
        kept : (r : Outcome Tree) → Comes (λ C y. IsTrue (is_context C) × (y.lengths ≡ s.lengths)) r → Comes KeptContext r
        kept (made C y) c = (c.0, same-kept s y l c.1)
        kept (stopped w v) c = tt
        kept nothing c = absurd c
    contexts-come (named x q) s h n l = contexts-come q s h n l
    contexts-come (differ x q) s h n l = contexts-come q s h n l
    contexts-come (in_hole q r) s h n l =
        let both = low-greater size g (context_height S.known q) (context_height S.known r) h in
        comes-after KeptContext KeptContext (context S N o size q s) _ (contexts-come q s both.0 n.0 l)
        (λ C y c. comes-after KeptContext KeptContext (context S N o size r y) _ (contexts-come r y both.1 n.1 c.1)
        (λ D z d. comes-filled KeptContext C D z c.0 (is_context-fill_of C D c.0 d.0, d.1)))
    contexts-come (hide_hole q) s h n l = absurd h
    contexts-come (closed q) s h n l = absurd h
    contexts-come (seq ps) s h n l =
        let hs : List (Option ℕ) = place_heights S.known (Some 0) ps in
        comes-after (λ k y. Low size g (slice_index_or hs k None) × (y.lengths ≡ s.lengths)) KeptContext (one_of (choices size hs) s) _
        (comes-choice size g hs s (subst (Low size g) (sym (least_place S.known ps)) h))
        (λ k y c. around-comes ps k [] y (spot-low S.known size g ps (Some 0) k c.0).1 n (same-kept s y l c.1))

    around-comes : (ps : Items) (k : ℕ) (found : List Tree) (s : State) → Spot S.known size g ps k → ItemsNoted S.known o ps → P s.lengths
        → Comes KeptContext (around S N o size ps k found s)
    around-comes nil k found s h n l = absurd h
    around-comes (one p ps) zero found s h n l =
        let at : Option ℕ = Some (length found) in
        comes-after KeptContext KeptContext (context S N o size p s) _ (contexts-come p s h.0 n.0 l)
        (λ C y c. comes-after (KeptList at) KeptContext (items S N o size ps (found ++ C ∷ []) y) _
        (items-come at ps (found ++ C ∷ []) y h.1 n.1 (context-here found C c.0) c.1)
        (λ ts z d. comes-limited KeptContext (list (Some (length found)) (trees ts)) z d))
    around-comes (one p ps) (suc k) found s h n l =
        comes-after Kept KeptContext (term S N o size p s) _ (terms-come p s h.0 n.0 l)
        (λ t y m. around-comes ps k (found ++ t ∷ []) y h.1 n.1 m)
    around-comes (many p x ps) zero found s h n l =
        let G : State → Outcome Tree = λ z. term S N o size p z in
        let b : Bool = is_hollow o (term_height S.known p) x in
        let L : ℕ → State → Type 0 = KeptLength (lacks (term_height S.known p)) in
        comes-after L KeptContext (new_length b size s) _ (beside-comes (term_height S.known p) x s l)
        (λ k y c. comes-after (KeptList None) KeptContext (turns G k found y) _
        (turns-come None G k (λ i z m. terms-come p z (low-turns size g k (term_height S.known p) c.0 i) n.0 m) found y tt c.1)
        (λ before y2 c2. comes-after KeptContext KeptContext (context S N o size p y2) _ (contexts-come p y2 h.0 n.0 c2.1)
        (λ C y3 c3. comes-after L KeptContext (new_length b size y3) _ (beside-comes (term_height S.known p) x y3 c3.1)
        (λ m y4 c4. comes-after (KeptList (Some (length before))) KeptContext (turns G m (before ++ C ∷ []) y4) _
        (turns-come (Some (length before)) G m (λ i z r. terms-come p z (low-turns size g m (term_height S.known p) c4.0 i) n.0 r)
        (before ++ C ∷ []) y4 (context-here before C c3.0) c4.1)
        (λ behind y5 c5. comes-after (KeptList (Some (length before))) KeptContext (items S N o size ps behind y5) _
        (items-come (Some (length before)) ps behind y5 h.1 n.1.1 c5.0 c5.1)
        (λ ts y6 c6. comes-limited KeptContext (list (Some (length before)) (trees ts)) y6 c6))))))
    around-comes (many p x ps) (suc k) found s h n l =
        comes-after (KeptLength (lacks (term_height S.known p))) KeptContext (length_of o (term_height S.known p) x size s) _
        (length-comes (term_height S.known p) x s n.1.0 l)
        (λ m y c. comes-after (KeptList None) KeptContext (turns (λ z. term S N o size p z) m found y) _
        (turns-come None (λ z. term S N o size p z) m (λ i z r. terms-come p z (low-turns size g m (term_height S.known p) c.0 i) n.0 r) found y tt c.1)
        (λ more z d. around-comes ps k more z h n.1.1 d.1))
