-- What a matcher lists of an opened pattern, and what is sought among it.
use Rattle.std.proofs.Common.{◌≡◌, ℕ, zero, suc, ◌+◌, ◌<◌, ◌≤◌, List, [], ◌∷◌, ◌++◌, length, map, drop, get_or, refl, sym, ap, subst, ◌∙◌, true≢false, arith}
use Rattle.std.specs.Prelude.{◌↔◌, Bool, true, Option, Some, None, IfSome, IfNone, IsTrue, IsFalse}
use Rattle.rdx_term.specs.Tree.{Tree}
use Rattle.rdx_lang.specs.Bindings.{Binding, visible, HasAscendingNames}
use Rattle.rdx_lang.specs.Decompositions.{Decomposition}
use Rattle.rdx_lang.specs.Listing.{IsSeen, Matches, Splits}
use Rattle.rdx_lang.specs.Members.{In, here, there}
use Rattle.rdx_lang.specs.Model.TotalOrders.{pair_cmp-total}
use Rattle.rdx_lang.specs.Order.{pair_cmp}
use Rattle.rdx_lang.specs.Patterns.{Pattern, named, in_hole, hide_hole, seq, Items, Language}
use Rattle.rdx_lang.specs.Patterns.{one as one_item, many as many_items}
use Rattle.rdx_lang.specs.Rules.{Match, Split}
use Rattle.rdx_lang.specs.Shown.{binding_of}
use Rattle.rdx_lang.specs.declared.binding.Binding as code_binding
use Rattle.rdx_lang.proofs.JoinLaws.{pairs_ascend}
use Rattle.rdx_lang.proofs.NameLaws.{match-ascends, split-ascends}
use Rattle.rdx_lang.proofs.OrderLaws.{fixed_by_members}
use Rattle.rdx_lang.proofs.Rest.{rest_at, rest_none}
use Rattle.rdx_lang.proofs.SetJoins.{same_sets}
use Rattle.rdx_opened.specs.Inside.Marks.{into}
use Rattle.rdx_opened.specs.Opening.{Mark, Opens, opens_wild, opens_kind, opens_except, opens_prefix, opens_hole, opens_lit, opens_nt, opens_named, opens_differ, opens_in_hole, opens_hide_hole, opens_closed, opens_seq, OpensItems, opens_none, opens_one, opens_many, IsOpened, IsApart, Stands, HasStanding}
use Rattle.rdx_opened.proofs.OpenedMatches.{opened-matches, opened-splits}
use Rattle.rdx_opened.proofs.Standing.{stands-one, stands-part}
use Rattle.rdx_opened.proofs.WholeMatches.{matches-opened, splits-opened}

-- ---- members that a loop has before it

module _ {A B : Type 0} (f : A → B) (xs : List A) (i : ℕ) where
  -- a member that is ahead, and not here, is ahead of the next place
  pub ahead_more : (x : A) → i < length xs → x ≡ get_or xs i x → (y : B) → (y ≡ f x → ⊥) → In y (map f (drop i xs)) → In y (map f (drop (i + 1) xs))
  ahead_more x h e y n k = behind (subst (λ (zs : List B). In y zs) (rest_at f xs i x h e) k)
    where
      behind : In y (f x ∷ map f (drop (i + 1) xs)) → In y (map f (drop (i + 1) xs))
      behind (here d) = absurd (n d)
      behind (there j) = j

  -- behind the last place there is none
  pub none_ahead : length xs ≤ i → (y : B) → In y (map f (drop i xs)) → ⊥
  none_ahead h y k = elim (subst (λ (zs : List B). In y zs) (rest_none f xs i h) k) [ ]

-- what stands at a place is a member
pub member_at : {A B : Type 0} (f : A → B) (xs : List A) (i : ℕ) (x : A) → i < length xs → x ≡ get_or xs i x → In (f x) (map f xs)
member_at f [] i x h e = absurd (omega arith)
member_at f (y ∷ ys) zero x h e = here (ap f e)
member_at f (y ∷ ys) (suc i) x h e = there (member_at f ys i x (omega arith) e)

-- ---- what is listed

-- what is seen of a binding without sets is that binding
seen_plain : (c : Binding) → c.differs ≡ [] → c ≡ visible c
seen_plain c e = λ i. record { pairs = c.pairs; differs = e i }

-- what is seen of a binding has no sets
pub seen_sets : {R : Binding → Type 0} {c : Binding} → IsSeen R c → c.differs ≡ []
seen_sets s = ap (λ (b : Binding). b.differs) s.seen

-- terms that are apart in what is seen are apart in the whole
whole_apart : {R : Binding → Type 0} {ms : List Mark} {c : Binding} (s : IsSeen R c) → IsApart ms c → IsApart ms s.whole
whole_apart s a = stands-part (λ p i. subst (λ (b : Binding). In p b.pairs) (sym s.seen) i) a

-- so what is seen of one that stands for something is the whole
whole_seen : {R S : Binding → Type 0} {ms : List Mark} {c : Binding} (s : IsSeen R c) → HasStanding ms s.whole S → R c
whole_seen {R = R} s k = subst (λ (b : Binding). R b) (seen_plain s.whole k.stands.plain ∙ sym s.seen) s.holds

module _ (L : Language) {p o : Pattern} {ms : List Mark} (h : IsOpened p o ms) {t : Tree} where
  -- what is listed, and is apart, is a match of the opened pattern
  pub seen-match : {cs : List Binding} → Matches L o t cs → (c : Binding) → In c cs → IsApart ms c → Match L o t c
  seen-match l c i a =
      let s = l.sound c i in
      whole_seen s (opened-matches L h (λ m j. j) h.new s.holds (whole_apart s a))

  -- where nothing that is listed stands for what is sought, there is no match that is sought
  pub no-match : {W : Binding → Type 0} {cs : List Binding} → Matches L o t cs → ((c b : Binding) → In c cs → Stands ms c b → W b → ⊥)
      → (b : Binding) → Match L p t b → W b → ⊥
  no-match l n b m w =
      let k = matches-opened L h m in
      n k.opened b (l.complete k.opened (record { whole = k.opened; holds = k.holds; seen = seen_plain k.opened k.stands.plain })) k.stands w

  -- the same of splits
  pub seen-split : {ds : List Decomposition} → Splits L o t ds → (C s : Tree) (c : Binding) → In (into C s c) ds → IsApart ms c
      → Split L o t C s c
  seen-split l C s c i a =
      let r : IsSeen (Split L o t C s) c = l.sound (into C s c) i in
      whole_seen r (opened-splits L h (λ m j. j) h.new r.holds (whole_apart r a))

  pub no-split : {W : Binding → Type 0} {ds : List Decomposition} → Splits L o t ds → (C s : Tree)
      → ((c b : Binding) → In (into C s c) ds → Stands ms c b → W b → ⊥)
      → (b : Binding) → Split L p t C s b → W b → ⊥
  no-split l C s n b m w =
      let k = splits-opened L h m in
      n k.opened b
      (l.complete (into C s k.opened) (record { whole = k.opened; holds = k.holds; seen = seen_plain k.opened k.stands.plain }))
      k.stands w

-- ---- patterns without marks

empty_left : (ms ns : List Mark) → ms ++ ns ≡ [] → ms ≡ []
empty_left [] ns e = refl
empty_left (m ∷ ms) ns e = absurd cc

empty_right : (ms ns : List Mark) → ms ++ ns ≡ [] → ns ≡ []
empty_right [] ns e = e
empty_right (m ∷ ms) ns e = absurd cc

mutual
  -- a pattern that is opened by no marks stays as it is
  opens_nothing : {p o : Pattern} {ms : List Mark} → Opens p o ms → ms ≡ [] → p ≡ o
  opens_nothing opens_wild e = refl
  opens_nothing opens_kind e = refl
  opens_nothing opens_except e = refl
  opens_nothing opens_prefix e = refl
  opens_nothing opens_hole e = refl
  opens_nothing opens_lit e = refl
  opens_nothing opens_nt e = refl
  opens_nothing (opens_named {x = x} h) e = ap (λ (q : Pattern). named x q) (opens_nothing h e)
  opens_nothing (opens_differ h) e = absurd cc
  opens_nothing (opens_in_hole {ms = ms} {ns = ns} h k) e =
      let a = opens_nothing h (empty_left ms ns e) in
      let b = opens_nothing k (empty_right ms ns e) in
      λ i. in_hole (a i) (b i)
  opens_nothing (opens_hide_hole h) e = ap hide_hole (opens_nothing h e)
  opens_nothing opens_closed e = refl
  opens_nothing (opens_seq h) e = ap seq (items_open_nothing h e)

  items_open_nothing : {ps os : Items} {ms : List Mark} → OpensItems ps os ms → ms ≡ [] → ps ≡ os
  items_open_nothing opens_none e = refl
  items_open_nothing (opens_one {ms = ms} {ns = ns} h k) e =
      let a = opens_nothing h (empty_left ms ns e) in
      let b = items_open_nothing k (empty_right ms ns e) in
      λ i. one_item (a i) (b i)
  items_open_nothing (opens_many {n = n} {ms = ms} {ns = ks} h k) e =
      let a = opens_nothing h (empty_left ms ks e) in
      let b = items_open_nothing k (empty_right ms ks e) in
      λ i. many_items (a i) n (b i)

-- without marks a binding stands for itself alone
stands_alone : {c b : Binding} → HasAscendingNames c → Stands [] c b → c ≡ b
stands_alone {c = c} {b = b} a s =
    let e : c.pairs ≡ b.pairs =
    fixed_by_members pair_cmp pair_cmp-total c.pairs b.pairs (pairs_ascend c.pairs a.0) (pairs_ascend b.pairs s.ascending.0)
    (λ p i. (s.pairs p).1 (i, λ k. elim k [ ])) (λ p i. ((s.pairs p).0 i).0) in
    let f : b.differs ≡ [] =
    same_sets b.differs [] s.ascending.1 (tt, tt) (λ u i. elim ((s.sets u.0 u.1).0 i).2.mark [ ]) (λ u i. elim i [ ]) in
    let g : c.differs ≡ b.differs = s.plain ∙ sym f in
    λ i. record { pairs = e i; differs = g i }

stands_for_itself : {ms : List Mark} {c b : Binding} → ms ≡ [] → HasAscendingNames c → Stands ms c b → Stands ms b b
stands_for_itself {ms = ms} {c = c} {b = b} e a s =
    let f : c ≡ b = stands_alone a (subst (λ (ns : List Mark). Stands ns c b) e s) in
    subst (λ (d : Binding). Stands ms d b) f s

module _ (L : Language) {p o : Pattern} {ms : List Mark} (h : IsOpened p o ms) (e : ms ≡ []) {t : Tree} {b : Binding} where
  -- so a match of a pattern that is opened by no marks is one of the opened pattern, and stands for itself
  pub known-match : Match L p t b → Match L o t b × Stands ms b b
  known-match m =
      let k = matches-opened L h m in
      (subst (λ (q : Pattern). Match L q t b) (opens_nothing h.opens e) m, stands_for_itself e (match-ascends k.holds) k.stands)

  -- and so is a split
  pub known-split : {C s : Tree} → Split L p t C s b → Split L o t C s b × Stands ms b b
  known-split {C = C} {s = s} m =
      let k = splits-opened L h m in
      (subst (λ (q : Pattern). Split L q t C s b) (opens_nothing h.opens e) m, stands_for_itself e (split-ascends k.holds) k.stands)

-- ---- what is wanted

module _ (ms : List Mark) (c : Binding) (W : Binding → Type 0) (r : Option code_binding.Binding) where
  -- where what c stands for is found, and is wanted
  pub wanted_yes : (w : code_binding.Binding) → r ≡ Some w → IfSome r (λ v. Stands ms c (binding_of v)) → (a : Bool)
      → (IsTrue a ↔ W (binding_of w)) → IsTrue a
      → HasStanding ms c W
  wanted_yes w e h a f t = record {
    whole = binding_of w;
    stands = subst (λ (o : Option code_binding.Binding). IfSome o (λ v. Stands ms c (binding_of v))) e h;
    holds = f.0 t;
  }

  -- where it is not wanted
  pub wanted_no : (w : code_binding.Binding) → r ≡ Some w → IfSome r (λ v. Stands ms c (binding_of v)) → (a : Bool)
      → (IsTrue a ↔ W (binding_of w)) → IsFalse a
      → (b : Binding) → Stands ms c b → W b → ⊥
  wanted_no w e h a f n b s k =
      let stands : Stands ms c (binding_of w) = subst (λ (o : Option code_binding.Binding). IfSome o (λ v. Stands ms c (binding_of v))) e h in
      let t : a ≡ true = f.1 (subst W (stands-one s stands) k) in
      true≢false (sym t ∙ n)

  -- and where it stands for nothing
  pub wanted_none : r ≡ None → IfNone r (IsApart ms c → ⊥) → (b : Binding) → Stands ms c b → W b → ⊥
  wanted_none e h b s k = subst (λ (o : Option code_binding.Binding). IfNone o (IsApart ms c → ⊥)) e h s.apart

-- ---- the first that is wanted

module _ {A : Type 0} (v : A → Binding) (r : Option A) where
  -- where one is found, what is said of it holds
  pub at_found : (P : Binding → Type 0) (w : A) → r ≡ Some w → IfSome r (λ x. P (v x)) → (b : Binding) → b ≡ v w → P b
  at_found P w e h b f = subst P (sym f) (subst (λ (o : Option A). IfSome o (λ x. P (v x))) e h)

  -- and where none is, what is said of that
  pub at_none : {P : Type 0} → r ≡ None → IfNone r P → P
  at_none {P = P} e h = subst (λ (o : Option A). IfNone o P) e h

module _ (L : Language) (p o q : Pattern) (ms ns : List Mark) (h : IsOpened p o ms) (e : q ≡ o) (g : ns ≡ ms) (t : Tree) (W : Binding → Type 0) where
  -- what is found is a match of the opened pattern, and stands for what is wanted
  pub match_found : (cs ds : List Binding) → Matches L q t cs → ds ≡ cs → (v b : Binding) → In v ds → HasStanding ns v W → b ≡ v
      → Match L o t b × HasStanding ms b W
  match_found cs ds l d v b i k f =
      let s : HasStanding ms b W = subst (λ (c : Binding). HasStanding ms c W) (sym f) (subst (λ (ks : List Mark). HasStanding ks v W) g k) in
      let n : In b cs = subst (λ (c : Binding). In c cs) (sym f) (subst (λ (xs : List Binding). In v xs) d i) in
      (seen-match L h (subst (λ (r : Pattern). Matches L r t cs) e l) b n s.stands.apart, s)

  -- and where nothing is found, there is no match that is wanted
  pub match_none : (cs ds : List Binding) → Matches L q t cs → ds ≡ cs → ((c b : Binding) → In c ds → Stands ns c b → W b → ⊥)
      → (b : Binding) → Match L p t b → W b → ⊥
  match_none cs ds l d n =
      no-match L h (subst (λ (r : Pattern). Matches L r t cs) e l)
      (λ c b i s w. n c b (subst (λ (xs : List Binding). In c xs) (sym d) i) (subst (λ (ks : List Mark). Stands ks c b) (sym g) s) w)

  -- the same of splits
  pub split_found : (C s : Tree) (cs ds : List Decomposition) → Splits L q t cs → ds ≡ cs → (v b : Binding) → In (into C s v) ds
      → HasStanding ns v W → b ≡ v
      → Split L o t C s b × HasStanding ms b W
  split_found C s cs ds l d v b i k f =
      let u : HasStanding ms b W = subst (λ (c : Binding). HasStanding ms c W) (sym f) (subst (λ (ks : List Mark). HasStanding ks v W) g k) in
      let n : In (into C s b) cs = subst (λ (c : Binding). In (into C s c) cs) (sym f)
      (subst (λ (xs : List Decomposition). In (into C s v) xs) d i) in
      (seen-split L h (subst (λ (r : Pattern). Splits L r t cs) e l) C s b n u.stands.apart, u)

  pub split_none : (C s : Tree) (cs ds : List Decomposition) → Splits L q t cs → ds ≡ cs
      → ((c b : Binding) → In (into C s c) ds → Stands ns c b → W b → ⊥)
      → (b : Binding) → Split L p t C s b → W b → ⊥
  split_none C s cs ds l d n =
      no-split L h (subst (λ (r : Pattern). Splits L r t cs) e l) C s
      (λ c b i k w. n c b (subst (λ (xs : List Decomposition). In (into C s c) xs) (sym d) i) (subst (λ (ks : List Mark). Stands ks c b) (sym g) k) w)

-- what is listed has no sets
pub listed_plain : {L : Language} {q : Pattern} {t : Tree} (cs ds : List Binding) → Matches L q t cs → ds ≡ cs → (c : Binding) → In c ds
    → c.differs ≡ []
listed_plain cs ds l d c i = seen_sets (l.sound c (subst (λ (xs : List Binding). In c xs) d i))

pub splits_plain : {L : Language} {q : Pattern} {t : Tree} (cs ds : List Decomposition) → Splits L q t cs → ds ≡ cs → (c : Decomposition) → In c ds
    → c.binding.differs ≡ []
splits_plain cs ds l d c i = seen_sets (l.sound c (subst (λ (xs : List Decomposition). In c xs) d i))
