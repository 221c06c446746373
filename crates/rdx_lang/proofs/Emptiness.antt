-- Which patterns are Empty: told by a test of nonterminals, which each language has; and they are those that split terms with the hole itself
-- as context.
use Rattle.std.proofs.Common.{◌≡◌, ℕ, Bool, true, false, ◌⊎◌, inl, inr, List, [], ◌∷◌, Some, None, refl, sym, ◌∙◌, ap, subst}
use Rattle.std.specs.Prelude.{◌↔◌, ◌||◌, IsTrue, if◌then◌else◌}
use Rattle.std.proofs.lemmas.Bool.{and_from, and_parts, or_left, or_right, or_cases}
use Rattle.rdx_term.specs.Building.{list_of}
use Rattle.rdx_term.specs.Context.{is_context_at}
use Rattle.rdx_term.specs.Fill.{fill_of, fill_at, marked_at}
use Rattle.rdx_term.specs.Tree.{Tree, integer, truth, text, symbol, list, Trees}
use Rattle.rdx_term.specs.Tree.{hole as the_hole}
use Rattle.rdx_lang.specs.Bindings.{Pair, Mismatch, Binding, no_names, one_name, HasAscendingNames}
use Rattle.rdx_lang.specs.Bindings.{one as one_term}
use Rattle.rdx_lang.specs.Edges.{Edge, edge_nt, edge_named, edge_closed, edge_left, edge_right, at_once, further}
use Rattle.rdx_lang.specs.Empty.{IsEmpty, empty_hole, empty_nt, empty_named, empty_differ, empty_closed, empty_in_hole, is_empty, TellsEmpty}
use Rattle.rdx_lang.specs.Join.{JoinsSets, IsJoin}
use Rattle.rdx_lang.specs.Laws.{WholeIsEmpty, EmptySplitsAll, EmptyIsDecided}
use Rattle.rdx_lang.specs.Members.{In, here, there}
use Rattle.rdx_lang.specs.Mismatches.{has_differ, HasNoDifferAhead}
use Rattle.rdx_lang.specs.Patterns.{Pattern, wild, of_kind, except, prefix, hole, lit, nt, named, differ, in_hole, hide_hole, closed, seq, Definition, Language}
use Rattle.rdx_lang.specs.References.{is_same}
use Rattle.rdx_lang.specs.Rules.{IsAlternative, Split, split_hole, split_nt, split_named, split_differ, split_in_hole, split_closed, split_seq}
use Rattle.rdx_lang.specs.declared.pattern.Ref.{Ref}
use Rattle.rdx_lang.proofs.Joins.{pairs_join}
use Rattle.rdx_lang.proofs.LookupLaws.{is_same-equal, equal-is_same}
use Rattle.rdx_lang.proofs.NameLaws.{split-ascends}
use Rattle.rdx_lang.proofs.SetJoins.{no_sets_left}

-- ---- the test of patterns, from one of nonterminals

module _ (L : Language) (E : Ref → Bool) where
  -- E holds of Empty nonterminals alone
  abbrev IsSound : Type 0
  IsSound = (x : Ref) → E x ≡ true → IsEmpty L (nt x)

  -- E holds of each nonterminal that has an alternative that passes
  abbrev IsClosed : Type 0
  IsClosed = (x : Ref) (p : Pattern) → IsAlternative L x p → is_empty E p ≡ true → E x ≡ true

  -- so what passes is Empty
  is_empty-sound : IsSound → (p : Pattern) → is_empty E p ≡ true → IsEmpty L p
  is_empty-sound f wild h = absurd cc
  is_empty-sound f (of_kind k) h = absurd cc
  is_empty-sound f (except rs) h = absurd cc
  is_empty-sound f (prefix r) h = absurd cc
  is_empty-sound f hole h = empty_hole
  is_empty-sound f (lit u) h = absurd cc
  is_empty-sound f (nt x) h = f x h
  is_empty-sound f (named x q) h = empty_named (is_empty-sound f q h)
  is_empty-sound f (differ x q) h = empty_differ (is_empty-sound f q h)
  is_empty-sound f (in_hole q r) h = empty_in_hole
      (is_empty-sound f q (and_parts (is_empty E q) (is_empty E r) h).0)
      (is_empty-sound f r (and_parts (is_empty E q) (is_empty E r) h).1)
  is_empty-sound f (hide_hole q) h = absurd cc
  is_empty-sound f (closed q) h = empty_closed (is_empty-sound f q h)
  is_empty-sound f (seq ps) h = absurd cc

  -- and what is Empty passes
  is_empty-complete : IsClosed → {p : Pattern} → IsEmpty L p → is_empty E p ≡ true
  is_empty-complete f empty_hole = refl
  is_empty-complete f (empty_nt {x = x} {p = p} a h) = f x p a (is_empty-complete f h)
  is_empty-complete f (empty_named h) = is_empty-complete f h
  is_empty-complete f (empty_differ h) = is_empty-complete f h
  is_empty-complete f (empty_closed h) = is_empty-complete f h
  is_empty-complete f (empty_in_hole {q = q} {r = r} h k) =
      and_from (is_empty E q) (is_empty E r) (is_empty-complete f h) (is_empty-complete f k)

  -- a test that is both tells which nonterminals are Empty
  tells : IsSound → IsClosed → TellsEmpty L E
  tells f g x = (f x, is_empty-complete g)

  -- and one that tells it is both
  told-closed : TellsEmpty L E → IsClosed
  told-closed e x p a h = (e x).1 (empty_nt a (is_empty-sound (λ y. (e y).0) p h))

-- where E tells which nonterminals are Empty, the test passes exactly the patterns that are
pub is_empty-exact : (L : Language) (E : Ref → Bool) → TellsEmpty L E → (p : Pattern) → (IsTrue (is_empty E p) ↔ IsEmpty L p)
is_empty-exact L E e p = (is_empty-sound L E (λ x. (e x).0) p, is_empty-complete L E (told-closed L E e))

-- ---- the test of a language's nonterminals

-- one of the patterns passes
abbrev some_empty : (Ref → Bool) → List Pattern → Bool
some_empty E [] = false
some_empty E (p ∷ ps) = is_empty E p || some_empty E ps

-- a member that passes
some_empty-one : (E : Ref → Bool) (ps : List Pattern) → some_empty E ps ≡ true → (p : Pattern) × In p ps × (is_empty E p ≡ true)
some_empty-one E [] h = absurd cc
some_empty-one E (p ∷ ps) h = elim (or_cases (is_empty E p) (some_empty E ps) h) [
  | inl k ↦ (p, here refl, k)
  | inr k ↦ let f = some_empty-one E ps k in (f.0, there f.1, f.2)
]

-- where a member passes, one of the patterns does
some_empty-in : (E : Ref → Bool) (ps : List Pattern) (p : Pattern) → In p ps → is_empty E p ≡ true → some_empty E ps ≡ true
some_empty-in E [] p i h = elim i [ ]
some_empty-in E (q ∷ ps) p (here e) h = or_left (is_empty E q) (some_empty E ps) (subst (λ (r : Pattern). is_empty E r ≡ true) e h)
some_empty-in E (q ∷ ps) p (there i) h = or_right (is_empty E q) (some_empty E ps) (some_empty-in E ps p i h)

-- x, and those of which A holds
abbrev with_one : Ref → (Ref → Bool) → Ref → Bool
with_one x A y = is_same y x || A y

-- A, with the nonterminal of a definition where the test says so
abbrev with_first : Bool → Definition → (Ref → Bool) → Ref → Bool
with_first b d A = if b then with_one d.0 A else A

-- Those of which A holds, and those that are Empty by these definitions where all of A are. Whether the first definition's nonterminal is
-- Empty is told by the definitions behind it alone, since a shortest derivation doesn't use it twice.
abbrev empties : List Definition → (Ref → Bool) → Ref → Bool
empties [] A = A
empties (d ∷ ds) A = empties ds (with_first (some_empty (empties ds A) d.1) d A)

-- those of A stay
empties-keep : (ds : List Definition) (A : Ref → Bool) (x : Ref) → A x ≡ true → empties ds A x ≡ true
empties-keep [] A x h = h
empties-keep (d ∷ ds) A x h = empties-keep ds (with_first b d A) x (by_test b)
  where
    b : Bool
    b = some_empty (empties ds A) d.1

    by_test : (c : Bool) → with_first c d A x ≡ true
    by_test true = or_right (is_same x d.0) (A x) h
    by_test false = h

-- each definition is used
empties-closed : (ds : List Definition) (A : Ref → Bool) (x : Ref) (ps : List Pattern) (p : Pattern) → In (x, ps) ds → In p ps → is_empty (empties ds A) p ≡ true → empties ds A x ≡ true
empties-closed [] A x ps p i j h = elim i [ ]
empties-closed (d ∷ ds) A x ps p (there i) j h = empties-closed ds (with_first (some_empty (empties ds A) d.1) d A) x ps p i j h
empties-closed (d ∷ ds) A x ps p (here e) j h = by_test (some_empty (empties ds A) d.1) refl h
  where
    same : is_same x d.0 ≡ true
    same = equal-is_same x d.0 (ap (λ (c : Definition). c.0) e)

    among : In p d.1
    among = subst (λ (c : Definition). In p c.1) e j

    by_test : (b : Bool) → some_empty (empties ds A) d.1 ≡ b → is_empty (empties ds (with_first b d A)) p ≡ true → empties ds (with_first b d A) x ≡ true
    by_test true f k = empties-keep ds (with_one d.0 A) x (or_left (is_same x d.0) (A x) same)
    by_test false f k = let g : some_empty (empties ds A) d.1 ≡ true = some_empty-in (empties ds A) d.1 p among k in absurd cc

module _ (L : Language) where
  -- the nonterminal of a definition is Empty where one of its alternatives passes
  first-sound : (E : Ref → Bool) → IsSound L E → (d : Definition) → In d L.nonterminals → some_empty E d.1 ≡ true → IsEmpty L (nt d.0)
  first-sound E f d i h =
      let k = some_empty-one E d.1 h in
      empty_nt (record { all = d.1; defined = i; among = k.1 }) (is_empty-sound L E f k.0 k.2)

  -- x or one of A is Empty, where x is, and those of A are
  one-sound : (x : Ref) (A : Ref → Bool) → IsEmpty L (nt x) → IsSound L A → (y : Ref) → (is_same y x ≡ true) ⊎ (A y ≡ true) → IsEmpty L (nt y)
  one-sound x A e f y (inl s) = subst (λ (z : Ref). IsEmpty L (nt z)) (sym (is_same-equal y x s)) e
  one-sound x A e f y (inr h) = f y h

  -- the definition's nonterminal comes in where it is Empty
  with_first-sound : (b : Bool) (d : Definition) (A : Ref → Bool) → (b ≡ true → IsEmpty L (nt d.0)) → IsSound L A → IsSound L (with_first b d A)
  with_first-sound true d A e f x h = one-sound d.0 A (e refl) f x (or_cases (is_same x d.0) (A x) h)
  with_first-sound false d A e f x h = f x h

  -- none is found but what is Empty
  empties-sound : (ds : List Definition) (A : Ref → Bool) → ((d : Definition) → In d ds → In d L.nonterminals) → IsSound L A → IsSound L (empties ds A)
  empties-sound [] A w f = f
  empties-sound (d ∷ ds) A w f =
      let b : Bool = some_empty (empties ds A) d.1 in
      let behind : (c : Definition) → In c ds → In c L.nonterminals = λ c i. w c (there i) in
      let found : b ≡ true → IsEmpty L (nt d.0) = first-sound (empties ds A) (empties-sound ds A behind f) d (w d (here refl)) in
      empties-sound ds (with_first b d A) behind (with_first-sound b d A found f)

  -- those of a language
  all_empties : Ref → Bool
  all_empties = empties L.nonterminals (λ x. false)

-- each language has a test that tells which of its nonterminals are Empty
pub empty_is_decided : EmptyIsDecided
unfolding all_empties
empty_is_decided L = record {
  test = all_empties L;
  tells = tells L (all_empties L)
      (empties-sound L L.nonterminals (λ x. false) (λ d i. i) (λ x h. absurd cc))
      (λ x p a h. empties-closed L.nonterminals (λ y. false) x a.all p a.defined a.among h);
}

-- ---- splits with nothing in the context

-- a marked list isn't the hole
marked_at-no_hole : (k : ℕ) (ts : Trees) → marked_at k ts ≡ the_hole → ⊥
marked_at-no_hole k ts h = by_test (is_context_at ts k) h
  where
    by_test : (b : Bool) → (if b then list (Some k) ts else list_of ts) ≡ the_hole → ⊥
    by_test true e = absurd cc
    by_test false e = absurd cc

-- what is filled is the hole only where both are
fill_of-whole : (D E : Tree) → fill_of D E ≡ the_hole → (D ≡ the_hole) × (E ≡ the_hole)
fill_of-whole the_hole E h = (refl, h)
fill_of-whole (integer n) E h = absurd cc
fill_of-whole (truth b) E h = absurd cc
fill_of-whole (text s) E h = absurd cc
fill_of-whole (symbol s) E h = absurd cc
fill_of-whole (list None ts) E h = absurd cc
fill_of-whole (list (Some k) ts) E h = absurd (marked_at-no_hole k (fill_at ts k E) h)

module _ {L : Language} where
  -- what splits a term with the hole as context is Empty
  split-whole : {p : Pattern} {t C s : Tree} {b : Binding} → Split L p t C s b → C ≡ the_hole → IsEmpty L p
  split-whole split_hole e = empty_hole
  split-whole (split_nt a h) e = empty_nt a (split-whole h e)
  split-whole (split_named h j) e = empty_named (split-whole h e)
  split-whole (split_differ h j) e = empty_differ (split-whole h e)
  split-whole (split_in_hole {D = D} {E = E} h g f j) e =
      let k = fill_of-whole D E (sym f ∙ e) in empty_in_hole (split-whole h k.0) (split-whole g k.1)
  split-whole (split_closed h) e = empty_closed (split-whole h e)
  split-whole (split_seq h f) e = absurd cc

-- each name stands for the hole, and there is no mismatch name
record AreHoles (b : Binding) : Type 0 where
  pub pairs : (p : Pair) → In p b.pairs → p.1 ≡ one_term the_hole
  pub alone : b.differs ≡ []

-- so it is where no name is bound
no_holes : AreHoles no_names
no_holes = record { pairs = λ p i. elim i [ ]; alone = refl }

-- a join of such bindings
record JoinOfHoles (a b : Binding) : Type 0 where
  pub join : Binding
  pub is_join : IsJoin a b join
  pub holes : AreHoles join

-- which there is
join-holes : (a b : Binding) → HasAscendingNames a → HasAscendingNames b → AreHoles a → AreHoles b → JoinOfHoles a b
join-holes a b m n f g =
    let c = pairs_join a.pairs b.pairs m.0 n.0 (λ x v w h k. f.pairs (x, v) h ∙ sym (g.pairs (x, w) k)) in
    let none : JoinsSets a.differs b.differs [] =
    subst (λ (ms : List Mismatch). JoinsSets ms b.differs []) (sym f.alone)
    (subst (λ (ms : List Mismatch). JoinsSets [] ms []) (sym g.alone) (no_sets_left [] (tt, tt))) in
    record {
      join = record { pairs = c.0; differs = [] };
      is_join = record { pairs = c.1; differs = none };
      holes = record { pairs = λ p i. elim (c.1.sound p i) [ inl l ↦ f.pairs p l | inr r ↦ g.pairs p r ]; alone = refl };
    }

-- the pattern splits t into the hole and t, and each name stands for the hole
record IsWhole (L : Language) (p : Pattern) (t : Tree) : Type 0 where
  pub binding : Binding
  pub split : Split L p t the_hole t binding
  pub holes : AreHoles binding

-- what lies ahead of a pattern lies ahead where a left edge leads on to the next one, in which no mismatch name stands
ahead : {L : Language} {p q : Pattern} → HasNoDifferAhead L p → Edge L p q → has_differ q ≡ false → HasNoDifferAhead L q
ahead n e f = record { itself = f; reached = λ x r a h. n.reached x r a (further e h) }

-- neither part has what both together do not
neither : (b c : Bool) → b || c ≡ false → (b ≡ false) × (c ≡ false)
neither false c h = (refl, h)
neither true c h = absurd cc

module _ {L : Language} (t : Tree) where
  -- a pattern with a name does where its part does
  named-whole : (x : List ℕ) (q : Pattern) → IsWhole L q t → IsWhole L (named x q) t
  named-whole x q w =
      let j = join-holes w.binding (one_name x (one_term the_hole)) (split-ascends w.split) ((tt, tt), (tt, tt)) w.holes one_hole in
      record { binding = j.join; split = split_named w.split j.is_join; holes = j.holes }
    where
      one_pair : (p : Pair) → In p ((x, one_term the_hole) ∷ []) → p.1 ≡ one_term the_hole
      one_pair p (here e) = ap (λ (r : Pair). r.1) e
      one_pair p (there i) = elim i [ ]

      one_hole : AreHoles (one_name x (one_term the_hole))
      one_hole = record { pairs = one_pair; alone = refl }

  -- and `in-hole` where both of its parts do
  in_hole-whole : (q r : Pattern) → IsWhole L q t → IsWhole L r t → IsWhole L (in_hole q r) t
  in_hole-whole q r w v =
      let j = join-holes w.binding v.binding (split-ascends w.split) (split-ascends v.split) w.holes v.holes in
      record { binding = j.join; split = split_in_hole w.split v.split refl j.is_join; holes = j.holes }

  -- what is Empty splits each term so, where no mismatch name is met
  empty-whole : {p : Pattern} → IsEmpty L p → HasNoDifferAhead L p → IsWhole L p t
  empty-whole empty_hole n = record { binding = no_names; split = split_hole; holes = no_holes }
  empty-whole (empty_nt {x = x} {p = p} a h) n =
      let w = empty-whole h (ahead n (edge_nt a) (n.reached x p a (at_once (edge_nt a)))) in
      record { binding = no_names; split = split_nt a w.split; holes = no_holes }
  empty-whole (empty_named {x = x} {q = q} h) n = named-whole x q (empty-whole h (ahead n edge_named n.itself))
  empty-whole (empty_differ h) n = let f = n.itself in absurd cc
  empty-whole (empty_closed h) n =
      let w = empty-whole h (ahead n edge_closed n.itself) in
      record { binding = no_names; split = split_closed w.split; holes = no_holes }
  empty-whole (empty_in_hole {q = q} {r = r} h k) n =
      let f = neither (has_differ q) (has_differ r) n.itself in
      in_hole-whole q r (empty-whole h (ahead n edge_left f.0)) (empty-whole k (ahead n (edge_right h) f.1))

-- a pattern that splits some term with the hole as context is Empty
pub whole_is_empty : WholeIsEmpty
whole_is_empty L p t w = split-whole w.split refl

-- a pattern that is Empty splits each term so, where no mismatch name is met
pub empty_splits_all : EmptySplitsAll
empty_splits_all L p t h n = let w = empty-whole t h n in record { part = t; binding = w.binding; split = w.split }
