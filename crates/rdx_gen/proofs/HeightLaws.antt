-- The heights of nonterminals are the one table in which each is one more than the least of its alternatives', and rounds find it.
use Rattle.std.proofs.Common.{◌≡◌, ◌⊎◌, inl, inr, ℕ, zero, suc, ◌+◌, ◌*◌, ◌<◌, ◌≤◌, Bool, true, false, List, [], ◌∷◌, map, length, replicate, Option, Some, None, if◌then◌else◌, refl, sym, ap, ◌∙◌, subst, arith}
use Rattle.std.specs.Fn.{iterate}
use Rattle.rdx_lang.specs.Lookup.{alternatives_among, alternatives_of}
use Rattle.rdx_lang.specs.Patterns.{Pattern, wild, of_kind, except, prefix, hole, lit, nt, named, differ, in_hole, hide_hole, closed, seq, Items, nil, one, many, Definition, Language}
use Rattle.rdx_lang.specs.References.{is_same}
use Rattle.rdx_lang.specs.declared.pattern.Ref.{Ref}
use Rattle.rdx_gen.specs.declared.height.Height.{Height}
use Rattle.rdx_gen.specs.Heights.{no_height, greater, lesser, least_of, least, one_more, height_among, Known, height_in, term_height, items_height, context_height, list_height, height_over, next_heights, heights_of, known_in}
use Rattle.rdx_gen.specs.Laws.{HeightsSolve, OneSolution, HeightsBounded}
use Rattle.rdx_gen.proofs.RoundsEnd.{rounds_end, stays_in_rounds}

-- ---- heights that are the same up to k

-- both are the same and at most k, or there is none and the other one, if there is one, is greater than k
abbrev pub Upto : ℕ → Option ℕ → Option ℕ → Type 0
Upto k None None = Unit {0}
Upto k None (Some n) = k < n
Upto k (Some m) None = ⊥
Upto k (Some m) (Some n) = (m ≡ n) × (m ≤ k)

upto-greater : (k : ℕ) (a b c d : Option ℕ) → Upto k a c → Upto k b d → Upto k (greater a b) (greater c d)
upto-greater k None b None d h i = tt
upto-greater k None None (Some m) None h i = tt
upto-greater k None (Some n) (Some m) None h i = absurd i
upto-greater k None b (Some m) (Some j) h i = omega (arith, h)
upto-greater k (Some m) b None d h i = absurd h
upto-greater k (Some m) None (Some n) None h i = tt
upto-greater k (Some m) None (Some n) (Some j) h i = omega (arith, i)
upto-greater k (Some m) (Some l) (Some n) None h i = absurd i
upto-greater k (Some m) (Some l) (Some n) (Some j) h i = let (p, q) = h in let (r, s) = i in (omega (arith, p, r), omega (arith, q, s))

upto-lesser : (k : ℕ) (a b c d : Option ℕ) → Upto k a c → Upto k b d → Upto k (lesser a b) (lesser c d)
upto-lesser k None b None d h i = i
upto-lesser k None None (Some m) None h i = h
upto-lesser k None (Some n) (Some m) None h i = absurd i
upto-lesser k None None (Some m) (Some j) h i = omega (arith, h, i)
upto-lesser k None (Some n) (Some m) (Some j) h i = let (r, s) = i in (omega (arith, h, r, s), s)
upto-lesser k (Some m) b None d h i = absurd h
upto-lesser k (Some m) None (Some n) None h i = h
upto-lesser k (Some m) None (Some n) (Some j) h i = let (p, q) = h in (omega (arith, i, p, q), q)
upto-lesser k (Some m) (Some l) (Some n) None h i = absurd i
upto-lesser k (Some m) (Some l) (Some n) (Some j) h i = let (p, q) = h in let (r, s) = i in (omega (arith, p, r), omega (arith, q, s))

upto-more : (k : ℕ) (a c : Option ℕ) → Upto k a c → Upto (suc k) (one_more a) (one_more c)
upto-more k None None h = tt
upto-more k None (Some n) h = omega (arith, h)
upto-more k (Some m) None h = absurd h
upto-more k (Some m) (Some n) h = let (p, q) = h in (omega (arith, p), omega (arith, q))

-- the heights of each nonterminal in two tables
pub record SameUpto (k : ℕ) (K M : Known) : Type 0 where
  pub terms : (x : Ref) → Upto k (height_in K x).as_term (height_in M x).as_term
  pub contexts : (x : Ref) → Upto k (height_in K x).as_context (height_in M x).as_context

-- then those of patterns are
module _ (k : ℕ) (K M : Known) (same : SameUpto k K M) where
  upto-zero : Upto k (Some 0) (Some 0)
  upto-zero = (refl, omega arith)

  mutual
    terms-upto : (p : Pattern) → Upto k (term_height K p) (term_height M p)
    terms-upto wild = upto-zero
    terms-upto (of_kind j) = upto-zero
    terms-upto (except rs) = upto-zero
    terms-upto (prefix r) = upto-zero
    terms-upto hole = upto-zero
    terms-upto (lit u) = upto-zero
    terms-upto (nt x) = same.terms x
    terms-upto (named x q) = terms-upto q
    terms-upto (differ x q) = terms-upto q
    terms-upto (in_hole q r) =
        upto-greater k (context_height K q) (term_height K r) (context_height M q) (term_height M r) (contexts-upto q) (terms-upto r)
    terms-upto (hide_hole q) = terms-upto q
    terms-upto (closed q) = tt
    terms-upto (seq ps) = items-upto ps

    items-upto : (ps : Items) → Upto k (items_height K ps) (items_height M ps)
    items-upto nil = upto-zero
    items-upto (one p ps) =
        upto-greater k (term_height K p) (items_height K ps) (term_height M p) (items_height M ps) (terms-upto p) (items-upto ps)
    items-upto (many p x ps) = items-upto ps

    contexts-upto : (p : Pattern) → Upto k (context_height K p) (context_height M p)
    contexts-upto wild = tt
    contexts-upto (of_kind j) = tt
    contexts-upto (except rs) = tt
    contexts-upto (prefix r) = tt
    contexts-upto hole = upto-zero
    contexts-upto (lit u) = tt
    contexts-upto (nt x) = same.contexts x
    contexts-upto (named x q) = contexts-upto q
    contexts-upto (differ x q) = contexts-upto q
    contexts-upto (in_hole q r) =
        upto-greater k (context_height K q) (context_height K r) (context_height M q) (context_height M r) (contexts-upto q) (contexts-upto r)
    contexts-upto (hide_hole q) = tt
    contexts-upto (closed q) = tt
    contexts-upto (seq ps) = lists-upto ps

    lists-upto : (ps : Items) → Upto k (list_height K ps) (list_height M ps)
    lists-upto nil = tt
    lists-upto (one p ps) =
        upto-lesser k (greater (context_height K p) (items_height K ps)) (greater (term_height K p) (list_height K ps))
        (greater (context_height M p) (items_height M ps)) (greater (term_height M p) (list_height M ps))
        (upto-greater k (context_height K p) (items_height K ps) (context_height M p) (items_height M ps) (contexts-upto p) (items-upto ps))
        (upto-greater k (term_height K p) (list_height K ps) (term_height M p) (list_height M ps) (terms-upto p) (lists-upto ps))
    lists-upto (many p x ps) =
        upto-lesser k (greater (context_height K p) (items_height K ps)) (list_height K ps)
        (greater (context_height M p) (items_height M ps)) (list_height M ps)
        (upto-greater k (context_height K p) (items_height K ps) (context_height M p) (items_height M ps) (contexts-upto p) (items-upto ps))
        (lists-upto ps)

-- and so are the least of them
least-upto : (k : ℕ) (f g : Pattern → Option ℕ) → ((p : Pattern) → Upto k (f p) (g p)) → (ps : List Pattern) (a c : Option ℕ) → Upto k a c
    → Upto k (least_of a (map f ps)) (least_of c (map g ps))
least-upto k f g h [] a c i = i
least-upto k f g h (p ∷ ps) a c i = least-upto k f g h ps (lesser a (f p)) (lesser c (g p)) (upto-lesser k a (f p) c (g p) i (h p))

-- two heights are the same up to k
abbrev BothUpto : ℕ → Height → Height → Type 0
BothUpto k h g = Upto k h.as_term g.as_term × Upto k h.as_context g.as_context

-- over the same alternatives they are, one more up
over-upto : (k : ℕ) (K M : Known) → SameUpto k K M → (ps : List Pattern) → BothUpto (suc k) (height_over K ps) (height_over M ps)
over-upto k K M same ps = (
  upto-more k _ _ (least-upto k (term_height K) (term_height M) (terms-upto k K M same) ps None None tt),
  upto-more k _ _ (least-upto k (context_height K) (context_height M) (contexts-upto k K M same) ps None None tt),
)

-- ---- rounds

-- a table of heights in a language
abbrev pub table : Language → List Height → Known
table L hs = record { definitions = L.nonterminals; heights = hs }

one_of_two : (b : Bool) (K : Known) (ps qs : List Pattern) (h : Height) → h ≡ height_over K qs
    → (if b then height_over K ps else h) ≡ height_over K (if b then ps else qs)
one_of_two true K ps qs h e = refl
one_of_two false K ps qs h e = e

among-next : (K : Known) (ds : List Definition) (x : Ref)
    → height_among ds (map (λ d. height_over K d.1) ds) x ≡ height_over K (alternatives_among ds x)
among-next K [] x = refl
among-next K (d ∷ ds) x = one_of_two (is_same x d.0) K d.1 (alternatives_among ds x) _ (among-next K ds x)

-- the height that the next round finds for a nonterminal is that over its alternatives
next_height : (L : Language) (hs : List Height) (x : Ref) → height_in (table L (next_heights L hs)) x ≡ height_over (table L hs) (alternatives_of L x)
next_height L hs x = among-next (table L hs) L.nonterminals x

next-upto : (L : Language) (k : ℕ) (hs gs : List Height) → SameUpto k (table L hs) (table L gs)
    → SameUpto (suc k) (table L (next_heights L hs)) (table L (next_heights L gs))
next-upto L k hs gs same = record { terms = λ x. (both x).0; contexts = λ x. (both x).1 }
  where
    both : (x : Ref) → BothUpto (suc k) (height_in (table L (next_heights L hs)) x) (height_in (table L (next_heights L gs)) x)
    both x = subst (λ (h : Height). BothUpto (suc k) h (height_in (table L (next_heights L gs)) x)) (sym (next_height L hs x))
        (subst (λ (g : Height). BothUpto (suc k) (height_over (table L hs) (alternatives_of L x)) g) (sym (next_height L gs x))
        (over-upto k (table L hs) (table L gs) same (alternatives_of L x)))

same_or_none : (b : Bool) (h : Height) → h ≡ no_height → (if b then no_height else h) ≡ no_height
same_or_none true h e = refl
same_or_none false h e = e

-- at first there is none
none_yet : (ds : List Definition) (n : ℕ) (x : Ref) → height_among ds (replicate n no_height) x ≡ no_height
none_yet [] n x = refl
none_yet (d ∷ ds) zero x = refl
none_yet (d ∷ ds) (suc n) x = same_or_none (is_same x d.0) _ (none_yet ds n x)

-- and any is greater than 0
none-upto : (o : Option ℕ) → Upto 0 None (one_more o)
none-upto None = tt
none-upto (Some n) = omega arith

first-upto : (L : Language) (n : ℕ) (hs : List Height) → SameUpto 0 (table L (replicate n no_height)) (table L (next_heights L hs))
first-upto L n hs = record { terms = λ x. (both x).0; contexts = λ x. (both x).1 }
  where
    both : (x : Ref) → BothUpto 0 (height_in (table L (replicate n no_height)) x) (height_in (table L (next_heights L hs)) x)
    both x = subst (λ (h : Height). BothUpto 0 h (height_in (table L (next_heights L hs)) x)) (sym (none_yet L.nonterminals n x))
        (subst (λ (g : Height). BothUpto 0 no_height g) (sym (next_height L hs x)) (
          none-upto (least (map (term_height (table L hs)) (alternatives_of L x))),
          none-upto (least (map (context_height (table L hs)) (alternatives_of L x))),
        ))

-- ---- a table that grows in each round, until it does not

-- what is there stays
abbrev Stays : Option ℕ → Option ℕ → Type 0
Stays None b = Unit {0}
Stays (Some m) b = b ≡ Some m

abbrev Grows : List Height → List Height → Type 0
Grows [] [] = Unit {0}
Grows [] (g ∷ gs) = ⊥
Grows (h ∷ hs) [] = ⊥
Grows (h ∷ hs) (g ∷ gs) = (Stays h.as_term g.as_term × Stays h.as_context g.as_context) × Grows hs gs

-- how many are there
abbrev found : Option ℕ → ℕ
found None = 0
found (Some n) = 1

abbrev count : List Height → ℕ
count [] = 0
count (h ∷ hs) = found h.as_term + found h.as_context + count hs

found-most : (o : Option ℕ) → found o ≤ 1
found-most None = omega arith
found-most (Some n) = omega arith

count-most : (hs : List Height) → count hs ≤ 2 * length hs
count-most [] = omega arith
count-most (h ∷ hs) = let a = found-most h.as_term in let b = found-most h.as_context in let c = count-most hs in omega (arith, a, b, c)

one-more : (a b : Option ℕ) → Stays a b → (b ≡ a) ⊎ (found a < found b)
one-more None None h = inl refl
one-more None (Some n) h = inr (omega arith)
one-more (Some m) b h = inl h

abbrev with_both : Option ℕ → Option ℕ → Height
with_both a c = record { as_term = a; as_context = c }

same-height : (h g : Height) → g.as_term ≡ h.as_term → g.as_context ≡ h.as_context → g ≡ h
same-height h g e f = ap (λ a. with_both a g.as_context) e ∙ ap (λ c. with_both h.as_term c) f

no_fewer : (a b : Option ℕ) → Stays a b → found a ≤ found b
no_fewer None b h = omega arith
no_fewer (Some m) b h = let e : found b ≡ 1 = ap found h in omega (arith, e)

count-no_fewer : (hs gs : List Height) → Grows hs gs → count hs ≤ count gs
count-no_fewer [] [] w = omega arith
count-no_fewer [] (g ∷ gs) w = absurd w
count-no_fewer (h ∷ hs) [] w = absurd w
count-no_fewer (h ∷ hs) (g ∷ gs) w =
    let a = no_fewer h.as_term g.as_term w.0.0 in
    let b = no_fewer h.as_context g.as_context w.0.1 in
    let c = count-no_fewer hs gs w.1 in
    omega (arith, a, b, c)

-- it is the same, or more are there
same_or_more : (hs gs : List Height) → Grows hs gs → (gs ≡ hs) ⊎ (count hs < count gs)
same_or_more [] [] w = inl refl
same_or_more [] (g ∷ gs) w = absurd w
same_or_more (h ∷ hs) [] w = absurd w
same_or_more (h ∷ hs) (g ∷ gs) w =
    let a = no_fewer h.as_term g.as_term w.0.0 in
    let b = no_fewer h.as_context g.as_context w.0.1 in
    let c = count-no_fewer hs gs w.1 in
    elim (one-more h.as_term g.as_term w.0.0) [
      | inr i ↦ inr (omega (arith, i, b, c))
      | inl e ↦ elim (one-more h.as_context g.as_context w.0.1) [
        | inr j ↦ inr (omega (arith, a, j, c))
        | inl f ↦ elim (same_or_more hs gs w.1) [
          | inr l ↦ inr (omega (arith, a, b, l))
          | inl k ↦ let i : g ≡ h = same-height h g e f in inl (ap (λ z. z ∷ gs) i ∙ ap (λ z. h ∷ z) k)
        ]
      ]
    ]

upto-stays : (k : ℕ) (a c : Option ℕ) → Upto k a c → Stays a c
upto-stays k None c h = tt
upto-stays k (Some m) None h = absurd h
upto-stays k (Some m) (Some n) h = ap Some (sym h.0)

grows-map : (k : ℕ) (F G : Definition → Height) (ds : List Definition) → ((d : Definition) → BothUpto k (F d) (G d)) → Grows (map F ds) (map G ds)
grows-map k F G [] f = tt
grows-map k F G (d ∷ ds) f =
    ((upto-stays k (F d).as_term (G d).as_term (f d).0, upto-stays k (F d).as_context (G d).as_context (f d).1), grows-map k F G ds f)

grows-first : (F : Definition → Height) (ds : List Definition) → Grows (replicate (length ds) no_height) (map F ds)
grows-first F [] = tt
grows-first F (d ∷ ds) = ((tt, tt), grows-first F ds)

length-next : (F : Definition → Height) (ds : List Definition) → length (map F ds) ≡ length ds
length-next F [] = refl
length-next F (d ∷ ds) = ap suc (length-next F ds)

length-first : (n : ℕ) → length (replicate n no_height) ≡ n
length-first zero = refl
length-first (suc n) = ap suc (length-first n)

module _ (L : Language) where
  next-grows : (k : ℕ) (hs : List Height) → SameUpto k (table L hs) (table L (next_heights L hs))
      → Grows (next_heights L hs) (next_heights L (next_heights L hs))
  next-grows k hs same =
      grows-map (suc k) _ _ L.nonterminals (λ d. over-upto k (table L hs) (table L (next_heights L hs)) same d.1)

  rounds-upto : (n k : ℕ) (hs : List Height) → SameUpto k (table L hs) (table L (next_heights L hs))
      → SameUpto (k + n) (table L (iterate (next_heights L) n hs)) (table L (next_heights L (iterate (next_heights L) n hs)))
  rounds-upto zero k hs same =
      let e : k ≡ k + 0 = omega arith in subst (λ j. SameUpto j (table L hs) (table L (next_heights L hs))) e same
  rounds-upto (suc n) k hs same =
      let e : suc k + n ≡ k + suc n = omega arith in
      let gs : List Height = iterate (next_heights L) n (next_heights L hs) in
      subst (λ j. SameUpto j (table L gs) (table L (next_heights L gs))) e
      (rounds-upto n (suc k) (next_heights L hs) (next-upto L k hs (next_heights L hs) same))

  -- the table that the rounds lead to is the same as any that solves the equations, up to their number
  solution-upto : (n k : ℕ) (hs gs : List Height) → next_heights L gs ≡ gs → SameUpto k (table L hs) (table L gs)
      → SameUpto (k + n) (table L (iterate (next_heights L) n hs)) (table L gs)
  solution-upto zero k hs gs e same = let f : k ≡ k + 0 = omega arith in subst (λ j. SameUpto j (table L hs) (table L gs)) f same
  solution-upto (suc n) k hs gs e same =
      let f : suc k + n ≡ k + suc n = omega arith in
      subst (λ j. SameUpto j (table L (iterate (next_heights L) n (next_heights L hs))) (table L gs)) f
      (solution-upto n (suc k) (next_heights L hs) gs e
      (subst (λ z. SameUpto (suc k) (table L (next_heights L hs)) (table L z)) e (next-upto L k hs gs same)))

  -- a table on the way: the next one is the same up to some height, and nothing is lost in it
  record OnTheWay (hs : List Height) : Type 0 where
    height : ℕ
    same : SameUpto height (table L hs) (table L (next_heights L hs))
    grows : Grows hs (next_heights L hs)
    long : length hs ≡ length L.nonterminals

  goes-on : (hs : List Height) → OnTheWay hs → OnTheWay (next_heights L hs)
  goes-on hs w = record {
    height = suc w.height;
    same = next-upto L w.height hs (next_heights L hs) w.same;
    grows = next-grows w.height hs w.same;
    long = length-next (λ d. height_over (table L hs) d.1) L.nonterminals;
  }

  starts : OnTheWay (replicate (length L.nonterminals) no_height)
  starts =
      let hs : List Height = replicate (length L.nonterminals) no_height in
      record {
        height = 0;
        same = first-upto L (length L.nonterminals) hs;
        grows = grows-first (λ d. height_over (table L hs) d.1) L.nonterminals;
        long = length-first (length L.nonterminals);
      }

  -- as many rounds as there are find all
  solves : next_heights L (heights_of L) ≡ heights_of L
  solves =
      rounds_end (next_heights L) count (2 * length L.nonterminals) OnTheWay goes-on (λ hs w. same_or_more hs (next_heights L hs) w.grows)
      (λ hs w. let c = count-most hs in let l = w.long in omega (arith, c, l)) (replicate (length L.nonterminals) no_height) starts

  -- the heights of n rounds more are the same
  more-rounds : (n : ℕ) → iterate (next_heights L) n (heights_of L) ≡ heights_of L
  more-rounds n = stays_in_rounds (next_heights L) n (heights_of L) solves

  known-bounded : SameUpto (0 + 2 * length L.nonterminals) (known_in L) (table L (next_heights L (heights_of L)))
  known-bounded =
      rounds-upto (2 * length L.nonterminals) 0 (replicate (length L.nonterminals) no_height)
      (first-upto L (length L.nonterminals) (replicate (length L.nonterminals) no_height))

  -- they are the same as any solution, as far up as one likes
  solution-known : (n : ℕ) (gs : List Height) → next_heights L gs ≡ gs → SameUpto (0 + 2 * length L.nonterminals + n) (known_in L) (table L gs)
  solution-known n gs e =
      let hs : List Height = replicate (length L.nonterminals) no_height in
      subst (λ z. SameUpto (0 + 2 * length L.nonterminals + n) (table L z) (table L gs)) (more-rounds n)
      (solution-upto n (0 + 2 * length L.nonterminals) (heights_of L) gs e
      (solution-upto (2 * length L.nonterminals) 0 hs gs e (subst (λ z. SameUpto 0 (table L hs) (table L z)) e (first-upto L (length L.nonterminals) gs))))

-- what is the same however far up is the same
same-all : (b : ℕ) (a c : Option ℕ) → ((n : ℕ) → Upto (suc (b + n)) a c) → c ≡ a
same-all b None None f = refl
same-all b None (Some v) f = let h = f v in absurd (omega (arith, h))
same-all b (Some m) None f = absurd (f 0)
same-all b (Some m) (Some v) f = ap Some (sym (f 0).0)

same-maps : (F G : Definition → Height) (ds : List Definition) → ((d : Definition) → G d ≡ F d) → map G ds ≡ map F ds
same-maps F G [] f = refl
same-maps F G (d ∷ ds) f = ap (λ h. h ∷ map G ds) (f d) ∙ ap (λ hs. F d ∷ hs) (same-maps F G ds f)

-- the next round finds the same for each solution
same-next : (L : Language) (gs : List Height) → next_heights L gs ≡ gs → next_heights L gs ≡ next_heights L (heights_of L)
same-next L gs e =
    let K : Known = known_in L in
    let M : Known = table L gs in
    let b : ℕ = 0 + 2 * length L.nonterminals in
    same-maps (λ d. height_over K d.1) (λ d. height_over M d.1) L.nonterminals
    (λ d. same-height (height_over K d.1) (height_over M d.1)
    (same-all b (height_over K d.1).as_term (height_over M d.1).as_term (λ n. (over-upto (b + n) K M (solution-known L n gs e) d.1).0))
    (same-all b (height_over K d.1).as_context (height_over M d.1).as_context (λ n. (over-upto (b + n) K M (solution-known L n gs e) d.1).1)))

pub heights_solve : HeightsSolve
heights_solve L = solves L

pub one_solution : OneSolution
one_solution L gs e = sym e ∙ same-next L gs e ∙ solves L

-- the height of a nonterminal is that over its alternatives
pub height-known : (L : Language) (x : Ref) → height_in (known_in L) x ≡ height_over (known_in L) (alternatives_of L x)
height-known L x = ap (λ (hs : List Height). height_in (table L hs) x) (sym (solves L)) ∙ next_height L (heights_of L) x

-- where there is one, it is at most b
abbrev pub Within : ℕ → Option ℕ → Type 0
Within b None = Unit {0}
Within b (Some h) = h ≤ b

upto-within : (k : ℕ) (a c : Option ℕ) → Upto k a c → Within k a
upto-within k None c h = tt
upto-within k (Some m) None h = absurd h
upto-within k (Some m) (Some n) h = h.1

within-zero : (b : ℕ) (o : Option ℕ) → Within (0 + b) o → Within b o
within-zero b None h = tt
within-zero b (Some m) h = omega (arith, h)

pub term_within : (L : Language) (p : Pattern) → Within (2 * length L.nonterminals) (term_height (known_in L) p)
term_within L p =
    let M : Known = table L (next_heights L (heights_of L)) in
    within-zero (2 * length L.nonterminals) _ (upto-within (0 + 2 * length L.nonterminals) _ (term_height M p)
    (terms-upto (0 + 2 * length L.nonterminals) (known_in L) M (known-bounded L) p))

pub context_within : (L : Language) (p : Pattern) → Within (2 * length L.nonterminals) (context_height (known_in L) p)
context_within L p =
    let M : Known = table L (next_heights L (heights_of L)) in
    within-zero (2 * length L.nonterminals) _ (upto-within (0 + 2 * length L.nonterminals) _ (context_height M p)
    (contexts-upto (0 + 2 * length L.nonterminals) (known_in L) M (known-bounded L) p))

within-is : (b h : ℕ) (o : Option ℕ) → Within b o → o ≡ Some h → h ≤ b
within-is b h o w e = subst (Within b) e w

pub heights_bounded : HeightsBounded
heights_bounded L p h e = elim e [
  | inl f ↦ within-is (2 * length L.nonterminals) h (term_height (known_in L) p) (term_within L p) f
  | inr f ↦ within-is (2 * length L.nonterminals) h (context_height (known_in L) p) (context_within L p) f
]
