-- Nonterminals in the order of their ranks.
use Rattle.std.proofs.Common.{◌≡◌, ℕ, zero, suc, ◌<◌, ◌≤◌, Bool, true, false, List, [], ◌∷◌, length, get_or, drop, map, refl, sym, ◌∙◌, ap, subst, if◌then◌else◌, arith}
use Rattle.std.specs.Prelude.{not}
use Rattle.std.specs.Cmp.{first_so, second_so}
use Rattle.std.specs.List.{Contains}
use Rattle.std.specs.List.Sorted.{IsPermutation, IsNonDecreasingBy}
use Rattle.std.proofs.lemmas.List.Sorted.{IsPermutation-sym, Contains-permutation}
use Rattle.rdx_lang.specs.LeftNumbers.{above, rank_of}
use Rattle.rdx_lang.specs.Members.{In, here, there}
use Rattle.rdx_lang.specs.Nodes.{patterns_nodes}
use Rattle.rdx_lang.specs.Patterns.{Definition, Language}
use Rattle.rdx_lang.specs.Ranks.{root_ranks, roots_among}
use Rattle.rdx_lang.specs.References.{is_same, is_among, are_distinct}
use Rattle.rdx_lang.specs.WellFormed.{defined, IsWellFormed}
use Rattle.rdx_lang.specs.declared.pattern.Ref.{Ref}
use Rattle.rdx_lang.proofs.Collecting.{In_along}
use Rattle.rdx_lang.proofs.DefinedNonterminals.{has-definition}
use Rattle.rdx_lang.proofs.LookupLaws.{is_same-equal, equal-is_same, not_true, is_among-defined}
use Rattle.rdx_lang.proofs.MemberLaws.{in-map, map-in}
use Rattle.rdx_enum.specs.declared.ranked.Ranked.{Ranked}
use Rattle.rdx_enum.specs.Inside.Order.{ranking, rankings, IsInOrder}
use Rattle.rdx_enum.proofs.Filters.{member_at}

-- ---- members

in_contains : {A : Type 0} (xs : List A) (x : A) → In x xs → Contains xs x
in_contains [] x h = elim h [ ]
in_contains (y ∷ ys) x (here e) = (0, (omega arith), sym e)
in_contains (y ∷ ys) x (there h) = let k = in_contains ys x h in (suc k.0, (let l : k.0 < length ys = k.1 in omega arith), k.2)

contains_in : {A : Type 0} (xs : List A) (x : A) → Contains xs x → In x xs
contains_in xs x k = member_at xs k.0 x k.1 (sym k.2)

in-permutation : {A : Type 0} (xs ys : List A) (x : A) → IsPermutation xs ys → In x xs → In x ys
in-permutation xs ys x p h = contains_in ys x (Contains-permutation xs ys x p (in_contains xs x h))

-- ---- numbers

-- the nonterminals are those that are defined
rankings-names : (ds : List Definition) (ns : List ℕ) → map (λ q. q.1) (rankings ds ns) ≡ map (λ d. d.0) ds
rankings-names [] ns = refl
rankings-names (d ∷ ds) ns = ap (λ (xs : List Ref). d.0 ∷ xs) (rankings-names ds (drop (patterns_nodes d.1) ns))

-- who is defined is among them
defined-among : (ds : List Definition) (x : Ref) → In x (map (λ d. d.0) ds) → is_among x (map (λ d. d.0) ds) ≡ true
defined-among ds x h = let k = in-map (λ (d : Definition). d.0) ds x h in is_among-defined x k.0.1 ds (subst (λ (y : Ref). In (y, k.0.1) ds) (sym k.2) k.1)

-- each number is that of its nonterminal, where no nonterminal is defined twice
ranking_of : (ds : List Definition) (ns : List ℕ) (q : ℕ × Ref) → are_distinct (map (λ d. d.0) ds) ≡ true → In q (rankings ds ns) → q.0 ≡ above (roots_among ds ns q.1)
ranking_of [] ns q u h = elim h [ ]
ranking_of (d ∷ ds) ns q u (here e) =
    let s : is_same q.1 d.0 ≡ true = equal-is_same q.1 d.0 (ap (λ (r : ℕ × Ref). r.1) e) in
    ap (λ (r : ℕ × Ref). r.0) e ∙ sym (ap (λ (b : Bool). above (if b then root_ranks d.1 ns else roots_among ds (drop (patterns_nodes d.1) ns) q.1)) s)
ranking_of (d ∷ ds) ns q u (there h) =
    go (is_same q.1 d.0) refl (ranking_of ds (drop (patterns_nodes d.1) ns) q (second_so (not (is_among d.0 (map (λ c. c.0) ds))) (are_distinct (map (λ c. c.0) ds)) u) h)
  where
    among : is_among q.1 (map (λ c. c.0) ds) ≡ true
    among = defined-among ds q.1 (In_along _ (map (λ c. c.0) ds) (rankings-names ds (drop (patterns_nodes d.1) ns)) (map-in (λ (r : ℕ × Ref). r.1) (rankings ds (drop (patterns_nodes d.1) ns)) q h))

    go : (b : Bool) → is_same q.1 d.0 ≡ b → q.0 ≡ above (roots_among ds (drop (patterns_nodes d.1) ns) q.1) → q.0 ≡ above (if is_same q.1 d.0 then root_ranks d.1 ns else roots_among ds (drop (patterns_nodes d.1) ns) q.1)
    go true s r =
        let e : q.1 ≡ d.0 = is_same-equal q.1 d.0 s in
        absurd (not_true (is_among d.0 (map (λ c. c.0) ds)) (first_so (not (is_among d.0 (map (λ c. c.0) ds))) (are_distinct (map (λ c. c.0) ds)) u)
        (subst (λ (y : Ref). is_among y (map (λ c. c.0) ds) ≡ true) e among))
    go false s r = r ∙ sym (ap (λ (b : Bool). above (if b then root_ranks d.1 ns else roots_among ds (drop (patterns_nodes d.1) ns) q.1)) s)

name_at : (rs : List Ranked) (i : ℕ) (r : Ranked) (d : Ref) → i < length rs → get_or (map (λ r. r.name) rs) i d ≡ (get_or rs i r).name
name_at [] i r d l = absurd (omega arith)
name_at (s ∷ rs) zero r d l = refl
name_at (s ∷ rs) (suc i) r d l = name_at rs i r d (omega arith)

length-names : (rs : List Ranked) → length (map (λ r. r.name) rs) ≡ length rs
length-names [] = refl
length-names (r ∷ rs) = let k : length (map (λ r. r.name) rs) ≡ length rs = length-names rs in omega arith

stands : (rs : List Ranked) (i : ℕ) (r : Ranked) → i < length rs → In (get_or rs i r) rs
stands [] i r l = absurd (omega arith)
stands (s ∷ rs) zero r l = here refl
stands (s ∷ rs) (suc i) r l = there (stands rs i r (omega arith))

module _ (L : Language) (ns : List ℕ) (old new : List Ranked) (w : IsWellFormed L) (e : map ranking old ≡ rankings L.nonterminals ns) (p : IsPermutation old new)
    (up : IsNonDecreasingBy (λ r. r.number) new) where
  of_old : (r : Ranked) → In r new → In r old
  of_old r h = in-permutation new old r (IsPermutation-sym old new p) h

  among_rankings : (r : Ranked) → In r new → In (ranking r) (rankings L.nonterminals ns)
  among_rankings r h = In_along (map ranking old) (rankings L.nonterminals ns) e (map-in ranking old r (of_old r h))

  is_number : (r : Ranked) → In r new → r.number ≡ rank_of L ns r.name
  is_number r h = ranking_of L.nonterminals ns (ranking r) w.distinct (among_rankings r h)

  all : (x : Ref) → is_among x (defined L) ≡ true → In x (map (λ r. r.name) new)
  all x h =
      let d = has-definition x L.nonterminals h in
      let i : In x (map (λ c. c.0) L.nonterminals) = map-in (λ (c : Definition). c.0) L.nonterminals (x, d.0) d.1 in
      let q = in-map (λ (r : ℕ × Ref). r.1) (rankings L.nonterminals ns) x (In_along (map (λ c. c.0) L.nonterminals) _ (sym (rankings-names L.nonterminals ns)) i) in
      let r = in-map ranking old q.0 (In_along (rankings L.nonterminals ns) (map ranking old) (sym e) q.1) in
      let n : r.0.name ≡ x = ap (λ (s : ℕ × Ref). s.1) (sym r.2) ∙ sym q.2 in
      subst (λ (y : Ref). In y (map (λ r. r.name) new)) n (map-in (λ (s : Ranked). s.name) new r.0 (in-permutation old new r.0 p r.1))

  each : (x : Ref) → In x (map (λ r. r.name) new) → is_among x (defined L) ≡ true
  each x h =
      let r = in-map (λ (s : Ranked). s.name) new x h in
      let i : In r.0.name (map (λ q. q.1) (rankings L.nonterminals ns)) = map-in (λ (q : ℕ × Ref). q.1) (rankings L.nonterminals ns) (ranking r.0) (among_rankings r.0 r.1) in
      defined-among L.nonterminals x (subst (λ (y : Ref). In y (map (λ c. c.0) L.nonterminals)) (sym r.2) (In_along _ (map (λ c. c.0) L.nonterminals) (rankings-names L.nonterminals ns) i))

  number_at : (i : ℕ) (d : Ref) → i < length new → rank_of L ns (get_or (map (λ r. r.name) new) i d) ≡ (get_or new i (record { number = 0; name = d })).number
  number_at i d l =
      let r : Ranked = get_or new i (record { number = 0; name = d }) in
      ap (rank_of L ns) (name_at new i (record { number = 0; name = d }) d l) ∙ sym (is_number r (stands new i (record { number = 0; name = d }) l))

  rising : (i j : ℕ) (d : Ref) → i ≤ j → j < length (map (λ r. r.name) new) → rank_of L ns (get_or (map (λ r. r.name) new) i d) ≤ rank_of L ns (get_or (map (λ r. r.name) new) j d)
  rising i j d l h =
      let z : length (map (λ r. r.name) new) ≡ length new = length-names new in
      let u : (get_or new i (record { number = 0; name = d })).number ≤ (get_or new j (record { number = 0; name = d })).number = up i j (record { number = 0; name = d }) l (omega arith) in
      let a : rank_of L ns (get_or (map (λ r. r.name) new) i d) ≡ (get_or new i (record { number = 0; name = d })).number = number_at i d (omega arith) in
      let b : rank_of L ns (get_or (map (λ r. r.name) new) j d) ≡ (get_or new j (record { number = 0; name = d })).number = number_at j d (omega arith) in
      omega arith

  pub in_order : IsInOrder L ns (map (λ r. r.name) new)
  in_order = record { all = all; each = each; rising = rising }
