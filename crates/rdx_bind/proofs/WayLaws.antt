-- The places to which runs lead, from one place more to the front.
use Rattle.std.proofs.Common.{◌≡◌, ◌↔◌, ℕ, ◌+◌, ◌⊎◌, inl, inr, Bool, true, false, IsTrue, if◌then◌else◌, List, [], ◌∷◌, ◌++◌, length, map}
use Rattle.std.proofs.Common.{refl, sym, ap, subst, arith}
use Rattle.rdx_lang.proofs.Collecting.{In_along, no_member, only}
use Rattle.rdx_lang.proofs.MemberLaws.{in-append, append-left, append-right, in-map, map-in}
use Rattle.rdx_lang.specs.Collecting.{HasExactly}
use Rattle.rdx_lang.specs.Members.{In, here}
use Rattle.rdx_bind.specs.Ends.{HasMatches, HasSpots, IsReached, reached_here, reached_behind, IsSplitEnd, split_end_here}
use Rattle.rdx_bind.specs.Ends.{split_end_behind}
use Rattle.rdx_bind.specs.Rows.{SplitRow}

-- x is a member of xs, where the test holds
member_if : {A : Type 0} (b : Bool) (xs : List A) (x : A) → In x (if b then xs else []) → IsTrue b × In x xs
member_if true xs x i = (refl, i)
member_if false xs x i = no_member i

-- a member of xs is one where the test holds
if_member : {A : Type 0} (b : Bool) (xs : List A) (x : A) → IsTrue b → In x xs → In x (if b then xs else [])
if_member true xs x t i = i
if_member false xs x t i = absurd (cc)

-- the two parts have exactly those of which R holds
if_exactly : {A : Type 0} {R : A → Type 0} (a b : Bool) (xs ys all : List A) → all ≡ (if a then xs else []) ++ (if b then ys else []) →
    ((x : A) → IsTrue a → In x xs → R x) → ((x : A) → IsTrue b → In x ys → R x) →
    ((x : A) → R x → (IsTrue a × In x xs) ⊎ (IsTrue b × In x ys)) → HasExactly all R
if_exactly {A} {R} a b xs ys all e f g h =
    record { sound = λ x i. onward x (in-append firsts others x (In_along all (firsts ++ others) e i)); complete = λ x r. back x (h x r) }
  where
    firsts : List A
    firsts = if a then xs else []

    others : List A
    others = if b then ys else []

    onward : (x : A) → In x firsts ⊎ In x others → R x
    onward x (inl i) = let m = member_if a xs x i in f x m.0 m.1
    onward x (inr i) = let m = member_if b ys x i in g x m.0 m.1

    back : (x : A) → (IsTrue a × In x xs) ⊎ (IsTrue b × In x ys) → In x all
    back x (inl m) = In_along (firsts ++ others) all (sym e) (append-left firsts others x (if_member a xs x m.0 m.1))
    back x (inr m) = In_along (firsts ++ others) all (sym e) (append-right firsts others x (if_member b ys x m.0 m.1))

-- from the place behind the last cell that place alone is reached
pub reached_last : (P : SplitRow → Type 0) (next : SplitRow) (b : Bool) (ks : List ℕ) → (IsTrue b ↔ P next) →
    ks ≡ (if b then 0 ∷ [] else []) → HasExactly ks (IsReached P [] (next ∷ []))
reached_last P next b ks t e = if_exactly true b [] (0 ∷ []) ks e (λ k u i. no_member i) (λ k u i. reached_here (t.0 u) (only i)) back
  where
    back : (k : ℕ) → IsReached P [] (next ∷ []) k → (IsTrue true × In k []) ⊎ (IsTrue b × In k (0 ∷ []))
    back k (reached_here p f) = inr (t.1 p, here f)

-- one cell more to the front
pub reached_step : (P : SplitRow → Type 0) (cell next : SplitRow) (cells nexts : List SplitRow) (a b : Bool) (place : ℕ) (old ks : List ℕ) → length cells + 1 ≡ place →
    (IsTrue a ↔ HasMatches cell) → (IsTrue b ↔ P next) → ks ≡ (if a then old else []) ++ (if b then place ∷ [] else []) →
    HasExactly old (IsReached P cells nexts) → HasExactly ks (IsReached P (cell ∷ cells) (next ∷ nexts))
reached_step P cell next cells nexts a b place old ks n s t e h =
    if_exactly a b old (place ∷ []) ks e (λ k u i. reached_behind (s.0 u) (h.sound k i)) (λ k u i. let f : k ≡ place = only i in reached_here (t.0 u) (omega arith)) back
  where
    back : (k : ℕ) → IsReached P (cell ∷ cells) (next ∷ nexts) k → (IsTrue a × In k old) ⊎ (IsTrue b × In k (place ∷ []))
    back k (reached_here p f) = inr (t.1 p, here (omega arith))
    back k (reached_behind m r) = inl (s.1 m, h.complete k r)

-- no cell is split where there is none
pub split_last : (next : SplitRow) (ps : List (ℕ × ℕ)) → ps ≡ [] → HasExactly ps (IsSplitEnd [] (next ∷ []))
split_last next ps e = record { sound = λ p i. no_member (In_along ps [] e i); complete = λ p r. elim r [ ] }

-- the cells that are split, from one cell more to the front
pub split_step : (cell next : SplitRow) (cells nexts : List SplitRow) (a b : Bool) (place : ℕ) (ends : List ℕ) (old ps : List (ℕ × ℕ)) →
    length cells + 1 ≡ place →
    (IsTrue a ↔ HasMatches cell) → (IsTrue b ↔ HasSpots cell) → ps ≡ (if a then old else []) ++ (if b then map (λ e. (place, e)) ends else []) →
    HasExactly ends (IsReached HasMatches cells nexts) → HasExactly old (IsSplitEnd cells nexts) → HasExactly ps (IsSplitEnd (cell ∷ cells) (next ∷ nexts))
split_step cell next cells nexts a b place ends old ps n s t e h g =
    if_exactly a b old (map pair ends) ps e (λ p u i. split_end_behind (s.0 u) (g.sound p i)) (λ p u i. paired p u (in-map pair ends p i)) back
  where
    pair : ℕ → ℕ × ℕ
    pair e = (place, e)

    paired : (p : ℕ × ℕ) → IsTrue b → ((e : ℕ) × In e ends × (p ≡ (place, e))) → IsSplitEnd (cell ∷ cells) (next ∷ nexts) p
    paired p u m =
        let f : p.0 ≡ place = ap (λ (q : ℕ × ℕ). q.0) m.2 in
        split_end_here (t.0 u) (omega arith) (subst (λ (k : ℕ). IsReached HasMatches cells nexts k) (sym (ap (λ (q : ℕ × ℕ). q.1) m.2)) (h.sound m.0 m.1))

    back : (p : ℕ × ℕ) → IsSplitEnd (cell ∷ cells) (next ∷ nexts) p → (IsTrue a × In p old) ⊎ (IsTrue b × In p (map pair ends))
    back p (split_end_here m f r) =
        let k : place ≡ p.0 = omega arith in
        inr (t.1 m, subst (λ (j : ℕ). In (j, p.1) (map pair ends)) k (map-in pair ends p.1 (h.complete p.1 r)))
    back p (split_end_behind m r) = inl (s.1 m, g.complete p r)
