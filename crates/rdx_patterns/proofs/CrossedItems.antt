-- Items of list patterns without names, and with one place changed, as a loop over them finds it.
use Rattle.std.proofs.Common.{◌≡◌, ℕ, zero, suc, ◌+◌, ◌<◌, List, [], ◌∷◌, ◌++◌, length, get_or, take, drop, map, refl, ap, sym, ◌∙◌, arith, add-one, length-drop, ◌-◌}
use Rattle.std.proofs.Math.Seq.{take-length}
use Rattle.std.proofs.lemmas.List.{map-append}
use Rattle.std.specs.Prelude.{Option, None}
use Rattle.rdx_lang.specs.Patterns.{Pattern, seq, Items, nil, one, many}
use Rattle.rdx_lang.specs.Crosses.{unnamed, unnamed_items, crossed, crossed_items}
use Rattle.rdx_lang.proofs.Rest.{rest_at}
use Rattle.rdx_patterns.specs.Inside.Slots.{unnamed_slot, put_at, changed_slot}
use Rattle.rdx_lang.specs.PatternView.{Slot, just, repeated, items_of}

-- names are lost item by item
pub unnamed-slots : (ss : List Slot) → unnamed_items (items_of ss) ≡ items_of (map unnamed_slot ss)
unnamed-slots [] = refl
unnamed-slots (just p ∷ ss) = ap (one (unnamed p)) (unnamed-slots ss)
unnamed-slots (repeated p n ∷ ss) = ap (many (unnamed p) None) (unnamed-slots ss)

-- ---- one place is changed item by item

-- the items with one place changed in what stands from the i-th on, which is rest
abbrev pub crossed_from : List ℕ → Items → ℕ → Items → List Items
crossed_from y all i nil = []
crossed_from y all i (one p rest) = map (λ q. put_at i q all) (crossed y p) ++ crossed_from y all (suc i) rest
crossed_from y all i (many p n rest) = map (λ q. put_at i q all) (crossed y p) ++ crossed_from y all (suc i) rest

-- mapped twice
map-twice : {A B C : Type 0} (f : B → C) (g : A → B) (xs : List A) → map f (map g xs) ≡ map (λ x. f (g x)) xs
map-twice f g [] = refl
map-twice f g (x ∷ xs) = ap (λ zs. f (g x) ∷ zs) (map-twice f g xs)

-- the changed items with what g puts in front of each, at a place and behind it
in-front : (g : Items → Items) (all : Items) (i : ℕ) (qs : List Pattern) (more less : List Items) → more ≡ map g less
    → map (λ r. g (put_at i r all)) qs ++ more ≡ map g (map (λ r. put_at i r all) qs ++ less)
in-front g all i qs more less e =
    ap (λ zs. map (λ r. g (put_at i r all)) qs ++ zs) e ∙ ap (λ zs. zs ++ map g less) (sym (map-twice g (λ r. put_at i r all) qs))
    ∙ sym (map-append g (map (λ r. put_at i r all) qs) less)

-- one item more in front, which is the same in all
from-one : (y : List ℕ) (p : Pattern) (all : Items) (i : ℕ) (rest : Items)
    → crossed_from y (one p all) (suc i) rest ≡ map (λ qs. one p qs) (crossed_from y all i rest)
from-one y p all i nil = refl
from-one y p all i (one q rest) =
    in-front (λ qs. one p qs) all i (crossed y q) (crossed_from y (one p all) (suc (suc i)) rest) (crossed_from y all (suc i) rest) (from-one y p all (suc i) rest)
from-one y p all i (many q n rest) =
    in-front (λ qs. one p qs) all i (crossed y q) (crossed_from y (one p all) (suc (suc i)) rest) (crossed_from y all (suc i) rest) (from-one y p all (suc i) rest)

-- and one repetition more
from-many : (y : List ℕ) (p : Pattern) (m : Option (List ℕ)) (all : Items) (i : ℕ) (rest : Items)
    → crossed_from y (many p m all) (suc i) rest ≡ map (λ qs. many p m qs) (crossed_from y all i rest)
from-many y p m all i nil = refl
from-many y p m all i (one q rest) =
    in-front (λ qs. many p m qs) all i (crossed y q) (crossed_from y (many p m all) (suc (suc i)) rest) (crossed_from y all (suc i) rest)
    (from-many y p m all (suc i) rest)
from-many y p m all i (many q n rest) =
    in-front (λ qs. many p m qs) all i (crossed y q) (crossed_from y (many p m all) (suc (suc i)) rest) (crossed_from y all (suc i) rest)
    (from-many y p m all (suc i) rest)

-- from the first on it is all
pub from-start : (y : List ℕ) (ps : Items) → crossed_items y ps ≡ crossed_from y ps 0 ps
from-start y nil = refl
from-start y (one p ps) =
    ap (λ zs. map (λ q. one q ps) (crossed y p) ++ zs) (ap (map (λ qs. one p qs)) (from-start y ps) ∙ sym (from-one y p ps 0 ps))
from-start y (many p n ps) =
    ap (λ zs. map (λ q. many p None (one q (many p None ps))) (crossed y p) ++ zs)
    (ap (map (λ qs. many p n qs)) (from-start y ps) ∙ sym (from-many y p n ps 0 ps))

-- the pattern of an item
abbrev pub inner : Slot → Pattern
inner (just p) = p
inner (repeated p n) = p

-- the patterns of the items at and behind a place: those at the place come first
pub from-next : {A : Type 0} (f : A → Slot) (y : List ℕ) (all : Items) (xs : List A) (i : ℕ) (x : A) → i < length xs → x ≡ get_or xs i x
    → map seq (crossed_from y all i (unnamed_items (items_of (map f (drop i xs)))))
    ≡ map (λ q. seq (put_at i q all)) (crossed y (unnamed (inner (f x)))) ++ map seq (crossed_from y all (i + 1) (unnamed_items (items_of (map f (drop (i + 1) xs)))))
from-next f y all xs i x h e = ap (λ ss. map seq (crossed_from y all i (unnamed_items (items_of ss)))) (rest_at f xs i x h e) ∙ by_slot (f x)
  where
    two : (qs : List Pattern) (behind : List Items) → map seq (map (λ q. put_at i q all) qs ++ behind) ≡ map (λ q. seq (put_at i q all)) qs ++ map seq behind
    two qs behind =
        map-append seq (map (λ q. put_at i q all) qs) behind ∙ ap (λ zs. zs ++ map seq behind) (map-twice seq (λ q. put_at i q all) qs)

    by_slot : (s : Slot) → map seq (crossed_from y all i (unnamed_items (items_of (s ∷ map f (drop (i + 1) xs)))))
        ≡ map (λ q. seq (put_at i q all)) (crossed y (unnamed (inner s))) ++ map seq (crossed_from y all (i + 1) (unnamed_items (items_of (map f (drop (i + 1) xs)))))
    by_slot (just p) = rw add-one (two (crossed y (unnamed p)) (crossed_from y all (suc i) (unnamed_items (items_of (map f (drop (suc i) xs))))))
    by_slot (repeated p n) = rw add-one (two (crossed y (unnamed p)) (crossed_from y all (suc i) (unnamed_items (items_of (map f (drop (suc i) xs))))))

-- ---- the items around a changed one

-- with one place changed the items are those before it, what stands there, and those behind it
pub put-around : {A : Type 0} (f : A → Slot) (q : Pattern) (xs : List A) (i : ℕ) (x : A) → i < length xs → x ≡ get_or xs i x
    → put_at i q (unnamed_items (items_of (map f xs)))
    ≡ items_of ((map unnamed_slot (map f (take i xs)) ++ changed_slot q (f x)) ++ map unnamed_slot (map f (drop (i + 1) xs)))
put-around f q [] i x h e = absurd (omega (arith, h))
put-around f q (z ∷ xs) zero x h e = ap (λ w. put_at 0 q (unnamed_items (items_of (f w ∷ map f xs)))) (sym e) ∙ by_slot (f x)
  where
    by_slot : (s : Slot) → put_at 0 q (unnamed_items (items_of (s ∷ map f xs))) ≡ items_of (changed_slot q s ++ map unnamed_slot (map f xs))
    by_slot (just p) = ap (one q) (unnamed-slots (map f xs))
    by_slot (repeated p n) = ap (λ zs. many (unnamed p) None (one q (many (unnamed p) None zs))) (unnamed-slots (map f xs))
put-around f q (z ∷ xs) (suc i) x h e =
    let k : put_at i q (unnamed_items (items_of (map f xs)))
    ≡ items_of ((map unnamed_slot (map f (take i xs)) ++ changed_slot q (f x)) ++ map unnamed_slot (map f (drop (i + 1) xs))) =
    put-around f q xs i x (omega arith) e in
    rw add-one (by_slot (f z) (rw add-one at k))
  where
    by_slot : (s : Slot) → put_at i q (unnamed_items (items_of (map f xs)))
        ≡ items_of ((map unnamed_slot (map f (take i xs)) ++ changed_slot q (f x)) ++ map unnamed_slot (map f (drop (suc i) xs)))
        → put_at (suc i) q (unnamed_items (items_of (s ∷ map f xs)))
        ≡ items_of ((map unnamed_slot (s ∷ map f (take i xs)) ++ changed_slot q (f x)) ++ map unnamed_slot (map f (drop (suc i) xs)))
    by_slot (just p) k = ap (one (unnamed p)) k
    by_slot (repeated p n) k = ap (many (unnamed p) None) k

-- all that is behind a place
pub take-rest : {A : Type 0} (xs : List A) (k : ℕ) → take (length xs - k) (drop k xs) ≡ drop k xs
take-rest xs k = ap (λ n. take n (drop k xs)) (sym (length-drop k xs)) ∙ take-length (drop k xs)
