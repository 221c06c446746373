-- What the rules of names say of the places of names that come again.
use Rattle.std.proofs.lemmas.Bool.{false_from_ne_true, or_parts}
use Rattle.std.proofs.Common.{arith, ◌≡◌, ℕ, ◌<◌, Bool, true, false, ◌&&◌, ◌||◌, not, List, [], ◌∷◌, Option, Some, None, refl, sym, ap, ◌∙◌, true≢false}
use Rattle.std.proofs.lemmas.Bool.{and_parts, and_from}
use Rattle.std.proofs.lemmas.Bool.Decides.{nat_tests}
use Rattle.std.specs.List.{list_any}
use Rattle.std.specs.Prelude.{bytes_eq, if◌then◌else◌}
use Rattle.rdx_lang.specs.Depths.{uses, all_agree}
use Rattle.rdx_lang.specs.Members.{In, here, there}
use Rattle.rdx_lang.specs.Patterns.{Pattern}
use Rattle.rdx_lang.specs.Rules.{is_one_of}
use Rattle.rdx_gen.specs.Alike.{is_alike}
use Rattle.rdx_gen.specs.Generation.{no_notes}
use Rattle.rdx_gen.specs.Heights.{Known}
use Rattle.rdx_gen.specs.NameRules.{Place, places_of, is_inside, any_inside, any_other, times, stands_again, breaks, breaks_alternative, first_broken, first_in_alternative, names_again, notes_of}
use Rattle.rdx_gen.proofs.AlikeEqual.{alike_equal}
use Rattle.rdx_gen.proofs.NamesKept.{Rules, Part}
use Rattle.rdx_gen.proofs.NamesStand.{member_any, any_member, same_name, name_same, some_place, HaveNoMismatch, one_kind}

none_where : {A : Type 0} (f : A → Bool) (xs : List A) (x : A) → list_any f xs ≡ false → In x xs → f x ≡ false
none_where f xs x e i = false_from_ne_true (f x) (λ h. true≢false (sym (member_any f xs x i h) ∙ e))

second_fails : (a b : Bool) → (a && b) ≡ false → a ≡ true → b ≡ false
second_fails true b e h = e
second_fails false b e h = absurd (true≢false (sym h))

not_false : (b : Bool) → not b ≡ false → b ≡ true
not_false true e = refl
not_false false e = absurd (true≢false e)

-- ---- names that come again

again_twice : (x : List ℕ) (us : List Place) → stands_again x us ≡ true → 1 < times x us
again_twice x us e = grind (arith, nat_tests)

twice_again : (x : List ℕ) (us : List Place) → 1 < times x us → stands_again x us ≡ true
twice_again x us h = grind (arith, nat_tests)

noted_by : (b c : Bool) (x : List ℕ) (u : Place) (ns : List (List ℕ)) → b ≡ true → bytes_eq u.name x ≡ true → is_one_of (if b then u.name ∷ ns else ns) x ≡ true
noted_by true c x u ns e h = ap (λ t. t || is_one_of ns x) h
noted_by false c x u ns e h = absurd (true≢false (sym e))

noted_more : (b : Bool) (x y : List ℕ) (ns : List (List ℕ)) → is_one_of ns x ≡ true → is_one_of (if b then y ∷ ns else ns) x ≡ true
noted_more true x y ns h = member_any (λ r. bytes_eq r x) (y ∷ ns) (any_member (λ r. bytes_eq r x) ns h).0 (there (any_member (λ r. bytes_eq r x) ns h).1)
    (any_member (λ r. bytes_eq r x) ns h).2
noted_more false x y ns h = h

-- a name that stands several times is noted
is_noted : (all us : List Place) (u : Place) → In u us → stands_again u.name all ≡ true → is_one_of (names_again all us) u.name ≡ true
is_noted all [] u i h = elim i [ ]
is_noted all (v ∷ us) u (here e) h = noted_by (stands_again v.name all) true u.name v (names_again all us)
    (ap (λ (w : Place). stands_again w.name all) (sym e) ∙ h) (name_same v.name u.name (ap (λ (w : Place). w.name) (sym e)))
is_noted all (v ∷ us) u (there i) h = noted_more (stands_again v.name all) u.name v.name (names_again all us) (is_noted all us u i h)

noted_first : (b : Bool) (x y : List ℕ) (ns : List (List ℕ)) (C : Type 0) → (b ≡ true → y ≡ x → C) → (is_one_of ns x ≡ true → C)
    → is_one_of (if b then y ∷ ns else ns) x ≡ true → C
noted_first true x y ns C f g e = either (bytes_eq y x) refl e
  where
    either : (c : Bool) → bytes_eq y x ≡ c → (c || is_one_of ns x) ≡ true → C
    either true d h = f refl (same_name y x d)
    either false d h = g h
noted_first false x y ns C f g e = g e

-- and one that is noted stands several times
noted_stands : (all us : List Place) (x : List ℕ) → is_one_of (names_again all us) x ≡ true → stands_again x all ≡ true
noted_stands all [] x e = absurd (true≢false (sym e))
noted_stands all (v ∷ us) x e = noted_first (stands_again v.name all) x v.name (names_again all us) (stands_again x all ≡ true)
    (λ b n. ap (λ (y : List ℕ). stands_again y all) (sym n) ∙ b) (noted_stands all us x) e

-- ---- where no rule is broken

first_none : (b : Bool) (x : List ℕ) (o : Option (List ℕ)) → (if b then Some x else o) ≡ None → (b ≡ false) × (o ≡ None)
first_none true x o e = absurd cc
first_none false x o e = (refl, e)

unbroken : (all us : List Place) (u : Place) → first_broken all us ≡ None → In u us → breaks u all ≡ false
unbroken all [] u e i = elim i [ ]
unbroken all (v ∷ us) u e (here d) = ap (λ (w : Place). breaks w all) d ∙ (first_none (breaks v all) v.name (first_broken all us) e).0
unbroken all (v ∷ us) u e (there i) = unbroken all us u (first_none (breaks v all) v.name (first_broken all us) e).1 i

unbroken_there : (all us : List Place) (u : Place) → first_in_alternative all us ≡ None → In u us → breaks_alternative u all ≡ false
unbroken_there all [] u e i = elim i [ ]
unbroken_there all (v ∷ us) u e (here d) = ap (λ (w : Place). breaks_alternative w all) d ∙ (first_none (breaks_alternative v all) v.name (first_in_alternative all us) e).0
unbroken_there all (v ∷ us) u e (there i) = unbroken_there all us u (first_none (breaks_alternative v all) v.name (first_in_alternative all us) e).1 i

-- a place of a name that comes again is outside
inside_or : (b a c d : Bool) → (if b then c else (a || (d && c))) ≡ false → d ≡ true → c ≡ false
inside_or true a c d e h = e
inside_or false a c d e h = second_fails d c (or_parts a (d && c) e).1 h

-- the patterns at two are the same
other_or : (b a c : Bool) → (if b then c else a) ≡ false → b ≡ false → a ≡ false
other_or true a c e h = absurd (true≢false h)
other_or false a c e h = e

-- whether x is a length name
abbrev pub is_length_name : List Place → List ℕ → Bool
is_length_name us x = list_any (λ u. bytes_eq u.name x && u.is_length) us

kind_same : (us : List Place) → ((u v : Place) → In u us → In v us → u.name ≡ v.name → u.is_length ≡ v.is_length) → (u : Place) → In u us
    → (b : Bool) → u.is_length ≡ b → is_length_name us u.name ≡ b
kind_same us f u i true e = member_any (λ v. bytes_eq v.name u.name && v.is_length) us u i (and_from (bytes_eq u.name u.name) u.is_length (name_same u.name u.name refl) e)
kind_same us f u i false e = false_from_ne_true (is_length_name us u.name) (λ h.
    let v = any_member (λ v. bytes_eq v.name u.name && v.is_length) us h in
    let k = and_parts (bytes_eq v.0.name u.name) v.0.is_length v.2 in
    true≢false (sym k.1 ∙ sym (f u v.0 i v.1 (sym (same_name v.0.name u.name k.0))) ∙ e))

-- so the rules hold of a pattern whose names fit, and break none
pub rules_hold : (K : Known) (p : Pattern) → all_agree (uses 0 p) ≡ true → first_broken (places_of p) (places_of p) ≡ None
    → Rules (is_length_name (places_of p)) (notes_of K p) (places_of p)
rules_hold K p f e = record {
  no_mismatch = no_mismatch;
  same = same;
  outside = outside;
  kind = λ u i a. kind_same us (λ v w j k. one_kind p false false v w no_mismatch f j k) u i u.is_length refl;
}
  where
    us : List Place
    us = places_of p

    -- by the rules of the names that are none
    other_rules : Place → Bool
    other_rules u = if u.is_length then any_inside u.name us else (any_other u.name u.part us || (stands_again u.name us && any_inside u.name us))

    parts : (u : Place) → In u us → (u.is_mismatch ≡ false) × (other_rules u ≡ false)
    parts u i = or_parts u.is_mismatch (other_rules u) (unbroken us us u e i)

    no_mismatch : HaveNoMismatch us
    no_mismatch u i = (parts u i).0

    outside : (u : Place) → In u us → is_one_of (notes_of K p).again u.name ≡ true → (u.repeated ≡ false) × (u.left ≡ false)
    outside u i a =
        let none = inside_or u.is_length (any_other u.name u.part us) (any_inside u.name us) (stands_again u.name us) (parts u i).1 (noted_stands us us u.name a) in
        let part = none_where (λ v. bytes_eq v.name u.name && is_inside v) us u none i in
        or_parts u.repeated u.left (second_fails (bytes_eq u.name u.name) (is_inside u) part (name_same u.name u.name refl))

    same : (u v : Place) → In u us → In v us → u.name ≡ v.name → is_one_of (notes_of K p).again u.name ≡ true → u.is_length ≡ false → u.part ≡ v.part
    same u v i j n a t =
        let none = or_parts (any_other u.name u.part us) (stands_again u.name us && any_inside u.name us) (other_or u.is_length _ (any_inside u.name us) (parts u i).1 t) in
        let part = none_where (λ w. bytes_eq w.name u.name && not (is_alike u.part w.part)) us v none.0 j in
        alike_equal u.part v.part (not_false (is_alike u.part v.part) (second_fails (bytes_eq v.name u.name) (not (is_alike u.part v.part)) part (name_same v.name u.name (sym n))))

-- a name with two places comes again
pub part_whole : (K : Known) (p : Pattern) → Part (notes_of K p) (places_of p) (places_of p)
part_whole K p = record { within = λ u i. i; apart = apart }
  where
    us : List Place
    us = places_of p

    apart : (x : List ℕ) → 1 < times x us → is_one_of (notes_of K p).again x ≡ true
    apart x h =
        let u = some_place x us (omega (arith, h)) in
        ap (is_one_of (names_again us us)) (sym u.2) ∙ is_noted us us u.0 u.1 (ap (λ (y : List ℕ). stands_again y us) u.2 ∙ twice_again x us h)

-- in an alternative none does
pub part_alone : (p : Pattern) → first_in_alternative (places_of p) (places_of p) ≡ None → Part no_notes (places_of p) (places_of p)
part_alone p e = record { within = λ u i. i; apart = apart }
  where
    us : List Place
    us = places_of p

    apart : (x : List ℕ) → 1 < times x us → is_one_of no_notes.again x ≡ true
    apart x h =
        let u = some_place x us (omega (arith, h)) in
        absurd (true≢false (sym (twice_again x us h) ∙ ap (λ (y : List ℕ). stands_again y us) (sym u.2) ∙ (or_parts u.0.is_mismatch (stands_again u.0.name us) (unbroken_there us us u.0 e u.1)).1))

-- so there the rules ask nothing but that there is no mismatch name
pub rules_alone : (K : List ℕ → Bool) (p : Pattern) → first_in_alternative (places_of p) (places_of p) ≡ None → Rules K no_notes (places_of p)
rules_alone K p e = record {
  no_mismatch = λ u i. (or_parts u.is_mismatch (stands_again u.name (places_of p)) (unbroken_there (places_of p) (places_of p) u e i)).0;
  same = λ u v i j n a t. absurd (true≢false (sym a));
  outside = λ u i a. absurd (true≢false (sym a));
  kind = λ u i a. absurd (true≢false (sym a));
}
