-- What is refused in shorthand, from one shortcut on, and what is not.
use Rattle.std.proofs.Common.{◌≡◌, ◌++◌, ◌∙◌, ◌+◌, ◌<◌, ℕ, Bool, true, false, List, [], ◌∷◌, Option, Some, None, length, get_or, drop, refl, sym, ap, append_assoc, if◌then◌else◌}
use Rattle.std.proofs.lemmas.List.{map-append}
use Rattle.std.specs.Cmp.Lexicographic.{bytes_decides}
use Rattle.std.specs.Prelude.{◌||◌, not, bytes_eq, codes, is_none, is_some, option_map}
use Rattle.rdx_lang.proofs.Rest.{rest_at}
use Rattle.rdx_sexp.specs.Sexp.{Sexp}
use Rattle.rdx_patterns.specs.Inside.Repeats.{HaveSame}
use Rattle.rdx_patterns.specs.Kinds.{is_among}
use Rattle.rdx_patterns.specs.Parts.{is_word, text_of}
use Rattle.rdx_patterns.specs.Refusal.{first, or_else}
use Rattle.rdx_patterns.proofs.Firsts.{first-append, none_first}
use Rattle.rdx_relations.specs.Expansion.{repeated_arrows, unknown_olds, new_arrows}
use Rattle.rdx_relations.specs.Inside.Arrows.{again}
use Rattle.rdx_relations.specs.Inside.ShortcutViews.{shortcut_of, shortcuts_in}
use Rattle.rdx_relations.specs.Shorthand as model
use Rattle.rdx_relations.specs.Shorthand.{shortcuts_of, first_of_each, is_known_arrow}
use Rattle.rdx_relations.specs.declared.shorthand.forms.Shortcut.{Shortcut}
use Rattle.rdx_relations.proofs.ArrowPlaces.{among-turned}

-- ---- what is refused depends on the texts alone that came

-- the same texts with one more
pub same-more : (xs ys : List (List ℕ)) (y : List ℕ) → HaveSame xs ys → HaveSame (y ∷ xs) (y ∷ ys)
same-more xs ys y h x = ap (λ b. bytes_eq x y || b) (h x)

-- a text is among them
pub among-same : (xs ys : List (List ℕ)) (x : List ℕ) → HaveSame xs ys → is_among xs x ≡ is_among ys x
among-same xs ys x h = sym (among-turned x xs) ∙ h x ∙ among-turned x ys

-- arrows that come again
pub repeated-same : (xs ys : List (List ℕ)) (ss : List model.Shortcut) → HaveSame xs ys → repeated_arrows xs ss ≡ repeated_arrows ys ss
repeated-same xs ys [] h = refl
repeated-same xs ys (s ∷ ss) h =
    let e = among-same xs ys (text_of s.new) h in
    let f = repeated-same (text_of s.new ∷ xs) (text_of s.new ∷ ys) ss (same-more xs ys (text_of s.new) h) in
    λ i. (if e i then s.new ∷ [] else []) ++ f i

-- an arrow that is known
pub known-same : (xs ys : List (List ℕ)) (d : Sexp) → HaveSame xs ys → is_known_arrow xs d ≡ is_known_arrow ys d
known-same xs ys d h = ap (λ b. is_word (codes "-->") d || b) (among-same xs ys (text_of d) h)

-- old arrows that are not known
pub olds-same : (xs ys : List (List ℕ)) (ss : List model.Shortcut) → HaveSame xs ys → unknown_olds xs ss ≡ unknown_olds ys ss
olds-same xs ys [] h = refl
olds-same xs ys (s ∷ ss) h =
    let e = known-same xs ys s.old h in
    let f = olds-same (text_of s.new ∷ xs) (text_of s.new ∷ ys) ss (same-more xs ys (text_of s.new) h) in
    λ i. (if e i then [] else s.old ∷ []) ++ f i

-- ---- from one shortcut on

-- the first arrow that comes again, where its own does not
pub repeated-later : (ss : List Shortcut) (i : ℕ) (s : Shortcut) (xs ys : List (List ℕ)) → i < length ss → s ≡ get_or ss i s
    → first (again xs s.new.now) ≡ None → HaveSame ys (text_of s.new.now ∷ xs)
    → first (repeated_arrows xs (shortcuts_in (drop i ss))) ≡ first (repeated_arrows ys (shortcuts_in (drop (i + 1) ss)))
repeated-later ss i s xs ys h e n same =
    let rest = shortcuts_in (drop (i + 1) ss) in
    let more = repeated_arrows (text_of s.new.now ∷ xs) rest in
    ap (λ zs. first (repeated_arrows xs zs)) (rest_at shortcut_of ss i s h e)
    ∙ first-append (again xs s.new.now) more
    ∙ ap (λ o. or_else o (first more)) n
    ∙ ap first (sym (repeated-same ys (text_of s.new.now ∷ xs) rest same))

-- where it does
pub repeated-here : (ss : List Shortcut) (i : ℕ) (s : Shortcut) (xs : List (List ℕ)) (d : Sexp) → i < length ss → s ≡ get_or ss i s
    → first (again xs s.new.now) ≡ Some d → first (repeated_arrows xs (shortcuts_in (drop i ss))) ≡ Some d
repeated-here ss i s xs d h e n =
    let more = repeated_arrows (text_of s.new.now ∷ xs) (shortcuts_in (drop (i + 1) ss)) in
    ap (λ zs. first (repeated_arrows xs zs)) (rest_at shortcut_of ss i s h e)
    ∙ first-append (again xs s.new.now) more
    ∙ ap (λ o. or_else o (first more)) n

-- where its old arrow is known
pub olds-later : (ss : List Shortcut) (i : ℕ) (s : Shortcut) (xs ys : List (List ℕ)) → i < length ss → s ≡ get_or ss i s
    → is_known_arrow xs s.old.now ≡ true → HaveSame ys (text_of s.new.now ∷ xs)
    → unknown_olds xs (shortcuts_in (drop i ss)) ≡ unknown_olds ys (shortcuts_in (drop (i + 1) ss))
olds-later ss i s xs ys h e n same =
    let rest = shortcuts_in (drop (i + 1) ss) in
    ap (unknown_olds xs) (rest_at shortcut_of ss i s h e)
    ∙ ap (λ b. (if b then [] else s.old.now ∷ []) ++ unknown_olds (text_of s.new.now ∷ xs) rest) n
    ∙ sym (olds-same ys (text_of s.new.now ∷ xs) rest same)

-- where it is not
pub olds-here : (ss : List Shortcut) (i : ℕ) (s : Shortcut) (xs : List (List ℕ)) → i < length ss → s ≡ get_or ss i s
    → is_known_arrow xs s.old.now ≡ false
    → unknown_olds xs (shortcuts_in (drop i ss)) ≡ s.old.now ∷ unknown_olds (text_of s.new.now ∷ xs) (shortcuts_in (drop (i + 1) ss))
olds-here ss i s xs h e n =
    let rest = shortcuts_in (drop (i + 1) ss) in
    ap (unknown_olds xs) (rest_at shortcut_of ss i s h e)
    ∙ ap (λ b. (if b then [] else s.old.now ∷ []) ++ unknown_olds (text_of s.new.now ∷ xs) rest) n

-- ---- what does not come again

-- a text that came is no new arrow of those behind
pub not-again : (seen : List (List ℕ)) (x : List ℕ) (ss : List model.Shortcut) → is_among seen x ≡ true → repeated_arrows seen ss ≡ []
    → is_among (new_arrows ss) x ≡ false
not-again seen x [] h e = refl
not-again seen x (s ∷ ss) h e =
    let k = none_first (is_among seen (text_of s.new)) s.new (repeated_arrows (text_of s.new ∷ seen) ss) e in
    by_test (bytes_eq (text_of s.new) x) refl k.0 (not-again (text_of s.new ∷ seen) x ss (or_true (bytes_eq (text_of s.new) x) (is_among seen x) h) k.1)
  where
    or_true : (a b : Bool) → b ≡ true → (a || b) ≡ true
    or_true true b f = refl
    or_true false b f = f

    by_test : (b : Bool) → bytes_eq (text_of s.new) x ≡ b → is_among seen (text_of s.new) ≡ false → is_among (new_arrows ss) x ≡ false
        → (b || is_among (new_arrows ss) x) ≡ false
    by_test false f n g = g
    by_test true f n g = let o : is_among seen x ≡ false = ap (is_among seen) (sym ((bytes_decides (text_of s.new) x).0 f)) ∙ n in absurd cc

-- ---- shortcuts that cases use

-- what is none of these is none of those
abbrev AreWithin : List (List ℕ) → List (List ℕ) → Type 0
AreWithin xs ys = (x : List ℕ) → is_among ys x ≡ false → is_among xs x ≡ false

-- with one more on both sides
within-more : (xs ys : List (List ℕ)) (y : List ℕ) → AreWithin xs ys → AreWithin (y ∷ xs) (y ∷ ys)
within-more xs ys y h x e = by_test (bytes_eq y x) e
  where
    by_test : (b : Bool) → (b || is_among ys x) ≡ false → (b || is_among xs x) ≡ false
    by_test true f = absurd cc
    by_test false f = h x f

-- or on one
within-one : (xs : List (List ℕ)) (y : List ℕ) → AreWithin xs (y ∷ xs)
within-one xs y x e = by_test (bytes_eq y x) e
  where
    by_test : (b : Bool) → (b || is_among xs x) ≡ false → is_among xs x ≡ false
    by_test true f = absurd cc
    by_test false f = f

-- where no arrow comes again behind some, none does behind fewer
unrepeated-within : (xs ys : List (List ℕ)) (ss : List model.Shortcut) → AreWithin xs ys → repeated_arrows ys ss ≡ [] → repeated_arrows xs ss ≡ []
unrepeated-within xs ys [] h e = refl
unrepeated-within xs ys (s ∷ ss) h e =
    let k = none_first (is_among ys (text_of s.new)) s.new (repeated_arrows (text_of s.new ∷ ys) ss) e in
    let l = h (text_of s.new) k.0 in
    let m = unrepeated-within (text_of s.new ∷ xs) (text_of s.new ∷ ys) ss (within-more xs ys (text_of s.new) h) k.1 in
    λ i. (if l i then s.new ∷ [] else []) ++ m i

-- of the first of each none comes again
pub first-unrepeated : (seen : List (List ℕ)) (ss : List model.Shortcut) → repeated_arrows seen (first_of_each seen ss) ≡ []
first-unrepeated seen [] = refl
first-unrepeated seen (s ∷ ss) = by_test (is_among seen (text_of s.new)) refl (first-unrepeated (text_of s.new ∷ seen) ss)
  where
    by_test : (b : Bool) → is_among seen (text_of s.new) ≡ b → repeated_arrows (text_of s.new ∷ seen) (first_of_each (text_of s.new ∷ seen) ss) ≡ []
        → repeated_arrows seen ((if b then [] else s ∷ []) ++ first_of_each (text_of s.new ∷ seen) ss) ≡ []
    by_test true e f = unrepeated-within seen (text_of s.new ∷ seen) (first_of_each (text_of s.new ∷ seen) ss) (within-one seen (text_of s.new)) f
    by_test false e f = λ i. (if e i then s.new ∷ [] else []) ++ f i

-- ---- from one shortcut on, for those that cases use

-- which are the first of each depends on the texts alone that came
pub firsts-same : (xs ys : List (List ℕ)) (ss : List model.Shortcut) → HaveSame xs ys → first_of_each xs ss ≡ first_of_each ys ss
firsts-same xs ys [] h = refl
firsts-same xs ys (s ∷ ss) h =
    let e = among-same xs ys (text_of s.new) h in
    let f = firsts-same (text_of s.new ∷ xs) (text_of s.new ∷ ys) ss (same-more xs ys (text_of s.new) h) in
    λ i. (if e i then [] else s ∷ []) ++ f i

-- what comes again where it was seen
again-test : (xs : List (List ℕ)) (d : Sexp) → is_none (first (again xs d)) ≡ not (is_among xs (text_of d))
again-test xs d = by_test (is_among xs (text_of d))
  where
    by_test : (b : Bool) → is_none (first (if b then d ∷ [] else [])) ≡ not b
    by_test true = refl
    by_test false = refl

-- nothing is none, whatever is made of it
pub none-mapped : {A B : Type 0} (f : A → B) (o : Option A) → is_none (option_map f o) ≡ is_none o
none-mapped f None = refl
none-mapped f (Some x) = refl

-- a test that says not some
pub none-tested : {A : Type 0} (o : Option A) (b : Bool) → not b ≡ is_some o → is_none o ≡ b
none-tested None true e = refl
none-tested None false e = absurd cc
none-tested (Some x) true e = absurd cc
none-tested (Some x) false e = refl

-- the first of each, where the next is one or not
pub firsts-next : (ss : List Shortcut) (i : ℕ) (s : Shortcut) (xs ys : List (List ℕ)) (b : Bool) → i < length ss → s ≡ get_or ss i s
    → is_none (first (again xs s.new.now)) ≡ b → HaveSame ys (text_of s.new.now ∷ xs)
    → first_of_each xs (shortcuts_in (drop i ss)) ≡ (if b then shortcut_of s ∷ [] else []) ++ first_of_each ys (shortcuts_in (drop (i + 1) ss))
firsts-next ss i s xs ys b h e n same =
    let rest = shortcuts_in (drop (i + 1) ss) in
    ap (first_of_each xs) (rest_at shortcut_of ss i s h e)
    ∙ ap (λ zs. zs ++ first_of_each (text_of s.new.now ∷ xs) rest) (turned (is_among xs (text_of s.new.now)) ∙ ap (λ c. if c then shortcut_of s ∷ [] else []) (sym (again-test xs s.new.now) ∙ n))
    ∙ ap (λ zs. (if b then shortcut_of s ∷ [] else []) ++ zs) (sym (firsts-same ys (text_of s.new.now ∷ xs) rest same))
  where
    turned : (c : Bool) → (if c then [] else shortcut_of s ∷ []) ≡ (if not c then shortcut_of s ∷ [] else [])
    turned true = refl
    turned false = refl

-- one more shortcut that was found
pub found-more : (ss : List Shortcut) (s : Shortcut) (zs : List model.Shortcut) → shortcuts_in (ss ++ s ∷ []) ++ zs ≡ shortcuts_in ss ++ shortcut_of s ∷ zs
found-more ss s zs = ap (λ (xs : List model.Shortcut). xs ++ zs) (map-append shortcut_of ss (s ∷ [])) ∙ append_assoc (shortcuts_in ss) (shortcut_of s ∷ []) zs
