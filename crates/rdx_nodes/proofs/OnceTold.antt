-- What a map tells of the names at places, and what it says of the names that a pattern has without those that stand once.
use Rattle.std.proofs.Common.{◌≡◌, ◌+◌, ◌<◌, ◌≤◌, ◌++◌, ℕ, zero, suc, length, take, take_all, take-suc, get_or, add-one, Bool, true, false, not, is_some, cond, List, [], ◌∷◌, Some, refl, sym, ◌∙◌, ap, arith, if◌then◌else◌, HashMap, Bor}
use Rattle.std.proofs.lemmas.List.{map-append}
use Rattle.std.proofs.lemmas.List.Sums.{sum_by-append, sum_by-cons}
use Rattle.std.specs.Cmp.Lexicographic.{bytes_decides}
use Rattle.std.specs.Prelude.{bytes_eq, count_by}
use Rattle.rdx_lang.specs.Members.{In, here, there}
use Rattle.rdx_lang.specs.Names.{names}
use Rattle.rdx_lang.specs.Patterns.{Pattern}
use Rattle.rdx_lang.specs.Rules.{is_one_of}
use Rattle.rdx_nodes.specs.Inside.Forgetting.{binders, AreOnce, Forgets}
use Rattle.rdx_nodes.specs.Inside.Once.{bytes_of, told_of, told_where, is_so, is_once, others, AreSomeTold, AreTold, Tells}
use Rattle.rdx_nodes.proofs.ForgettingBindings.{other_names, other_names-one, other_names-other}
use Rattle.rdx_nodes.proofs.ForgettingNames.{names-without, name-bound}

-- ---- how often a name stands

-- with one place more
count-push : (x : List ℕ) (zs : List (List ℕ)) (z : List ℕ)
    → count_by (bytes_eq x) (zs ++ z ∷ []) ≡ count_by (bytes_eq x) zs + cond (bytes_eq x z) 1 0
count-push x zs z =
    let f : List ℕ → ℕ = λ y. cond (bytes_eq x y) 1 0 in
    let e = sum_by-append f zs (z ∷ []) in
    let k = sum_by-cons f z [] in omega (arith, e, k)

-- what stands somewhere is a member
stands-member : (x : List ℕ) (zs : List (List ℕ)) → 1 ≤ count_by (bytes_eq x) zs → In x zs
stands-member x [] h = absurd (omega (arith, h))
stands-member x (z ∷ zs) h = by_test (bytes_eq x z) refl (stands-member x zs)
  where
    by_test : (b : Bool) → bytes_eq x z ≡ b → (1 ≤ count_by (bytes_eq x) zs → In x zs) → In x (z ∷ zs)
    by_test true e f = here ((bytes_decides x z).0 e)
    by_test false e f =
        let k : count_by (bytes_eq x) (z ∷ zs) ≡ 0 + count_by (bytes_eq x) zs =
        sum_by-cons (λ y. cond (bytes_eq x y) 1 0) z zs ∙ (λ i. cond (e i) 1 0 + count_by (bytes_eq x) zs) in
        there (f (omega (arith, k, h)))

-- ---- what is told

-- of a name that stands once more
told-once_more : (k : ℕ) → Some (not (is_some (told_where k))) ≡ told_where (suc k)
told-once_more zero = refl
told-once_more (suc zero) = refl
told-once_more (suc (suc k)) = refl

-- where it is told that a name stands once, it does
told-once : (k : ℕ) → is_so (told_where k) ≡ true → k ≡ 1
told-once zero h = absurd cc
told-once (suc zero) h = refl
told-once (suc (suc k)) h = absurd cc

module _ {S : Type 0} where
  -- one place more
  pub tells-push : (m n : HashMap (Bor (List ℕ)) Bool S) (zs : List (List ℕ)) (z : List ℕ) (first : Bool) → Tells m zs
      → first ≡ not (is_some (told_of m z)) → ((x : List ℕ) → told_of n x ≡ cond (bytes_eq z x) (Some first) (told_of m x)) → Tells n (zs ++ z ∷ [])
  tells-push m n zs z first t e u x = u x ∙ by_test (bytes_eq z x) refl (bytes_eq x z) refl
    where
      count : ℕ
      count = count_by (bytes_eq x) zs

      by_test : (b : Bool) → bytes_eq z x ≡ b → (d : Bool) → bytes_eq x z ≡ d
          → cond b (Some first) (told_of m x) ≡ told_where (count_by (bytes_eq x) (zs ++ z ∷ []))
      by_test true f true g =
          let s : z ≡ x = (bytes_decides z x).0 f in
          let c : count_by (bytes_eq x) (zs ++ z ∷ []) ≡ suc count = let k = count-push x zs z ∙ (λ i. count + cond (g i) 1 0) in omega (arith, k) in
          ap Some (e ∙ ap (λ y. not (is_some (told_of m y))) s ∙ ap (λ o. not (is_some o)) (t x)) ∙ told-once_more count ∙ ap told_where (sym c)
      by_test false f false g =
          let c : count_by (bytes_eq x) (zs ++ z ∷ []) ≡ count = let k = count-push x zs z ∙ (λ i. count + cond (g i) 1 0) in omega (arith, k) in
          t x ∙ ap told_where (sym c)
      by_test true f false g = let k : bytes_eq x z ≡ true = (bytes_decides x z).1 (sym ((bytes_decides z x).0 f)) in absurd cc
      by_test false f true g = let k : bytes_eq z x ≡ true = (bytes_decides z x).1 (sym ((bytes_decides x z).0 g)) in absurd cc

  module _ (m : HashMap (Bor (List ℕ)) Bool S) where
    -- those of these names that stand once
    abbrev pub once_among : List (List ℕ) → List (List ℕ)
    once_among [] = []
    once_among (z ∷ zs) = if is_once m z then z ∷ once_among zs else once_among zs

    once_among-sound : (zs : List (List ℕ)) (x : List ℕ) → In x (once_among zs) → is_once m x ≡ true
    once_among-sound [] x h = elim h [ ]
    once_among-sound (z ∷ zs) x h = by_test (is_once m z) refl h (once_among-sound zs x)
      where
        by_test : (b : Bool) → is_once m z ≡ b → In x (if b then z ∷ once_among zs else once_among zs) → (In x (once_among zs) → is_once m x ≡ true)
            → is_once m x ≡ true
        by_test true e (here d) f = ap (is_once m) d ∙ e
        by_test true e (there i) f = f i
        by_test false e i f = f i

    once_among-complete : (zs : List (List ℕ)) (x : List ℕ) → In x zs → is_once m x ≡ true → In x (once_among zs)
    once_among-complete [] x h t = elim h [ ]
    once_among-complete (z ∷ zs) x h t = by_test (is_once m z) refl h (λ i. once_among-complete zs x i t)
      where
        by_test : (b : Bool) → is_once m z ≡ b → In x (z ∷ zs) → (In x zs → In x (once_among zs))
            → In x (if b then z ∷ once_among zs else once_among zs)
        by_test true e (here d) f = here d
        by_test true e (there i) f = there (f i)
        by_test false e (here d) f = let k : is_once m x ≡ false = ap (is_once m) d ∙ e in absurd cc
        by_test false e (there i) f = f i

    module _ (zs : List (List ℕ)) (t : Tells m zs) where
      -- what is told to stand once does
      stands_once : (x : List ℕ) → is_once m x ≡ true → count_by (bytes_eq x) zs ≡ 1
      stands_once x h = told-once (count_by (bytes_eq x) zs) (ap is_so (sym (t x)) ∙ h)

      -- these are the names that are told
      pub once_among-told : AreTold (once_among zs) m
      once_among-told x = (
        once_among-sound zs x,
        λ h. let e = stands_once x h in once_among-complete zs x (stands-member x zs (omega (arith, e))) h,
      )

      -- each of them stands once
      pub once_among-once : AreOnce (once_among zs) zs
      once_among-once x h = let e = stands_once x (once_among-sound zs x h) in omega (arith, e)

    -- so there are such names
    pub tells-some : (zs : List (List ℕ)) → Tells m zs → AreSomeTold m
    tells-some zs t = record { names = once_among zs; told = once_among-told zs t }

    -- of no places none is told
    pub none-told : Tells m [] → AreTold [] m
    none-told t x = (λ h. elim h [ ], λ h. let e = stands_once [] t x h in absurd (omega (arith, e)))

    -- ---- the names that stay

    module _ (xs : List (List ℕ)) (told : AreTold xs m) where
      -- what is told is one of them
      told-one : (y : List ℕ) → is_once m y ≡ true → is_one_of xs y ≡ true
      told-one y h = by_test (is_one_of xs y) refl
        where
          by_test : (b : Bool) → is_one_of xs y ≡ b → is_one_of xs y ≡ true
          by_test true e = e
          by_test false e =
              let k : (if false then [] else y ∷ []) ≡ [] = (λ i. if sym e i then [] else y ∷ []) ∙ other_names-one xs y ((told y).1 h) in absurd cc

      -- what is not told is none of them
      told-other : (y : List ℕ) → is_once m y ≡ false → is_one_of xs y ≡ false
      told-other y h = by_test (is_one_of xs y) refl
        where
          absent : In y xs → ⊥
          absent i = let k : is_once m y ≡ true = (told y).0 i in cc

          by_test : (b : Bool) → is_one_of xs y ≡ b → is_one_of xs y ≡ false
          by_test false e = e
          by_test true e = let k : (if true then [] else y ∷ []) ≡ y ∷ [] = (λ i. if sym e i then [] else y ∷ [])
              ∙ other_names-other xs y absent in absurd cc

      -- those that are not told are the others
      others-other_names : (ys : List (List ℕ)) → others m ys ≡ other_names xs ys
      others-other_names [] = refl
      others-other_names (y ∷ ys) = by_test (is_once m y) refl (others-other_names ys)
        where
          by_test : (b : Bool) → is_once m y ≡ b → others m ys ≡ other_names xs ys
              → (if b then others m ys else y ∷ others m ys) ≡ (if is_one_of xs y then other_names xs ys else y ∷ other_names xs ys)
          by_test true e k = k ∙ (λ i. if sym (told-one y e) i then other_names xs ys else y ∷ other_names xs ys)
          by_test false e k = ap (λ zs. y ∷ zs) k ∙ (λ i. if sym (told-other y e) i then other_names xs ys else y ∷ other_names xs ys)

      -- they are the names of the pattern without those that are told
      pub others-names : (p q : Pattern) → Forgets xs p q → others m (names p) ≡ names q
      others-names p q f = others-other_names (names p) ∙ sym (names-without f)

      -- where all are told there is no other
      no_others : (ys : List (List ℕ)) → ((y : List ℕ) → In y ys → is_once m y ≡ true) → others m ys ≡ []
      no_others [] h = refl
      no_others (y ∷ ys) h = (λ i. if h y (here refl) i then others m ys else y ∷ others m ys) ∙ no_others ys (λ z k. h z (there k))

      -- where all names at the places of a pattern are told, it has none without them
      pub no_names-left : (p q : Pattern) → Forgets xs p q → ((x : List ℕ) → In x (binders p) → is_once m x ≡ true) → names q ≡ []
      no_names-left p q f h = sym (others-names p q f) ∙ no_others (names p) (λ y i. h y (name-bound p y i))

-- one name more
pub others-push : {S : Type 0} (m : HashMap (Bor (List ℕ)) Bool S) (xs : List (List ℕ)) (x : List ℕ)
    → others m (xs ++ x ∷ []) ≡ (if is_once m x then others m xs else others m xs ++ x ∷ [])
others-push m [] x = refl
others-push m (y ∷ xs) x = by_test (is_once m y) (is_once m x) (others-push m xs x)
  where
    by_test : (b d : Bool) → others m (xs ++ x ∷ []) ≡ (if d then others m xs else others m xs ++ x ∷ [])
        → (if b then others m (xs ++ x ∷ []) else y ∷ others m (xs ++ x ∷ []))
        ≡ (if d then (if b then others m xs else y ∷ others m xs) else (if b then others m xs else y ∷ others m xs) ++ x ∷ [])
    by_test true true e = e
    by_test true false e = e
    by_test false true e = ap (λ zs. y ∷ zs) e
    by_test false false e = ap (λ zs. y ∷ zs) e

-- ---- loops along places

-- one place more
pub places_next : (ts : List (Bor (List ℕ))) (i : ℕ) (d : Bor (List ℕ)) → i < length ts
    → bytes_of (take (i + 1) ts) ≡ bytes_of (take i ts) ++ (get_or ts i d).now ∷ []
places_next ts i d h = ap (λ k. bytes_of (take k ts)) (add-one i) ∙ ap bytes_of (take-suc ts i d h)
    ∙ map-append (λ (t : Bor (List ℕ)). t.now) (take i ts) (get_or ts i d ∷ [])

-- at the end all places are behind
pub places_end : (ts : List (Bor (List ℕ))) (i : ℕ) → length ts ≤ i → bytes_of (take i ts) ≡ bytes_of ts
places_end ts i h = ap bytes_of (take_all i ts h)
