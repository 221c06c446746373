-- The places of what has a name: what stands at such a place, and what is found where one more is put before the others or behind them.
use Rattle.std.proofs.Common.{◌≡◌, ◌∙◌, ◌+◌, ◌<◌, ◌≤◌, ℕ, zero, suc, Bool, true, false, cond, List, [], ◌∷◌, ◌++◌, length, get_or, map, Option, Some, None, refl, sym, ap, subst, arith, if◌then◌else◌}
use Rattle.std.specs.Cmp.Lexicographic.{bytes_decides}
use Rattle.std.specs.List.{list_any}
use Rattle.std.specs.Prelude.{◌||◌, bytes_eq, is_some}
use Rattle.rdx_lang.specs.Model.Places.{place_from, FindsPlaces}

-- ---- where a place is, and what stands there

module _ {A : Type 0} (name : A → List ℕ) where
  -- a place is not before the first
  pub place-above : (j : ℕ) (x : List ℕ) (xs : List A) (k : ℕ) → place_from name j x xs ≡ Some k → j ≤ k
  place-above j x [] k e = absurd cc
  place-above j x (a ∷ xs) k e = by_test (bytes_eq (name a) x) e (place-above (suc j) x xs k)
    where
      by_test : (b : Bool) → (if b then Some j else place_from name (suc j) x xs) ≡ Some k → (place_from name (suc j) x xs ≡ Some k → suc j ≤ k) → j ≤ k
      by_test true f h = let g : j ≡ k = cc in omega arith
      by_test false f h = let g = h f in omega arith

  -- a place is one of them
  pub place-within : (j i k : ℕ) (x : List ℕ) (xs : List A) → place_from name j x xs ≡ Some k → j + i ≡ k → i < length xs
  place-within j i k x [] e p = absurd cc
  place-within j i k x (a ∷ xs) e p = by_test (bytes_eq (name a) x) e i p (λ m. place-within (suc j) m k x xs)
    where
      same : Some j ≡ Some k → j ≡ k
      same h = cc

      by_test : (b : Bool) → (if b then Some j else place_from name (suc j) x xs) ≡ Some k → (i : ℕ) → j + i ≡ k
          → ((m : ℕ) → place_from name (suc j) x xs ≡ Some k → suc j + m ≡ k → m < length xs) → i < suc (length xs)
      by_test b f zero q h = omega arith
      by_test true f (suc i) q h = let g : j ≡ k = same f in absurd (omega arith)
      by_test false f (suc i) q h = let g = h i f (omega arith) in omega arith

  -- what is there has the name
  pub place-named : (j i k : ℕ) (x : List ℕ) (xs : List A) (a : A) → place_from name j x xs ≡ Some k → j + i ≡ k → a ≡ get_or xs i a → bytes_eq (name a) x ≡ true
  place-named j i k x [] a e p g = absurd cc
  place-named j i k x (b ∷ xs) a e p g = by_test (bytes_eq (name b) x) refl e i p g (λ m. place-named (suc j) m k x xs a)
    where
      same : Some j ≡ Some k → j ≡ k
      same h = cc

      by_test : (t : Bool) → bytes_eq (name b) x ≡ t → (if t then Some j else place_from name (suc j) x xs) ≡ Some k → (i : ℕ) → j + i ≡ k → a ≡ get_or (b ∷ xs) i a
          → ((m : ℕ) → place_from name (suc j) x xs ≡ Some k → suc j + m ≡ k → a ≡ get_or xs m a → bytes_eq (name a) x ≡ true) → bytes_eq (name a) x ≡ true
      by_test true s f zero q g h = ap (λ c. bytes_eq (name c) x) g ∙ s
      by_test true s f (suc i) q g h = let r : j ≡ k = same f in absurd (omega arith)
      by_test false s f zero q g h = let r = place-above (suc j) x xs k f in absurd (omega arith)
      by_test false s f (suc i) q g h = h i f (omega arith) g

  -- a name has a place where one of them has it
  pub place-some : (j : ℕ) (x : List ℕ) (xs : List A) → is_some (place_from name j x xs) ≡ list_any (λ a. bytes_eq (name a) x) xs
  place-some j x [] = refl
  place-some j x (a ∷ xs) = by_test (bytes_eq (name a) x) (place-some (suc j) x xs)
    where
      by_test : (b : Bool) → is_some (place_from name (suc j) x xs) ≡ list_any (λ a. bytes_eq (name a) x) xs
          → is_some (if b then Some j else place_from name (suc j) x xs) ≡ (b || list_any (λ a. bytes_eq (name a) x) xs)
      by_test true e = refl
      by_test false e = e

-- the places of what others stand for are theirs
pub place-map : {A B : Type 0} (name : B → List ℕ) (f : A → B) (i : ℕ) (x : List ℕ) (xs : List A) → place_from name i x (map f xs) ≡ place_from (λ a. name (f a)) i x xs
place-map name f i x [] = refl
place-map name f i x (a ∷ xs) = ap (λ o. if bytes_eq (name (f a)) x then Some i else o) (place-map name f (suc i) x xs)

-- ---- what the first of a name gives

module _ {A C : Type 0} (name : A → List ℕ) (value : A → C) (among : List A → List ℕ → Option C)
    (none_among : (x : List ℕ) → among [] x ≡ None)
    (next_among : (a : A) (bs : List A) (x : List ℕ) → among (a ∷ bs) x ≡ (if bytes_eq (name a) x then Some (value a) else among bs x)) where
  -- what the first of these that has the name gives stands at this place
  pub record StandsAt (bs : List A) (x : List ℕ) (k : ℕ) : Type 0 where
    pub within : k < length bs
    pub stands : (d : A) → among bs x ≡ Some (value (get_or bs k d))

  record IsPlaced (bs : List A) (x : List ℕ) (i j : ℕ) : Type 0 where
    pub behind : ℕ
    pub sum : j ≡ i + behind
    pub stands : StandsAt bs x behind

  first : (a : A) (bs : List A) (x : List ℕ) (i : ℕ) → among (a ∷ bs) x ≡ Some (value a) → IsPlaced (a ∷ bs) x i i
  first a bs x i e = record { behind = 0; sum = omega arith; stands = record { within = omega arith; stands = λ d. e } }

  further : (a : A) (bs : List A) (x : List ℕ) (i j : ℕ) → among (a ∷ bs) x ≡ among bs x → IsPlaced bs x (suc i) j → IsPlaced (a ∷ bs) x i j
  further a bs x i j e p = record {
    behind = suc p.behind;
    sum = omega (arith, p.sum);
    stands = record { within = omega (arith, p.stands.within); stands = λ d. e ∙ p.stands.stands d };
  }

  by_test : (b : Bool) (a : A) (bs : List A) (x : List ℕ) (i j : ℕ) (o : Option ℕ)
      → among (a ∷ bs) x ≡ (if b then Some (value a) else among bs x) → (o ≡ Some j → IsPlaced bs x (suc i) j)
      → (if b then Some i else o) ≡ Some j → IsPlaced (a ∷ bs) x i j
  by_test true a bs x i j o e f g = let h : i ≡ j = cc in subst (IsPlaced (a ∷ bs) x i) h (first a bs x i e)
  by_test false a bs x i j o e f g = further a bs x i j e (f g)

  is-placed : (i j : ℕ) (x : List ℕ) (bs : List A) → place_from name i x bs ≡ Some j → IsPlaced bs x i j
  is-placed i j x [] e = absurd cc
  is-placed i j x (a ∷ bs) e = by_test (bytes_eq (name a) x) a bs x i j (place_from name (suc i) x bs) (next_among a bs x) (is-placed (suc i) j x bs) e

  -- the place of a name is that of the first that has it
  pub stands-at : (bs : List A) (x : List ℕ) (o : Option ℕ) (j : ℕ) → o ≡ place_from name 0 x bs → o ≡ Some j → StandsAt bs x j
  stands-at bs x o j e f =
      let p = is-placed 0 j x bs (sym e ∙ f) in
      let n : p.behind ≡ j = omega (arith, p.sum) in
      subst (StandsAt bs x) n p.stands

  none_by : (b : Bool) (i : ℕ) (a : A) (o : Option ℕ) (p : Option C) → is_some o ≡ is_some p → is_some (if b then Some i else o) ≡ is_some (if b then Some (value a) else p)
  none_by true i a o p e = refl
  none_by false i a o p e = e

  -- a name has a place where one has it
  pub place-among : (i : ℕ) (x : List ℕ) (bs : List A) → is_some (place_from name i x bs) ≡ is_some (among bs x)
  place-among i x [] = ap is_some (sym (none_among x))
  place-among i x (a ∷ bs) =
      none_by (bytes_eq (name a) x) i a (place_from name (suc i) x bs) (among bs x) (place-among (suc i) x bs)
      ∙ ap is_some (sym (next_among a bs x))

  no-among : (o : Option C) → is_some o ≡ false → o ≡ None
  no-among None e = refl
  no-among (Some y) e = absurd cc

  -- a name without a place stands for nothing
  pub none-stands : (bs : List A) (x : List ℕ) (o : Option ℕ) → o ≡ place_from name 0 x bs → o ≡ None → among bs x ≡ None
  none-stands bs x o e f = no-among (among bs x) (sym (place-among 0 x bs) ∙ ap is_some (sym e ∙ f))

-- ---- one more

-- with one more before the others it is found, and what was found of the others but for its name
pub places-next : {A : Type 0} (name : A → List ℕ) (i j : ℕ) (k : List ℕ) (a : A) (xs : List A) (old new : List ℕ → Option ℕ)
    → suc i ≡ j → k ≡ name a → ((x : List ℕ) → new x ≡ cond (bytes_eq k x) (Some i) (old x)) → FindsPlaces name old j xs → FindsPlaces name new i (a ∷ xs)
places-next name i j k a xs old new n e u all x =
    u x
    ∙ by_test (bytes_eq k x) (all x ∙ ap (λ m. place_from name m x xs) (sym n))
    ∙ ap (λ y. if bytes_eq y x then Some i else place_from name (suc i) x xs) e
  where
    by_test : (b : Bool) → old x ≡ place_from name (suc i) x xs → cond b (Some i) (old x) ≡ (if b then Some i else place_from name (suc i) x xs)
    by_test true f = refl
    by_test false f = f

-- what was found, or else this place for the text
abbrev pub or_last : List ℕ → ℕ → List ℕ → Option ℕ → Option ℕ
or_last y i x o = if is_some o then o else if bytes_eq y x then Some i else None

behind_first : (b : Bool) (i : ℕ) (y x : List ℕ) (k : ℕ) (o p : Option ℕ) → p ≡ or_last y k x o → (if b then Some i else p) ≡ or_last y k x (if b then Some i else o)
behind_first true i y x k o p e = refl
behind_first false i y x k o p e = e

-- the place of a name with one more behind the others: that among them, or else the last
place-behind : {A : Type 0} (name : A → List ℕ) (i : ℕ) (x : List ℕ) (a : A) (xs : List A) → place_from name i x (xs ++ a ∷ []) ≡ or_last (name a) (i + length xs) x (place_from name i x xs)
place-behind name i x a [] = ap (λ n. if bytes_eq (name a) x then Some n else None) (omega arith)
place-behind name i x a (z ∷ zs) =
    behind_first (bytes_eq (name z) x) i (name a) x (i + suc (length zs)) (place_from name (suc i) x zs) _
    (place-behind name (suc i) x a zs ∙ ap (λ n. or_last (name a) n x (place_from name (suc i) x zs)) (omega arith))

-- with one more behind the others its place is found where its name was not
pub places-behind : {A : Type 0} (name : A → List ℕ) (i : ℕ) (a : A) (xs : List A) (old new : List ℕ → Option ℕ)
    → length xs ≡ i → ((x : List ℕ) → new x ≡ or_last (name a) i x (old x)) → FindsPlaces name old 0 xs → FindsPlaces name new 0 (xs ++ a ∷ [])
places-behind name i a xs old new e u f x =
    u x
    ∙ ap (or_last (name a) i x) (f x)
    ∙ ap (λ n. or_last (name a) n x (place_from name 0 x xs)) (let n : i ≡ 0 + length xs = omega (arith, e) in n)
    ∙ sym (place-behind name 0 x a xs)

some_stays : (b : Bool) (o : Option ℕ) (i : ℕ) → (b ≡ true → is_some o ≡ true) → o ≡ (if is_some o then o else if b then Some i else None)
some_stays true (Some j) i f = refl
some_stays false (Some j) i f = refl
some_stays true None i f = absurd (let e : false ≡ true = f refl in cc)
some_stays false None i f = refl

-- where the text was found already, nothing changes
pub finds-again : (found : List ℕ → Option ℕ) (y : List ℕ) (i : ℕ) → is_some (found y) ≡ true → (x : List ℕ) → found x ≡ or_last y i x (found x)
finds-again found y i e x = some_stays (bytes_eq y x) (found x) i (λ t. subst (λ z. is_some (found z) ≡ true) ((bytes_decides y x).0 t) e)

new_found : (b : Bool) (o : Option ℕ) (i : ℕ) → (b ≡ true → is_some o ≡ false) → cond b (Some i) o ≡ (if is_some o then o else if b then Some i else None)
new_found true (Some j) i f = absurd (let e : true ≡ false = f refl in cc)
new_found false (Some j) i f = refl
new_found true None i f = refl
new_found false None i f = refl

-- where it was not, it is found in the place that is put there
pub finds-new : (old new : List ℕ → Option ℕ) (k y : List ℕ) (i : ℕ) → k ≡ y → ((x : List ℕ) → new x ≡ cond (bytes_eq k x) (Some i) (old x)) → is_some (old y) ≡ false
    → (x : List ℕ) → new x ≡ or_last y i x (old x)
finds-new old new k y i h u e x =
    u x
    ∙ ap (λ z. cond (bytes_eq z x) (Some i) (old x)) h
    ∙ new_found (bytes_eq y x) (old x) i (λ t. subst (λ z. is_some (old z) ≡ false) ((bytes_decides y x).0 t) e)
