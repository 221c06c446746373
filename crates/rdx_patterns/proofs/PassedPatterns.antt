-- What stands in a pattern whose symbols are spelled as those of terms, and what of it the checks of names and of patterns pass.
use Rattle.std.proofs.Common.{◌≡◌, ◌++◌, ◌<◌, ℕ, suc, ◌+◌, Bool, true, false, List, [], ◌∷◌, Option, Some, None, refl, ap, if◌then◌else◌, arith}
use Rattle.std.specs.Prelude.{◌&&◌, ◌||◌, not, max, take, bytes_eq, codes, nat_eq, IsTrue}
use Rattle.std.specs.Cmp.Lexicographic.{pointwise, bytes_decides}
use Rattle.std.specs.List.{starts_with}
use Rattle.std.proofs.Math.Nat.{le-max_left, le-max_right}
use Rattle.rdx_sexp.specs.Sexp.{Sexp, Sexps, leaf, list, nil, cons, integer, truth, text, symbol, keyword}
use Rattle.rdx_sexp.specs.Size.{sexp_depth, sexps_depth, IsSpelledSexp, AreSpelled}
use Rattle.rdx_term.specs.Spelling.{is_name, is_symbol_spelling}
use Rattle.rdx_patterns.specs.Heads.{Head, naming, avoiding, prefixing, splitting, hiding, crossing, escaping, plain, Role, word, bound, spelt, pattern, ellipsis, unread, Roles, done, item, every, patterns, repeatable, roles_of, head_among, is_ellipsis_symbol, next, rest, is_repeated, suits, fits, is_shaped}
use Rattle.rdx_patterns.specs.AreNames.{AreNames}
use Rattle.rdx_patterns.specs.BoundNames.{bound_names}
use Rattle.rdx_patterns.specs.Kinds.{is_base}
use Rattle.rdx_patterns.specs.Names.{is_bad_bound, begins_with_dots, is_ellipsis, has_suffix, front}
use Rattle.rdx_patterns.specs.Occurrences.{Occurrence, key, binder, single, repeats, excepted, across, malformed, escape, keys, keys_in, role_occurrences, deeper, head_occurrences, occurrences, occurrences_among}
use Rattle.rdx_patterns.specs.Parts.{text_of, is_symbol, is_word}
use Rattle.rdx_patterns.specs.PatternChecks.{Bound, when, bad_binder, bad_binders, is_bad_symbol, bad_occurrence, bad_occurrences, binds, bound_when, all_bound}
use Rattle.rdx_patterns.specs.declared.patterns.position.Position.{Position}
use Rattle.rdx_patterns.proofs.Booleans.{or_false, or_true, and_true, and_both, not_and_true, unless_true, not_either_way}
use Rattle.rdx_patterns.proofs.SpelledNames.{symbol-spelled, name-spelled, bound-not_bad, language-not_hole}
use Rattle.rdx_patterns.proofs.Firsts.{none_both}

-- ---- what stands in a pattern, below this depth

-- a symbol that may bind is spelled as one, and an ellipsis is one; less than m repetitions stand around it
abbrev pub IsWritten : ℕ → Occurrence → Type 0
IsWritten m (key d) = Unit {0}
IsWritten m (binder n d) = (n < m) × IsTrue (is_symbol_spelling (text_of d))
IsWritten m (single n d) = (n < m) × IsTrue (is_symbol_spelling (text_of d))
IsWritten m (repeats n d) = (n < m) × (IsTrue (is_symbol_spelling (text_of d)) × (is_ellipsis_symbol d ≡ true))
IsWritten m (excepted d) = Unit {0}
IsWritten m (across d) = Unit {0}
IsWritten m (malformed d) = Unit {0}
IsWritten m (escape d) = Unit {0}

-- so is each of these
abbrev pub AreWritten : ℕ → List Occurrence → Type 0
AreWritten m [] = Unit {0}
AreWritten m (o ∷ os) = IsWritten m o × AreWritten m os

-- those of two lists
AreWritten-append : (m : ℕ) (os qs : List Occurrence) → AreWritten m os → AreWritten m qs → AreWritten m (os ++ qs)
AreWritten-append m [] qs h k = k
AreWritten-append m (o ∷ os) qs h k = (h.0, AreWritten-append m os qs h.1 k)

mutual
  -- keywords
  keys-written : (m : ℕ) (d : Sexp) → AreWritten m (keys d)
  keys-written m (leaf (integer n) s) = tt
  keys-written m (leaf (truth b) s) = tt
  keys-written m (leaf (text t) s) = tt
  keys-written m (leaf (symbol x) s) = tt
  keys-written m (leaf (keyword k) s) = (tt, tt)
  keys-written m (list ds s) = keys_in-written m ds

  -- those in several data
  keys_in-written : (m : ℕ) (ds : Sexps) → AreWritten m (keys_in ds)
  keys_in-written m nil = tt
  keys_in-written m (cons d ds) = AreWritten-append m (keys d) (keys_in ds) (keys-written m d) (keys_in-written m ds)

-- the role is not one of an ellipsis, wherever the item stands
abbrev IsFixed : Role → Type 0
IsFixed word = Unit {0}
IsFixed bound = Unit {0}
IsFixed spelt = Unit {0}
IsFixed pattern = Unit {0}
IsFixed ellipsis = ⊥
IsFixed unread = Unit {0}

-- so are these
abbrev AreFixed : Roles → Type 0
AreFixed done = Unit {0}
AreFixed (item r rs) = IsFixed r × AreFixed rs
AreFixed (every r) = IsFixed r
AreFixed patterns = Unit {0}
AreFixed repeatable = Unit {0}

-- those of the table
table-fixed : (h : Head) → AreFixed (roles_of h)
table-fixed naming = (tt, (tt, (tt, tt)))
table-fixed avoiding = (tt, tt)
table-fixed prefixing = (tt, (tt, tt))
table-fixed splitting = (tt, (tt, (tt, tt)))
table-fixed hiding = (tt, (tt, tt))
table-fixed crossing = (tt, (tt, tt))
table-fixed escaping = (tt, tt)
table-fixed plain = tt

-- those behind an item
rest-fixed : (rs : Roles) (d : Sexp) → AreFixed rs → AreFixed (rest rs d)
rest-fixed done d h = tt
rest-fixed (item r rs) d h = h.1
rest-fixed (every r) d h = h
rest-fixed patterns d h = tt
rest-fixed repeatable d h = by_test (is_ellipsis_symbol d)
  where
    by_test : (b : Bool) → AreFixed (if b then patterns else repeatable)
    by_test true = tt
    by_test false = tt

-- in a role that is fixed no ellipsis stands
fixed-none : (r : Role) (P : Type 0) → IsFixed r → Some r ≡ Some ellipsis → P
fixed-none word P h e = absurd cc
fixed-none bound P h e = absurd cc
fixed-none spelt P h e = absurd cc
fixed-none pattern P h e = absurd cc
fixed-none ellipsis P h e = absurd h
fixed-none unread P h e = absurd cc

-- what stands there as an ellipsis is one
next-ellipsis : (rs : Roles) (d : Sexp) → AreFixed rs → next rs d ≡ Some ellipsis → is_ellipsis_symbol d ≡ true
next-ellipsis done d h e = absurd cc
next-ellipsis (item r rs) d h e = fixed-none r (is_ellipsis_symbol d ≡ true) h.0 e
next-ellipsis (every r) d h e = fixed-none r (is_ellipsis_symbol d ≡ true) h e
next-ellipsis patterns d h e = absurd cc
next-ellipsis repeatable d h e = by_test (is_ellipsis_symbol d) e
  where
    by_test : (b : Bool) → (let o : Option Role = if b then Some ellipsis else Some pattern in o) ≡ Some ellipsis → b ≡ true
    by_test true f = refl
    by_test false f = absurd cc

-- an item in a role
role-written : (m n : ℕ) (o : Option Role) (d : Sexp) (os : List Occurrence) → n < m → IsSpelledSexp d → suits o d ≡ true
    → (o ≡ Some ellipsis → is_ellipsis_symbol d ≡ true) → AreWritten m os → AreWritten m (role_occurrences n o d os)
role-written m n None d os l h e f k = tt
role-written m n (Some word) d os l h e f k = tt
role-written m n (Some bound) d os l h e f k = ((l, symbol-spelled d e h), tt)
role-written m n (Some spelt) d os l h e f k = (tt, tt)
role-written m n (Some pattern) d os l h e f k = k
role-written m n (Some ellipsis) d os l h e f k = let g = f refl in ((l, (symbol-spelled d (and_true (is_symbol d) (is_ellipsis (text_of d)) g).0 h, g)), tt)
role-written m n (Some unread) d os l h e f k = keys-written m d

-- one repetition more is enough room
deeper-below : (b : Bool) (n a c m : ℕ) → n + suc (max a c) < m → deeper b n + a < m
deeper-below true n a c m h = let k = le-max_left a c in omega (arith, k)
deeper-below false n a c m h = let k = le-max_left a c in omega (arith, k)

-- so there is for the others
others-below : (n a c m : ℕ) → n + suc (max a c) < m → n + suc c < m
others-below n a c m h = let k = le-max_right a c in omega (arith, k)

-- a list that may have its shape
shaped-written : (m : ℕ) (b : Bool) (whole : Sexp) (ds : Sexps) (os : List Occurrence) → (b ≡ true → AreWritten m os)
    → AreWritten m (if b then os else malformed whole ∷ keys_in ds)
shaped-written m true whole ds os f = f refl
shaped-written m false whole ds os f = (tt, keys_in-written m ds)

-- the list itself, where its head is `cross` or would ask Racket
head-written : (m : ℕ) (h : Head) (whole : Sexp) → AreWritten m (head_occurrences h whole)
head-written m naming whole = tt
head-written m avoiding whole = tt
head-written m prefixing whole = tt
head-written m splitting whole = tt
head-written m hiding whole = tt
head-written m crossing whole = (tt, tt)
head-written m escaping whole = (tt, tt)
head-written m plain whole = tt

mutual
  -- a pattern
  occurrences-written : (m n : ℕ) (d : Sexp) → n + sexp_depth d < m → IsSpelledSexp d → AreWritten m (occurrences n d)
  occurrences-written m n (leaf (integer z) s) l h = tt
  occurrences-written m n (leaf (truth b) s) l h = tt
  occurrences-written m n (leaf (text t) s) l h = tt
  occurrences-written m n (leaf (symbol x) s) l h = ((omega (arith, l), h), tt)
  occurrences-written m n (leaf (keyword k) s) l h = (tt, tt)
  occurrences-written m n (list ds s) l h =
      let k = head_among ds in
      let os = head_occurrences k (list ds s) in
      shaped-written m (is_shaped ds) (list ds s) ds (os ++ occurrences_among n (roles_of k) ds)
      (λ e. AreWritten-append m os (occurrences_among n (roles_of k) ds) (head-written m k (list ds s)) (among-written m n (roles_of k) ds l h (table-fixed k) e))

  -- items in these roles
  among-written : (m n : ℕ) (rs : Roles) (ds : Sexps) → n + suc (sexps_depth ds) < m → AreSpelled ds → AreFixed rs → fits rs ds ≡ true
      → AreWritten m (occurrences_among n rs ds)
  among-written m n rs nil l h k e = tt
  among-written m n rs (cons d ds) l h k e =
      let f = and_true (suits (next rs d) d) (fits (rest rs d) ds) e in
      let b = is_repeated (rest rs d) ds in
      AreWritten-append m (role_occurrences n (next rs d) d (occurrences (deeper b n) d)) (occurrences_among n (rest rs d) ds)
      (role-written m n (next rs d) d (occurrences (deeper b n) d) (omega (arith, l)) h.0 f.0 (next-ellipsis rs d k)
      (occurrences-written m (deeper b n) d (deeper-below b n (sexp_depth d) (sexps_depth ds) m l) h.0))
      (among-written m n (rest rs d) ds (others-below n (sexp_depth d) (sexps_depth ds) m l) h.1 (rest-fixed rs d k) f.1)

-- a pattern that is read
pub pattern-written : (d : Sexp) → sexp_depth d < 4294967296 → IsSpelledSexp d → AreWritten 4294967296 (occurrences 0 d)
pattern-written d l h = occurrences-written 4294967296 0 d (omega (arith, l)) h

-- items of a list pattern may be any, behind an item or not
mutual
  patterns-fit : (ds : Sexps) → fits patterns ds ≡ true
  patterns-fit nil = refl
  patterns-fit (cons d ds) = repeatable-fit ds

  repeatable-fit : (ds : Sexps) → fits repeatable ds ≡ true
  repeatable-fit nil = refl
  repeatable-fit (cons d ds) = by_symbol (is_symbol d) (is_ellipsis (text_of d)) refl (patterns-fit ds) (repeatable-fit ds)
    where
      by_symbol : (a b : Bool) → is_symbol d ≡ a → fits patterns ds ≡ true → fits repeatable ds ≡ true
          → (suits (if a && b then Some ellipsis else Some pattern) d && fits (if a && b then patterns else repeatable) ds) ≡ true
      by_symbol true true e f g = and_both (is_symbol d) (fits patterns ds) e f
      by_symbol true false e f g = g
      by_symbol false b e f g = g

-- the items of a list pattern that is read
pub items-written : (ds : Sexps) → suc (sexps_depth ds) < 4294967296 → AreSpelled ds → AreWritten 4294967296 (occurrences_among 0 patterns ds)
items-written ds l h = among-written 4294967296 0 patterns ds (omega (arith, l)) h tt (patterns-fit ds)

-- ---- what the checks pass

-- a test fails where nothing comes of it
when-none : (b : Bool) (d : Sexp) → when b d ≡ [] → b ≡ false
when-none true d e = absurd cc
when-none false d e = refl

-- what begins as an ellipsis with a length name does begins with dots
longer-dots : (x : List ℕ) → starts_with nat_eq x (codes "..._") ≡ true → begins_with_dots x ≡ true
longer-dots [] e = e
longer-dots (a ∷ []) e = e
longer-dots (a ∷ b ∷ []) e = e
longer-dots (a ∷ b ∷ c ∷ x) e =
    let f = and_true (nat_eq 46 a) (nat_eq 46 b && (nat_eq 46 c && pointwise nat_eq (codes "_") (take 1 x))) e in
    let g = and_true (nat_eq 46 b) (nat_eq 46 c && pointwise nat_eq (codes "_") (take 1 x)) f.1 in
    let h = and_true (nat_eq 46 c) (pointwise nat_eq (codes "_") (take 1 x)) g.1 in
    and_both (nat_eq 46 a) (nat_eq 46 b && (nat_eq 46 c && true)) f.0 (and_both (nat_eq 46 b) (nat_eq 46 c && true) g.0 (and_both (nat_eq 46 c) true h.0 refl))

-- and so does an ellipsis
pub ellipsis-dots : (x : List ℕ) → is_ellipsis x ≡ true → begins_with_dots x ≡ true
ellipsis-dots x e =
    or_true (bytes_eq x (codes "...")) (starts_with nat_eq x (codes "..._") && not (starts_with nat_eq x (codes "..._!_"))) (begins_with_dots x ≡ true) e
    (λ f. ap begins_with_dots ((bytes_decides x (codes "...")).0 f))
    (λ f. longer-dots x (and_true (starts_with nat_eq x (codes "..._")) (not (starts_with nat_eq x (codes "..._!_"))) f).0)

-- what begins with dots is not the hole
dots-not_hole : (x : List ℕ) → begins_with_dots x ≡ true → bytes_eq x (codes "hole") ≡ false
dots-not_hole x e = unless_true (bytes_eq x (codes "hole")) (λ f. not_either_way (begins_with_dots x) e (ap begins_with_dots ((bytes_decides x (codes "hole")).0 f)))

-- so an ellipsis is a name
ellipsis-name : (d : Sexp) → IsTrue (is_symbol_spelling (text_of d)) → is_ellipsis_symbol d ≡ true → is_name (text_of d) ≡ true
ellipsis-name d h e = name-spelled (text_of d) h (dots-not_hole (text_of d) (ellipsis-dots (text_of d) (and_true (is_symbol d) (is_ellipsis (text_of d)) e).1))

-- what binds is a name, and begins with dots where it is an ellipsis; there is no list without its shape
abbrev pub IsPassed : Occurrence → Type 0
IsPassed (key d) = Unit {0}
IsPassed (binder n d) = (is_name (text_of d) ≡ true) × (begins_with_dots (text_of d) ≡ false)
IsPassed (single n d) = (bytes_eq (text_of d) (codes "hole") ≡ false → is_name (text_of d) ≡ true) × (begins_with_dots (text_of d) ≡ false)
IsPassed (repeats n d) = (is_ellipsis_symbol d ≡ true) × ((is_name (text_of d) ≡ true) × (begins_with_dots (text_of d) ≡ true))
IsPassed (excepted d) = Unit {0}
IsPassed (across d) = Unit {0}
IsPassed (malformed d) = ⊥
IsPassed (escape d) = Unit {0}

-- so is each of these
abbrev pub ArePassed : List Occurrence → Type 0
ArePassed [] = Unit {0}
ArePassed (o ∷ os) = IsPassed o × ArePassed os

-- those of two lists
pub ArePassed-both : (os qs : List Occurrence) → ArePassed (os ++ qs) → ArePassed os × ArePassed qs
ArePassed-both [] qs h = (tt, h)
ArePassed-both (o ∷ os) qs h = let k = ArePassed-both os qs h.1 in ((h.0, k.0), k.1)

-- a name that may be bound
bound-passed : (d : Sexp) → IsTrue (is_symbol_spelling (text_of d)) → is_bad_bound (text_of d) ≡ false
    → (is_name (text_of d) ≡ true) × (begins_with_dots (text_of d) ≡ false)
bound-passed d h e =
    let f = bound-not_bad (text_of d) e in
    (name-spelled (text_of d) h (language-not_hole (text_of d) f), (or_false (bytes_eq (text_of d) (codes "hole") || bytes_eq (text_of d) (codes "_")) (begins_with_dots (text_of d)) f).1)

module _ (ns : List (List ℕ)) (m : ℕ) where
  -- one that is written and that no check refuses
  written-passed : (o : Occurrence) → IsWritten m o → bad_binder o ≡ [] → bad_occurrence ns o ≡ [] → IsPassed o
  written-passed (key d) h e f = tt
  written-passed (binder n d) h e f = bound-passed d h.1 (when-none (is_bad_bound (text_of d)) d e)
  written-passed (single n d) h e f =
      (name-spelled (text_of d) h.1, (or_false (begins_with_dots (text_of d)) (not (bytes_eq (text_of d) (codes "_")) && (has_suffix (text_of d) && not (is_base ns (front (text_of d))))) (when-none (is_bad_symbol ns (text_of d)) d f)).0)
  written-passed (repeats n d) h e f = (h.1.1, (ellipsis-name d h.1.0 h.1.1, ellipsis-dots (text_of d) (and_true (is_symbol d) (is_ellipsis (text_of d)) h.1.1).1))
  written-passed (excepted d) h e f = tt
  written-passed (across d) h e f = tt
  written-passed (malformed d) h e f = absurd cc
  written-passed (escape d) h e f = tt

  -- several
  pub are-passed : (os : List Occurrence) → AreWritten m os → bad_binders os ≡ [] → bad_occurrences ns os ≡ [] → ArePassed os
  are-passed [] h e f = tt
  are-passed (o ∷ os) h e f =
      let k = none_both (bad_binder o) (bad_binders os) e in
      let l = none_both (bad_occurrence ns o) (bad_occurrences ns os) f in
      (written-passed o h.0 k.0 l.0, are-passed os h.1 k.1 l.1)

-- ---- what binds

-- less than m repetitions stand around what binds, which is a name
abbrev pub AreBoundNames : ℕ → List Bound → Type 0
AreBoundNames m [] = Unit {0}
AreBoundNames m (b ∷ bs) = ((b.depth < m) × (is_name (text_of b.symbol) ≡ true)) × AreBoundNames m bs

module _ (ns : List (List ℕ)) (pos : Position) (m : ℕ) where
  -- in front of others, where a test holds
  when-names : (b : Bool) (n : ℕ) (d : Sexp) (bs : List Bound) → n < m → (b ≡ true → is_name (text_of d) ≡ true) → AreBoundNames m bs
      → AreBoundNames m (bound_when b n d ++ bs)
  when-names true n d bs l e h = ((l, e refl), h)
  when-names false n d bs l e h = h

  -- a symbol that binds its own name is not the hole
  binds-not_hole : (x : List ℕ) → binds ns pos x ≡ true → bytes_eq x (codes "hole") ≡ false
  binds-not_hole x e = (or_false (bytes_eq x (codes "_")) (bytes_eq x (codes "hole")) (not_and_true (bytes_eq x (codes "_") || bytes_eq x (codes "hole")) _ e).0).1

  -- what is written, and of which no name may not be bound
  pub bound-are-names : (os : List Occurrence) → AreWritten m os → bad_binders os ≡ [] → AreBoundNames m (all_bound ns pos os)
  bound-are-names [] h e = tt
  bound-are-names (key d ∷ os) h e = bound-are-names os h.1 e
  bound-are-names (binder n d ∷ os) h e =
      let k = none_both (bad_binder (binder n d)) (bad_binders os) e in
      ((h.0.0, (bound-passed d h.0.1 (when-none (is_bad_bound (text_of d)) d k.0)).0), bound-are-names os h.1 k.1)
  bound-are-names (single n d ∷ os) h e =
      when-names (binds ns pos (text_of d)) n d (all_bound ns pos os) h.0.0 (λ f. name-spelled (text_of d) h.0.1 (binds-not_hole (text_of d) f)) (bound-are-names os h.1 e)
  bound-are-names (repeats n d ∷ os) h e =
      when-names (not (is_word (codes "...") d)) n d (all_bound ns pos os) h.0.0 (λ f. ellipsis-name d h.0.1.0 h.0.1.1) (bound-are-names os h.1 e)
  bound-are-names (excepted d ∷ os) h e = bound-are-names os h.1 e
  bound-are-names (across d ∷ os) h e = bound-are-names os h.1 e
  bound-are-names (malformed d ∷ os) h e = bound-are-names os h.1 e
  bound-are-names (escape d ∷ os) h e = bound-are-names os h.1 e

-- they are names
pub AreNames-bound : (m : ℕ) (bs : List Bound) → AreBoundNames m bs → AreNames (bound_names bs)
AreNames-bound m [] h = tt
AreNames-bound m (b ∷ bs) h = (h.0.1, AreNames-bound m bs h.1)
