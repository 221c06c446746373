-- In the reading of a datum that passes the checks the pattern that matches everything stands only for `_`.
use Rattle.std.proofs.Common.{◌≡◌, ◌++◌, ℕ, ◌+◌, Bool, true, false, List, [], ◌∷◌, Option, Some, None, refl, sym, ap, ◌∙◌, if◌then◌else◌, arith}
use Rattle.std.specs.Prelude.{◌&&◌, ◌||◌, not, is_some, bytes_eq, codes, IsTrue}
use Rattle.std.proofs.lemmas.Grind.{flat_map-append}
use Rattle.rdx_sexp.specs.Sexp.{Sexp, Sexps, leaf, list, nil, cons, integer, truth, text, symbol, keyword}
use Rattle.rdx_sexp.specs.Size.{IsSpelledSexp, AreSpelled}
use Rattle.rdx_term.specs.Spelling.{is_name, is_symbol_spelling}
use Rattle.rdx_term.specs.Tree as tree
use Rattle.rdx_lang.specs.Patterns.{Pattern, wild, hole, lit, nt, named, differ, Items}
use Rattle.rdx_lang.specs.declared.pattern.Kind.{Kind}
use Rattle.rdx_lang.specs.declared.pattern.Ref.TheVariants.{Nt}
use Rattle.rdx_patterns.specs.Heads.{Head, naming, avoiding, prefixing, splitting, hiding, crossing, escaping, plain, Role, word, bound, spelt, pattern, ellipsis, unread, Roles, every, roles_of, head_among, next, rest, is_repeated, fits, is_shaped}
use Rattle.rdx_patterns.specs.Kinds.{kind_of, is_among, is_base}
use Rattle.rdx_patterns.specs.Laws.{wilds, item_wilds, underscores, WildsAreWritten}
use Rattle.rdx_patterns.specs.Names.{is_bad_bound, begins_with_dots, has_suffix, front, is_mismatch}
use Rattle.rdx_patterns.specs.Occurrences.{Occurrence, malformed, keys, keys_in, role_occurrences, deeper, head_occurrences, occurrences, occurrences_among}
use Rattle.rdx_patterns.specs.Parts.{text_of, is_symbol, is_word}
use Rattle.rdx_patterns.specs.PatternChecks.{keyword_fault, keyword_faults, bad_binder, bad_binders, bad_occurrence, bad_occurrences, is_bad_symbol, escape_in, escapes}
use Rattle.rdx_patterns.specs.PatternRefusal.{keyword_at, bad_binder_at, bad_occurrence_at, depth_clash_at, escape_at}
use Rattle.rdx_patterns.specs.Reading.{base, base_of, suffixed, other_symbol, by_base, symbol_reading, name_in, only, bound_to, prefixed, across_itself, names_among, ellipsis_behind, item_slot, with_item, role_items, assembled, reading, items_among}
use Rattle.rdx_patterns.specs.Refusal.{unnamed}
use Rattle.rdx_patterns.specs.Refusal as refusing
use Rattle.rdx_patterns.specs.declared.patterns.position.Position.{Position}
use Rattle.rdx_patterns.specs.declared.patterns.position.Position.TheVariants.{Grammar, Query}
use Rattle.rdx_patterns.specs.declared.shape.fault.DefKind.TheVariants.{Shape, BadName, BadPattern, RacketEscape}
use Rattle.rdx_patterns.proofs.Booleans.{or_false, and_true, second-false, not_true}
use Rattle.rdx_patterns.proofs.SpelledNames.{symbol-spelled, name-spelled, bound-not_bad, language-not_hole}
use Rattle.rdx_patterns.proofs.Firsts.{nothing, none_both, none_or, none_first}
use Rattle.rdx_patterns.proofs.RoleItems.{named-once}

-- ---- names

-- the symbol has one
abbrev HasName : Sexp → Type 0
HasName d = is_name (text_of d) ≡ true

-- one that `variable-except` or `variable-prefix` may name has one
spelt-name : (d : Sexp) → (is_symbol d && not (is_word (codes "hole") d)) ≡ true → IsSpelledSexp d → HasName d
spelt-name (leaf (integer n) s) e h = absurd cc
spelt-name (leaf (truth b) s) e h = absurd cc
spelt-name (leaf (text t) s) e h = absurd cc
spelt-name (leaf (symbol x) s) e h = name-spelled x h (not_true (bytes_eq x (codes "hole")) e)
spelt-name (leaf (keyword k) s) e h = absurd cc
spelt-name (list ds s) e h = absurd cc

-- one that may be bound has one
bound-name : (d : Sexp) → is_symbol d ≡ true → IsSpelledSexp d → is_bad_bound (text_of d) ≡ false → HasName d
bound-name d e h f = name-spelled (text_of d) (symbol-spelled d e h) (language-not_hole (text_of d) (bound-not_bad (text_of d) f))

module _ (ns : List (List ℕ)) (pos : Position) where
  -- ---- symbols

  -- neither a built-in name nor a nonterminal matches everything
  abbrev HasNoWild : Option Pattern → Type 0
  HasNoWild None = Unit {0}
  HasNoWild (Some p) = wilds p ≡ 0

  base-no_wild : (x : List ℕ) → HasNoWild (base ns x)
  base-no_wild x = by_kind (kind_of x)
    where
      by_test : (b : Bool) → HasNoWild (if b then Some (nt (Nt x)) else None)
      by_test true = refl
      by_test false = tt

      by_kind : (k : Option Kind) → HasNoWild (base_of ns x k)
      by_kind (Some k) = refl
      by_kind None = by_test (is_among ns x)

  -- what is a base has one
  base-some : (x : List ℕ) → is_base ns x ≡ true → base ns x ≡ None → ⊥
  base-some x e f = by_kind (kind_of x) e f
    where
      by_test : (b : Bool) → b ≡ true → (let o : Option Pattern = if b then Some (nt (Nt x)) else None in o) ≡ None → ⊥
      by_test true g h = absurd cc
      by_test false g h = absurd cc

      by_kind : (k : Option Kind) → (is_some k || is_among ns x) ≡ true → base_of ns x k ≡ None → ⊥
      by_kind (Some k) g h = absurd cc
      by_kind None g h = by_test (is_among ns x) g h

  -- what stands before a suffix is a base
  suffixed-no_wild : (x : List ℕ) (o : Option Pattern) → HasNoWild o → (o ≡ None → ⊥) → wilds (suffixed x o) ≡ 0
  suffixed-no_wild x None h f = absurd (f refl)
  suffixed-no_wild x (Some p) h f = by_test (is_mismatch x)
    where
      by_test : (b : Bool) → wilds (if b then differ x p else named x p) ≡ 0
      by_test true = h
      by_test false = h

  -- a symbol with a suffix behind a base, or a literal
  other-no_wild : (x : List ℕ) → (has_suffix x && not (is_base ns (front x))) ≡ false → wilds (other_symbol ns x) ≡ 0
  other-no_wild x e = by_test (has_suffix x) e
    where
      of_not : (b : Bool) → not b ≡ false → b ≡ true
      of_not true f = refl
      of_not false f = absurd cc

      by_test : (b : Bool) → (b && not (is_base ns (front x))) ≡ false → wilds (if b then suffixed x (base ns (front x)) else lit (tree.symbol x)) ≡ 0
      by_test true f = suffixed-no_wild x (base ns (front x)) (base-no_wild (front x)) (base-some (front x) (of_not (is_base ns (front x)) f))
      by_test false f = refl

  -- a name that is no bad symbol
  name-no_wild : (p : Position) (x : List ℕ) (o : Option Pattern) → HasNoWild o → (has_suffix x && not (is_base ns (front x))) ≡ false → wilds (by_base ns p x o) ≡ 0
  name-no_wild p x None h e = other-no_wild x e
  name-no_wild Grammar x (Some q) h e = h
  name-no_wild Query x (Some q) h e = h

  -- a symbol that is none
  symbol-wilds : (x : List ℕ) → IsTrue (is_symbol_spelling x) → is_bad_symbol ns x ≡ false → wilds (symbol_reading ns pos x) ≡ (if bytes_eq x (codes "_") then 1 else 0)
  symbol-wilds x h e =
      by_tests (bytes_eq x (codes "_")) (bytes_eq x (codes "hole")) (name-spelled x h) (or_false (begins_with_dots x) (not (bytes_eq x (codes "_")) && (has_suffix x && not (is_base ns (front x)))) e).1
    where
      by_name : (c : Bool) → c ≡ true → (has_suffix x && not (is_base ns (front x))) ≡ false → wilds (if c then by_base ns pos x (base ns x) else wild) ≡ 0
      by_name true f g = name-no_wild pos x (base ns x) (base-no_wild x) g
      by_name false f g = absurd cc

      by_tests : (b c : Bool) → (c ≡ false → is_name x ≡ true) → (not b && (has_suffix x && not (is_base ns (front x)))) ≡ false → wilds (if b then wild else if c then hole else if is_name x then by_base ns pos x (base ns x) else wild) ≡ (if b then 1 else 0)
      by_tests true c n f = refl
      by_tests false true n f = refl
      by_tests false false n f = by_name (is_name x) (n refl) f

  -- ---- lists

  -- nothing more
  plus-zero : (n : ℕ) → n + 0 ≡ n
  plus-zero n = omega arith

  zero-plus : (n : ℕ) → 0 + n ≡ n
  zero-plus n = omega arith

  -- those of two lists
  underscores-append : (os qs : List Occurrence) → underscores (os ++ qs) ≡ underscores os + underscores qs
  underscores-append [] qs = sym (zero-plus (underscores qs))
  underscores-append (o ∷ os) qs = let e = underscores-append os qs in omega (arith, e)

  -- a keyword is none
  mutual
    keys-underscores : (d : Sexp) → underscores (keys d) ≡ 0
    keys-underscores (leaf (integer z) s) = refl
    keys-underscores (leaf (truth b) s) = refl
    keys-underscores (leaf (text t) s) = refl
    keys-underscores (leaf (symbol x) s) = refl
    keys-underscores (leaf (keyword k) s) = refl
    keys-underscores (list ds s) = keys_in-underscores ds

    keys_in-underscores : (ds : Sexps) → underscores (keys_in ds) ≡ 0
    keys_in-underscores nil = refl
    keys_in-underscores (cons d ds) = underscores-append (keys d) (keys_in ds) ∙ (λ i. keys-underscores d i + keys_in-underscores ds i)

  -- nor is a list `(cross e)`, or one that would ask Racket
  head-underscores : (h : Head) (whole : Sexp) (os : List Occurrence) → underscores os ≡ underscores (head_occurrences h whole ++ os)
  head-underscores naming whole os = refl
  head-underscores avoiding whole os = refl
  head-underscores prefixing whole os = refl
  head-underscores splitting whole os = refl
  head-underscores hiding whole os = refl
  head-underscores crossing whole os = sym (zero-plus (underscores os))
  head-underscores escaping whole os = sym (zero-plus (underscores os))
  head-underscores plain whole os = refl

  -- those of an item, by itself or repeated
  item-wilds : (e : Option (Option (List ℕ))) (p : Pattern) (ps : Items) → item_wilds (with_item (item_slot e p) ps) ≡ wilds p + item_wilds ps
  item-wilds None p ps = refl
  item-wilds (Some n) p ps = refl

  -- those of an item in a role, and of those behind it
  role-wilds : (n : ℕ) (o : Option Role) (e : Option (Option (List ℕ))) (d : Sexp) (p : Pattern) (ps : Items) (os : List Occurrence) → (o ≡ Some pattern → wilds p ≡ underscores os) → item_wilds (role_items o e p ps) ≡ underscores (role_occurrences n o d os) + item_wilds ps
  role-wilds n None e d p ps os f = sym (zero-plus (item_wilds ps))
  role-wilds n (Some word) e d p ps os f = sym (zero-plus (item_wilds ps))
  role-wilds n (Some bound) e d p ps os f = sym (zero-plus (item_wilds ps))
  role-wilds n (Some spelt) e d p ps os f = sym (zero-plus (item_wilds ps))
  role-wilds n (Some pattern) e d p ps os f = item-wilds e p ps ∙ ap (λ (k : ℕ). k + item_wilds ps) (f refl)
  role-wilds n (Some ellipsis) e d p ps os f = sym (zero-plus (item_wilds ps))
  role-wilds n (Some unread) e d p ps os f = let k = keys-underscores d in omega (arith, k)

  -- an item that is a pattern passes the checks, where all that stands in items does
  abbrev Passes : List Occurrence → Type 0
  Passes os = (keyword_faults os ≡ []) × ((bad_binders os ≡ []) × ((bad_occurrences ns os ≡ []) × (escapes os ≡ [])))

  passes-both : (os qs : List Occurrence) → Passes (os ++ qs) → Passes os × Passes qs
  passes-both os qs h =
      let k = none_both (keyword_faults os) (keyword_faults qs) (sym (flat_map-append keyword_fault os qs) ∙ h.0) in
      let n = none_both (bad_binders os) (bad_binders qs) (sym (flat_map-append bad_binder os qs) ∙ h.1.0) in
      let b = none_both (bad_occurrences ns os) (bad_occurrences ns qs) (sym (flat_map-append (bad_occurrence ns) os qs) ∙ h.1.1.0) in
      let e = none_both (escapes os) (escapes qs) (sym (flat_map-append escape_in os qs) ∙ h.1.1.1) in
      ((k.0, (n.0, (b.0, e.0))), (k.1, (n.1, (b.1, e.1))))

  passes-role : (n : ℕ) (o : Option Role) (d : Sexp) (os : List Occurrence) → Passes (role_occurrences n o d os) → o ≡ Some pattern → Passes os
  passes-role n None d os h e = absurd cc
  passes-role n (Some word) d os h e = absurd cc
  passes-role n (Some bound) d os h e = absurd cc
  passes-role n (Some spelt) d os h e = absurd cc
  passes-role n (Some pattern) d os h e = h
  passes-role n (Some ellipsis) d os h e = absurd cc
  passes-role n (Some unread) d os h e = absurd cc

  -- a list that may have its shape
  shaped-wilds : (b : Bool) (whole : Sexp) (ds : Sexps) (p : Pattern) (os : List Occurrence) → Passes (if b then os else malformed whole ∷ keys_in ds) → (b ≡ true → Passes os → wilds p ≡ underscores os) → wilds (if b then p else wild) ≡ underscores (if b then os else malformed whole ∷ keys_in ds)
  shaped-wilds true whole ds p os h f = f refl h
  shaped-wilds false whole ds p os h f = let k = h.1.1.0 in absurd cc

  -- symbols that stand for symbols are no items
  spelt-wilds : (ds : Sexps) → item_wilds (items_among ns pos (every spelt) ds) ≡ 0
  spelt-wilds nil = refl
  spelt-wilds (cons d ds) = spelt-wilds ds

  -- what is bound to one name
  bound-wilds : (xs : List (List ℕ)) (x : List ℕ) (p : Pattern) → xs ≡ x ∷ [] → wilds (bound_to (only (xs ++ [])) (Some p)) ≡ wilds p
  bound-wilds xs x p e = ap (λ (ys : List (List ℕ)). wilds (bound_to (only (ys ++ [])) (Some p))) e

  -- what begins with one name
  prefixed-wilds : (xs : List (List ℕ)) (x : List ℕ) → xs ≡ x ∷ [] → wilds (prefixed (only (xs ++ []))) ≡ 0
  prefixed-wilds xs x e = ap (λ (ys : List (List ℕ)). wilds (prefixed (only (ys ++ [])))) e

  -- contexts from one nonterminal to itself
  across-wilds : (xs : List (List ℕ)) (x : List ℕ) → xs ≡ x ∷ [] → wilds (across_itself (only (xs ++ []))) ≡ 0
  across-wilds xs x e = ap (λ (ys : List (List ℕ)). wilds (across_itself (only (ys ++ [])))) e

  -- a list with its shape has those of its items, by its head
  list-wilds : (n : ℕ) (h : Head) (whole : Sexp) (ds : Sexps) → escapes (head_occurrences h whole) ≡ [] → AreSpelled ds → fits (roles_of h) ds ≡ true → bad_binders (occurrences_among n (roles_of h) ds) ≡ [] → wilds (assembled h (names_among (roles_of h) ds) (items_among ns pos (roles_of h) ds)) ≡ item_wilds (items_among ns pos (roles_of h) ds)
  list-wilds n naming whole nil e h f p = absurd cc
  list-wilds n naming whole (cons w nil) e h f p = second-false (is_symbol w) _ f
  list-wilds n naming whole (cons w (cons x nil)) e h f p = second-false (is_symbol x) _ (and_true (is_symbol w) (is_symbol x && false) f).1
  list-wilds n naming whole (cons w (cons x (cons d nil))) e h f p =
      let g = and_true (is_symbol x) true (and_true (is_symbol w) (is_symbol x && true) f).1 in
      let b = none_first (is_bad_bound (text_of x)) x (bad_binders (occurrences n d ++ [])) p in
      bound-wilds (name_in x) (text_of x) (reading ns pos d) (named-once x (bound-name x g.0 h.1.0 b.0)) ∙ sym (plus-zero (wilds (reading ns pos d)))
  list-wilds n naming whole (cons w (cons x (cons d (cons c ds)))) e h f p = second-false (is_symbol x) _ (and_true (is_symbol w) (is_symbol x && false) f).1
  list-wilds n avoiding whole nil e h f p = refl
  list-wilds n avoiding whole (cons w ds) e h f p = sym (spelt-wilds ds)
  list-wilds n prefixing whole nil e h f p = absurd cc
  list-wilds n prefixing whole (cons w nil) e h f p = second-false (is_symbol w) _ f
  list-wilds n prefixing whole (cons w (cons x nil)) e h f p =
      let b = is_symbol x && not (is_word (codes "hole") x) in
      let g = and_true b true (and_true (is_symbol w) (b && true) f).1 in
      prefixed-wilds (name_in x) (text_of x) (named-once x (spelt-name x g.0 h.1.0))
  list-wilds n prefixing whole (cons w (cons x (cons d ds))) e h f p =
      let b = is_symbol x && not (is_word (codes "hole") x) in
      second-false b _ (and_true (is_symbol w) (b && false) f).1
  list-wilds n splitting whole nil e h f p = absurd cc
  list-wilds n splitting whole (cons w nil) e h f p = second-false (is_symbol w) _ f
  list-wilds n splitting whole (cons w (cons d nil)) e h f p = second-false (is_symbol w) _ f
  list-wilds n splitting whole (cons w (cons d (cons c nil))) e h f p =
      ap (λ (k : ℕ). wilds (reading ns pos d) + k) (sym (plus-zero (wilds (reading ns pos c))))
  list-wilds n splitting whole (cons w (cons d (cons c (cons b ds)))) e h f p = second-false (is_symbol w) _ f
  list-wilds n hiding whole nil e h f p = absurd cc
  list-wilds n hiding whole (cons w nil) e h f p = second-false (is_symbol w) _ f
  list-wilds n hiding whole (cons w (cons d nil)) e h f p = sym (plus-zero (wilds (reading ns pos d)))
  list-wilds n hiding whole (cons w (cons d (cons c ds))) e h f p = second-false (is_symbol w) _ f
  list-wilds n crossing whole nil e h f p = absurd cc
  list-wilds n crossing whole (cons w nil) e h f p = second-false (is_symbol w) _ f
  list-wilds n crossing whole (cons w (cons x nil)) e h f p =
      let b = is_symbol x && not (is_word (codes "hole") x) in
      let g = and_true b true (and_true (is_symbol w) (b && true) f).1 in
      across-wilds (name_in x) (text_of x) (named-once x (spelt-name x g.0 h.1.0))
  list-wilds n crossing whole (cons w (cons x (cons d ds))) e h f p =
      let b = is_symbol x && not (is_word (codes "hole") x) in
      second-false b _ (and_true (is_symbol w) (b && false) f).1
  list-wilds n escaping whole ds e h f p = absurd cc
  list-wilds n plain whole ds e h f p = refl

  mutual
    -- a datum around which n repetitions stand
    wilds-of : (n : ℕ) (d : Sexp) → IsSpelledSexp d → Passes (occurrences n d) → wilds (reading ns pos d) ≡ underscores (occurrences n d)
    wilds-of n (leaf (integer z) s) h p = refl
    wilds-of n (leaf (truth b) s) h p = refl
    wilds-of n (leaf (text t) s) h p = refl
    wilds-of n (leaf (symbol x) s) h p =
        symbol-wilds x h (none_first (is_bad_symbol ns x) (leaf (symbol x) s) [] p.1.1.0).0 ∙ sym (plus-zero (if bytes_eq x (codes "_") then 1 else 0))
    wilds-of n (leaf (keyword k) s) h p = let q = p.0 in absurd cc
    wilds-of n (list ds s) h p =
        let k = head_among ds in
        let whole = list ds s in
        let os = occurrences_among n (roles_of k) ds in
        shaped-wilds (is_shaped ds) whole ds (assembled k (names_among (roles_of k) ds) (items_among ns pos (roles_of k) ds)) (head_occurrences k whole ++ os) p
        (λ f q.
        let r = passes-both (head_occurrences k whole) os q in
        list-wilds n k whole ds r.0.1.1.1 h f r.1.1.0 ∙ items-wilds n (roles_of k) ds h r.1 ∙ head-underscores k whole os)

    -- items in these roles
    items-wilds : (n : ℕ) (rs : Roles) (ds : Sexps) → AreSpelled ds → Passes (occurrences_among n rs ds) → item_wilds (items_among ns pos rs ds) ≡ underscores (occurrences_among n rs ds)
    items-wilds n rs nil h p = refl
    items-wilds n rs (cons d ds) h p =
        let m = deeper (is_repeated (rest rs d) ds) n in
        let os = role_occurrences n (next rs d) d (occurrences m d) in
        let k = passes-both os (occurrences_among n (rest rs d) ds) p in
        role-wilds n (next rs d) (ellipsis_behind (rest rs d) ds) d (reading ns pos d) (items_among ns pos (rest rs d) ds) (occurrences m d)
        (λ e. wilds-of m d h.0 (passes-role n (next rs d) d (occurrences m d) k.0 e))
        ∙ ap (λ (i : ℕ). underscores os + i) (items-wilds n (rest rs d) ds h.1 k.1)
        ∙ sym (underscores-append os (occurrences_among n (rest rs d) ds))

pub wilds_are_written : WildsAreWritten
wilds_are_written ns pos d h e =
    let os = occurrences 0 d in
    let k = none_or (keyword_at os) _ e in
    let l = none_or (bad_binder_at os) _ k.1 in
    let m = none_or (bad_occurrence_at ns os) _ l.1 in
    let keys = nothing (unnamed Shape) (keyword_faults os) k.0 in
    let binders = nothing (refusing.named BadName) (bad_binders os) l.0 in
    let others = nothing (unnamed BadPattern) (bad_occurrences ns os) m.0 in
    let c = none_or (depth_clash_at ns os) _ m.1 in
    let asking = nothing (unnamed RacketEscape) (escapes os) (none_or (escape_at os) None c.1).0 in
    wilds-of ns pos 0 d h (keys, (binders, (others, asking)))
