-- What is read names only nonterminals that there are: plain ones, and cross nonterminals from one of them to itself, which is an end.
use Rattle.std.proofs.Common.{◌≡◌, ℕ, Bool, true, false, List, [], ◌∷◌, ◌++◌, Option, Some, None, refl, sym, ◌∙◌, if◌then◌else◌}
use Rattle.std.specs.Prelude.{◌&&◌, not, bytes_eq, codes}
use Rattle.std.proofs.lemmas.Grind.{flat_map-append}
use Rattle.rdx_base.specs.declared.place.Span.{Span}
use Rattle.rdx_sexp.specs.Sexp.{Sexp, Sexps, leaf, list, nil, cons, Atom, integer, truth, text, symbol, keyword}
use Rattle.rdx_term.specs.Spelling.{is_name}
use Rattle.rdx_term.specs.Tree as tree
use Rattle.rdx_lang.proofs.MemberLaws.{append-left, append-right}
use Rattle.rdx_lang.specs.Members.{In, here}
use Rattle.rdx_lang.specs.Patterns.{Pattern, wild, hole, nt, lit, named, differ, Items}
use Rattle.rdx_lang.specs.Patterns as model
use Rattle.rdx_lang.specs.References.{is_among as is_defined_among}
use Rattle.rdx_lang.specs.WellFormed.{has_known_nonterminals, have_known_nonterminals}
use Rattle.rdx_lang.specs.declared.pattern.Kind.{Kind}
use Rattle.rdx_lang.specs.declared.pattern.Ref.{Ref}
use Rattle.rdx_lang.specs.declared.pattern.Ref.TheVariants.{Nt, Cross}
use Rattle.rdx_patterns.specs.Ends.{end_of, ends_in, ends_among}
use Rattle.rdx_patterns.specs.Heads.{Head, naming, avoiding, prefixing, splitting, hiding, crossing, escaping, plain, Role, word, bound, spelt, pattern, ellipsis, unread, Roles, roles_of, head_among, next, rest, is_repeated, fits, is_shaped}
use Rattle.rdx_patterns.specs.Kinds.{kind_of, is_among}
use Rattle.rdx_patterns.specs.Names.{has_suffix, front, is_mismatch}
use Rattle.rdx_patterns.specs.Occurrences.{Occurrence, across, malformed, keys_in, role_occurrences, deeper, head_occurrences, occurrences, occurrences_among}
use Rattle.rdx_patterns.specs.Parts.{text_of, is_symbol, is_word}
use Rattle.rdx_patterns.specs.PatternChecks.{when, bad_occurrence, bad_occurrences}
use Rattle.rdx_patterns.specs.Reading.{base, base_of, by_base, other_symbol, suffixed, symbol_reading, atom_reading, only, only_item, only_items, prefixed, bound_to, split_by, hidden, across_itself, names_among, ellipsis_behind, item_slot, with_item, role_items, assembled, reading, items_among}
use Rattle.rdx_patterns.specs.declared.patterns.position.Position.{Position}
use Rattle.rdx_patterns.specs.declared.patterns.position.Position.TheVariants.{Grammar, Query}
use Rattle.rdx_patterns.proofs.Booleans.{and_both, and_true, second-false}
use Rattle.rdx_patterns.proofs.Firsts.{none_both}

-- ---- lists headed by `cross`

-- the kind of a list, by the tests of its word in their order
abbrev chosen : Bool → Bool → Bool → Bool → Bool → Bool → Bool → Bool → Head
chosen a b c d e f g h =
    if a then naming else if b then avoiding else if c then prefixing else if d then splitting else if e then hiding else if f then crossing
    else if g then escaping else if h then escaping else plain

-- the word of such a list
crossing-word : (w : Sexp) (ds : Sexps) → head_among (cons w ds) ≡ crossing → is_word (codes "cross") w ≡ true
crossing-word (leaf (integer n) s) ds e = absurd cc
crossing-word (leaf (truth b) s) ds e = absurd cc
crossing-word (leaf (text t) s) ds e = absurd cc
crossing-word (leaf (keyword k) s) ds e = absurd cc
crossing-word (list es s) ds e = absurd cc
crossing-word (leaf (symbol x) s) ds e =
    by_tests (bytes_eq x (codes "name")) (bytes_eq x (codes "variable-except")) (bytes_eq x (codes "variable-prefix")) (bytes_eq x (codes "in-hole"))
    (bytes_eq x (codes "hide-hole")) (bytes_eq x (codes "cross")) (bytes_eq x (codes "unquote")) (bytes_eq x (codes "side-condition")) e
  where
    by_tests : (a b c d f g h i : Bool) → chosen a b c d f g h i ≡ crossing → g ≡ true
    by_tests true b c d f g h i k = absurd cc
    by_tests false true c d f g h i k = absurd cc
    by_tests false false true d f g h i k = absurd cc
    by_tests false false false true f g h i k = absurd cc
    by_tests false false false false true g h i k = absurd cc
    by_tests false false false false false true h i k = refl
    by_tests false false false false false false true i k = absurd cc
    by_tests false false false false false false false true k = absurd cc
    by_tests false false false false false false false false k = absurd cc

-- what is not refused for it is among these
among-unless : (b : Bool) (d : Sexp) → when (not b) d ++ [] ≡ [] → b ≡ true
among-unless true d e = refl
among-unless false d e = absurd cc

module _ (ns : List (List ℕ)) (pos : Position) (ys : List Ref) (Ends : List ℕ → Type 0)
    (plain_there : (x : List ℕ) → is_among ns x ≡ true → is_defined_among (Nt x) ys ≡ true)
    (cross_there : (x : List ℕ) → is_among ns x ≡ true → Ends x → is_defined_among (Cross x x) ys ≡ true) where
  -- the test of a pattern, and of items
  abbrev is_known : Pattern → Bool
  is_known = has_known_nonterminals ys

  abbrev are_known : Items → Bool
  are_known = have_known_nonterminals ys

  -- what is there passes
  abbrev Passes : Option Pattern → Type 0
  Passes None = Unit {0}
  Passes (Some p) = is_known p ≡ true

  -- a nonterminal
  nonterminal_passes : (x : List ℕ) → Passes (if is_among ns x then Some (nt (Nt x)) else None)
  nonterminal_passes x = by_test (is_among ns x) (plain_there x)
    where
      by_test : (b : Bool) → (b ≡ true → is_known (nt (Nt x)) ≡ true) → Passes (if b then Some (nt (Nt x)) else None)
      by_test true f = f refl
      by_test false f = tt

  -- a built-in name or a nonterminal
  base_passes : (x : List ℕ) → Passes (base ns x)
  base_passes x = by_kind (kind_of x)
    where
      by_kind : (k : Option Kind) → Passes (base_of ns x k)
      by_kind (Some k) = refl
      by_kind None = nonterminal_passes x

  -- ---- symbols

  -- one with a suffix
  suffixed_known : (x : List ℕ) (o : Option Pattern) → Passes o → is_known (suffixed x o) ≡ true
  suffixed_known x None h = refl
  suffixed_known x (Some p) h = by_test (is_mismatch x)
    where
      by_test : (b : Bool) → is_known (if b then differ x p else named x p) ≡ true
      by_test true = h
      by_test false = h

  -- one that is neither a built-in name nor a nonterminal
  other_known : (x : List ℕ) → is_known (other_symbol ns x) ≡ true
  other_known x = by_test (has_suffix x)
    where
      by_test : (b : Bool) → is_known (if b then suffixed x (base ns (front x)) else lit (tree.symbol x)) ≡ true
      by_test true = suffixed_known x (base ns (front x)) (base_passes (front x))
      by_test false = refl

  -- one that may be
  by_base_known : (p : Position) (x : List ℕ) (o : Option Pattern) → Passes o → is_known (by_base ns p x o) ≡ true
  by_base_known p x None h = other_known x
  by_base_known Grammar x (Some q) h = h
  by_base_known Query x (Some q) h = h

  -- one that is a name
  name_known : (x : List ℕ) → is_known (if is_name x then by_base ns pos x (base ns x) else wild) ≡ true
  name_known x = by_test (is_name x)
    where
      by_test : (b : Bool) → is_known (if b then by_base ns pos x (base ns x) else wild) ≡ true
      by_test true = by_base_known pos x (base ns x) (base_passes x)
      by_test false = refl

  -- each symbol
  symbol_known : (x : List ℕ) → is_known (symbol_reading ns pos x) ≡ true
  symbol_known x = by_tests (bytes_eq x (codes "_")) (bytes_eq x (codes "hole"))
    where
      by_tests : (b c : Bool) → is_known (if b then wild else if c then hole else if is_name x then by_base ns pos x (base ns x) else wild) ≡ true
      by_tests true c = refl
      by_tests false true = refl
      by_tests false false = name_known x

  -- ---- data

  -- an atom
  atom_known : (a : Atom) → is_known (atom_reading ns pos a) ≡ true
  atom_known (integer n) = refl
  atom_known (truth b) = refl
  atom_known (text t) = refl
  atom_known (symbol x) = symbol_known x
  atom_known (keyword k) = refl

  -- one item, in front of others
  item_known : (e : Option (Option (List ℕ))) (p : Pattern) (ps : Items) → is_known p ≡ true → are_known ps ≡ true → are_known (with_item (item_slot e p) ps) ≡ true
  item_known None p ps h k = and_both (is_known p) (are_known ps) h k
  item_known (Some n) p ps h k = and_both (is_known p) (are_known ps) h k

  -- one in a role, where it is a pattern that no check refuses
  role_known : (n : ℕ) (o : Option Role) (e : Option (Option (List ℕ))) (d : Sexp) (p : Pattern) (ps : Items) (os : List Occurrence)
      → (bad_occurrences ns os ≡ [] → is_known p ≡ true) → bad_occurrences ns (role_occurrences n o d os) ≡ [] → are_known ps ≡ true
      → are_known (role_items o e p ps) ≡ true
  role_known n None e d p ps os f h k = k
  role_known n (Some word) e d p ps os f h k = k
  role_known n (Some bound) e d p ps os f h k = k
  role_known n (Some spelt) e d p ps os f h k = k
  role_known n (Some pattern) e d p ps os f h k = item_known e p ps (f h) k
  role_known n (Some ellipsis) e d p ps os f h k = k
  role_known n (Some unread) e d p ps os f h k = k

  -- what is bound to a name
  bound_known : (o : Option (List ℕ)) (ps : Items) → are_known ps ≡ true → is_known (bound_to o (only_item ps)) ≡ true
  bound_known None ps h = refl
  bound_known (Some x) model.nil h = refl
  bound_known (Some x) (model.one p model.nil) h = (and_true (is_known p) true h).0
  bound_known (Some x) (model.one p (model.one q ps)) h = refl
  bound_known (Some x) (model.one p (model.many q n ps)) h = refl
  bound_known (Some x) (model.many p n ps) h = refl

  -- what begins with a name
  prefixed_known : (o : Option (List ℕ)) → is_known (prefixed o) ≡ true
  prefixed_known None = refl
  prefixed_known (Some x) = refl

  -- contexts with what stands in their hole
  split_known : (ps : Items) → are_known ps ≡ true → is_known (split_by (only_items ps)) ≡ true
  split_known model.nil h = refl
  split_known (model.one p model.nil) h = refl
  split_known (model.one p (model.one q model.nil)) h =
      let k = and_true (is_known p) (is_known q && true) h in
      and_both (is_known p) (is_known q) k.0 (and_true (is_known q) true k.1).0
  split_known (model.one p (model.one q (model.one r ps))) h = refl
  split_known (model.one p (model.one q (model.many r n ps))) h = refl
  split_known (model.one p (model.many q n ps)) h = refl
  split_known (model.many p n ps) h = refl

  -- a pattern whose contexts are hidden
  hidden_known : (ps : Items) → are_known ps ≡ true → is_known (hidden (only_item ps)) ≡ true
  hidden_known model.nil h = refl
  hidden_known (model.one p model.nil) h = (and_true (is_known p) true h).0
  hidden_known (model.one p (model.one q ps)) h = refl
  hidden_known (model.one p (model.many q n ps)) h = refl
  hidden_known (model.many p n ps) h = refl

  -- a list `(cross e)` of an end
  across_known : (s : Span) (ds : Sexps) → head_among ds ≡ crossing → fits (roles_of crossing) ds ≡ true → bad_occurrences ns (across (list ds s) ∷ []) ≡ []
      → ((x : List ℕ) → In x (end_of ds) → Ends x) → is_known (across_itself (only (names_among (roles_of crossing) ds))) ≡ true
  across_known s nil k f h ends = absurd cc
  across_known s (cons w nil) k f h ends = second-false (is_symbol w) _ f
  across_known s (cons w (cons e nil)) k f h ends =
      by_name (is_name (text_of e)) (is_word (codes "cross") w) (crossing-word w (cons e nil) k) ends
    where
      by_name : (b c : Bool) → c ≡ true
          → ((x : List ℕ) → In x (let xs : List (List ℕ) = if c then (if b then text_of e ∷ [] else []) else [] in xs) → Ends x)
          → is_known (across_itself (only ((if b then text_of e ∷ [] else []) ++ []))) ≡ true
      by_name true true g i = cross_there (text_of e) (among-unless (is_among ns (text_of e)) (list (cons w (cons e nil)) s) h) (i (text_of e) (here refl))
      by_name true false g i = absurd cc
      by_name false c g i = refl
  across_known s (cons w (cons e (cons d ds))) k f h ends =
      let b = is_symbol e && not (is_word (codes "hole") e) in
      second-false b _ (and_true (is_symbol w) (b && false) f).1

  -- a list with its shape, of such items
  list_known : (h : Head) (s : Span) (ds : Sexps) (ps : Items) → head_among ds ≡ h → fits (roles_of h) ds ≡ true
      → bad_occurrences ns (head_occurrences h (list ds s)) ≡ [] → ((x : List ℕ) → In x (end_of ds) → Ends x) → are_known ps ≡ true
      → is_known (assembled h (names_among (roles_of h) ds) ps) ≡ true
  list_known naming s ds ps k f h i e = bound_known (only (names_among (roles_of naming) ds)) ps e
  list_known avoiding s ds ps k f h i e = refl
  list_known prefixing s ds ps k f h i e = prefixed_known (only (names_among (roles_of prefixing) ds))
  list_known splitting s ds ps k f h i e = split_known ps e
  list_known hiding s ds ps k f h i e = hidden_known ps e
  list_known crossing s ds ps k f h i e = across_known s ds k f h i
  list_known escaping s ds ps k f h i e = refl
  list_known plain s ds ps k f h i e = e

  -- what stands in two parts
  not-bad : (os qs : List Occurrence) → bad_occurrences ns (os ++ qs) ≡ [] → (bad_occurrences ns os ≡ []) × (bad_occurrences ns qs ≡ [])
  not-bad os qs h = none_both (bad_occurrences ns os) (bad_occurrences ns qs) (sym (flat_map-append (bad_occurrence ns) os qs) ∙ h)

  mutual
    -- a datum around which n repetitions stand, of which no check refuses a pattern and whose ends are such
    pub reading_known : (n : ℕ) (d : Sexp) → ((x : List ℕ) → In x (ends_in d) → Ends x) → bad_occurrences ns (occurrences n d) ≡ []
        → has_known_nonterminals ys (reading ns pos d) ≡ true
    reading_known n (leaf a s) i h = atom_known a
    reading_known n (list ds s) i h =
        by_shape (is_shaped ds) refl h (λ g. items_known n (roles_of (head_among ds)) ds (λ x j. i x (append-right (end_of ds) (ends_among ds) x j)) g)
      where
        by_shape : (b : Bool) → is_shaped ds ≡ b
            → bad_occurrences ns (if b then head_occurrences (head_among ds) (list ds s) ++ occurrences_among n (roles_of (head_among ds)) ds else malformed (list ds s) ∷ keys_in ds) ≡ []
            → (bad_occurrences ns (occurrences_among n (roles_of (head_among ds)) ds) ≡ [] → are_known (items_among ns pos (roles_of (head_among ds)) ds) ≡ true)
            → is_known (if b then assembled (head_among ds) (names_among (roles_of (head_among ds)) ds) (items_among ns pos (roles_of (head_among ds)) ds) else wild) ≡ true
        by_shape true f g k =
            let l = not-bad (head_occurrences (head_among ds) (list ds s)) (occurrences_among n (roles_of (head_among ds)) ds) g in
            list_known (head_among ds) s ds (items_among ns pos (roles_of (head_among ds)) ds) refl f l.0
            (λ x j. i x (append-left (end_of ds) (ends_among ds) x j)) (k l.1)
        by_shape false f g k = refl

    -- items in these roles
    pub items_known : (n : ℕ) (rs : Roles) (ds : Sexps) → ((x : List ℕ) → In x (ends_among ds) → Ends x)
        → bad_occurrences ns (occurrences_among n rs ds) ≡ [] → have_known_nonterminals ys (items_among ns pos rs ds) ≡ true
    items_known n rs nil i h = refl
    items_known n rs (cons d ds) i h =
        let os = occurrences (deeper (is_repeated (rest rs d) ds) n) d in
        let k = not-bad (role_occurrences n (next rs d) d os) (occurrences_among n (rest rs d) ds) h in
        role_known n (next rs d) (ellipsis_behind (rest rs d) ds) d (reading ns pos d) (items_among ns pos (rest rs d) ds) os
        (λ g. reading_known (deeper (is_repeated (rest rs d) ds) n) d (λ x j. i x (append-left (ends_in d) (ends_among ds) x j)) g) k.0
        (items_known n (rest rs d) ds (λ x j. i x (append-right (ends_in d) (ends_among ds) x j)) k.1)
