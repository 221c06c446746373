-- What a reading binds, and around how many repetitions: what its datum does.
use Rattle.std.proofs.Common.{◌≡◌, ◌++◌, ℕ, suc, Bool, true, false, List, [], ◌∷◌, Option, Some, None, map, refl, sym, ap, ◌∙◌, subst, if◌then◌else◌}
use Rattle.std.specs.Prelude.{◌&&◌, ◌||◌, not, is_some, bytes_eq, codes}
use Rattle.std.specs.Bool.{then_some}
use Rattle.std.proofs.lemmas.Grind.{flat_map-append}
use Rattle.std.proofs.lemmas.List.{append_assoc, append-nil, map-append}
use Rattle.rdx_sexp.specs.Sexp.{Sexp, Sexps, leaf, list, nil, cons, integer, truth, text, symbol, keyword}
use Rattle.rdx_term.specs.Spelling.{is_name}
use Rattle.rdx_term.specs.Tree as tree
use Rattle.rdx_lang.specs.Depths.{Use, length_use, uses, item_uses, closed_parts_fit, closed_items_fit}
use Rattle.rdx_lang.specs.Patterns.{Pattern, wild, hole, lit, nt, named, differ, in_hole, Items}
use Rattle.rdx_lang.specs.declared.pattern.Kind.{Kind}
use Rattle.rdx_lang.specs.declared.pattern.Ref.TheVariants.{Nt}
use Rattle.rdx_patterns.specs.Heads.{Head, naming, avoiding, prefixing, splitting, hiding, crossing, escaping, plain, Role, word, bound, spelt, pattern, ellipsis, unread, Roles, every, patterns, repeatable, roles_of, head_among, is_ellipsis_symbol, next, is_of_ellipsis, is_repeated, fits, is_shaped}
use Rattle.rdx_patterns.specs.Kinds.{kind_of, is_among, is_base}
use Rattle.rdx_patterns.specs.Names.{begins_with_dots, has_suffix, front, is_mismatch}
use Rattle.rdx_patterns.specs.Occurrences.{Occurrence, malformed, keys, keys_in, role_occurrences, deeper, head_occurrences, occurrences, occurrences_among}
use Rattle.rdx_patterns.specs.Parts.{text_of, is_symbol, is_word}
use Rattle.rdx_patterns.specs.PatternChecks.{Bound, binds_itself, binds, bound_when, bound_by, all_bound}
use Rattle.rdx_patterns.specs.Reading.{base, base_of, suffixed, other_symbol, by_base, symbol_reading, name_in, length_name, ellipsis_in, ellipsis_behind, role_items, only, bound_to, prefixed, across_itself, names_among, assembled, reading, items_among}
use Rattle.rdx_patterns.specs.declared.patterns.position.Position.{Position}
use Rattle.rdx_patterns.specs.declared.patterns.position.Position.TheVariants.{Grammar, Query}
use Rattle.rdx_patterns.proofs.Booleans.{and_true, and_both, second-false}
use Rattle.rdx_patterns.proofs.RoleItems.{named-once}
use Rattle.rdx_patterns.proofs.PassedPatterns.{ArePassed, ArePassed-both}

-- a symbol that binds a name, as the use that a pattern makes of it: what begins with dots is a length name
abbrev pub bound_use : Bound → Use
bound_use b = record { name = text_of b.symbol; depth = b.depth; is_length = begins_with_dots (text_of b.symbol) }

-- ---- patterns and what they bind

-- around n repetitions the pattern makes these uses, and no pattern in it is closed
abbrev Makes : ℕ → Pattern → List Bound → Type 0
Makes n p bs = (uses n p ≡ map bound_use bs) × (closed_parts_fit p ≡ true)

-- the items do, behind the length name of the ellipsis with which they begin
abbrev leading : ℕ → Option (Option (List ℕ)) → List Use
leading n None = []
leading n (Some x) = length_use n x

abbrev Make : ℕ → Option (Option (List ℕ)) → Items → List Bound → Type 0
Make n e ps bs = (leading n e ++ item_uses n ps ≡ map bound_use bs) × (closed_items_fit ps ≡ true)

-- what two lists bind
both-bind : (us vs : List Use) (bs cs : List Bound) → us ≡ map bound_use bs → vs ≡ map bound_use cs → us ++ vs ≡ map bound_use (bs ++ cs)
both-bind us vs bs cs e f = (λ i. e i ++ f i) ∙ sym (map-append bound_use bs cs)

-- an item in front of others, repeated by the ellipsis behind it or not
item-makes : (n : ℕ) (e : Option (Option (List ℕ))) (p : Pattern) (ps : Items) (bs cs : List Bound) → Makes (deeper (is_some e) n) p bs
    → Make n e ps cs → Make n None (role_items (Some pattern) e p ps) (bs ++ cs)
item-makes n None p ps bs cs h k = (both-bind (uses n p) (item_uses n ps) bs cs h.0 k.0, and_both (closed_parts_fit p) (closed_items_fit ps) h.1 k.1)
item-makes n (Some x) p ps bs cs h k =
    (append_assoc (uses (suc n) p) (length_use n x) (item_uses n ps) ∙ both-bind (uses (suc n) p) (length_use n x ++ item_uses n ps) bs cs h.0 k.0, and_both (closed_parts_fit p) (closed_items_fit ps) h.1 k.1)

-- a pattern bound to the name of a symbol, which does not begin with dots
named-makes : (n : ℕ) (d : Sexp) (p : Pattern) (bs : List Bound) → begins_with_dots (text_of d) ≡ false → Makes n p bs
    → Makes n (named (text_of d) p) (record { symbol = d; depth = n } ∷ bs)
named-makes n d p bs e h = ((λ i. record { name = text_of d; depth = n; is_length = sym e i } ∷ h.0 i), h.1)

-- the length name of an ellipsis
length-makes : (n : ℕ) (d : Sexp) → is_symbol d ≡ true → is_name (text_of d) ≡ true → begins_with_dots (text_of d) ≡ true
    → length_use n (length_name (text_of d)) ≡ map bound_use (bound_when (not (is_word (codes "...") d)) n d)
length-makes n (leaf (symbol x) s) e f g = by_test (bytes_eq x (codes "..."))
  where
    by_name : (b : Bool) → b ≡ true → length_use n (then_some b x) ≡ record { name = x; depth = n; is_length = begins_with_dots x } ∷ []
    by_name true h = λ i. record { name = x; depth = n; is_length = sym g i } ∷ []
    by_name false h = absurd cc

    by_test : (b : Bool)
        → length_use n (if b then None else then_some (is_name x) x) ≡ map bound_use (bound_when (not b) n (leaf (symbol x) s))
    by_test true = refl
    by_test false = by_name (is_name x) f
length-makes n (leaf (integer z) s) e f g = absurd cc
length-makes n (leaf (truth b) s) e f g = absurd cc
length-makes n (leaf (text t) s) e f g = absurd cc
length-makes n (leaf (keyword k) s) e f g = absurd cc
length-makes n (list ds s) e f g = absurd cc

module _ (ns : List (List ℕ)) where
  -- ---- symbols

  -- a built-in name or a nonterminal binds nothing by itself
  abbrev BindsNothing : Option Pattern → Type 0
  BindsNothing None = Unit {0}
  BindsNothing (Some p) = (n : ℕ) → Makes n p []

  base-nothing : (x : List ℕ) → BindsNothing (base ns x)
  base-nothing x = by_kind (kind_of x)
    where
      by_test : (b : Bool) → BindsNothing (if b then Some (nt (Nt x)) else None)
      by_test true = λ n. (refl, refl)
      by_test false = tt

      by_kind : (k : Option Kind) → BindsNothing (base_of ns x k)
      by_kind (Some k) = λ n. (refl, refl)
      by_kind None = by_test (is_among ns x)

  -- there is one where the name is one
  base-there : (x : List ℕ) → is_some (base ns x) ≡ is_base ns x
  base-there x = by_kind (kind_of x)
    where
      by_test : (b : Bool) → is_some (let o : Option Pattern = if b then Some (nt (Nt x)) else None in o) ≡ b
      by_test true = refl
      by_test false = refl

      by_kind : (k : Option Kind) → is_some (base_of ns x k) ≡ (is_some k || is_among ns x)
      by_kind (Some k) = refl
      by_kind None = by_test (is_among ns x)

  module _ (n : ℕ) (d : Sexp) (dots : begins_with_dots (text_of d) ≡ false) where
    -- the symbol itself, where it binds
    abbrev here_if : Bool → List Bound
    here_if b = bound_when b n d ++ []

    -- a symbol with a suffix, by what stands before it, where that is something: a mismatch name binds nothing
    suffixed-makes : (o : Option Pattern) → BindsNothing o → Makes n (suffixed (text_of d) o) (here_if (is_some o && not (is_mismatch (text_of d))))
    suffixed-makes None h = (refl, refl)
    suffixed-makes (Some p) h = by_test (is_mismatch (text_of d))
      where
        by_test : (b : Bool) → Makes n (if b then differ (text_of d) p else named (text_of d) p) (here_if (not b))
        by_test true = h n
        by_test false = named-makes n d p [] dots (h n)

    -- a symbol that is neither a built-in name nor a nonterminal
    other-makes : Makes n (other_symbol ns (text_of d)) (here_if (has_suffix (text_of d) && (is_base ns (front (text_of d)) && not (is_mismatch (text_of d)))))
    other-makes =
        subst (λ (c : Bool). Makes n (other_symbol ns (text_of d)) (here_if (has_suffix (text_of d) && (c && not (is_mismatch (text_of d)))))) (base-there (front (text_of d))) (by_test (has_suffix (text_of d)))
      where
        by_test : (b : Bool)
            → Makes n (if b then suffixed (text_of d) (base ns (front (text_of d))) else lit (tree.symbol (text_of d))) (here_if (b && (is_some (base ns (front (text_of d))) && not (is_mismatch (text_of d)))))
        by_test true = suffixed-makes (base ns (front (text_of d))) (base-nothing (front (text_of d)))
        by_test false = (refl, refl)

    -- one that may be
    name-makes : (pos : Position) (o : Option Pattern) → BindsNothing o
        → Makes n (by_base ns pos (text_of d) o) (here_if (if is_some o then binds_itself pos else (has_suffix (text_of d) && (is_base ns (front (text_of d)) && not (is_mismatch (text_of d))))))
    name-makes pos None h = other-makes
    name-makes Grammar (Some p) h = h n
    name-makes Query (Some p) h = named-makes n d p [] dots (h n)

    -- each symbol
    symbol-makes : (pos : Position) → (bytes_eq (text_of d) (codes "hole") ≡ false → is_name (text_of d) ≡ true)
        → Makes n (symbol_reading ns pos (text_of d)) (here_if (binds ns pos (text_of d)))
    symbol-makes pos h =
        subst (λ (c : Bool). Makes n (symbol_reading ns pos (text_of d)) (here_if (not (bytes_eq (text_of d) (codes "_") || bytes_eq (text_of d) (codes "hole")) && (if c then binds_itself pos else (has_suffix (text_of d) && (is_base ns (front (text_of d)) && not (is_mismatch (text_of d))))))))
        (base-there (text_of d)) (by_tests (bytes_eq (text_of d) (codes "_")) (bytes_eq (text_of d) (codes "hole")) h)
      where
        by_name : (b : Bool) → b ≡ true
            → Makes n (if b then by_base ns pos (text_of d) (base ns (text_of d)) else wild) (here_if (if is_some (base ns (text_of d)) then binds_itself pos else (has_suffix (text_of d) && (is_base ns (front (text_of d)) && not (is_mismatch (text_of d))))))
        by_name true e = name-makes pos (base ns (text_of d)) (base-nothing (text_of d))
        by_name false e = absurd cc

        by_tests : (a b : Bool) → (b ≡ false → is_name (text_of d) ≡ true)
            → Makes n (if a then wild else if b then hole else if is_name (text_of d) then by_base ns pos (text_of d) (base ns (text_of d)) else wild) (here_if (not (a || b) && (if is_some (base ns (text_of d)) then binds_itself pos else (has_suffix (text_of d) && (is_base ns (front (text_of d)) && not (is_mismatch (text_of d)))))))
        by_tests true b f = (refl, refl)
        by_tests false true f = (refl, refl)
        by_tests false false f = by_name (is_name (text_of d)) (f refl)

  -- ---- lists

  module _ (pos : Position) where
    -- what these bind
    abbrev bind : List Occurrence → List Bound
    bind os = all_bound ns pos os

    -- what those of two lists do
    bind-append : (os qs : List Occurrence) → bind (os ++ qs) ≡ bind os ++ bind qs
    bind-append os qs = flat_map-append (bound_by ns pos) os qs

    -- a pattern makes the uses of its parts, with nothing behind them
    makes-alone : (n : ℕ) (p : Pattern) (os : List Occurrence) → Makes n p (bind os) → Makes n p (bind (os ++ []))
    makes-alone n p os h = subst (λ (qs : List Occurrence). Makes n p (bind qs)) (sym (append-nil os)) h

    -- symbols that stand for symbols bind nothing
    spelt-nothing : (n : ℕ) (ds : Sexps) → bind (occurrences_among n (every spelt) ds) ≡ []
    spelt-nothing n nil = refl
    spelt-nothing n (cons d ds) = spelt-nothing n ds

    -- nor do keywords
    mutual
      keys-nothing : (d : Sexp) → bind (keys d) ≡ []
      keys-nothing (leaf (integer z) s) = refl
      keys-nothing (leaf (truth b) s) = refl
      keys-nothing (leaf (text t) s) = refl
      keys-nothing (leaf (symbol x) s) = refl
      keys-nothing (leaf (keyword k) s) = refl
      keys-nothing (list ds s) = keys_in-nothing ds

      keys_in-nothing : (ds : Sexps) → bind (keys_in ds) ≡ []
      keys_in-nothing nil = refl
      keys_in-nothing (cons d ds) = bind-append (keys d) (keys_in ds) ∙ (λ i. keys-nothing d i ++ keys_in-nothing ds i)

    -- nor what is not read
    unread-nothing : (n : ℕ) (ds : Sexps) → bind (occurrences_among n (every unread) ds) ≡ []
    unread-nothing n nil = refl
    unread-nothing n (cons d ds) = bind-append (keys d) (occurrences_among n (every unread) ds) ∙ (λ i. keys-nothing d i ++ unread-nothing n ds i)

    -- the list itself, where its head is `cross` or would ask Racket, binds nothing and is passed
    head-makes : (n : ℕ) (h : Head) (whole : Sexp) (p : Pattern) (os : List Occurrence) → (ArePassed os → Makes n p (bind os))
        → ArePassed (head_occurrences h whole ++ os) → Makes n p (bind (head_occurrences h whole ++ os))
    head-makes n naming whole p os f h = f h
    head-makes n avoiding whole p os f h = f h
    head-makes n prefixing whole p os f h = f h
    head-makes n splitting whole p os f h = f h
    head-makes n hiding whole p os f h = f h
    head-makes n crossing whole p os f h = f h.1
    head-makes n escaping whole p os f h = f h.1
    head-makes n plain whole p os f h = f h

    -- an ellipsis behind an item is one in its role
    repeated-behind : (rs : Roles) (ds : Sexps) → is_repeated rs ds ≡ is_some (ellipsis_behind rs ds)
    repeated-behind rs nil = refl
    repeated-behind rs (cons d ds) = by_role (next rs d)
      where
        by_role : (o : Option Role) → is_of_ellipsis o ≡ is_some (ellipsis_in o d)
        by_role None = refl
        by_role (Some word) = refl
        by_role (Some bound) = refl
        by_role (Some spelt) = refl
        by_role (Some pattern) = refl
        by_role (Some ellipsis) = refl
        by_role (Some unread) = refl

    -- an item that is a pattern, in front of others in these roles
    pattern-step : (n : ℕ) (rs : Roles) (d : Sexp) (ds : Sexps)
        → ((k : ℕ) → ArePassed (occurrences k d) → Makes k (reading ns pos d) (bind (occurrences k d)))
        → (ArePassed (occurrences_among n rs ds) → Make n (ellipsis_behind rs ds) (items_among ns pos rs ds) (bind (occurrences_among n rs ds)))
        → ArePassed (occurrences (deeper (is_repeated rs ds) n) d ++ occurrences_among n rs ds)
        → Make n None (role_items (Some pattern) (ellipsis_behind rs ds) (reading ns pos d) (items_among ns pos rs ds)) (bind (occurrences (deeper (is_repeated rs ds) n) d ++ occurrences_among n rs ds))
    pattern-step n rs d ds f g h =
        let b = is_repeated rs ds in
        let k = ArePassed-both (occurrences (deeper b n) d) (occurrences_among n rs ds) h in
        let m : Makes (deeper (is_some (ellipsis_behind rs ds)) n) (reading ns pos d) (bind (occurrences (deeper b n) d)) =
        subst (λ (c : Bool). Makes (deeper c n) (reading ns pos d) (bind (occurrences (deeper b n) d))) (repeated-behind rs ds) (f (deeper b n) k.0) in
        subst (Make n None (role_items (Some pattern) (ellipsis_behind rs ds) (reading ns pos d) (items_among ns pos rs ds)))
        (sym (bind-append (occurrences (deeper b n) d) (occurrences_among n rs ds)))
        (item-makes n (ellipsis_behind rs ds) (reading ns pos d) (items_among ns pos rs ds) (bind (occurrences (deeper b n) d)) (bind (occurrences_among n rs ds)) m (g k.1))

    -- a list that may have its shape
    shaped-makes : (n : ℕ) (b : Bool) (whole : Sexp) (ds : Sexps) (p : Pattern) (os : List Occurrence)
        → (b ≡ true → ArePassed os → Makes n p (bind os)) → ArePassed (if b then os else malformed whole ∷ keys_in ds)
        → Makes n (if b then p else wild) (bind (if b then os else malformed whole ∷ keys_in ds))
    shaped-makes n true whole ds p os f h = f refl h
    shaped-makes n false whole ds p os f h = absurd h.0

    -- the role of an item behind a pattern, by whether it is an ellipsis, and those of the items behind it
    abbrev role_there : Bool → Option Role
    role_there b = if b then Some ellipsis else Some pattern

    abbrev roles_behind : Bool → Roles
    roles_behind b = if b then patterns else repeatable

    -- what stands in it, and in those
    abbrev behind : ℕ → Sexp → Sexps → Bool → List Occurrence
    behind n d ds b = role_occurrences n (role_there b) d (occurrences (deeper (is_repeated (roles_behind b) ds) n) d) ++ occurrences_among n (roles_behind b) ds

    mutual
      -- a datum
      pub reading-makes : (n : ℕ) (d : Sexp) → ArePassed (occurrences n d)
          → (uses n (reading ns pos d) ≡ map bound_use (all_bound ns pos (occurrences n d))) × (closed_parts_fit (reading ns pos d) ≡ true)
      reading-makes n (leaf (integer z) s) h = (refl, refl)
      reading-makes n (leaf (truth b) s) h = (refl, refl)
      reading-makes n (leaf (text t) s) h = (refl, refl)
      reading-makes n (leaf (symbol x) s) h = symbol-makes n (leaf (symbol x) s) h.0.1 pos h.0.0
      reading-makes n (leaf (keyword k) s) h = (refl, refl)
      reading-makes n (list ds s) h =
          let k = head_among ds in
          let p = assembled k (names_among (roles_of k) ds) (items_among ns pos (roles_of k) ds) in
          let os = occurrences_among n (roles_of k) ds in
          shaped-makes n (is_shaped ds) (list ds s) ds p (head_occurrences k (list ds s) ++ os) (λ f g. head-makes n k (list ds s) p os (λ q. list-makes n k ds f q) g) h

      -- a list with its shape, by its head
      list-makes : (n : ℕ) (h : Head) (ds : Sexps) → fits (roles_of h) ds ≡ true → ArePassed (occurrences_among n (roles_of h) ds)
          → Makes n (assembled h (names_among (roles_of h) ds) (items_among ns pos (roles_of h) ds)) (bind (occurrences_among n (roles_of h) ds))
      list-makes n naming nil f p = absurd cc
      list-makes n naming (cons w nil) f p = second-false (is_symbol w) _ f
      list-makes n naming (cons w (cons x nil)) f p = second-false (is_symbol x) _ (and_true (is_symbol w) (is_symbol x && false) f).1
      list-makes n naming (cons w (cons x (cons d nil))) f p =
          let q = ArePassed-both (occurrences n d) [] p.1 in
          let m = makes-alone n (reading ns pos d) (occurrences n d) (reading-makes n d q.0) in
          subst (λ (xs : List (List ℕ)). Makes n (bound_to (only (xs ++ [])) (Some (reading ns pos d))) (record { symbol = x; depth = n } ∷ bind (occurrences n d ++ [])))
          (sym (named-once x p.0.0)) (named-makes n x (reading ns pos d) (bind (occurrences n d ++ [])) p.0.1 m)
      list-makes n naming (cons w (cons x (cons d (cons c ds)))) f p = second-false (is_symbol w) _ (second-false (is_symbol x) _ (and_true (is_symbol w) (is_symbol x && false) f).1)
      list-makes n avoiding nil f p = (refl, refl)
      list-makes n avoiding (cons w ds) f p = (ap (map bound_use) (sym (spelt-nothing n ds)), refl)
      list-makes n prefixing nil f p = absurd cc
      list-makes n prefixing (cons w nil) f p = second-false (is_symbol w) _ f
      list-makes n prefixing (cons w (cons x nil)) f p = by_names (only (name_in x ++ []))
        where
          by_names : (o : Option (List ℕ)) → Makes n (prefixed o) []
          by_names None = (refl, refl)
          by_names (Some y) = (refl, refl)
      list-makes n prefixing (cons w (cons x (cons d ds))) f p =
          let b = is_symbol x && not (is_word (codes "hole") x) in
          second-false b _ (and_true (is_symbol w) (b && false) f).1
      list-makes n splitting nil f p = absurd cc
      list-makes n splitting (cons w nil) f p = second-false (is_symbol w) _ f
      list-makes n splitting (cons w (cons d nil)) f p = second-false (is_symbol w) _ f
      list-makes n splitting (cons w (cons d (cons c nil))) f p =
          let q = ArePassed-both (occurrences n d) (occurrences n c ++ []) p in
          let r = ArePassed-both (occurrences n c) [] q.1 in
          let a = reading-makes n d q.0 in
          let b = makes-alone n (reading ns pos c) (occurrences n c) (reading-makes n c r.0) in
          subst (Makes n (in_hole (reading ns pos d) (reading ns pos c))) (sym (bind-append (occurrences n d) (occurrences n c ++ []))) (
            both-bind (uses n (reading ns pos d)) (uses n (reading ns pos c)) (bind (occurrences n d)) (bind (occurrences n c ++ [])) a.0 b.0,
            and_both (closed_parts_fit (reading ns pos d)) (closed_parts_fit (reading ns pos c)) a.1 b.1,
          )
      list-makes n splitting (cons w (cons d (cons c (cons b ds)))) f p = second-false (is_symbol w) _ f
      list-makes n hiding nil f p = absurd cc
      list-makes n hiding (cons w nil) f p = second-false (is_symbol w) _ f
      list-makes n hiding (cons w (cons d nil)) f p = makes-alone n (reading ns pos d) (occurrences n d) (reading-makes n d (ArePassed-both (occurrences n d) [] p).0)
      list-makes n hiding (cons w (cons d (cons c ds))) f p = second-false (is_symbol w) _ f
      list-makes n crossing nil f p = absurd cc
      list-makes n crossing (cons w nil) f p = second-false (is_symbol w) _ f
      list-makes n crossing (cons w (cons x nil)) f p = by_names (only (name_in x ++ []))
        where
          by_names : (o : Option (List ℕ)) → Makes n (across_itself o) []
          by_names None = (refl, refl)
          by_names (Some y) = (refl, refl)
      list-makes n crossing (cons w (cons x (cons d ds))) f p =
          let b = is_symbol x && not (is_word (codes "hole") x) in
          second-false b _ (and_true (is_symbol w) (b && false) f).1
      list-makes n escaping nil f p = absurd cc
      list-makes n escaping (cons w ds) f p = (ap (map bound_use) (sym (unread-nothing n ds)), refl)
      list-makes n plain nil f p = (refl, refl)
      list-makes n plain (cons d ds) f p = pattern-step n repeatable d ds (λ k g. reading-makes k d g) (λ g. repeatable-make n ds g) p

      -- items, of which the first is a pattern
      patterns-make : (n : ℕ) (ds : Sexps) → ArePassed (occurrences_among n patterns ds)
          → Make n None (items_among ns pos patterns ds) (bind (occurrences_among n patterns ds))
      patterns-make n nil h = (refl, refl)
      patterns-make n (cons d ds) h = pattern-step n repeatable d ds (λ k g. reading-makes k d g) (λ g. repeatable-make n ds g) h

      -- items behind a pattern, which an ellipsis may repeat
      repeatable-make : (n : ℕ) (ds : Sexps) → ArePassed (occurrences_among n repeatable ds)
          → Make n (ellipsis_behind repeatable ds) (items_among ns pos repeatable ds) (bind (occurrences_among n repeatable ds))
      repeatable-make n nil h = (refl, refl)
      repeatable-make n (cons d ds) h = by_test (is_ellipsis_symbol d) (λ k g. reading-makes k d g) (λ g. patterns-make n ds g) (λ g. repeatable-make n ds g) h
        where
          by_test : (b : Bool) → ((k : ℕ) → ArePassed (occurrences k d) → Makes k (reading ns pos d) (bind (occurrences k d)))
              → (ArePassed (occurrences_among n patterns ds) → Make n None (items_among ns pos patterns ds) (bind (occurrences_among n patterns ds)))
              → (ArePassed (occurrences_among n repeatable ds) → Make n (ellipsis_behind repeatable ds) (items_among ns pos repeatable ds) (bind (occurrences_among n repeatable ds)))
              → ArePassed (behind n d ds b)
              → Make n (ellipsis_in (role_there b) d) (role_items (role_there b) (ellipsis_behind (roles_behind b) ds) (reading ns pos d) (items_among ns pos (roles_behind b) ds)) (bind (behind n d ds b))
          by_test true f g k p =
              let e = and_true (is_symbol d) _ p.0.0 in
              let m = g p.1 in (
                both-bind (length_use n (length_name (text_of d))) (item_uses n (items_among ns pos patterns ds)) (bound_when (not (is_word (codes "...") d)) n d) (bind (occurrences_among n patterns ds))
                    (length-makes n d e.0 p.0.1.0 p.0.1.1) m.0,
                m.1,
              )
          by_test false f g k p = pattern-step n repeatable d ds f k p

    -- so do the items of a list pattern
    pub items-make : (n : ℕ) (ds : Sexps) → ArePassed (occurrences_among n patterns ds)
        → (item_uses n (items_among ns pos patterns ds) ≡ map bound_use (all_bound ns pos (occurrences_among n patterns ds))) × (closed_items_fit (items_among ns pos patterns ds) ≡ true)
    items-make n ds h = patterns-make n ds h
