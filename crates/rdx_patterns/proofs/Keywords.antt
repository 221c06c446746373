-- The keywords in a pattern are all its keywords, whatever its lists are.
use Rattle.std.proofs.Common.{◌≡◌, ℕ, ◌++◌, Bool, true, false, List, [], ◌∷◌, Option, Some, None, refl, sym, ap, ◌∙◌, if◌then◌else◌}
use Rattle.std.specs.Prelude.{not, codes}
use Rattle.std.proofs.lemmas.Grind.{flat_map-append}
use Rattle.rdx_sexp.specs.Sexp.{Sexp, Sexps, leaf, list, nil, cons, integer, truth, text, symbol, keyword}
use Rattle.rdx_patterns.specs.Heads.{Head, naming, avoiding, prefixing, splitting, hiding, crossing, escaping, plain, Role, word, bound, spelt, pattern, ellipsis, unread, Roles, roles_of, head_among, next, rest, is_repeated, suits, fits, is_shaped}
use Rattle.rdx_patterns.specs.Occurrences.{Occurrence, malformed, keys, keys_in, role_occurrences, deeper, head_occurrences, occurrences, occurrences_among}
use Rattle.rdx_patterns.specs.Parts.{is_symbol, is_word}
use Rattle.rdx_patterns.specs.PatternChecks.{keyword_fault, keyword_faults}
use Rattle.rdx_patterns.specs.Refusal.{first, or_else}
use Rattle.rdx_patterns.proofs.Booleans.{and_true}
use Rattle.rdx_patterns.proofs.Firsts.{first-append}

-- the first keyword of two lists, one behind the other
pub first_keyword-append : (os qs : List Occurrence) → first (keyword_faults (os ++ qs)) ≡ or_else (first (keyword_faults os)) (first (keyword_faults qs))
first_keyword-append os qs = ap first (flat_map-append keyword_fault os qs) ∙ first-append (keyword_faults os) (keyword_faults qs)

-- lists with the same keywords, behind lists with the same keywords
both-keys : (os qs us vs : List Occurrence) → keyword_faults os ≡ keyword_faults qs → keyword_faults us ≡ keyword_faults vs → keyword_faults (os ++ us) ≡ keyword_faults (qs ++ vs)
both-keys os qs us vs e f = flat_map-append keyword_fault os us ∙ (λ i. e i ++ f i) ∙ sym (flat_map-append keyword_fault qs vs)

-- a symbol has no keyword in it
symbol-keys : (d : Sexp) → is_symbol d ≡ true → keys d ≡ []
symbol-keys (leaf (integer n) s) e = absurd cc
symbol-keys (leaf (truth b) s) e = absurd cc
symbol-keys (leaf (text t) s) e = absurd cc
symbol-keys (leaf (symbol x) s) e = refl
symbol-keys (leaf (keyword k) s) e = absurd cc
symbol-keys (list es s) e = absurd cc

-- an item in a role
role-keys : (n : ℕ) (o : Option Role) (d : Sexp) (os : List Occurrence) → suits o d ≡ true → keyword_faults os ≡ keyword_faults (keys d) → keyword_faults (role_occurrences n o d os) ≡ keyword_faults (keys d)
role-keys n None d os e f = absurd cc
role-keys n (Some word) d os e f = sym (ap keyword_faults (symbol-keys d e))
role-keys n (Some bound) d os e f = sym (ap keyword_faults (symbol-keys d e))
role-keys n (Some spelt) d os e f = sym (ap keyword_faults (symbol-keys d (and_true (is_symbol d) (not (is_word (codes "hole") d)) e).0))
role-keys n (Some pattern) d os e f = f
role-keys n (Some ellipsis) d os e f = sym (ap keyword_faults (symbol-keys d e))
role-keys n (Some unread) d os e f = refl

-- a list that may have its shape
shaped-keys : (b : Bool) (whole : Sexp) (ds : Sexps) (os : List Occurrence) → (b ≡ true → keyword_faults os ≡ keyword_faults (keys_in ds)) → keyword_faults (if b then os else malformed whole ∷ keys_in ds) ≡ keyword_faults (keys_in ds)
shaped-keys true whole ds os f = f refl
shaped-keys false whole ds os f = refl

-- a list is no keyword itself
head-keys : (h : Head) (whole : Sexp) (os : List Occurrence) → keyword_faults (head_occurrences h whole ++ os) ≡ keyword_faults os
head-keys naming whole os = refl
head-keys avoiding whole os = refl
head-keys prefixing whole os = refl
head-keys splitting whole os = refl
head-keys hiding whole os = refl
head-keys crossing whole os = refl
head-keys escaping whole os = refl
head-keys plain whole os = refl

mutual
  -- a pattern around which n repetitions stand
  pub occurrences-keys : (n : ℕ) (d : Sexp) → keyword_faults (occurrences n d) ≡ keyword_faults (keys d)
  occurrences-keys n (leaf (integer z) s) = refl
  occurrences-keys n (leaf (truth b) s) = refl
  occurrences-keys n (leaf (text t) s) = refl
  occurrences-keys n (leaf (symbol x) s) = refl
  occurrences-keys n (leaf (keyword k) s) = refl
  occurrences-keys n (list ds s) =
      let k = head_among ds in
      let os = occurrences_among n (roles_of k) ds in
      shaped-keys (is_shaped ds) (list ds s) ds (head_occurrences k (list ds s) ++ os) (λ e. head-keys k (list ds s) os ∙ among-keys n (roles_of k) ds e)

  -- items in these roles
  among-keys : (n : ℕ) (rs : Roles) (ds : Sexps) → fits rs ds ≡ true → keyword_faults (occurrences_among n rs ds) ≡ keyword_faults (keys_in ds)
  among-keys n rs nil e = refl
  among-keys n rs (cons d ds) e =
      let k = and_true (suits (next rs d) d) (fits (rest rs d) ds) e in
      let m = deeper (is_repeated (rest rs d) ds) n in
      both-keys (role_occurrences n (next rs d) d (occurrences m d)) (keys d) (occurrences_among n (rest rs d) ds) (keys_in ds)
      (role-keys n (next rs d) d (occurrences m d) k.0 (occurrences-keys m d)) (among-keys n (rest rs d) ds k.1)
