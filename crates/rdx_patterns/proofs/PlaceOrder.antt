-- What stands in a pattern stands in the order of its parts.
use Rattle.std.proofs.Common.{ℕ, ◌++◌, Bool, true, false, List, [], ◌∷◌, Option, Some, None, map, sym, subst, if◌then◌else◌}
use Rattle.std.proofs.lemmas.List.{map-append}
use Rattle.rdx_sexp.specs.Sexp.{Sexp, Sexps, leaf, list, nil, cons, integer, truth, text, symbol, keyword}
use Rattle.rdx_patterns.specs.Heads.{Head, naming, avoiding, prefixing, splitting, hiding, crossing, escaping, plain, Role, word, bound, spelt, pattern, ellipsis, unread, Roles, roles_of, head_among, next, rest, is_repeated, is_shaped}
use Rattle.rdx_patterns.specs.Laws.{datum_of, all_parts, all_parts_in, IsPickedFrom, none_left, picked, left_out, InOrder}
use Rattle.rdx_patterns.specs.Occurrences.{Occurrence, malformed, keys, keys_in, role_occurrences, deeper, head_occurrences, occurrences, occurrences_among}

-- nothing is picked from every list
nothing_picked : (es : List Sexp) → IsPickedFrom [] es
nothing_picked [] = none_left
nothing_picked (e ∷ es) = left_out (nothing_picked es)

-- two lists, one behind the other
picked-append : {ds es fs gs : List Sexp} → IsPickedFrom ds es → IsPickedFrom fs gs → IsPickedFrom (ds ++ fs) (es ++ gs)
picked-append none_left q = q
picked-append (picked p) q = picked (picked-append p q)
picked-append (left_out p) q = left_out (picked-append p q)

-- the data of two lists of occurrences
both-picked : (os qs : List Occurrence) (es gs : List Sexp) → IsPickedFrom (map datum_of os) es → IsPickedFrom (map datum_of qs) gs → IsPickedFrom (map datum_of (os ++ qs)) (es ++ gs)
both-picked os qs es gs p q = subst (λ (ds : List Sexp). IsPickedFrom ds (es ++ gs)) (sym (map-append datum_of os qs)) (picked-append p q)

-- a datum alone, from its parts
itself_picked : (d : Sexp) → IsPickedFrom (d ∷ []) (all_parts d)
itself_picked (leaf a s) = picked none_left
itself_picked (list ds s) = picked (nothing_picked (all_parts_in ds))

-- keywords
mutual
  keys-picked : (d : Sexp) → IsPickedFrom (map datum_of (keys d)) (all_parts d)
  keys-picked (leaf (integer n) s) = left_out none_left
  keys-picked (leaf (truth b) s) = left_out none_left
  keys-picked (leaf (text t) s) = left_out none_left
  keys-picked (leaf (symbol x) s) = left_out none_left
  keys-picked (leaf (keyword k) s) = picked none_left
  keys-picked (list ds s) = left_out (keys_in-picked ds)

  keys_in-picked : (ds : Sexps) → IsPickedFrom (map datum_of (keys_in ds)) (all_parts_in ds)
  keys_in-picked nil = none_left
  keys_in-picked (cons d ds) = both-picked (keys d) (keys_in ds) (all_parts d) (all_parts_in ds) (keys-picked d) (keys_in-picked ds)

-- an item in a role
role-picked : (n : ℕ) (o : Option Role) (d : Sexp) (os : List Occurrence) → IsPickedFrom (map datum_of os) (all_parts d) → IsPickedFrom (map datum_of (role_occurrences n o d os)) (all_parts d)
role-picked n None d os p = nothing_picked (all_parts d)
role-picked n (Some word) d os p = nothing_picked (all_parts d)
role-picked n (Some bound) d os p = itself_picked d
role-picked n (Some spelt) d os p = itself_picked d
role-picked n (Some pattern) d os p = p
role-picked n (Some ellipsis) d os p = itself_picked d
role-picked n (Some unread) d os p = keys-picked d

-- the list itself, where its head would ask Racket, and what stands in it
head-picked : (h : Head) (ds : Sexps) (whole : Sexp) (os : List Occurrence) → IsPickedFrom (map datum_of os) (all_parts_in ds) → IsPickedFrom (map datum_of (head_occurrences h whole ++ os)) (whole ∷ all_parts_in ds)
head-picked naming ds whole os p = left_out p
head-picked avoiding ds whole os p = left_out p
head-picked prefixing ds whole os p = left_out p
head-picked splitting ds whole os p = left_out p
head-picked hiding ds whole os p = left_out p
head-picked crossing ds whole os p = picked p
head-picked escaping ds whole os p = picked p
head-picked plain ds whole os p = left_out p

-- a list that may have its shape
shaped-picked : (b : Bool) (ds : Sexps) (whole : Sexp) (os : List Occurrence) → IsPickedFrom (map datum_of os) (whole ∷ all_parts_in ds) → IsPickedFrom (map datum_of (if b then os else malformed whole ∷ keys_in ds)) (whole ∷ all_parts_in ds)
shaped-picked true ds whole os p = p
shaped-picked false ds whole os p = picked (keys_in-picked ds)

mutual
  -- a pattern around which n repetitions stand
  pattern-picked : (n : ℕ) (d : Sexp) → IsPickedFrom (map datum_of (occurrences n d)) (all_parts d)
  pattern-picked n (leaf (integer z) s) = left_out none_left
  pattern-picked n (leaf (truth b) s) = left_out none_left
  pattern-picked n (leaf (text t) s) = left_out none_left
  pattern-picked n (leaf (symbol x) s) = picked none_left
  pattern-picked n (leaf (keyword k) s) = picked none_left
  pattern-picked n (list ds s) =
      let k = head_among ds in
      let os = occurrences_among n (roles_of k) ds in
      shaped-picked (is_shaped ds) ds (list ds s) (head_occurrences k (list ds s) ++ os) (head-picked k ds (list ds s) os (among-picked n (roles_of k) ds))

  -- items in these roles
  among-picked : (n : ℕ) (rs : Roles) (ds : Sexps) → IsPickedFrom (map datum_of (occurrences_among n rs ds)) (all_parts_in ds)
  among-picked n rs nil = none_left
  among-picked n rs (cons d ds) =
      let m = deeper (is_repeated (rest rs d) ds) n in
      both-picked (role_occurrences n (next rs d) d (occurrences m d)) (occurrences_among n (rest rs d) ds) (all_parts d) (all_parts_in ds)
      (role-picked n (next rs d) d (occurrences m d) (pattern-picked m d)) (among-picked n (rest rs d) ds)

-- each pattern, around which none stands
pub in_order : InOrder
in_order d = pattern-picked 0 d
