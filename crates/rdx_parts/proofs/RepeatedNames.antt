-- Names that come again, by the texts that come before them.
use Rattle.std.proofs.Common.{◌≡◌, ◌++◌, ◌∙◌, ◌+◌, ◌<◌, ℕ, Bool, true, false, List, [], ◌∷◌, get_or, length, map, drop, refl, sym, ap}
use Rattle.std.specs.List.{list_any}
use Rattle.std.specs.Prelude.{◌||◌, not, flat_map, bytes_eq}
use Rattle.rdx_lang.proofs.Rest.{rest_at}
use Rattle.rdx_patterns.specs.Inside.Repeats.{HaveSame}
use Rattle.rdx_patterns.specs.Parts.{text_of}
use Rattle.rdx_patterns.specs.PatternChecks.{when}
use Rattle.rdx_patterns.proofs.Firsts.{none_both}
use Rattle.rdx_sexp.specs.Sexp.{Sexp}
use Rattle.rdx_parts.specs.NamesAgain.{texts_bound, name_again, bound_with, names_again}
use Rattle.rdx_parts.specs.StandChecks.{label, is_bound_as, repeated_name, names_with, repeated_names}
use Rattle.rdx_parts.specs.Stands.{Stand, misshaped, function, judgement, asked, arrow, pattern, template, condition, plain, misfit, fresh, named, repeated, bound_among}
use Rattle.rdx_parts.proofs.BareChecks.{bare}
use Rattle.rdx_parts.proofs.NamesBound.{any-append, or_flip}

-- where the contrary does not hold, it holds
pub not_false : (b : Bool) → not b ≡ false → b ≡ true
not_false true e = refl
not_false false e = absurd cc

-- ---- the same texts

-- with the same ones behind them
same-behind : (xs ys zs : List (List ℕ)) → HaveSame xs ys → HaveSame (xs ++ zs) (ys ++ zs)
same-behind xs ys zs h x =
    any-append (bytes_eq x) xs zs ∙ ap (λ b. b || list_any (bytes_eq x) zs) (h x) ∙ sym (any-append (bytes_eq x) ys zs)

-- one more, put first or last
pub last-same : (y : List ℕ) (xs : List (List ℕ)) → HaveSame (y ∷ xs) (xs ++ y ∷ [])
last-same y xs x = or_flip (bytes_eq x y) (list_any (bytes_eq x) xs) ∙ sym (any-append (bytes_eq x) xs (y ∷ []))

-- one that was put in comes before those behind
pub moved-in : (y : List ℕ) (xs ys zs : List (List ℕ)) → HaveSame ys (y ∷ xs) → HaveSame (ys ++ zs) (xs ++ y ∷ zs)
moved-in y xs ys zs h x =
    any-append (bytes_eq x) ys zs ∙ ap (λ b. b || list_any (bytes_eq x) zs) (h x)
    ∙ or_moved (bytes_eq x y) (list_any (bytes_eq x) xs) (list_any (bytes_eq x) zs)
    ∙ sym (any-append (bytes_eq x) xs (y ∷ zs))
  where
    or_moved : (a b c : Bool) → ((a || b) || c) ≡ (b || (a || c))
    or_moved true true c = refl
    or_moved true false c = refl
    or_moved false b c = refl

-- ---- what comes again depends on the texts alone that came

-- one thing
name-same : (xs ys bs cs : List (List ℕ)) (s : Stand) → HaveSame xs ys → HaveSame bs cs → name_again xs bs s ≡ name_again ys cs s
name-same xs ys bs cs (misshaped d) h k = refl
name-same xs ys bs cs (function d) h k = refl
name-same xs ys bs cs (judgement d) h k = refl
name-same xs ys bs cs (asked d) h k = refl
name-same xs ys bs cs (arrow d) h k = refl
name-same xs ys bs cs (pattern es os) h k = refl
name-same xs ys bs cs (template es t) h k = refl
name-same xs ys bs cs (condition es t) h k = refl
name-same xs ys bs cs (plain os) h k = refl
name-same xs ys bs cs (misfit d n) h k = refl
name-same xs ys bs cs (fresh es d) h k = ap (λ b. when b d) (k (text_of d))
name-same xs ys bs cs (named again d) h k = ap (λ b. when b d) (h (label d))
name-same xs ys bs cs (repeated d) h k = refl

-- the names of cases and rules behind it
names-more : (xs ys : List (List ℕ)) (s : Stand) → HaveSame xs ys → HaveSame (names_with xs s) (names_with ys s)
names-more xs ys (misshaped d) h = h
names-more xs ys (function d) h = h
names-more xs ys (judgement d) h = h
names-more xs ys (asked d) h = h
names-more xs ys (arrow d) h = h
names-more xs ys (pattern es os) h = h
names-more xs ys (template es t) h = h
names-more xs ys (condition es t) h = h
names-more xs ys (plain os) h = h
names-more xs ys (misfit d n) h = h
names-more xs ys (fresh es d) h = h
names-more xs ys (named again d) h = λ x. ap (λ b. bytes_eq x (label d) || b) (h x)
names-more xs ys (repeated d) h = h

-- those that are bound behind it
bound-more : (ns bs cs : List (List ℕ)) (s : Stand) → HaveSame bs cs → HaveSame (bound_with ns bs s) (bound_with ns cs s)
bound-more ns bs cs (misshaped d) h = h
bound-more ns bs cs (function d) h = h
bound-more ns bs cs (judgement d) h = h
bound-more ns bs cs (asked d) h = h
bound-more ns bs cs (arrow d) h = λ x. refl
bound-more ns bs cs (pattern es os) h = same-behind bs cs (texts_bound (bound_among ns os)) h
bound-more ns bs cs (template es t) h = h
bound-more ns bs cs (condition es t) h = h
bound-more ns bs cs (plain os) h = h
bound-more ns bs cs (misfit d n) h = h
bound-more ns bs cs (fresh es d) h = same-behind bs cs (text_of d ∷ []) h
bound-more ns bs cs (named again d) h = h
bound-more ns bs cs (repeated d) h = h

-- several things
again-same : (ns xs ys bs cs : List (List ℕ)) (ss : List Stand) → HaveSame xs ys → HaveSame bs cs → names_again ns xs bs ss ≡ names_again ns ys cs ss
again-same ns xs ys bs cs [] h k = refl
again-same ns xs ys bs cs (s ∷ ss) h k =
    let f = again-same ns (names_with xs s) (names_with ys s) (bound_with ns bs s) (bound_with ns cs s) ss (names-more xs ys s h) (bound-more ns bs cs s k) in
    λ i. name-same xs ys bs cs s h k i ++ f i

-- what comes again from a thing on is what comes again there and behind it
pub again-later : {C : Type 0} (ns : List (List ℕ)) (v : C → Stand) (ss : List C) (i : ℕ) (s : C) (xs ys bs cs : List (List ℕ)) → i < length ss → s ≡ get_or ss i s
    → HaveSame ys (names_with xs (v s)) → HaveSame cs (bound_with ns bs (v s))
    → names_again ns xs bs (map v (drop i ss)) ≡ name_again xs bs (v s) ++ names_again ns ys cs (map v (drop (i + 1) ss))
again-later ns v ss i s xs ys bs cs h e same bound =
    let rest = map v (drop (i + 1) ss) in
    ap (names_again ns xs bs) (rest_at v ss i s h e)
    ∙ ap (λ (ds : List Sexp). name_again xs bs (v s) ++ ds) (sym (again-same ns ys (names_with xs (v s)) cs (bound_with ns bs (v s)) rest same bound))

-- ---- without what is bound

-- one thing
name-bare : (xs bs : List (List ℕ)) (s : Stand) → name_again xs bs (bare s) ≡ name_again xs bs s
name-bare xs bs (misshaped d) = refl
name-bare xs bs (function d) = refl
name-bare xs bs (judgement d) = refl
name-bare xs bs (asked d) = refl
name-bare xs bs (arrow d) = refl
name-bare xs bs (pattern es os) = refl
name-bare xs bs (template es t) = refl
name-bare xs bs (condition es t) = refl
name-bare xs bs (plain os) = refl
name-bare xs bs (misfit d n) = refl
name-bare xs bs (fresh es d) = refl
name-bare xs bs (named again d) = refl
name-bare xs bs (repeated d) = refl

-- the names behind it
names-bare : (xs : List (List ℕ)) (s : Stand) → names_with xs (bare s) ≡ names_with xs s
names-bare xs (misshaped d) = refl
names-bare xs (function d) = refl
names-bare xs (judgement d) = refl
names-bare xs (asked d) = refl
names-bare xs (arrow d) = refl
names-bare xs (pattern es os) = refl
names-bare xs (template es t) = refl
names-bare xs (condition es t) = refl
names-bare xs (plain os) = refl
names-bare xs (misfit d n) = refl
names-bare xs (fresh es d) = refl
names-bare xs (named again d) = refl
names-bare xs (repeated d) = refl

-- those that are bound behind it
bound-bare : (ns bs : List (List ℕ)) (s : Stand) → bound_with ns bs (bare s) ≡ bound_with ns bs s
bound-bare ns bs (misshaped d) = refl
bound-bare ns bs (function d) = refl
bound-bare ns bs (judgement d) = refl
bound-bare ns bs (asked d) = refl
bound-bare ns bs (arrow d) = refl
bound-bare ns bs (pattern es os) = refl
bound-bare ns bs (template es t) = refl
bound-bare ns bs (condition es t) = refl
bound-bare ns bs (plain os) = refl
bound-bare ns bs (misfit d n) = refl
bound-bare ns bs (fresh es d) = refl
bound-bare ns bs (named again d) = refl
bound-bare ns bs (repeated d) = refl

-- several things
pub again-bare : (ns xs bs : List (List ℕ)) (ss : List Stand) → names_again ns xs bs (map bare ss) ≡ names_again ns xs bs ss
again-bare ns xs bs [] = refl
again-bare ns xs bs (s ∷ ss) =
    let f = again-bare ns (names_with xs s) (bound_with ns bs s) ss in
    (λ i. name-bare xs bs s i ++ names_again ns (names-bare xs s i) (bound-bare ns bs s i) (map bare ss))
    ∙ ap (λ (ds : List Sexp). name_again xs bs s ++ ds) f

-- ---- names to be made

-- one that is bound before
abbrev pub bound_place : Stand → List Sexp
bound_place (misshaped d) = []
bound_place (function d) = []
bound_place (judgement d) = []
bound_place (asked d) = []
bound_place (arrow d) = []
bound_place (pattern bs os) = []
bound_place (template bs t) = []
bound_place (condition bs t) = []
bound_place (plain os) = []
bound_place (misfit d n) = []
bound_place (fresh bs d) = when (list_any (is_bound_as d) bs) d
bound_place (named again d) = []
bound_place (repeated d) = []

-- all of them
abbrev pub bound_places : List Stand → List Sexp
bound_places ss = flat_map bound_place ss

-- where nothing comes again, one thing is none
place-none : (xs : List (List ℕ)) (s : Stand) → repeated_name xs s ≡ [] → bound_place s ≡ []
place-none xs (misshaped d) e = refl
place-none xs (function d) e = refl
place-none xs (judgement d) e = refl
place-none xs (asked d) e = refl
place-none xs (arrow d) e = refl
place-none xs (pattern bs os) e = refl
place-none xs (template bs t) e = refl
place-none xs (condition bs t) e = refl
place-none xs (plain os) e = refl
place-none xs (misfit d n) e = refl
place-none xs (fresh bs d) e = e
place-none xs (named again d) e = refl
place-none xs (repeated d) e = absurd cc

-- and there are none
pub places-none : (xs : List (List ℕ)) (ss : List Stand) → repeated_names xs ss ≡ [] → bound_places ss ≡ []
places-none xs [] e = refl
places-none xs (s ∷ ss) e =
    let k = none_both (repeated_name xs s) (repeated_names (names_with xs s) ss) e in
    let f = places-none (names_with xs s) ss k.1 in
    λ i. place-none xs s k.0 i ++ f i
