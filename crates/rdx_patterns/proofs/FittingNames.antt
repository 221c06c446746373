-- The names of a reading fit together, where no check refuses what stands in its datum.
use Rattle.std.proofs.Common.{◌≡◌, ◌<◌, ℕ, suc, Bool, true, false, List, [], ◌∷◌, None, map, refl, sym, ap, ◌∙◌, subst}
use Rattle.std.specs.Prelude.{◌&&◌, ◌||◌, not, bytes_eq, nat_eq, nat_lt}
use Rattle.std.specs.Bool.{beq}
use Rattle.std.specs.Cmp.{booleans_Decides}
use Rattle.std.specs.Cmp.Lexicographic.{bytes_decides}
use Rattle.std.specs.List.{list_any, list_all}
use Rattle.std.proofs.lemmas.Bool.{lt-ltb}
use Rattle.std.proofs.lemmas.Cmp.{nat_eq_equiv, nat_list_eq_equiv}
use Rattle.rdx_sexp.specs.Sexp.{Sexp, Sexps}
use Rattle.rdx_sexp.specs.Size.{sexp_depth, sexps_depth, IsSpelledSexp, AreSpelled}
use Rattle.rdx_lang.specs.Depths.{Use, agree, all_agree, is_shallow, has_one_depth_each, closed_parts_fit, has_fitting_names}
use Rattle.rdx_lang.specs.Members.{In, here, there}
use Rattle.rdx_lang.specs.Patterns.{seq}
use Rattle.rdx_patterns.specs.Heads.{patterns}
use Rattle.rdx_patterns.specs.Occurrences.{occurrences, occurrences_among}
use Rattle.rdx_patterns.specs.Parts.{text_of}
use Rattle.rdx_patterns.specs.PatternChecks.{Bound, bad_binders, bad_occurrences, all_bound, differ, clashes, depth_clashes}
use Rattle.rdx_patterns.specs.PatternRefusal.{keyword_at, bad_binder_at, bad_occurrence_at, depth_clash_at, pattern_refusal}
use Rattle.rdx_patterns.specs.Names.{begins_with_dots}
use Rattle.rdx_patterns.specs.Readable.{IsReadable}
use Rattle.rdx_patterns.specs.Reading.{reading, items_among}
use Rattle.rdx_patterns.specs.Refusal.{unnamed, named}
use Rattle.rdx_patterns.specs.declared.patterns.position.Position.{Position}
use Rattle.rdx_patterns.specs.declared.patterns.position.Position.TheVariants.{Query}
use Rattle.rdx_patterns.specs.declared.shape.fault.DefKind.TheVariants.{BadName, BadPattern, EllipsisDepth}
use Rattle.rdx_patterns.proofs.Booleans.{and_both, or_false}
use Rattle.rdx_patterns.proofs.DepthsRead.{bound_use, reading-makes, items-make}
use Rattle.rdx_patterns.proofs.Firsts.{nothing, none_first, none_or}
use Rattle.rdx_patterns.proofs.PassedPatterns.{AreBoundNames, pattern-written, items-written, are-passed, bound-are-names}

-- ---- where nothing clashes

-- where two symbols don't differ, their uses agree
agree-unless : (b c : Bound) → differ b c ≡ false → agree (bound_use c) (bound_use b) ≡ true
agree-unless b c e = by_test (bytes_eq (text_of c.symbol) (text_of b.symbol)) refl
  where
    depths : (x n : Bool) → x ≡ true → (x && not n) ≡ false → n ≡ true
    depths true true f g = refl
    depths true false f g = absurd cc
    depths false n f g = absurd cc

    by_test : (x : Bool) → bytes_eq (text_of c.symbol) (text_of b.symbol) ≡ x
        → (not x || (nat_eq c.depth b.depth && beq (begins_with_dots (text_of c.symbol)) (begins_with_dots (text_of b.symbol)))) ≡ true
    by_test false f = refl
    by_test true f =
        let n = depths (bytes_eq (text_of b.symbol) (text_of c.symbol)) (nat_eq b.depth c.depth) (nat_list_eq_equiv.symm (text_of b.symbol) (text_of c.symbol) ∙ f) e in
        and_both (nat_eq c.depth b.depth) (beq (begins_with_dots (text_of c.symbol)) (begins_with_dots (text_of b.symbol))) (nat_eq_equiv.symm c.depth b.depth ∙ n)
        ((booleans_Decides (begins_with_dots (text_of c.symbol)) (begins_with_dots (text_of b.symbol))).1 (ap begins_with_dots ((bytes_decides (text_of c.symbol) (text_of b.symbol)).0 f)))

-- a test that none passes is passed by none of them
none-passes : {A : Type 0} (test : A → Bool) (xs : List A) (x : A) → list_any test xs ≡ false → In x xs → test x ≡ false
none-passes test [] x e i = elim i [ ]
none-passes test (y ∷ xs) x e (here f) = ap test f ∙ (or_false (test y) (list_any test xs) e).0
none-passes test (y ∷ xs) x e (there i) = none-passes test xs x (or_false (test y) (list_any test xs) e).1 i

-- where nothing clashes, a symbol before all agrees with all
agree-behind : (cs bs : List Bound) (c : Bound) → clashes cs bs ≡ [] → In c cs → list_all (agree (bound_use c)) (map bound_use bs) ≡ true
agree-behind cs [] c e i = refl
agree-behind cs (b ∷ bs) c e i =
    let k = none_first (list_any (differ b) cs) b.symbol (clashes (b ∷ cs) bs) e in
    and_both (agree (bound_use c) (bound_use b)) (list_all (agree (bound_use c)) (map bound_use bs)) (agree-unless b c (none-passes (differ b) cs c k.0 i)) (agree-behind (b ∷ cs) bs c k.1 (there i))

-- and all agree
agree-all : (cs bs : List Bound) → clashes cs bs ≡ [] → all_agree (map bound_use bs) ≡ true
agree-all cs [] e = refl
agree-all cs (b ∷ bs) e =
    let k = none_first (list_any (differ b) cs) b.symbol (clashes (b ∷ cs) bs) e in
    and_both (list_all (agree (bound_use b)) (map bound_use bs)) (all_agree (map bound_use bs)) (agree-behind (b ∷ cs) bs b k.1 (here refl)) (agree-all (b ∷ cs) bs k.1)

-- ---- readings

-- the depths are below the limit
all-shallow : (bs : List Bound) → AreBoundNames 4294967296 bs → list_all is_shallow (map bound_use bs) ≡ true
all-shallow [] h = refl
all-shallow (b ∷ bs) h = and_both (nat_lt b.depth 4294967296) (list_all is_shallow (map bound_use bs)) (lt-ltb b.depth 4294967296 h.0.0) (all-shallow bs h.1)

-- what no check refuses
pub fitting-reading : (ns : List (List ℕ)) (pos : Position) (d : Sexp) → sexp_depth d < 4294967296 → IsSpelledSexp d
    → bad_binders (occurrences 0 d) ≡ [] → bad_occurrences ns (occurrences 0 d) ≡ [] → depth_clashes ns pos (occurrences 0 d) ≡ []
    → has_fitting_names (reading ns pos d) ≡ true
fitting-reading ns pos d l h e f g =
    let os = occurrences 0 d in
    let bs = all_bound ns pos os in
    let p = reading ns pos d in
    let w = pattern-written d l h in
    let m = reading-makes ns pos 0 d (are-passed ns 4294967296 os w e f) in
    let one : has_one_depth_each p ≡ true =
    subst (λ (us : List Use). (all_agree us && list_all is_shallow us) ≡ true) (sym m.0)
    (and_both (all_agree (map bound_use bs)) (list_all is_shallow (map bound_use bs)) (agree-all [] bs g) (all-shallow bs (bound-are-names ns pos 4294967296 os w e))) in
    and_both (has_one_depth_each p) (closed_parts_fit p) one m.1

-- so do those of the items of a list pattern
pub fitting-items : (ns : List (List ℕ)) (pos : Position) (ds : Sexps) → suc (sexps_depth ds) < 4294967296 → AreSpelled ds
    → bad_binders (occurrences_among 0 patterns ds) ≡ [] → bad_occurrences ns (occurrences_among 0 patterns ds) ≡ [] → depth_clashes ns pos (occurrences_among 0 patterns ds) ≡ []
    → has_fitting_names (seq (items_among ns pos patterns ds)) ≡ true
fitting-items ns pos ds l h e f g =
    let os = occurrences_among 0 patterns ds in
    let bs = all_bound ns pos os in
    let p = seq (items_among ns pos patterns ds) in
    let w = items-written ds l h in
    let m = items-make ns pos 0 ds (are-passed ns 4294967296 os w e f) in
    let one : has_one_depth_each p ≡ true =
    subst (λ (us : List Use). (all_agree us && list_all is_shallow us) ≡ true) (sym m.0)
    (and_both (all_agree (map bound_use bs)) (list_all is_shallow (map bound_use bs)) (agree-all [] bs g) (all-shallow bs (bound-are-names ns pos 4294967296 os w e))) in
    and_both (has_one_depth_each p) (closed_parts_fit p) one m.1

-- so do those of a pattern that is read outside grammars
pub fitting-pattern : (ns : List (List ℕ)) (d : Sexp) → IsReadable d → pattern_refusal ns d ≡ None
    → has_fitting_names (reading ns Query d) ≡ true
fitting-pattern ns d r e =
    let os = occurrences 0 d in
    let k = none_or (keyword_at os) _ e in
    let l = none_or (bad_binder_at os) _ k.1 in
    let m = none_or (bad_occurrence_at ns os) _ l.1 in
    let n = none_or (depth_clash_at ns os) _ m.1 in
    fitting-reading ns Query d r.nested r.spelled (nothing (named BadName) (bad_binders os) l.0) (nothing (unnamed BadPattern) (bad_occurrences ns os) m.0)
    (nothing (named EllipsisDepth) (depth_clashes ns Query os) n.0)
