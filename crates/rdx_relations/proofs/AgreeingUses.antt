-- The uses of symbols that do not clash agree.
use Rattle.std.proofs.Common.{◌≡◌, ◌∙◌, Bool, true, false, List, [], ◌∷◌, map, refl, ap}
use Rattle.std.proofs.lemmas.Bool.{lt-ltb}
use Rattle.std.proofs.lemmas.Cmp.{nat_eq_equiv, nat_list_eq_equiv}
use Rattle.std.specs.Bool.{beq}
use Rattle.std.specs.Cmp.{booleans_Decides}
use Rattle.std.specs.Cmp.Lexicographic.{bytes_decides}
use Rattle.std.specs.List.{list_any, list_all}
use Rattle.std.specs.Prelude.{◌&&◌, ◌||◌, not, bytes_eq, nat_eq, nat_lt}
use Rattle.rdx_lang.specs.Depths.{agree, all_agree, is_shallow}
use Rattle.rdx_lang.specs.Members.{In, here, there}
use Rattle.rdx_patterns.specs.Names.{begins_with_dots}
use Rattle.rdx_patterns.specs.Parts.{text_of}
use Rattle.rdx_patterns.specs.PatternChecks as patterns
use Rattle.rdx_patterns.specs.PatternChecks.{differ, clashes}
use Rattle.rdx_patterns.proofs.Booleans.{and_both, or_false}
use Rattle.rdx_patterns.proofs.DepthsRead.{bound_use}
use Rattle.rdx_patterns.proofs.Firsts.{none_first}
use Rattle.rdx_patterns.proofs.PassedPatterns.{AreBoundNames}

-- ---- symbols that do not clash

-- where two symbols don't differ, their uses agree
agree-unless : (b c : patterns.Bound) → differ b c ≡ false → agree (bound_use c) (bound_use b) ≡ true
agree-unless b c e = by_test (bytes_eq (text_of c.symbol) (text_of b.symbol)) refl
  where
    depths : (x n : Bool) → x ≡ true → (x && not n) ≡ false → n ≡ true
    depths true true f g = refl
    depths true false f g = absurd cc
    depths false n f g = absurd cc

    by_test : (x : Bool) → bytes_eq (text_of c.symbol) (text_of b.symbol) ≡ x
        → (not x || (nat_eq c.depth b.depth && beq (begins_with_dots (text_of c.symbol)) (begins_with_dots (text_of b.symbol)))) ≡ true
    by_test false f = refl
    by_test true f =
        let n = depths (bytes_eq (text_of b.symbol) (text_of c.symbol)) (nat_eq b.depth c.depth) (nat_list_eq_equiv.symm (text_of b.symbol) (text_of c.symbol) ∙ f) e in
        and_both (nat_eq c.depth b.depth) (beq (begins_with_dots (text_of c.symbol)) (begins_with_dots (text_of b.symbol))) (nat_eq_equiv.symm c.depth b.depth ∙ n)
        ((booleans_Decides (begins_with_dots (text_of c.symbol)) (begins_with_dots (text_of b.symbol))).1 (ap begins_with_dots ((bytes_decides (text_of c.symbol) (text_of b.symbol)).0 f)))

-- a test that none passes is passed by none of them
none-passes : {A : Type 0} (test : A → Bool) (xs : List A) (x : A) → list_any test xs ≡ false → In x xs → test x ≡ false
none-passes test [] x e i = elim i [ ]
none-passes test (y ∷ xs) x e (here f) = ap test f ∙ (or_false (test y) (list_any test xs) e).0
none-passes test (y ∷ xs) x e (there i) = none-passes test xs x (or_false (test y) (list_any test xs) e).1 i

-- where nothing clashes, a symbol before all agrees with all
agree-behind : (cs bs : List patterns.Bound) (c : patterns.Bound) → clashes cs bs ≡ [] → In c cs → list_all (agree (bound_use c)) (map bound_use bs) ≡ true
agree-behind cs [] c e i = refl
agree-behind cs (b ∷ bs) c e i =
    let k = none_first (list_any (differ b) cs) b.symbol (clashes (b ∷ cs) bs) e in
    and_both (agree (bound_use c) (bound_use b)) (list_all (agree (bound_use c)) (map bound_use bs)) (agree-unless b c (none-passes (differ b) cs c k.0 i)) (agree-behind (b ∷ cs) bs c k.1 (there i))

-- and all agree
pub agree-all : (cs bs : List patterns.Bound) → clashes cs bs ≡ [] → all_agree (map bound_use bs) ≡ true
agree-all cs [] e = refl
agree-all cs (b ∷ bs) e =
    let k = none_first (list_any (differ b) cs) b.symbol (clashes (b ∷ cs) bs) e in
    and_both (list_all (agree (bound_use b)) (map bound_use bs)) (all_agree (map bound_use bs)) (agree-behind (b ∷ cs) bs b k.1 (here refl)) (agree-all (b ∷ cs) bs k.1)

-- their depths are below the limit
pub all-shallow : (bs : List patterns.Bound) → AreBoundNames 4294967296 bs → list_all is_shallow (map bound_use bs) ≡ true
all-shallow [] h = refl
all-shallow (b ∷ bs) h = and_both (nat_lt b.depth 4294967296) (list_all is_shallow (map bound_use bs)) (lt-ltb b.depth 4294967296 h.0.0) (all-shallow bs h.1)
