-- Symbols that bind a name at two depths, as uses of names that do not agree.
use Rattle.std.proofs.Common.{◌≡◌, ◌++◌, Bool, true, false, List, [], ◌∷◌, map, refl, sym, ap, ◌∙◌}
use Rattle.std.specs.Prelude.{◌&&◌, ◌||◌, not, bytes_eq, nat_eq, Option}
use Rattle.std.specs.List.{list_any, list_all}
use Rattle.rdx_sexp.specs.Sexp.{Sexp}
use Rattle.rdx_lang.specs.Depths.{Use, agree}
use Rattle.rdx_lang.specs.Met.{met, use_of, IsMet}
use Rattle.rdx_lang.specs.declared.depths.Depths.{Depths}
use Rattle.rdx_lang.proofs.Passing.{one_more_passes}
use Rattle.rdx_patterns.specs.AreNames.{AreNames}
use Rattle.rdx_patterns.specs.BoundNames.{bound_names}
use Rattle.rdx_patterns.specs.Parts.{text_of}
use Rattle.rdx_patterns.specs.PatternChecks.{Bound, when, differ, clashes}
use Rattle.rdx_patterns.specs.Refusal.{first}

-- a symbol that binds a name, as a use of it
abbrev pub as_use : Bound → Use
as_use b = use_of (text_of b.symbol) b.depth false

-- the symbols that do not agree with one of these uses, or with one before them
abbrev pub clashes_after : List Use → List Bound → List Sexp
clashes_after us [] = []
clashes_after us (b ∷ bs) = when (not (list_all (agree (as_use b)) us)) b.symbol ++ clashes_after (as_use b ∷ us) bs

-- ---- they are the clashes

-- two symbols differ where their uses do not agree
not-agree : (b c : Bound) → not (agree (as_use b) (as_use c)) ≡ differ b c
not-agree b c = by_tests (bytes_eq (text_of b.symbol) (text_of c.symbol)) (nat_eq b.depth c.depth)
  where
    by_tests : (x n : Bool) → not (not x || (n && true)) ≡ (x && not n)
    by_tests true true = refl
    by_tests true false = refl
    by_tests false n = refl

-- one of several differs where not all agree
not-all_agree : (b : Bound) (cs : List Bound) → not (list_all (agree (as_use b)) (map as_use cs)) ≡ list_any (differ b) cs
not-all_agree b [] = refl
not-all_agree b (c ∷ cs) =
    not-and (agree (as_use b) (as_use c)) (list_all (agree (as_use b)) (map as_use cs)) ∙ (λ i. not-agree b c i || not-all_agree b cs i)
  where
    not-and : (x y : Bool) → not (x && y) ≡ (not x || not y)
    not-and true y = refl
    not-and false y = refl

-- those behind the symbols of these uses
pub clashes_after-clashes : (cs bs : List Bound) → clashes_after (map as_use cs) bs ≡ clashes cs bs
clashes_after-clashes cs [] = refl
clashes_after-clashes cs (b ∷ bs) = λ i. when (not-all_agree b cs i) b.symbol ++ clashes_after-clashes (b ∷ cs) bs i

-- ---- uses that were met

-- the same tests pass for all of both
abbrev PassAlike : List Use → List Use → Type 0
PassAlike us vs = (test : Use → Bool) → list_all test us ≡ list_all test vs

-- so the same symbols clash with them
clashes_after-alike : (us vs : List Use) (bs : List Bound) → PassAlike us vs → clashes_after us bs ≡ clashes_after vs bs
clashes_after-alike us vs [] h = refl
clashes_after-alike us vs (b ∷ bs) h =
    λ i. when (not (h (agree (as_use b)) i)) b.symbol
    ++ clashes_after-alike (as_use b ∷ us) (as_use b ∷ vs) bs (λ test. ap (λ (x : Bool). test (as_use b) && x) (h test)) i

-- two tests in the other order
and-swap : (x y : Bool) → (x && y) ≡ (y && x)
and-swap true true = refl
and-swap true false = refl
and-swap false true = refl
and-swap false false = refl

-- where one use more was met, that counts in front of those before
pub clashes_after-met : (old new : Depths) (u : Use) (bs : List Bound) → IsMet old new u
    → clashes_after (met new) bs ≡ clashes_after (u ∷ met old) bs
clashes_after-met old new u bs m =
    clashes_after-alike (met new) (u ∷ met old) bs (λ test. one_more_passes test (met old) (met new) u m ∙ and-swap (list_all test (met old)) (test u))

-- ---- a loop that meets the symbols

-- this is the first that clashes with these uses or with one before it, and all bind names
abbrev pub IsFirstClash : Option Sexp → List Use → List Bound → Type 0
IsFirstClash o us bs = (o ≡ first (clashes_after us bs)) × AreNames (bound_names bs)

-- so it is behind a symbol that agrees with the uses, where that was met too
pub first-clash-behind : (o : Option Sexp) (old new : Depths) (b : Bound) (bs : List Bound) → list_all (agree (as_use b)) (met old) ≡ true
    → IsMet old new (as_use b) → IsFirstClash o (met old) (b ∷ bs) → IsFirstClash o (met new) bs
first-clash-behind o old new b bs e m h =
    (h.0 ∙ ap (λ (x : Bool). first (when (not x) b.symbol ++ clashes_after (as_use b ∷ met old) bs)) e ∙ ap first (sym (clashes_after-met old new (as_use b) bs m)), h.1.1)
