-- The checks of what stands in a form, with their numbers.
use Rattle.std.proofs.Common.{◌≡◌, ◌∙◌, ◌≤◌, ℕ, Bool, true, false, List, [], ◌∷◌, Option, Some, None, refl, sym, ap, arith, if◌then◌else◌}
use Rattle.std.specs.Cmp.Lexicographic.{bytes_decides}
use Rattle.std.specs.Prelude.{codes, is_some, option_map}
use Rattle.rdx_sexp.specs.Sexp.{integer, truth, text, symbol, keyword, Sexp, leaf, list}
use Rattle.rdx_lang.specs.Patterns.{Language}
use Rattle.rdx_lang.specs.Programs.{language_named}
use Rattle.rdx_patterns.specs.Parts.{is_word, text_of}
use Rattle.rdx_patterns.specs.Refusal.{Refusal, named, or_else}
use Rattle.rdx_patterns.specs.declared.shape.fault.DefKind.TheVariants.{Shape, UnknownLanguage, BadName, BadPattern, EllipsisDepth, UnknownName, EllipsisVariable, RacketEscape}
use Rattle.rdx_templates.specs.Scope.{Scope}
use Rattle.rdx_parts.specs.StandChecks.{shape_at, repeated_at, repeated_name_at, bad_name_at, bad_place_at, depth_fault_at, unknown_name_at, undriven_at, escape_at, misfit_at, mode_fault_at}
use Rattle.rdx_parts.specs.StandRefusal.{stands_refusal}
use Rattle.rdx_parts.specs.Stands.{Stand}
use Rattle.rdx_relations.specs.LanguageRefusal.{unnamable_language_at, refusal_over}
use Rattle.rdx_forms.specs.Reported.{number}
use Rattle.rdx_forms.specs.Known.{Known}
use Rattle.rdx_forms.specs.LanguageForms.{unknown_by, unknown_at}
use Rattle.rdx_forms.proofs.CheckNumbers.{HasNumber, Checks, AreChecks, refused, or_none, unnamed-number, named-number}
use Rattle.rdx_forms.proofs.ClauseStands.{AreNameless, without_repeats}

-- of the check of names that come twice
repeated-number : (o : Option Sexp) → HasNumber 3 (option_map repeated_at o)
repeated-number None r e = absurd cc
repeated-number (Some d) r e = let f : repeated_at d ≡ r = cc in ap (λ (q : Refusal). number q.kind) (sym f)

-- of that of modes
misfit-number : (o : Option (Sexp × Option Sexp)) → HasNumber 11 (option_map misfit_at o)
misfit-number None r e = absurd cc
misfit-number (Some m) r e = let f : misfit_at m ≡ r = cc in ap (λ (q : Refusal). number q.kind) (sym f)

-- the checks from S4 on
abbrev late_checks : Scope → List (List ℕ) → List Stand → Checks
late_checks S ns ss =
    (4, bad_name_at ss)
    ∷ (5, bad_place_at S ns ss)
    ∷ (6, depth_fault_at S ns ss)
    ∷ (8, unknown_name_at S ss)
    ∷ (9, undriven_at S ss)
    ∷ (10, escape_at S ss)
    ∷ (11, mode_fault_at ss)
    ∷ []

late-checks : (n : ℕ) (S : Scope) (ns : List (List ℕ)) (ss : List Stand) → n ≤ 4 → AreChecks n (late_checks S ns ss)
late-checks n S ns ss h = (
  h,
  (
    named-number BadName _,
    (
      omega arith,
      (
        unnamed-number BadPattern _,
        (
          omega arith,
          (
            named-number EllipsisDepth _,
            (
              omega arith,
              (
                named-number UnknownName _,
                (omega arith, (unnamed-number EllipsisVariable _, (omega arith, (unnamed-number RacketEscape _, (omega arith, (misfit-number _, tt)))))),
              ),
            ),
          ),
        ),
      ),
    ),
  ),
)

-- all checks
abbrev pub stand_checks : Scope → List (List ℕ) → List Stand → Checks
stand_checks S ns ss = (1, shape_at ss) ∷ (3, repeated_name_at ss) ∷ late_checks S ns ss

pub stand-checks : (S : Scope) (ns : List (List ℕ)) (ss : List Stand) → AreChecks 0 (stand_checks S ns ss)
stand-checks S ns ss = (omega arith, (unnamed-number Shape _, (omega arith, (repeated-number _, late-checks 3 S ns ss (omega arith)))))

-- those where no name may come
abbrev pub nameless_checks : Scope → List (List ℕ) → List Stand → Checks
nameless_checks S ns ss = (1, shape_at ss) ∷ late_checks S ns ss

pub nameless-checks : (S : Scope) (ns : List (List ℕ)) (ss : List Stand) → AreChecks 0 (nameless_checks S ns ss)
nameless-checks S ns ss = (omega arith, (unnamed-number Shape _, late-checks 1 S ns ss (omega arith)))

-- there these are all
pub nameless-refusal : (S : Scope) (ns : List (List ℕ)) (ss : List Stand) → AreNameless ss → stands_refusal S ns ss ≡ refused (nameless_checks S ns ss)
nameless-refusal S ns ss a = without_repeats ss (refused (late_checks S ns ss)) a

-- ---- with the language that the form names

-- no refusal but S2
unnamable-number : (o : Option Sexp) → HasNumber 2 (unnamable_language_at o)
unnamable-number None r e = absurd cc
unnamable-number (Some l) r e = by_test (is_word (codes "hole") l) e
  where
    by_test : (b : Bool) → (if b then Some (named UnknownLanguage l) else None) ≡ Some r → number r.kind ≡ 2
    by_test true f = named-number UnknownLanguage (Some l) r f
    by_test false f = absurd cc

-- a check that stands twice is as good as once
said_once : (a u r : Option Refusal) → or_else a (or_else u (or_else (or_else a r) None)) ≡ or_else a (or_else u r)
said_once None u r = ap (or_else u) (or_none r)
said_once (Some x) u r = refl

-- all checks
abbrev pub over_checks : Scope → List (List ℕ) → Option Sexp → List Stand → Checks
over_checks S ns l ss = (1, shape_at ss) ∷ (2, unnamable_language_at l) ∷ (3, repeated_name_at ss) ∷ late_checks S ns ss

pub over-checks : (S : Scope) (ns : List (List ℕ)) (l : Option Sexp) (ss : List Stand) → AreChecks 0 (over_checks S ns l ss)
over-checks S ns l ss = (
  omega arith,
  (unnamed-number Shape _, (omega arith, (unnamable-number l, (omega arith, (repeated-number _, late-checks 3 S ns ss (omega arith)))))),
)

pub over-refusal : (S : Scope) (ns : List (List ℕ)) (l : Option Sexp) (ss : List Stand) → refusal_over S ns l ss ≡ refused (over_checks S ns l ss)
over-refusal S ns l ss = said_once (shape_at ss) (unnamable_language_at l) (refused ((3, repeated_name_at ss) ∷ late_checks S ns ss))

-- those where no name may come
abbrev pub nameless_over_checks : Scope → List (List ℕ) → Option Sexp → List Stand → Checks
nameless_over_checks S ns l ss = (1, shape_at ss) ∷ (2, unnamable_language_at l) ∷ late_checks S ns ss

pub nameless-over-checks : (S : Scope) (ns : List (List ℕ)) (l : Option Sexp) (ss : List Stand) → AreChecks 0 (nameless_over_checks S ns l ss)
nameless-over-checks S ns l ss = (omega arith, (unnamed-number Shape _, (omega arith, (unnamable-number l, late-checks 2 S ns ss (omega arith)))))

pub nameless-over : (S : Scope) (ns : List (List ℕ)) (l : Option Sexp) (ss : List Stand) → AreNameless ss → refusal_over S ns l ss ≡ refused (nameless_over_checks S ns l ss)
nameless-over S ns l ss a =
    (λ i. or_else (shape_at ss) (or_else (unnamable_language_at l) (or_else (nameless-refusal S ns ss a i) None)))
    ∙ said_once (shape_at ss) (unnamable_language_at l) (refused (late_checks S ns ss))

-- the text of a symbol that is this word
word-text : (x : List ℕ) (d : Sexp) → is_word x d ≡ true → text_of d ≡ x
word-text x (leaf (integer n) s) e = absurd cc
word-text x (leaf (truth b) s) e = absurd cc
word-text x (leaf (text y) s) e = absurd cc
word-text x (leaf (symbol y) s) e = (bytes_decides y x).0 e
word-text x (leaf (keyword k) s) e = absurd cc
word-text x (list ds s) e = absurd cc

-- where the forms before define no language named `hole`, the name is refused by them too
pub unknown-unnamable : (K : Known) → is_some (language_named K.program (codes "hole")) ≡ false → (o : Option Sexp) → unknown_at K o ≡ None → unnamable_language_at o ≡ None
unknown-unnamable K h None e = refl
unknown-unnamable K h (Some l) e = by_test (is_word (codes "hole") l) refl
  where
    refused_so : (o : Option Language) → is_some o ≡ false → unknown_by o l ≡ None → ⊥
    refused_so None f g = cc
    refused_so (Some L) f g = cc

    by_test : (b : Bool) → is_word (codes "hole") l ≡ b → (if b then Some (named UnknownLanguage l) else None) ≡ None
    by_test true f =
        absurd (refused_so (language_named K.program (text_of l)) (ap (λ x. is_some (language_named K.program x)) (word-text (codes "hole") l f) ∙ h) e)
    by_test false f = refl

-- so it need not be looked at again
pub absorbed : (o p r : Option Refusal) → (o ≡ None → p ≡ None) → or_else o r ≡ or_else o (or_else p r)
absorbed None p r h = ap (λ (z : Option Refusal). or_else z r) (sym (h refl))
absorbed (Some x) p r h = refl
