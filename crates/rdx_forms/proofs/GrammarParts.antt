-- Forms that define languages without their binding forms.
use Rattle.std.proofs.Common.{◌≡◌, ◌≤◌, Bool, true, false, List, [], ◌∷◌, Option, Some, None, refl, sym, ap, ◌∙◌, arith, if◌then◌else◌}
use Rattle.std.specs.Prelude.{codes, bytes_eq, max, option_map}
use Rattle.rdx_sexp.specs.Sexp.{integer, truth, text, symbol, keyword, Sexp, Sexps, leaf, list, nil, cons, sexps}
use Rattle.rdx_sexp.specs.Size.{sexp_depth, sexps_depth, IsSpelledSexp, AreSpelled}
use Rattle.rdx_alpha.specs.Checks.{misshapen, duplicate}
use Rattle.rdx_alpha.specs.Written.{behind_key}
use Rattle.rdx_patterns.specs.Parts.{listed}
use Rattle.rdx_patterns.specs.Readable.{IsReadable}
use Rattle.rdx_patterns.specs.Refusal.{Refusal, unnamed, named, or_else}
use Rattle.rdx_patterns.specs.declared.shape.fault.DefKind.TheVariants.{Shape, Duplicate}
use Rattle.rdx_forms.specs.BindingParts.{is_binding_key, before_key, grammar_part, binding_refusal}
use Rattle.rdx_forms.specs.FormKinds.{kind_by_head, kind_among, form_kind}
use Rattle.rdx_forms.specs.Inside.Copies.{before_among, has_key_among, has_key}

-- ---- lists of the code

-- the data before the keyword, of a list
pub before_sexps : (ds : List Sexp) → before_key (sexps ds) ≡ sexps (before_among ds)
before_sexps [] = refl
before_sexps (d ∷ ds) = by_test (is_binding_key d) (before_sexps ds)
  where
    by_test : (b : Bool) → before_key (sexps ds) ≡ sexps (before_among ds)
        → (if b then nil else cons d (before_key (sexps ds))) ≡ sexps (if b then [] else d ∷ before_among ds)
    by_test true e = refl
    by_test false e = ap (cons d) e

-- ---- forms without the keyword

-- data without it stay as they are
all-before : (ds : Sexps) → has_key_among (listed ds) ≡ false → before_key ds ≡ ds
all-before nil e = refl
all-before (cons d ds) e = by_test (is_binding_key d) e (all-before ds)
  where
    by_test : (b : Bool) → (if b then true else has_key_among (listed ds)) ≡ false → (has_key_among (listed ds) ≡ false → before_key ds ≡ ds)
        → (if b then nil else cons d (before_key ds)) ≡ cons d ds
    by_test true f g = absurd cc
    by_test false f g = ap (cons d) (g f)

-- so does a form
pub unchanged : (d : Sexp) → has_key d ≡ false → grammar_part d ≡ d
unchanged (leaf a s) e = refl
unchanged (list ds s) e = ap (λ es. list es s) (all-before ds e)

-- it is none of the data before it
none-before : (ds : Sexps) → has_key_among (listed (before_key ds)) ≡ false
none-before nil = refl
none-before (cons d ds) = by_test (is_binding_key d) refl (none-before ds)
  where
    by_test : (b : Bool) → is_binding_key d ≡ b → has_key_among (listed (before_key ds)) ≡ false
        → has_key_among (listed (if b then nil else cons d (before_key ds))) ≡ false
    by_test true e f = refl
    by_test false e f = (λ i. if e i then true else has_key_among (listed (before_key ds))) ∙ f

no-key : (d : Sexp) → has_key (grammar_part d) ≡ false
no-key (leaf a s) = refl
no-key (list ds s) = none-before ds

-- the part of a part is the part
pub part-again : (d : Sexp) → grammar_part (grammar_part d) ≡ grammar_part d
part-again d = unchanged (grammar_part d) (no-key d)

-- ---- the binding forms of a part

-- where the keyword is none of these, nothing stands behind it
nothing-behind : (ds : List Sexp) → has_key_among ds ≡ false → behind_key ds ≡ []
nothing-behind [] e = refl
nothing-behind (d ∷ ds) e = by_test (is_binding_key d) e (nothing-behind ds)
  where
    by_test : (b : Bool) → (if b then true else has_key_among ds) ≡ false → (has_key_among ds ≡ false → behind_key ds ≡ [])
        → (if b then ds else behind_key ds) ≡ []
    by_test true f g = absurd cc
    by_test false f g = g f

-- the refusal of binding forms that data write
abbrev written_refusal : List Sexp → Option Refusal
written_refusal ds = or_else (option_map (unnamed Shape) (misshapen ds)) (option_map (named Duplicate) (duplicate [] ds))

-- none of a form without the keyword is refused
unrefused : (d : Sexp) → has_key d ≡ false → binding_refusal d ≡ None
unrefused (leaf a s) e = refl
unrefused (list ds s) e = ap written_refusal (nothing-behind (listed ds) e)

-- none of a part is
pub part-unrefused : (d : Sexp) → binding_refusal (grammar_part d) ≡ None
part-unrefused d = unrefused (grammar_part d) (no-key d)

-- ---- what a part is else

-- a part nests no deeper
depth-before : (ds : Sexps) → sexps_depth (before_key ds) ≤ sexps_depth ds
depth-before nil = omega arith
depth-before (cons d ds) = by_test (is_binding_key d) (depth-before ds)
  where
    by_test : (b : Bool) → sexps_depth (before_key ds) ≤ sexps_depth ds
        → sexps_depth (if b then nil else cons d (before_key ds)) ≤ max (sexp_depth d) (sexps_depth ds)
    by_test true h = omega arith
    by_test false h = omega (arith, h)

spelled-before : (ds : Sexps) → AreSpelled ds → AreSpelled (before_key ds)
spelled-before nil h = tt
spelled-before (cons d ds) h = by_test (is_binding_key d) (spelled-before ds h.1)
  where
    by_test : (b : Bool) → AreSpelled (before_key ds) → AreSpelled (if b then nil else cons d (before_key ds))
    by_test true k = tt
    by_test false k = (h.0, k)

-- it can be read where the form can
pub part-readable : (d : Sexp) → IsReadable d → IsReadable (grammar_part d)
part-readable (leaf a s) z = z
part-readable (list ds s) z =
    let h : sexps_depth (before_key ds) ≤ sexps_depth ds = depth-before ds in
    record { nested = omega (arith, h, z.nested); spelled = spelled-before ds z.spelled }

-- what a list with such a head does
by-first : (d : Sexp) (ds : Sexps) → kind_among (Some (listed (before_key (cons d ds)))) ≡ kind_by_head d
by-first (leaf (integer n) s) ds = refl
by-first (leaf (truth b) s) ds = refl
by-first (leaf (text t) s) ds = refl
by-first (leaf (symbol x) s) ds = refl
by-first (leaf (keyword x) s) ds = by_test (bytes_eq x (codes "binding-forms"))
  where
    by_test : (b : Bool) → kind_among (Some (listed (if b then nil else cons (leaf (keyword x) s) (before_key ds)))) ≡ kind_by_head (leaf (keyword x) s)
    by_test true = refl
    by_test false = refl
by-first (list es s) ds = refl

-- it does what the form does
pub part-kind : (d : Sexp) → form_kind (grammar_part d) ≡ form_kind d
part-kind (leaf a s) = refl
part-kind (list nil s) = refl
part-kind (list (cons d ds) s) = by-first d ds
