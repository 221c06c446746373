-- A relation without shortcuts is what it is written as.
use Rattle.std.proofs.Common.{◌≡◌, ◌∙◌, ℕ, Bool, true, false, List, [], ◌∷◌, Option, Some, None, map, length, refl, sym, ap, arith, if◌then◌else◌}
use Rattle.std.proofs.lemmas.Bool.Decides.{nat_tests}
use Rattle.std.specs.Prelude.{IfOk, Result, Ok, Err, Vec, codes, nat_eq}
use Rattle.std.specs.declared.alloc.Global.{Global}
use Rattle.rdx_base.specs.declared.place.Span.{Span}
use Rattle.rdx_sexp.specs.Sexp.{Sexp, Sexps, leaf, list, nil, cons, sexps, span_of}
use Rattle.rdx_term.specs.declared.error.NoMemory.{NoMemory}
use Rattle.rdx_patterns.specs.Parts.{listed, is_symbol, is_word}
use Rattle.rdx_relations.specs.Expansion.{settled, expanded_by, used_shortcuts, expanded_cases, expanded_form}
use Rattle.rdx_relations.specs.RelationEnds.{expanded_ends, ends_by, relation_ends}
use Rattle.rdx_relations.specs.RelationForms.{CaseForm, case_among, case_form, RelationForm, relation_form}
use Rattle.rdx_relations.specs.Shorthand.{before_with, behind_with}

-- data as the list of them
relisted : (ds : Sexps) → sexps (listed ds) ≡ ds
relisted nil = refl
relisted (cons d ds) = ap (cons d) (relisted ds)

-- a case by no shortcut stays
case-stays : (s : Span) (xs : List Sexp) (o : Option CaseForm) → case_among (Some xs) ≡ o → (d : Sexp) → d ≡ list (sexps xs) s → expanded_by [] d o ≡ d
case-stays s xs None e d f = refl
case-stays s [] (Some c) e d f = absurd cc
case-stays s (a ∷ []) (Some c) e d f = absurd cc
case-stays s (a ∷ p ∷ []) (Some c) e d f = absurd cc
case-stays s (a ∷ p ∷ t ∷ es) (Some c) e d f = by_test (is_symbol a) e
  where
    whole : CaseForm → Sexp
    whole x = list (sexps (x.arrow ∷ x.pattern ∷ x.result ∷ x.extras)) (span_of d)

    settled-same : (x : CaseForm) → whole (settled x x) ≡ whole x
    settled-same x = by_arrow (is_word (codes "-->") x.arrow)
      where
        by_arrow : (b : Bool) → whole (if b then x else record { arrow = x.arrow; pattern = x.pattern; result = x.result; extras = x.extras }) ≡ whole x
        by_arrow true = refl
        by_arrow false = refl

    by_test : (b : Bool) → (if b then Some (record { arrow = a; pattern = p; result = t; extras = es }) else None) ≡ Some c → whole (settled c c) ≡ d
    by_test true g =
        let k : c ≡ record { arrow = a; pattern = p; result = t; extras = es } = cc in
        settled-same c ∙ ap whole k ∙ ap (λ x. list (sexps (a ∷ p ∷ t ∷ es)) (span_of x)) f ∙ sym f
    by_test false g = absurd cc

datum-stays : (d : Sexp) → expanded_by [] d (case_form d) ≡ d
datum-stays (leaf a s) = refl
datum-stays (list ds s) = case-stays s (listed ds) (case_among (Some (listed ds))) refl (list ds s) (ap (λ xs. list xs s) (sym (relisted ds)))

data-stay : (ds : List Sexp) → map (λ d. expanded_by [] d (case_form d)) ds ≡ ds
data-stay [] = refl
data-stay (d ∷ ds) = λ i. datum-stays d i ∷ data-stay ds i

-- without shortcuts behind them the cases are those that are written
pub plain-cases : (r : RelationForm) → behind_with r.cases ≡ [] → expanded_cases r ≡ before_with r.cases
plain-cases r e =
    (λ i. map (λ d. expanded_by (used_shortcuts (e i)) d (case_form d)) (before_with r.cases)) ∙ data-stay (before_with r.cases)

-- so is the whole relation
pub plain-form : (r : RelationForm) (cs : List Sexp) → cs ≡ before_with r.cases → behind_with r.cases ≡ []
    → record { language = r.language; domain = r.domain; cases = cs } ≡ expanded_form r
plain-form r cs f e =
    let k = f ∙ sym (plain-cases r e) in
    λ i. record { language = r.language; domain = r.domain; cases = k i }

-- and it asks for the cross nonterminals for which those do
pub ends-of : (q : Result (Vec (List ℕ) Global) NoMemory) (d : Sexp) (r : RelationForm) (cs : List Sexp) → relation_form d ≡ Some r → cs ≡ before_with r.cases
    → behind_with r.cases ≡ [] → IfOk q (λ ends. ends.items ≡ expanded_ends (record { language = r.language; domain = r.domain; cases = cs }))
    → IfOk q (λ ends. ends.items ≡ relation_ends d)
ends-of (Ok ends) d r cs e f g h = h ∙ ap expanded_ends (plain-form r cs f g) ∙ ap ends_by (sym e)
ends-of (Err x) d r cs e f g h = tt

-- a number that is tested for zero
is_zero : (n : ℕ) → nat_eq n 0 ≡ true → n ≡ 0
is_zero n e = grind (arith, nat_tests)

-- no data are in an empty list
pub no-data : (ds : List Sexp) (b : Bool) → b ≡ nat_eq (length ds) 0 → b ≡ true → ds ≡ []
no-data [] b e f = refl
no-data (d ∷ ds) b e f = absurd (let z = is_zero (length (d ∷ ds)) (sym e ∙ f) in cc)
