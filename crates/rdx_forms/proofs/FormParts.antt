-- The parts of a form, which can be read where the form can.
use Rattle.std.proofs.Common.{◌≡◌, ◌<◌, Bool, true, false, List, [], ◌∷◌, Option, Some, None, refl, subst, arith}
use Rattle.std.specs.Prelude.{◌&&◌, if◌then◌else◌}
use Rattle.rdx_sexp.specs.Sexp.{Sexp, Sexps, leaf, list, nil, cons}
use Rattle.rdx_sexp.specs.Size.{sexps_depth, AreSpelled}
use Rattle.rdx_patterns.specs.Parts.{listed, parts, is_symbol}
use Rattle.rdx_patterns.specs.Readable.{IsReadable}
use Rattle.rdx_forms.specs.GenerateForms.{GenerateParts, check_parts, generate_among, generate_parts, in_pairs, is_integer, with_size}
use Rattle.rdx_forms.specs.Options.{are_pairs}
use Rattle.rdx_forms.specs.MatchForms.{QueryParts, query_among, query_parts}
use Rattle.rdx_forms.specs.DefineParts.{DefineKind, DefineParts, ClosureParts, kind_among, define_by, define_among, define_parts, closure_among, closure_parts}
use Rattle.rdx_forms.specs.StepForms.{StepParts, steps_among, step_parts}
use Rattle.rdx_forms.specs.TestForms.{EqualParts, LeadingParts, equal_among, leading_among, equal_parts, leading_parts}
use Rattle.rdx_forms.specs.AlphaForms.{AlikeParts, PutParts, alike_among, put_among, alike_parts, put_parts}
use Rattle.rdx_forms.specs.Fitting.{AreReadable}

-- ---- what can be read

-- data that nest less deep can
data-readable : (ds : Sexps) → sexps_depth ds < 4294967296 → AreSpelled ds → AreReadable (listed ds)
data-readable nil h s = tt
data-readable (cons d ds) h s = (record { nested = omega (arith, h); spelled = s.0 }, data-readable ds (omega (arith, h)) s.1)

-- the parts of what can be read can
pub parts-readable : (d : Sexp) (ds : List Sexp) → parts d ≡ Some ds → IsReadable d → AreReadable ds
parts-readable (leaf a s) ds e z = absurd cc
parts-readable (list es s) ds e z = let f : listed es ≡ ds = cc in subst AreReadable f (data-readable es (omega (arith, z.nested)) z.spelled)

-- ---- the parts of forms are their items

-- what holds of something holds of what a test lets pass of it
passed-by : {A : Type 0} (P : A → Type 0) (b : Bool) (p q : A) → P p → (if b then Some p else None) ≡ Some q → P q
passed-by P true p q k e = let f : p ≡ q = cc in subst P f k
passed-by P false p q k e = absurd cc

-- the four items of a query
pub record QueryItems (o : Option (List Sexp)) (q : QueryParts) : Type 0 where
  pub head : Sexp
  pub are : o ≡ Some (head ∷ q.language ∷ q.pattern ∷ q.host ∷ [])

items_of-query : (o : Option (List Sexp)) (q : QueryParts) → query_among o ≡ Some q → QueryItems o q
items_of-query None q e = absurd cc
items_of-query (Some []) q e = absurd cc
items_of-query (Some (h ∷ [])) q e = absurd cc
items_of-query (Some (h ∷ l ∷ [])) q e = absurd cc
items_of-query (Some (h ∷ l ∷ p ∷ [])) q e = absurd cc
items_of-query (Some (h ∷ l ∷ p ∷ t ∷ [])) q e =
    let r : QueryParts = record { language = l; pattern = p; host = t } in
    let f : r ≡ q = cc in
    subst (QueryItems (Some (h ∷ l ∷ p ∷ t ∷ []))) f (record { head = h; are = refl })
items_of-query (Some (h ∷ l ∷ p ∷ t ∷ x ∷ xs)) q e = absurd cc

pub query-items : (d : Sexp) (q : QueryParts) → query_parts d ≡ Some q → QueryItems (parts d) q
query-items d q e = items_of-query (parts d) q e

-- the items of a form that generates a term or checks a property
pub record GenerateItems (o : Option (List Sexp)) (q : GenerateParts) : Type 0 where
  pub head : Sexp
  pub are : o ≡ Some (head ∷ q.language ∷ q.pattern ∷ q.third ∷ q.options)

items_of-generate : (o : Option (List Sexp)) (q : GenerateParts) → in_pairs (generate_among o) ≡ Some q → GenerateItems o q
items_of-generate None q e = absurd cc
items_of-generate (Some []) q e = absurd cc
items_of-generate (Some (h ∷ [])) q e = absurd cc
items_of-generate (Some (h ∷ l ∷ [])) q e = absurd cc
items_of-generate (Some (h ∷ l ∷ p ∷ [])) q e = absurd cc
items_of-generate (Some (h ∷ l ∷ p ∷ t ∷ os)) q e =
    passed-by (GenerateItems (Some (h ∷ l ∷ p ∷ t ∷ os))) (is_symbol l && are_pairs os) (record { language = l; pattern = p; third = t; options = os }) q
    (record { head = h; are = refl }) e

-- of one that checks a property
pub check-items : (d : Sexp) (q : GenerateParts) → check_parts d ≡ Some q → GenerateItems (parts d) q
check-items d q e = items_of-generate (parts d) q e

-- of one that generates a term
pub generate-items : (d : Sexp) (q : GenerateParts) → generate_parts d ≡ Some q → GenerateItems (parts d) q
generate-items d q e = check-items d q (sized (check_parts d) q e)
  where
    by_test : (b : Bool) (p q : GenerateParts) → (if b then Some p else None) ≡ Some q → Some p ≡ Some q
    by_test true p q e = e
    by_test false p q e = absurd cc

    sized : (o : Option GenerateParts) (q : GenerateParts) → with_size o ≡ Some q → o ≡ Some q
    sized None q e = absurd cc
    sized (Some p) q e = by_test (is_integer p.third) p q e

-- the three items of a form that asks for steps
pub record StepItems (o : Option (List Sexp)) (q : StepParts) : Type 0 where
  pub head : Sexp
  pub are : o ≡ Some (head ∷ q.relation ∷ q.host ∷ [])

items_of-steps : (o : Option (List Sexp)) (q : StepParts) → steps_among o ≡ Some q → StepItems o q
items_of-steps None q e = absurd cc
items_of-steps (Some []) q e = absurd cc
items_of-steps (Some (h ∷ [])) q e = absurd cc
items_of-steps (Some (h ∷ l ∷ [])) q e = absurd cc
items_of-steps (Some (h ∷ l ∷ t ∷ [])) q e =
    let r : StepParts = record { relation = l; host = t } in
    let f : r ≡ q = cc in
    subst (StepItems (Some (h ∷ l ∷ t ∷ []))) f (record { head = h; are = refl })
items_of-steps (Some (h ∷ l ∷ t ∷ x ∷ xs)) q e = absurd cc

pub step-items : (d : Sexp) (q : StepParts) → step_parts d ≡ Some q → StepItems (parts d) q
step-items d q e = items_of-steps (parts d) q e

-- the three items of a test of two host expressions
pub record EqualItems (o : Option (List Sexp)) (q : EqualParts) : Type 0 where
  pub head : Sexp
  pub are : o ≡ Some (head ∷ q.found ∷ q.wanted ∷ [])

items_of-equal : (o : Option (List Sexp)) (q : EqualParts) → equal_among o ≡ Some q → EqualItems o q
items_of-equal None q e = absurd cc
items_of-equal (Some []) q e = absurd cc
items_of-equal (Some (h ∷ [])) q e = absurd cc
items_of-equal (Some (h ∷ t ∷ [])) q e = absurd cc
items_of-equal (Some (h ∷ t ∷ u ∷ [])) q e =
    let r : EqualParts = record { found = t; wanted = u } in
    let f : r ≡ q = cc in
    subst (EqualItems (Some (h ∷ t ∷ u ∷ []))) f (record { head = h; are = refl })
items_of-equal (Some (h ∷ t ∷ u ∷ x ∷ xs)) q e = absurd cc

pub equal-items : (d : Sexp) (q : EqualParts) → equal_parts d ≡ Some q → EqualItems (parts d) q
equal-items d q e = items_of-equal (parts d) q e

-- the items of a test of a relation
pub record LeadingItems (o : Option (List Sexp)) (q : LeadingParts) : Type 0 where
  pub head : Sexp
  pub are : o ≡ Some (head ∷ q.relation ∷ q.from ∷ q.wanted)

items_of-leading : (o : Option (List Sexp)) (q : LeadingParts) → leading_among o ≡ Some q → LeadingItems o q
items_of-leading None q e = absurd cc
items_of-leading (Some []) q e = absurd cc
items_of-leading (Some (h ∷ [])) q e = absurd cc
items_of-leading (Some (h ∷ r ∷ [])) q e = absurd cc
items_of-leading (Some (h ∷ r ∷ t ∷ us)) q e =
    passed-by (LeadingItems (Some (h ∷ r ∷ t ∷ us))) (is_symbol r) (record { relation = r; from = t; wanted = us }) q
    (record { head = h; are = refl }) e

pub leading-items : (d : Sexp) (q : LeadingParts) → leading_parts d ≡ Some q → LeadingItems (parts d) q
leading-items d q e = items_of-leading (parts d) q e

-- the items of a form that defines a relation
pub record DefineItems (o : Option (List Sexp)) (q : DefineParts) : Type 0 where
  pub head : Sexp
  pub are : o ≡ Some (head ∷ q.name ∷ q.body ∷ q.rest)

-- by what the list says
items_by-kind : (k : Option DefineKind) (h x body : Sexp) (ds : List Sexp) (q : DefineParts) → define_by k x body ds ≡ Some q → DefineItems (Some (h ∷ x ∷ body ∷ ds)) q
items_by-kind None h x body ds q e = absurd cc
items_by-kind (Some k) h x body ds q e =
    let p : DefineParts = record { kind = k; name = x; body = body; rest = ds } in
    let f : p ≡ q = cc in
    subst (DefineItems (Some (h ∷ x ∷ body ∷ ds))) f (record { head = h; are = refl })

-- where the name is a symbol
items_by-symbol : (b : Bool) (k : Option DefineKind) (h x body : Sexp) (ds : List Sexp) (q : DefineParts) → (if b then define_by k x body ds else None) ≡ Some q → DefineItems (Some (h ∷ x ∷ body ∷ ds)) q
items_by-symbol true k h x body ds q e = items_by-kind k h x body ds q e
items_by-symbol false k h x body ds q e = absurd cc

items_of-define : (o : Option (List Sexp)) (q : DefineParts) → define_among o ≡ Some q → DefineItems o q
items_of-define None q e = absurd cc
items_of-define (Some []) q e = absurd cc
items_of-define (Some (h ∷ [])) q e = absurd cc
items_of-define (Some (h ∷ x ∷ [])) q e = absurd cc
items_of-define (Some (h ∷ x ∷ body ∷ ds)) q e = items_by-symbol (is_symbol x) (kind_among (parts body)) h x body ds q e

pub define-items : (d : Sexp) (q : DefineParts) → define_parts d ≡ Some q → DefineItems (parts d) q
define-items d q e = items_of-define (parts d) q e

-- the items of a list that says of which relation another one is a closure
pub record ClosureItems (o : Option (List Sexp)) (q : ClosureParts) : Type 0 where
  pub head : Sexp
  pub are : o ≡ Some (head ∷ q.relation ∷ q.language ∷ q.by ∷ [])

items_of-closure : (o : Option (List Sexp)) (q : ClosureParts) → closure_among o ≡ Some q → ClosureItems o q
items_of-closure None q e = absurd cc
items_of-closure (Some []) q e = absurd cc
items_of-closure (Some (h ∷ [])) q e = absurd cc
items_of-closure (Some (h ∷ r ∷ [])) q e = absurd cc
items_of-closure (Some (h ∷ r ∷ l ∷ [])) q e = absurd cc
items_of-closure (Some (h ∷ r ∷ l ∷ p ∷ [])) q e =
    passed-by (ClosureItems (Some (h ∷ r ∷ l ∷ p ∷ []))) (is_symbol r && is_symbol l) (record { relation = r; language = l; by = p }) q
    (record { head = h; are = refl }) e
items_of-closure (Some (h ∷ r ∷ l ∷ p ∷ x ∷ xs)) q e = absurd cc

pub closure-items : (d : Sexp) (q : ClosureParts) → closure_parts d ≡ Some q → ClosureItems (parts d) q
closure-items d q e = items_of-closure (parts d) q e

-- the items of a form that asks whether terms are alpha equivalent
pub record AlikeItems (o : Option (List Sexp)) (q : AlikeParts) : Type 0 where
  pub head : Sexp
  pub are : o ≡ Some (head ∷ q.language ∷ q.one ∷ q.other ∷ [])

items_of-alike : (o : Option (List Sexp)) (q : AlikeParts) → alike_among o ≡ Some q → AlikeItems o q
items_of-alike None q e = absurd cc
items_of-alike (Some []) q e = absurd cc
items_of-alike (Some (h ∷ [])) q e = absurd cc
items_of-alike (Some (h ∷ l ∷ [])) q e = absurd cc
items_of-alike (Some (h ∷ l ∷ t ∷ [])) q e = absurd cc
items_of-alike (Some (h ∷ l ∷ t ∷ u ∷ [])) q e =
    passed-by (AlikeItems (Some (h ∷ l ∷ t ∷ u ∷ []))) (is_symbol l) (record { language = l; one = t; other = u }) q
    (record { head = h; are = refl }) e
items_of-alike (Some (h ∷ l ∷ t ∷ u ∷ x ∷ xs)) q e = absurd cc

pub alike-items : (d : Sexp) (q : AlikeParts) → alike_parts d ≡ Some q → AlikeItems (parts d) q
alike-items d q e = items_of-alike (parts d) q e

-- the items of a form that puts a term for a symbol
pub record PutItems (o : Option (List Sexp)) (q : PutParts) : Type 0 where
  pub head : Sexp
  pub are : o ≡ Some (head ∷ q.language ∷ q.whole ∷ q.symbol ∷ q.value ∷ [])

items_of-put : (o : Option (List Sexp)) (q : PutParts) → put_among o ≡ Some q → PutItems o q
items_of-put None q e = absurd cc
items_of-put (Some []) q e = absurd cc
items_of-put (Some (h ∷ [])) q e = absurd cc
items_of-put (Some (h ∷ l ∷ [])) q e = absurd cc
items_of-put (Some (h ∷ l ∷ t ∷ [])) q e = absurd cc
items_of-put (Some (h ∷ l ∷ t ∷ u ∷ [])) q e = absurd cc
items_of-put (Some (h ∷ l ∷ t ∷ u ∷ v ∷ [])) q e =
    passed-by (PutItems (Some (h ∷ l ∷ t ∷ u ∷ v ∷ []))) (is_symbol l) (record { language = l; whole = t; symbol = u; value = v }) q
    (record { head = h; are = refl }) e
items_of-put (Some (h ∷ l ∷ t ∷ u ∷ v ∷ x ∷ xs)) q e = absurd cc

pub put-items : (d : Sexp) (q : PutParts) → put_parts d ≡ Some q → PutItems (parts d) q
put-items d q e = items_of-put (parts d) q e
