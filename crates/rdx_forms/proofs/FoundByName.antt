-- What is found: what is found by its name is one of those among which it is found.
use Rattle.std.proofs.Common.{◌≡◌, ◌++◌, ℕ, Bool, true, false, List, [], ◌∷◌, Option, Some, None, refl, sym, ap, IsTrue, not, if◌then◌else◌}
use Rattle.std.specs.Prelude.{bytes_eq, codes, is_some, option_map}
use Rattle.rdx_term.specs.Spelling.{is_symbol_spelling, is_name}
use Rattle.rdx_patterns.proofs.Booleans.{and_true, not_true}
use Rattle.rdx_sexp.specs.Sexp.{Sexp}
use Rattle.rdx_lang.specs.Members.{In, here, there}
use Rattle.rdx_lang.specs.Patterns.{Language}
use Rattle.rdx_lang.specs.Programs.{Judgement, Relation, language_among, judgement_among, relation_among}
use Rattle.rdx_forms.specs.LanguageForms.{unknown_by}
use Rattle.rdx_forms.specs.StepForms.{unknown_relation_by}

-- there is a value
pub record HasValue (A : Type 0) (o : Option A) : Type 0 where
  pub value : A
  pub is : o ≡ Some value

-- what a function gives, where there is a value
pub mapped : {A B : Type 0} (f : A → B) (o : Option A) → HasValue A o → HasValue B (option_map f o)
mapped f o h = record { value = f h.value; is = ap (option_map f) h.is }

-- a language whose name is not refused
pub language-found : (o : Option Language) (l : Sexp) → unknown_by o l ≡ None → HasValue Language o
language-found None l e = absurd cc
language-found (Some L) l e = record { value = L; is = refl }

-- a relation whose name is not refused
pub relation-found : (o : Option Relation) (r : Sexp) → unknown_relation_by o r ≡ None → HasValue Relation o
relation-found None r e = absurd cc
relation-found (Some R) r e = record { value = R; is = refl }

-- the first of them, or one behind it
found-by : {A : Type 0} (b : Bool) (x y : A) (xs : List A) (o : Option A) → (o ≡ Some y → In y xs) → (if b then Some x else o) ≡ Some y → In y (x ∷ xs)
found-by true x y xs o f e = here (let g : x ≡ y = cc in sym g)
found-by false x y xs o f e = there (f e)

-- a language that is found is one of them
pub language-among : (Ls : List Language) (x : List ℕ) (M : Language) → language_among Ls x ≡ Some M → In M Ls
language-among [] x M e = absurd cc
language-among (L ∷ Ls) x M e = found-by (bytes_eq L.name x) L M Ls (language_among Ls x) (language-among Ls x M) e

-- none is found with one more of another name behind them
pub no_more : (Ls : List Language) (L : Language) (x : List ℕ) → is_some (language_among Ls x) ≡ false → bytes_eq L.name x ≡ false
    → is_some (language_among (Ls ++ L ∷ []) x) ≡ false
no_more [] L x h e = ap (λ (b : Bool). is_some (if b then Some L else None)) e
no_more (M ∷ Ls) L x h e = by_test (bytes_eq M.name x) h (λ f. no_more Ls L x f e)
  where
    by_test : (b : Bool) → is_some (if b then Some M else language_among Ls x) ≡ false
        → (is_some (language_among Ls x) ≡ false → is_some (language_among (Ls ++ L ∷ []) x) ≡ false)
        → is_some (if b then Some M else language_among (Ls ++ L ∷ []) x) ≡ false
    by_test true f g = absurd cc
    by_test false f g = g f

-- a language's name is another than `hole`
pub no_hole : (L : Language) → IsTrue (is_name L.name) → bytes_eq L.name (codes "hole") ≡ false
no_hole L h = not_true (bytes_eq L.name (codes "hole")) (and_true (is_symbol_spelling L.name) (not (bytes_eq L.name (codes "hole"))) h).1

-- so is a relation
pub relation-among : (Rs : List Relation) (x : List ℕ) (M : Relation) → relation_among Rs x ≡ Some M → In M Rs
relation-among [] x M e = absurd cc
relation-among (R ∷ Rs) x M e = found-by (bytes_eq R.name x) R M Rs (relation_among Rs x) (relation-among Rs x M) e

-- so is a judgement
pub judgement-among : (Js : List Judgement) (x : List ℕ) (J : Judgement) → judgement_among Js x ≡ Some J → In J Js
judgement-among [] x J e = absurd cc
judgement-among (I ∷ Js) x J e = found-by (bytes_eq I.name x) I J Js (judgement_among Js x) (judgement-among Js x J) e

-- the same first, and what is found behind it stays found
stays-by : (b : Bool) (L N : Language) (o p : Option Language) → (o ≡ Some N → p ≡ Some N) → (if b then Some L else o) ≡ Some N → (if b then Some L else p) ≡ Some N
stays-by true L N o p f e = e
stays-by false L N o p f e = f e

-- a language that is found stays found behind one more
pub language-stays : (Ls : List Language) (M N : Language) (x : List ℕ) → language_among Ls x ≡ Some N → language_among (Ls ++ M ∷ []) x ≡ Some N
language-stays [] M N x e = absurd cc
language-stays (L ∷ Ls) M N x e = stays-by (bytes_eq L.name x) L N (language_among Ls x) (language_among (Ls ++ M ∷ []) x) (language-stays Ls M N x) e
