-- A language that has all cross nonterminals for which the file asks gains none where a form is read over it.
use Rattle.std.proofs.Common.{◌≡◌, ◌<◌, ℕ, Bool, true, false, inl, inr, length, get_or, List, [], ◌∷◌, Some, Result, Ok, Err, map, refl, sym, ◌∙◌, ap, subst, if◌then◌else◌}
use Rattle.std.specs.Prelude.{IsTrue, OnOk, OnErr}
use Rattle.rdx_sexp.specs.Sexp.{Sexp, Sexps, leaf, list, nil, cons}
use Rattle.rdx_lang.proofs.CrossesAgain.{crosses_once}
use Rattle.rdx_lang.specs.Checked.{language_in}
use Rattle.rdx_lang.specs.Crosses.{with_crosses, with_crosses_to}
use Rattle.rdx_lang.specs.Members.{In, here, there}
use Rattle.rdx_lang.specs.Patterns.{Language}
use Rattle.rdx_lang.specs.References.{is_among}
use Rattle.rdx_lang.specs.WellFormed.{defined}
use Rattle.rdx_lang.specs.declared.checked.CheckedLang.{CheckedLang}
use Rattle.rdx_lang.specs.declared.pattern.Ref.TheVariants.{Nt}
use Rattle.rdx_lang.proofs.MemberLaws.{append-left, append-right}
use Rattle.rdx_patterns.proofs.Among.{is_among-names}
use Rattle.rdx_patterns.specs.Ends.{end_of, ends_in, ends_among, known_ends, crossed_for, Gained}
use Rattle.rdx_patterns.specs.Among.{AreAmong}
use Rattle.rdx_patterns.specs.Kinds as kinds
use Rattle.rdx_patterns.specs.Nonterminals.{names_of}
use Rattle.rdx_patterns.specs.Parts.{listed, parts}
use Rattle.rdx_patterns.specs.declared.shape.fault.DefFault.{DefFault}
use Rattle.rdx_forms.specs.DefineParts.{DefineParts, define_parts}
use Rattle.rdx_forms.specs.Ends.{define_ends, form_ends}
use Rattle.rdx_forms.specs.Fitting.{IsCrossedTo, AreCrossed}
use Rattle.rdx_lang.proofs.FactLaws.{member-at}
use Rattle.rdx_forms.proofs.FormParts.{define-items}

-- ---- a language

-- that has those to the ones of these that it knows
known-nothing : (L : Language) (ns ys : List (List ℕ)) → ((y : List ℕ) → In y ys → kinds.is_among ns y ≡ true → with_crosses L y ≡ L) → with_crosses_to L (known_ends ns ys) ≡ L
known-nothing L ns [] f = refl
known-nothing L ns (y ∷ ys) f = by_test (kinds.is_among ns y) refl (known-nothing L ns ys (λ z i. f z (there i)))
  where
    by_test : (b : Bool) → kinds.is_among ns y ≡ b → with_crosses_to L (known_ends ns ys) ≡ L
        → with_crosses_to L (if b then y ∷ known_ends ns ys else known_ends ns ys) ≡ L
    by_test true e rest = ap (λ (M : Language). with_crosses_to M (known_ends ns ys)) (f y (here refl) e) ∙ rest
    by_test false e rest = rest

-- that has those to a nonterminal of it
crossed-once : (L : Language) (y : List ℕ) → IsCrossedTo L y → kinds.is_among (names_of L) y ≡ true → with_crosses L y ≡ L
crossed-once L y c e =
    let n : IsTrue (is_among (Nt y) (defined L)) = sym (is_among-names y (defined L)) ∙ e in
    crosses_once L y (λ x h. c n x h)

-- that has those to all of these
pub crossed-same : (L : Language) (ys zs : List (List ℕ)) → ((y : List ℕ) → In y zs → IsCrossedTo L y) → AreAmong ys zs → crossed_for ys L ≡ L
crossed-same L ys zs c a = known-nothing L (names_of L) ys (λ y i e. crossed-once L y (c y (a y i)) e)

-- so it stays, whatever was read
gained-same : {A : Type 0} (L M : Language) (ys : List (List ℕ)) (r : Result A DefFault) → crossed_for ys L ≡ L → Gained L ys r M → M ≡ L
gained-same L M ys (Ok x) e g = g ∙ e
gained-same L M ys (Err f) e (inl g) = g
gained-same L M ys (Err f) e (inr g) = g ∙ e

-- what is said of what was read and of what was not
pub gained-by : {A : Type 0} (L M : Language) (ys : List (List ℕ)) (r : Result A DefFault) → OnOk r (M ≡ crossed_for ys L) → OnErr r (M ≡ L) → Gained L ys r M
gained-by L M ys (Ok x) g s = g
gained-by L M ys (Err f) g s = inl s

-- ---- what is known

-- the language at a place of those that are known
pub gained-at : {A : Type 0} (ls : List CheckedLang) (i : ℕ) (x y : CheckedLang) (ys zs : List (List ℕ)) (r : Result A DefFault) → i < length ls → x ≡ get_or ls i x
    → AreCrossed (map language_in ls) zs → AreAmong ys zs → Gained (language_in x) ys r (language_in y) → language_in y ≡ language_in (get_or ls i x)
gained-at ls i x y ys zs r h e c a g =
    gained-same (language_in x) (language_in y) ys r
    (crossed-same (language_in x) ys zs (λ z j. c (language_in x) (member-at language_in ls i x h e) z j) a) g
    ∙ ap language_in e

-- ---- the parts of a form

-- what each of these asks for is among those
abbrev pub AskAmong : List (List ℕ) → List Sexp → Type 0
AskAmong zs [] = Unit {0}
AskAmong zs (d ∷ ds) = AreAmong (ends_in d) zs × AskAmong zs ds

-- of several data, where all of it is
data-ask : (zs : List (List ℕ)) (ds : Sexps) → AreAmong (ends_among ds) zs → AskAmong zs (listed ds)
data-ask zs nil a = tt
data-ask zs (cons d ds) a =
    (λ y i. a y (append-left (ends_in d) (ends_among ds) y i), data-ask zs ds (λ y i. a y (append-right (ends_in d) (ends_among ds) y i)))

-- of the parts of a form
pub parts-ask : (zs : List (List ℕ)) (d : Sexp) (ds : List Sexp) → parts d ≡ Some ds → AreAmong (ends_in d) zs → AskAmong zs ds
parts-ask zs (leaf a s) ds e h = absurd cc
parts-ask zs (list es s) ds e h =
    let f : listed es ≡ ds = cc in
    subst (AskAmong zs) f (data-ask zs es (λ y i. h y (append-right (end_of es) (ends_among es) y i)))

-- its data ask for some of what it does
pub data-asked : (zs : List (List ℕ)) (d : Sexp) → AreAmong (form_ends d) zs → AreAmong (ends_in d) zs
data-asked zs d a = λ y i. a y (append-right (define_ends (define_parts d)) (ends_in d) y i)

-- so does the relation that it defines
pub define-asked : (zs : List (List ℕ)) (d : Sexp) → AreAmong (form_ends d) zs → AreAmong (define_ends (define_parts d)) zs
define-asked zs d a = λ y i. a y (append-left (define_ends (define_parts d)) (ends_in d) y i)

-- and the list in a form that defines a relation
pub body-asks : (zs : List (List ℕ)) (d : Sexp) (q : DefineParts) → define_parts d ≡ Some q → AreAmong (form_ends d) zs → AreAmong (ends_in q.body) zs
body-asks zs d q e a =
    let k = define-items d q e in
    (parts-ask zs d (k.head ∷ q.name ∷ q.body ∷ q.rest) k.are (data-asked zs d a)).1.1.0
