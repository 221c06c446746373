-- Shortcuts that stand in one another, datum by datum.
use Rattle.std.proofs.Common.{◌≡◌, ◌∙◌, ℕ, Bool, true, false, List, [], ◌∷◌, map, refl, sym, ap, if◌then◌else◌}
use Rattle.std.proofs.lemmas.List.{map-id}
use Rattle.std.specs.Prelude.{codes}
use Rattle.rdx_base.specs.declared.place.Span.{Span}
use Rattle.rdx_sexp.specs.Sexp.{Atom, Sexp, leaf, list, cons, sexps}
use Rattle.rdx_patterns.specs.Parts.{is_word, text_of}
use Rattle.rdx_relations.specs.Expansion.{replaced, replaced_in, settled}
use Rattle.rdx_relations.specs.Inside.Filling.{symbol_in, nested, outermost, filled, is_replaced, by_shortcuts, old_arrow, parts_by, case_parts}
use Rattle.rdx_relations.specs.RelationForms.{CaseForm}
use Rattle.rdx_relations.specs.Shorthand.{Shortcut}
use Rattle.rdx_relations.specs.declared.shorthand.filling.Side.{Side}
use Rattle.rdx_relations.specs.declared.shorthand.filling.Side.TheVariants.{OfPattern, OfResult}

-- the symbol is replaced
replaced-word : (x : List ℕ) (e d : Sexp) → is_word x d ≡ true → replaced x e d ≡ e
replaced-word x e (leaf a s) h = λ i. if h i then e else leaf a s
replaced-word x e (list ds s) h = absurd cc

-- the data of a list by themselves
replaced-items : (x : List ℕ) (e : Sexp) (ds : List Sexp) → replaced_in x e (sexps ds) ≡ sexps (map (replaced x e) ds)
replaced-items x e [] = refl
replaced-items x e (d ∷ ds) = ap (cons (replaced x e d)) (replaced-items x e ds)

-- another atom stays
pub filled-atom : (side : Side) (ss : List Shortcut) (e : Sexp) (a : Atom) (s : Span) → is_replaced side ss (leaf a s) ≡ false
    → filled side ss e (leaf a s) ≡ leaf a s
filled-atom side [] e a s h = refl
filled-atom side (t ∷ ss) e a s h = λ i. if h i then nested side ss e else leaf a s

-- a list stays one of as many data
pub filled-list : (side : Side) (ss : List Shortcut) (e : Sexp) (ds : List Sexp) (s : Span)
    → filled side ss e (list (sexps ds) s) ≡ list (sexps (map (filled side ss e) ds)) s
filled-list side [] e ds s = ap (λ (xs : List Sexp). list (sexps xs) s) (sym (map-id ds))
filled-list side (t ∷ ss) e ds s = ap (λ xs. list xs s) (replaced-items (text_of (symbol_in side t)) (nested side ss e) ds)

-- the filling begins outermost
pub filled-outermost : (side : Side) (ss : List Shortcut) (e : Sexp) → filled side ss e (outermost side ss e) ≡ nested side ss e
filled-outermost side [] e = refl
filled-outermost side (s ∷ ss) e = refl

-- in place of the symbol it goes on with the next shortcut
pub filled-next : (side : Side) (s : Shortcut) (ss : List Shortcut) (e d : Sexp) → is_word (text_of (symbol_in side s)) d ≡ true
    → filled side ss e (outermost side ss e) ≡ filled side (s ∷ ss) e d
filled-next side s ss e d h = filled-outermost side ss e ∙ sym (replaced-word (text_of (symbol_in side s)) (nested side ss e) d h)

-- ---- what is made

-- of an atom that is not replaced
pub atom-made : (side : Side) (ss : List Shortcut) (e d : Sexp) (a : Atom) (s : Span) → d ≡ leaf a s → is_replaced side ss d ≡ false
    → leaf a s ≡ filled side ss e d
atom-made side ss e d a s f h =
    sym (filled-atom side ss e a s (ap (is_replaced side ss) (sym f) ∙ h)) ∙ ap (filled side ss e) (sym f)

-- and of a list, by what is made of its data
pub list-made : (side : Side) (ss : List Shortcut) (e d : Sexp) (ds xs : List Sexp) (s : Span) → d ≡ list (sexps ds) s
    → xs ≡ map (filled side ss e) ds → list (sexps xs) s ≡ filled side ss e d
list-made side ss e d ds xs s f g =
    ap (λ (ys : List Sexp). list (sexps ys) s) g ∙ sym (filled-list side ss e ds s) ∙ ap (filled side ss e) (sym f)

-- ---- cases

-- by shortcuts, part by part
pub parts-by : (ss : List Shortcut) (c : CaseForm) → parts_by ss c ≡ case_parts (settled c (by_shortcuts ss c))
parts-by ss c = by_test (is_word (codes "-->") (old_arrow ss c.arrow)) refl
  where
    x : CaseForm
    x = by_shortcuts ss c

    arrow-by : (ss : List Shortcut) → old_arrow ss c.arrow ≡ (by_shortcuts ss c).arrow
    arrow-by [] = refl
    arrow-by (s ∷ ss) = refl

    pattern-by : (ss : List Shortcut) → nested OfPattern ss c.pattern ≡ (by_shortcuts ss c).pattern
    pattern-by [] = refl
    pattern-by (s ∷ ss) = ap (λ p. replaced (text_of s.for_pattern) p s.pattern) (pattern-by ss)

    result-by : (ss : List Shortcut) → nested OfResult ss c.result ≡ (by_shortcuts ss c).result
    result-by [] = refl
    result-by (s ∷ ss) = ap (λ t. replaced (text_of s.for_result) t s.result) (result-by ss)

    extras-by : (ss : List Shortcut) → c.extras ≡ (by_shortcuts ss c).extras
    extras-by [] = refl
    extras-by (s ∷ ss) = extras-by ss

    settled-by : (b : Bool) → is_word (codes "-->") x.arrow ≡ b
        → case_parts (if b then x else record { arrow = x.arrow; pattern = c.pattern; result = c.result; extras = c.extras }) ≡ case_parts (settled c x)
    settled-by b e i =
        case_parts (if sym e i then x else record { arrow = x.arrow; pattern = c.pattern; result = c.result; extras = c.extras })

    by_test : (b : Bool) → is_word (codes "-->") (old_arrow ss c.arrow) ≡ b
        → old_arrow ss c.arrow ∷ nested OfPattern (if b then ss else []) c.pattern ∷ nested OfResult (if b then ss else []) c.result ∷ c.extras
        ≡ case_parts (settled c x)
    by_test true e =
        (λ i. arrow-by ss i ∷ pattern-by ss i ∷ result-by ss i ∷ extras-by ss i) ∙ settled-by true (ap (is_word (codes "-->")) (sym (arrow-by ss)) ∙ e)
    by_test false e =
        (λ i. arrow-by ss i ∷ c.pattern ∷ c.result ∷ c.extras) ∙ settled-by false (ap (is_word (codes "-->")) (sym (arrow-by ss)) ∙ e)
