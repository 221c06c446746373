-- The parts of rules and of judgements, as loops and cuts find them.
use Rattle.std.proofs.Common.{◌≡◌, ◌++◌, ◌∙◌, ◌+◌, ◌<◌, ◌≤◌, ℕ, zero, suc, Bool, true, false, List, [], ◌∷◌, length, map, take, drop, get_or, take-suc, append_assoc, Bor, refl, sym, ap, arith, if◌then◌else◌}
use Rattle.std.proofs.lemmas.List.{reverse-append}
use Rattle.std.specs.Prelude.{Option, Some, None, option_map}
use Rattle.rdx_sexp.specs.Sexp.{Sexp}
use Rattle.rdx_sexp.specs.declared.datum.Datum.{Datum}
use Rattle.rdx_defs.specs.Inside.FormOutlines.{options_length}
use Rattle.rdx_defs.specs.Inside.FormViews.{paired, next_of, keys_of, option_form_of}
use Rattle.rdx_parts.specs.PartsHave.{AreReadable, AloneHave, IsReadableTaken}
use Rattle.rdx_defs.specs.JudgementForms.{is_label, cut_name, OptionForm, is_any_keyword, with_option, cut_options, key_text}
use Rattle.rdx_defs.specs.declared.judgements.forms.OptionForm as code

-- ---- the name behind premises

-- one datum before either of two cuts
first-before : (c : Sexp) (b : Bool) (x y : List Sexp × Option Sexp)
    → ◌≡◌ {A = List Sexp × Option Sexp} (c ∷ (if b then x else y).0, (if b then x else y).1) (if b then (c ∷ x.0, x.1) else (c ∷ y.0, y.1))
first-before c true x y = refl
first-before c false x y = refl

-- whether the last of several may be a name decides
pub cut_name-last : (ds : List Sexp) (d : Sexp) → cut_name (ds ++ d ∷ []) ≡ (if is_label d then (ds, Some d) else (ds ++ d ∷ [], None))
cut_name-last [] d = refl
cut_name-last (c ∷ []) d =
    (λ i. (c ∷ (cut_name-last [] d i).0, (cut_name-last [] d i).1)) ∙ first-before c (is_label d) ([], Some d) (d ∷ [], None)
cut_name-last (c ∷ e ∷ ds) d =
    (λ i. (c ∷ (cut_name-last (e ∷ ds) d i).0, (cut_name-last (e ∷ ds) d i).1)) ∙ first-before c (is_label d) (e ∷ ds, Some d) (e ∷ ds ++ d ∷ [], None)

-- ---- options

-- one option that may stand alone
lone-option : (b : Bool) (k : Sexp) → (if b then with_option k None ([], []) else ([], k ∷ [])) ≡ (paired (take (if b then 1 else 0) (k ∷ [])), drop (if b then 1 else 0) (k ∷ []))
lone-option true k = refl
lone-option false k = refl

-- one that may stand before others
option-before : (b : Bool) (k v : Sexp) (ds : List Sexp) (n : ℕ) (c : List OptionForm × List Sexp) → c ≡ (paired (take n ds), drop n ds)
    → (if b then with_option k (Some v) c else ([], k ∷ v ∷ ds))
    ≡ (paired (take (if b then suc (suc n) else 0) (k ∷ v ∷ ds)), drop (if b then suc (suc n) else 0) (k ∷ v ∷ ds))
option-before true k v ds n c h = λ i. (record { key = k; given = Some v } ∷ (h i).0, (h i).1)
option-before false k v ds n c h = refl

-- options are as many of the data as this, and what is behind them are the others
pub options-cut : (ds : List Sexp) → cut_options ds ≡ (paired (take (options_length ds) ds), drop (options_length ds) ds)
options-cut [] = refl
options-cut (k ∷ []) = lone-option (is_any_keyword k) k
options-cut (k ∷ v ∷ ds) = option-before (is_any_keyword k) k v ds (options_length ds) (cut_options ds) (options-cut ds)

-- there are no more of them than data
pub options-bound : (ds : List Sexp) → options_length ds ≤ length ds
options-bound [] = omega arith
options-bound (k ∷ []) = by_test (is_any_keyword k)
  where
    by_test : (b : Bool) → (if b then 1 else 0) ≤ 1
    by_test true = omega arith
    by_test false = omega arith
options-bound (k ∷ v ∷ ds) = by_test (is_any_keyword k) (options-bound ds)
  where
    by_test : (b : Bool) → options_length ds ≤ length ds → (if b then suc (suc (options_length ds)) else 0) ≤ suc (suc (length ds))
    by_test true h = omega arith
    by_test false h = omega arith

-- ---- from one place on

-- a keyword with what it gives
pub options-two : (ds : List Sexp) (n : ℕ) (k : Sexp) → n + 1 < length ds → k ≡ get_or ds n k → is_any_keyword k ≡ true
    → options_length (drop n ds) ≡ suc (suc (options_length (drop (suc (suc n)) ds)))
options-two [] n k h e t = absurd (omega arith)
options-two (c ∷ []) n k h e t = absurd (omega arith)
options-two (c ∷ v ∷ ds) zero k h e t = by_test (is_any_keyword c) (ap is_any_keyword (sym e) ∙ t)
  where
    by_test : (b : Bool) → b ≡ true → (if b then suc (suc (options_length ds)) else 0) ≡ suc (suc (options_length ds))
    by_test true r = refl
    by_test false r = absurd cc
options-two (c ∷ v ∷ ds) (suc n) k h e t = options-two (v ∷ ds) n k (omega arith) e t

-- the last of the data
pub options-one : (ds : List Sexp) (n : ℕ) (k : Sexp) → n < length ds → length ds ≤ n + 1 → k ≡ get_or ds n k → is_any_keyword k ≡ true
    → options_length (drop n ds) ≡ 1
options-one [] n k h l e t = absurd (omega arith)
options-one (c ∷ []) zero k h l e t = by_test (is_any_keyword c) (ap is_any_keyword (sym e) ∙ t)
  where
    by_test : (b : Bool) → b ≡ true → ◌≡◌ {A = ℕ} (if b then 1 else 0) 1
    by_test true r = refl
    by_test false r = absurd cc
options-one (c ∷ []) (suc n) k h l e t = absurd (omega arith)
options-one (c ∷ v ∷ ds) zero k h l e t = absurd (omega arith)
options-one (c ∷ v ∷ ds) (suc n) k h l e t = options-one (v ∷ ds) n k (omega arith) (omega arith) e t

-- what is no keyword
pub options-none : (ds : List Sexp) (n : ℕ) (k : Sexp) → n < length ds → k ≡ get_or ds n k → is_any_keyword k ≡ false → options_length (drop n ds) ≡ 0
options-none [] n k h e t = absurd (omega arith)
options-none (c ∷ []) zero k h e t = by_test (is_any_keyword c) (ap is_any_keyword (sym e) ∙ t)
  where
    by_test : (b : Bool) → b ≡ false → ◌≡◌ {A = ℕ} (if b then 1 else 0) 0
    by_test true r = absurd cc
    by_test false r = refl
options-none (c ∷ v ∷ ds) zero k h e t = by_test (is_any_keyword c) (ap is_any_keyword (sym e) ∙ t)
  where
    by_test : (b : Bool) → b ≡ false → ◌≡◌ {A = ℕ} (if b then suc (suc (options_length ds)) else 0) 0
    by_test true r = absurd cc
    by_test false r = refl
options-none (c ∷ []) (suc n) k h e t = absurd (omega arith)
options-none (c ∷ v ∷ ds) (suc n) k h e t = options-none (v ∷ ds) n k (omega arith) e t

-- the end
pub options-end : (ds : List Sexp) (n : ℕ) → length ds ≤ n → options_length (drop n ds) ≡ 0
options-end [] zero h = refl
options-end [] (suc n) h = refl
options-end (c ∷ ds) zero h = absurd (omega arith)
options-end (c ∷ ds) (suc n) h = options-end ds n (omega arith)

-- ---- options one after the other

-- the first of several, and the others
pub next-some : {A : Type 0} (xs : List A) (x : A) (ys : List A) → Some (x, ys) ≡ next_of xs → xs ≡ x ∷ ys
next-some {A} [] x ys e = absurd cc
next-some {A} (y ∷ zs) x ys e =
    let p : ◌≡◌ {A = A × List A} (x, ys) (y, zs) = cc in
    sym (ap (λ (c : A × List A). c.0 ∷ c.1) p)

-- no first one
pub next-none : {A : Type 0} (xs : List A) → None ≡ next_of xs → xs ≡ []
next-none [] e = refl
next-none (y ∷ zs) e = absurd cc

-- one keyword more
pub keys-more : (ds : List (Bor Datum)) (d : Bor Datum) → keys_of (ds ++ d ∷ []) ≡ key_text d.now ∷ keys_of ds
keys-more ds d = ap (map (λ x. key_text x.now)) (reverse-append ds (d ∷ []))

-- of the first keywords, one more
pub keys-take : (ds : List (Bor Datum)) (i : ℕ) (d : Bor Datum) → i < length ds → d ≡ get_or ds i d → keys_of (take (suc i) ds) ≡ key_text d.now ∷ keys_of (take i ds)
keys-take ds i d h e =
    ap keys_of (take-suc ds i d h) ∙ keys-more (take i ds) (get_or ds i d) ∙ ap (λ x. key_text x.now ∷ keys_of (take i ds)) (sym e)

-- the first of options that stand in pairs
pub option-some : (ds : List Sexp) (r : Option (code.OptionForm × Bor (List Datum))) (o : code.OptionForm) (es : Bor (List Datum))
    → option_map (λ c. (option_form_of c.0, paired c.1.now)) r ≡ next_of (paired ds) → r ≡ Some (o, es) → paired ds ≡ option_form_of o ∷ paired es.now
option-some ds r o es e i =
    next-some (paired ds) (option_form_of o) (paired es.now) (sym (ap (option_map (λ c. (option_form_of c.0, paired c.1.now))) i) ∙ e)

-- what is gathered of one option more
pub options-step : {A : Type 0} (f : List (List ℕ) → OptionForm → List A) (g : List (List ℕ) → List OptionForm → List A)
    → ((ks : List (List ℕ)) (o : OptionForm) (os : List OptionForm) → g ks (o ∷ os) ≡ f ks o ++ g (key_text o.key ∷ ks) os)
    → (olds news : List A) (ks ls ms : List (List ℕ)) (o : OptionForm) (os left : List OptionForm) → news ≡ olds ++ f ls o → ls ≡ ks → ms ≡ key_text o.key ∷ ks → left ≡ o ∷ os
    → news ++ g ms os ≡ olds ++ g ks left
options-step f g step olds news ks ls ms o os left n l m p =
    let later = key_text o.key ∷ ks in
    (λ i. n i ++ g (m i) os) ∙ append_assoc olds (f ls o) (g later os) ∙ (λ i. olds ++ (f (l i) o ++ g later os)) ∙ (λ i. olds ++ sym (step ks o os) i)
    ∙ (λ i. olds ++ g ks (sym p i))

-- ---- readable patterns of options

-- those of the first, where it gives them
pub readable-first : (b : Bool) (ps qs : List Sexp) → b ≡ true → AreReadable ((if b then ps else []) ++ qs) → AreReadable ps
readable-first true ps qs e h = front ps h
  where
    front : (xs : List Sexp) → AreReadable (xs ++ qs) → AreReadable xs
    front [] k = tt
    front (x ∷ xs) k = (k.0, front xs k.1)
readable-first false ps qs e h = absurd cc

-- those of the others
pub readable-others : (ps qs : List Sexp) → AreReadable (ps ++ qs) → AreReadable qs
readable-others [] qs h = h
readable-others (p ∷ ps) qs h = readable-others ps qs h.1

-- readable patterns that stand by themselves
pub alone-readable : (ps : List Sexp) → AloneHave IsReadableTaken ps → AreReadable ps
alone-readable [] h = tt
alone-readable (p ∷ ps) h = (h.0, alone-readable ps h.1)
