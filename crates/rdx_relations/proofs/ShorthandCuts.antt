-- Where the shortcuts of a relation begin, from one place on.
use Rattle.std.proofs.Common.{◌≡◌, ◌++◌, ◌∙◌, ◌+◌, ◌<◌, ◌≤◌, ℕ, Bool, true, false, List, [], ◌∷◌, length, take, drop, get_or, append-nil, sym, ap, if◌then◌else◌}
use Rattle.std.proofs.lemmas.List.{append_assoc, drop_all, take_all, take_more}
use Rattle.std.specs.Prelude.{codes}
use Rattle.rdx_sexp.specs.Sexp.{Sexp}
use Rattle.rdx_patterns.specs.Parts.{is_word}
use Rattle.rdx_patterns.proofs.Rests.{drop-at}
use Rattle.rdx_relations.specs.Shorthand.{before_with, behind_with}

-- what stands before it, of data that begin with `with` or do not
before-begins : (d : Sexp) (ds : List Sexp) (b : Bool) → is_word (codes "with") d ≡ b → before_with (d ∷ ds) ≡ (if b then [] else d ∷ before_with ds)
before-begins d ds b e = λ i. if e i then [] else d ∷ before_with ds

-- and what stands behind it
behind-begins : (d : Sexp) (ds : List Sexp) (b : Bool) → is_word (codes "with") d ≡ b → behind_with (d ∷ ds) ≡ (if b then ds else behind_with ds)
behind-begins d ds b e = λ i. if e i then ds else behind_with ds

-- at `with`
pub before-here : (ds : List Sexp) (i : ℕ) (d : Sexp) → i < length ds → d ≡ get_or ds i d → is_word (codes "with") d ≡ true
    → take i ds ++ before_with (drop i ds) ≡ take i ds
before-here ds i d h e w =
    ap (λ xs. take i ds ++ before_with xs) (drop-at ds i d h e) ∙ ap (λ xs. take i ds ++ xs) (before-begins d (drop (i + 1) ds) true w)
    ∙ append-nil (take i ds)

pub behind-here : (ds : List Sexp) (i : ℕ) (d : Sexp) → i < length ds → d ≡ get_or ds i d → is_word (codes "with") d ≡ true
    → behind_with (drop i ds) ≡ drop (i + 1) ds
behind-here ds i d h e w = ap behind_with (drop-at ds i d h e) ∙ behind-begins d (drop (i + 1) ds) true w

-- at another datum
pub before-later : (ds : List Sexp) (i : ℕ) (d : Sexp) → i < length ds → d ≡ get_or ds i d → is_word (codes "with") d ≡ false
    → take i ds ++ before_with (drop i ds) ≡ take (i + 1) ds ++ before_with (drop (i + 1) ds)
before-later ds i d h e w =
    let rest = before_with (drop (i + 1) ds) in
    ap (λ xs. take i ds ++ before_with xs) (drop-at ds i d h e) ∙ ap (λ xs. take i ds ++ xs) (before-begins d (drop (i + 1) ds) false w)
    ∙ sym (append_assoc (take i ds) (d ∷ []) rest)
    ∙ ap (λ x. (take i ds ++ x ∷ []) ++ rest) e
    ∙ ap (λ xs. xs ++ rest) (sym (take_more ds i d h))

pub behind-later : (ds : List Sexp) (i : ℕ) (d : Sexp) → i < length ds → d ≡ get_or ds i d → is_word (codes "with") d ≡ false
    → behind_with (drop i ds) ≡ behind_with (drop (i + 1) ds)
behind-later ds i d h e w = ap behind_with (drop-at ds i d h e) ∙ behind-begins d (drop (i + 1) ds) false w

-- at the end
pub before-none : (ds : List Sexp) (i : ℕ) → length ds ≤ i → take i ds ++ before_with (drop i ds) ≡ ds
before-none ds i h = ap (λ xs. take i ds ++ before_with xs) (drop_all i ds h) ∙ append-nil (take i ds) ∙ take_all i ds h

pub behind-none : (ds : List Sexp) (i : ℕ) → length ds ≤ i → behind_with (drop i ds) ≡ []
behind-none ds i h = ap behind_with (drop_all i ds h)
