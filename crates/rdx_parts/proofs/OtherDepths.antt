-- Symbols that bind a name at another depth than it has first.
use Rattle.std.proofs.Common.{◌≡◌, ◌++◌, ◌∙◌, ℕ, List, [], ◌∷◌, sym, ap, append_assoc, append-nil}
use Rattle.std.specs.Prelude.{Option}
use Rattle.rdx_sexp.specs.Sexp.{Sexp}
use Rattle.rdx_patterns.specs.Parts.{text_of}
use Rattle.rdx_patterns.specs.PatternChecks.{Bound, when}
use Rattle.rdx_patterns.specs.Refusal.{first}
use Rattle.rdx_templates.specs.Bound as names
use Rattle.rdx_templates.specs.Bound.{depth_of}
use Rattle.rdx_templates.specs.Earliest.{start, lesser, earliest}
use Rattle.rdx_templates.proofs.EarliestPlaces.{lesser_assoc, earliest_append, earliest-when}
use Rattle.rdx_parts.specs.StandChecks.{is_other, other_depths}
use Rattle.rdx_parts.specs.Stands.{names_bound}
use Rattle.rdx_parts.proofs.NamesBound.{named_at}

-- the earliest so far with that of the next symbol and those behind it
pub clash-next : (es hs : names.Bound) (e : List ℕ × ℕ) (b : Bound) (bs : List Bound) (o p : Option Sexp) → e ≡ named_at b
    → p ≡ first (when (is_other e.1 (depth_of (es ++ hs) e.0)) b.symbol)
    → lesser start o (earliest start (other_depths (es ++ hs) (b ∷ bs))) ≡ lesser start (lesser start o p) (earliest start (other_depths (es ++ (hs ++ e ∷ [])) bs))
clash-next es hs e b bs o p same here =
    let t = is_other b.depth (depth_of (es ++ hs) (text_of b.symbol)) in
    let rest = other_depths (es ++ (hs ++ e ∷ [])) bs in
    let q : earliest start (when t b.symbol) ≡ p =
    earliest-when start t b.symbol ∙ (λ i. first (when (is_other (sym same i).1 (depth_of (es ++ hs) (sym same i).0)) b.symbol)) ∙ sym here in
    let behind : other_depths ((es ++ hs) ++ named_at b ∷ []) bs ≡ rest =
    ap (λ (f : List ℕ × ℕ). other_depths ((es ++ hs) ++ f ∷ []) bs) (sym same) ∙ ap (λ (gs : names.Bound). other_depths gs bs) (append_assoc es hs (e ∷ [])) in
    ap (lesser start o) (earliest_append start (when t b.symbol) (other_depths ((es ++ hs) ++ named_at b ∷ []) bs) ∙ (λ i. lesser start (q i) (earliest start (behind i))))
    ∙ sym (lesser_assoc start o p (earliest start rest))

-- those of two lists, one behind the other
pub other-both : (es : names.Bound) (xs ys : List Bound) → other_depths es (xs ++ ys) ≡ other_depths es xs ++ other_depths (es ++ names_bound xs) ys
other-both es [] ys = ap (λ (fs : names.Bound). other_depths fs ys) (sym (append-nil es))
other-both es (x ∷ xs) ys =
    let t = when (is_other x.depth (depth_of es (text_of x.symbol))) x.symbol in
    let fs = es ++ named_at x ∷ [] in
    ap (λ (ds : List Sexp). t ++ ds)
    (other-both fs xs ys ∙ ap (λ (gs : names.Bound). other_depths fs xs ++ other_depths gs ys) (append_assoc es (named_at x ∷ []) (names_bound xs)))
    ∙ sym (append_assoc t (other_depths fs xs) (other_depths (es ++ names_bound (x ∷ xs)) ys))
