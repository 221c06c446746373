-- The words of host expressions.
use Rattle.std.proofs.Common.{◌≡◌, ◌∙◌, ℕ, ◌-◌, ◌<◌, length, get_or, List, [], ◌∷◌, ap, arith}
use Rattle.rdx_sexp.specs.Sexp.{Sexp, leaf, symbol, sexps, cons}
use Rattle.rdx_base.specs.declared.place.Span.{Span}
use Rattle.rdx_templates.specs.HostHeads.{host_head, host_head_of}
use Rattle.rdx_templates.proofs.HeadTests.{count-length}

-- a list that begins with a symbol
pub host_head-symbol : (ds : List Sexp) (d : Sexp) (x : List ℕ) (s : Span) → 0 < length ds → d ≡ get_or ds 0 d → d ≡ leaf (symbol x) s
    → host_head (sexps ds) ≡ host_head_of x (length ds - 1)
host_head-symbol [] d x s h e f = absurd (omega (arith, h))
host_head-symbol (c ∷ ds) d x s h e f =
    let g : c ≡ leaf (symbol x) s = cc in
    let n : length ds ≡ length (c ∷ ds) - 1 = omega arith in
    ap (λ (a : Sexp). host_head (cons a (sexps ds))) g ∙ ap (host_head_of x) (count-length ds ∙ n)
