-- A tree over a pool is fixed by its bare tree: whatever is equal to it but for marks is it, once its lists are built anew.
use Rattle.std.proofs.Common.{◌≡◌, Option, List, refl, sym, ◌∙◌, ap, arith}
use Rattle.rdx_term.specs.Tree.{Tree, hole, integer, truth, text, symbol, list, Trees, nil, cons}
use Rattle.rdx_term.specs.Bare.{bare, bare_all}
use Rattle.rdx_term.specs.Building.{list_of}
use Rattle.rdx_term.proofs.Bare.{same_bare-atom, same_bare-list, IsListOf}
use Rattle.rdx_enum.specs.Pool.{IsOver, AreOver}
use Rattle.rdx_enum.specs.Inside.Ways.{relisted, relisted_all}

-- the first of two equal lists of trees
first_same : (t u : Tree) (ts us : Trees) → bare_all (cons u us) ≡ bare_all (cons t ts) → bare u ≡ bare t
first_same t u ts us e = cc

rest_same : (t u : Tree) (ts us : Trees) → bare_all (cons u us) ≡ bare_all (cons t ts) → bare_all us ≡ bare_all ts
rest_same t u ts us e = cc

mutual
  pub relisted-over : (P : List Tree) (t u : Tree) → IsOver P t → bare u ≡ bare t → relisted u ≡ t
  relisted-over P hole u o e = ap relisted (same_bare-atom u hole (omega arith) e)
  relisted-over P (integer n) u o e = ap relisted (same_bare-atom u (integer n) (omega arith) e)
  relisted-over P (truth b) u o e = ap relisted (same_bare-atom u (truth b) (omega arith) e)
  relisted-over P (text s) u o e = ap relisted (same_bare-atom u (text s) (omega arith) e)
  relisted-over P (symbol s) u o e = ap relisted (same_bare-atom u (symbol s) (omega arith) e)
  relisted-over P (list m ts) u o e =
      let l : IsListOf u ts = same_bare-list u m ts e in
      ap relisted l.is ∙ ap list_of (relisted_all-over P ts l.parts o.1 l.same) ∙ ap (λ (n : Option _). list n ts) (sym o.0)

  pub relisted_all-over : (P : List Tree) (ts us : Trees) → AreOver P ts → bare_all us ≡ bare_all ts → relisted_all us ≡ ts
  relisted_all-over P nil nil o e = refl
  relisted_all-over P nil (cons u us) o e = absurd (cc)
  relisted_all-over P (cons t ts) nil o e = absurd (cc)
  relisted_all-over P (cons t ts) (cons u us) o e =
      λ i. cons (relisted-over P t u o.0 (first_same t u ts us e) i) (relisted_all-over P ts us o.1 (rest_same t u ts us e) i)
