-- Contexts filled, where they are terms.
use Rattle.std.proofs.Common.{◌≡◌, true, false, Some, None, refl, ap, arith}
use Rattle.rdx_term.specs.Context.{is_context, is_context_at}
use Rattle.rdx_term.specs.Fill.{fill_of}
use Rattle.rdx_term.specs.Terms.{IsTerm, IsTooDeep, IsTooLarge}
use Rattle.rdx_term.specs.Tree.{Tree, hole, integer, truth, text, symbol, list, tree_depth, tree_nodes}

-- what is no context stays as it is
pub stays : (t u : Tree) → IsTerm t → is_context t ≡ false → fill_of t u ≡ t
stays hole u w h = absurd cc
stays (integer n) u w h = refl
stays (truth b) u w h = refl
stays (text s) u w h = refl
stays (symbol s) u w h = refl
stays (list None ts) u w h = refl
stays (list (Some k) ts) u w h = absurd (let m : is_context_at ts k ≡ true = w.marked.0 in cc)

-- a term is not over the limits
pub not_deep : (t u : Tree) → IsTerm t → IsTooDeep u → t ≡ u → ⊥
not_deep t u h d e = let k = h.shallow in let m : tree_depth t ≡ tree_depth u = ap tree_depth e in omega arith

pub not_large : (t u : Tree) → IsTerm t → IsTooLarge u → t ≡ u → ⊥
not_large t u h d e = let k = h.small in let l = d.1 in let m : tree_nodes t ≡ tree_nodes u = ap tree_nodes e in omega arith
