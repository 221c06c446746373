-- The order of trees is total, since it is that of their tokens.
use Rattle.std.proofs.Common.{◌≡◌, ℕ, Option, List, [], ◌∷◌, refl, ◌∙◌, ap, subst, nat_cmp, rules}
use Rattle.std.specs.declared.cmp.Ordering.{Ordering}
use Rattle.std.specs.declared.cmp.Ordering.TheVariants.{Less, Equal, Greater}
use Rattle.std.specs.Ordering.{ordering_then, int_cmp, bool_cmp, on, then_cmp}
use Rattle.std.specs.Option.{option_cmp}
use Rattle.std.specs.Cmp.{IsTotalOrder, on_total}
use Rattle.std.specs.Cmp.Rules.{comparing}
use Rattle.std.specs.Cmp.Lexicographic.{slice_cmp, lists_total}
use Rattle.rdx_term.specs.Tree.{Tree, hole, integer, truth, text, symbol, list, Trees, nil, cons}
use Rattle.rdx_term.specs.Model.Tokens.{Token, end, tokens, tokens_all}
use Rattle.rdx_term.specs.Order.{tree_cmp, trees_cmp}

-- tokens by their kinds, and then by what they hold
abbrev token_cmp : Token → Token → Ordering
token_cmp = then_cmp (on (λ t. t.0) nat_cmp) (then_cmp (on (λ t. t.1) int_cmp) (then_cmp (on (λ t. t.2) bool_cmp) (then_cmp (on (λ t. t.3) (slice_cmp nat_cmp)) (on (λ t. t.4) (option_cmp nat_cmp)))))

token_cmp-total : IsTotalOrder token_cmp
token_cmp-total = search (comparing, rules) depth 12

-- an order and then `Equal` is the order itself
then_none : (o p : Ordering) → ordering_then (ordering_then o Equal) p ≡ ordering_then o p
then_none Less p = refl
then_none Equal p = refl
then_none Greater p = refl

then-then : (o p q : Ordering) → ordering_then o (ordering_then p q) ≡ ordering_then (ordering_then o p) q
then-then Less p q = refl
then-then Equal p q = refl
then-then Greater p q = refl

then_Equal : (o : Ordering) → ordering_then o Equal ≡ o
then_Equal Less = refl
then_Equal Equal = refl
then_Equal Greater = refl

-- the end of a list comes before any tree
ends_first : (u : Tree) (m : Option ℕ) (r s : List Token) → slice_cmp token_cmp (end m ∷ r) (tokens u s) ≡ Less
ends_first hole m r s = refl
ends_first (integer n) m r s = refl
ends_first (truth b) m r s = refl
ends_first (text t) m r s = refl
ends_first (symbol t) m r s = refl
ends_first (list n us) m r s = refl

-- any tree comes after the end of a list
ends_last : (u : Tree) (m : Option ℕ) (r s : List Token) → slice_cmp token_cmp (tokens u s) (end m ∷ r) ≡ Greater
ends_last hole m r s = refl
ends_last (integer n) m r s = refl
ends_last (truth b) m r s = refl
ends_last (text t) m r s = refl
ends_last (symbol t) m r s = refl
ends_last (list n us) m r s = refl

-- the hole and a tree compare by their tokens, and then by the tokens after them
hole_by_tokens : (u : Tree) (r s : List Token) → slice_cmp token_cmp (tokens hole r) (tokens u s) ≡ ordering_then (tree_cmp hole u) (slice_cmp token_cmp r s)
hole_by_tokens hole r s = refl
hole_by_tokens (integer n) r s = refl
hole_by_tokens (truth b) r s = refl
hole_by_tokens (text t) r s = refl
hole_by_tokens (symbol t) r s = refl
hole_by_tokens (list m ts) r s = refl

-- two trees compare by their tokens, and then by the tokens after them
mutual
  by_tokens : (t u : Tree) (r s : List Token) → slice_cmp token_cmp (tokens t r) (tokens u s) ≡ ordering_then (tree_cmp t u) (slice_cmp token_cmp r s)
  by_tokens hole u r s = hole_by_tokens u r s
  by_tokens (integer n) (integer k) r s = then_none (int_cmp n k) (slice_cmp token_cmp r s)
  by_tokens (truth b) (truth c) r s = then_none (bool_cmp b c) (slice_cmp token_cmp r s)
  by_tokens (text a) (text b) r s = then_none (slice_cmp nat_cmp a b) (slice_cmp token_cmp r s)
  by_tokens (symbol a) (symbol b) r s = then_none (slice_cmp nat_cmp a b) (slice_cmp token_cmp r s)
  by_tokens (list m ts) (list n us) r s = by_tokens_all ts us m n r s
  by_tokens t u r s = refl

  by_tokens_all : (ts us : Trees) (m n : Option ℕ) (r s : List Token) → slice_cmp token_cmp (tokens_all ts (end m ∷ r)) (tokens_all us (end n ∷ s))
      ≡ ordering_then (ordering_then (trees_cmp ts us) (option_cmp nat_cmp m n)) (slice_cmp token_cmp r s)
  by_tokens_all nil nil m n r s = refl
  by_tokens_all nil (cons u us) m n r s = ends_first u m r (tokens_all us (end n ∷ s))
  by_tokens_all (cons t ts) nil m n r s = ends_last t n s (tokens_all ts (end m ∷ r))
  by_tokens_all (cons t ts) (cons u us) m n r s =
      by_tokens t u (tokens_all ts (end m ∷ r)) (tokens_all us (end n ∷ s))
      ∙ ap (ordering_then (tree_cmp t u)) (by_tokens_all ts us m n r s)
      ∙ then-then (tree_cmp t u) (ordering_then (trees_cmp ts us) (option_cmp nat_cmp m n)) (slice_cmp token_cmp r s)
      ∙ ap (λ o. ordering_then o (slice_cmp token_cmp r s)) (then-then (tree_cmp t u) (trees_cmp ts us) (option_cmp nat_cmp m n))

-- the order of trees is that of their tokens
tree_cmp-tokens : (t u : Tree) → slice_cmp token_cmp (tokens t []) (tokens u []) ≡ tree_cmp t u
tree_cmp-tokens t u = by_tokens t u [] [] ∙ then_Equal (tree_cmp t u)

-- the order of trees is total
pub tree_cmp-total : IsTotalOrder tree_cmp
tree_cmp-total = subst IsTotalOrder (λ i t u. tree_cmp-tokens t u i) (on_total (λ t. tokens t []) (lists_total token_cmp-total))
