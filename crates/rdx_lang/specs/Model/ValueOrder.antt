-- The order of values is total, since it is that of their tokens: the values and ends of sequences that stand in a value, from its
-- beginning to its end.
use Rattle.std.proofs.Common.{◌≡◌, ℕ, List, [], ◌∷◌, refl, ◌∙◌, ap, subst, nat_cmp, rules}
use Rattle.std.specs.declared.cmp.Ordering.{Ordering}
use Rattle.std.specs.declared.cmp.Ordering.TheVariants.{Less, Equal, Greater}
use Rattle.std.specs.Ordering.{ordering_then, on, then_cmp}
use Rattle.std.specs.Cmp.{IsTotalOrder, on_total, then_total}
use Rattle.std.specs.Cmp.Rules.{comparing}
use Rattle.std.specs.Cmp.Lexicographic.{slice_cmp, lists_total}
use Rattle.rdx_term.specs.Tree.{Tree, hole}
use Rattle.rdx_term.specs.Order.{tree_cmp}
use Rattle.rdx_term.specs.Model.TotalOrder.{tree_cmp-total}
use Rattle.rdx_lang.specs.Bindings.{Value, one, many, len, Values, none, more}
use Rattle.rdx_lang.specs.Order.{value_cmp, values_cmp}

-- a kind, a term and a length, as far as there are these
abbrev Token : Type 0
Token = ℕ × Tree × ℕ

-- the end of a sequence
abbrev end : Token
end = (0, hole, 0)

-- what a value begins with
abbrev term_token : Tree → Token
term_token t = (1, t, 0)

abbrev sequence_token : Token
sequence_token = (2, hole, 0)

abbrev length_token : ℕ → Token
length_token n = (3, hole, n)

abbrev mutual
  -- the tokens of a value, before these
  tokens : Value → List Token → List Token
  tokens (one t) r = term_token t ∷ r
  tokens (many vs) r = sequence_token ∷ tokens_all vs (end ∷ r)
  tokens (len n) r = length_token n ∷ r

  -- those of values one behind the other
  tokens_all : Values → List Token → List Token
  tokens_all none r = r
  tokens_all (more v vs) r = tokens v (tokens_all vs r)

-- tokens by their kinds, and then by what they hold
abbrev token_cmp : Token → Token → Ordering
token_cmp = then_cmp (on (λ (t : Token). t.0) nat_cmp) (then_cmp (on (λ (t : Token). t.1) tree_cmp) (on (λ (t : Token). t.2) nat_cmp))

-- the order of numbers is total
nat_cmp-total : IsTotalOrder nat_cmp
nat_cmp-total = search (comparing, rules) depth 4

-- so is that of tokens
token_cmp-total : IsTotalOrder token_cmp
token_cmp-total =
    then_total (on_total (λ (t : Token). t.0) nat_cmp-total)
    (then_total (on_total (λ (t : Token). t.1) tree_cmp-total) (on_total (λ (t : Token). t.2) nat_cmp-total))

-- an order and then `Equal` is the order itself
then_none : (o p : Ordering) → ordering_then (ordering_then o Equal) p ≡ ordering_then o p
then_none Less p = refl
then_none Equal p = refl
then_none Greater p = refl

then-then : (o p q : Ordering) → ordering_then o (ordering_then p q) ≡ ordering_then (ordering_then o p) q
then-then Less p q = refl
then-then Equal p q = refl
then-then Greater p q = refl

then_Equal : (o : Ordering) → ordering_then o Equal ≡ o
then_Equal Less = refl
then_Equal Equal = refl
then_Equal Greater = refl

-- the end of a sequence comes before any value
ends_first : (w : Value) (r s : List Token) → slice_cmp token_cmp (end ∷ r) (tokens w s) ≡ Less
ends_first (one t) r s = refl
ends_first (many ws) r s = refl
ends_first (len n) r s = refl

-- any value comes after it
ends_last : (v : Value) (r s : List Token) → slice_cmp token_cmp (tokens v r) (end ∷ s) ≡ Greater
ends_last (one t) r s = refl
ends_last (many vs) r s = refl
ends_last (len n) r s = refl

mutual
  -- two values compare by their tokens, and then by the tokens after them
  by_tokens : (v w : Value) (r s : List Token) → slice_cmp token_cmp (tokens v r) (tokens w s) ≡ ordering_then (value_cmp v w) (slice_cmp token_cmp r s)
  by_tokens (one t) (one u) r s = then_none (tree_cmp t u) (slice_cmp token_cmp r s)
  by_tokens (many vs) (many ws) r s = by_tokens_all vs ws r s
  by_tokens (len m) (len n) r s = refl
  by_tokens (one t) (many ws) r s = refl
  by_tokens (one t) (len n) r s = refl
  by_tokens (many vs) (one u) r s = refl
  by_tokens (many vs) (len n) r s = refl
  by_tokens (len m) (one u) r s = refl
  by_tokens (len m) (many ws) r s = refl

  by_tokens_all : (vs ws : Values) (r s : List Token) → slice_cmp token_cmp (tokens_all vs (end ∷ r)) (tokens_all ws (end ∷ s))
      ≡ ordering_then (values_cmp vs ws) (slice_cmp token_cmp r s)
  by_tokens_all none none r s = refl
  by_tokens_all none (more w ws) r s = ends_first w r (tokens_all ws (end ∷ s))
  by_tokens_all (more v vs) none r s = ends_last v (tokens_all vs (end ∷ r)) s
  by_tokens_all (more v vs) (more w ws) r s =
      by_tokens v w (tokens_all vs (end ∷ r)) (tokens_all ws (end ∷ s))
      ∙ ap (ordering_then (value_cmp v w)) (by_tokens_all vs ws r s)
      ∙ then-then (value_cmp v w) (values_cmp vs ws) (slice_cmp token_cmp r s)

-- the order of values is that of their tokens
value_cmp-tokens : (v w : Value) → slice_cmp token_cmp (tokens v []) (tokens w []) ≡ value_cmp v w
value_cmp-tokens v w = by_tokens v w [] [] ∙ then_Equal (value_cmp v w)

-- the order of values is total
pub value_cmp-total : IsTotalOrder value_cmp
value_cmp-total = subst IsTotalOrder (λ i v w. value_cmp-tokens v w i) (on_total (λ v. tokens v []) (lists_total token_cmp-total))
