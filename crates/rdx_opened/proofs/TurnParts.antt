-- What a binding says in a turn of a repetition: a part of the values that it has, so that terms that differ there differ in the turn.
use Rattle.std.proofs.Common.{◌≡◌, inl, inr, ℕ, zero, suc, List, [], ◌∷◌, Option, Some, None, refl, sym, ap, subst}
use Rattle.rdx_term.specs.Tree.{Tree}
use Rattle.rdx_lang.specs.Bindings.{Value, one, many, len, Values, none, more, Pair, Binding, value_at, HasAscendingNames}
use Rattle.rdx_lang.specs.Members.{In, here, there}
use Rattle.rdx_lang.proofs.MemberLaws.{in-append}
use Rattle.rdx_lang.proofs.Values.{value_at-exact}
use Rattle.rdx_opened.specs.Opening.{Mark, IsAt, at_first, at_later, leaf_many, IsLeaf, IsApart}
use Rattle.rdx_opened.specs.Picking.{pair_where, nth_value, turn_value, turn_pairs, in_turn}

-- the value at a place
nth-at : (vs : Values) (i : ℕ) (v : Value) → nth_value vs i ≡ Some v → IsAt vs i v
nth-at none i v e = absurd cc
nth-at (more u vs) zero v e = let g : u ≡ v = (cc) in subst (λ (w : Value). IsAt (more u vs) zero w) g at_first
nth-at (more u vs) (suc i) v e = at_later (nth-at vs i v e)

-- the sequence of which a pair has the value in this turn
record TurnOf (c : Binding) (i : ℕ) (p : Pair) : Type 0 where
  pub values : Values
  pub bound : In (p.0, many values) c.pairs
  pub there : IsAt values i p.1

module _ (c : Binding) (a : HasAscendingNames c) (i : ℕ) where
  of_nth : (x : List ℕ) (vs : Values) (o : Option Value) → nth_value vs i ≡ o → In (x, many vs) c.pairs → (p : Pair) → In p (pair_where x o)
      → TurnOf c i p
  of_nth x vs None e b p h = elim h [ ]
  of_nth x vs (Some v) e b p (here f) =
      subst (λ (q : Pair). TurnOf c i q) (sym f) (record { values = vs; bound = b; there = nth-at vs i v e })
  of_nth x vs (Some v) e b p (there h) = elim h [ ]

  of_value : (x : List ℕ) (o : Option Value) → value_at c x ≡ o → (p : Pair) → In p (pair_where x (turn_value o i)) → TurnOf c i p
  of_value x None e p h = elim h [ ]
  of_value x (Some (one t)) e p h = elim h [ ]
  of_value x (Some (many vs)) e p h = of_nth x vs (nth_value vs i) refl ((value_at-exact c x (many vs) a).0 e) p h
  of_value x (Some (len n)) e p h = elim h [ ]

  -- each pair in a turn has a value of a sequence
  turn-of : (xs : List (List ℕ)) (p : Pair) → In p (turn_pairs c i xs) → TurnOf c i p
  turn-of [] p h = elim h [ ]
  turn-of (x ∷ xs) p h = elim (in-append (pair_where x (turn_value (value_at c x) i)) (turn_pairs c i xs) p h) [
    | inl l ↦ of_value x (value_at c x) refl p l
    | inr r ↦ turn-of xs p r
  ]

  -- a leaf in the turn is one of the whole
  turn-leaf : {ms : List Mark} (xs : List (List ℕ)) {x y is : List ℕ} {t : Tree} → IsLeaf ms (in_turn c i xs) x y is t → IsLeaf ms c x y (i ∷ is) t
  turn-leaf xs {y = y} l =
      let q = turn-of xs (y, l.value) l.bound in
      record { value = many q.values; mark = l.mark; bound = q.bound; leaf = leaf_many q.there l.leaf }

-- behind the first
abbrev behind_first : List ℕ → List ℕ
behind_first [] = []
behind_first (i ∷ is) = is

-- so the terms under marks differ in a turn, where they differ in the whole
pub turn-apart : {ms : List Mark} (c : Binding) → HasAscendingNames c → IsApart ms c → (i : ℕ) (xs : List (List ℕ)) → IsApart ms (in_turn c i xs)
turn-apart c a f i xs x y z is js t l m =
    let h = f x y z (i ∷ is) (i ∷ js) t (turn-leaf c a i xs l) (turn-leaf c a i xs m) in (h.0, ap behind_first h.1)
