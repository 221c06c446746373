-- A binding that gets the pairs of another one by one: what joins it with the pairs that are left joins the first with all of them.
use Rattle.std.proofs.Common.{◌≡◌, List, [], ◌∷◌, sym, ◌∙◌, ap, subst}
use Rattle.rdx_lang.specs.Bindings.{Pair, Binding, of_pairs, HaveAscendingNames, HasAscendingNames}
use Rattle.rdx_lang.specs.Join.{IsJoin}
use Rattle.rdx_lang.proofs.JoinLaws.{one_join, join_ascends, unit_right}
use Rattle.rdx_lang.proofs.Joins.{joined_first, joined_last}
use Rattle.rdx_lang.proofs.SetJoins.{no_sets_left}
use Rattle.rdx_bind.proofs.Merging.{first_and_rest}

-- c has the joins with the pairs that are left that a has with all of b, and no others
pub record StillJoins (a b c : Binding) (left : List Pair) : Type 0 where
  pub ascends : HasAscendingNames c
  pub left_ascends : HaveAscendingNames left
  pub all : (d : Binding) → IsJoin c (of_pairs left) d → IsJoin a b d
  pub of_all : (d : Binding) → IsJoin a b d → IsJoin c (of_pairs left) d

-- at the start all are left
pub still-start : (a : Binding) (ps : List Pair) → HasAscendingNames a → HaveAscendingNames ps → StillJoins a (of_pairs ps) a ps
still-start a ps h k = record { ascends = h; left_ascends = k; all = λ d j. j; of_all = λ d j. j }

module _ (a b c : Binding) (left : List Pair) (s : StillJoins a b c left) where
  -- where none is left, it is the join
  pub still-end : left ≡ [] → IsJoin a b c
  still-end e = s.all c (subst (λ (ps : List Pair). IsJoin c (of_pairs ps) c) (sym e) (unit_right c s.ascends))

  module _ (p : Pair) (more : List Pair) (e : left ≡ p ∷ more) where
    -- the pairs that are left ascend
    ascending : HaveAscendingNames (p ∷ more)
    ascending = subst HaveAscendingNames e s.left_ascends

    -- they are the join of the next one and the others
    next_and_others : IsJoin (of_pairs (p ∷ [])) (of_pairs more) (of_pairs (p ∷ more))
    next_and_others = record { pairs = first_and_rest p more ascending; differs = no_sets_left [] (tt, tt) }

    -- one pair alone is a finite map
    alone : HasAscendingNames (of_pairs (p ∷ []))
    alone = ((tt, tt), (tt, tt))

    -- what joins a with all of b has a join of c with the next pair in it
    first_of : (d : Binding) → IsJoin a b d → (f : Binding) × IsJoin c (of_pairs (p ∷ [])) f × IsJoin f (of_pairs more) d
    first_of d j =
        joined_first c (of_pairs (p ∷ [])) (of_pairs more) (of_pairs (p ∷ more)) d s.ascends alone next_and_others
        (subst (λ (ps : List Pair). IsJoin c (of_pairs ps) d) e (s.of_all d j))

    -- the next pair has no place: there is no join at all
    pub still-none : ((f : Binding) → ¬ IsJoin c (of_pairs (p ∷ [])) f) → (d : Binding) → ¬ IsJoin a b d
    still-none n d j = let f = first_of d j in n f.0 f.1

    -- one pair more
    pub still-next : (f : Binding) → IsJoin c (of_pairs (p ∷ [])) f → StillJoins a b f more
    still-next f k = record { ascends = join_ascends k; left_ascends = ascending.1; all = all; of_all = of_all }
      where
        all : (d : Binding) → IsJoin f (of_pairs more) d → IsJoin a b d
        all d j =
            let r = joined_last c (of_pairs (p ∷ [])) (of_pairs more) f d alone (ascending.1, (tt, tt)) k j in
            let g : r.0 ≡ of_pairs left = one_join (of_pairs (p ∷ [])) (of_pairs more) r.0 (of_pairs (p ∷ more)) r.1 next_and_others ∙ ap of_pairs (sym e) in
            s.all d (subst (λ (x : Binding). IsJoin c x d) g r.2)

        of_all : (d : Binding) → IsJoin a b d → IsJoin f (of_pairs more) d
        of_all d j =
            let r = first_of d j in
            subst (λ (x : Binding). IsJoin x (of_pairs more) d) (one_join c (of_pairs (p ∷ [])) r.0 f r.1 k) r.2
