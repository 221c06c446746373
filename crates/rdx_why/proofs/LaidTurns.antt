-- The goals of the turns of a repetition in a loop: whatever goals the turns that are left have, with those that are there they are those of all.
use Rattle.std.proofs.Common.{◌≡◌, ℕ, suc, ◌+◌, ◌<◌, ◌≤◌, List, [], ◌∷◌, ◌++◌, sym, ◌∙◌, subst, arith, append_assoc, add-one}
use Rattle.std.proofs.lemmas.List.{append-nil}
use Rattle.rdx_term.specs.Items.{trees_count, item_at}
use Rattle.rdx_term.specs.Tree.{Tree, Trees, cons}
use Rattle.rdx_lang.specs.Bindings.{Binding}
use Rattle.rdx_lang.specs.Patterns.{Pattern}
use Rattle.rdx_deriv.specs.Derivations.{Goal}
use Rattle.rdx_deriv.specs.Uses.{Focus, next}
use Rattle.rdx_why.specs.Inside.Laying.{focus_after, trees_after, IsGoalOf, AreTurnGoals, no_turn_goals, one_turn_goal}
use Rattle.rdx_opened.specs.Opening.{Mark}
use Rattle.rdx_opened.specs.Picking.{in_turn}
use Rattle.rdx_why.proofs.LaidBehind.{focus_more, trees_at}

module _ (ms : List Mark) (c : Binding) (l : List ℕ) (p : Pattern) (xs : List (List ℕ)) (f : Focus) (ts : Trees) (k : ℕ) where
  pub record TurnsAhead (i : ℕ) (done : List Goal) : Type 0 where
    pub whole : (n : ℕ) (gs : List Goal) → i + n ≡ k → AreTurnGoals ms c l p xs i (focus_after i f) (trees_after i ts) n gs
        → AreTurnGoals ms c l p xs 0 f ts k (done ++ gs)

  -- at first
  pub turns_first : TurnsAhead 0 []
  turns_first = record { whole = λ n gs e h. subst (λ (m : ℕ). AreTurnGoals ms c l p xs 0 f ts m gs) (let d : n ≡ k = (omega arith) in d) h }

  -- a turn more
  pub turns_more : (i : ℕ) (done all : List Goal) (g : Goal) (t : Tree) → i < k → k ≤ trees_count ts → item_at ts i t ≡ t → TurnsAhead i done
      → IsGoalOf ms l p (focus_after i f) t (in_turn c i xs) g → all ≡ done ++ g ∷ [] → TurnsAhead (i + 1) all
  turns_more i done all g t h r e a q d = subst (λ (j : ℕ). TurnsAhead j all) (sym (add-one i)) (record {
    whole = λ n gs s m.
        let terms : trees_after i ts ≡ cons t (trees_after (suc i) ts) =
        trees_at i ts t (omega arith) ∙ (λ j. cons (e j) (trees_after (suc i) ts)) in
        let behind : AreTurnGoals ms c l p xs (suc i) (next (focus_after i f)) (trees_after (suc i) ts) n gs =
        subst (λ (b : Focus). AreTurnGoals ms c l p xs (suc i) b (trees_after (suc i) ts) n gs) (focus_more i f) m in
        let here : AreTurnGoals ms c l p xs i (focus_after i f) (trees_after i ts) (suc n) (g ∷ gs) =
        subst (λ (us : Trees). AreTurnGoals ms c l p xs i (focus_after i f) us (suc n) (g ∷ gs)) (sym terms) (one_turn_goal q behind) in
        subst (λ (hs : List Goal). AreTurnGoals ms c l p xs 0 f ts k hs) (sym (append_assoc done (g ∷ []) gs) ∙ (λ j. sym d j ++ gs))
        (a.whole (suc n) (g ∷ gs) (let s1 = s in omega arith) here);
  })

  -- at the end
  pub turns_end : (i : ℕ) (done : List Goal) → i ≡ k → TurnsAhead i done → AreTurnGoals ms c l p xs 0 f ts k done
  turns_end i done e a =
      subst (λ (hs : List Goal). AreTurnGoals ms c l p xs 0 f ts k hs) (append-nil done) (a.whole 0 [] (omega arith) no_turn_goals)
