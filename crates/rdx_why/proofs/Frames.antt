-- Nodes of a derivation that are begun, and those that wait for others: one goal that is taken, or one derivation that is made.
use Rattle.std.proofs.Common.{◌≡◌, ℕ, List, [], ◌∷◌, ◌++◌, map, reverse, refl, sym, ◌∙◌, ap, subst}
use Rattle.std.proofs.lemmas.List.{reverse-append, map-append, append-nil}
use Rattle.rdx_lang.specs.Members.{In, here, there}
use Rattle.rdx_lang.specs.Programs.{Program}
use Rattle.rdx_deriv.specs.Derivations.{Goal, Derivation, node, derivations, root, roots}
use Rattle.rdx_deriv.specs.DerivationView.{derivation_of, derivation_step, goal_of, goals_of}
use Rattle.rdx_why.specs.Explaining.{Explains, seen}
use Rattle.rdx_deriv.specs.Holds.{IsNode, Holds, AllHold}
use Rattle.rdx_why.specs.Inside.Frames.{goals_left, IsPartly, IsBegun, Wait}
use Rattle.rdx_why.specs.Inside.Steps.{goals_in, IsOnTheWay, IsStepFrom}
use Rattle.rdx_deriv.specs.Laws.{Follows}
use Rattle.rdx_deriv.specs.declared.deriv.Deriv as code_deriv
use Rattle.rdx_deriv.specs.declared.deriv.Deriv.TheFolds.{fold-roll-Deriv}
use Rattle.rdx_deriv.specs.declared.deriv.Deriv.TheOpen as layer
use Rattle.rdx_deriv.specs.declared.deriv.Deriv.TheViews.{roll-Deriv}
use Rattle.rdx_why.specs.declared.explaining.Frame.{Frame}
use Rattle.rdx_deriv.specs.declared.goal.Goal.{Goal as code_goal}
use Rattle.rdx_why.specs.declared.step.Step.{Step}
use Rattle.rdx_deriv.proofs.Sound.{what_holds_follows}

node_same : (P : Program) (g h : Goal) (ks ls : List ℕ) (gs hs : List Goal) → g ≡ h → ks ≡ ls → gs ≡ hs → IsNode P g ks gs → IsNode P h ls hs
node_same P g h ks ls gs hs d e f n =
    subst (λ x. IsNode P x ls hs) d (subst (λ xs. IsNode P g xs hs) e (subst (λ xs. IsNode P g ks xs) f n))

roots_same : (ds : List code_deriv.Deriv) → roots (derivations (map derivation_of ds)) ≡ goals_of ds
roots_same [] = refl
roots_same (d ∷ ds) = ap (λ gs. root (derivation_of d) ∷ gs) (roots_same ds)

both_hold : (P : Program) (ds es : List Derivation) → AllHold P (derivations ds) → AllHold P (derivations es) → AllHold P (derivations (ds ++ es))
both_hold P [] es h k = k
both_hold P (d ∷ ds) es h k = (h.0, both_hold P ds es h.1 k)

append_both : {A : Type 0} (xs ys zs : List A) → (xs ++ ys) ++ zs ≡ xs ++ (ys ++ zs)
append_both [] ys zs = refl
append_both (x ∷ xs) ys zs = ap (λ rs. x ∷ rs) (append_both xs ys zs)

-- a step down is a node that is begun
pub step_begins : (P : Program) (g : code_goal) (s : Step) (f : Frame) → f.goal ≡ g → f.choice.items ≡ s.choice.items → f.done.items ≡ []
    → f.left.items ≡ reverse s.under.items → IsStepFrom P (goal_of g) s → IsBegun P f
step_begins P g s f e k d l h =
    let same : goals_left f ≡ goals_in s =
    ap (λ xs. reverse (map goal_of xs)) l ∙ turned s.under.items in
    record {
      node = node_same P (goal_of g) (goal_of f.goal) s.choice.items f.choice.items (goals_in s) (goals_of f.done.items ++ ([] ++ goals_left f))
          (ap goal_of (sym e)) (sym k) (sym same ∙ ap (λ ds. goals_of ds ++ goals_left f) (sym d)) h.use_of_rule;
      hold = subst (λ ds. AllHold P (derivations (map derivation_of ds))) (sym d) tt;
      left = λ x i. h.on_the_way x (subst (In x) same i);
    }
  where
    turned : (xs : List code_goal) → reverse (map goal_of (reverse xs)) ≡ map goal_of xs
    turned [] = refl
    turned (x ∷ xs) =
        ap (λ ys. reverse (map goal_of ys)) (reverse-append (x ∷ []) xs) ∙ ap reverse (map-append goal_of (reverse xs) (x ∷ []))
        ∙ reverse-append (map goal_of (reverse xs)) (goal_of x ∷ []) ∙ ap (λ gs. goal_of x ∷ gs) (turned xs)

module _ (P : Program) (f e : Frame) (goal : e.goal ≡ f.goal) (choice : e.choice.items ≡ f.choice.items) where
  module _ (g : code_goal) (done : e.done.items ≡ f.done.items) (left : f.left.items ≡ e.left.items ++ (g ∷ [])) (h : IsPartly P f []) where
    left_more : goals_left f ≡ goal_of g ∷ goals_left e
    left_more =
        ap (λ xs. reverse (map goal_of xs)) left ∙ ap reverse (map-append goal_of e.left.items (g ∷ []))
        ∙ reverse-append (map goal_of e.left.items) (goal_of g ∷ [])

    -- the next one of the goals that are left is on the way
    pub next_on_the_way : IsOnTheWay P (goal_of g)
    next_on_the_way = h.left (goal_of g) (subst (In (goal_of g)) (sym left_more) (here refl))

    -- and the node waits for it, once it is taken
    pub next_taken : IsPartly P e (goal_of g ∷ [])
    next_taken = record {
      node = node_same P (goal_of f.goal) (goal_of e.goal) f.choice.items e.choice.items (goals_of f.done.items ++ ([] ++ goals_left f))
          (goals_of e.done.items ++ ((goal_of g ∷ []) ++ goals_left e)) (ap goal_of (sym goal)) (sym choice)
          (ap (λ ds. goals_of ds ++ goals_left f) (sym done) ∙ ap (λ gs. goals_of e.done.items ++ gs) left_more) h.node;
      hold = subst (λ ds. AllHold P (derivations (map derivation_of ds))) (sym done) h.hold;
      left = λ x i. h.left x (subst (In x) (sym left_more) (there i));
    }

  -- the derivation that the node waits for is made
  pub one_done : (d : code_deriv.Deriv) → e.done.items ≡ f.done.items ++ (d ∷ []) → e.left.items ≡ f.left.items
      → IsPartly P f (root (derivation_of d) ∷ []) → Holds P (derivation_of d) → IsPartly P e []
  one_done d done left h k =
      let more_done : goals_of e.done.items ≡ goals_of f.done.items ++ (root (derivation_of d) ∷ []) =
      ap goals_of done ∙ map-append (λ x. root (derivation_of x)) f.done.items (d ∷ []) in
      let same_left : goals_left e ≡ goals_left f = ap (λ xs. reverse (map goal_of xs)) left in
      record {
        node = node_same P (goal_of f.goal) (goal_of e.goal) f.choice.items e.choice.items
            (goals_of f.done.items ++ ((root (derivation_of d) ∷ []) ++ goals_left f)) (goals_of e.done.items ++ ([] ++ goals_left e))
            (ap goal_of (sym goal)) (sym choice)
            (sym (append_both (goals_of f.done.items) (root (derivation_of d) ∷ []) (goals_left f))
            ∙ ap (λ gs. gs ++ goals_left f) (sym more_done) ∙ ap (λ gs. goals_of e.done.items ++ gs) (sym same_left)) h.node;
        hold = subst (λ ds. AllHold P (derivations (map derivation_of ds))) (sym done)
            (subst (λ ds. AllHold P (derivations ds)) (sym (map-append derivation_of f.done.items (d ∷ [])))
            (both_hold P (map derivation_of f.done.items) (derivation_of d ∷ []) h.hold (k, tt)));
        left = λ x i. h.left x (subst (In x) same_left i);
      }

-- what a derivation of the code stands for, by what it is made of
pub derivation_rolled : (x : layer.Deriv-F code_deriv.Deriv)
    → derivation_of (roll-Deriv x) ≡ node (goal_of x.goal) x.choice.items (derivations (map derivation_of x.under.items))
derivation_rolled = fold-roll-Deriv Derivation derivation_step

-- a node with nothing left is that of a derivation that holds
pub all_done : (P : Program) (f : Frame) → f.left.items ≡ [] → IsPartly P f []
    → Holds P (node (goal_of f.goal) f.choice.items (derivations (map derivation_of f.done.items)))
all_done P f left h = (
  node_same P (goal_of f.goal) (goal_of f.goal) f.choice.items f.choice.items (goals_of f.done.items ++ ([] ++ goals_left f))
      (roots (derivations (map derivation_of f.done.items))) refl refl
      (ap (λ xs. goals_of f.done.items ++ reverse (map goal_of xs)) left ∙ append-nil (goals_of f.done.items) ∙ sym (roots_same f.done.items)) h.node,
  h.hold,
)

-- one more that waits
pub waits_more : (P : Program) (asked : Goal) (fs : List Frame) (f : Frame) (g h : Goal) → g ≡ goal_of f.goal → IsPartly P f (h ∷ [])
    → Wait P asked fs g → Wait P asked (fs ++ (f ∷ [])) h
waits_more P asked [] f g h e p w = (w ∙ e, (h, p, refl))
waits_more P asked (k ∷ ks) f g h e p w = (w.0, (w.1.0, w.1.1, waits_more P w.1.0 ks f g h e p w.1.2))

-- the last one that waits
pub waits_last : (P : Program) (asked : Goal) (fs : List Frame) (f : Frame) (g : Goal) → Wait P asked (fs ++ (f ∷ [])) g
    → IsPartly P f (g ∷ []) × Wait P asked fs (goal_of f.goal)
waits_last P asked [] f g w = (subst (λ h. IsPartly P f (h ∷ [])) w.1.2 w.1.1, w.0)
waits_last P asked (k ∷ ks) f g w =
    let r = waits_last P w.1.0 ks f g w.1.2 in
    (r.0, (w.0, (w.1.0, w.1.1, r.1)))

-- one step down: the node at hand waits for the next of its goals, and that one is begun
pub goes_down : (P : Program) (asked : Goal) (fs gs : List Frame) (f e t u : Frame) (g : code_goal) → e.goal ≡ f.goal
    → e.choice.items ≡ f.choice.items → e.done.items ≡ f.done.items → f.left.items ≡ e.left.items ++ (g ∷ [])
    → gs ≡ fs ++ (e ∷ []) → u ≡ t → goal_of t.goal ≡ goal_of g → IsPartly P f [] → Wait P asked fs (goal_of f.goal) → IsBegun P t
    → IsPartly P u [] × Wait P asked gs (goal_of u.goal)
goes_down P asked fs gs f e t u g a b d l s m n h w k =
    let n' : goal_of u.goal ≡ goal_of g = ap (λ (x : Frame). goal_of x.goal) m ∙ n in
    let w' : Wait P asked (fs ++ (e ∷ [])) (goal_of g) =
    waits_more P asked fs e (goal_of f.goal) (goal_of g) (ap goal_of (sym a)) (next_taken P f e a b g d l h) w in (
      subst (λ (x : Frame). IsPartly P x []) (sym m) k,
      subst (λ (x : Goal). Wait P asked gs x) (sym n') (subst (λ (xs : List Frame). Wait P asked xs (goal_of g)) (sym s) w'),
    )

-- one step back: the derivation that is made goes to the node that waits for it
pub comes_back : (P : Program) (asked : Goal) (fs gs : List Frame) (f e u : Frame) (g : Goal) (d : code_deriv.Deriv) → fs ≡ gs ++ (f ∷ [])
    → root (derivation_of d) ≡ g → Holds P (derivation_of d) → e.goal ≡ f.goal → e.choice.items ≡ f.choice.items
    → e.done.items ≡ f.done.items ++ (d ∷ []) → e.left.items ≡ f.left.items → u ≡ e → Wait P asked fs g
    → IsPartly P u [] × Wait P asked gs (goal_of u.goal)
comes_back P asked fs gs f e u g d s r h a b k l m w =
    let w' : IsPartly P f (g ∷ []) × Wait P asked gs (goal_of f.goal) =
    waits_last P asked gs f g (subst (λ (xs : List Frame). Wait P asked xs g) s w) in
    let same : goal_of f.goal ≡ goal_of u.goal = ap goal_of (sym a) ∙ ap (λ (x : Frame). goal_of x.goal) (sym m) in
    let before : IsPartly P f (root (derivation_of d) ∷ []) = subst (λ (x : Goal). IsPartly P f (x ∷ [])) (sym r) w'.0 in (
      subst (λ (x : Frame). IsPartly P x []) (sym m) (one_done P f e a b d k l before h),
      subst (λ (x : Goal). Wait P asked gs x) same w'.1,
    )

-- there is no derivation of a goal that does not follow, whatever its mismatch sets
pub not_explained : (P : Program) (asked : Goal) → ((g : Goal) → seen g ≡ seen asked → Follows P g → ⊥) → (d : Derivation) → ¬ Explains P asked d
not_explained P asked nothing d e = nothing (root d) e.of_goal (what_holds_follows P d e.holds)
