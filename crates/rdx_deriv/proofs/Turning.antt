-- Turns of a repetition and items of a list, one at a time.
use Rattle.std.proofs.Common.{◌≡◌, ◌≢◌, ℕ, zero, suc, ◌+◌, ◌<◌, true, false, Bool, List, [], ◌∷◌, ◌++◌, length, drop, get_or, refl, sym, ◌∙◌, ap, subst, arith}
use Rattle.std.specs.Prelude.{◌↔◌, ◌&&◌, bytes_eq}
use Rattle.rdx_term.specs.Tree.{Tree, cons}
use Rattle.rdx_lang.specs.Bindings.{Binding, bound_names, pair_names}
use Rattle.rdx_lang.specs.BindingView.{pairs_of}
use Rattle.rdx_lang.specs.Members.{here, there}
use Rattle.rdx_lang.specs.Patterns.{Pattern}
use Rattle.rdx_lang.specs.declared.binding.Value as code_value
use Rattle.rdx_lang.proofs.CollectionLaws.{BindNames}
use Rattle.rdx_deriv.specs.Uses.{Focus, nowhere, at, item_goal}
use Rattle.rdx_deriv.specs.Inside.Same.{same_names}
use Rattle.rdx_deriv.specs.Inside.Layouts.{State, Takes, TakesTurns, no_turn, turn, names_of_pairs}
use Rattle.rdx_deriv.proofs.SameLists.{rest_from}
use Rattle.rdx_deriv.proofs.SamePatterns.{names_alike}

-- ---- names

bound_pairs : (ps : List (List ℕ × code_value.Value)) → pair_names (pairs_of ps) ≡ names_of_pairs ps
bound_pairs [] = refl
bound_pairs (p ∷ ps) = ap (λ xs. p.0 ∷ xs) (bound_pairs ps)

-- the test of names, of a binding
pub binds_alike : (xs : List (List ℕ)) (ps : List (List ℕ × code_value.Value)) → (same_names xs (names_of_pairs ps) ≡ true) ↔ (pair_names (pairs_of ps) ≡ xs)
binds_alike xs ps =
    (λ h. bound_pairs ps ∙ sym ((names_alike xs (names_of_pairs ps)).0 h), λ e. (names_alike xs (names_of_pairs ps)).1 (sym (sym (bound_pairs ps) ∙ e)))

-- the first name, and the others
pub pair_names_at : (xs : List (List ℕ)) (ps : List (List ℕ × code_value.Value)) (i : ℕ) (x : List ℕ) (p : List ℕ × code_value.Value) →
    i < length xs → i < length ps → x ≡ get_or xs i x → p ≡ get_or ps i p
    → same_names (drop i xs) (names_of_pairs (drop i ps)) ≡ (bytes_eq x p.0 && same_names (drop (i + 1) xs) (names_of_pairs (drop (i + 1) ps)))
pair_names_at xs ps i x p h k e f =
    let a = rest_from xs i x h e in
    let b = rest_from ps i p k f in
    λ j. same_names (a j) (names_of_pairs (b j))

pub pair_names_lengths : (xs : List (List ℕ)) (ps : List (List ℕ × code_value.Value)) → (length xs ≢ length ps) → false ≡ same_names xs (names_of_pairs ps)
pair_names_lengths [] [] h = absurd (h refl)
pair_names_lengths [] (p ∷ ps) h = refl
pair_names_lengths (x ∷ xs) [] h = refl
pair_names_lengths (x ∷ xs) (p ∷ ps) h = both (bytes_eq x p.0) (same_names xs (names_of_pairs ps)) (pair_names_lengths xs ps (λ e. h (ap suc e)))
  where
    both : (a b : Bool) → false ≡ b → false ≡ (a && b)
    both true b e = e
    both false b e = refl

-- ---- one step

-- an item's goal says what it binds
goal_tells : (f : Focus) (l : List ℕ) (p : Pattern) (t : Tree) (c d : Binding) → item_goal f l p t c ≡ item_goal f l p t d → c ≡ d
goal_tells nowhere l p t c d e = cc
goal_tells (at zero D s) l p t c d e = cc
goal_tells (at (suc k) D s) l p t c d e = cc

-- there is one step at most
pub one_step : (l : List ℕ) (p : Pattern) (x : State) (c d : Binding) (y z : State) → Takes l p x c y → Takes l p x d z → (c ≡ d) × (y ≡ z)
one_step l p x c d y z h k =
    let t : h.term ≡ k.term = (let e : cons h.term y.terms ≡ cons k.term z.terms = sym h.terms ∙ k.terms in cc) in
    let ts : y.terms ≡ z.terms = (let e : cons h.term y.terms ≡ cons k.term z.terms = sym h.terms ∙ k.terms in cc) in
    let g : h.goal ≡ k.goal = (let e : h.goal ∷ y.goals ≡ k.goal ∷ z.goals = sym h.goals ∙ k.goals in cc) in
    let gs : y.goals ≡ z.goals = (let e : h.goal ∷ y.goals ≡ k.goal ∷ z.goals = sym h.goals ∙ k.goals in cc) in
    let f : y.focus ≡ z.focus = h.behind ∙ sym k.behind in
    let s : item_goal x.focus l p k.term c ≡ item_goal x.focus l p k.term d =
    ap (λ u. item_goal x.focus l p u c) (sym t) ∙ sym h.of_item ∙ g ∙ k.of_item in
    (goal_tells x.focus l p k.term c d s, λ i. record { terms = ts i; goals = gs i; focus = f i })

-- and one run of so many turns
pub one_run : (l : List ℕ) (p : Pattern) (k : ℕ) (x : State) (cs ds : List Binding) (y z : State) → TakesTurns l p k x cs y → TakesTurns l p k x ds z
    → (cs ≡ ds) × (y ≡ z)
one_run l p zero x cs ds y z no_turn no_turn = (refl, refl)
one_run l p (suc k) x cs ds y z (turn {y = v} {c = c} {cs = es} h r) (turn {y = w} {c = d} {cs = fs} g q) =
    let e = one_step l p x c d v w h g in
    let f = one_run l p k w es fs y z (subst (λ u. TakesTurns l p k u es y) e.1 r) q in
    ((λ i. e.0 i ∷ f.0 i), f.1)

-- a turn more at the end
pub turn_behind : (l : List ℕ) (p : Pattern) (k : ℕ) (x y z : State) (cs : List Binding) (c : Binding) → TakesTurns l p k x cs y → Takes l p y c z
    → TakesTurns l p (suc k) x (cs ++ c ∷ []) z
turn_behind l p zero x y z cs c no_turn h = turn h no_turn
turn_behind l p (suc k) x y z cs c (turn {y = w} {cs = ds} g r) h = turn g (turn_behind l p k w y z ds c r h)

-- ---- turns in a loop

-- all turns but so many are done
pub record TurnsDone (l : List ℕ) (p : Pattern) (count : ℕ) (x : State) (left : ℕ) (cs : List Binding) (y : State) : Type 0 where
  pub done : ℕ
  pub together : done + left ≡ count
  pub taken : TakesTurns l p done x cs y

-- none at first
pub none_done : (l : List ℕ) (p : Pattern) (count : ℕ) (x : State) → TurnsDone l p count x count [] x
none_done l p count x = record { done = 0; together = omega arith; taken = no_turn }

-- one more
pub more_done : {l : List ℕ} {p : Pattern} {count left less : ℕ} {x y z : State} {cs : List Binding} {c : Binding} →
    TurnsDone l p count x left cs y → Takes l p y c z → less + 1 ≡ left → TurnsDone l p count x less (cs ++ c ∷ []) z
more_done {l = l} {p = p} {left = left} {less = less} {x = x} {y = y} {z = z} {cs = cs} {c = c} d h e =
    record { done = suc d.done; together = omega (arith, d.together); taken = turn_behind l p d.done x y z cs c d.taken h }

-- what is done of a run goes on
pub goes_on : (l : List ℕ) (p : Pattern) (done left n : ℕ) (x y z : State) (cs ds : List Binding) → done + left ≡ n → 0 < left
    → TakesTurns l p done x cs y → TakesTurns l p n x ds z → (c : Binding) × (w : State) × Takes l p y c w
goes_on l p zero left zero x y z cs ds e h no_turn r = absurd (omega arith)
goes_on l p zero left (suc n) x y z cs ds e h no_turn (turn {y = w} {c = c} g r) = (c, w, g)
goes_on l p (suc done) left zero x y z cs ds e h q r = absurd (omega arith)
goes_on l p (suc done) left (suc n) x y z cs ds e h (turn {y = v} {c = a} {cs = es} f q) (turn {y = w} {c = b} {cs = bs} g r) =
    let s = one_step l p x a b v w f g in
    goes_on l p done left n w y z es bs (omega arith) h (subst (λ u. TakesTurns l p done u es y) s.1 q) r

pub no_more : {l : List ℕ} {p : Pattern} {count left : ℕ} {x y : State} {cs : List Binding} → TurnsDone l p count x left cs y → 0 < left
    → ((c : Binding) (z : State) → Takes l p y c z → ⊥) → (ds : List Binding) (z : State) → TakesTurns l p count x ds z → ⊥
no_more {l = l} {p = p} {count = count} {left = left} {x = x} {y = y} {cs = cs} d h none ds z r =
    let k = goes_on l p d.done left count x y z cs ds d.together h d.taken r in none k.0 k.1 k.2

-- ---- bindings of the same names

-- the first, and the others
pub bind_first : (xs : List (List ℕ)) (c : Binding) (cs : List Binding) → bound_names c ≡ xs → (BindNames xs cs ↔ BindNames xs (c ∷ cs))
bind_first xs c cs e = (forth, λ h b i. h b (there i))
  where
    forth : BindNames xs cs → BindNames xs (c ∷ cs)
    forth h b (here f) = ap bound_names f ∙ e
    forth h b (there i) = h b i

pub bind_not : (xs : List (List ℕ)) (c : Binding) (cs : List Binding) → (bound_names c ≡ xs → ⊥) → BindNames xs (c ∷ cs) → ⊥
bind_not xs c cs n h = n (h c (here refl))

pub bind_none : (xs : List (List ℕ)) → BindNames xs []
bind_none xs b i = elim i [ ]
