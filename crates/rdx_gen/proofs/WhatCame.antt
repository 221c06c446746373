-- What was made, of one step after the other.
use Rattle.std.specs.Prelude.{None, Some}
use Rattle.std.proofs.Common.{◌≡◌, Bool, true, false, refl, subst}
use Rattle.std.specs.Prelude.{if◌then◌else◌}
use Rattle.rand_pcg.specs.Lcg.{Lcg}
use Rattle.rdx_term.specs.Context.{is_context}
use Rattle.rdx_term.specs.Fill.{fill_of}
use Rattle.rdx_term.specs.Tree.{Tree}
use Rattle.rdx_gen.specs.Outcomes.{Outcome, State, made, stopped, nothing, deep, large, after, limited, filled}

-- what came of two steps came of the first and then of the second
pub record Came {A B : Type 0} (r : Outcome A) (f : A → State → Outcome B) (y : B) (z : State) : Type 0 where
  pub value : A
  pub state : State
  pub first : r ≡ made value state
  pub second : f value state ≡ made y z

pub came : {A B : Type 0} (r : Outcome A) (f : A → State → Outcome B) (y : B) (z : State) → after r f ≡ made y z → Came r f y z
came (made x s) f y z e = record { value = x; state = s; first = refl; second = e }
came (stopped l w) f y z e = absurd cc
came nothing f y z e = absurd cc

pub made_is : {A : Type 0} (x y : A) (s z : State) → made x s ≡ made y z → x ≡ y
made_is x y s z e = cc

pub state_is : {A : Type 0} (x y : A) (s z : State) → made x s ≡ made y z → s ≡ z
state_is x y s z e = cc

-- what is so of it is so of what it is equal to
pub moved : {A : Type 0} (P : A → State → Type 0) (x y : A) (s z : State) → made x s ≡ made y z → P x s → P y z
moved P x y s z e h = subst (λ (w : State). P y w) (state_is x y s z e) (subst (λ a. P a s) (made_is x y s z e) h)

by_tests : (P : Tree → State → Type 0) (a b : Bool) (t u : Tree) (w : Lcg) (s z : State)
    → (if a then stopped deep w else if b then stopped large w else made t s) ≡ made u z → P t s → P u z
by_tests P true b t u w s z e h = absurd cc
by_tests P false true t u w s z e h = absurd cc
by_tests P false false t u w s z e h = moved P t u s z e h

-- within the limits it is the same term
pub limited_moved : (P : Tree → State → Type 0) (t u : Tree) (s z : State) → limited t s ≡ made u z → P t s → P u z
limited_moved P t u s z e h = by_tests P _ _ t u s.words s z e h

fill_tests : (P : Tree → State → Type 0) (b : Bool) (t u : Tree) (s z : State) → (if b then limited t s else nothing) ≡ made u z → P t s → P u z
fill_tests P true t u s z e h = limited_moved P t u s z e h
fill_tests P false t u s z e h = absurd cc

pub filled_moved : (P : Tree → State → Type 0) (C D E : Tree) (s z : State) → filled C D s ≡ made E z → P (fill_of C D) s → P E z
filled_moved P C D E s z e h = fill_tests P (is_context C) (fill_of C D) E s z e h

-- ---- options

-- none is not something
pub none_is_some : {A : Type 0} (x : A) (C : Type 0) → None ≡ Some x → C
none_is_some x C e = absurd cc
