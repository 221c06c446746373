-- A walk ends: what is left to do gets less.
use Rattle.std.proofs.Common.{◌≡◌, ℕ, zero, suc, ◌+◌, ◌<◌, ◌≤◌, List, [], ◌∷◌, length, set, arith}
use Rattle.rdx_leftrec.specs.Inside.Lists.{At, with_all}
use Rattle.rdx_leftrec.specs.Inside.Reach.{targets_at}
use Rattle.rdx_leftrec.specs.Inside.Walks.{unmet}
use Rattle.rdx_leftrec.specs.declared.walk.State.{State}
use Rattle.rdx_leftrec.specs.declared.walk.State.TheVariants.{New, Open, Done}

-- a place that was new is open
pub unmet-opened : (ts : List (List ℕ)) (ss : List State) (p t : ℕ) → p < length ts → At ss p New → unmet ts (set ss p (Open t)) + (length (targets_at ts p) + 2) ≡ unmet ts ss
unmet-opened [] ss p t l h = absurd (omega arith)
unmet-opened (js ∷ ts) [] p t l h = absurd h
unmet-opened (js ∷ ts) (New ∷ ss) zero t l h = omega arith
unmet-opened (js ∷ ts) (Open s ∷ ss) zero t l h = absurd cc
unmet-opened (js ∷ ts) (Done n ∷ ss) zero t l h = absurd cc
unmet-opened (js ∷ ts) (New ∷ ss) (suc p) t l h = let k = unmet-opened ts ss p t (omega arith) h in omega arith
unmet-opened (js ∷ ts) (Open s ∷ ss) (suc p) t l h = unmet-opened ts ss p t (omega arith) h
unmet-opened (js ∷ ts) (Done n ∷ ss) (suc p) t l h = unmet-opened ts ss p t (omega arith) h

-- a place is done
unmet-done : (ts : List (List ℕ)) (ss : List State) (p n : ℕ) → unmet ts (set ss p (Done n)) ≤ unmet ts ss
unmet-done [] ss p n = omega arith
unmet-done (js ∷ ts) [] p n = omega arith
unmet-done (js ∷ ts) (New ∷ ss) zero n = omega arith
unmet-done (js ∷ ts) (Open s ∷ ss) zero n = omega arith
unmet-done (js ∷ ts) (Done m ∷ ss) zero n = omega arith
unmet-done (js ∷ ts) (New ∷ ss) (suc p) n = let k = unmet-done ts ss p n in omega arith
unmet-done (js ∷ ts) (Open s ∷ ss) (suc p) n = unmet-done ts ss p n
unmet-done (js ∷ ts) (Done m ∷ ss) (suc p) n = unmet-done ts ss p n

-- many places are
pub unmet-all_done : (ts : List (List ℕ)) (ss : List State) (ps : List ℕ) (n : ℕ) → unmet ts (with_all ss ps (Done n)) ≤ unmet ts ss
unmet-all_done ts ss [] n = omega arith
unmet-all_done ts ss (p ∷ ps) n = let k = unmet-all_done ts (set ss p (Done n)) ps n in let l = unmet-done ts ss p n in omega arith
