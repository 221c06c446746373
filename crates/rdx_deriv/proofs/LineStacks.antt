-- The lines that are still to be written.
use Rattle.std.proofs.Common.{◌≡◌, ℕ, suc, ◌+◌, ◌<◌, List, [], ◌∷◌, ◌++◌, length, map, refl, sym, ◌∙◌, ap, arith}
use Rattle.rdx_lang.specs.Programs.{Program}
use Rattle.rdx_deriv.specs.Derivations.{Goal, Derivation, Derivations, node, none, more, derivations, root, chosen, under}
use Rattle.rdx_deriv.specs.Lines.{node_line, derivation_lines, all_lines}
use Rattle.std.specs.Prelude.{Option, Some, None, MatchOption}
use Rattle.std.specs.Borrow.{Bor}
use Rattle.rdx_deriv.specs.DerivationView.{derivation_of}
use Rattle.rdx_deriv.specs.declared.deriv.Deriv as code_deriv
use Rattle.rdx_deriv.specs.Inside.Stacks.{pending, stack_weight, stacked}
use Rattle.rdx_deriv.specs.Inside.Worklists.{derivation_nodes, derivations_nodes}

append_assoc : (xs ys zs : List ℕ) → (xs ++ ys) ++ zs ≡ xs ++ (ys ++ zs)
append_assoc [] ys zs = refl
append_assoc (x ∷ xs) ys zs = ap (λ ws. x ∷ ws) (append_assoc xs ys zs)

append_none : (xs : List ℕ) → xs ++ [] ≡ xs
append_none [] = refl
append_none (x ∷ xs) = ap (λ ws. x ∷ ws) (append_none xs)

-- the last slice comes first
pub last_first : (P : Program) (n : ℕ) (ss : List Derivations) (s : Derivations) → pending P n (ss ++ s ∷ []) ≡ all_lines P (n + length ss) s ++ pending P n ss
last_first P n [] s = ap (λ m. all_lines P m s) (omega arith) ∙ sym (append_none (all_lines P (n + 0) s))
last_first P n (r ∷ ss) s =
    ap (λ ls. ls ++ all_lines P n r) (last_first P (n + 1) ss s)
    ∙ append_assoc (all_lines P (n + 1 + length ss) s) (pending P (n + 1) ss) (all_lines P n r)
    ∙ ap (λ m. all_lines P m s ++ (pending P (n + 1) ss ++ all_lines P n r)) (omega arith)

-- a derivation's lines
pub lines_of : (P : Program) (n : ℕ) (d : Derivation) → derivation_lines P n d ≡ node_line P n (root d) (chosen d) ++ all_lines P (n + 1) (under d)
lines_of P n (node g ks ds) = refl

-- a slice with one derivation and others gives way to the others and to what stands under the one
pub one_written : (P : Program) (n : ℕ) (ss : List Derivations) (d : Derivation) (os : Derivations) (start out : List ℕ) →
    out ++ pending P n (ss ++ more d os ∷ []) ≡ start
    → (out ++ node_line P (n + length ss) (root d) (chosen d)) ++ pending P n ((ss ++ os ∷ []) ++ under d ∷ []) ≡ start
one_written P n ss d os start out h =
    let line = node_line P (n + length ss) (root d) (chosen d) in
    let a : pending P n ((ss ++ os ∷ []) ++ under d ∷ []) ≡ all_lines P (n + length ss + 1) (under d) ++ (all_lines P (n + length ss) os ++ pending P n ss) =
    last_first P n (ss ++ os ∷ []) (under d) ∙ (λ i. all_lines P (longer ss os i) (under d) ++ last_first P n ss os i) in
    let b : pending P n (ss ++ more d os ∷ []) ≡ (line ++ all_lines P (n + length ss + 1) (under d)) ++ (all_lines P (n + length ss) os ++ pending P n ss) =
    last_first P n ss (more d os) ∙ append_assoc (derivation_lines P (n + length ss) d) (all_lines P (n + length ss) os) (pending P n ss)
    ∙ ap (λ ls. ls ++ (all_lines P (n + length ss) os ++ pending P n ss)) (lines_of P (n + length ss) d) in
    ap (λ ls. (out ++ line) ++ ls) a
    ∙ append_assoc out line (all_lines P (n + length ss + 1) (under d) ++ (all_lines P (n + length ss) os ++ pending P n ss))
    ∙ ap (λ ls. out ++ ls) (sym (append_assoc line (all_lines P (n + length ss + 1) (under d)) (all_lines P (n + length ss) os ++ pending P n ss)) ∙ sym b)
    ∙ h
  where
    length_one : (xs : List Derivations) (x : Derivations) → length (xs ++ x ∷ []) ≡ length xs + 1
    length_one [] x = refl
    length_one (y ∷ xs) x = let k = length_one xs x in omega arith

    longer : (xs : List Derivations) (x : Derivations) → n + length (xs ++ x ∷ []) ≡ n + length xs + 1
    longer xs x = let k = length_one xs x in omega arith

-- an empty slice goes
pub none_written : (P : Program) (n : ℕ) (ss : List Derivations) (start out : List ℕ) → out ++ pending P n (ss ++ none ∷ []) ≡ start → out ++ pending P n ss ≡ start
none_written P n ss start out h = ap (λ ls. out ++ ls) (sym (last_first P n ss none)) ∙ h

-- ---- what is left falls

both_weights : (ss rs : List Derivations) → stack_weight (ss ++ rs) ≡ stack_weight ss + stack_weight rs
both_weights [] rs = omega arith
both_weights (s ∷ ss) rs = let k = both_weights ss rs in omega arith

nodes_of : (d : Derivation) → derivation_nodes d ≡ derivations_nodes (under d) + 1
nodes_of (node g ks ds) = refl

pub one_lighter : (ss : List Derivations) (d : Derivation) (os : Derivations) →
    stack_weight ((ss ++ os ∷ []) ++ under d ∷ []) < stack_weight (ss ++ more d os ∷ [])
one_lighter ss d os =
    let a = both_weights (ss ++ os ∷ []) (under d ∷ []) in
    let b = both_weights ss (os ∷ []) in
    let c = both_weights ss (more d os ∷ []) in
    let e = nodes_of d in
    omega arith

pub none_lighter : (ss : List Derivations) → stack_weight ss < stack_weight (ss ++ none ∷ [])
none_lighter ss = let a = both_weights ss (none ∷ []) in omega arith

-- ---- a turn of the loop

module _ (old popped : List Derivations) (r : Derivations) (e : old ≡ popped ++ r ∷ []) where
  module _ (d : Derivation) (os us : Derivations) (last : List Derivations) (f : r ≡ more d os) (u : us ≡ under d) (l : last ≡ (popped ++ os ∷ []) ++ us ∷ []) where
    pub turn_lighter : stack_weight last < stack_weight old
    turn_lighter =
        let a : stack_weight last ≡ stack_weight ((popped ++ os ∷ []) ++ under d ∷ []) = ap stack_weight l ∙ ap (λ (v : Derivations). stack_weight ((popped ++ os ∷ []) ++ v ∷ [])) u in
        let b : stack_weight old ≡ stack_weight (popped ++ more d os ∷ []) = ap stack_weight e ∙ ap (λ (v : Derivations). stack_weight (popped ++ v ∷ [])) f in
        let c = one_lighter popped d os in
        omega arith

    pub turn_written : (P : Program) (level : ℕ) (g : Goal) (ks start out new : List ℕ) → level ≡ length popped + 1 → g ≡ root d → ks ≡ chosen d → new ≡ out ++ node_line P level g ks
        → out ++ pending P 1 old ≡ start → new ++ pending P 1 last ≡ start
    turn_written P level g ks start out new m p q n h =
        let h' : out ++ pending P 1 (popped ++ more d os ∷ []) ≡ start =
        ap (λ (v : Derivations). out ++ pending P 1 (popped ++ v ∷ [])) (sym f) ∙ ap (λ (vs : List Derivations). out ++ pending P 1 vs) (sym e) ∙ h in
        let m' : level ≡ 1 + length popped = omega arith in
        (λ i. n i ++ pending P 1 (l i))
        ∙ (λ i. (out ++ node_line P (m' i) (p i) (q i)) ++ pending P 1 ((popped ++ os ∷ []) ++ u i ∷ []))
        ∙ one_written P 1 popped d os start out h'

  module _ (f : r ≡ none) where
    pub end_lighter : stack_weight popped < stack_weight old
    end_lighter =
        let b : stack_weight old ≡ stack_weight (popped ++ none ∷ []) = ap stack_weight e ∙ ap (λ (v : Derivations). stack_weight (popped ++ v ∷ [])) f in
        let c = none_lighter popped in
        omega arith

    pub end_written : (P : Program) (start out : List ℕ) → out ++ pending P 1 old ≡ start → out ++ pending P 1 popped ≡ start
    end_written P start out h =
        none_written P 1 popped start out
        (ap (λ (v : Derivations). out ++ pending P 1 (popped ++ v ∷ [])) (sym f) ∙ ap (λ (vs : List Derivations). out ++ pending P 1 vs) (sym e) ∙ h)

pub stacked_length : (ss : List (Bor (List code_deriv.Deriv))) → length (stacked ss) ≡ length ss
stacked_length [] = refl
stacked_length (s ∷ ss) = ap suc (stacked_length ss)

pub empty_slice : (ds : List code_deriv.Deriv) → length ds ≡ 0 → derivations (map derivation_of ds) ≡ none
empty_slice [] h = refl
empty_slice (d ∷ ds) h = absurd cc

pub when_none : {A : Type 0} (o : Option A) (P : Type 0) (Q : A → Type 0) → o ≡ None → MatchOption o P Q → P
when_none None P Q e h = h
when_none (Some x) P Q e h = absurd cc
