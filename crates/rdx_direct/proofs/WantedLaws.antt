-- What is wanted of a part, and how it is found out.
use Rattle.std.proofs.Common.{arith, ◌≡◌, ◌<◌, ◌+◌, ◌-◌, ℕ, [], ◌∷◌, length, get_or, List, Option, Some, None, sym, ◌∙◌, ap, subst}
use Rattle.std.specs.Prelude.{IfSome}
use Rattle.rdx_term.proofs.AtPaths.{tree_nodes-at, tree_at_le-nodes}
use Rattle.rdx_term.specs.AtPaths.{IsPlace, tree_at, context_at}
use Rattle.rdx_term.specs.Tree.{Tree, tree_nodes}
use Rattle.rdx_lang.specs.Bindings.{Binding, no_names, one}
use Rattle.rdx_lang.specs.Collecting.{HasExactly}
use Rattle.rdx_lang.specs.Members.{In, here, there}
use Rattle.rdx_lang.specs.Shown.{binding_of, bindings_of}
use Rattle.rdx_lang.specs.declared.binding.Binding as code
use Rattle.rdx_lang.specs.Patterns.{Pattern, Language, wild}
use Rattle.rdx_lang.specs.Rules.{Match, match_wild}
use Rattle.rdx_bind.specs.Searching.{MatchesNone}
use Rattle.rdx_direct.specs.Inside.Paths.{Leads}
use Rattle.rdx_direct.specs.Inside.Reaching.{Between, Reached}
use Rattle.rdx_direct.specs.Inside.Wanted.{Anything, IsWanted}
use Rattle.rdx_direct.specs.declared.paths.Paths.{Paths}

-- what follows of the number, if there is one
pub for_some : {P R : ℕ → Type 0} (o : Option ℕ) → IfSome o P → ((n : ℕ) → P n → R n) → IfSome o R
for_some None h f = tt
for_some (Some n) h f = f n h

module _ {L : Language} {r : Pattern} where
  -- a part that the pattern does not match
  pub unmatched_unwanted : {o : Option ℕ} {s : Tree} → MatchesNone L r s → IsWanted L r o s → ⊥
  unmatched_unwanted n w = n w.fits.binding w.fits.matched

  -- a part of another size
  pub other_size : {o : Option ℕ} {n : ℕ} {s : Tree} → o ≡ Some n → (tree_nodes s ≡ n → ⊥) → IsWanted L r o s → ⊥
  other_size {n = n} {s = s} e f w = f (subst (λ p. IfSome p (λ k. tree_nodes s ≡ k)) e w.size)

  -- a part of a term that is smaller
  pub too_small : {o : Option ℕ} {n : ℕ} (t : Tree) (ks : List ℕ) → o ≡ Some n → tree_nodes t < n → IsPlace t ks → IsWanted L r o (tree_at t ks) → ⊥
  too_small {n = n} t ks e h p w =
      let k : tree_nodes (tree_at t ks) ≡ n = subst (λ q. IfSome q (λ m. tree_nodes (tree_at t ks) ≡ m)) e w.size in
      let l = tree_at_le-nodes t ks p in
      absurd (omega arith)

-- the part around which the context stands
pub part_size : (t c : Tree) (ks : List ℕ) (n : ℕ) → IsPlace t ks → one c ≡ one (context_at t ks) → n ≡ (tree_nodes t + 1) - tree_nodes c → tree_nodes (tree_at t ks) ≡ n
part_size t c ks n p e h =
    let f : tree_nodes c ≡ tree_nodes (context_at t ks) = ap tree_nodes (same_term e) in
    let g = tree_nodes-at t ks p in
    omega arith
  where
    same_term : {a b : Tree} → one a ≡ one b → a ≡ b
    same_term {a} {b} q = cc

-- where there is one binding, no other is among them
pub only_binding : (bs : List code.Binding) (b : code.Binding) (g : Binding) → length bs ≡ 1 → b ≡ get_or bs 0 b → In g (bindings_of bs) → g ≡ binding_of b
only_binding [] b g l e i = absurd cc
only_binding (d ∷ []) b g l e (here h) = h ∙ ap binding_of (sym e)
only_binding (d ∷ []) b g l e (there i) = absurd (elim i [ ])
only_binding (d ∷ f ∷ fs) b g l e i = absurd (omega arith)

-- where anything is wanted, all is reached
pub all_reached : {L : Language} {r p : Pattern} {t : Tree} {P : Paths} {ws : List (List ℕ)} → r ≡ wild → Between (Reached L (IsWanted L r None) p t) (Reached L Anything p t) P → HasExactly ws (Leads P) → HasExactly ws (Reached L Anything p t)
all_reached {L} {t = t} e b h = record {
  sound = λ w i. b.sound w (h.sound w i);
  complete = λ w r. h.complete w (b.complete w (record { binding = r.binding; split = r.split; wanted = record { fits = record { binding = no_names; matched = subst (λ q. Match L q (tree_at t w) no_names) (sym e) match_wild }; size = tt } }));
}
