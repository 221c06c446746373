-- A list of derivations that are still to be looked at: whether each of them holds.
use Rattle.std.proofs.Common.{◌≡◌, ℕ, true, false, Bool, List, [], ◌∷◌, ◌++◌, map, refl, sym, ◌∙◌, ap, subst}
use Rattle.std.specs.Prelude.{◌↔◌, IsTrue}
use Rattle.rdx_lang.specs.Programs.{Program}
use Rattle.rdx_lang.proofs.NameLaws.{match-names, split-names}
use Rattle.rdx_deriv.specs.Derivations.{Goal, matched, split, judged, Derivation, Derivations, node, derivations, root, roots, chosen, under}
use Rattle.rdx_deriv.specs.DerivationView.{derivation_of, goals_of}
use Rattle.rdx_deriv.specs.Holds.{IsNode, Holds, AllHold}
use Rattle.rdx_deriv.specs.Laws.{Follows}
use Rattle.rdx_deriv.specs.Inside.Decides.{Decides}
use Rattle.rdx_deriv.specs.Inside.Layouts.{BindsItsNames, BindTheirNames}
use Rattle.rdx_deriv.specs.Inside.Named.{IsNodeOf, EachHolds}
use Rattle.rdx_deriv.specs.declared.deriv.Deriv as code_deriv
use Rattle.rdx_deriv.proofs.Sound.{all_follow}

-- ---- one node

-- what follows binds the names of its pattern
binds_names : (P : Program) (g : Goal) → Follows P g → BindsItsNames g
binds_names P (matched l p t b) h = match-names h.here
binds_names P (split l p t C s b) h = split-names h.here
binds_names P (judged j a o) h = tt

all_bind : (P : Program) (ds : Derivations) → AllHold P ds → BindTheirNames (roots ds)
all_bind P ds h g i = binds_names P g (all_follow P ds h g i)

goals_roots : (us : List code_deriv.Deriv) → goals_of us ≡ roots (derivations (map derivation_of us))
goals_roots [] = refl
goals_roots (u ∷ us) = ap (λ gs. root (derivation_of u) ∷ gs) (goals_roots us)

-- the test of a node, at the derivation that it is of
pub node_of : (r : Bool) (P : Program) (D : Derivation) (g : Goal) (ks : List ℕ) (us : List code_deriv.Deriv) → g ≡ root D → ks ≡ chosen D
    → derivations (map derivation_of us) ≡ under D → Decides r (goals_of us) (IsNode P g ks (goals_of us)) → IsNodeOf r P D
node_of r P D g ks us e f u h =
    let a : goals_of us ≡ roots (under D) = goals_roots us ∙ ap roots u in
    let b : Decides r (roots (under D)) (IsNode P g ks (roots (under D))) = subst (λ (gs : List Goal). Decides r gs (IsNode P g ks gs)) a h in
    let c : Decides r (roots (under D)) (IsNode P (root D) ks (roots (under D))) = subst (λ (k : Goal). Decides r (roots (under D)) (IsNode P k ks (roots (under D)))) e b in
    subst (λ (ls : List ℕ). Decides r (roots (under D)) (IsNode P (root D) ls (roots (under D)))) f c

-- ---- the list

both_hold : (P : Program) (ds es : List Derivation) → (EachHolds P (ds ++ es) ↔ (EachHolds P ds × EachHolds P es))
both_hold P [] es = (λ h. (tt, h), λ h. h.1)
both_hold P (d ∷ ds) es =
    let k = both_hold P ds es in
    (λ h. let m = k.0 h.1 in ((h.0, m.0), m.1), λ h. (h.0.0, k.1 (h.0.1, h.1)))

module _ (P : Program) (all : Derivation) (ds old : List Derivation) (d : Derivation) (e : old ≡ ds ++ d ∷ []) (inv : EachHolds P old ↔ Holds P all) where
  -- one that is no use of a rule
  pub one_fails : IsNodeOf false P d → (IsTrue false ↔ Holds P all)
  one_fails n = (λ k. absurd cc, λ k. absurd (at_root d n ((both_hold P ds (d ∷ [])).0 (subst (λ xs. EachHolds P xs) e (inv.1 k))).1.0))
    where
      at_root : (f : Derivation) → IsNodeOf false P f → Holds P f → ⊥
      at_root (node g ks fs) m h = let k = m.complete (all_bind P fs h.1) h.0 in cc

  -- one that is gives way to those under it
  pub one_holds : IsNodeOf true P d → (us : List Derivation) → derivations us ≡ under d → (new : List Derivation) → new ≡ ds ++ us → (EachHolds P new ↔ Holds P all)
  one_holds h us f new n = (forth, back)
    where
      whole : (g : Derivation) → derivations us ≡ under g → IsNodeOf true P g → EachHolds P us → Holds P g
      whole (node g ks fs) k a b = (a.sound refl, subst (λ xs. AllHold P xs) k b)

      below : (g : Derivation) → derivations us ≡ under g → Holds P g → EachHolds P us
      below (node g ks fs) k a = subst (λ xs. AllHold P xs) (sym k) a.1

      forth : EachHolds P new → Holds P all
      forth k =
          let m = (both_hold P ds us).0 (subst (λ xs. EachHolds P xs) n k) in
          inv.0 (subst (λ xs. EachHolds P xs) (sym e) ((both_hold P ds (d ∷ [])).1 (m.0, (whole d f h m.1, tt))))

      back : Holds P all → EachHolds P new
      back k =
          let m = (both_hold P ds (d ∷ [])).0 (subst (λ xs. EachHolds P xs) e (inv.1 k)) in
          subst (λ xs. EachHolds P xs) (sym n) ((both_hold P ds us).1 (m.0, below d f m.1.0))
