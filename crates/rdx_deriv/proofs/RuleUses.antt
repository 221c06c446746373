-- Rules with one pattern inside: what is read under the node decides.
use Rattle.std.proofs.Common.{◌≡◌, ℕ, false, Bool, List, [], ◌∷◌, sym, ◌∙◌, ap, subst}
use Rattle.std.specs.Prelude.{◌↔◌, IsTrue}
use Rattle.rdx_term.specs.Tree.{Tree}
use Rattle.rdx_lang.specs.Bindings.{Binding}
use Rattle.rdx_lang.specs.Patterns.{Pattern}
use Rattle.rdx_deriv.specs.Derivations.{Goal, matched, split}
use Rattle.rdx_term.specs.Fill.{fill_of}
use Rattle.rdx_lang.specs.Join.{IsJoin}
use Rattle.rdx_deriv.specs.Uses.{OneUnder, InHoleMatch, InHoleSplit}

-- nothing there is read
pub none_under : (goal : Binding → Goal) (test : Binding → Type 0) (ks : List ℕ) (gs : List Goal) → ((c : Binding) → ks ≡ [] → gs ≡ goal c ∷ [] → ⊥)
    → (IsTrue false ↔ OneUnder goal test ks gs)
none_under goal test ks gs none = (λ h. absurd cc, λ u. absurd (none u.inside u.no_choice u.under))

module _ (goal : Binding → Goal) (test : Binding → Type 0) (tells : (c d : Binding) → goal c ≡ goal d → c ≡ d) where
  pub some_under : (r : Bool) (ks : List ℕ) (gs : List Goal) (c : Binding) → ks ≡ [] → gs ≡ goal c ∷ [] → (IsTrue r ↔ test c) → (IsTrue r ↔ OneUnder goal test ks gs)
  some_under r ks gs c e f h = (λ k. record { inside = c; passes = h.0 k; no_choice = e; under = f }, back)
    where
      back : OneUnder goal test ks gs → IsTrue r
      back u = h.1 (subst test (tells u.inside c (let g : goal u.inside ∷ [] ≡ goal c ∷ [] = sym u.under ∙ f in cc)) u.passes)

pub match_tells : (l : List ℕ) (p : Pattern) (t : Tree) (c d : Binding) → matched l p t c ≡ matched l p t d → c ≡ d
match_tells l p t c d e = cc

pub split_tells : (l : List ℕ) (p : Pattern) (t C s : Tree) (c d : Binding) → split l p t C s c ≡ split l p t C s d → c ≡ d
split_tells l p t C s c d e = cc

-- `in-hole` that matches
module _ (l : List ℕ) (q r : Pattern) (t : Tree) (b : Binding) (ks : List ℕ) (gs : List Goal) where
  pub in_hole_match_some : (ok : Bool) (g h : Goal) (C u : Tree) (c d : Binding) → ks ≡ [] → gs ≡ g ∷ h ∷ [] → g ≡ split l q t C u c → h ≡ matched l r u d
      → (IsTrue ok ↔ IsJoin c d b) → (IsTrue ok ↔ InHoleMatch l q r t b ks gs)
  in_hole_match_some ok g h C u c d e f i j k =
      let w : gs ≡ split l q t C u c ∷ matched l r u d ∷ [] = f ∙ (λ z. i z ∷ j z ∷ []) in (
        λ m. record { context = C; part = u; outer = c; inner = d; joined = k.0 m; no_choice = e; under = w },
        λ m. k.1 (let v : split l q t m.context m.part m.outer ∷ matched l r m.part m.inner ∷ [] ≡ split l q t C u c ∷ matched l r u d ∷ [] = sym m.under ∙ w in
            let x : m.outer ≡ c = cc in let y : m.inner ≡ d = cc in
            subst (λ (z : Binding). IsJoin c z b) y (subst (λ (z : Binding). IsJoin z m.inner b) x m.joined)),
      )

  pub in_hole_match_first : (g h : Goal) → gs ≡ g ∷ h ∷ [] → ((C u : Tree) (c : Binding) → g ≡ split l q t C u c → ⊥) → (IsTrue false ↔ InHoleMatch l q r t b ks gs)
  in_hole_match_first g h f none = (
    λ m. absurd cc,
    λ m. absurd (none m.context m.part m.outer
        (let v : g ∷ h ∷ [] ≡ split l q t m.context m.part m.outer ∷ matched l r m.part m.inner ∷ [] = sym f ∙ m.under in cc)),
  )

  pub in_hole_match_second : (g h : Goal) (C u : Tree) (c : Binding) → gs ≡ g ∷ h ∷ [] → g ≡ split l q t C u c → ((d : Binding) → h ≡ matched l r u d → ⊥)
      → (IsTrue false ↔ InHoleMatch l q r t b ks gs)
  in_hole_match_second g h C u c f i none = (
    λ m. absurd cc,
    λ m. absurd (none m.inner
        (let v : g ∷ h ∷ [] ≡ split l q t m.context m.part m.outer ∷ matched l r m.part m.inner ∷ [] = sym f ∙ m.under in
        let a : m.part ≡ u = cc in let e : h ≡ matched l r m.part m.inner = cc in e ∙ ap (λ (z : Tree). matched l r z m.inner) a)),
  )

  pub in_hole_match_none : ((g h : Goal) → ks ≡ [] → gs ≡ g ∷ h ∷ [] → ⊥) → (IsTrue false ↔ InHoleMatch l q r t b ks gs)
  in_hole_match_none none =
      (λ m. absurd cc, λ m. absurd (none (split l q t m.context m.part m.outer) (matched l r m.part m.inner) m.no_choice m.under))

-- `in-hole` that splits
module _ (l : List ℕ) (q r : Pattern) (t K s : Tree) (b : Binding) (ks : List ℕ) (gs : List Goal) where
  pub in_hole_split_none : ((g h : Goal) → ks ≡ [] → gs ≡ g ∷ h ∷ [] → ⊥) → (IsTrue false ↔ InHoleSplit l q r t K s b ks gs)
  in_hole_split_none none =
      (λ m. absurd cc, λ m. absurd (none (split l q t m.first m.part m.outer) (split l r m.part m.second s m.inner) m.no_choice m.under))

  pub in_hole_split_first : (g h : Goal) → gs ≡ g ∷ h ∷ [] → ((C u : Tree) (c : Binding) → g ≡ split l q t C u c → ⊥) → (IsTrue false ↔ InHoleSplit l q r t K s b ks gs)
  in_hole_split_first g h f none = (
    λ m. absurd cc,
    λ m. absurd (none m.first m.part m.outer
        (let v : g ∷ h ∷ [] ≡ split l q t m.first m.part m.outer ∷ split l r m.part m.second s m.inner ∷ [] = sym f ∙ m.under in cc)),
  )

  pub in_hole_split_second : (g h : Goal) (C u : Tree) (c : Binding) → gs ≡ g ∷ h ∷ [] → g ≡ split l q t C u c → ((E : Tree) (d : Binding) → h ≡ split l r u E s d → ⊥)
      → (IsTrue false ↔ InHoleSplit l q r t K s b ks gs)
  in_hole_split_second g h C u c f i none = (
    λ m. absurd cc,
    λ m. absurd (none m.second m.inner
        (let v : g ∷ h ∷ [] ≡ split l q t m.first m.part m.outer ∷ split l r m.part m.second s m.inner ∷ [] = sym f ∙ m.under in
        let a : m.part ≡ u = cc in let e : h ≡ split l r m.part m.second s m.inner = cc in e ∙ ap (λ (z : Tree). split l r z m.second s m.inner) a)),
  )

  module _ (g h : Goal) (C u E : Tree) (c d : Binding) (f : gs ≡ g ∷ h ∷ []) (i : g ≡ split l q t C u c) (j : h ≡ split l r u E s d) where
    whole : gs ≡ split l q t C u c ∷ split l r u E s d ∷ []
    whole = f ∙ (λ z. i z ∷ j z ∷ [])

    pub in_hole_split_unfilled : (K ≡ fill_of C E → ⊥) → (IsTrue false ↔ InHoleSplit l q r t K s b ks gs)
    in_hole_split_unfilled n = (
      λ m. absurd cc,
      λ m. absurd (n (let v : split l q t m.first m.part m.outer ∷ split l r m.part m.second s m.inner ∷ [] ≡ split l q t C u c ∷ split l r u E s d ∷ [] = sym m.under ∙ whole in
          let x : m.first ≡ C = cc in let y : m.second ≡ E = cc in m.filled ∙ (λ z. fill_of (x z) (y z)))),
    )

    pub in_hole_split_some : (ok : Bool) → ks ≡ [] → K ≡ fill_of C E → (IsTrue ok ↔ IsJoin c d b) → (IsTrue ok ↔ InHoleSplit l q r t K s b ks gs)
    in_hole_split_some ok e n k = (
      λ m. record { first = C; second = E; part = u; outer = c; inner = d; joined = k.0 m; filled = n; no_choice = e; under = whole },
      λ m. k.1 (let v : split l q t m.first m.part m.outer ∷ split l r m.part m.second s m.inner ∷ [] ≡ split l q t C u c ∷ split l r u E s d ∷ [] = sym m.under ∙ whole in
          let x : m.outer ≡ c = cc in let y : m.inner ≡ d = cc in
          subst (λ (z : Binding). IsJoin c z b) y (subst (λ (z : Binding). IsJoin z m.inner b) x m.joined)),
    )
