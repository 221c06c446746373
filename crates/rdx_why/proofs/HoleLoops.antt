-- Splits and matches of opened patterns that are sought among what a matcher lists.
use Rattle.std.proofs.Common.{◌≡◌, Bool, List, refl, sym, subst}
use Rattle.std.specs.Prelude.{◌↔◌, IsTrue}
use Rattle.rdx_term.specs.Tree.{Tree}
use Rattle.rdx_term.specs.Fill.{fill_of}
use Rattle.rdx_lang.specs.Bindings.{Binding}
use Rattle.rdx_lang.specs.Decompositions.{Decomposition}
use Rattle.rdx_lang.specs.Listing.{IsSeen, Matches, Splits}
use Rattle.rdx_lang.specs.Members.{In}
use Rattle.rdx_lang.specs.Patterns.{Pattern, Language}
use Rattle.rdx_lang.specs.Rules.{Match, Split}
use Rattle.rdx_opened.specs.Inside.Marks.{into}

module _ (L : Language) (p q : Pattern) (same : q ≡ p) (t : Tree) where
  -- a match of the pattern is one that is listed
  pub seen_among : (cs ds : List Binding) → Matches L q t cs → ds ≡ cs → (a : Bool) → (c : Binding) → (IsTrue a ↔ In c ds)
      → (IsTrue a ↔ IsSeen (Match L p t) c)
  seen_among cs ds l e a c f = (
    λ h. subst (λ (r : Pattern). IsSeen (Match L r t) c) same (l.sound c (subst (λ (xs : List Binding). In c xs) e (f.0 h))),
    λ h. f.1 (subst (λ (xs : List Binding). In c xs) (sym e) (l.complete c (subst (λ (r : Pattern). IsSeen (Match L r t) c) (sym same) h))),
  )

  module _ (cs ds : List Decomposition) (l : Splits L q t cs) (e : ds ≡ cs) where
    -- a split of the pattern is one that is listed
    pub split_listed : (C s : Tree) (c : Binding) → IsSeen (Split L p t C s) c → In (into C s c) ds
    split_listed C s c h =
        subst (λ (xs : List Decomposition). In (into C s c) xs) (sym e)
        (l.complete (into C s c) (subst (λ (r : Pattern). IsSeen (Split L r t C s) c) (sym same) h))

    pub listed_split : (u : Decomposition) → In u ds → IsSeen (Split L p t u.context u.part) u.binding
    listed_split u i =
        subst (λ (r : Pattern). IsSeen (Split L r t u.context u.part) u.binding) same
        (l.sound u (subst (λ (xs : List Decomposition). In u xs) e i))

    -- so where the split is equal to terms, and binds this
    pub listed_so : (u : Decomposition) → In u ds → (C s : Tree) (c : Binding) → C ≡ u.context → s ≡ u.part → u.binding ≡ c
        → IsSeen (Split L p t C s) c
    listed_so u i C s c f g k =
        subst (λ (b : Binding). IsSeen (Split L p t C s) b) k
        (subst (λ (x : Tree). IsSeen (Split L p t C x) u.binding) (sym g)
        (subst (λ (x : Tree). IsSeen (Split L p t x u.part) u.binding) (sym f) (listed_split u i)))

-- ---- what is sought

module _ (L : Language) (r : Pattern) (c d : Binding) where
  -- a split that binds c, and whose part r matches and binds d
  abbrev pub IsHole : Decomposition → Type 0
  IsHole u = (u.binding ≡ c) × IsSeen (Match L r u.part) d

  -- a split that binds c, and whose part r splits into a context that fills its context to C, and the part s, and binds d
  abbrev pub AreHoles : Tree → Tree → Decomposition → Type 0
  AreHoles C s u = (u.binding ≡ c) × (E : Tree) × (C ≡ fill_of u.context E) × IsSeen (Split L r u.part E s) d

  module _ (p q : Pattern) (same : q ≡ p) (t : Tree) (cs ds : List Decomposition) (l : Splits L q t cs) (e : ds ≡ cs) where
    -- one is listed
    pub hole_listed : (C : Tree) × (s : Tree) × IsSeen (Split L p t C s) c × IsSeen (Match L r s) d
        → (u : Decomposition) × In u ds × IsHole u
    hole_listed (C, s, f, g) = (into C s c, split_listed L p q same t cs ds l e C s c f, (refl, g))

    pub holes_listed : (C s : Tree) → (D : Tree) × (z : Tree) × IsSeen (Split L p t D z) c
        × (E : Tree) × (C ≡ fill_of D E) × IsSeen (Split L r z E s) d
        → (u : Decomposition) × In u ds × AreHoles C s u
    holes_listed C s (D, z, f, E, g, k) = (into D z c, split_listed L p q same t cs ds l e D z c f, (refl, E, g, k))
