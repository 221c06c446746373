-- What is found of an opened pattern with a name, or for contexts and parts, and what stands for what its parts bind.
use Rattle.std.proofs.Common.{◌≡◌, ℕ, List, refl, sym, subst}
use Rattle.rdx_term.specs.Tree.{Tree}
use Rattle.rdx_term.specs.Fill.{fill_of}
use Rattle.rdx_lang.specs.Bindings.{Binding}
use Rattle.rdx_lang.specs.Join.{IsJoin}
use Rattle.rdx_lang.specs.Listing.{IsSeen}
use Rattle.rdx_lang.specs.Names.{names}
use Rattle.rdx_lang.specs.Patterns.{Pattern, named, in_hole, Language}
use Rattle.rdx_lang.specs.Rules.{Match, Split}
use Rattle.rdx_lang.proofs.NameLaws.{match-ascends, split-ascends}
use Rattle.rdx_bind.specs.Namings as namings
use Rattle.rdx_bind.specs.Namings.{Naming, alone}
use Rattle.rdx_opened.specs.Opening.{Mark, IsOpened, IsApart, Stands}
use Rattle.rdx_opened.specs.Picking.{picked}
use Rattle.rdx_opened.proofs.NamingSteps.{naming_match, naming_split}
use Rattle.rdx_why.proofs.HoleSteps.{picked-apart, opened_under, opened_in_hole, in_hole_found_match, in_hole_match, in_hole_found_split, in_hole_split}

module _ (L : Language) (p o : Pattern) (ms : List Mark) (h : IsOpened p o ms) (c b : Binding) (s : Stands ms c b) where
  -- what is said of some names is apart
  pub match_part_apart : (t : Tree) → Match L o t c → (xs : List (List ℕ)) → IsApart ms (picked c xs)
  match_part_apart t m xs = picked-apart c xs (match-ascends m) s.apart

  pub split_part_apart : (t C z : Tree) → Split L o t C z c → (xs : List (List ℕ)) → IsApart ms (picked c xs)
  split_part_apart t C z m xs = picked-apart c xs (split-ascends m) s.apart

  -- ---- names

  module _ (n : Naming) (q : Pattern) (e : p ≡ namings.under n q) where
    opened_so : (v : Pattern) → o ≡ v → IsOpened (namings.under n q) v ms
    opened_so v f =
        subst (λ (u : Pattern). IsOpened (namings.under n q) u ms) f (subst (λ (r : Pattern). IsOpened r o ms) e h)

    -- the opened pattern has a name
    pub naming_form : ((x : List ℕ) (u : Pattern) → o ≡ named x u → ⊥) → ⊥
    naming_form f = let w = opened_under n q (opened_so o refl).opens in f w.0 w.1 w.2

    pub naming_match_part : (u : Pattern) → (x : List ℕ) × (o ≡ named x u) → (t : Tree) → Match L o t c → (a : Binding)
        → Stands ms (picked c (names u)) a
        → Match L q t a × IsJoin a (alone n t) b
    naming_match_part u w t m a k =
        naming_match L q w.0 u n t c b a (opened_so (named w.0 u) w.1) (subst (λ (v : Pattern). Match L v t c) w.1 m) s k

    pub naming_split_part : (u : Pattern) → (x : List ℕ) × (o ≡ named x u) → (t C z : Tree) → Split L o t C z c → (a : Binding)
        → Stands ms (picked c (names u)) a
        → Split L q t C z a × IsJoin a (alone n C) b
    naming_split_part u w t C z m a k =
        naming_split L q w.0 u n t C z c b a (opened_so (named w.0 u) w.1) (subst (λ (v : Pattern). Split L v t C z c) w.1 m) s k

  -- ---- contexts and parts

  module _ (q r : Pattern) (e : p ≡ in_hole q r) where
    opened_in : (v : Pattern) → o ≡ v → IsOpened (in_hole q r) v ms
    opened_in v f = subst (λ (u : Pattern). IsOpened (in_hole q r) u ms) f (subst (λ (u : Pattern). IsOpened u o ms) e h)

    -- the opened pattern has two patterns
    pub hole_form : ((u v : Pattern) → o ≡ in_hole u v → ⊥) → ⊥
    hole_form f = let w = opened_in_hole (opened_in o refl).opens in f w.0 w.1 w.2

    module _ (u v : Pattern) (f : o ≡ in_hole u v) (x y : Binding) (g : x ≡ picked c (names u)) (k : y ≡ picked c (names v)) where
      opened_two : IsOpened (in_hole q r) (in_hole u v) ms
      opened_two = opened_in (in_hole u v) f

      -- a context and a part are there, at which they bind the sides
      pub hole_match_there : (t : Tree) → Match L o t c → (C : Tree) × (z : Tree) × IsSeen (Split L u t C z) x × IsSeen (Match L v z) y
      hole_match_there t m =
          let w = in_hole_found_match L opened_two c t (subst (λ (i : Pattern). Match L i t c) f m) in (
            w.0,
            w.1,
            subst (λ (i : Binding). IsSeen (Split L u t w.0 w.1) i) (sym g) w.2,
            subst (λ (i : Binding). IsSeen (Match L v w.1) i) (sym k) w.3,
          )

      -- wherever they do, the patterns do so too
      pub hole_match_part : (t : Tree) → Match L o t c → (C z : Tree) (a d : Binding) → IsSeen (Split L u t C z) x → IsSeen (Match L v z) y
          → Stands ms x a → Stands ms y d
          → Split L q t C z a × Match L r z d × IsJoin a d b
      hole_match_part t m C z a d i j l n =
          in_hole_match L opened_two c t C z b a d (subst (λ (w : Pattern). Match L w t c) f m) s
          (subst (λ (w : Binding). IsSeen (Split L u t C z) w) g i) (subst (λ (w : Binding). IsSeen (Match L v z) w) k j)
          (subst (λ (w : Binding). Stands ms w a) g l) (subst (λ (w : Binding). Stands ms w d) k n)

      pub hole_split_there : (t C z : Tree) → Split L o t C z c → (D : Tree) × (m : Tree) × IsSeen (Split L u t D m) x
          × (E : Tree) × (C ≡ fill_of D E) × IsSeen (Split L v m E z) y
      hole_split_there t C z m =
          let w = in_hole_found_split L opened_two c t C z (subst (λ (i : Pattern). Split L i t C z c) f m) in (
            w.0,
            w.1,
            subst (λ (i : Binding). IsSeen (Split L u t w.0 w.1) i) (sym g) w.2,
            w.3,
            w.4,
            subst (λ (i : Binding). IsSeen (Split L v w.1 w.3 z) i) (sym k) w.5,
          )

      pub hole_split_part : (t C z : Tree) → Split L o t C z c → (D E m : Tree) (a d : Binding) → IsSeen (Split L u t D m) x
          → IsSeen (Split L v m E z) y → Stands ms x a → Stands ms y d
          → Split L q t D m a × Split L r m E z d × IsJoin a d b
      hole_split_part t C z h' D E m a d i j l n =
          in_hole_split L opened_two c t C z D E m b a d (subst (λ (w : Pattern). Split L w t C z c) f h') s
          (subst (λ (w : Binding). IsSeen (Split L u t D m) w) g i) (subst (λ (w : Binding). IsSeen (Split L v m E z) w) k j)
          (subst (λ (w : Binding). Stands ms w a) g l) (subst (λ (w : Binding). Stands ms w d) k n)
