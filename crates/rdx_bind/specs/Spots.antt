-- Where patterns split terms: for a given term a split is fixed by the path to its part and by what the names stand for.
use Rattle.std.specs.Prelude.{◌≡◌, ℕ, suc, List, [], ◌∷◌, Option, map}
use Rattle.rdx_term.specs.Tree.{Tree, Trees, cons}
use Rattle.rdx_term.specs.AtPaths.{IsPlace, tree_at, context_at}
use Rattle.rdx_lang.specs.Bindings.{Binding}
use Rattle.rdx_lang.specs.Collections.{IsRepetition}
use Rattle.rdx_lang.specs.Join.{IsJoin}
use Rattle.rdx_lang.specs.Names.{names}
use Rattle.rdx_lang.specs.Patterns.{Pattern, Items, one, many, Language}
use Rattle.rdx_lang.specs.Rules.{Match, MatchItems, MatchRun, Split}
use Rattle.rdx_lang.specs.Shown.{binding_of}
use Rattle.rdx_bind.specs.Trails.{trail_of}
use Rattle.rdx_bind.specs.declared.spots.Spot as code

-- the places from the root to the part, and what the names stand for
pub record Spot : Type 0 where
  pub path : List ℕ
  pub binding : Binding

-- p splits t there, with that binding
pub record SplitsAt (L : Language) (p : Pattern) (t : Tree) (s : Spot) : Type 0 where
  pub inside : IsPlace t s.path
  pub split : Split L p t (context_at t s.path) (tree_at t s.path) s.binding

-- r is s, as a spot of the list that has the term at place n
pub record IsPlaced (n : ℕ) (s r : Spot) : Type 0 where
  pub path : r.path ≡ n ∷ s.path
  pub binding : r.binding ≡ s.binding

-- p splits the term at place n of a list there
pub record PlacedAt (L : Language) (n : ℕ) (p : Pattern) (t : Tree) (r : Spot) : Type 0 where
  pub spot : Spot
  pub split : SplitsAt L p t spot
  pub placed : IsPlaced n spot r

mutual
  -- the items ps split the terms ts there, the first of which is at place n of the list: one splits its term, and all others match theirs
  pub data ItemsSplitAt (L : Language) : ℕ → Items → Trees → Spot → Type 0 where
    splits_here : {n : ℕ} {p : Pattern} {ps : Items} {t : Tree} {ts : Trees} {s r : Spot} {d : Binding} →
        PlacedAt L n p t s → MatchItems L ps ts d → IsJoin s.binding d r.binding → r.path ≡ s.path → ItemsSplitAt L n (one p ps) (cons t ts) r
    splits_behind : {n : ℕ} {p : Pattern} {ps : Items} {t : Tree} {ts : Trees} {s r : Spot} {c : Binding} →
        Match L p t c → ItemsSplitAt L (suc n) ps ts s → IsJoin c s.binding r.binding → r.path ≡ s.path → ItemsSplitAt L n (one p ps) (cons t ts) r
    splits_many : {n : ℕ} {p : Pattern} {x : Option (List ℕ)} {ps : Items} {ts : Trees} {cs : List Binding} {c d : Binding} {r : Spot} →
        RunSplitsAt L n p ps ts r.path cs d → IsRepetition (names p) cs x c → IsJoin c d r.binding → ItemsSplitAt L n (many p x ps) ts r

  -- p matches some first terms, or none, and binds cs in these turns, the items ps match the others, and bind d; but exactly one term is
  -- split, along this path
  pub data RunSplitsAt (L : Language) : ℕ → Pattern → Items → Trees → List ℕ → List Binding → Binding → Type 0 where
    run_splits_here : {n : ℕ} {p : Pattern} {ps : Items} {t : Tree} {ts : Trees} {s : Spot} {ks : List ℕ} {cs : List Binding} {d : Binding} →
        PlacedAt L n p t s → MatchRun L p ps ts cs d → ks ≡ s.path → RunSplitsAt L n p ps (cons t ts) ks (s.binding ∷ cs) d
    run_splits_there : {n : ℕ} {p : Pattern} {ps : Items} {t : Tree} {ts : Trees} {ks : List ℕ} {c d : Binding} {cs : List Binding} →
        Match L p t c → RunSplitsAt L (suc n) p ps ts ks cs d → RunSplitsAt L n p ps (cons t ts) ks (c ∷ cs) d
    run_splits_behind : {n : ℕ} {p : Pattern} {ps : Items} {ts : Trees} {s : Spot} {ks : List ℕ} →
        ItemsSplitAt L n ps ts s → ks ≡ s.path → RunSplitsAt L n p ps ts ks [] s.binding

-- the spot that a spot of the code stands for
abbrev pub spot_of : code.Spot → Spot
spot_of s = record { path = trail_of s.trail; binding = binding_of s.binding }

-- spots in their order
abbrev pub spots_of : List code.Spot → List Spot
spots_of ss = map spot_of ss
