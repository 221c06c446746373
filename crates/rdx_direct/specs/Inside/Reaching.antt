-- Where a pattern splits a term, as far as another one may match the part.
use Rattle.std.specs.Prelude.{◌≡◌, ℕ, suc, List, ◌∷◌, None}
use Rattle.rdx_term.specs.AtPaths.{tree_at}
use Rattle.rdx_term.specs.Tree.{Tree, Trees, cons}
use Rattle.rdx_lang.specs.Bindings.{Binding, no_names}
use Rattle.rdx_lang.specs.Members.{In}
use Rattle.rdx_lang.specs.Patterns.{Pattern, Items, one, many, Language}
use Rattle.rdx_lang.specs.Rules.{MatchItems, SplitItems}
use Rattle.rdx_bind.specs.Searching.{MatchesNone, SplitsNone}
use Rattle.rdx_bind.specs.Spots.{SplitsAt}
use Rattle.rdx_direct.specs.Inside.Going.{Fits}
use Rattle.rdx_direct.specs.Inside.Paths.{Leads}
use Rattle.rdx_direct.specs.declared.paths.Paths as code

-- p splits t at the end of the path w, whatever it binds, and the part is as Q wants it
pub record Reached (L : Language) (Q : Tree → Type 0) (p : Pattern) (t : Tree) (w : List ℕ) : Type 0 where
  pub binding : Binding
  pub split : SplitsAt L p t (record { path = w; binding = binding })
  pub wanted : Q (tree_at t w)

-- one of the patterns does
pub record AnyReached (L : Language) (Q : Tree → Type 0) (ps : List Pattern) (t : Tree) (w : List ℕ) : Type 0 where
  pub pattern : Pattern
  pub among : In pattern ps
  pub reached : Reached L Q pattern t w

-- p does, of the term at place n of a list
pub record PlacedReach (L : Language) (Q : Tree → Type 0) (n : ℕ) (p : Pattern) (t : Tree) (w : List ℕ) : Type 0 where
  pub path : List ℕ
  pub along : w ≡ n ∷ path
  pub reached : Reached L Q p t path

-- the items ps, which bind nothing, split the terms ts at the end of the path w, the first of which is at place n of the list: one splits its
-- term, where the part is as wanted, and all others match theirs
pub data ItemsReach (L : Language) (Q : Tree → Type 0) : ℕ → Items → Trees → List ℕ → Type 0 where
  reach_here : {n : ℕ} {p : Pattern} {ps : Items} {t : Tree} {ts : Trees} {w : List ℕ} →
      PlacedReach L Q n p t w → MatchItems L ps ts no_names → ItemsReach L Q n (one p ps) (cons t ts) w
  reach_behind : {n : ℕ} {p : Pattern} {ps : Items} {t : Tree} {ts : Trees} {w : List ℕ} →
      Fits L p t → ItemsReach L Q (suc n) ps ts w → ItemsReach L Q n (one p ps) (cons t ts) w
  reach_ended : {n : ℕ} {p : Pattern} {ps : Items} {ts : Trees} {w : List ℕ} → ItemsReach L Q n ps ts w → ItemsReach L Q n (many p None ps) ts w
  reach_turn : {n : ℕ} {p : Pattern} {ps : Items} {t : Tree} {ts : Trees} {w : List ℕ} →
      PlacedReach L Q n p t w → MatchItems L (many p None ps) ts no_names → ItemsReach L Q n (many p None ps) (cons t ts) w
  reach_past : {n : ℕ} {p : Pattern} {ps : Items} {t : Tree} {ts : Trees} {w : List ℕ} →
      Fits L p t → ItemsReach L Q (suc n) (many p None ps) ts w → ItemsReach L Q n (many p None ps) (cons t ts) w

-- R holds of each of the paths, and whatever S holds of is among them
pub record Between (S R : List ℕ → Type 0) (P : code.Paths) : Type 0 where
  pub sound : (w : List ℕ) → Leads P w → R w
  pub complete : (w : List ℕ) → S w → Leads P w

-- the items do not match the terms
abbrev pub ItemsMatchNone : Language → Items → Trees → Type 0
ItemsMatchNone L ps ts = (b : Binding) → ¬ MatchItems L ps ts b

-- the items neither match the terms nor split them
pub record AreApart (L : Language) (ps : Items) (ts : Trees) : Type 0 where
  pub match_none : ItemsMatchNone L ps ts
  pub split_none : (k : ℕ) (D s : Tree) (b : Binding) → ¬ SplitItems L ps ts k D s b

-- the pattern neither matches the term nor splits it
pub record IsApart (L : Language) (p : Pattern) (t : Tree) : Type 0 where
  pub match_none : MatchesNone L p t
  pub split_none : SplitsNone L p t
