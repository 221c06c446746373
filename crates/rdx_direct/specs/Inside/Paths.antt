-- Paths from the root of a term to parts of it, held as a tree.
use Rattle.std.specs.Prelude.{◌≡◌, ◌∷◌, ◌++◌, ◌⊎◌, ◌↔◌, [], Bool, IsTrue, ℕ, List, Option, Some, None, Vec, map}
use Rattle.std.specs.declared.alloc.Global.{Global}
use Rattle.rdx_lang.specs.Members.{In}
use Rattle.rdx_direct.specs.declared.paths.Branch as branch
use Rattle.rdx_direct.specs.declared.paths.Branch.{out-Branch}
use Rattle.rdx_direct.specs.declared.paths.Paths as code
use Rattle.rdx_direct.specs.declared.paths.Paths.{out-Paths}

-- the path w is one of P
pub data Leads : code.Paths → List ℕ → Type 0 where
  leads_here : {P : code.Paths} → IsTrue (out-Paths P).here → Leads P []
  leads_inside : {P : code.Paths} {B : branch.Branch} {w : List ℕ} → In B (out-Paths P).inside.items → Leads (out-Branch B).paths w → Leads P ((out-Branch B).place ∷ w)

-- there is none
abbrev pub NoPaths : code.Paths → Type 0
NoPaths P = (w : List ℕ) → ¬ Leads P w

-- w leads into the item at place n, and on by one of P
pub record LeadsWithin (n : ℕ) (P : code.Paths) (w : List ℕ) : Type 0 where
  pub path : List ℕ
  pub along : w ≡ n ∷ path
  pub among : Leads P path

-- w leads along one of the branches
pub record LeadsIn (bs : List branch.Branch) (w : List ℕ) : Type 0 where
  pub branch : branch.Branch
  pub path : List ℕ
  pub among : In branch bs
  pub along : w ≡ (out-Branch branch).place ∷ path
  pub leads : Leads (out-Branch branch).paths path

-- xs and ys together lead where zs and us do together
abbrev pub LeadAlike : (xs ys zs us : List branch.Branch) → Type 0
LeadAlike xs ys zs us = (w : List ℕ) → (LeadsIn xs w ⊎ LeadsIn ys w) ↔ (LeadsIn zs w ⊎ LeadsIn us w)

-- what is taken from the end of the branches in old, if any, leads into place n, and new has the others
abbrev pub IsTaken : ℕ → (old new : List branch.Branch) → Option branch.Branch → Type 0
IsTaken n old new None = new ≡ old
IsTaken n old new (Some b) = ((out-Branch b).place ≡ n) × (old ≡ new ++ b ∷ [])

-- w goes on behind v as one of P
pub record GoesBehind (v : List ℕ) (P : code.Paths) (w : List ℕ) : Type 0 where
  pub path : List ℕ
  pub along : w ≡ v ++ path
  pub among : Leads P path

-- R has the paths of P and of Q
abbrev pub AreBoth : code.Paths → code.Paths → code.Paths → Type 0
AreBoth P Q R = (w : List ℕ) → Leads R w ↔ (Leads P w ⊎ Leads Q w)

-- R has the paths of P where this is so, and those of Q
abbrev pub AreKeptAnd : Bool → code.Paths → code.Paths → code.Paths → Type 0
AreKeptAnd so P Q R = (w : List ℕ) → Leads R w ↔ ((IsTrue so × Leads P w) ⊎ Leads Q w)

-- the paths in a list, by their places
abbrev pub paths_in : List (Vec ℕ Global) → List (List ℕ)
paths_in ps = map (λ (p : Vec ℕ Global). p.items) ps
