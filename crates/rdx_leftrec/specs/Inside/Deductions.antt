-- What follows by rules, deduced by looking at them again where one of their parts was marked.
use Rattle.std.specs.Prelude.{◌≡◌, ◌<◌, ◌≤◌, ℕ, Bool, List, length, take, ◌⊎◌}
use Rattle.rdx_lang.specs.Members.{In}
use Rattle.rdx_leftrec.specs.Inside.EmptyRules.{Rule, Follows}
use Rattle.rdx_leftrec.specs.Inside.Lists.{At}
use Rattle.rdx_leftrec.specs.Inside.Marking.{Marking, waiting}
use Rattle.rdx_leftrec.specs.Inside.Reach.{targets_at, IsMarked}

-- the lists, with the number in those at all these places
pub record AddsTo (i : ℕ) (js : List ℕ) (old new : List (List ℕ)) : Type 0 where
  pub size : length new ≡ length old
  pub known : (j : ℕ) → In j js → In i (targets_at new j)
  pub kept : (k j : ℕ) → In k (targets_at old j) → In k (targets_at new j)
  pub only : (k j : ℕ) → In k (targets_at new j) → In k (targets_at old j) ⊎ (k ≡ i)

-- for each of n places a list of positions of rules, with all those of rules that have it as a part
pub record AreOccurrences (rs : List Rule) (n : ℕ) (os : List (List ℕ)) : Type 0 where
  pub size : length os ≡ n
  pub known : (i j : ℕ) (r : Rule) → At rs i r → In j r.1 → In i (targets_at os j)
  pub inside : (i j : ℕ) → In i (targets_at os j) → i < length rs

-- all these places are marked
abbrev pub AreMarked : List Bool → List ℕ → Type 0
AreMarked marks js = (j : ℕ) → In j js → IsMarked marks j

-- for each rule a number of first parts that are marked
pub record AreAhead (rs : List Rule) (marks : List Bool) (ks : List ℕ) : Type 0 where
  pub size : length ks ≡ length rs
  pub most : (i k : ℕ) (r : Rule) → At rs i r → At ks i k → k ≤ length r.1
  pub marked : (i k : ℕ) (r : Rule) → At rs i r → At ks i k → AreMarked marks (take k r.1)

-- t is s behind a look at a rule: its whole is marked, or one of its parts isn't, and a new mark is pending
pub record Settles (r : Rule) (s t : Marking) : Type 0 where
  pub size : length t.marks ≡ length s.marks
  pub kept : (k : ℕ) → IsMarked s.marks k → IsMarked t.marks k
  pub only : (k : ℕ) → IsMarked t.marks k → IsMarked s.marks k ⊎ ((k ≡ r.0) × AreMarked s.marks r.1)
  pub pending_kept : (k : ℕ) → In k s.pending → In k t.pending
  pub pending_only : (k : ℕ) → In k t.pending → In k s.pending ⊎ IsMarked t.marks k
  pub new : (k : ℕ) → IsMarked t.marks k → IsMarked s.marks k ⊎ In k t.pending
  pub settled : IsMarked t.marks r.0 ⊎ ((j : ℕ) × In j r.1 × ¬ IsMarked t.marks j)
  pub balance : waiting t ≡ waiting s

-- only places that follow are marked, and each rule has its whole marked, or a part that isn't marked or is pending, where the rules at the positions X may be left out
pub record IsDeduction (rs : List Rule) (n : ℕ) (X : ℕ → Type 0) (s : Marking) (ks : List ℕ) : Type 0 where
  pub size : length s.marks ≡ n
  pub sound : (j : ℕ) → IsMarked s.marks j → Follows rs j
  pub pending : (j : ℕ) → In j s.pending → IsMarked s.marks j
  pub ahead : AreAhead rs s.marks ks
  pub settled : (i : ℕ) (r : Rule) → At rs i r → (IsMarked s.marks r.0 ⊎ ((j : ℕ) × In j r.1 × (¬ IsMarked s.marks j ⊎ In j s.pending))) ⊎ X i
