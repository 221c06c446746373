-- What a pattern that is no list binds, and where it splits, as it is asked, from what its parts do.
use Rattle.std.proofs.Common.{◌≡◌, ℕ, zero, suc, ◌<◌, Bool, true, false, IsTrue, List, [], ◌∷◌, ◌++◌, length, drop, get_or, refl, sym, subst}
use Rattle.std.proofs.Common.{arith}
use Rattle.rdx_term.specs.AtPaths.{tree_at}
use Rattle.rdx_term.specs.Tree.{Tree}
use Rattle.rdx_lang.proofs.Collecting.{In_along, no_member, only, listing_of_all}
use Rattle.rdx_lang.proofs.RuleSteps.{nt_inside, hide_hole_inside, closed_inside, hide_hole_splits}
use Rattle.rdx_lang.specs.Bindings.{Binding, no_names}
use Rattle.rdx_lang.specs.Collecting.{Arises, Adds, HasExactly}
use Rattle.rdx_lang.specs.Listing.{IsListing}
use Rattle.rdx_lang.specs.Members.{In, here}
use Rattle.rdx_lang.specs.Order.{binding_cmp}
use Rattle.rdx_lang.specs.Patterns.{Pattern, nt, in_hole, hide_hole, closed, Language}
use Rattle.rdx_lang.specs.Rules.{Match, AreAlternatives, match_nt, match_hide_hole, match_closed}
use Rattle.rdx_lang.specs.declared.pattern.Ref.{Ref}
use Rattle.rdx_bind.specs.Columns.{HasAsked, has_matches, has_splits}
use Rattle.rdx_bind.specs.Combining.{JoinsWith, Named}
use Rattle.rdx_bind.specs.Namings.{Naming, under}
use Rattle.rdx_bind.specs.Rows.{SplitRow, split_row_of}
use Rattle.rdx_bind.specs.Searching.{AnyMatches, AnySplits}
use Rattle.rdx_bind.specs.Spots.{Spot, SplitsAt}
use Rattle.rdx_bind.specs.Splitting.{NamesContext, GoesOn}
use Rattle.rdx_bind.specs.declared.rows.Row.{Row}
use Rattle.rdx_bind.proofs.Gathering.{exactly_as, exactly_added, exactly_listed, exactly_none, adds_as}
use Rattle.rdx_bind.proofs.Namings.{match_under, under_inside}
use Rattle.rdx_bind.proofs.SplitRules.{MatchesOn, SplitsOn, exactly_nt, exactly_closed, exactly_named, exactly_in_hole, listing_in_hole}
use Rattle.rdx_nodes.specs.Asked.{asked_where}
use Rattle.rdx_nodes.specs.Nodes.{pattern_at, DoAsWell, AreBelow}
use Rattle.rdx_table.specs.Inside.Looks.{language_of_look, patterns_of_look, aim_pattern, aim_tree, Meets}
use Rattle.rdx_table.specs.Inside.Tasks.{IsTask, AreTasks}
use Rattle.rdx_table.specs.declared.look.Look.{Look}
use Rattle.rdx_table.specs.declared.task.Goal.{Goal}
use Rattle.rdx_table.specs.declared.task.Task.{Task}

-- ---- what a row has where spots are asked, or not

-- S, where spots are asked
abbrev pub WhereAsked : Bool → (Spot → Type 0) → Spot → Type 0
WhereAsked splits S s = IsTrue splits × S s

-- no spot is asked
pub not_asked : {X : Type 0} → IsTrue false → X
not_asked h = absurd cc

-- a list that has what holds of none is empty
nothing_of : {A : Type 0} (xs : List A) {R : A → Type 0} → HasExactly xs R → ((x : A) → R x → ⊥) → xs ≡ []
nothing_of [] h f = refl
nothing_of (x ∷ xs) h f = absurd (f x (h.sound x (here refl)))

module _ {M : Binding → Type 0} {S : Spot → Type 0} {row : SplitRow} where
  -- a row has what is bound
  pub had_matches : (splits : Bool) → HasAsked M S (asked_where splits) row → HasExactly row.matches M
  had_matches true (has_splits m s) = m
  had_matches false (has_matches m e) = m

  -- where splits are asked, it has the spots
  pub had_splits : HasAsked M S (asked_where true) row → HasExactly row.spots S
  had_splits (has_splits m s) = s

  -- in both cases it has the spots, where they are asked
  pub had_spots : (splits : Bool) → HasAsked M S (asked_where splits) row → HasExactly row.spots (WhereAsked splits S)
  had_spots true (has_splits m s) = exactly_as (λ r k. (refl, k)) (λ r k. k.1) s
  had_spots false (has_matches m e) = exactly_none (WhereAsked false S) e (λ s k. not_asked k.0)

  -- with both it has what is asked
  pub has_both : (splits : Bool) → HasExactly row.matches M → HasExactly row.spots (WhereAsked splits S) → HasAsked M S (asked_where splits) row
  has_both true m s = has_splits m (exactly_as (λ r k. k.1) (λ r k. (refl, k)) s)
  has_both false m s = has_matches m (nothing_of row.spots s (λ r k. not_asked k.0))

  -- where matches alone are asked, they are enough
  pub has_alone : (splits : Bool) → splits ≡ false → HasExactly row.matches M → row.spots ≡ [] → HasAsked M S (asked_where splits) row
  has_alone true h m e = absurd cc
  has_alone false h m e = has_matches m e

-- the row has what p binds at t, and where it splits it, as is asked
abbrev pub HasOf : Language → Pattern → Tree → Bool → SplitRow → Type 0
HasOf L p t splits row = HasAsked (Match L p t) (SplitsAt L p t) (asked_where splits) row

-- b is the empty binding, and one of the patterns matches t
abbrev pub MatchesAny : Language → List Pattern → Tree → Binding → Type 0
MatchesAny L ps t b = (b ≡ no_names) × AnyMatches L ps t

-- the row has the empty binding where one of the patterns matches t, and where they split it with no names, as is asked
abbrev pub HasOfAny : Language → List Pattern → Tree → Bool → SplitRow → Type 0
HasOfAny L ps t splits row = HasAsked (MatchesAny L ps t) (AnySplits L ps t) (asked_where splits) row

-- r splits the part of s at some spot, and w goes on there, where this is asked
abbrev pub SplitsOnWhere : Language → Tree → Bool → Pattern → Spot → Spot → Type 0
SplitsOnWhere L t splits r s w = IsTrue splits × SplitsOn L r t s w

module _ {L : Language} {t : Tree} where
  -- ---- nonterminals and closed patterns

  -- patterns that do as well match the same
  bound_as_well : {bs : List Binding} {ps qs : List Pattern} → DoAsWell L ps qs → HasExactly bs (MatchesAny L ps t)
      → HasExactly bs (MatchesAny L qs t)
  bound_as_well w = exactly_as (λ b k. (k.0, w.matches t k.1)) (λ b k. (k.0, w.matches_back t k.1))

  -- they split the same
  spots_as_well : {xs : List Spot} {ps qs : List Pattern} → DoAsWell L ps qs → HasExactly xs (AnySplits L ps t) → HasExactly xs (AnySplits L qs t)
  spots_as_well w = exactly_as (λ s k. w.splits t s k) (λ s k. w.splits_back t s k)

  -- a nonterminal matches what some alternative matches
  bound_nt : {x : Ref} {bs : List Binding} (qs : List Pattern) → AreAlternatives L x qs → HasExactly bs (MatchesAny L qs t)
      → HasExactly bs (Match L (nt x) t)
  bound_nt {x} qs are = exactly_as sound complete
    where
      sound : (b : Binding) → MatchesAny L qs t b → Match L (nt x) t b
      sound b k = subst (Match L (nt x) t) (sym k.0) (match_nt ((are k.1.pattern).0 k.1.among) k.1.matched)

      complete : (b : Binding) → Match L (nt x) t b → MatchesAny L qs t b
      complete b m =
          let i = nt_inside m in
          let among : In i.0.pattern qs = (are i.0.pattern).1 i.0.alternative in
          (i.1, record { pattern = i.0.pattern; among = among; binding = i.0.binding; matched = i.0.matched })

  -- a closed pattern matches what its part matches
  bound_closed : {q : Pattern} {bs : List Binding} (ps : List Pattern) → ps ≡ q ∷ [] → HasExactly bs (MatchesAny L ps t)
      → HasExactly bs (Match L (closed q) t)
  bound_closed {q} ps e = exactly_as sound complete
    where
      sound : (b : Binding) → MatchesAny L ps t b → Match L (closed q) t b
      sound b k =
          let p : k.1.pattern ≡ q = only (In_along ps (q ∷ []) e k.1.among) in
          subst (Match L (closed q) t) (sym k.0) (match_closed (subst (λ (r : Pattern). Match L r t k.1.binding) p k.1.matched))

      complete : (b : Binding) → Match L (closed q) t b → MatchesAny L ps t b
      complete b m =
          let i = closed_inside m in
          (i.1, record { pattern = q; among = In_along (q ∷ []) ps (sym e) (here refl); binding = i.0.binding; matched = i.0.matched })

  -- a nonterminal has what patterns have that do as well as its alternatives
  pub asked_nt : {x : Ref} {ps : List Pattern} {row : SplitRow} (splits : Bool) (qs : List Pattern) → AreAlternatives L x qs → DoAsWell L ps qs
      → HasOfAny L ps t splits row → HasOf L (nt x) t splits row
  asked_nt true qs are w (has_splits m s) = has_splits (bound_nt qs are (bound_as_well w m)) (exactly_nt qs are (spots_as_well w s))
  asked_nt false qs are w (has_matches m e) = has_matches (bound_nt qs are (bound_as_well w m)) e

  -- a closed pattern has what its part has with no names
  pub asked_closed : {q : Pattern} {row : SplitRow} (splits : Bool) (ps : List Pattern) → ps ≡ q ∷ [] → HasOfAny L ps t splits row
      → HasOf L (closed q) t splits row
  asked_closed true ps e (has_splits m s) = has_splits (bound_closed ps e m) (exactly_closed ps e s)
  asked_closed false ps e (has_matches m f) = has_matches (bound_closed ps e m) f

  -- ---- hidden patterns and patterns with a name

  -- a hidden pattern binds what its part binds, and has no spots
  pub asked_hide_hole : {q : Pattern} {row : SplitRow} (splits : Bool) → HasOf L q t false row → HasOf L (hide_hole q) t splits row
  asked_hide_hole {q} splits (has_matches m e) = has_both splits
      (exactly_as (λ b h. match_hide_hole h) (λ b h. hide_hole_inside h) m)
      (exactly_none (WhereAsked splits (SplitsAt L (hide_hole q) t)) e (λ s k. hide_hole_splits k.1.split))

  -- a pattern with a name binds what its part binds, and the name
  bound_named : (n : Naming) {q : Pattern} {bs : List Binding} (cs : List Binding) → HasExactly cs (Match L q t)
      → HasExactly bs (Named cs n t) → HasExactly bs (Match L (under n q) t)
  bound_named n cs h = exactly_as
      (λ b a. match_under n (h.sound a.from a.among) a.by)
      (λ b m. let i = under_inside n m in record { from = i.inside; among = h.complete i.inside i.matched; by = i.joined })

  -- a pattern with a name has what its part has, with the name
  pub asked_named : (n : Naming) {q : Pattern} {row : SplitRow} (splits : Bool) (part : SplitRow) → HasOf L q t splits part
      → HasExactly row.matches (Named part.matches n t) → HasExactly row.spots (Arises (NamesContext n t) part.spots)
      → HasOf L (under n q) t splits row
  asked_named n true part (has_splits m s) h k = has_splits (bound_named n part.matches m h) (exactly_named n part.spots s k)
  asked_named n {row = row} false part (has_matches m e) h k =
      has_matches (bound_named n part.matches m h) (nothing_of row.spots k (λ r a. no_member (In_along part.spots [] e a.among)))

  -- ---- a pattern in the hole of another

  -- what is joined with a spot is what the right pattern binds at its part
  pub adds_bound : {r : Pattern} (s : Spot) (u : Tree) (bs old new : List Binding) → u ≡ tree_at t s.path → HasExactly bs (Match L r u)
      → Adds (JoinsWith bs s.binding) old new → Adds (MatchesOn L r t s) old new
  adds_bound {r} s u bs old new e h a = adds_as old new sound complete a
    where
      sound : (b : Binding) → JoinsWith bs s.binding b → MatchesOn L r t s b
      sound b j = record { inner = j.from; matched = subst (λ (v : Tree). Match L r v j.from) e (h.sound j.from j.among); joined = j.by }

      complete : (b : Binding) → MatchesOn L r t s b → JoinsWith bs s.binding b
      complete b m =
          let back : Match L r u m.inner = subst (λ (v : Tree). Match L r v m.inner) (sym e) m.matched in
          record { from = m.inner; among = h.complete m.inner back; by = m.joined }

  -- what goes on from a spot is what the right pattern splits its part into, where this is asked
  pub adds_spots : {r : Pattern} (splits : Bool) (s : Spot) (u : Tree) (inners old new : List Spot) → u ≡ tree_at t s.path
      → HasExactly inners (WhereAsked splits (SplitsAt L r u)) → Adds (Arises (GoesOn s) inners) old new
      → Adds (SplitsOnWhere L t splits r s) old new
  adds_spots {r} splits s u inners old new e h a = adds_as old new sound complete a
    where
      sound : (w : Spot) → Arises (GoesOn s) inners w → SplitsOnWhere L t splits r s w
      sound w j =
          let k = h.sound j.from j.among in
          (k.0, record { inner = j.from; split = subst (λ (v : Tree). SplitsAt L r v j.from) e k.1; on = j.by })

      complete : (w : Spot) → SplitsOnWhere L t splits r s w → Arises (GoesOn s) inners w
      complete w m =
          let back : SplitsAt L r u m.1.inner = subst (λ (v : Tree). SplitsAt L r v m.1.inner) (sym e) m.1.split in
          record { from = m.1.inner; among = h.complete m.1.inner (m.0, back); by = m.1.on }

  -- what goes on from all spots of the left pattern, where this is asked
  spots_in_hole : {q r : Pattern} {xs : List Spot} (splits : Bool) (cs : List Spot) → HasExactly cs (SplitsAt L q t)
      → HasExactly xs (Arises (SplitsOnWhere L t splits r) cs) → HasExactly xs (WhereAsked splits (SplitsAt L (in_hole q r) t))
  spots_in_hole true cs h k = exactly_as (λ s j. (refl, j)) (λ s j. j.1) (exactly_in_hole cs h (exactly_as
      (λ s a. record { from = a.from; among = a.among; by = a.by.1 })
      (λ s a. record { from = a.from; among = a.among; by = (refl, a.by) }) k))
  spots_in_hole {q} {r} {xs = xs} false cs h k =
      exactly_none (WhereAsked false (SplitsAt L (in_hole q r) t)) (nothing_of xs k (λ s a. not_asked a.by.0)) (λ s j. not_asked j.0)

  -- a pattern in the hole of another has what comes of all spots of the left one
  pub asked_in_hole : {q r : Pattern} {row : SplitRow} (splits : Bool) (cs : List Spot) (found : List Binding) (gathered : List Spot)
      → HasExactly cs (SplitsAt L q t) → Adds (Arises (MatchesOn L r t) cs) [] found → Adds (Arises (SplitsOnWhere L t splits r) cs) [] gathered
      → IsListing binding_cmp row.matches (λ b. In b found) → HasExactly row.spots (λ s. In s gathered) → HasOf L (in_hole q r) t splits row
  asked_in_hole {q} {r} {row} splits cs found gathered h a b l k =
      let matches : Binding → Type 0 = Arises (MatchesOn L r t) cs in
      let spots : Spot → Type 0 = Arises (SplitsOnWhere L t splits r) cs in
      let m : HasExactly row.matches (Match L (in_hole q r) t) =
      exactly_listed (listing_in_hole cs h (listing_of_all matches found row.matches a l)) in
      let g : HasExactly gathered spots = exactly_added spots b in
      has_both splits m (spots_in_hole splits cs h (exactly_as (λ s j. g.sound s j) (λ s j. g.complete s j) k))

-- ---- the row of a goal

-- a row has what a goal asks for, if it has this of the pattern that is the goal's
pub meets_by : {p : Pattern} (l : Look) (g : Goal) (row : Row) → aim_pattern l g ≡ p
    → HasOf (language_of_look l) p (aim_tree l g) g.splits (split_row_of row) → Meets l g row
meets_by l g row e h = subst (λ (q : Pattern). HasOf (language_of_look l) q (aim_tree l g) g.splits (split_row_of row)) (sym e) h

-- it has this of the pattern with the goal's number, where splits are asked as the goal does
pub met_by : (l : Look) (g : Goal) (row : Row) (n : ℕ) (splits : Bool) → g.number ≡ n → g.splits ≡ splits → Meets l g row
    → HasOf (language_of_look l) (pattern_at (patterns_of_look l) n) (aim_tree l g) splits (split_row_of row)
met_by l g row n splits e f m =
    let ps : List Pattern = patterns_of_look l in
    let h : HasOf (language_of_look l) (pattern_at ps n) (aim_tree l g) g.splits (split_row_of row) =
    subst (λ (k : ℕ). HasOf (language_of_look l) (pattern_at ps k) (aim_tree l g) g.splits (split_row_of row)) e m in
    subst (λ (x : Bool). HasOf (language_of_look l) (pattern_at ps n) (aim_tree l g) x (split_row_of row)) f h

-- ---- what is asked for further

module _ (L : Language) (ps : List Pattern) (ts : List Tree) where
  -- one task more
  pub tasks-more : (xs ys : List Task) (x : Task) → ys ≡ xs ++ x ∷ [] → AreTasks L ps ts xs → IsTask L ps ts x → AreTasks L ps ts ys
  tasks-more xs ys x e h k = subst (AreTasks L ps ts) (sym e) (behind xs h)
    where
      behind : (zs : List Task) → AreTasks L ps ts zs → AreTasks L ps ts (zs ++ x ∷ [])
      behind [] g = (k, tt)
      behind (z ∷ zs) g = (g.0, behind zs g.1)

-- each number of some that are below n is
pub below-at : (ns : List ℕ) (n i : ℕ) → AreBelow ns n → i < length ns → get_or ns i 0 < n
below-at [] n i h b = absurd (omega arith)
below-at (m ∷ ns) n zero h b = h.0
below-at (m ∷ ns) n (suc i) h b = below-at ns n i h.1 (omega arith)

-- the rest of them are
pub below-rest : (ns : List ℕ) (n i : ℕ) → AreBelow ns n → AreBelow (drop i ns) n
below-rest [] n zero h = h
below-rest [] n (suc i) h = h
below-rest (m ∷ ns) n zero h = h
below-rest (m ∷ ns) n (suc i) h = below-rest ns n i h.1
