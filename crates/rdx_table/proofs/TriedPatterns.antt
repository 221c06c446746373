-- Several patterns at a term, tried one after the other: whether one of those so far matches, and where they split the term.
use Rattle.std.proofs.Common.{◌≡◌, ℕ, ◌+◌, ◌<◌, ◌≤◌, nat_eq, Bool, true, false, if◌then◌else◌, ◌||◌, IsTrue, ◌⊎◌, inl, inr}
use Rattle.std.proofs.Common.{List, [], ◌∷◌, length, drop, get_or, refl, sym, ◌∙◌, ap, subst, arith}
use Rattle.std.proofs.lemmas.Bool.Decides.{nat_tests}
use Rattle.std.proofs.lemmas.List.{at_drop_more}
use Rattle.std.specs.Prelude.{◌↔◌, not}
use Rattle.rdx_term.specs.Tree.{Tree}
use Rattle.rdx_lang.proofs.Collecting.{Collects, collects-next, collects-end, In_along, no_member}
use Rattle.rdx_lang.proofs.Rest.{rest_none}
use Rattle.rdx_lang.specs.Bindings.{Binding, no_names}
use Rattle.rdx_lang.specs.Collecting.{Arises, Adds, HasExactly}
use Rattle.rdx_lang.specs.Members.{In, here, there}
use Rattle.rdx_lang.specs.Patterns.{Pattern, Language}
use Rattle.rdx_lang.specs.Rules.{Match}
use Rattle.rdx_lang.specs.Shown.{binding_of, bindings_of}
use Rattle.rdx_lang.specs.declared.binding.Binding as code_binding
use Rattle.rdx_bind.specs.Rows.{split_row_of}
use Rattle.rdx_bind.specs.Searching.{AnyMatches, AnySplits}
use Rattle.rdx_bind.specs.Spots.{Spot, SplitsAt, spots_of}
use Rattle.rdx_bind.specs.Splitting.{IsNameless}
use Rattle.rdx_bind.specs.declared.rows.Row.{Row}
use Rattle.rdx_bind.proofs.AtomListings.{listing_where}
use Rattle.rdx_bind.proofs.Gathering.{exactly_as, exactly_added, exactly_listed, adds_exactly}
use Rattle.rdx_nodes.specs.Nodes.{pattern_at, patterns_at}
use Rattle.rdx_table.specs.Inside.Looks.{language_of_look, patterns_of_look, aim_tree, Meets}
use Rattle.rdx_table.specs.declared.look.Look.{Look}
use Rattle.rdx_table.specs.declared.task.Goal.{Goal}
use Rattle.rdx_table.proofs.AskedForms.{WhereAsked, MatchesAny, HasOfAny, not_asked, had_matches, had_spots, has_alone, has_both}

-- ---- whether one matches

-- any tells of the patterns before rest whether one of them matches t
pub record AnySoFar (L : Language) (all rest : List Pattern) (t : Tree) (any : Bool) : Type 0 where
  pub part : (p : Pattern) → In p rest → In p all
  pub sound : IsTrue any → AnyMatches L all t
  pub still : AnyMatches L all t → IsTrue any ⊎ AnyMatches L rest t

-- a list is not empty where something holds of a member
some_or_none : {M : Binding → Type 0} (bs : List code_binding.Binding) (empty : Bool) → empty ≡ nat_eq (length bs) 0
    → HasExactly (bindings_of bs) M → (IsTrue (not empty) ↔ ((b : Binding) × M b))
some_or_none [] empty e h = (λ k. absurd (not_asked (sym (ap not e) ∙ k)), λ x. no_member (h.complete x.0 x.1))
some_or_none (b ∷ bs) empty e h =
    let some : empty ≡ false = e ∙ first_some b bs in
    (λ k. (binding_of b, h.sound (binding_of b) (here refl)), λ x. ap not some)
  where
    first_some : (c : code_binding.Binding) (cs : List code_binding.Binding) → nat_eq (length (c ∷ cs)) 0 ≡ false
    first_some c cs = grind (arith, nat_tests)

-- one of two is true
either : (a b : Bool) → IsTrue (a || b) → IsTrue a ⊎ IsTrue b
either true b h = inl refl
either false b h = inr h

-- if the first is, then one is
or_first : (a b : Bool) → IsTrue a → IsTrue (a || b)
or_first true b h = refl
or_first false b h = not_asked h

-- so it is if the other is
or_other : (a b : Bool) → IsTrue b → IsTrue (a || b)
or_other true b h = refl
or_other false b h = h

module _ (L : Language) (all : List Pattern) (t : Tree) (p : Pattern) (more rest : List Pattern) (e : rest ≡ p ∷ more) where
  -- the next one is among all
  next_among : {any : Bool} → AnySoFar L all rest t any → In p all
  next_among u = u.part p (In_along (p ∷ more) rest (sym e) (here refl))

  -- with the next one
  any-next : (any new : Bool) → (IsTrue new ↔ ((b : Binding) × Match L p t b)) → AnySoFar L all rest t any → AnySoFar L all more t (any || new)
  any-next any new f u = record {
    part = λ q h. u.part q (In_along (p ∷ more) rest (sym e) (there h));
    sound = λ h. elim (either any new h) [ inl a ↦ u.sound a | inr n ↦ found (f.0 n) ];
    still = λ a. elim (u.still a) [ inl h ↦ inl (or_first any new h) | inr r ↦ later r.pattern r.binding (along r.among) r.matched ];
  }
    where
      along : {q : Pattern} → In q rest → In q (p ∷ more)
      along h = In_along rest (p ∷ more) e h

      found : (b : Binding) × Match L p t b → AnyMatches L all t
      found m = record { pattern = p; among = next_among u; binding = m.0; matched = m.1 }

      later : (q : Pattern) (b : Binding) → In q (p ∷ more) → Match L q t b → IsTrue (any || new) ⊎ AnyMatches L more t
      later q b (here g) m = inl (or_other any new (f.1 (b, subst (λ (r : Pattern). Match L r t b) g m)))
      later q b (there h) m = inr (record { pattern = q; among = h; binding = b; matched = m })

-- at the end any tells of all
any-end : {L : Language} {t : Tree} (all rest : List Pattern) (any : Bool) → rest ≡ [] → AnySoFar L all rest t any
    → (IsTrue any ↔ AnyMatches L all t)
any-end all rest any e u = (λ h. u.sound h, λ a. elim (u.still a) [ inl h ↦ h | inr r ↦ no_member (In_along rest [] e r.among) ])

-- ---- what all have

-- the pattern splits t there, where this is asked
abbrev pub SplitsWhere : Language → Bool → Tree → Pattern → Spot → Type 0
SplitsWhere L splits t p s = IsTrue splits × SplitsAt L p t s

module _ {L : Language} {t : Tree} where
  -- the empty binding, where one matches
  bound_any : {bs : List Binding} (ps : List Pattern) (any : Bool) → bs ≡ (if any then no_names ∷ [] else [])
      → (IsTrue any ↔ AnyMatches L ps t) → HasExactly bs (MatchesAny L ps t)
  bound_any ps any e f = exactly_listed (listing_where {R = MatchesAny L ps t} any e (λ h. (refl, f.0 h)) (λ b r. (f.1 r.1, r.0)))

  -- the spots of all with no names
  spots_any : {xs : List Spot} (splits : Bool) (ps : List Pattern) (cs : List Spot) → HasExactly cs (Arises (SplitsWhere L splits t) ps)
      → HasExactly xs (Arises IsNameless cs) → HasExactly xs (WhereAsked splits (AnySplits L ps t))
  spots_any splits ps cs h = exactly_as sound complete
    where
      sound : (s : Spot) → Arises IsNameless cs s → WhereAsked splits (AnySplits L ps t) s
      sound s a =
          let b = h.sound a.from a.among in
          (b.by.0, record { pattern = b.from; among = b.among; spot = a.from; split = b.by.1; nameless = a.by })

      complete : (s : Spot) → WhereAsked splits (AnySplits L ps t) s → Arises IsNameless cs s
      complete s k =
          let a = k.1 in
          let b : Arises (SplitsWhere L splits t) ps a.spot = record { from = a.pattern; among = a.among; by = (k.0, a.split) } in
          record { from = a.spot; among = h.complete a.spot b; by = a.nameless }

-- ---- the patterns with some numbers

-- the goal of the pattern with the i-th of the numbers, at the term of g
abbrev pub goal_among : Goal → List ℕ → ℕ → Goal
goal_among g ns i = record { number = get_or ns i 0; id = g.id; splits = g.splits }

-- all these patterns, and those from the i-th on
abbrev pub tried : Look → List ℕ → List Pattern
tried l ns = patterns_at (patterns_of_look l) ns

abbrev pub untried : Look → List ℕ → ℕ → List Pattern
untried l ns i = patterns_at (patterns_of_look l) (drop i ns)

-- any tells of the first i whether one of them matches
abbrev pub AnyUpTo : Look → Goal → List ℕ → ℕ → Bool → Type 0
AnyUpTo l g ns i any = AnySoFar (language_of_look l) (tried l ns) (untried l ns i) (aim_tree l g) any

-- these are the spots of the first i, where they are asked
abbrev pub SpotsUpTo : Look → Goal → List ℕ → ℕ → List Spot → Type 0
SpotsUpTo l g ns i xs = Collects (SplitsWhere (language_of_look l) g.splits (aim_tree l g)) (tried l ns) (untried l ns i) [] xs

module _ (l : Look) (g : Goal) (ns : List ℕ) (i : ℕ) where
  -- the next one comes before those behind it
  next_untried : i < length ns → untried l ns i ≡ pattern_at (patterns_of_look l) (get_or ns i 0) ∷ untried l ns (i + 1)
  next_untried h = at_drop_more (patterns_at (patterns_of_look l)) ns i 0 h

  -- with the row of the next one
  pub any-more : (any empty : Bool) (row : Row) → i < length ns → Meets l (goal_among g ns i) row → empty ≡ nat_eq (length row.matches.items) 0
      → AnyUpTo l g ns i any → AnyUpTo l g ns (i + 1) (any || not empty)
  any-more any empty row h m e u =
      let p : Pattern = pattern_at (patterns_of_look l) (get_or ns i 0) in
      any-next (language_of_look l) (tried l ns) (aim_tree l g) p (untried l ns (i + 1)) (untried l ns i) (next_untried h) any (not empty)
      (some_or_none row.matches.items empty e (had_matches g.splits m)) u

  -- so it is with the spots
  pub spots-more : (row : Row) (old new : List Spot) → i < length ns → Meets l (goal_among g ns i) row
      → Adds (λ s. In s (spots_of row.spots.items)) old new → SpotsUpTo l g ns i old → SpotsUpTo l g ns (i + 1) new
  spots-more row old new h m a c =
      let nothing : List Spot = [] in
      let p : Pattern = pattern_at (patterns_of_look l) (get_or ns i 0) in
      let step : Pattern → Spot → Type 0 = SplitsWhere (language_of_look l) g.splits (aim_tree l g) in
      let b : Adds (step p) old new = adds_exactly (spots_of row.spots.items) old new (had_spots g.splits m) a in
      collects-next step (tried l ns) nothing p (untried l ns i) (untried l ns (i + 1)) old new (next_untried h) c b

  -- where one matches, the empty binding is all that is asked, if splits are not
  pub any-found : (any : Bool) (row : Row) → g.splits ≡ false → IsTrue any → bindings_of row.matches.items ≡ (if any then no_names ∷ [] else [])
      → spots_of row.spots.items ≡ [] → AnyUpTo l g ns i any → HasOfAny (language_of_look l) (tried l ns) (aim_tree l g) g.splits (split_row_of row)
  any-found any row f h e n u = has_alone g.splits f (bound_any (tried l ns) any e (λ k. u.sound k, λ a. h)) n

  -- at the end the row has what all have
  pub any-all : (any : Bool) (row : Row) (found : List Spot) → length ns ≤ i → bindings_of row.matches.items ≡ (if any then no_names ∷ [] else [])
      → HasExactly (spots_of row.spots.items) (Arises IsNameless found) → AnyUpTo l g ns i any → SpotsUpTo l g ns i found
      → HasOfAny (language_of_look l) (tried l ns) (aim_tree l g) g.splits (split_row_of row)
  any-all any row found h e k u c =
      let nothing : List Spot = [] in
      let step : Pattern → Spot → Type 0 = SplitsWhere (language_of_look l) g.splits (aim_tree l g) in
      let none : untried l ns i ≡ [] = rest_none (pattern_at (patterns_of_look l)) ns i h in
      let a : HasExactly found (Arises step (tried l ns)) =
      exactly_added (Arises step (tried l ns)) (collects-end step (tried l ns) (untried l ns i) nothing found none c) in
      has_both g.splits (bound_any (tried l ns) any e (any-end (tried l ns) (untried l ns i) any none u)) (spots_any g.splits (tried l ns) found a k)
