-- The spots of each form of patterns, from those of its parts.
use Rattle.std.proofs.Common.{◌≡◌, ℕ, List, [], ◌∷◌, ◌++◌, refl, sym, ◌∙◌, ap, subst}
use Rattle.rdx_term.specs.AtPaths.{IsPlace, tree_at, context_at}
use Rattle.rdx_term.specs.Fill.{fill_of}
use Rattle.rdx_term.specs.Path.{path}
use Rattle.rdx_term.specs.Tree.{Tree}
use Rattle.rdx_term.proofs.AtPaths.{path-context_at, IsPlace-++, tree_at-++, fill_of-context_at}
use Rattle.rdx_lang.proofs.Collecting.{listing_of, In_along, only}
use Rattle.rdx_lang.proofs.RuleSteps.{in_hole_inside, hole_splits, nt_splits, in_hole_splits, closed_splits, InHoleSplit}
use Rattle.rdx_lang.proofs.SplitLaws.{split-along}
use Rattle.rdx_lang.specs.Bindings.{Binding, no_names}
use Rattle.rdx_lang.specs.Collecting.{Arises, Adds, HasExactly}
use Rattle.rdx_lang.specs.Join.{IsJoin}
use Rattle.rdx_lang.specs.Laws.{IsAlongPath}
use Rattle.rdx_lang.specs.Decompositions.{Decomposition}
use Rattle.rdx_lang.specs.Listing.{IsListing, AllMatches, SplitsInto, AllSplits}
use Rattle.rdx_lang.specs.Members.{here}
use Rattle.rdx_lang.specs.Order.{binding_cmp, decomposition_cmp}
use Rattle.rdx_lang.specs.Patterns.{Pattern, hole, nt, in_hole, closed, Language}
use Rattle.rdx_lang.specs.Rules.{Match, Split, AreAlternatives, match_in_hole, split_hole, split_nt, split_in_hole, split_closed}
use Rattle.rdx_lang.specs.declared.pattern.Ref.{Ref}
use Rattle.rdx_bind.proofs.Extended.{one_spot}
use Rattle.rdx_bind.proofs.Gathering.{exactly_as, exactly_sole, adds_as}
use Rattle.rdx_bind.proofs.Namings.{split_under, under_splits}
use Rattle.rdx_bind.specs.Combining.{JoinsWith}
use Rattle.rdx_bind.specs.Namings.{Naming, under}
use Rattle.rdx_bind.specs.Searching.{AnySplits}
use Rattle.rdx_bind.specs.Spots.{Spot, SplitsAt}
use Rattle.rdx_bind.specs.Splitting.{IsNameless, NamesContext, GoesOn, IsSplitAt}

-- r splits the part of s at some spot, and w goes on there
pub record SplitsOn (L : Language) (r : Pattern) (t : Tree) (s w : Spot) : Type 0 where
  pub inner : Spot
  pub split : SplitsAt L r (tree_at t s.path) inner
  pub on : GoesOn s inner w

-- r matches the part of s, and what both bind is b together
pub record MatchesOn (L : Language) (r : Pattern) (t : Tree) (s : Spot) (b : Binding) : Type 0 where
  pub inner : Binding
  pub matched : Match L r (tree_at t s.path) inner
  pub joined : IsJoin s.binding inner b

-- a spot is as its path and its binding
spot_as : (s : Spot) (c : Binding) → s.binding ≡ c → s ≡ record { path = s.path; binding = c }
spot_as s c e = one_spot s (record { path = s.path; binding = c }) refl e

-- the path of the context at a spot is its path
pub path_there : {L : Language} {p : Pattern} {t : Tree} (s : Spot) → SplitsAt L p t s → path (context_at t s.path) ≡ s.path
path_there {t = t} s h = path-context_at t s.path h.inside

module _ {L : Language} where
  -- a split is at the path of its context
  pub at_its_path : {p : Pattern} {t C u : Tree} {b : Binding} → Split L p t C u b → SplitsAt L p t (record { path = path C; binding = b })
  at_its_path {p} {t} {C} {u} {b} h =
      let a : IsAlongPath t C u = split-along h in
      record {
        inside = a.inside;
        split = subst (λ (v : Tree). Split L p t (context_at t (path C)) v b) a.part (subst (λ (D : Tree). Split L p t D u b) a.context h);
      }

  -- ---- the hole

  -- the hole splits each term at its root alone
  pub exactly_hole : {t : Tree} {xs : List Spot} → xs ≡ record { path = []; binding = no_names } ∷ [] → HasExactly xs (SplitsAt L hole t)
  exactly_hole {t} e = exactly_sole (SplitsAt L hole t) (record { path = []; binding = no_names }) e (record { inside = tt; split = split_hole }) root
    where
      root : (s : Spot) → SplitsAt L hole t s → s ≡ record { path = []; binding = no_names }
      root s h =
          let k = hole_splits h.split in
          one_spot s (record { path = []; binding = no_names }) (sym (path_there s h) ∙ ap path k.0) k.2

  -- ---- nonterminals and closed patterns

  -- the spots of several patterns with no names, from all of their spots
  pub exactly_any : {t : Tree} {xs : List Spot} (ps : List Pattern) (cs : List Spot) → HasExactly cs (Arises (λ p s. SplitsAt L p t s) ps) → HasExactly xs (Arises IsNameless cs)
      → HasExactly xs (AnySplits L ps t)
  exactly_any {t} ps cs h = exactly_as
      (λ s a. let b = h.sound a.from a.among in record { pattern = b.from; among = b.among; spot = a.from; split = b.by; nameless = a.by })
      (λ s k. record { from = k.spot; among = h.complete k.spot (record { from = k.pattern; among = k.among; by = k.split }); by = k.nameless })

  -- a nonterminal splits where an alternative does, and binds nothing
  pub exactly_nt : {x : Ref} {t : Tree} {xs : List Spot} (ps : List Pattern) → AreAlternatives L x ps → HasExactly xs (AnySplits L ps t) → HasExactly xs (SplitsAt L (nt x) t)
  exactly_nt {x} {t} ps are = exactly_as sound complete
    where
      sound : (s : Spot) → AnySplits L ps t s → SplitsAt L (nt x) t s
      sound s a = subst (SplitsAt L (nt x) t) (sym a.nameless) (record { inside = a.split.inside; split = split_nt ((are a.pattern).0 a.among) a.split.split })

      complete : (s : Spot) → SplitsAt L (nt x) t s → AnySplits L ps t s
      complete s k =
          let i = nt_splits k.split in
          let c : Spot = record { path = s.path; binding = i.0.binding } in
          record {
            pattern = i.0.pattern;
            among = (are i.0.pattern).1 i.0.alternative;
            spot = c;
            split = record { inside = k.inside; split = i.0.split };
            nameless = spot_as s no_names i.1;
          }

  -- a closed pattern splits where its part does, and binds nothing
  pub exactly_closed : {q : Pattern} {t : Tree} {xs : List Spot} (ps : List Pattern) → ps ≡ q ∷ [] → HasExactly xs (AnySplits L ps t) → HasExactly xs (SplitsAt L (closed q) t)
  exactly_closed {q} {t} ps e = exactly_as sound complete
    where
      sound : (s : Spot) → AnySplits L ps t s → SplitsAt L (closed q) t s
      sound s a =
          let split : SplitsAt L q t a.spot = subst (λ (p : Pattern). SplitsAt L p t a.spot) (only (In_along ps (q ∷ []) e a.among)) a.split in
          subst (SplitsAt L (closed q) t) (sym a.nameless) (record { inside = split.inside; split = split_closed split.split })

      complete : (s : Spot) → SplitsAt L (closed q) t s → AnySplits L ps t s
      complete s k =
          let i = closed_splits k.split in
          let c : Spot = record { path = s.path; binding = i.0.binding } in
          record {
            pattern = q;
            among = In_along (q ∷ []) ps (sym e) (here refl);
            spot = c;
            split = record { inside = k.inside; split = i.0.split };
            nameless = spot_as s no_names i.1;
          }

  -- ---- patterns with a name

  -- a pattern with a name splits where its part does, and binds the name to the context
  pub exactly_named : (n : Naming) {q : Pattern} {t : Tree} {xs : List Spot} (cs : List Spot) → HasExactly cs (SplitsAt L q t) → HasExactly xs (Arises (NamesContext n t) cs)
      → HasExactly xs (SplitsAt L (under n q) t)
  exactly_named n {q} {t} cs h = exactly_as sound complete
    where
      sound : (s : Spot) → Arises (NamesContext n t) cs s → SplitsAt L (under n q) t s
      sound s a =
          let b = h.sound a.from a.among in
          let there : SplitsAt L (under n q) t (record { path = a.from.path; binding = s.binding }) = record { inside = b.inside; split = split_under n b.split a.by.joined } in
          subst (SplitsAt L (under n q) t) (one_spot (record { path = a.from.path; binding = s.binding }) s (sym a.by.same) refl) there

      complete : (s : Spot) → SplitsAt L (under n q) t s → Arises (NamesContext n t) cs s
      complete s k =
          let i = under_splits n k.split in
          let c : Spot = record { path = s.path; binding = i.inside } in
          record { from = c; among = h.complete c (record { inside = k.inside; split = i.split }); by = record { same = refl; joined = i.joined } }

  -- ---- a pattern in the hole of another

  -- one split in another is at both paths, one behind the other
  both_paths : {q r : Pattern} {t : Tree} (s : Spot) (h : SplitsAt L (in_hole q r) t s) (i : InHoleSplit L q r t (context_at t s.path) (tree_at t s.path) s.binding)
      → s.path ≡ path i.first ++ path i.second
  both_paths {t = t} s h i =
      let a : IsAlongPath t i.first i.part = split-along i.split in
      let b : IsAlongPath i.part i.second (tree_at t s.path) = split-along i.again in
      let ks : List ℕ = path i.first in
      let ls : List ℕ = path i.second in
      let inside : IsPlace (tree_at t ks) ls = subst (λ (u : Tree). IsPlace u ls) a.part b.inside in
      let second : i.second ≡ context_at (tree_at t ks) ls = b.context ∙ ap (λ (u : Tree). context_at u ls) a.part in
      let filled : fill_of i.first i.second ≡ fill_of (context_at t ks) (context_at (tree_at t ks) ls) = (λ j. fill_of (a.context j) (second j)) in
      let same : context_at t s.path ≡ context_at t (ks ++ ls) = i.filled ∙ filled ∙ fill_of-context_at t ks ls a.inside inside in
      sym (path_there s h) ∙ ap path same ∙ path-context_at t (ks ++ ls) (IsPlace-++ t ks ls a.inside inside)

  -- one pattern in the hole of another splits where the second goes on from where the first splits
  pub exactly_in_hole : {q r : Pattern} {t : Tree} {xs : List Spot} (cs : List Spot) → HasExactly cs (SplitsAt L q t) → HasExactly xs (Arises (SplitsOn L r t) cs)
      → HasExactly xs (SplitsAt L (in_hole q r) t)
  exactly_in_hole {q} {r} {t} cs h = exactly_as sound complete
    where
      sound : (s : Spot) → Arises (SplitsOn L r t) cs s → SplitsAt L (in_hole q r) t s
      sound s a =
          let b = h.sound a.from a.among in
          let d = a.by.split in
          let ks : List ℕ = a.from.path in
          let ls : List ℕ = a.by.inner.path in
          let C : Tree = context_at t (ks ++ ls) in
          let filled : C ≡ fill_of (context_at t ks) (context_at (tree_at t ks) ls) = sym (fill_of-context_at t ks ls b.inside d.inside) in
          let split : Split L (in_hole q r) t C (tree_at (tree_at t ks) ls) s.binding = split_in_hole b.split d.split filled a.by.on.joined in
          let there : SplitsAt L (in_hole q r) t (record { path = ks ++ ls; binding = s.binding }) =
          record { inside = IsPlace-++ t ks ls b.inside d.inside; split = subst (λ (u : Tree). Split L (in_hole q r) t C u s.binding) (sym (tree_at-++ t ks ls)) split } in
          subst (SplitsAt L (in_hole q r) t) (one_spot (record { path = ks ++ ls; binding = s.binding }) s (sym a.by.on.along) refl) there

      complete : (s : Spot) → SplitsAt L (in_hole q r) t s → Arises (SplitsOn L r t) cs s
      complete s k =
          let i = in_hole_splits k.split in
          let a : IsAlongPath t i.first i.part = split-along i.split in
          let outer : Spot = record { path = path i.first; binding = i.outer } in
          let inner : Spot = record { path = path i.second; binding = i.inner } in
          let there : SplitsAt L r (tree_at t outer.path) inner = subst (λ (u : Tree). SplitsAt L r u inner) a.part (at_its_path i.again) in
          record {
            from = outer;
            among = h.complete outer (at_its_path i.split);
            by = record { inner = inner; split = there; on = record { along = both_paths s k i; joined = i.joined } };
          }

  -- it matches where the second matches what the first leaves in the hole
  pub listing_in_hole : {q r : Pattern} {t : Tree} {bs : List Binding} (cs : List Spot) → HasExactly cs (SplitsAt L q t)
      → IsListing binding_cmp bs (Arises (MatchesOn L r t) cs) → AllMatches L (in_hole q r) t bs
  listing_in_hole {q} {r} {t} cs h = listing_of sound complete
    where
      sound : (b : Binding) → Arises (MatchesOn L r t) cs b → Match L (in_hole q r) t b
      sound b a = match_in_hole (h.sound a.from a.among).split a.by.matched a.by.joined

      complete : (b : Binding) → Match L (in_hole q r) t b → Arises (MatchesOn L r t) cs b
      complete b m =
          let i = in_hole_inside m in
          let a : IsAlongPath t i.context i.part = split-along i.split in
          let outer : Spot = record { path = path i.context; binding = i.outer } in
          record {
            from = outer;
            among = h.complete outer (at_its_path i.split);
            by = record { inner = i.inner; matched = subst (λ (u : Tree). Match L r u i.inner) a.part i.matched; joined = i.joined };
          }

  -- ---- loops over the spots of the left pattern

  -- what is joined with a spot is what the right pattern binds at its part
  pub adds_matches : {r : Pattern} {t : Tree} (s : Spot) (u : Tree) (bs old new : List Binding) → u ≡ tree_at t s.path → IsListing binding_cmp bs (Match L r u)
      → Adds (JoinsWith bs s.binding) old new → Adds (MatchesOn L r t s) old new
  adds_matches {r} s u bs old new e l a = adds_as old new
      (λ b j. record { inner = j.from; matched = subst (λ (v : Tree). Match L r v j.from) e (l.sound j.from j.among); joined = j.by })
      (λ b m. record { from = m.inner; among = l.complete m.inner (subst (λ (v : Tree). Match L r v m.inner) (sym e) m.matched); by = m.joined }) a

  -- what goes on from a spot is what the right pattern splits its part into
  pub adds_splits : {r : Pattern} {t : Tree} (s : Spot) (u : Tree) (inners old new : List Spot) → u ≡ tree_at t s.path → HasExactly inners (SplitsAt L r u)
      → Adds (Arises (GoesOn s) inners) old new → Adds (SplitsOn L r t s) old new
  adds_splits {r} {t} s u inners old new e h a = adds_as old new
      (λ w j. record { inner = j.from; split = subst (λ (v : Tree). SplitsAt L r v j.from) e (h.sound j.from j.among); on = j.by })
      (λ w m. record { from = m.inner; among = h.complete m.inner (subst (λ (v : Tree). SplitsAt L r v m.inner) (sym e) m.split); by = m.on }) a

  -- ---- the whole list

  -- what the spots stand for is what the pattern splits the term into
  pub splits_listing : {p : Pattern} {t : Tree} {ds : List Decomposition} (cs : List Spot) → HasExactly cs (SplitsAt L p t) → IsListing decomposition_cmp ds (Arises (IsSplitAt t) cs) → AllSplits L p t ds
  splits_listing {p} {t} cs h = listing_of sound complete
    where
      sound : (d : Decomposition) → Arises (IsSplitAt t) cs d → SplitsInto L p t d
      sound d a = subst (SplitsInto L p t) (sym a.by) (h.sound a.from a.among).split

      complete : (d : Decomposition) → SplitsInto L p t d → Arises (IsSplitAt t) cs d
      complete d k =
          let a : IsAlongPath t d.context d.part = split-along k in
          let s : Spot = record { path = path d.context; binding = d.binding } in
          record { from = s; among = h.complete s (at_its_path k); by = λ i. record { context = a.context i; part = a.part i; binding = d.binding } }
