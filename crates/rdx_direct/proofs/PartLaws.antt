-- A pattern in the hole of one that binds nothing: what comes of the part at the end of a path.
use Rattle.std.proofs.Common.{◌≡◌, ◌∙◌, ℕ, true, List, refl, sym, ap, subst}
use Rattle.rdx_term.specs.AtPaths.{IsPlace, tree_at, context_at}
use Rattle.rdx_term.specs.Path.{path}
use Rattle.rdx_term.specs.Tree.{Tree}
use Rattle.rdx_lang.proofs.Collecting.{In_along}
use Rattle.rdx_lang.proofs.JoinLaws.{one_left-only, one_name-ascends, one_value, turned_join, unit_left, unit_left-only}
use Rattle.rdx_lang.proofs.NameLaws.{match-ascends}
use Rattle.rdx_lang.proofs.RuleSteps.{named_splits, in_hole_inside}
use Rattle.rdx_lang.proofs.SplitLaws.{split-along}
use Rattle.rdx_lang.specs.Bindings.{Binding, no_names, one_name, HasAscendingNames}
use Rattle.rdx_lang.specs.Bindings.{one as one_term}
use Rattle.rdx_lang.specs.Collecting.{Arises, HasExactly}
use Rattle.rdx_lang.specs.Join.{IsJoin}
use Rattle.rdx_lang.specs.Laws.{IsAlongPath}
use Rattle.rdx_lang.specs.Members.{In, here}
use Rattle.rdx_lang.specs.Patterns.{Pattern, named, in_hole, Language}
use Rattle.rdx_lang.specs.Rules.{Match, Split, split_named, match_in_hole}
use Rattle.rdx_bind.proofs.AcrossRows.{AreMaps}
use Rattle.rdx_bind.proofs.Gathering.{exactly_as}
use Rattle.rdx_bind.proofs.SplitRules.{at_its_path}
use Rattle.rdx_bind.specs.Spots.{SplitsAt}
use Rattle.rdx_direct.proofs.GoingLaws.{Both, goes_onward, goes_back}
use Rattle.rdx_direct.proofs.PlainLaws.{split-empty}
use Rattle.rdx_direct.specs.Inside.Going.{Fits, Goes, Joins, NamedAt, OnlyOf}
use Rattle.rdx_direct.specs.Inside.Plain.{is_plain}
use Rattle.rdx_direct.specs.Inside.Wanted.{Anything}
use Rattle.rdx_direct.specs.Inside.Paths.{Leads}
use Rattle.rdx_direct.specs.declared.paths.Paths.{Paths}
use Rattle.rdx_direct.specs.Inside.Reaching.{Reached, Between}
use Rattle.rdx_direct.proofs.ReachLaws.{split_there, reached_split}

-- what comes of the part at the end of a path
abbrev pub GoesAt : (L : Language) → Pattern → Tree → List Binding → List ℕ → Binding → Type 0
GoesAt L r t gs w = Goes (Match L r (tree_at t w)) gs

-- the same with the name for the context
abbrev pub GoesWithName : (L : Language) → Pattern → Tree → List ℕ → List Binding → List ℕ → Binding → Type 0
GoesWithName L r t x gs w = Goes (NamedAt L r t x w) gs

module _ {L : Language} {Q : Tree → Type 0} {q r : Pattern} {t : Tree} (e : is_plain q ≡ true) {P : Paths} (reach : Between (Reached L Q q t) (Reached L Anything q t) P) (ws : List (List ℕ)) (listed : HasExactly ws (Leads P)) (gs : List Binding) where
  part_there : {C u : Tree} {c d : Binding} → Split L q t C u c → Match L r u d → Match L r (tree_at t (path C)) d
  part_there {d = d} h m = let a : IsAlongPath t _ _ = split-along h in subst (λ v. Match L r v d) a.part m

  pub goes_reached : {bs : List Binding} → ((u : Tree) → Fits L r u → Q u) → HasExactly bs (Arises (GoesAt L r t gs) ws) → HasExactly bs (Goes (Match L (in_hole q r) t) gs)
  goes_reached f h = exactly_as onward back h
    where
      onward : (b : Binding) → Arises (GoesAt L r t gs) ws b → Goes (Match L (in_hole q r) t) gs b
      onward b a =
          let g = a.by in
          let k = reach.sound a.from (listed.sound a.from a.among) in
          let s = split_there e k in
          record { from = g.from; among = g.among; by = record { bound = g.by.bound; holds = match_in_hole s.split g.by.holds (unit_left g.by.bound (match-ascends g.by.holds)); joined = g.by.joined } }

      back : (b : Binding) → Goes (Match L (in_hole q r) t) gs b → Arises (GoesAt L r t gs) ws b
      back b g =
          let i = in_hole_inside g.by.holds in
          let k = reach.complete (path i.context) (reached_split i.split (f i.part (record { binding = i.inner; matched = i.matched }))) in
          let z : i.outer ≡ no_names = split-empty e i.split in
          let y : g.by.bound ≡ i.inner = unit_left-only (match-ascends i.matched) (subst (λ c. IsJoin c i.inner g.by.bound) z i.joined) in
          record {
            from = path i.context;
            among = listed.complete (path i.context) k;
            by = record { from = g.from; among = g.among; by = record { bound = g.by.bound; holds = subst (Match L r (tree_at t (path i.context))) (sym y) (part_there i.split i.matched); joined = g.by.joined } };
          }

  -- the same where the left one has a name, for the context
  pub goes_named_reached : {bs : List Binding} (x : List ℕ)
      → ((w : List ℕ) (g : Binding) → IsPlace t w → In g gs → OnlyOf x (one_term (context_at t w)) g → Fits L r (tree_at t w) → Q (tree_at t w))
      → HasExactly bs (Arises (GoesWithName L r t x gs) ws) → HasExactly bs (Goes (Match L (in_hole (named x q) r) t) gs)
  goes_named_reached x f h = exactly_as onward back h
    where
      onward : (b : Binding) → Arises (GoesWithName L r t x gs) ws b → Goes (Match L (in_hole (named x q) r) t) gs b
      onward b a =
          let g = a.by in
          let m = g.by.holds in
          let k = reach.sound a.from (listed.sound a.from a.among) in
          let s = split_there e k in
          let d : Binding = one_name x (one_term (context_at t a.from)) in
          let split : Split L (named x q) t (context_at t a.from) (tree_at t a.from) d = split_named s.split (unit_left d (one_name-ascends x (one_term (context_at t a.from)))) in
          record { from = g.from; among = g.among; by = record { bound = g.by.bound; holds = match_in_hole split m.matched (turned_join m.inner d g.by.bound m.joined); joined = g.by.joined } }

      back : (b : Binding) → Goes (Match L (in_hole (named x q) r) t) gs b → Arises (GoesWithName L r t x gs) ws b
      back b g =
          let i = in_hole_inside g.by.holds in
          let n = named_splits i.split in
          let a : IsAlongPath t i.context i.part = split-along i.split in
          let l : SplitsAt L q t _ = at_its_path n.split in
          let there : List ℕ = path i.context in
          let z : n.inside ≡ no_names = split-empty e n.split in
          let o : i.outer ≡ one_name x (one_term i.context) = one_left-only (subst (λ v. IsJoin v (one_name x (one_term i.context)) i.outer) z n.joined) in
          let y : i.outer ≡ one_name x (one_term (context_at t there)) = o ∙ ap (λ v. one_name x (one_term v)) a.context in
          let within : In (x, one_term (context_at t there)) b.pairs = g.by.joined.pairs.right _ (i.joined.pairs.left _ (In_along (one_name x (one_term (context_at t there))).pairs i.outer.pairs (ap (λ (c : Binding). c.pairs) (sym y)) (here refl))) in
          let alone : OnlyOf x (one_term (context_at t there)) g.from = λ v k. one_value x v (one_term (context_at t there)) b.pairs g.by.joined.pairs.map (g.by.joined.pairs.left (x, v) k) within in
          let wanted : Q i.part = subst Q (sym a.part) (f there g.from l.inside g.among alone (record { binding = i.inner; matched = subst (λ v. Match L r v i.inner) a.part i.matched })) in
          let k = reach.complete there (reached_split n.split wanted) in
          let j : IsJoin i.inner i.outer g.by.bound = turned_join i.outer i.inner g.by.bound i.joined in
          record {
            from = there;
            among = listed.complete there k;
            by = record {
              from = g.from;
              among = g.among;
              by = record {
                bound = g.by.bound;
                holds = record { inner = i.inner; matched = part_there n.split i.matched; joined = subst (λ v. IsJoin i.inner v g.by.bound) y j };
                joined = g.by.joined;
              };
            };
          }

-- one binding, and what is equal to it
only_map : (d : Binding) → HasAscendingNames d → (b : Binding) → b ≡ d → HasAscendingNames b
only_map d m b z = subst HasAscendingNames (sym z) m

by_name : (d : Binding) (cs : List Binding) (b : Binding) → Joins d cs b → Goes (λ c. c ≡ d) cs b
by_name d cs b j = record { from = j.from; among = j.among; by = record { bound = d; holds = refl; joined = j.by } }

of_name : (d : Binding) (cs : List Binding) (b : Binding) → Goes (λ c. c ≡ d) cs b → Joins d cs b
of_name d cs b g = record { from = g.from; among = g.among; by = subst (λ c. IsJoin g.from c b) g.by.holds g.by.joined }

-- the name for the context around the end of a path
abbrev pub name_for : Tree → List ℕ → List ℕ → Binding
name_for t x w = one_name x (one_term (context_at t w))

-- what comes at the end of a path, with the name for the context, where the part is matched first
pub named_after : {L : Language} {r : Pattern} (t u : Tree) (x w : List ℕ) (gs : List Binding) → AreMaps gs → u ≡ tree_at t w → (inners bs : List Binding) → HasExactly inners (Goes (Match L r u) gs)
    → HasExactly bs (Joins (name_for t x w) inners) → HasExactly bs (Goes (NamedAt L r t x w) gs)
named_after {L} {r} t u x w gs maps part inners bs h k = exactly_as
    (λ b j. goes_onward (Match L r u) (λ c. c ≡ d) (NamedAt L r t x w) (λ c i. match-ascends i) (only_map d (one_name-ascends x (one_term (context_at t w)))) gs inners h made b (by_name d inners b j))
    (λ b g. of_name d inners b (goes_back (Match L r u) (λ c. c ≡ d) (NamedAt L r t x w) (λ c i. match-ascends i) (only_map d (one_name-ascends x (one_term (context_at t w)))) gs inners h maps taken b g)) k
  where
    d : Binding
    d = name_for t x w

    made : (b : Binding) → Both (Match L r u) (λ c. c ≡ d) b → NamedAt L r t x w b
    made b i = record { inner = i.first; matched = subst (λ v. Match L r v i.first) part i.first_holds; joined = subst (λ v. IsJoin i.first v b) i.second_holds i.joined }

    taken : (b : Binding) → NamedAt L r t x w b → Both (Match L r u) (λ c. c ≡ d) b
    taken b i = record { first = i.inner; second = d; first_holds = subst (λ v. Match L r v i.inner) (sym part) i.matched; second_holds = refl; joined = i.joined }

-- and where the name is bound first
pub named_before : {L : Language} {r : Pattern} (t u : Tree) (x w : List ℕ) (gs : List Binding) → AreMaps gs → u ≡ tree_at t w → (outers bs : List Binding) → HasExactly outers (Joins (name_for t x w) gs)
    → HasExactly bs (Goes (Match L r u) outers) → HasExactly bs (Goes (NamedAt L r t x w) gs)
named_before {L} {r} t u x w gs maps part outers bs h k = exactly_as
    (λ b g. goes_onward (λ c. c ≡ d) (Match L r u) (NamedAt L r t x w) (only_map d (one_name-ascends x (one_term (context_at t w)))) (λ c i. match-ascends i) gs outers bound made b g)
    (λ b g. goes_back (λ c. c ≡ d) (Match L r u) (NamedAt L r t x w) (only_map d (one_name-ascends x (one_term (context_at t w)))) (λ c i. match-ascends i) gs outers bound maps taken b g) k
  where
    d : Binding
    d = name_for t x w

    bound : HasExactly outers (Goes (λ c. c ≡ d) gs)
    bound = exactly_as (by_name d gs) (of_name d gs) h

    made : (b : Binding) → Both (λ c. c ≡ d) (Match L r u) b → NamedAt L r t x w b
    made b i = record { inner = i.second; matched = subst (λ v. Match L r v i.second) part i.second_holds; joined = turned_join d i.second b (subst (λ v. IsJoin v i.second b) i.first_holds i.joined) }

    taken : (b : Binding) → NamedAt L r t x w b → Both (λ c. c ≡ d) (Match L r u) b
    taken b i = record { first = d; second = i.inner; first_holds = refl; second_holds = subst (λ v. Match L r v i.inner) (sym part) i.matched; joined = turned_join i.inner d b i.joined }
