-- What comes of a pattern in the hole of another.
use Rattle.std.proofs.Common.{◌≡◌, List, refl, sym, subst}
use Rattle.rdx_term.specs.AtPaths.{tree_at}
use Rattle.rdx_term.specs.Tree.{Tree}
use Rattle.rdx_lang.proofs.JoinLaws.{unit_right, unit_right-only}
use Rattle.rdx_lang.proofs.NameLaws.{match-ascends}
use Rattle.rdx_lang.proofs.RuleSteps.{in_hole_inside}
use Rattle.rdx_lang.proofs.SplitLaws.{split-along}
use Rattle.rdx_lang.specs.Bindings.{Binding, no_names, HasAscendingNames}
use Rattle.rdx_lang.specs.Collecting.{Arises, HasExactly}
use Rattle.rdx_lang.specs.Join.{IsJoin}
use Rattle.rdx_lang.specs.Laws.{IsAlongPath}
use Rattle.rdx_lang.specs.Members.{In}
use Rattle.rdx_lang.specs.Patterns.{Pattern, in_hole, Language}
use Rattle.rdx_lang.specs.Rules.{Match, match_in_hole}
use Rattle.rdx_term.specs.Path.{path}
use Rattle.rdx_bind.proofs.AcrossRows.{AreMaps}
use Rattle.rdx_bind.proofs.Gathering.{exactly_as}
use Rattle.rdx_bind.proofs.SplitRules.{MatchesOn, at_its_path}
use Rattle.rdx_bind.specs.Spots.{Spot, SplitsAt}
use Rattle.rdx_direct.proofs.GoingLaws.{goes_onward, goes_back}
use Rattle.rdx_direct.specs.Inside.Going.{Goes, Joins}

-- with no name each stays as it is
pub joins_nothing : (d : Binding) (gs : List Binding) → AreMaps gs → d ≡ no_names → HasExactly gs (Joins d gs)
joins_nothing d gs m e = record {
  sound = λ b i. record { from = b; among = i; by = subst (λ c. IsJoin b c b) (sym e) (unit_right b (m b i)) };
  complete = λ b j. subst (λ c. In c gs) (sym (unit_right-only (m j.from j.among) (subst (λ c. IsJoin j.from c b) e j.by))) j.among;
}

module _ {L : Language} where
  -- what comes of one spot
  pub goes_there : {r : Pattern} {t : Tree} (s : Spot) (u : Tree) (gs outers bs : List Binding) → AreMaps gs → HasAscendingNames s.binding → u ≡ tree_at t s.path
      → HasExactly outers (Joins s.binding gs) → HasExactly bs (Goes (Match L r u) outers) → HasExactly bs (Goes (MatchesOn L r t s) gs)
  goes_there {r} {t} s u gs outers bs m a e h k = exactly_as onward back k
    where
      S : Binding → Type 0
      S b = b ≡ s.binding

      by_spot : HasExactly outers (Goes S gs)
      by_spot = exactly_as (λ b j. record { from = j.from; among = j.among; by = record { bound = s.binding; holds = refl; joined = j.by } })
          (λ b g. record { from = g.from; among = g.among; by = subst (λ c. IsJoin g.from c b) g.by.holds g.by.joined }) h

      map_of : (b : Binding) → S b → HasAscendingNames b
      map_of b f = subst HasAscendingNames (sym f) a

      onward : (b : Binding) → Goes (Match L r u) outers b → Goes (MatchesOn L r t s) gs b
      onward = goes_onward S (Match L r u) (MatchesOn L r t s) map_of (λ b i. match-ascends i) gs outers by_spot
          (λ b i. record { inner = i.second; matched = subst (λ v. Match L r v i.second) e i.second_holds; joined = subst (λ c. IsJoin c i.second b) i.first_holds i.joined })

      back : (b : Binding) → Goes (MatchesOn L r t s) gs b → Goes (Match L r u) outers b
      back = goes_back S (Match L r u) (MatchesOn L r t s) map_of (λ b i. match-ascends i) gs outers by_spot m
          (λ b i. record { first = s.binding; second = i.inner; first_holds = refl; second_holds = subst (λ v. Match L r v i.inner) (sym e) i.matched; joined = i.joined })

  -- what comes of all spots
  pub goes_in_hole : {q r : Pattern} {t : Tree} (cs : List Spot) (gs bs : List Binding) → HasExactly cs (SplitsAt L q t)
      → HasExactly bs (Arises (λ s. Goes (MatchesOn L r t s) gs) cs) → HasExactly bs (Goes (Match L (in_hole q r) t) gs)
  goes_in_hole {q} {r} {t} cs gs bs h k = exactly_as onward back k
    where
      onward : (b : Binding) → Arises (λ s. Goes (MatchesOn L r t s) gs) cs b → Goes (Match L (in_hole q r) t) gs b
      onward b a =
          let g = a.by in
          record { from = g.from; among = g.among; by = record { bound = g.by.bound; holds = match_in_hole (h.sound a.from a.among).split g.by.holds.matched g.by.holds.joined; joined = g.by.joined } }

      back : (b : Binding) → Goes (Match L (in_hole q r) t) gs b → Arises (λ s. Goes (MatchesOn L r t s) gs) cs b
      back b g =
          let i = in_hole_inside g.by.holds in
          let a : IsAlongPath t i.context i.part = split-along i.split in
          let outer : Spot = record { path = path i.context; binding = i.outer } in
          record {
            from = outer;
            among = h.complete outer (at_its_path i.split);
            by = record { from = g.from; among = g.among; by = record { bound = g.by.bound; holds = record { inner = i.inner; matched = subst (λ (u : Tree). Match L r u i.inner) a.part i.matched; joined = i.joined }; joined = g.by.joined } };
          }
