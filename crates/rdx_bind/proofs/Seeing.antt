-- What is seen of listings and of spots: what has no mismatch names is seen whole, and who lists what is seen of all matches or splits has the
-- list of what is seen of them.
use Rattle.std.proofs.Common.{◌≡◌, List, [], ◌∷◌, map, refl, sym, ◌∙◌, ap, subst}
use Rattle.rdx_term.specs.Path.{path}
use Rattle.rdx_term.specs.Tree.{Tree}
use Rattle.rdx_lang.proofs.Collecting.{listing_of}
use Rattle.rdx_lang.proofs.MemberLaws.{in-map, map-in}
use Rattle.rdx_lang.proofs.SeenListings.{seen_whole}
use Rattle.rdx_lang.proofs.SplitLaws.{split-along}
use Rattle.rdx_lang.specs.Bindings.{Binding, visible}
use Rattle.rdx_lang.specs.Collecting.{Arises, HasExactly}
use Rattle.rdx_lang.specs.Decompositions.{Decomposition}
use Rattle.rdx_lang.specs.Laws.{IsAlongPath}
use Rattle.rdx_lang.specs.Listing.{IsListing, IsSeen, Matches, Splits, SplitsVisibly}
use Rattle.rdx_lang.specs.Members.{In, here, there}
use Rattle.rdx_lang.specs.Order.{binding_cmp, decomposition_cmp}
use Rattle.rdx_lang.specs.Patterns.{Pattern, Language}
use Rattle.rdx_lang.specs.Rules.{Match}
use Rattle.rdx_bind.proofs.SplitRules.{at_its_path}
use Rattle.rdx_bind.specs.Choices.{ArePlain}
use Rattle.rdx_bind.specs.Seen.{visible_spot, SpotsArePlain}
use Rattle.rdx_bind.specs.Spots.{Spot, SplitsAt}
use Rattle.rdx_bind.specs.Splitting.{IsSplitAt, split_of}

-- ---- what is seen whole

-- bindings without mismatch names
pub all_whole : (bs : List Binding) → ArePlain bs → bs ≡ map visible bs
all_whole [] h = refl
all_whole (b ∷ bs) h = (λ i. seen_whole b (h b (here refl)) i ∷ bs) ∙ ap (λ cs. visible b ∷ cs) (all_whole bs (λ c i. h c (there i)))

-- spots without them
pub spots_whole : (ss : List Spot) → SpotsArePlain ss → ss ≡ map visible_spot ss
spots_whole [] h = refl
spots_whole (s ∷ ss) h =
    (λ i. record { path = s.path; binding = seen_whole s.binding (h s (here refl)) i } ∷ ss) ∙ ap (λ us. visible_spot s ∷ us) (spots_whole ss (λ u i. h u (there i)))

-- ---- listings

module _ {L : Language} {p : Pattern} {t : Tree} where
  -- the list of what is seen of all that match
  pub matches_seen : {cs : List Binding} (bs : List Binding) → HasExactly bs (Match L p t) → IsListing binding_cmp cs (λ b. In b (map visible bs)) → Matches L p t cs
  matches_seen bs h = listing_of sound complete
    where
      sound : (b : Binding) → In b (map visible bs) → IsSeen (Match L p t) b
      sound b i = let r = in-map visible bs b i in record { whole = r.0; holds = h.sound r.0 r.1; seen = r.2 }

      complete : (b : Binding) → IsSeen (Match L p t) b → In b (map visible bs)
      complete b s = subst (λ c. In c (map visible bs)) (sym s.seen) (map-in visible bs s.whole (h.complete s.whole s.holds))

  -- the list of what is seen of the splits at all spots
  pub splits_seen : {ds : List Decomposition} (ss : List Spot) → HasExactly ss (SplitsAt L p t) → IsListing decomposition_cmp ds (Arises (IsSplitAt t) (map visible_spot ss)) → Splits L p t ds
  splits_seen ss h = listing_of sound complete
    where
      sound : (d : Decomposition) → Arises (IsSplitAt t) (map visible_spot ss) d → SplitsVisibly L p t d
      sound d a =
          let r = in-map visible_spot ss a.from a.among in
          let e : d ≡ split_of t (visible_spot r.0) = a.by ∙ ap (split_of t) r.2 in
          subst (SplitsVisibly L p t) (sym e) (record { whole = r.0.binding; holds = (h.sound r.0 r.1).split; seen = refl })

      complete : (d : Decomposition) → SplitsVisibly L p t d → Arises (IsSplitAt t) (map visible_spot ss) d
      complete d k =
          let a : IsAlongPath t d.context d.part = split-along k.holds in
          let s : Spot = record { path = path d.context; binding = k.whole } in
          let i : In s ss = h.complete s (at_its_path k.holds) in
          record { from = visible_spot s; among = map-in visible_spot ss s i; by = λ i. record { context = a.context i; part = a.part i; binding = k.seen i } }
