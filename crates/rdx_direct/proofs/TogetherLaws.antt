-- Patterns that match together, each at its own term: in whatever order they are walked, they bind the same.
use Rattle.std.proofs.Common.{◌≡◌, ◌∙◌, true, List, [], ◌∷◌, ◌++◌, append_assoc, length, refl, sym, ap, subst, arith}
use Rattle.std.proofs.lemmas.List.{append-nil}
use Rattle.rdx_term.specs.Tree.{Tree, trees}
use Rattle.rdx_lang.proofs.Collecting.{In_along, no_member}
use Rattle.rdx_lang.proofs.JoinLaws.{join_ascends, no_names-ascends, turned_join}
use Rattle.rdx_lang.proofs.Joins.{joined_first, joined_last}
use Rattle.rdx_lang.proofs.NameLaws.{match-ascends}
use Rattle.rdx_lang.specs.Bindings.{Binding, no_names, HasAscendingNames}
use Rattle.rdx_lang.specs.Collecting.{HasExactly}
use Rattle.rdx_lang.specs.Patterns.{Pattern, Language}
use Rattle.rdx_lang.specs.PatternView.{Slot, just, repeated, items_of}
use Rattle.rdx_lang.specs.Rules.{Match, MatchItems, match_none, match_one}
use Rattle.rdx_lang.specs.Singles.{are_single}
use Rattle.rdx_bind.proofs.AcrossRows.{AreMaps}
use Rattle.rdx_bind.proofs.Gathering.{exactly_as}
use Rattle.rdx_bind.specs.Searching.{item_pattern}
use Rattle.rdx_direct.proofs.GoingLaws.{Both, goes_onward, goes_back, goes_alone}
use Rattle.rdx_direct.specs.Inside.Going.{Goes, Alone}
use Rattle.rdx_direct.specs.Inside.Together.{Together, together_none, together_more}

-- items that are one term's each, each with its term
abbrev pub pairs : List Slot → List Tree → List (Pattern × Tree)
pairs [] ts = []
pairs (s ∷ slots) [] = []
pairs (s ∷ slots) (t ∷ ts) = (item_pattern s, t) ∷ pairs slots ts

module _ {L : Language} where
  pub together_ascends : {xs : List (Pattern × Tree)} {b : Binding} → Together L xs b → HasAscendingNames b
  together_ascends together_none = no_names-ascends
  together_ascends (together_more h m j) = join_ascends j

  -- one in the middle is as well in front
  pub in_front : {p : Pattern} {t : Tree} (ys xs : List (Pattern × Tree)) (b : Binding) → Together L (xs ++ (p, t) ∷ ys) b → Together L ((p, t) ∷ (xs ++ ys)) b
  in_front ys [] b m = m
  in_front {p} {t} ys ((q, u) ∷ xs) b (together_more {c = c} {d = d} h m j) = exchange (in_front ys xs d m)
    where
      exchange : Together L ((p, t) ∷ (xs ++ ys)) d → Together L ((p, t) ∷ (q, u) ∷ (xs ++ ys)) b
      exchange (together_more {c = e} {d = f} k n i) =
          let l = joined_first c e f d b (match-ascends h) (match-ascends k) i j in
          let o = joined_last e c f l.0 b (match-ascends h) (together_ascends n) (turned_join c e l.0 l.1) l.2 in
          together_more k (together_more h n o.1) o.2

  -- and back
  pub in_middle : {p : Pattern} {t : Tree} (ys xs : List (Pattern × Tree)) (b : Binding) → Together L ((p, t) ∷ (xs ++ ys)) b → Together L (xs ++ (p, t) ∷ ys) b
  in_middle ys [] b m = m
  in_middle {p} {t} ys ((q, u) ∷ xs) b (together_more {c = e} {d = g} k m j) = exchange (λ c n. in_middle ys xs c n) m
    where
      exchange : ((c : Binding) → Together L ((p, t) ∷ (xs ++ ys)) c → Together L (xs ++ (p, t) ∷ ys) c) → Together L ((q, u) ∷ (xs ++ ys)) g → Together L ((q, u) ∷ (xs ++ (p, t) ∷ ys)) b
      exchange back (together_more {c = c} {d = f} h n i) =
          let l = joined_first e c f g b (match-ascends k) (match-ascends h) i j in
          let o = joined_last c e f l.0 b (match-ascends k) (together_ascends n) (turned_join e c l.0 l.1) l.2 in
          together_more h (back o.0 (together_more k n o.1)) o.2

  -- items that are one term's each match as many terms together
  pub together_items : (slots : List Slot) (ts : List Tree) (b : Binding) → are_single slots ≡ true → length slots ≡ length ts → MatchItems L (items_of slots) (trees ts) b → Together L (pairs slots ts) b
  together_items [] [] b a e match_none = together_none
  together_items [] (t ∷ ts) b a e m = absurd cc
  together_items (just p ∷ slots) [] b a e m = absurd cc
  together_items (just p ∷ slots) (t ∷ ts) b a e (match_one {d = d} h m j) = together_more h (together_items slots ts d a (omega (arith, e)) m) j
  together_items (repeated p n ∷ slots) ts b a e m = absurd cc

  pub items_together : (slots : List Slot) (ts : List Tree) (b : Binding) → are_single slots ≡ true → length slots ≡ length ts → Together L (pairs slots ts) b → MatchItems L (items_of slots) (trees ts) b
  items_together [] [] b a e together_none = match_none
  items_together [] (t ∷ ts) b a e m = absurd cc
  items_together (just p ∷ slots) [] b a e m = absurd cc
  items_together (just p ∷ slots) (t ∷ ts) b a e (together_more {d = d} h m j) = match_one h (items_together slots ts d a (omega (arith, e)) m) j
  items_together (repeated p n ∷ slots) ts b a e m = absurd cc

-- whatever the pairs bind together beside what is found, R holds of beside what was given
pub record StillTogether (L : Language) (R : Binding → Type 0) (gs : List Binding) (xs : List (Pattern × Tree)) (found : List Binding) : Type 0 where
  pub onward : (b : Binding) → Goes (Together L xs) found b → Goes R gs b
  pub back : (b : Binding) → Goes R gs b → Goes (Together L xs) found b

module _ {L : Language} {R : Binding → Type 0} (gs : List Binding) where
  -- at the start
  pub together_start : (xs : List (Pattern × Tree)) (found : List Binding) → found ≡ gs → ((b : Binding) → Together L xs b → R b) → ((b : Binding) → R b → Together L xs b) → StillTogether L R gs xs found
  together_start xs found e f g = subst (λ hs. StillTogether L R gs xs hs) (sym e) (record {
    onward = λ b r. record { from = r.from; among = r.among; by = record { bound = r.by.bound; holds = f r.by.bound r.by.holds; joined = r.by.joined } };
    back = λ b r. record { from = r.from; among = r.among; by = record { bound = r.by.bound; holds = g r.by.bound r.by.holds; joined = r.by.joined } };
  })

  -- by equal pairs
  pub together_equal : {xs ys : List (Pattern × Tree)} {found : List Binding} → xs ≡ ys → StillTogether L R gs xs found → StillTogether L R gs ys found
  together_equal {found = found} e s = subst (λ zs. StillTogether L R gs zs found) e s

  -- one more is walked
  pub together_next : (xs ys : List (Pattern × Tree)) {p : Pattern} {t : Tree} (found more : List Binding) → AreMaps found → HasExactly more (Goes (Match L p t) found)
      → StillTogether L R gs (xs ++ (p, t) ∷ ys) found → StillTogether L R gs (xs ++ ys) more
  together_next xs ys {p} {t} found more m h s = record {
    onward = λ b g. s.onward b (into b (goes_onward (Match L p t) (Together L (xs ++ ys)) (Together L ((p, t) ∷ (xs ++ ys))) (λ c r. match-ascends r) (λ c r. together_ascends r) found more h
        (λ c k. together_more k.first_holds k.second_holds k.joined) b g));
    back = λ b g. goes_back (Match L p t) (Together L (xs ++ ys)) (Together L ((p, t) ∷ (xs ++ ys))) (λ c r. match-ascends r) (λ c r. together_ascends r) found more h m apart b (out b (s.back b g));
  }
    where
      into : (b : Binding) → Goes (Together L ((p, t) ∷ (xs ++ ys))) found b → Goes (Together L (xs ++ (p, t) ∷ ys)) found b
      into b r = record { from = r.from; among = r.among; by = record { bound = r.by.bound; holds = in_middle ys xs r.by.bound r.by.holds; joined = r.by.joined } }

      out : (b : Binding) → Goes (Together L (xs ++ (p, t) ∷ ys)) found b → Goes (Together L ((p, t) ∷ (xs ++ ys))) found b
      out b r = record { from = r.from; among = r.among; by = record { bound = r.by.bound; holds = in_front ys xs r.by.bound r.by.holds; joined = r.by.joined } }

      apart : (c : Binding) → Together L ((p, t) ∷ (xs ++ ys)) c → Both (Match L p t) (Together L (xs ++ ys)) c
      apart c (together_more {c = e} {d = f} k n i) = record { first = e; second = f; first_holds = k; second_holds = n; joined = i }

  -- whatever has exactly what comes of the pairs has what comes of all
  pub together_whole : (xs : List (Pattern × Tree)) (found bs : List Binding) → StillTogether L R gs xs found → HasExactly bs (Goes (Together L xs) found) → HasExactly bs (Goes R gs)
  together_whole xs found bs s h = exactly_as s.onward s.back h

  -- where nothing is found any more
  pub together_nothing : {xs : List (Pattern × Tree)} (found bs : List Binding) → found ≡ [] → bs ≡ [] → StillTogether L R gs xs found → HasExactly bs (Goes R gs)
  together_nothing {xs} found bs e f s = together_whole xs found bs s (record { sound = λ b i. no_member (In_along bs [] f i); complete = λ b g. no_member (In_along found [] e g.among) })

  -- where no pair is left
  pub together_done : {xs : List (Pattern × Tree)} (found : List Binding) → AreMaps found → xs ≡ [] → StillTogether L R gs xs found → HasExactly found (Goes R gs)
  together_done {xs} found m e s = together_whole [] found found (together_equal e s) (goes_alone found found true m alone refl)
    where
      only_none : (b : Binding) → Together L [] b → b ≡ no_names
      only_none b together_none = refl

      alone : Alone (Together L []) true
      alone = record { there = λ h. together_none; none_else = λ b m. (refl, only_none b m) }

  -- the first of the items that are left is left for later
  pub together_left : (xs : List (Pattern × Tree)) {new : List (Pattern × Tree)} {slots rest : List Slot} {us ts : List Tree} {s : Slot} {p : Pattern} {t : Tree} (found : List Binding) → slots ≡ s ∷ rest → us ≡ t ∷ ts → p ≡ item_pattern s
      → new ≡ xs ++ (p, t) ∷ [] → StillTogether L R gs (xs ++ pairs slots us) found → StillTogether L R gs (new ++ pairs rest ts) found
  together_left xs {new} {slots} {rest} {us} {ts} {s} {p} {t} found e f g h still = together_equal same still
    where
      same : xs ++ pairs slots us ≡ new ++ pairs rest ts
      same = ap (λ zs. xs ++ pairs zs us) e ∙ ap (λ vs. xs ++ pairs (s ∷ rest) vs) f ∙ ap (λ q. xs ++ (q, t) ∷ pairs rest ts) (sym g) ∙ sym (append_assoc xs ((p, t) ∷ []) (pairs rest ts))
          ∙ ap (λ zs. zs ++ pairs rest ts) (sym h)

  -- the first of them is walked
  pub together_walked : (xs : List (Pattern × Tree)) {slots rest : List Slot} {us ts : List Tree} {s : Slot} {p : Pattern} {t : Tree} (found more : List Binding) → AreMaps found
      → HasExactly more (Goes (Match L p t) found) → slots ≡ s ∷ rest → us ≡ t ∷ ts → p ≡ item_pattern s → StillTogether L R gs (xs ++ pairs slots us) found → StillTogether L R gs (xs ++ pairs rest ts) more
  together_walked xs {slots} {rest} {us} {ts} {s} {p} {t} found more m h e f g still = together_next xs (pairs rest ts) found more m h (together_equal same still)
    where
      same : xs ++ pairs slots us ≡ xs ++ (p, t) ∷ pairs rest ts
      same = ap (λ zs. xs ++ pairs zs us) e ∙ ap (λ vs. xs ++ pairs (s ∷ rest) vs) f ∙ ap (λ q. xs ++ (q, t) ∷ pairs rest ts) (sym g)

  -- where no items are left
  pub together_over : (xs : List (Pattern × Tree)) {slots : List Slot} (us : List Tree) (found : List Binding) → slots ≡ [] → StillTogether L R gs (xs ++ pairs slots us) found → StillTogether L R gs xs found
  together_over xs {slots} us found e still = together_equal (ap (λ zs. xs ++ pairs zs us) e ∙ append-nil xs) still

  -- the last of those that were left is walked
  pub together_popped : (xs : List (Pattern × Tree)) {old : List (Pattern × Tree)} {p : Pattern} {t : Tree} (found more : List Binding) → AreMaps found → HasExactly more (Goes (Match L p t) found)
      → old ≡ xs ++ (p, t) ∷ [] → StillTogether L R gs old found → StillTogether L R gs xs more
  together_popped xs {old} {p} {t} found more m h e still =
      let none : List (Pattern × Tree) = [] in
      together_equal (append-nil xs) (together_next xs none found more m h (together_equal e still))
