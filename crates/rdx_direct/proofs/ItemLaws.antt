-- A walk over the items of a list pattern, from the first on.
use Rattle.std.proofs.Common.{◌≡◌, ◌∙◌, Bool as Truth, true, false, IsTrue, IsFalse, if◌then◌else◌, None, List, [], ◌∷◌, refl, sym, ap, subst}
use Rattle.std.proofs.lemmas.Bool.{and_parts}
use Rattle.std.specs.Prelude.{◌↔◌}
use Rattle.rdx_term.specs.Tree.{Tree, Trees, cons, trees, list}
use Rattle.rdx_term.specs.Tree.{nil as no_trees}
use Rattle.rdx_lang.proofs.Collecting.{In_along, no_member}
use Rattle.rdx_lang.proofs.JoinLaws.{none_left}
use Rattle.rdx_lang.proofs.NameLaws.{match-ascends, items-ascends}
use Rattle.rdx_lang.proofs.RuleSteps.{item_inside, none_inside, list_inside, many_inside, run_at_term, RunParts, ended, turned}
use Rattle.rdx_lang.specs.Bindings.{Binding, no_names}
use Rattle.rdx_lang.specs.Collecting.{HasExactly}
use Rattle.rdx_lang.specs.Patterns.{Pattern, Items, nil, one, many, seq, Language}
use Rattle.rdx_lang.specs.Rules.{Match, MatchItems, MatchRun, match_none, match_one, match_seq}
use Rattle.rdx_bind.proofs.AcrossRows.{AreMaps}
use Rattle.rdx_bind.proofs.Gathering.{exactly_as}
use Rattle.rdx_direct.proofs.GoingLaws.{goes_onward, goes_back, goes_alone, goes_none}
use Rattle.rdx_direct.proofs.PlainLaws.{nothing_bound, one_turn_more, no_turn_more}
use Rattle.rdx_direct.specs.Inside.Going.{Goes, Alone, Fits, FitAll}
use Rattle.rdx_direct.specs.Inside.Plain.{is_plain, are_plain}

-- whatever ps bind at ts beside what is found, all items bind at all terms beside what was given
pub record StillGoes (L : Language) (all : Items) (all_terms : Trees) (gs : List Binding) (ps : Items) (ts : Trees) (found : List Binding) : Type 0 where
  pub onward : (b : Binding) → Goes (MatchItems L ps ts) found b → Goes (MatchItems L all all_terms) gs b
  pub back : (b : Binding) → Goes (MatchItems L all all_terms) gs b → Goes (MatchItems L ps ts) found b

-- no items match no terms, and nothing else
pub alone_end : {L : Language} (ts : List Tree) (so : Truth) → (IsTrue so → ts ≡ []) → (IsFalse so → ts ≡ [] → ⊥) → Alone (MatchItems L nil (trees ts)) so
alone_end {L} [] true f g = record { there = λ h. match_none; none_else = λ b m. (refl, none_inside m) }
alone_end {L} [] false f g = absurd (g refl refl)
alone_end {L} (t ∷ ts) true f g = let e : t ∷ ts ≡ [] = f refl in absurd cc
alone_end {L} (t ∷ ts) false f g = record { there = λ h. absurd cc; none_else = λ b m. elim m [ ] }

-- an item matches no end
pub no_term : {L : Language} {p : Pattern} {ps : Items} {b : Binding} → MatchItems L (one p ps) no_trees b → ⊥
no_term m = elim m [ ]

module _ {L : Language} (all : Items) (all_terms : Trees) (gs : List Binding) where
  -- at the start
  pub still_start : StillGoes L all all_terms gs all all_terms gs
  still_start = record { onward = λ b g. g; back = λ b g. g }

  -- behind one item more
  pub still_next : {p : Pattern} {ps qs : Items} {t : Tree} {ts us : Trees} (found more : List Binding) → AreMaps found → qs ≡ one p ps → us ≡ cons t ts
      → HasExactly more (Goes (Match L p t) found) → StillGoes L all all_terms gs qs us found → StillGoes L all all_terms gs ps ts more
  still_next {p} {ps} {qs} {t} {ts} {us} found more m e f h s = record {
    onward = λ b g. s.onward b (along b (goes_onward (Match L p t) (MatchItems L ps ts) (MatchItems L (one p ps) (cons t ts)) (λ c r. match-ascends r) (λ c r. items-ascends r) found more h
        (λ c k. match_one k.first_holds k.second_holds k.joined) b g));
    back = λ b g. goes_back (Match L p t) (MatchItems L ps ts) (MatchItems L (one p ps) (cons t ts)) (λ c r. match-ascends r) (λ c r. items-ascends r) found more h m
        (λ c r. let i = item_inside r in record { first = i.first; second = i.rest; first_holds = i.first_matched; second_holds = i.rest_matched; joined = i.joined }) b (against b (s.back b g));
  }
    where
      along : (b : Binding) → Goes (MatchItems L (one p ps) (cons t ts)) found b → Goes (MatchItems L qs us) found b
      along b g = subst (λ x. Goes (MatchItems L x us) found b) (sym e) (subst (λ x. Goes (MatchItems L (one p ps) x) found b) (sym f) g)

      against : (b : Binding) → Goes (MatchItems L qs us) found b → Goes (MatchItems L (one p ps) (cons t ts)) found b
      against b g = subst (λ x. Goes (MatchItems L (one p ps) x) found b) f (subst (λ x. Goes (MatchItems L x us) found b) e g)

  -- whatever has exactly what comes of the rest has what comes of all
  pub still_end : {ps : Items} {ts : Trees} (found bs : List Binding) → StillGoes L all all_terms gs ps ts found → HasExactly bs (Goes (MatchItems L ps ts) found) → HasExactly bs (Goes (MatchItems L all all_terms) gs)
  still_end found bs s h = exactly_as s.onward s.back h

  -- where nothing is found any more
  pub still_nothing : {ps : Items} {ts : Trees} (found bs : List Binding) → found ≡ [] → bs ≡ [] → StillGoes L all all_terms gs ps ts found → HasExactly bs (Goes (MatchItems L all all_terms) gs)
  still_nothing found bs e f s = still_end found bs s (record { sound = λ b i. no_member (In_along bs [] f i); complete = λ b g. no_member (In_along found [] e g.among) })

-- ---- a list pattern

module _ {L : Language} where
  -- a list pattern at a list
  pub goes_list : {ps : Items} {ts : Trees} (gs bs : List Binding) (t : Tree) (m : _) → t ≡ list m ts → HasExactly bs (Goes (MatchItems L ps ts) gs) → HasExactly bs (Goes (Match L (seq ps) t) gs)
  goes_list {ps} {ts} gs bs t m e h = subst (λ u. HasExactly bs (Goes (Match L (seq ps) u) gs)) (sym e)
      (exactly_as (λ b r. record { from = r.from; among = r.among; by = record { bound = r.by.bound; holds = match_seq r.by.holds; joined = r.by.joined } })
      (λ b r. record { from = r.from; among = r.among; by = record { bound = r.by.bound; holds = list_inside r.by.holds; joined = r.by.joined } }) h)

-- ---- whether items match

-- where all bind nothing, ps match ts only if all match; and only if ps match some way do all
pub record StillFits (L : Language) (all : Items) (all_terms : Trees) (ps : Items) (ts : Trees) : Type 0 where
  pub plain : are_plain all ≡ true → are_plain ps ≡ true
  pub some : are_plain all ≡ true → MatchItems L ps ts no_names → MatchItems L all all_terms no_names
  pub none : ((b : Binding) → MatchItems L ps ts b → ⊥) → (b : Binding) → MatchItems L all all_terms b → ⊥

module _ {L : Language} (all : Items) (all_terms : Trees) where
  -- at the start
  pub fits_start : StillFits L all all_terms all all_terms
  fits_start = record { plain = λ e. e; some = λ e m. m; none = λ n b m. n b m }

  -- behind an item that matches
  pub fits_next : {p : Pattern} {ps qs : Items} {t : Tree} {ts us : Trees} → qs ≡ one p ps → us ≡ cons t ts → Fits L p t → StillFits L all all_terms qs us → StillFits L all all_terms ps ts
  fits_next {p} {ps} {qs} {t} {ts} {us} e f i s = record {
    plain = λ n. (apart n).1;
    some = λ n m. s.some n (along no_names (match_one (nothing_bound (apart n).0 i.matched) m none_left));
    none = λ n b m. s.none (λ c k. let j = item_inside (against c k) in n j.rest j.rest_matched) b m;
  }
    where
      apart : are_plain all ≡ true → (is_plain p ≡ true) × (are_plain ps ≡ true)
      apart n = and_parts (is_plain p) (are_plain ps) (ap are_plain (sym e) ∙ s.plain n)

      along : (b : Binding) → MatchItems L (one p ps) (cons t ts) b → MatchItems L qs us b
      along b g = subst (λ x. MatchItems L x us b) (sym e) (subst (λ x. MatchItems L (one p ps) x b) (sym f) g)

      against : (b : Binding) → MatchItems L qs us b → MatchItems L (one p ps) (cons t ts) b
      against b g = subst (λ x. MatchItems L (one p ps) x b) f (subst (λ x. MatchItems L x us b) e g)

  -- an item that does not match
  pub fits_not : {p : Pattern} {ps qs : Items} {t : Tree} {ts us : Trees} → qs ≡ one p ps → us ≡ cons t ts → (Fits L p t → ⊥) → StillFits L all all_terms qs us → FitAll L all all_terms false
  fits_not {p} {ps} {qs} {t} {ts} {us} e f n s = record {
    some = λ h. absurd cc;
    none = λ h b m. s.none (λ c k.
        let j = item_inside (subst (λ x. MatchItems L (one p ps) x c) f (subst (λ x. MatchItems L x us c) e k)) in n (record { binding = j.first; matched = j.first_matched })) b m;
  }

  -- an item with no term
  pub fits_short : {p : Pattern} {ps qs : Items} {us : Trees} → qs ≡ one p ps → us ≡ no_trees → StillFits L all all_terms qs us → FitAll L all all_terms false
  fits_short {p} {ps} {qs} {us} e f s = record {
    some = λ h. absurd cc;
    none = λ h b m. s.none (λ c k. no_term (subst (λ x. MatchItems L (one p ps) x c) f (subst (λ x. MatchItems L x us c) e k))) b m;
  }

  -- at the end
  pub fits_end : {qs : Items} (ts : List Tree) (so : Truth) → qs ≡ nil → (IsTrue so → ts ≡ []) → (IsFalse so → ts ≡ [] → ⊥) → StillFits L all all_terms qs (trees ts) → FitAll L all all_terms so
  fits_end {qs} ts so e f g s =
      let a : Alone (MatchItems L qs (trees ts)) so = subst (λ x. Alone (MatchItems L x (trees ts)) so) (sym e) (alone_end ts so f g) in record {
        some = λ h n. s.some n (a.there h);
        none = λ h b m. s.none (λ c k. let w : IsTrue so = (a.none_else c k).0 in absurd cc) b m;
      }

-- what is known of the items that are left is known of all
pub fits_rest : {L : Language} (all : Items) (all_terms : Trees) {qs : Items} {us : Trees} (so : Truth) → StillFits L all all_terms qs us → FitAll L qs us so → FitAll L all all_terms so
fits_rest all all_terms so s f = record { some = λ h n. s.some n (f.some h (s.plain n)); none = λ h b m. s.none (λ c k. f.none h c k) b m }

-- ---- whether each of the terms that a repetition has is matched

-- where p binds nothing, a run through the terms that are left goes through all; and only if one does do they have a run
pub record StillRun (L : Language) (p : Pattern) (all_terms ts : Trees) : Type 0 where
  pub some : is_plain p ≡ true → MatchItems L (many p None nil) ts no_names → MatchItems L (many p None nil) all_terms no_names
  pub none : ((cs : List Binding) (d : Binding) → MatchRun L p nil ts cs d → ⊥) → (cs : List Binding) (d : Binding) → MatchRun L p nil all_terms cs d → ⊥

module _ {L : Language} {p : Pattern} where
  -- at the start
  pub run_start : (ts : Trees) → StillRun L p ts ts
  run_start ts = record { some = λ e m. m; none = λ n cs d r. n cs d r }

  -- behind a term that is matched
  pub run_next : (all_terms : Trees) {t : Tree} {ts us : Trees} → us ≡ cons t ts → Fits L p t → StillRun L p all_terms us → StillRun L p all_terms ts
  run_next all_terms {t} {ts} {us} e f s = record {
    some = λ n m. s.some n (subst (λ x. MatchItems L (many p None nil) x no_names) (sym e) (one_turn_more n refl f.matched m));
    none = λ n cs d r. s.none (λ ds g k. no_turn n (run_at_term (subst (λ x. MatchRun L p nil x ds g) e k))) cs d r;
  }
    where
      no_turn : ((cs : List Binding) (d : Binding) → MatchRun L p nil ts cs d → ⊥) → {cs : List Binding} {d : Binding} → RunParts L p nil t ts cs d → ⊥
      no_turn n (ended k) = elim k [ ]
      no_turn n (turned {d = d} {cs = cs} h r) = n cs d r

  -- a term that is not matched
  pub run_not : (all_terms : Trees) {t : Tree} {ts us : Trees} → us ≡ cons t ts → (Fits L p t → ⊥) → StillRun L p all_terms us → FitAll L (many p None nil) all_terms false
  run_not all_terms {t} {ts} {us} e f s = record {
    some = λ h. absurd cc;
    none = λ h b m. let i = many_inside m in s.none (λ cs d r. no_turn (run_at_term (subst (λ x. MatchRun L p nil x cs d) e r))) i.turns i.rest i.run;
  }
    where
      no_turn : {cs : List Binding} {d : Binding} → RunParts L p nil t ts cs d → ⊥
      no_turn (ended k) = elim k [ ]
      no_turn (turned {c = c} h r) = f (record { binding = c; matched = h })

  -- behind the last term
  pub run_done : (all_terms : Trees) {us : Trees} → us ≡ no_trees → StillRun L p all_terms us → FitAll L (many p None nil) all_terms true
  run_done all_terms {us} e s = record {
    some = λ h n. let q = (and_parts (is_plain p) true n).0 in s.some q (subst (λ x. MatchItems L (many p None nil) x no_names) (sym e) (no_turn_more q refl match_none));
    none = λ h. absurd cc;
  }

-- ---- the ends of the walk over items

module _ {L : Language} (all : Items) (all_terms : Trees) (gs : List Binding) where
  -- an item with no term
  pub still_short : {p : Pattern} {ps qs : Items} {us : Trees} (found bs : List Binding) → qs ≡ one p ps → us ≡ no_trees → bs ≡ [] → StillGoes L all all_terms gs qs us found → HasExactly bs (Goes (MatchItems L all all_terms) gs)
  still_short {p} {ps} {qs} {us} found bs e f g s = still_end all all_terms gs found bs s
      (goes_none found bs g (λ b m. no_term (subst (λ x. MatchItems L (one p ps) x b) f (subst (λ x. MatchItems L x us b) e m))))

  -- behind the last item
  pub still_done : {qs : Items} (found bs : List Binding) (ts : List Tree) (so : Truth) → AreMaps found → qs ≡ nil → (IsTrue so → ts ≡ []) → (IsFalse so → ts ≡ [] → ⊥)
      → bs ≡ (if so then found else []) → StillGoes L all all_terms gs qs (trees ts) found → HasExactly bs (Goes (MatchItems L all all_terms) gs)
  still_done {qs} found bs ts so m e f g h s = still_end all all_terms gs found bs s
      (goes_alone found bs so m (subst (λ x. Alone (MatchItems L x (trees ts)) so) (sym e) (alone_end ts so f g)) h)

-- whether a list pattern matches, by its items
module _ {L : Language} {ps : Items} {ts : Trees} (t : Tree) (m : _) (e : t ≡ list m ts) where
  -- where they bind nothing
  pub list_fits : (so : Truth) → are_plain ps ≡ true → FitAll L ps ts so → (IsTrue so ↔ Fits L (seq ps) t)
  list_fits so n f = (λ a. record { binding = no_names; matched = subst (λ u. Match L (seq ps) u no_names) (sym e) (match_seq (f.some a n)) }, λ k. all so f (inside k))
    where
      inside : Fits L (seq ps) t → (b : Binding) × MatchItems L ps ts b
      inside k = (k.binding, list_inside (subst (λ u. Match L (seq ps) u k.binding) e k.matched))

      all : (a : Truth) → FitAll L ps ts a → ((b : Binding) × MatchItems L ps ts b) → IsTrue a
      all true g k = refl
      all false g k = absurd (g.none refl k.0 k.1)

  -- where it is so, and they bind nothing, it does
  pub fit_list : (so : Truth) → so ≡ true → are_plain ps ≡ true → FitAll L ps ts so → (IsTrue true ↔ Fits L (seq ps) t)
  fit_list so h n f = subst (λ a. IsTrue a ↔ Fits L (seq ps) t) h (list_fits so n f)

  -- and where it is not so, it does not, whatever they bind
  pub unfit_list : (so : Truth) → so ≡ false → FitAll L ps ts so → (IsTrue false ↔ Fits L (seq ps) t)
  unfit_list so h f = (λ a. absurd cc, λ k. absurd (f.none h k.binding (list_inside (subst (λ u. Match L (seq ps) u k.binding) e k.matched))))
