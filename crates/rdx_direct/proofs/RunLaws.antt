-- What comes of a repetition and the items behind it, one more turn at a time.
use Rattle.std.proofs.Common.{◌≡◌, ◌∙◌, ◌⊎◌, inl, inr, ℕ, ◌++◌, append_assoc, Option, Some, None, List, [], ◌∷◌, length, true, refl, sym, ap, subst, arith}
use Rattle.std.proofs.lemmas.List.{append-nil}
use Rattle.rdx_term.specs.Items.{trees_count}
use Rattle.rdx_term.specs.Tree.{Tree, Trees, cons, trees}
use Rattle.rdx_lang.specs.Singles.{are_single}
use Rattle.rdx_lang.specs.PatternView.{Slot, items_of}
use Rattle.rdx_direct.proofs.PlainLaws.{match-empty}
use Rattle.rdx_term.specs.Tree.{nil as no_trees}
use Rattle.rdx_lang.proofs.Collecting.{In_along, no_member, only}
use Rattle.rdx_lang.proofs.CollectionLaws.{collection-ascends, repetition-ascends, one_collection}
use Rattle.rdx_lang.proofs.JoinLaws.{one_name-ascends, turned_join}
use Rattle.rdx_lang.proofs.MemberLaws.{in-append}
use Rattle.rdx_lang.proofs.NameLaws.{match-names, names-ascend, items-ascends}
use Rattle.rdx_lang.proofs.RuleSteps.{same_length, many_inside, run_at_end, run_at_term, RunParts, ended, turned}
use Rattle.rdx_lang.specs.Ascending.{IsAscending}
use Rattle.rdx_lang.specs.Bindings.{Binding, bound_names, no_names, name_cmp, one_name, len, HasAscendingNames}
use Rattle.rdx_lang.specs.Collections.{IsCollection, IsRepetition, without_length, with_length}
use Rattle.rdx_lang.specs.Collecting.{Adds, HasExactly}
use Rattle.rdx_lang.specs.Join.{IsJoin}
use Rattle.rdx_lang.specs.Members.{In, here}
use Rattle.rdx_lang.specs.Names.{names}
use Rattle.rdx_lang.specs.Patterns.{Pattern, Items, many, Language}
use Rattle.rdx_lang.specs.Rules.{Match, MatchItems, MatchRun, match_many, run_end, run_more}
use Rattle.rdx_bind.proofs.AcrossRows.{AreMaps}
use Rattle.rdx_bind.proofs.Gathering.{exactly_as}
use Rattle.rdx_bind.proofs.Repeating.{never_repeated}
use Rattle.rdx_direct.proofs.GoingLaws.{Both, goes_none, goes_onward, goes_back}
use Rattle.rdx_direct.specs.Inside.Going.{Goes, Joins, Fits, Sole, EndsAt}
use Rattle.rdx_direct.specs.Inside.Plain.{is_plain}

-- ---- what a repetition binds

module _ (xs : List (List ℕ)) (cs : List Binding) (c : Binding) (a : IsAscending name_cmp xs) (f : AreMaps cs) (h : IsCollection xs cs c)
    (gs found : List Binding) (m : AreMaps gs) (k : HasExactly found (Joins c gs)) where
  abbrev S : Binding → Type 0
  S b = b ≡ c

  of_one : HasExactly found (Goes S gs)
  of_one = exactly_as (λ b j. record { from = j.from; among = j.among; by = record { bound = c; holds = refl; joined = j.by } })
      (λ b g. record { from = g.from; among = g.among; by = subst (λ d. IsJoin g.from d b) g.by.holds g.by.joined }) k

  sole : (d : Binding) → IsCollection xs cs d → d ≡ c
  sole d g = one_collection xs cs d c a f g h

  map_of : (b : Binding) → S b → HasAscendingNames b
  map_of b e = subst HasAscendingNames (sym e) (collection-ascends xs cs c a h)

  -- without a length name
  pub goes_collected : (n : Option (List ℕ)) → n ≡ None → HasExactly found (Goes (IsRepetition xs cs n) gs)
  goes_collected n e = subst (λ o. HasExactly found (Goes (IsRepetition xs cs o) gs)) (sym e) (exactly_as
      (λ b g. record { from = g.from; among = g.among; by = record { bound = g.by.bound; holds = without_length (subst (IsCollection xs cs) (sym g.by.holds) h); joined = g.by.joined } })
      (λ b g. record { from = g.from; among = g.among; by = record { bound = g.by.bound; holds = of_none g.by.holds; joined = g.by.joined } }) of_one)
    where
      of_none : {b : Binding} → IsRepetition xs cs None b → S b
      of_none (without_length g) = sole _ g

  -- with one
  pub goes_counted : (n : Option (List ℕ)) (x : List ℕ) (d : Binding) (bs : List Binding) → n ≡ Some x → d ≡ one_name x (len (length cs)) → HasExactly bs (Joins d found) → HasExactly bs (Goes (IsRepetition xs cs n) gs)
  goes_counted n x d bs e g l = subst (λ o. HasExactly bs (Goes (IsRepetition xs cs o) gs)) (sym e) (record {
    sound = λ b i. onward b (by_name b (l.sound b i));
    complete = λ b z. l.complete b (of_name b (back b z));
  })
    where
      R : Binding → Type 0
      R b = b ≡ d

      map_d : (b : Binding) → R b → HasAscendingNames b
      map_d b r = subst HasAscendingNames (sym (r ∙ g)) (one_name-ascends x (len (length cs)))

      by_name : (b : Binding) → Joins d found b → Goes R found b
      by_name b j = record { from = j.from; among = j.among; by = record { bound = d; holds = refl; joined = j.by } }

      of_name : (b : Binding) → Goes R found b → Joins d found b
      of_name b z = record { from = z.from; among = z.among; by = subst (λ y. IsJoin z.from y b) z.by.holds z.by.joined }

      together : (b : Binding) → Both S R b → IsRepetition xs cs (Some x) b
      together b z = with_length h (subst (λ y. IsJoin c y b) (z.second_holds ∙ g) (subst (λ y. IsJoin y z.second b) z.first_holds z.joined))

      apart : (b : Binding) → IsRepetition xs cs (Some x) b → Both S R b
      apart b (with_length {c = y} w j) = record { first = y; second = d; first_holds = sole y w; second_holds = refl; joined = subst (λ z. IsJoin y z b) (sym g) j }

      onward : (b : Binding) → Goes R found b → Goes (IsRepetition xs cs (Some x)) gs b
      onward = goes_onward S R (IsRepetition xs cs (Some x)) map_of map_d gs found of_one together

      back : (b : Binding) → Goes (IsRepetition xs cs (Some x)) gs b → Goes R found b
      back = goes_back S R (IsRepetition xs cs (Some x)) map_of map_d gs found of_one m apart

-- where there is no collection nothing comes
pub goes_uncollected : {xs : List (List ℕ)} {cs : List Binding} {n : Option (List ℕ)} (gs bs : List Binding) → bs ≡ [] → ((c : Binding) → ¬ IsCollection xs cs c) → HasExactly bs (Goes (IsRepetition xs cs n) gs)
goes_uncollected gs bs e n = goes_none gs bs e (never_repeated n)

-- ---- runs

-- the repetition has the turns cs and more in a run from here on, and b is what it binds joined with what the items behind it do
pub record RunsOn (L : Language) (p : Pattern) (n : Option (List ℕ)) (ps : Items) (ts : Trees) (cs : List Binding) (b : Binding) : Type 0 where
  pub more : List Binding
  pub first : Binding
  pub rest : Binding
  pub run : MatchRun L p ps ts more rest
  pub repeats : IsRepetition (names p) (cs ++ more) n first
  pub joined : IsJoin first rest b

-- the same where it has no further turn
abbrev pub EndsHere : Language → Pattern → Option (List ℕ) → Items → Trees → List Binding → Binding → Type 0
EndsHere L p n ps ts cs b = EndsAt L (names p) n ps ts cs b

-- what is found, and what comes of runs from here on, is what comes of all
pub record StillRuns (L : Language) (p : Pattern) (n : Option (List ℕ)) (ps : Items) (all_terms : Trees) (gs : List Binding) (ts : Trees) (cs found : List Binding) : Type 0 where
  pub bound : (b : Binding) → In b cs → bound_names b ≡ names p
  pub onward : (b : Binding) → In b found ⊎ Goes (RunsOn L p n ps ts cs) gs b → Goes (MatchItems L (many p n ps) all_terms) gs b
  pub back : (b : Binding) → Goes (MatchItems L (many p n ps) all_terms) gs b → In b found ⊎ Goes (RunsOn L p n ps ts cs) gs b

-- what holds of R holds of S
goes_map : {R S : Binding → Type 0} (gs : List Binding) → ((b : Binding) → R b → S b) → (b : Binding) → Goes R gs b → Goes S gs b
goes_map gs f b g = record { from = g.from; among = g.among; by = record { bound = g.by.bound; holds = f g.by.bound g.by.holds; joined = g.by.joined } }

-- what comes of one or the other
goes_either : {R S T : Binding → Type 0} (gs : List Binding) → ((b : Binding) → R b → S b ⊎ T b) → (b : Binding) → Goes R gs b → Goes S gs b ⊎ Goes T gs b
goes_either gs f b g = elim (f g.by.bound g.by.holds) [
  | inl h ↦ inl (record { from = g.from; among = g.among; by = record { bound = g.by.bound; holds = h; joined = g.by.joined } })
  | inr h ↦ inr (record { from = g.from; among = g.among; by = record { bound = g.by.bound; holds = h; joined = g.by.joined } })
]

module _ (L : Language) (p : Pattern) (n : Option (List ℕ)) (ps : Items) (all_terms : Trees) (gs : List Binding) where
  -- at the start
  pub runs_start : (cs found : List Binding) → cs ≡ [] → found ≡ [] → StillRuns L p n ps all_terms gs all_terms cs found
  runs_start cs found e f = record {
    bound = λ b i. no_member (In_along cs [] e i);
    onward = λ b. elim [ inl i ↦ no_member (In_along found [] f i) | inr g ↦ goes_map gs (λ d r. match_many r.run (subst (λ ds. IsRepetition (names p) (ds ++ r.more) n r.first) e r.repeats) r.joined) b g ];
    back = λ b g. inr (goes_map gs (λ d m. let i = many_inside m in record { more = i.turns; first = i.first; rest = i.rest; run = i.run; repeats = subst (λ ds. IsRepetition (names p) (ds ++ i.turns) n i.first) (sym e) i.repeats; joined = i.joined }) b g);
  }

  module _ (ts : Trees) (cs : List Binding) where
    -- a run that ends here
    end_here : (b : Binding) → EndsHere L p n ps ts cs b → RunsOn L p n ps ts cs b
    end_here b h = record { more = []; first = h.repeated; rest = h.rest; run = run_end h.rest_matched; repeats = subst (λ ds. IsRepetition (names p) ds n h.repeated) (sym (append-nil cs)) h.repeats; joined = turned_join h.rest h.repeated b h.joined }

    ends_here : (b c d : Binding) → MatchItems L ps ts d → IsRepetition (names p) (cs ++ []) n c → IsJoin c d b → EndsHere L p n ps ts cs b
    ends_here b c d m r j = record { rest = d; repeated = c; rest_matched = m; repeats = subst (λ ds. IsRepetition (names p) ds n c) (append-nil cs) r; joined = turned_join c d b j }

    -- where all further runs end here
    pub runs_last : (found new endings : List Binding) → ((b : Binding) → RunsOn L p n ps ts cs b → EndsHere L p n ps ts cs b) → HasExactly endings (Goes (EndsHere L p n ps ts cs) gs) → Adds (λ b. In b endings) found new
        → StillRuns L p n ps all_terms gs ts cs found → HasExactly new (Goes (MatchItems L (many p n ps) all_terms) gs)
    runs_last found new endings f h a s = record {
      sound = λ b i. s.onward b (elim ((a b).0 i) [ inl o ↦ inl o | inr o ↦ inr (goes_map gs end_here b (h.sound b o)) ]);
      complete = λ b g. (a b).1 (elim (s.back b g) [ inl o ↦ inl o | inr r ↦ inr (h.complete b (goes_map gs f b r)) ]);
    }

  -- at the end
  pub none_further : (cs : List Binding) (ts : Trees) → ts ≡ no_trees → (b : Binding) → RunsOn L p n ps ts cs b → EndsHere L p n ps ts cs b
  none_further cs ts e b r = subst (λ us. EndsHere L p n ps us cs b) (sym e) (at_end r.more r.first r.rest (subst (λ us. MatchRun L p ps us r.more r.rest) e r.run) r.repeats r.joined)
    where
      at_end : (more : List Binding) (c d : Binding) → MatchRun L p ps no_trees more d → IsRepetition (names p) (cs ++ more) n c → IsJoin c d b → EndsHere L p n ps no_trees cs b
      at_end more c d run r j = let k = run_at_end run in ends_here no_trees cs b c d k.1 (subst (λ ds. IsRepetition (names p) (cs ++ ds) n c) k.0 r) j

  -- where p does not match the next term
  pub none_matches : (cs : List Binding) (t : Tree) (ts us : Trees) → us ≡ cons t ts → ((b : Binding) → Match L p t b → ⊥) → (b : Binding) → RunsOn L p n ps us cs b → EndsHere L p n ps us cs b
  none_matches cs t ts us e f b r = subst (λ vs. EndsHere L p n ps vs cs b) (sym e) (at_term r.more r.first r.rest (run_at_term (subst (λ vs. MatchRun L p ps vs r.more r.rest) e r.run)) r.repeats r.joined)
    where
      at_term : (more : List Binding) (c d : Binding) → RunParts L p ps t ts more d → IsRepetition (names p) (cs ++ more) n c → IsJoin c d b → EndsHere L p n ps (cons t ts) cs b
      at_term more c d (ended m) r j = ends_here (cons t ts) cs b c d m r j
      at_term more c d (turned {c = z} m k) r j = absurd (f z m)

  -- behind one turn more
  module _ (cs ds : List Binding) (c : Binding) (t : Tree) (ts : Trees) (g : ds ≡ cs ++ c ∷ []) (h : Sole (Match L p t) c) where
    one_more : (b : Binding) → RunsOn L p n ps ts ds b → RunsOn L p n ps (cons t ts) cs b
    one_more b r = record { more = c ∷ r.more; first = r.first; rest = r.rest; run = run_more h.holds r.run; repeats = subst (λ zs. IsRepetition (names p) zs n r.first) (ap (λ zs. zs ++ r.more) g ∙ append_assoc cs (c ∷ []) r.more) r.repeats; joined = r.joined }

    one_less : (b : Binding) → RunsOn L p n ps (cons t ts) cs b → EndsHere L p n ps (cons t ts) cs b ⊎ RunsOn L p n ps ts ds b
    one_less b r = at_term r.more r.first r.rest (run_at_term r.run) r.repeats r.joined
      where
        at_term : (more : List Binding) (e d : Binding) → RunParts L p ps t ts more d → IsRepetition (names p) (cs ++ more) n e → IsJoin e d b → EndsHere L p n ps (cons t ts) cs b ⊎ RunsOn L p n ps ts ds b
        at_term more e d (ended m) r j = inl (ends_here (cons t ts) cs b e d m r j)
        at_term more e d (turned {c = z} {cs = zs} m k) r j =
            let q : cs ++ z ∷ zs ≡ ds ++ zs = ap (λ y. cs ++ y ∷ zs) (h.alone z m) ∙ sym (append_assoc cs (c ∷ []) zs) ∙ ap (λ ys. ys ++ zs) (sym g) in
            inr (record { more = zs; first = e; rest = d; run = k; repeats = subst (λ ys. IsRepetition (names p) ys n e) q r; joined = j })

    pub runs_next : (us : Trees) (found new endings : List Binding) → us ≡ cons t ts → HasExactly endings (Goes (EndsHere L p n ps us cs) gs) → Adds (λ b. In b endings) found new
        → StillRuns L p n ps all_terms gs us cs found → StillRuns L p n ps all_terms gs ts ds new
    runs_next us found new endings e k a s = record {
      bound = λ b i. elim (in-append cs (c ∷ []) b (In_along ds (cs ++ c ∷ []) g i)) [ inl o ↦ s.bound b o | inr o ↦ ap bound_names (only o) ∙ match-names h.holds ];
      onward = λ b. elim [
        | inl i ↦ elim ((a b).0 i) [ inl o ↦ s.onward b (inl o) | inr o ↦ s.onward b (inr (goes_map gs (end_here us cs) b (k.sound b o))) ]
        | inr r ↦ s.onward b (inr (goes_map gs (λ d z. subst (λ vs. RunsOn L p n ps vs cs d) (sym e) (one_more d z)) b r))
      ];
      back = λ b z. elim (s.back b z) [
        | inl o ↦ inl ((a b).1 (inl o))
        | inr r ↦ elim (goes_either gs (λ d y. one_less d (subst (λ vs. RunsOn L p n ps vs cs d) e y)) b r) [
          | inl w ↦ inl ((a b).1 (inr (k.complete b (goes_map gs (λ d y. subst (λ vs. EndsHere L p n ps vs cs d) (sym e) y) b w))))
          | inr w ↦ inr w
        ]
      ];
    }

  -- what comes of the items behind and then of the repetition
  pub goes_end : (ts : Trees) (cs found bs : List Binding) → AreMaps gs → HasExactly found (Goes (MatchItems L ps ts) gs) → HasExactly bs (Goes (IsRepetition (names p) cs n) found) → HasExactly bs (Goes (EndsHere L p n ps ts cs) gs)
  goes_end ts cs found bs m h k = exactly_as
      (goes_onward (MatchItems L ps ts) (IsRepetition (names p) cs n) (EndsHere L p n ps ts cs) (λ b i. items-ascends i) (λ b i. repetition-ascends (names-ascend p) i) gs found h (λ b z. record { rest = z.first; repeated = z.second; rest_matched = z.first_holds; repeats = z.second_holds; joined = z.joined }))
      (goes_back (MatchItems L ps ts) (IsRepetition (names p) cs n) (EndsHere L p n ps ts cs) (λ b i. items-ascends i) (λ b i. repetition-ascends (names-ascend p) i) gs found h m (λ b z. record { first = z.rest; second = z.repeated; first_holds = z.rest_matched; second_holds = z.repeats; joined = z.joined })) k

  -- where the items behind do not match
  pub goes_no_end : (ts : Trees) (cs bs : List Binding) → bs ≡ [] → ((b : Binding) → MatchItems L ps ts b → ⊥) → HasExactly bs (Goes (EndsHere L p n ps ts cs) gs)
  goes_no_end ts cs bs e f = record { sound = λ b i. no_member (In_along bs [] e i); complete = λ b g. absurd (f g.by.holds.rest g.by.holds.rest_matched) }

-- ---- a repetition that ends, and the items behind it

-- as many trees as there are
pub count_trees : (ts : List Tree) → trees_count (trees ts) ≡ length ts
count_trees [] = refl
count_trees (t ∷ ts) = let k : trees_count (trees ts) ≡ length ts = count_trees ts in omega arith

module _ (L : Language) (xs : List (List ℕ)) (n : Option (List ℕ)) (ps : Items) (ts : Trees) (cs gs : List Binding) where
  -- where the items do not match
  pub ends_none : (bs : List Binding) → bs ≡ [] → ((b : Binding) → MatchItems L ps ts b → ⊥) → HasExactly bs (Goes (EndsAt L xs n ps ts cs) gs)
  ends_none bs e f = record { sound = λ b i. no_member (In_along bs [] e i); complete = λ b g. absurd (f g.by.holds.rest g.by.holds.rest_matched) }

  -- what comes of the items and then of the repetition
  pub ends_from : IsAscending name_cmp xs → AreMaps gs → (found bs : List Binding) → HasExactly found (Goes (MatchItems L ps ts) gs) → HasExactly bs (Goes (IsRepetition xs cs n) found) → HasExactly bs (Goes (EndsAt L xs n ps ts cs) gs)
  ends_from a m found bs h k = exactly_as
      (goes_onward (MatchItems L ps ts) (IsRepetition xs cs n) (EndsAt L xs n ps ts cs) (λ b i. items-ascends i) (λ b i. repetition-ascends a i) gs found h (λ b z. record { rest = z.first; repeated = z.second; rest_matched = z.first_holds; repeats = z.second_holds; joined = z.joined }))
      (goes_back (MatchItems L ps ts) (IsRepetition xs cs n) (EndsAt L xs n ps ts cs) (λ b i. items-ascends i) (λ b i. repetition-ascends a i) gs found h m (λ b z. record { first = z.rest; second = z.repeated; first_holds = z.rest_matched; second_holds = z.repeats; joined = z.joined })) k

-- items that are one term's each do not match another number of terms
pub wrong_length : {L : Language} (slots : List Slot) (ts : List Tree) (b : Binding) → are_single slots ≡ true → (length slots ≡ length ts → ⊥) → MatchItems L (items_of slots) (trees ts) b → ⊥
wrong_length slots ts b a n m = n (sym (sym (count_trees ts) ∙ same_length slots (trees ts) a m))

-- the same by equal names, turns and bindings
pub ends_equal : {L : Language} {n : Option (List ℕ)} {ps : Items} {ts us : Trees} {xs ys : List (List ℕ)} {cs ds gs hs bs : List Binding} → xs ≡ ys → us ≡ ts → cs ≡ ds → gs ≡ hs → HasExactly bs (Goes (EndsAt L xs n ps us cs) gs) → HasExactly bs (Goes (EndsAt L ys n ps ts ds) hs)
ends_equal {L} {n} {ps} {ts} {us} {xs} {ys} {cs} {ds} {gs} {hs} {bs} e u f g h =
    subst (λ z. HasExactly bs (Goes (EndsAt L z n ps ts ds) hs)) e (subst (λ z. HasExactly bs (Goes (EndsAt L xs n ps z ds) hs)) u
    (subst (λ z. HasExactly bs (Goes (EndsAt L xs n ps us z) hs)) f (subst (λ z. HasExactly bs (Goes (EndsAt L xs n ps us cs) z)) g h)))

-- ---- one turn

-- what binds nothing and matches binds the binding of no name alone
pub sole_nothing : {L : Language} {p : Pattern} {t : Tree} {c : Binding} → is_plain p ≡ true → c ≡ no_names → Fits L p t → Sole (Match L p t) c
sole_nothing {L} {p} {t} {c} e f g = record {
  holds = subst (Match L p t) (match-empty e g.matched ∙ sym f) g.matched;
  alone = λ b m. match-empty e m ∙ sym f;
}

-- the only one that was found
pub sole_found : {R : Binding → Type 0} (c : Binding) (bs : List Binding) → bs ≡ c ∷ [] → HasExactly bs R → Sole R c
sole_found c bs e h = record { holds = h.sound c (In_along (c ∷ []) bs (sym e) (here refl)); alone = λ b r. only (In_along bs (c ∷ []) e (h.complete b r)) }
