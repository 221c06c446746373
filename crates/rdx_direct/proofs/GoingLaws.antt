-- What a walk makes of bindings: nothing where a part has no match, the same where it binds nothing, and in two steps what both bind.
use Rattle.std.proofs.Common.{◌≡◌, ◌∙◌, ◌≤◌, inl, inr, Bool as Truth, true, false, IsTrue, IsFalse, if◌then◌else◌, List, [], ◌∷◌, length, map, drop, ℕ, zero, suc, nat_eq, nat_le, refl, sym, subst, arith}
use Rattle.std.proofs.lemmas.Bool.Decides.{nat_tests}
use Rattle.rdx_lang.proofs.Rest.{rest_none}
use Rattle.std.specs.Prelude.{◌↔◌, not}
use Rattle.rdx_term.specs.Tree.{Tree}
use Rattle.rdx_lang.proofs.Collecting.{In_along, no_member, only}
use Rattle.rdx_lang.proofs.JoinLaws.{one_name-ascends, one_differs-ascends, unit_left, unit_left-only, unit_right, unit_right-only}
use Rattle.rdx_lang.proofs.Joins.{joined_first, joined_last}
use Rattle.rdx_lang.proofs.NameLaws.{match-ascends}
use Rattle.rdx_lang.proofs.RuleSteps.{nt_inside, hide_hole_inside, closed_inside}
use Rattle.rdx_lang.specs.Bindings.{Binding, no_names, one, HasAscendingNames}
use Rattle.rdx_lang.specs.Collecting.{Adds, HasExactly}
use Rattle.rdx_lang.specs.Join.{IsJoin}
use Rattle.rdx_lang.specs.Listing.{IsListing, AllMatches}
use Rattle.rdx_lang.specs.Members.{In, here}
use Rattle.rdx_lang.specs.Order.{binding_cmp}
use Rattle.rdx_lang.specs.Patterns.{Pattern, nt, hide_hole, closed, Language}
use Rattle.rdx_lang.specs.Rules.{Match, AreAlternatives, match_nt, match_hide_hole, match_closed}
use Rattle.rdx_lang.specs.Shown.{binding_of, bindings_of}
use Rattle.rdx_lang.specs.declared.binding.Binding as code
use Rattle.rdx_lang.specs.declared.pattern.Ref.{Ref}
use Rattle.rdx_bind.specs.Searching.{AnyMatches}
use Rattle.rdx_bind.proofs.AcrossRows.{AreMaps}
use Rattle.rdx_bind.proofs.AtomListings.{empty_alone}
use Rattle.rdx_bind.proofs.Gathering.{exactly_as}
use Rattle.rdx_bind.proofs.Namings.{match_under, under_inside}
use Rattle.rdx_bind.specs.Namings.{Naming, binds, differs, under, alone}
use Rattle.rdx_direct.specs.Inside.Going.{Goes, Joins, Fits, Alone}

-- ---- the binding of no name alone

-- where a listing has the binding of no name, or nothing
pub alone_listed : {R : Binding → Type 0} (so : Truth) {bs : List Binding} → bs ≡ (if so then empty_alone else []) → IsListing binding_cmp bs R → Alone R so
alone_listed true {bs} e l = record {
  there = λ h. l.sound no_names (In_along empty_alone bs (sym e) (here refl));
  none_else = λ b r. (refl, only (In_along bs empty_alone e (l.complete b r)));
}
alone_listed false {bs} e l = record { there = λ h. absurd cc; none_else = λ b r. no_member (In_along bs [] e (l.complete b r)) }

-- the same, of a pattern that is equal to one that is listed
pub alone_at : {L : Language} {t : Tree} (p q : Pattern) (so : Truth) → p ≡ q → AllMatches L q t (if so then empty_alone else []) → Alone (Match L p t) so
alone_at {L} {t} p q so e l = subst (λ r. Alone (Match L r t) so) (sym e) (alone_listed so refl l)

module _ {L : Language} where
  -- a nonterminal
  pub alone_nt : {x : Ref} {t : Tree} (ps : List Pattern) (any : Truth) → AreAlternatives L x ps → (IsTrue any ↔ AnyMatches L ps t) → Alone (Match L (nt x) t) any
  alone_nt ps any are f = record {
    there = λ h. let a = f.0 h in match_nt ((are a.pattern).0 a.among) a.matched;
    none_else = λ b m. let i = nt_inside m in (f.1 (record { pattern = i.0.pattern; among = (are i.0.pattern).1 i.0.alternative; binding = i.0.binding; matched = i.0.matched }), i.1);
  }

  -- the same, by whether it matches
  pub nt_alone : {x : Ref} {t : Tree} (any : Truth) → (IsTrue any ↔ Fits L (nt x) t) → Alone (Match L (nt x) t) any
  nt_alone any f = record {
    there = λ h. let g = f.0 h in subst (Match L _ _) (nt_inside g.matched).1 g.matched;
    none_else = λ b m. (f.1 (record { binding = b; matched = m }), (nt_inside m).1);
  }

  -- a closed pattern
  pub alone_closed : {q : Pattern} {t : Tree} (any : Truth) → (IsTrue any ↔ Fits L q t) → Alone (Match L (closed q) t) any
  alone_closed any f = record {
    there = λ h. match_closed (f.0 h).matched;
    none_else = λ b m. let i = closed_inside m in (f.1 (record { binding = i.0.binding; matched = i.0.matched }), i.1);
  }

-- ---- one step

-- where nothing is given nothing comes
pub goes_nowhere : {R : Binding → Type 0} (gs bs : List Binding) → gs ≡ [] → bs ≡ [] → HasExactly bs (Goes R gs)
goes_nowhere gs bs e f = record { sound = λ b i. no_member (In_along bs [] f i); complete = λ b g. no_member (In_along gs [] e g.among) }

-- where R holds of nothing nothing comes
pub goes_none : {R : Binding → Type 0} (gs bs : List Binding) → bs ≡ [] → ((b : Binding) → R b → ⊥) → HasExactly bs (Goes R gs)
goes_none gs bs f n = record { sound = λ b i. no_member (In_along bs [] f i); complete = λ b g. absurd (n g.by.bound g.by.holds) }

-- where R holds of the binding of no name alone, all stay
pub goes_alone : {R : Binding → Type 0} (gs bs : List Binding) (so : Truth) → AreMaps gs → Alone R so → bs ≡ (if so then gs else []) → HasExactly bs (Goes R gs)
goes_alone {R} gs bs true m a e = record {
  sound = λ b i. let j : In b gs = In_along bs gs e i in record { from = b; among = j; by = record { bound = no_names; holds = a.there refl; joined = unit_right b (m b j) } };
  complete = λ b g. In_along gs bs (sym e) (stays b g);
}
  where
    stays : (b : Binding) → Goes R gs b → In b gs
    stays b g =
        let n : g.by.bound ≡ no_names = (a.none_else g.by.bound g.by.holds).1 in
        let j : IsJoin g.from no_names b = subst (λ d. IsJoin g.from d b) n g.by.joined in
        subst (λ c. In c gs) (sym (unit_right-only (m g.from g.among) j)) g.among
goes_alone {R} gs bs false m a e = goes_none gs bs e (λ b r. let k : IsTrue false = (a.none_else b r).0 in absurd cc)

-- where R and S hold of the same
pub goes_as : {R S : Binding → Type 0} (gs bs : List Binding) → ((b : Binding) → R b → S b) → ((b : Binding) → S b → R b) → HasExactly bs (Goes R gs) → HasExactly bs (Goes S gs)
goes_as gs bs f g h =
    exactly_as (λ b r. record { from = r.from; among = r.among; by = record { bound = r.by.bound; holds = f r.by.bound r.by.holds; joined = r.by.joined } })
    (λ b r. record { from = r.from; among = r.among; by = record { bound = r.by.bound; holds = g r.by.bound r.by.holds; joined = r.by.joined } }) h

-- ---- two steps

-- b is joined of one of which R holds and one of which S does
pub record Both (R S : Binding → Type 0) (b : Binding) : Type 0 where
  pub first : Binding
  pub second : Binding
  pub first_holds : R first
  pub second_holds : S second
  pub joined : IsJoin first second b

module _ (R S T : Binding → Type 0) (maps_first : (b : Binding) → R b → HasAscendingNames b) (maps_second : (b : Binding) → S b → HasAscendingNames b)
    (gs found : List Binding) (h : HasExactly found (Goes R gs)) where
  -- what comes by R and then by S comes by both
  pub goes_onward : ((b : Binding) → Both R S b → T b) → (b : Binding) → Goes S found b → Goes T gs b
  goes_onward f b s =
      let r : Goes R gs s.from = h.sound s.from s.among in
      let e = joined_last r.from r.by.bound s.by.bound s.from b (maps_first r.by.bound r.by.holds) (maps_second s.by.bound s.by.holds) r.by.joined s.by.joined in
      record { from = r.from; among = r.among; by = record { bound = e.0; holds = f e.0 (record { first = r.by.bound; second = s.by.bound; first_holds = r.by.holds; second_holds = s.by.holds; joined = e.1 }); joined = e.2 } }

  -- and what comes by both comes by R and then by S
  pub goes_back : AreMaps gs → ((b : Binding) → T b → Both R S b) → (b : Binding) → Goes T gs b → Goes S found b
  goes_back m f b t =
      let k : Both R S t.by.bound = f t.by.bound t.by.holds in
      let e = joined_first t.from k.first k.second t.by.bound b (m t.from t.among) (maps_first k.first k.first_holds) k.joined t.by.joined in
      record {
        from = e.0;
        among = h.complete e.0 (record { from = t.from; among = t.among; by = record { bound = k.first; holds = k.first_holds; joined = e.1 } });
        by = record { bound = k.second; holds = k.second_holds; joined = e.2 };
      }

-- ---- a name

-- a name alone is a finite map
pub alone-ascends : (n : Naming) (t : Tree) → HasAscendingNames (alone n t)
alone-ascends (binds x) t = one_name-ascends x (one t)
alone-ascends (differs x) t = one_differs-ascends x t

module _ {L : Language} where
  -- a pattern with a name: what its part binds, and then the name
  pub goes_under : (n : Naming) {q : Pattern} {t : Tree} (gs found bs : List Binding) → AreMaps gs → HasExactly found (Goes (Match L q t) gs)
      → HasExactly bs (Joins (alone n t) found) → HasExactly bs (Goes (Match L (under n q) t) gs)
  goes_under n {q} {t} gs found bs m h k = record {
    sound = λ b i. onward b (by_name b (k.sound b i));
    complete = λ b g. k.complete b (of_name b (back b g));
  }
    where
      d : Binding
      d = alone n t

      S : Binding → Type 0
      S e = e ≡ d

      map_of : (b : Binding) → S b → HasAscendingNames b
      map_of b e = subst HasAscendingNames (sym e) (alone-ascends n t)

      by_name : (b : Binding) → Joins d found b → Goes S found b
      by_name b j = record { from = j.from; among = j.among; by = record { bound = d; holds = refl; joined = j.by } }

      of_name : (b : Binding) → Goes S found b → Joins d found b
      of_name b g = record { from = g.from; among = g.among; by = subst (λ e. IsJoin g.from e b) g.by.holds g.by.joined }

      onward : (b : Binding) → Goes S found b → Goes (Match L (under n q) t) gs b
      onward = goes_onward (Match L q t) S (Match L (under n q) t) (λ b r. match-ascends r) map_of gs found h
          (λ b k. match_under n k.first_holds (subst (λ e. IsJoin k.first e b) k.second_holds k.joined))

      back : (b : Binding) → Goes (Match L (under n q) t) gs b → Goes S found b
      back = goes_back (Match L q t) S (Match L (under n q) t) (λ b r. match-ascends r) map_of gs found h m
          (λ b r. let i = under_inside n r in record { first = i.inside; second = d; first_holds = i.matched; second_holds = refl; joined = i.joined })

-- ---- from the binding of no name

-- what comes of it is what R holds of
pub goes_first : {R : Binding → Type 0} (gs bs : List Binding) → ((b : Binding) → R b → HasAscendingNames b) → gs ≡ no_names ∷ [] → HasExactly bs (Goes R gs) → HasExactly bs R
goes_first {R} gs bs m e h = exactly_as onward back h
  where
    onward : (b : Binding) → Goes R gs b → R b
    onward b g =
        let f : g.from ≡ no_names = only (In_along gs (no_names ∷ []) e g.among) in
        let j : IsJoin no_names g.by.bound b = subst (λ c. IsJoin c g.by.bound b) f g.by.joined in
        subst R (sym (unit_left-only (m g.by.bound g.by.holds) j)) g.by.holds

    back : (b : Binding) → R b → Goes R gs b
    back b r = record { from = no_names; among = In_along (no_names ∷ []) gs (sym e) (here refl); by = record { bound = b; holds = r; joined = unit_left b (m b r) } }

-- whether there is something of which R holds
pub some_found : {R : Binding → Type 0} (bs : List code.Binding) → (length bs ≡ 0 → ⊥) → HasExactly (bindings_of bs) R → (b : Binding) × R b
some_found [] n h = absurd (n refl)
some_found (b ∷ bs) n h = (binding_of b, h.sound (binding_of b) (here refl))

pub none_found : {R : Binding → Type 0} (bs : List code.Binding) → length bs ≡ 0 → HasExactly (bindings_of bs) R → (b : Binding) → R b → ⊥
none_found [] e h b r = no_member (h.complete b r)
none_found (c ∷ bs) e h b r = absurd (omega arith)

-- whether a pattern matches, by what comes of the binding of no name
pub fits_found : {L : Language} {p : Pattern} {t : Tree} (gs : List Binding) (bs : List code.Binding) (empty : Truth) → gs ≡ no_names ∷ [] → (IsTrue empty ↔ (length bs ≡ 0))
    → HasExactly (bindings_of bs) (Goes (Match L p t) gs) → (IsTrue (not empty) ↔ Fits L p t)
fits_found {L} {p} {t} gs bs empty e f h = (onward empty f, back empty f)
  where
    k : HasExactly (bindings_of bs) (Match L p t)
    k = goes_first gs (bindings_of bs) (λ b r. match-ascends r) e h

    onward : (a : Truth) → (IsTrue a ↔ (length bs ≡ 0)) → IsTrue (not a) → Fits L p t
    onward true g n = absurd cc
    onward false g n = let s = some_found bs (λ z. let w : IsTrue false = g.1 z in absurd cc) k in record { binding = s.0; matched = s.1 }

    back : (a : Truth) → (IsTrue a ↔ (length bs ≡ 0)) → Fits L p t → IsTrue (not a)
    back true g s = absurd (none_found bs (g.0 refl) k s.binding s.matched)
    back false g s = refl

-- ---- whether a pattern matches

-- what matches with the binding of no name alone
pub fits_alone : {L : Language} {p : Pattern} {t : Tree} (so : Truth) → Alone (Match L p t) so → (IsTrue so ↔ Fits L p t)
fits_alone so a = (λ h. record { binding = no_names; matched = a.there h }, λ f. (a.none_else f.binding f.matched).0)

-- a hidden pattern
pub fits_hidden : {L : Language} {p q : Pattern} {t : Tree} (so : Truth) → p ≡ hide_hole q → (IsTrue so ↔ Fits L q t) → (IsTrue so ↔ Fits L p t)
fits_hidden {L} {p} {q} {t} so e f = subst (λ r. (IsTrue so ↔ Fits L r t)) (sym e)
    (λ h. let k = f.0 h in record { binding = k.binding; matched = match_hide_hole k.matched }, λ k. f.1 (record { binding = k.binding; matched = hide_hole_inside k.matched }))

-- what comes of a pattern comes of one that is equal
pub goes_at : {L : Language} {t : Tree} (p q : Pattern) (gs bs : List Binding) → p ≡ q → HasExactly bs (Goes (Match L q t) gs) → HasExactly bs (Goes (Match L p t) gs)
goes_at {L} {t} p q gs bs e h = subst (λ r. HasExactly bs (Goes (Match L r t) gs)) (sym e) h

-- a hidden pattern
pub goes_hidden : {L : Language} {q : Pattern} {t : Tree} (gs bs : List Binding) → HasExactly bs (Goes (Match L q t) gs) → HasExactly bs (Goes (Match L (hide_hole q) t) gs)
goes_hidden gs bs h = goes_as gs bs (λ b m. match_hide_hole m) (λ b m. hide_hole_inside m) h

-- ---- truth values

pub not_true : (a : Truth) → not a ≡ true → a ≡ false
not_true true e = absurd cc
not_true false e = refl

pub not_false : (a : Truth) → not a ≡ false → a ≡ true
not_false true e = refl
not_false false e = absurd cc

-- what is said not to match does not
pub fits_false : {X : Type 0} (a : Truth) → a ≡ false → (IsTrue a ↔ X) → X → ⊥
fits_false a e f x = let h : IsTrue a = f.1 x in absurd cc

-- a test of zero
pub is_zero : (a : Truth) (n : ℕ) → a ≡ nat_eq n 0 → (IsTrue a ↔ (n ≡ 0))
is_zero a n e = (λ h. let k : nat_eq n 0 ≡ true = sym e ∙ h in grind (arith, nat_tests), λ h. let k : nat_eq n 0 ≡ true = grind (arith, nat_tests) in e ∙ k)

-- a rest that has an image without members
pub rest_left : {A B : Type 0} (f : A → B) (xs : List A) (i : ℕ) → map f (drop i xs) ≡ [] → length xs ≤ i
rest_left f [] i e = omega arith
rest_left f (x ∷ xs) zero e = absurd cc
rest_left f (x ∷ xs) (suc i) e = let k : length xs ≤ i = rest_left f xs i e in omega arith

-- behind the last of as many, by a test of the lengths
pub rest_done : {A B : Type 0} (f : A → B) (xs : List A) (i n : ℕ) → i ≡ n → IsTrue (nat_le (length xs) n) → map f (drop i xs) ≡ []
rest_done f xs i n e h = rest_none f xs i (grind (arith, nat_tests))

pub rest_more : {A B : Type 0} (f : A → B) (xs : List A) (i n : ℕ) → i ≡ n → IsFalse (nat_le (length xs) n) → map f (drop i xs) ≡ [] → ⊥
rest_more f xs i n e h k = let l : length xs ≤ i = rest_left f xs i k in absurd (grind (arith, nat_tests))

-- what comes of one binding alone
pub only_joined : (d g : Binding) (gs old new : List Binding) → gs ≡ g ∷ [] → old ≡ [] → Adds (IsJoin g d) old new → HasExactly new (Joins d gs)
only_joined d g gs old new e z a = record {
  sound = λ b i. elim ((a b).0 i) [ inl o ↦ no_member (In_along old [] z o) | inr j ↦ record { from = g; among = In_along (g ∷ []) gs (sym e) (here refl); by = j } ];
  complete = λ b k. (a b).1 (inr (subst (λ h. IsJoin h d b) (only (In_along gs (g ∷ []) e k.among)) k.by));
}
