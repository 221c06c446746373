-- What names have in a state, as far as they come again; and bindings that say the same.
use Rattle.std.proofs.lemmas.Bool.{false_from_ne_true}
use Rattle.std.proofs.lemmas.Option.{same_Some}
use Rattle.std.proofs.Common.{arith, inl, inr, ◌⊎◌, ◌≡◌, ℕ, ◌+◌, ◌<◌, ◌++◌, Bool, true, false, List, [], ◌∷◌, refl, sym, ap, ◌∙◌, subst, Option, Some, None, true≢false}
use Rattle.std.specs.Prelude.{bytes_eq, if◌then◌else◌}
use Rattle.rdx_lang.specs.Bindings.{Value, one, many, len, Mismatch, Binding, no_names, bound_names, HasAscendingNames}
use Rattle.rdx_lang.specs.Join.{JoinsSets, IsJoin}
use Rattle.rdx_lang.specs.Members.{In}
use Rattle.rdx_lang.specs.Patterns.{Pattern, Language}
use Rattle.rdx_lang.specs.Rules.{Match, is_one_of}
use Rattle.rdx_lang.proofs.JoinLaws.{bound_names-member}
use Rattle.rdx_lang.proofs.Joins.{pairs_join}
use Rattle.rdx_lang.proofs.MemberLaws.{append-left, append-right}
use Rattle.rdx_lang.proofs.SetJoins.{no_sets_left}
use Rattle.rdx_term.specs.Tree.{Tree}
use Rattle.rdx_gen.specs.Generation.{Notes, with_term, with_length, had_or_new, new_length, length_of, is_hollow}
use Rattle.rdx_gen.specs.NameRules.{Place, places, times}
use Rattle.rdx_gen.specs.Outcomes.{State, made, found_for}
use Rattle.rdx_gen.proofs.AtomsFit.{Steady, steady}
use Rattle.rdx_gen.proofs.NamesStand.{same_name, name_same, times-append, some_place, HaveNoMismatch, counted_left, counted_right, twice, under}
use Rattle.rdx_gen.proofs.WhatCame.{came, moved, none_is_some}

-- ---- what stands beside a name

-- the first of two that there is
abbrev or_found : {A : Type 0} → Option A → Option A → Option A
or_found None b = b
or_found (Some x) b = Some x

found_in_first : {A : Type 0} (b : Bool) (v : A) (o p : Option A) → (if b then Some v else or_found o p) ≡ or_found (if b then Some v else o) p
found_in_first true v o p = refl
found_in_first false v o p = refl

-- behind a pair that is put last
found_behind : {A : Type 0} (x w : List ℕ) (v : A) (ps : List (List ℕ × A))
    → found_for w (ps ++ (x, v) ∷ []) ≡ or_found (found_for w ps) (if bytes_eq x w then Some v else None)
found_behind x w v [] = refl
found_behind x w v (p ∷ ps) = ap (λ z. if bytes_eq p.0 w then Some p.1 else z) (found_behind x w v ps)
    ∙ found_in_first (bytes_eq p.0 w) p.1 (found_for w ps) (if bytes_eq x w then Some v else None)

-- what was found stays
stays_found : {A : Type 0} (x w : List ℕ) (v u : A) (ps : List (List ℕ × A)) → found_for w ps ≡ Some u → found_for w (ps ++ (x, v) ∷ []) ≡ Some u
stays_found x w v u ps e = found_behind x w v ps ∙ ap (λ z. or_found z (if bytes_eq x w then Some v else None)) e

-- the pair is found, where there was none
is_found : {A : Type 0} (x : List ℕ) (v : A) (ps : List (List ℕ × A)) → found_for x ps ≡ None → found_for x (ps ++ (x, v) ∷ []) ≡ Some v
is_found x v ps e = found_behind x x v ps ∙ ap (λ z. or_found z (if bytes_eq x x then Some v else None)) e ∙ ap (λ b. if b then Some v else None) (name_same x x refl)

-- another name has what it had
others_stay : {A : Type 0} (x w : List ℕ) (v : A) (ps : List (List ℕ × A)) → bytes_eq x w ≡ false → found_for w (ps ++ (x, v) ∷ []) ≡ found_for w ps
others_stay x w v ps e = found_behind x w v ps ∙ ap (λ b. or_found (found_for w ps) (if b then Some v else None)) e ∙ none_more (found_for w ps)
  where
    none_more : {A : Type 0} (o : Option A) → or_found o None ≡ o
    none_more None = refl
    none_more (Some u) = refl

-- ---- what a binding says, and what a state has

-- x has this value in the state; K tells which names are length names
abbrev pub IsStated : (List ℕ → Bool) → State → List ℕ → Value → Type 0
IsStated K s x (one t) = (K x ≡ false) × (found_for x s.terms ≡ Some t)
IsStated K s x (many vs) = ⊥
IsStated K s x (len k) = (K x ≡ true) × (found_for x s.lengths ≡ Some k)

one_stated : (K : List ℕ → Bool) (s : State) (x : List ℕ) (v w : Value) → IsStated K s x v → IsStated K s x w → v ≡ w
one_stated K s x (one t) (one u) h k = ap one (same_Some t u (sym h.1 ∙ k.1))
one_stated K s x (one t) (many vs) h k = absurd k
one_stated K s x (one t) (len n) h k = absurd (true≢false (sym k.0 ∙ h.0))
one_stated K s x (many vs) w h k = absurd h
one_stated K s x (len m) (one u) h k = absurd (true≢false (sym h.0 ∙ k.0))
one_stated K s x (len m) (many vs) h k = absurd k
one_stated K s x (len m) (len n) h k = ap len (same_Some m n (sym h.1 ∙ k.1))

-- b has no mismatch names, and its names that come again have there what b binds them to
pub record Stated (K : List ℕ → Bool) (o : Notes) (s : State) (b : Binding) : Type 0 where
  pub plain : b.differs ≡ []
  pub names : (x : List ℕ) (v : Value) → In (x, v) b.pairs → is_one_of o.again x ≡ true → IsStated K s x v

-- so is what binds nothing
pub nothing_stated : (K : List ℕ → Bool) (o : Notes) (s : State) → Stated K o s no_names
nothing_stated K o s = record { plain = refl; names = λ x v i a. elim i [ ] }

-- a later state: what was found is found, and only names that come again and have a place among these have something new
pub record Later (o : Notes) (us : List Place) (s z : State) : Type 0 where
  pub terms : (x : List ℕ) (t : Tree) → found_for x s.terms ≡ Some t → found_for x z.terms ≡ Some t
  pub lengths : (x : List ℕ) (k : ℕ) → found_for x s.lengths ≡ Some k → found_for x z.lengths ≡ Some k
  pub changed : (x : List ℕ) → (found_for x z.terms ≡ found_for x s.terms) ⊎ ((is_one_of o.again x ≡ true) × (0 < times x us))

pub later_steady : (o : Notes) (us : List Place) (s z : State) → Steady s z → Later o us s z
later_steady o us s z h = record {
  terms = λ x t e. ap (found_for x) h.terms ∙ e;
  lengths = λ x k e. ap (found_for x) h.lengths ∙ e;
  changed = λ x. inl (ap (found_for x) h.terms);
}

pub later_wider : (o : Notes) (us vs : List Place) (s z : State) → ((x : List ℕ) → 0 < times x us → 0 < times x vs) → Later o us s z → Later o vs s z
later_wider o us vs s z f l = record { terms = l.terms; lengths = l.lengths; changed = λ x. elim (l.changed x) [ inl e ↦ inl e | inr h ↦ inr (h.0, f x h.1) ] }

pub later_both : (o : Notes) (us : List Place) (r s z : State) → Later o us r s → Later o us s z → Later o us r z
later_both o us r s z l m = record {
  terms = λ x t e. m.terms x t (l.terms x t e);
  lengths = λ x k e. m.lengths x k (l.lengths x k e);
  changed = λ x. elim (m.changed x) [ inl e ↦ elim (l.changed x) [ inl d ↦ inl (e ∙ d) | inr h ↦ inr h ] | inr h ↦ inr h ];
}

pub later_parts : (o : Notes) (us vs : List Place) (r s z : State) → Later o us r s → Later o vs s z → Later o (us ++ vs) r z
later_parts o us vs r s z l m = later_both o (us ++ vs) r s z (later_wider o us (us ++ vs) r s (λ x h. counted_left x us vs h) l)
    (later_wider o vs (us ++ vs) s z (λ x h. counted_right x us vs h) m)

value_on : (K : List ℕ → Bool) (o : Notes) (us : List Place) (s z : State) (x : List ℕ) (v : Value) → Later o us s z → IsStated K s x v → IsStated K z x v
value_on K o us s z x (one t) l h = (h.0, l.terms x t h.1)
value_on K o us s z x (many vs) l h = h
value_on K o us s z x (len k) l h = (h.0, l.lengths x k h.1)

pub stated_on : (K : List ℕ → Bool) (o : Notes) (us : List Place) (s z : State) (b : Binding) → Later o us s z → Stated K o s b → Stated K o z b
stated_on K o us s z b l h = record { plain = h.plain; names = λ x v i a. value_on K o us s z x v l (h.names x v i a) }

-- names that don't come again have nothing to say
pub alone_stated : (K : List ℕ → Bool) (o : Notes) (s : State) (b : Binding) → b.differs ≡ [] → ((x : List ℕ) → In x (bound_names b) → is_one_of o.again x ≡ false) → Stated K o s b
alone_stated K o s b e f = record { plain = e; names = λ x v i a. absurd (true≢false (sym a ∙ f x (bound_names-member (x, v) b i))) }

-- ---- joins

-- a join, which says what the state has
pub record Joined (K : List ℕ → Bool) (o : Notes) (s : State) (c d : Binding) : Type 0 where
  pub binding : Binding
  pub is_join : IsJoin c d binding
  pub stated : Stated K o s binding

-- no sets, joined with none, are none
no_sets : (ms ns : List Mismatch) → ms ≡ [] → ns ≡ [] → JoinsSets ms ns []
no_sets ms ns e f = subst (λ (ls : List Mismatch). JoinsSets ls ns []) (sym e) (subst (λ (ls : List Mismatch). JoinsSets [] ls []) (sym f) (no_sets_left [] (tt, tt)))

-- two bindings that do have one, where the names of both come again
pub join_stated : (K : List ℕ → Bool) (o : Notes) (s : State) (c d : Binding) → HasAscendingNames c → HasAscendingNames d
    → ((x : List ℕ) → In x (bound_names c) → In x (bound_names d) → is_one_of o.again x ≡ true) → Stated K o s c → Stated K o s d → Joined K o s c d
join_stated K o s c d a b f h k =
    let j = pairs_join c.pairs d.pairs a.0 b.0 (λ x v w i l.
    let g = f x (bound_names-member (x, v) c i) (bound_names-member (x, w) d l) in one_stated K s x v w (h.names x v i g) (k.names x w l g)) in
    record {
      binding = record { pairs = j.0; differs = [] };
      is_join = record { pairs = j.1; differs = no_sets c.differs d.differs h.plain k.plain };
      stated = record { plain = refl; names = λ x v i g. elim (j.1.sound (x, v) i) [ inl l ↦ h.names x v l g | inr r ↦ k.names x v r g ] };
    }

-- ---- parts of a pattern

-- None of all is a place of a mismatch name. What holds of the places of names that come again among all: no two have different patterns, none is
-- under an ellipsis or on the left of an `in-hole`, and K tells their kind
pub record Rules (K : List ℕ → Bool) (o : Notes) (all : List Place) : Type 0 where
  pub no_mismatch : HaveNoMismatch all
  pub same : (u v : Place) → In u all → In v all → u.name ≡ v.name → is_one_of o.again u.name ≡ true → u.is_length ≡ false → u.part ≡ v.part
  pub outside : (u : Place) → In u all → is_one_of o.again u.name ≡ true → (u.repeated ≡ false) × (u.left ≡ false)
  pub kind : (u : Place) → In u all → is_one_of o.again u.name ≡ true → K u.name ≡ u.is_length

-- places of all, in which a name that has two comes again
pub record Part (o : Notes) (all us : List Place) : Type 0 where
  pub within : (u : Place) → In u us → In u all
  pub apart : (x : List ℕ) → 1 < times x us → is_one_of o.again x ≡ true

pub part_left : (o : Notes) (all us vs : List Place) → Part o all (us ++ vs) → Part o all us
part_left o all us vs P = record {
  within = λ u i. P.within u (append-left us vs u i);
  apart = λ x h. P.apart x (let e = times-append x us vs in omega (arith, e, h));
}

pub part_right : (o : Notes) (all us vs : List Place) → Part o all (us ++ vs) → Part o all vs
part_right o all us vs P = record {
  within = λ u i. P.within u (append-right us vs u i);
  apart = λ x h. P.apart x (let e = times-append x us vs in omega (arith, e, h));
}

pub common : (o : Notes) (all us vs : List Place) → Part o all (us ++ vs) → (x : List ℕ) → 0 < times x us → 0 < times x vs → is_one_of o.again x ≡ true
common o all us vs P x h k = P.apart x (twice x us vs h k)

-- none of the names with these places comes again
abbrev pub Alone : Notes → List Place → Type 0
Alone o us = (x : List ℕ) → 0 < times x us → is_one_of o.again x ≡ false

pub alone_left : (o : Notes) (us vs : List Place) → Alone o (us ++ vs) → Alone o us
alone_left o us vs A = λ x h. A x (counted_left x us vs h)

pub alone_right : (o : Notes) (us vs : List Place) → Alone o (us ++ vs) → Alone o vs
alone_right o us vs A = λ x h. A x (counted_right x us vs h)

-- so it is under an ellipsis
pub alone_repeated : (K : List ℕ → Bool) (o : Notes) (all : List Place) (l : Bool) (p : Pattern) → Rules K o all → Part o all (places true l p) → Alone o (places true l p)
alone_repeated K o all l p R P x h = false_from_ne_true (is_one_of o.again x) (λ a.
    let u = some_place x (places true l p) h in
    let k = R.outside u.0 (P.within u.0 u.1) (ap (is_one_of o.again) u.2 ∙ a) in
    true≢false (sym ((under true l p u.0 u.1).0 refl) ∙ k.0))

-- and on the left of an `in-hole`
pub alone_before : (K : List ℕ → Bool) (o : Notes) (all : List Place) (r : Bool) (p : Pattern) → Rules K o all → Part o all (places r true p) → Alone o (places r true p)
alone_before K o all r p R P x h = false_from_ne_true (is_one_of o.again x) (λ a.
    let u = some_place x (places r true p) h in
    let k = R.outside u.0 (P.within u.0 u.1) (ap (is_one_of o.again) u.2 ∙ a) in
    true≢false (sym ((under r true p u.0 u.1).1 refl) ∙ k.1))

-- ---- terms that are kept

-- u matches the pattern, and binds what the state has
pub record Fitted (L : Language) (K : List ℕ → Bool) (o : Notes) (q : Pattern) (u : Tree) (s : State) : Type 0 where
  pub binding : Binding
  pub fit : Match L q u binding
  pub stated : Stated K o s binding

-- the terms that names have match the patterns at all places of these names
abbrev pub Kept : Language → (List ℕ → Bool) → Notes → List Place → State → Type 0
Kept L K o all s = (x : List ℕ) (u : Tree) → is_one_of o.again x ≡ true → found_for x s.terms ≡ Some u
    → (v : Place) → In v all → v.name ≡ x → Fitted L K o v.part u s

fitted_on : (L : Language) (K : List ℕ → Bool) (o : Notes) (us : List Place) (q : Pattern) (u : Tree) (s z : State) → Later o us s z → Fitted L K o q u s → Fitted L K o q u z
fitted_on L K o us q u s z l f = record { binding = f.binding; fit = f.fit; stated = stated_on K o us s z f.binding l f.stated }

-- so they do in a later state, where no name has another one
pub kept_on : (L : Language) (K : List ℕ → Bool) (o : Notes) (all us : List Place) (s z : State) → Later o us s z
    → ((x : List ℕ) → found_for x z.terms ≡ found_for x s.terms) → Kept L K o all s → Kept L K o all z
kept_on L K o all us s z l f k = λ x u a e v i n. fitted_on L K o us v.part u s z l (k x u a (sym (f x) ∙ e) v i n)

pub kept_steady : (L : Language) (K : List ℕ → Bool) (o : Notes) (all : List Place) (s z : State) → Steady s z → Kept L K o all s → Kept L K o all z
kept_steady L K o all s z h k = kept_on L K o all [] s z (later_steady o [] s z h) (λ x. ap (found_for x) h.terms) k

-- ---- a name that gets a term

module _ (L : Language) (K : List ℕ → Bool) (o : Notes) (all : List Place) (R : Rules K o all) (u : Place) (i : In u all) (again : is_one_of o.again u.name ≡ true)
    (term : u.is_length ≡ false) (t : Tree) (s : State) (free : found_for u.name s.terms ≡ None) where
  pub later_named : (us : List Place) → Later o (u ∷ us) s (with_term u.name t s)
  later_named us = record {
    terms = λ x v e. stays_found u.name x t v s.terms e;
    lengths = λ x k e. e;
    changed = λ x. by x (bytes_eq u.name x) refl;
  }
    where
      positive : (b : Bool) (n : ℕ) → b ≡ true → 0 < (if b then n + 1 else n)
      positive true n e = omega arith
      positive false n e = absurd (true≢false (sym e))

      by : (x : List ℕ) (b : Bool) → bytes_eq u.name x ≡ b
          → (found_for x (with_term u.name t s).terms ≡ found_for x s.terms) ⊎ ((is_one_of o.again x ≡ true) × (0 < times x (u ∷ us)))
      by x true e = inr (ap (is_one_of o.again) (sym (same_name u.name x e)) ∙ again, positive (bytes_eq u.name x) (times x us) e)
      by x false e = inl (others_stay u.name x t s.terms e)

  pub stated_named : IsStated K (with_term u.name t s) u.name (one t)
  stated_named = (R.kind u i again ∙ term, is_found u.name t s.terms free)

  pub kept_named : Fitted L K o u.part t s → Kept L K o all s → Kept L K o all (with_term u.name t s)
  kept_named f k = λ x w a e v j n. by x w a v j n (bytes_eq u.name x) refl e
    where
      moved_part : (v : Place) → In v all → v.name ≡ u.name → Fitted L K o v.part t (with_term u.name t s)
      moved_part v j n = subst (λ (q : Pattern). Fitted L K o q t (with_term u.name t s)) (R.same u v i j (sym n) again term)
          (fitted_on L K o (u ∷ []) u.part t s (with_term u.name t s) (later_named []) f)

      by : (x : List ℕ) (w : Tree) → is_one_of o.again x ≡ true → (v : Place) → In v all → v.name ≡ x → (b : Bool) → bytes_eq u.name x ≡ b
          → found_for x (with_term u.name t s).terms ≡ Some w → Fitted L K o v.part w (with_term u.name t s)
      by x w a v j n true e d =
          let m : u.name ≡ x = same_name u.name x e in
          let q : t ≡ w = same_Some t w (sym (is_found u.name t s.terms free) ∙ ap (λ (y : List ℕ). found_for y (with_term u.name t s).terms) m ∙ d) in
          subst (λ (y : Tree). Fitted L K o v.part y (with_term u.name t s)) q (moved_part v j (n ∙ sym m))
      by x w a v j n false e d =
          fitted_on L K o (u ∷ []) v.part w s (with_term u.name t s) (later_named []) (k x w a (sym (others_stay u.name x t s.terms e) ∙ d) v j n)

-- ---- lengths

-- a new length changes nothing that names have
pub new_steady : (b : Bool) (size k : ℕ) (s y : State) → new_length b size s ≡ made k y → Steady s y
new_steady true size k s y e = moved (λ j z. Steady s z) 0 k s y e (steady s)
new_steady false size k s y e = moved (λ j z. Steady s z) _ k _ y e (record { terms = refl; lengths = refl })

-- a length, and what its name has behind it
pub record Measured (L : Language) (K : List ℕ → Bool) (o : Notes) (all us : List Place) (x : Option (List ℕ)) (k : ℕ) (s y : State) : Type 0 where
  pub later : Later o us s y
  pub kept : Kept L K o all s → Kept L K o all y
  pub value : (n : List ℕ) → x ≡ Some n → is_one_of o.again n ≡ true → found_for n y.lengths ≡ Some k

module _ (L : Language) (K : List ℕ → Bool) (o : Notes) (all us : List Place) where
  measured_steady : (x : Option (List ℕ)) (k : ℕ) (s y : State) → Steady s y → ((n : List ℕ) → x ≡ Some n → is_one_of o.again n ≡ true → found_for n y.lengths ≡ Some k)
      → Measured L K o all us x k s y
  measured_steady x k s y h f = record { later = later_steady o us s y h; kept = kept_steady L K o all s y h; value = f }

  had_or_new_fit : (f : Option ℕ) (x : List ℕ) (b : Bool) (size k : ℕ) (s y : State) → found_for x s.lengths ≡ f → had_or_new f x b size s ≡ made k y
      → Measured L K o all us (Some x) k s y
  had_or_new_fit (Some m) x b size k s y f e = moved (λ j z. Measured L K o all us (Some x) j s z) m k s y e
      (measured_steady (Some x) m s s (steady s) (λ n d a. ap (λ (w : List ℕ). found_for w s.lengths) (sym (same_Some x n d)) ∙ f))
  had_or_new_fit None x b size k s y f e =
      let w = came (new_length b size s) (λ j z. made j (with_length x j z)) k y e in
      let h = new_steady b size w.value s w.state w.first in
      moved (λ j z. Measured L K o all us (Some x) j s z) w.value k (with_length x w.value w.state) y w.second (record {
        later = record {
          terms = λ z t d. ap (found_for z) h.terms ∙ d;
          lengths = λ z j d. stays_found x z w.value j w.state.lengths (ap (found_for z) h.lengths ∙ d);
          changed = λ z. inl (ap (found_for z) h.terms);
        };
        kept = λ g. kept_on L K o all us s (with_length x w.value w.state) (record {
          terms = λ z t d. ap (found_for z) h.terms ∙ d;
          lengths = λ z j d. stays_found x z w.value j w.state.lengths (ap (found_for z) h.lengths ∙ d);
          changed = λ z. inl (ap (found_for z) h.terms);
        }) (λ z. ap (found_for z) h.terms) g;
        value = λ n d a. ap (λ (v : List ℕ). found_for v (w.state.lengths ++ (x, w.value) ∷ [])) (sym (same_Some x n d))
            ∙ is_found x w.value w.state.lengths (ap (found_for x) h.lengths ∙ f);
      })

  by_again : (a : Bool) (x : List ℕ) (b : Bool) (size k : ℕ) (s y : State) → is_one_of o.again x ≡ a
      → (if a then had_or_new (found_for x s.lengths) x b size s else new_length b size s) ≡ made k y → Measured L K o all us (Some x) k s y
  by_again true x b size k s y a e = had_or_new_fit (found_for x s.lengths) x b size k s y refl e
  by_again false x b size k s y a e = measured_steady (Some x) k s y (new_steady b size k s y e)
      (λ n d h. absurd (true≢false (sym h ∙ ap (is_one_of o.again) (sym (same_Some x n d)) ∙ a)))

  pub measured : (h : Option ℕ) (x : Option (List ℕ)) (size k : ℕ) (s y : State) → length_of o h x size s ≡ made k y → Measured L K o all us x k s y
  measured h None size k s y e = measured_steady None k s y (new_steady (is_hollow o h None) size k s y e) (λ n d a. none_is_some n _ d)
  measured h (Some x) size k s y e = by_again (is_one_of o.again x) x (is_hollow o h (Some x)) size k s y refl e
