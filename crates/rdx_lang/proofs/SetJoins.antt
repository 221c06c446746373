-- Sets of mismatch names joined: there is one join at most, and one exactly where no name has a term in both; and three of them have the same
-- join however they are grouped.
use Rattle.std.proofs.Common.{◌≡◌, ◌⊎◌, inl, inr, List, [], ◌++◌, sym, ◌∙◌, ap, subst}
use Rattle.rdx_lang.specs.Bindings.{Mismatch, Unlike, unlike, AreSets}
use Rattle.rdx_lang.specs.Join.{AreApart, JoinsSets}
use Rattle.rdx_lang.specs.Members.{In}
use Rattle.rdx_lang.proofs.Finite.{sorted, listed}
use Rattle.rdx_lang.proofs.MemberLaws.{in-append, append-left, append-right}
use Rattle.rdx_lang.proofs.OrderLaws.{fixed_by_members}
use Rattle.rdx_lang.proofs.SetLists.{unlike_cmp, unlike_cmp-total, unlike_cmp-tells, unlike-ascends, unlike-sets_in, sets_in, sets_in-unlike, sets_in-are_sets}

-- sets with the same members are equal
pub same_sets : (ms ns : List Mismatch) → AreSets ms → AreSets ns → ((u : Unlike) → In u (unlike ms) → In u (unlike ns))
    → ((u : Unlike) → In u (unlike ns) → In u (unlike ms)) → ms ≡ ns
same_sets ms ns a b f g =
    let e : unlike ms ≡ unlike ns = fixed_by_members unlike_cmp unlike_cmp-total (unlike ms) (unlike ns) (unlike-ascends ms a) (unlike-ascends ns b) f g in
    sym (sets_in-unlike ms a) ∙ ap sets_in e ∙ sets_in-unlike ns b

-- what one join has another has
within : (ms ns ls ks : List Mismatch) → JoinsSets ms ns ls → JoinsSets ms ns ks → (u : Unlike) → In u (unlike ls) → In u (unlike ks)
within ms ns ls ks j k u h = elim (j.sound u h) [ inl l ↦ k.left u l | inr r ↦ k.right u r ]

-- joins of the same sets are equal
pub one_sets_join : (ms ns ls ks : List Mismatch) → JoinsSets ms ns ls → JoinsSets ms ns ks → ls ≡ ks
one_sets_join ms ns ls ks j k = same_sets ls ks j.sets k.sets (within ms ns ls ks j k) (within ms ns ks ls k j)

-- the order of two makes no difference to their join
pub turned_sets : (ms ns ls : List Mismatch) → JoinsSets ms ns ls → JoinsSets ns ms ls
turned_sets ms ns ls j = record {
  sets = j.sets;
  sound = λ u i. elim (j.sound u i) [ inl l ↦ inr l | inr r ↦ inl r ];
  left = j.right;
  right = j.left;
  apart = λ u i k. j.apart u k i;
}

-- no sets, joined with others, are these
pub no_sets_left : (ms : List Mismatch) → AreSets ms → JoinsSets [] ms ms
no_sets_left ms a = record {
  sets = a;
  sound = λ u i. inr i;
  left = λ u i. elim i [ ];
  right = λ u i. i;
  apart = λ u i k. elim i [ ];
}

-- so are sets, joined with none
pub no_sets_right : (ms : List Mismatch) → AreSets ms → JoinsSets ms [] ms
no_sets_right ms a = turned_sets [] ms ms (no_sets_left ms a)

-- the terms of both are those of some sets
pub both_sets : (ms ns : List Mismatch) → (ls : List Mismatch) × AreSets ls
    × ((u : Unlike) → In u (unlike ls) → In u (unlike ms) ⊎ In u (unlike ns))
    × ((u : Unlike) → In u (unlike ms) ⊎ In u (unlike ns) → In u (unlike ls))
both_sets ms ns =
    let all : List Unlike = unlike ms ++ unlike ns in
    let us : List Unlike = sorted unlike_cmp unlike_cmp-total unlike_cmp-tells all in
    let l = listed unlike_cmp unlike_cmp-total unlike_cmp-tells (λ (u : Unlike). In u all)
    (record { members = all; sound = λ u i. i; complete = λ u i. i }) in
    let e : unlike (sets_in us) ≡ us = unlike-sets_in us in (
      sets_in us,
      sets_in-are_sets us l.ascending,
      λ u i. in-append (unlike ms) (unlike ns) u (l.sound u (subst (λ (vs : List Unlike). In u vs) e i)),
      λ u h. subst (λ (vs : List Unlike). In u vs) (sym e) (l.complete u (elim h [
        | inl i ↦ append-left (unlike ms) (unlike ns) u i
        | inr i ↦ append-right (unlike ms) (unlike ns) u i
      ])),
    )

-- sets that are apart have a join
pub sets_join : (ms ns : List Mismatch) → AreApart ms ns → (ls : List Mismatch) × JoinsSets ms ns ls
sets_join ms ns g =
    let k = both_sets ms ns in
    (k.0, record { sets = k.1; sound = k.2; left = λ u i. k.3 u (inl i); right = λ u i. k.3 u (inr i); apart = g })

-- ---- three of them

-- the first with the join of the others: then so has the join of the first two with the third
pub sets_first : (ms ns ls ks js : List Mismatch) → JoinsSets ns ls ks → JoinsSets ms ks js
    → (hs : List Mismatch) × JoinsSets ms ns hs × JoinsSets hs ls js
sets_first ms ns ls ks js j l = (e.0, e.1, record { sets = l.sets; sound = sound; left = left; right = λ u i. l.right u (j.right u i); apart = apart })
  where
    e : (hs : List Mismatch) × JoinsSets ms ns hs
    e = sets_join ms ns (λ u i k. l.apart u i (j.left u k))

    sound : (u : Unlike) → In u (unlike js) → In u (unlike e.0) ⊎ In u (unlike ls)
    sound u i = elim (l.sound u i) [ inl m ↦ inl (e.1.left u m) | inr m ↦ elim (j.sound u m) [ inl n ↦ inl (e.1.right u n) | inr n ↦ inr n ] ]

    left : (u : Unlike) → In u (unlike e.0) → In u (unlike js)
    left u i = elim (e.1.sound u i) [ inl m ↦ l.left u m | inr m ↦ l.right u (j.left u m) ]

    apart : (u : Unlike) → In u (unlike e.0) → In u (unlike ls) → ⊥
    apart u i k = elim (e.1.sound u i) [ inl m ↦ l.apart u m (j.right u k) | inr m ↦ j.apart u m k ]

-- and the other way
pub sets_last : (ms ns ls hs js : List Mismatch) → JoinsSets ms ns hs → JoinsSets hs ls js
    → (ks : List Mismatch) × JoinsSets ns ls ks × JoinsSets ms ks js
sets_last ms ns ls hs js j l =
    let k = sets_first ls ns ms hs js (turned_sets ms ns hs j) (turned_sets hs ls js l) in
    (k.0, turned_sets ls ns k.0 k.1, turned_sets k.0 ms js k.2)
