-- What follows by the rules of a language is Empty, and what is Empty follows.
use Rattle.std.proofs.Common.{◌≡◌, ℕ, zero, suc, ◌<◌, ◌+◌, Bool, true, false, List, [], ◌∷◌, length, replicate, refl, sym, ap, subst, inl, inr, arith, if◌then◌else◌}
use Rattle.std.specs.Cmp.{first_so, second_so}
use Rattle.std.specs.Prelude.{not}
use Rattle.std.proofs.lemmas.Bool.{and_from}
use Rattle.rdx_lang.proofs.LookupLaws.{not_true}
use Rattle.rdx_lang.proofs.MemberLaws.{in-append, append-left, append-right, in-map, map-in}
use Rattle.rdx_lang.specs.Empty.{IsEmpty, empty_hole, empty_nt, empty_named, empty_differ, empty_closed, empty_in_hole, TellsEmpty}
use Rattle.rdx_lang.specs.Members.{In, here, there}
use Rattle.rdx_lang.specs.Patterns.{Pattern, wild, of_kind, except, prefix, hole, lit, nt, named, differ, in_hole, hide_hole, closed, seq, Definition, Language}
use Rattle.rdx_lang.specs.References.{is_among}
use Rattle.rdx_lang.specs.Rules.{IsAlternative}
use Rattle.rdx_lang.specs.WellFormed.{has_known_nonterminals, all_alternatives, defined, IsWellFormed}
use Rattle.rdx_lang.specs.declared.pattern.Ref.{Ref}
use Rattle.rdx_leftrec.specs.Inside.EmptyRules.{Rule, Follows, follows, AreWithin, IsLeast, is_empty_alone, may_be_empty, needs, alternatives_rules, definitions_rules, language_rules, empty_by}
use Rattle.rdx_leftrec.specs.Inside.Leads.{place, places}
use Rattle.rdx_leftrec.specs.Inside.Reach.{IsMarked}
use Rattle.rdx_leftrec.specs.Inside.Lists.{At}
use Rattle.rdx_leftrec.proofs.Lists.{at-in, in-at, at_same, at-length}
use Rattle.rdx_leftrec.proofs.Marks.{marked-inside, marked-replicate}
use Rattle.rdx_leftrec.proofs.Places.{place-at, at-place, inside-place, all_alternatives-in, are_known, in-chosen, chosen-in}

-- ---- what has to be Empty for a pattern to be so

-- a pattern whose nonterminals are there needs such
needs-among : (xs : List Ref) (p : Pattern) (z : Ref) → has_known_nonterminals xs p ≡ true → In z (needs p) → is_among z xs ≡ true
needs-among xs wild z h i = elim i [ ]
needs-among xs (of_kind k) z h i = elim i [ ]
needs-among xs (except rs) z h i = elim i [ ]
needs-among xs (prefix r) z h i = elim i [ ]
needs-among xs hole z h i = elim i [ ]
needs-among xs (lit u) z h i = elim i [ ]
needs-among xs (nt x) z h (here e) = subst (λ (y : Ref). is_among y xs ≡ true) (sym e) h
needs-among xs (nt x) z h (there i) = elim i [ ]
needs-among xs (named x q) z h i = needs-among xs q z h i
needs-among xs (differ x q) z h i = needs-among xs q z h i
needs-among xs (in_hole q r) z h i = elim (in-append (needs q) (needs r) z i) [
  | inl l ↦ needs-among xs q z (first_so (has_known_nonterminals xs q) (has_known_nonterminals xs r) h) l
  | inr l ↦ needs-among xs r z (second_so (has_known_nonterminals xs q) (has_known_nonterminals xs r) h) l
]
needs-among xs (hide_hole q) z h i = elim i [ ]
needs-among xs (closed q) z h i = needs-among xs q z h i
needs-among xs (seq ps) z h i = elim i [ ]

-- a pattern that may be Empty is so where what it needs is
needs-enough : (L : Language) (p : Pattern) → may_be_empty p ≡ true → ((z : Ref) → In z (needs p) → IsEmpty L (nt z)) → IsEmpty L p
needs-enough L wild h f = absurd cc
needs-enough L (of_kind k) h f = absurd cc
needs-enough L (except rs) h f = absurd cc
needs-enough L (prefix r) h f = absurd cc
needs-enough L hole h f = empty_hole
needs-enough L (lit u) h f = absurd cc
needs-enough L (nt x) h f = f x (here refl)
needs-enough L (named x q) h f = empty_named (needs-enough L q h f)
needs-enough L (differ x q) h f = empty_differ (needs-enough L q h f)
needs-enough L (in_hole q r) h f = empty_in_hole
    (needs-enough L q (first_so (may_be_empty q) (may_be_empty r) h) (λ z i. f z (append-left (needs q) (needs r) z i)))
    (needs-enough L r (second_so (may_be_empty q) (may_be_empty r) h) (λ z i. f z (append-right (needs q) (needs r) z i)))
needs-enough L (hide_hole q) h f = absurd cc
needs-enough L (closed q) h f = empty_closed (needs-enough L q h f)
needs-enough L (seq ps) h f = absurd cc

-- ---- the rules of alternatives

-- the rule of a pattern, where i is the place of its nonterminal
abbrev rule : List Ref → ℕ → Pattern → Rule
rule xs i p = (i, places xs (needs p))

-- a member of a list of one
in-one : (r q : Rule) → In r (q ∷ []) → r ≡ q
in-one r q (here e) = e
in-one r q (there k) = elim k [ ]

-- a rule of a list of patterns is that of one of them
from_alternatives : (xs : List Ref) (i : ℕ) (ps : List Pattern) (r : Rule) → In r (alternatives_rules xs i ps) → (p : Pattern) × In p ps × (may_be_empty p ≡ true) × (r ≡ rule xs i p)
from_alternatives xs i [] r h = elim h [ ]
from_alternatives xs i (p ∷ ps) r h = elim (in-append (if may_be_empty p then rule xs i p ∷ [] else []) (alternatives_rules xs i ps) r h) [
  | inl l ↦ let k = in-chosen (may_be_empty p) (rule xs i p ∷ []) r l in (p, here refl, k.0, in-one r (rule xs i p) k.1)
  | inr l ↦ let k = from_alternatives xs i ps r l in (k.0, there k.1, k.2, k.3)
]

-- each pattern that may be Empty has its rule
to_alternatives : (xs : List Ref) (i : ℕ) (ps : List Pattern) (p : Pattern) → In p ps → may_be_empty p ≡ true → In (rule xs i p) (alternatives_rules xs i ps)
to_alternatives xs i [] p h e = elim h [ ]
to_alternatives xs i (q ∷ ps) p (here d) e = append-left (if may_be_empty q then rule xs i q ∷ [] else []) (alternatives_rules xs i ps) (rule xs i p)
    (subst (λ (o : Pattern). In (rule xs i p) (if may_be_empty o then rule xs i o ∷ [] else [])) d (chosen-in (may_be_empty p) (rule xs i p ∷ []) (rule xs i p) e (here refl)))
to_alternatives xs i (q ∷ ps) p (there h) e =
    append-right (if may_be_empty q then rule xs i q ∷ [] else []) (alternatives_rules xs i ps) (rule xs i p) (to_alternatives xs i ps p h e)

-- the rule comes of an alternative of the definition at its place, where i is the place of the first
record IsRuleOf (xs : List Ref) (i : ℕ) (ds : List Definition) (r : Rule) : Type 0 where
  pub behind : ℕ
  pub definition : Definition
  pub at : At ds behind definition
  pub pattern : Pattern
  pub among : In pattern definition.1
  pub may : may_be_empty pattern ≡ true
  pub first : r.0 ≡ i + behind
  pub others : r.1 ≡ places xs (needs pattern)

-- each rule does
from_definitions : (xs : List Ref) (i : ℕ) (ds : List Definition) (r : Rule) → In r (definitions_rules xs i ds) → IsRuleOf xs i ds r
from_definitions xs i [] r h = elim h [ ]
from_definitions xs i (d ∷ ds) r h = elim (in-append (alternatives_rules xs i d.1) (definitions_rules xs (suc i) ds) r h) [
  | inl l ↦
      let k = from_alternatives xs i d.1 r l in
      let e : r.0 ≡ i = ap (λ (q : Rule). q.0) k.3 in
      record { behind = 0; definition = d; at = refl; pattern = k.0; among = k.1; may = k.2; first = omega arith; others = ap (λ (q : Rule). q.1) k.3 }
  | inr l ↦
      let k = from_definitions xs (suc i) ds r l in
      let e : r.0 ≡ suc i + k.behind = k.first in
      record { behind = suc k.behind; definition = k.definition; at = k.at; pattern = k.pattern; among = k.among; may = k.may; first = omega arith; others = k.others }
]

-- and each alternative that may be Empty has one
to_definitions : (xs : List Ref) (i j k : ℕ) (ds : List Definition) (d : Definition) (p : Pattern) → k ≡ i + j → At ds j d → In p d.1 → may_be_empty p ≡ true
    → In (rule xs k p) (definitions_rules xs i ds)
to_definitions xs i j k [] d p f a h e = absurd a
to_definitions xs i zero k (c ∷ ds) d p f a h e = append-left (alternatives_rules xs i c.1) (definitions_rules xs (suc i) ds) (rule xs k p)
    (subst (λ (m : ℕ). In (rule xs m p) (alternatives_rules xs i c.1)) (omega arith) (to_alternatives xs i c.1 p (subst (λ (b : Definition). In p b.1) a h) e))
to_definitions xs i (suc j) k (c ∷ ds) d p f a h e =
    append-right (alternatives_rules xs i c.1) (definitions_rules xs (suc i) ds) (rule xs k p) (to_definitions xs (suc i) j k ds d p (omega arith) a h e)

-- ---- the rules of a language

module _ (L : Language) (w : IsWellFormed L) where
  -- what a rule asks for is defined
  part-defined : (r : Rule) (k : IsRuleOf (defined L) 0 L.nonterminals r) (z : Ref) → In z (needs k.pattern) → (d : Definition) × At L.nonterminals (place z (defined L)) d × (z ≡ d.0)
  part-defined r k z i =
      let f : has_known_nonterminals (defined L) k.pattern ≡ true =
      are_known L k.definition k.pattern w (at-in L.nonterminals k.behind k.definition k.at) k.among in
      at-place L.nonterminals z (needs-among (defined L) k.pattern z f i)

  -- all places in the rules are there
  pub rules-within : AreWithin (language_rules L) (length L.nonterminals)
  rules-within r h = (first, parts)
    where
      k : IsRuleOf (defined L) 0 L.nonterminals r
      k = from_definitions (defined L) 0 L.nonterminals r h

      first : r.0 < length L.nonterminals
      first = let l = at-length L.nonterminals k.behind k.definition k.at in let e : r.0 ≡ 0 + k.behind = k.first in omega arith

      parts : (j : ℕ) → In j r.1 → j < length L.nonterminals
      parts j i =
          let m : (z : Ref) × In z (needs k.pattern) × (j ≡ place z (defined L)) =
          in-map (λ (z : Ref). place z (defined L)) (needs k.pattern) j (subst (λ (js : List ℕ). In j js) k.others i) in
          let d = part-defined r k m.0 m.1 in
          let l = at-length L.nonterminals (place m.0 (defined L)) d.0 d.1 in
          let e : j ≡ place m.0 (defined L) = m.2 in
          omega arith

  -- the nonterminal at the place of a rule is Empty, where those at all its other places are
  rule-empty : (i : ℕ) (js : List ℕ) (d : Definition) → At L.nonterminals i d → In (i, js) (language_rules L)
      → ((j : ℕ) (c : Definition) → In j js → At L.nonterminals j c → IsEmpty L (nt c.0)) → IsEmpty L (nt d.0)
  rule-empty i js d a h f = empty_nt alternative (needs-enough L k.pattern k.may parts)
    where
      k : IsRuleOf (defined L) 0 L.nonterminals (i, js)
      k = from_definitions (defined L) 0 L.nonterminals (i, js) h

      also : At L.nonterminals i k.definition
      also = let e : i ≡ 0 + k.behind = k.first in subst (λ (j : ℕ). At L.nonterminals j k.definition) (omega arith) k.at

      alternative : IsAlternative L d.0 k.pattern
      alternative =
          let e : k.definition ≡ d = at_same L.nonterminals i k.definition d also a in
          record { all = d.1; defined = at-in L.nonterminals i d a; among = subst (λ (c : Definition). In k.pattern c.1) e k.among }

      parts : (z : Ref) → In z (needs k.pattern) → IsEmpty L (nt z)
      parts z l =
          let c = part-defined (i, js) k z l in
          let m : In (place z (defined L)) js = subst (λ (ks : List ℕ). In (place z (defined L)) ks) (sym k.others) (map-in (λ (y : Ref). place y (defined L)) (needs k.pattern) z l) in
          subst (λ (y : Ref). IsEmpty L (nt y)) (sym c.2) (f (place z (defined L)) c.0 m c.1)

  -- the nonterminal at a place that follows is Empty
  follows-empty : (i : ℕ) (d : Definition) → At L.nonterminals i d → Follows (language_rules L) i → IsEmpty L (nt d.0)
  follows-empty i d a (follows {js = js} h f) = rule-empty i js d a h (λ j c l b. follows-empty j c b (f j l))

  -- what a pattern that is Empty needs follows
  record IsMet (p : Pattern) : Type 0 where
    pub may : may_be_empty p ≡ true
    pub each : (z : Ref) → In z (needs p) → Follows (language_rules L) (place z (defined L))

  -- so its nonterminal does
  met-follows : (x : Ref) (p : Pattern) → IsAlternative L x p → IsMet p → Follows (language_rules L) (place x (defined L))
  met-follows x p a m =
      let k : (j : ℕ) × At L.nonterminals j (x, a.all) = in-at L.nonterminals (x, a.all) a.defined in
      let e : place x (defined L) ≡ k.0 = place-at L.nonterminals k.0 (x, a.all) w.distinct k.1 in
      subst (λ (j : ℕ). Follows (language_rules L) j) (sym e)
      (follows {i = k.0} {js = places (defined L) (needs p)} (to_definitions (defined L) 0 k.0 k.0 L.nonterminals (x, a.all) p (omega arith) k.1 a.among m.may) each)
    where
      each : (j : ℕ) → In j (places (defined L) (needs p)) → Follows (language_rules L) j
      each j i =
          let n : (z : Ref) × In z (needs p) × (j ≡ place z (defined L)) = in-map (λ (z : Ref). place z (defined L)) (needs p) j i in
          subst (λ (l : ℕ). Follows (language_rules L) l) (sym n.2) (m.each n.0 n.1)

  -- a nonterminal needs itself alone
  nonterminal-met : (x : Ref) → Follows (language_rules L) (place x (defined L)) → IsMet (nt x)
  nonterminal-met x h = record { may = refl; each = each }
    where
      each : (z : Ref) → In z (x ∷ []) → Follows (language_rules L) (place z (defined L))
      each z (here e) = subst (λ (y : Ref). Follows (language_rules L) (place y (defined L))) (sym e) h
      each z (there i) = elim i [ ]

  -- what is Empty has what it needs
  empty-met : {p : Pattern} → IsEmpty L p → IsMet p
  empty-met empty_hole = record { may = refl; each = λ z i. elim i [ ] }
  empty-met (empty_nt {x = x} {p = p} a h) = nonterminal-met x (met-follows x p a (empty-met h))
  empty-met (empty_named h) = let m = empty-met h in record { may = m.may; each = m.each }
  empty-met (empty_differ h) = let m = empty-met h in record { may = m.may; each = m.each }
  empty-met (empty_closed h) = let m = empty-met h in record { may = m.may; each = m.each }
  empty-met (empty_in_hole {q = q} {r = r} h k) =
      let m = empty-met h in
      let n = empty-met k in
      record {
        may = and_from (may_be_empty q) (may_be_empty r) m.may n.may;
        each = λ z i. elim (in-append (needs q) (needs r) z i) [ inl l ↦ m.each z l | inr l ↦ n.each z l ];
      }

  -- a nonterminal at a marked place is Empty
  marked-empty : (marks : List Bool) → IsLeast (language_rules L) (length L.nonterminals) marks → (x : Ref) → IsMarked marks (place x (defined L)) → IsEmpty L (nt x)
  marked-empty marks l x h =
      let k : place x (defined L) < length marks = marked-inside marks (place x (defined L)) h in
      let z : length marks ≡ length L.nonterminals = l.size in
      let d = inside-place L.nonterminals x (omega arith) in
      subst (λ (y : Ref). IsEmpty L (nt y)) (sym d.2) (follows-empty (place x (defined L)) d.0 d.1 ((l.exact (place x (defined L))).0 h))

  -- where marked are exactly the places that follow, the marks tell which nonterminals are Empty
  pub least-tells : (marks : List Bool) → IsLeast (language_rules L) (length L.nonterminals) marks → TellsEmpty L (empty_by L marks)
  least-tells marks l x = (marked-empty marks l x, λ h. (l.exact (place x (defined L))).1 ((empty-met h).each x (here refl)))

-- ---- a language in which no alternative is Empty by itself

module _ (L : Language) (h : all_alternatives (λ p. not (is_empty_alone p)) L.nonterminals ≡ true) where
  -- no alternative is
  not-alone : (x : Ref) (p : Pattern) → IsAlternative L x p → is_empty_alone p ≡ true → ⊥
  not-alone x p a = not_true (is_empty_alone p) (all_alternatives-in (λ q. not (is_empty_alone q)) L.nonterminals (x, a.all) p h a.defined a.among)

  -- what is Empty is so by itself
  empty-alone : {p : Pattern} → IsEmpty L p → is_empty_alone p ≡ true
  empty-alone empty_hole = refl
  empty-alone (empty_nt {x = x} {p = p} a e) = absurd (not-alone x p a (empty-alone e))
  empty-alone (empty_named e) = empty-alone e
  empty-alone (empty_differ e) = empty-alone e
  empty-alone (empty_closed e) = empty-alone e
  empty-alone (empty_in_hole {q = q} {r = r} e f) = and_from (is_empty_alone q) (is_empty_alone r) (empty-alone e) (empty-alone f)

  -- no nonterminal is Empty
  none-empty : (x : Ref) → IsEmpty L (nt x) → ⊥
  none-empty x e = let f : false ≡ true = empty-alone e in cc

  -- so no marks tell which are
  pub none-tells : (n : ℕ) → TellsEmpty L (empty_by L (replicate n false))
  none-tells n x = (λ m. absurd (marked-replicate n (place x (defined L)) m), λ e. absurd (none-empty x e))
