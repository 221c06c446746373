-- Whether a language is left-recursive can be decided: either no nonterminal reaches itself, or there is a first that does.
use Rattle.std.proofs.Common.{◌≡◌, Bool, true, false, ◌⊎◌, inl, inr, List, [], ◌∷◌, ◌++◌, refl, sym, ap, subst, if◌then◌else◌}
use Rattle.rdx_lang.specs.Edges.{Edge, edge_nt, edge_named, edge_differ, edge_hide_hole, edge_closed, edge_left, edge_right, Reaches, at_once, further, IsRecursive, IsFree}
use Rattle.rdx_lang.specs.Empty.{is_empty, TellsEmpty}
use Rattle.rdx_lang.specs.Laws.{HasFirstRecursive, FreeOrRecursive}
use Rattle.rdx_lang.specs.Members.{In, here, there}
use Rattle.rdx_lang.specs.Patterns.{Pattern, wild, of_kind, except, prefix, hole, lit, nt, named, differ, in_hole, hide_hole, closed, seq, Definition, Language}
use Rattle.rdx_lang.specs.Rules.{IsAlternative}
use Rattle.rdx_lang.specs.References.{is_same}
use Rattle.rdx_lang.specs.declared.pattern.Ref.{Ref}
use Rattle.rdx_lang.proofs.Emptiness.{is_empty-exact, empty_is_decided}
use Rattle.rdx_lang.proofs.LeftEdges.{reaches_on}
use Rattle.rdx_lang.proofs.LookupLaws.{is_same-equal, equal-is_same}
use Rattle.rdx_lang.proofs.MemberLaws.{in-append, append-left, append-right}

-- ---- what can be decided

-- it holds, or it does not
abbrev pub Decided : Type 0 → Type 0
Decided P = P ⊎ ¬ P

-- one of two
either : {P Q : Type 0} → Decided P → Decided Q → Decided (P ⊎ Q)
either (inl p) e = inl (inl p)
either (inr n) (inl q) = inl (inr q)
either (inr n) (inr m) = inr (λ h. elim h [ inl p ↦ n p | inr q ↦ m q ])

-- both of two
both : {P Q : Type 0} → Decided P → Decided Q → Decided (P × Q)
both (inl p) (inl q) = inl (p, q)
both (inl p) (inr m) = inr (λ h. m h.1)
both (inr n) e = inr (λ h. n h.0)

-- what is the same as what is decided
as_well : {P Q : Type 0} → (P → Q) → (Q → P) → Decided P → Decided Q
as_well f g (inl p) = inl (f p)
as_well f g (inr n) = inr (λ q. n (g q))

-- two nonterminals are one, by the test
pub same-by : (x y : Ref) (b : Bool) → is_same x y ≡ b → Decided (x ≡ y)
same-by x y true e = inl (is_same-equal x y e)
same-by x y false e = inr (λ f. let g = equal-is_same x y f in absurd cc)

-- the first of a list, or one behind it
from_either : (x y : Ref) (ys : List Ref) → (x ≡ y) ⊎ In x ys → In x (y ∷ ys)
from_either x y ys (inl e) = here e
from_either x y ys (inr i) = there i

to_either : (x y : Ref) (ys : List Ref) → In x (y ∷ ys) → (x ≡ y) ⊎ In x ys
to_either x y ys (here e) = inl e
to_either x y ys (there i) = inr i

-- a nonterminal is a member of a list, or not
member : (x : Ref) (ys : List Ref) → Decided (In x ys)
member x [] = inr (λ h. elim h [ ])
member x (y ∷ ys) = as_well (from_either x y ys) (to_either x y ys) (either (same-by x y (is_same x y) refl) (member x ys))

-- ---- what a pattern leads to by left edges, before an alternative is taken

-- what is among these where the test says so
counted : (b : Bool) (xs : List Ref) (z : Ref) → In z (if b then xs else []) → (b ≡ true) × In z xs
counted true xs z i = (refl, i)
counted false xs z i = elim i [ ]

to_counted : (b : Bool) (xs : List Ref) (z : Ref) → b ≡ true → In z xs → In z (if b then xs else [])
to_counted true xs z e i = i
to_counted false xs z e i = absurd cc

module _ (E : Ref → Bool) where
  -- the nonterminals to which it leads, where E tells which ones are Empty
  abbrev leads : Pattern → List Ref
  leads wild = []
  leads (of_kind k) = []
  leads (except rs) = []
  leads (prefix r) = []
  leads hole = []
  leads (lit t) = []
  leads (nt x) = x ∷ []
  leads (named x q) = leads q
  leads (differ x q) = leads q
  leads (in_hole q r) = leads q ++ (if is_empty E q then leads r else [])
  leads (hide_hole q) = leads q
  leads (closed q) = leads q
  leads (seq ps) = []

  -- to those to which the patterns of a list lead
  abbrev all_leads : List Pattern → List Ref
  all_leads [] = []
  all_leads (p ∷ ps) = leads p ++ all_leads ps

  -- one of the patterns leads to it
  record FromPattern (ps : List Pattern) (z : Ref) : Type 0 where
    pub pattern : Pattern
    pub among : In pattern ps
    pub lead : In z (leads pattern)

  from_pattern : (ps : List Pattern) (z : Ref) → In z (all_leads ps) → FromPattern ps z
  from_pattern [] z i = elim i [ ]
  from_pattern (p ∷ ps) z i = elim (in-append (leads p) (all_leads ps) z i) [
    | inl j ↦ record { pattern = p; among = here refl; lead = j }
    | inr j ↦ let f = from_pattern ps z j in record { pattern = f.pattern; among = there f.among; lead = f.lead }
  ]

  to_pattern : (ps : List Pattern) (p : Pattern) (z : Ref) → In p ps → In z (leads p) → In z (all_leads ps)
  to_pattern [] p z i j = elim i [ ]
  to_pattern (q ∷ ps) p z (here e) j = append-left (leads q) (all_leads ps) z (subst (λ (r : Pattern). In z (leads r)) e j)
  to_pattern (q ∷ ps) p z (there i) j = append-right (leads q) (all_leads ps) z (to_pattern ps p z i j)

  -- ---- steps between nonterminals

  -- what the definition leads to, where it is one of x
  abbrev steps_by : Bool → Definition → List Ref
  steps_by true d = all_leads d.1
  steps_by false d = []

  -- the nonterminals to which the alternatives of x lead
  abbrev steps : List Definition → Ref → List Ref
  steps [] x = []
  steps (d ∷ ds) x = steps_by (is_same x d.0) d ++ steps ds x

  -- a definition of x among these leads to it
  record FromDefinition (ds : List Definition) (x y : Ref) : Type 0 where
    pub patterns : List Pattern
    pub defined : In (x, patterns) ds
    pub lead : In y (all_leads patterns)

  from_one : (d : Definition) (ds : List Definition) (x y : Ref) (b : Bool) → is_same x d.0 ≡ b → In y (steps_by b d) → FromDefinition (d ∷ ds) x y
  from_one d ds x y true e i = record { patterns = d.1; defined = here (λ j. (is_same-equal x d.0 e j, d.1)); lead = i }
  from_one d ds x y false e i = elim i [ ]

  from_definition : (ds : List Definition) (x y : Ref) → In y (steps ds x) → FromDefinition ds x y
  from_definition [] x y i = elim i [ ]
  from_definition (d ∷ ds) x y i = elim (in-append (steps_by (is_same x d.0) d) (steps ds x) y i) [
    | inl j ↦ from_one d ds x y (is_same x d.0) refl j
    | inr j ↦ let f = from_definition ds x y j in record { patterns = f.patterns; defined = there f.defined; lead = f.lead }
  ]

  to_one : (d : Definition) (x y : Ref) (ps : List Pattern) → (x, ps) ≡ d → In y (all_leads ps) → In y (steps_by (is_same x d.0) d)
  to_one d x y ps e i = by_test (is_same x d.0) (equal-is_same x d.0 (ap (λ (c : Definition). c.0) e))
    where
      by_test : (b : Bool) → b ≡ true → In y (steps_by b d)
      by_test true f = subst (λ (c : Definition). In y (all_leads c.1)) e i
      by_test false f = absurd cc

  to_definition : (ds : List Definition) (x y : Ref) (ps : List Pattern) → In (x, ps) ds → In y (all_leads ps) → In y (steps ds x)
  to_definition [] x y ps h i = elim h [ ]
  to_definition (d ∷ ds) x y ps (here e) i = append-left (steps_by (is_same x d.0) d) (steps ds x) y (to_one d x y ps e i)
  to_definition (d ∷ ds) x y ps (there h) i = append-right (steps_by (is_same x d.0) d) (steps ds x) y (to_definition ds x y ps h i)

-- ---- names

-- the nonterminals of definitions
abbrev names : List Definition → List Ref
names [] = []
names (d ∷ ds) = d.0 ∷ names ds

-- a nonterminal with a definition is one of them
in-names : (ds : List Definition) (x : Ref) (ps : List Pattern) → In (x, ps) ds → In x (names ds)
in-names [] x ps h = elim h [ ]
in-names (d ∷ ds) x ps (here e) = here (ap (λ (c : Definition). c.0) e)
in-names (d ∷ ds) x ps (there h) = there (in-names ds x ps h)

-- ---- paths by way of some nonterminals

module _ (L : Language) (E : Ref → Bool) (e : TellsEmpty L E) where
  -- an alternative of x leads to y
  abbrev Step : Ref → Ref → Type 0
  Step x y = In y (steps E L.nonterminals x)

  -- steps lead from x to y, by way of these alone
  abbrev Via : List Ref → Ref → Ref → Type 0
  Via [] x y = Step x y
  Via (z ∷ zs) x y = Via zs x y ⊎ (Via zs x z × Via zs z y)

  -- that can be decided
  via-decided : (zs : List Ref) (x y : Ref) → Decided (Via zs x y)
  via-decided [] x y = member y (steps E L.nonterminals x)
  via-decided (z ∷ zs) x y = either (via-decided zs x y) (both (via-decided zs x z) (via-decided zs z y))

  -- a pattern is a nonterminal to which it leads, or left edges lead to one
  leads-reach : (p : Pattern) (y : Ref) (q : Pattern) → Edge L q p → In y (leads E p) → Reaches L q (nt y)
  leads-reach wild y q d i = elim i [ ]
  leads-reach (of_kind k) y q d i = elim i [ ]
  leads-reach (except rs) y q d i = elim i [ ]
  leads-reach (prefix r) y q d i = elim i [ ]
  leads-reach hole y q d i = elim i [ ]
  leads-reach (lit t) y q d i = elim i [ ]
  leads-reach (nt x) y q d (here f) = subst (λ (z : Ref). Reaches L q (nt z)) (sym f) (at_once d)
  leads-reach (nt x) y q d (there i) = elim i [ ]
  leads-reach (named x p) y q d i = further d (leads-reach p y (named x p) edge_named i)
  leads-reach (differ x p) y q d i = further d (leads-reach p y (differ x p) edge_differ i)
  leads-reach (in_hole p r) y q d i = elim (in-append (leads E p) (if is_empty E p then leads E r else []) y i) [
    | inl j ↦ further d (leads-reach p y (in_hole p r) edge_left j)
    | inr j ↦
        let k = counted (is_empty E p) (leads E r) y j in
        further d (leads-reach r y (in_hole p r) (edge_right ((is_empty-exact L E e p).0 k.0)) k.1)
  ]
  leads-reach (hide_hole p) y q d i = further d (leads-reach p y (hide_hole p) edge_hide_hole i)
  leads-reach (closed p) y q d i = further d (leads-reach p y (closed p) edge_closed i)
  leads-reach (seq ps) y q d i = elim i [ ]

  -- a step goes along left edges
  step-reaches : (x y : Ref) → Step x y → Reaches L (nt x) (nt y)
  step-reaches x y i =
      let d = from_definition E L.nonterminals x y i in
      let p = from_pattern E d.patterns y d.lead in
      leads-reach p.pattern y (nt x) (edge_nt (record { all = d.patterns; defined = d.defined; among = p.among })) p.lead

  -- and so do paths
  via-reaches : (zs : List Ref) (x y : Ref) → Via zs x y → Reaches L (nt x) (nt y)
  via-reaches [] x y h = step-reaches x y h
  via-reaches (z ∷ zs) x y (inl h) = via-reaches zs x y h
  via-reaches (z ∷ zs) x y (inr h) = reaches_on (via-reaches zs x z h.0) (via-reaches zs z y h.1)

  -- a path that ends at z goes by way of others
  via-to : (zs : List Ref) (z x : Ref) → Via (z ∷ zs) x z → Via zs x z
  via-to zs z x (inl h) = h
  via-to zs z x (inr h) = h.0

  -- and so does one that begins there
  via-from : (zs : List Ref) (z y : Ref) → Via (z ∷ zs) z y → Via zs z y
  via-from zs z y (inl h) = h
  via-from zs z y (inr h) = h.1

  -- paths meet at a nonterminal by way of which they go
  via-meet : (zs : List Ref) (x z y : Ref) → In z zs → Via zs x z → Via zs z y → Via zs x y
  via-meet [] x z y i g h = elim i [ ]
  via-meet (w ∷ zs) x z y (here e) g h =
      inr (via-to zs w x (subst (λ (v : Ref). Via (w ∷ zs) x v) e g), via-from zs w y (subst (λ (v : Ref). Via (w ∷ zs) v y) e h))
  via-meet (w ∷ zs) x z y (there i) (inl g) (inl h) = inl (via-meet zs x z y i g h)
  via-meet (w ∷ zs) x z y (there i) (inl g) (inr h) = inr (via-meet zs x z w i g h.0, h.1)
  via-meet (w ∷ zs) x z y (there i) (inr g) (inl h) = inr (g.0, via-meet zs w z y i g.1 h)
  via-meet (w ∷ zs) x z y (there i) (inr g) (inr h) = inr (g.0, h.1)

  -- a step is a path
  via-step : (zs : List Ref) (x y : Ref) → Step x y → Via zs x y
  via-step [] x y h = h
  via-step (z ∷ zs) x y h = inl (via-step zs x y h)

  -- those of the language
  abbrev all : List Ref
  all = names L.nonterminals

  -- where a path begins is a definition
  via-defined : (zs : List Ref) (x y : Ref) → Via zs x y → (ps : List Pattern) × In (x, ps) L.nonterminals
  via-defined [] x y h = let d = from_definition E L.nonterminals x y h in (d.patterns, d.defined)
  via-defined (z ∷ zs) x y (inl h) = via-defined zs x y h
  via-defined (z ∷ zs) x y (inr h) = via-defined zs x z h.0

  -- ---- all that is reached is reached by such a path

  -- the pattern leads to y, or to a nonterminal from which a path leads to y
  record LeadsOn (p : Pattern) (y : Ref) : Type 0 where
    pub lead : Ref
    pub among : In lead (leads E p)
    pub on : (lead ≡ y) ⊎ Via all lead y

  -- left edges lead from the pattern to y
  abbrev Onward : Pattern → Ref → Type 0
  Onward wild y = ⊥
  Onward (of_kind k) y = ⊥
  Onward (except rs) y = ⊥
  Onward (prefix r) y = ⊥
  Onward hole y = ⊥
  Onward (lit t) y = ⊥
  Onward (nt x) y = Via all x y
  Onward (named x q) y = LeadsOn (named x q) y
  Onward (differ x q) y = LeadsOn (differ x q) y
  Onward (in_hole q r) y = LeadsOn (in_hole q r) y
  Onward (hide_hole q) y = LeadsOn (hide_hole q) y
  Onward (closed q) y = LeadsOn (closed q) y
  Onward (seq ps) y = ⊥

  -- so the pattern leads to it
  onward-leads : (p : Pattern) (y : Ref) → Onward p y → LeadsOn p y
  onward-leads wild y h = absurd h
  onward-leads (of_kind k) y h = absurd h
  onward-leads (except rs) y h = absurd h
  onward-leads (prefix r) y h = absurd h
  onward-leads hole y h = absurd h
  onward-leads (lit t) y h = absurd h
  onward-leads (nt x) y h = record { lead = x; among = here refl; on = inr h }
  onward-leads (named x q) y h = h
  onward-leads (differ x q) y h = h
  onward-leads (in_hole q r) y h = h
  onward-leads (hide_hole q) y h = h
  onward-leads (closed q) y h = h
  onward-leads (seq ps) y h = absurd h

  -- an alternative's lead is a step
  lead-step : (x : Ref) (p : Pattern) (z : Ref) → IsAlternative L x p → In z (leads E p) → Step x z
  lead-step x p z a i = to_definition E L.nonterminals x z a.all a.defined (to_pattern E a.all p z a.among i)

  -- a step before a path, or to where it ends
  step-on : (x z y : Ref) → Step x z → (z ≡ y) ⊎ Via all z y → Via all x y
  step-on x z y s (inl f) = via-step all x y (subst (λ (w : Ref). Step x w) f s)
  step-on x z y s (inr h) =
      let d = via-defined all z y h in
      via-meet all x z y (in-names L.nonterminals z d.0 d.1) (via-step all x z s) h

  -- a left edge before them
  edge-onward : (p q : Pattern) (y : Ref) → Edge L p q → LeadsOn q y → Onward p y
  edge-onward p q y (edge_nt {x = x} a) l = step-on x l.lead y (lead-step x q l.lead a l.among) l.on
  edge-onward p q y edge_named l = record { lead = l.lead; among = l.among; on = l.on }
  edge-onward p q y edge_differ l = record { lead = l.lead; among = l.among; on = l.on }
  edge-onward p q y edge_hide_hole l = record { lead = l.lead; among = l.among; on = l.on }
  edge-onward p q y edge_closed l = record { lead = l.lead; among = l.among; on = l.on }
  edge-onward p q y (edge_left {r = r}) l =
      record { lead = l.lead; among = append-left (leads E q) (if is_empty E q then leads E r else []) l.lead l.among; on = l.on }
  edge-onward p r y (edge_right {q = q} h) l =
      let i = to_counted (is_empty E q) (leads E r) l.lead ((is_empty-exact L E e q).1 h) l.among in
      record { lead = l.lead; among = append-right (leads E q) (if is_empty E q then leads E r else []) l.lead i; on = l.on }

  -- what is reached by left edges
  reaches-onward : (p q : Pattern) (y : Ref) → Reaches L p q → q ≡ nt y → Onward p y
  reaches-onward p q y (at_once d) f =
      edge-onward p q y d (record { lead = y; among = subst (λ (r : Pattern). In y (leads E r)) (sym f) (here refl); on = inl refl })
  reaches-onward p q y (further {q = r} d h) f = edge-onward p r y d (onward-leads r y (reaches-onward r q y h f))

  -- what reaches itself has a path to itself
  recursive-via : (x : Ref) → IsRecursive L x → Via all x x
  recursive-via x h = reaches-onward (nt x) (nt x) x h refl

  -- so it can be decided whether a nonterminal reaches itself
  recursive-decided : (x : Ref) → Decided (IsRecursive L x)
  recursive-decided x = as_well (via-reaches all x x) (recursive-via x) (via-decided all x x)

  -- ---- the first

  -- the first definition among these whose nonterminal reaches itself
  record FirstIn (ds : List Definition) : Type 0 where
    pub before : List Definition
    pub nonterminal : Ref
    pub alternatives : List Pattern
    pub behind : List Definition
    pub splits : ds ≡ before ++ (nonterminal, alternatives) ∷ behind
    pub recursive : IsRecursive L nonterminal
    pub first : (d : Definition) → In d before → ¬ IsRecursive L d.0

  -- none of these reaches itself
  abbrev NoneIn : List Definition → Type 0
  NoneIn ds = (d : Definition) → In d ds → ¬ IsRecursive L d.0

  -- one definition more that doesn't
  none-more : (c : Definition) (ds : List Definition) → ¬ IsRecursive L c.0 → NoneIn ds → NoneIn (c ∷ ds)
  none-more c ds n m d (here e) r = n (subst (λ (b : Definition). IsRecursive L b.0) e r)
  none-more c ds n m d (there i) r = m d i r

  first-more : (c : Definition) (ds : List Definition) → ¬ IsRecursive L c.0 → FirstIn ds → FirstIn (c ∷ ds)
  first-more c ds n f = record {
    before = c ∷ f.before;
    nonterminal = f.nonterminal;
    alternatives = f.alternatives;
    behind = f.behind;
    splits = ap (λ (es : List Definition). c ∷ es) f.splits;
    recursive = f.recursive;
    first = none-more c f.before n f.first;
  }

  -- there is a first, or none
  first-behind : (c : Definition) (ds : List Definition) → Decided (IsRecursive L c.0) → FirstIn ds ⊎ NoneIn ds → FirstIn (c ∷ ds) ⊎ NoneIn (c ∷ ds)
  first-behind c ds (inl r) e =
      inl (record { before = []; nonterminal = c.0; alternatives = c.1; behind = ds; splits = refl; recursive = r; first = λ d i. elim i [ ] })
  first-behind c ds (inr n) (inl f) = inl (first-more c ds n f)
  first-behind c ds (inr n) (inr m) = inr (none-more c ds n m)

  first-in : (ds : List Definition) → FirstIn ds ⊎ NoneIn ds
  first-in [] = inr (λ d i. elim i [ ])
  first-in (d ∷ ds) = first-behind d ds (recursive-decided d.0) (first-in ds)

  -- where no definition's nonterminal reaches itself, none does
  none-free : NoneIn L.nonterminals → IsFree L
  none-free n x r = let d = via-defined all x x (recursive-via x r) in n (x, d.0) d.1 r

  by_first : FirstIn L.nonterminals ⊎ NoneIn L.nonterminals → IsFree L ⊎ HasFirstRecursive L
  by_first (inl f) = inr (record {
    nonterminal = f.nonterminal;
    is_first = record { before = f.before; alternatives = f.alternatives; behind = f.behind; defined = f.splits; recursive = f.recursive; first = f.first };
  })
  by_first (inr n) = inl (none-free n)

-- a language is free of left recursion, or has a first nonterminal that reaches itself
pub free_or_recursive : FreeOrRecursive
free_or_recursive L = let t = empty_is_decided L in by_first L t.test t.tells (first-in L t.test t.tells L.nonterminals)
