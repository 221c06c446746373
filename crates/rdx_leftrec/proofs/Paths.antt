-- Paths between places are left edges between nonterminals, and the first place that reaches itself is the first recursive nonterminal.
use Rattle.std.proofs.Common.{◌≡◌, ℕ, zero, suc, ◌<◌, Bool, true, List, [], ◌∷◌, length, get_or, take, drop, refl, sym, subst, ◌⊎◌, inl, inr, arith, if◌then◌else◌}
use Rattle.std.specs.Prelude.{Vec}
use Rattle.std.specs.declared.alloc.Global.{Global}
use Rattle.std.proofs.lemmas.List.{length-map}
use Rattle.rdx_lang.specs.Edges.{Edge, edge_nt, edge_named, edge_differ, edge_hide_hole, edge_closed, edge_left, edge_right, Reaches, at_once, further, IsRecursive, IsFirstRecursive}
use Rattle.rdx_lang.specs.Empty.{TellsEmpty, is_empty}
use Rattle.rdx_lang.specs.Members.{In, here, there}
use Rattle.rdx_lang.specs.Patterns.{Pattern, wild, of_kind, except, prefix, hole, lit, nt, named, differ, in_hole, hide_hole, closed, seq, Definition, Language}
use Rattle.rdx_lang.specs.Rules.{IsAlternative}
use Rattle.rdx_lang.specs.WellFormed.{has_known_nonterminals, defined, IsWellFormed}
use Rattle.rdx_lang.specs.declared.pattern.Ref.{Ref}
use Rattle.rdx_lang.proofs.Emptiness.{is_empty-exact}
use Rattle.rdx_lang.proofs.FirstRecursive.{first_recursive-same}
use Rattle.rdx_lang.proofs.MemberLaws.{in-append, append-left, append-right, in-map, map-in}
use Rattle.rdx_leftrec.specs.Recursion.{IsRecursionOf, Names}
use Rattle.rdx_leftrec.specs.Inside.Leads.{leads, all_leads, place, places, targets_of, lists_of}
use Rattle.rdx_leftrec.specs.Inside.Components.{IsFirst}
use Rattle.rdx_leftrec.specs.Inside.Reach.{targets_at, Path, once, more, AreTargets}
use Rattle.rdx_leftrec.specs.declared.recursion.LeftRec.{LeftRec}
use Rattle.rdx_leftrec.specs.declared.recursion.LeftRec.TheVariants.{LeftRecursive, NoMemory}
use Rattle.rdx_leftrec.specs.Inside.Lists.{At}
use Rattle.rdx_leftrec.proofs.Lists.{at_read, at_inside, at-length, at-in, in-at, at_same, at-map, at-split, in-take}
use Rattle.rdx_leftrec.proofs.Places.{place-at, at-place, are_known, in-chosen, chosen-in, leads-among, all_leads-in, in-all_leads}

-- left edges after left edges
reaches_on : {L : Language} {p q r : Pattern} → Reaches L p q → Reaches L q r → Reaches L p r
reaches_on (at_once e) k = further e k
reaches_on (further e h) k = further e (reaches_on h k)

-- a place that has targets is one
pub targets_at-inside : (ts : List (List ℕ)) (i k : ℕ) → In k (targets_at ts i) → i < length ts
targets_at-inside [] i k h = elim h [ ]
targets_at-inside (t ∷ ts) zero k h = omega arith
targets_at-inside (t ∷ ts) (suc i) k h = let n = targets_at-inside ts i k h in omega arith

-- the targets that are read at a place
pub targets_at-read : (vs : List (Vec ℕ Global)) (i : ℕ) (v : Vec ℕ Global) → i < length vs → v ≡ get_or vs i v → targets_at (lists_of vs) i ≡ v.items
targets_at-read vs i v h e = at-map (λ (u : Vec ℕ Global). u.items) vs i v [] (at_read vs i v h e)

-- a step before a path
pub path-before : (ts : List (List ℕ)) (i j k : ℕ) → In j (targets_at ts i) → Path ts j k → Path ts i k
path-before ts i j k h (once l) = more (once h) l
path-before ts i j k h (more {j = m} p l) = more (path-before ts i j m h p) l

module _ (L : Language) (w : IsWellFormed L) (E : Ref → Bool) (t : TellsEmpty L E) where
  -- left edges lead on to what a pattern leads to
  edge-leads : (q p : Pattern) (z : Ref) → Edge L q p → In z (leads E p) → Reaches L q (nt z)
  edge-leads q wild z e i = elim i [ ]
  edge-leads q (of_kind k) z e i = elim i [ ]
  edge-leads q (except rs) z e i = elim i [ ]
  edge-leads q (prefix r) z e i = elim i [ ]
  edge-leads q hole z e i = elim i [ ]
  edge-leads q (lit u) z e i = elim i [ ]
  edge-leads q (nt x) z e (here d) = subst (λ (y : Ref). Reaches L q (nt y)) (sym d) (at_once e)
  edge-leads q (nt x) z e (there i) = elim i [ ]
  edge-leads q (named x p) z e i = further e (edge-leads (named x p) p z edge_named i)
  edge-leads q (differ x p) z e i = further e (edge-leads (differ x p) p z edge_differ i)
  edge-leads q (in_hole p r) z e i = elim (in-append (leads E p) (if is_empty E p then leads E r else []) z i) [
    | inl l ↦ further e (edge-leads (in_hole p r) p z edge_left l)
    | inr l ↦
        let k : (is_empty E p ≡ true) × In z (leads E r) = in-chosen (is_empty E p) (leads E r) z l in
        further e (edge-leads (in_hole p r) r z (edge_right ((is_empty-exact L E t p).0 k.0)) k.1)
  ]
  edge-leads q (hide_hole p) z e i = further e (edge-leads (hide_hole p) p z edge_hide_hole i)
  edge-leads q (closed p) z e i = further e (edge-leads (closed p) p z edge_closed i)
  edge-leads q (seq ps) z e i = elim i [ ]

  -- the targets at the place of a definition
  targets-at : (i : ℕ) (d : Definition) → At L.nonterminals i d → targets_at (targets_of E L) i ≡ places (defined L) (all_leads E d.1)
  targets-at i d a = at-map (λ (c : Definition). places (defined L) (all_leads E c.1)) L.nonterminals i d [] a

  -- a target of a place is the place of a definition, to which left edges lead
  pub step-reaches : (i k : ℕ) (d : Definition) → At L.nonterminals i d → In k (targets_at (targets_of E L) i) → (e : Definition) × At L.nonterminals k e × Reaches L (nt d.0) (nt e.0)
  step-reaches i k d a h =
      let m : (z : Ref) × In z (all_leads E d.1) × (k ≡ place z (defined L)) =
      in-map (λ (z : Ref). place z (defined L)) (all_leads E d.1) k (subst (λ (ks : List ℕ). In k ks) (targets-at i d a) h) in
      let q : (p : Pattern) × In p d.1 × In m.0 (leads E p) = all_leads-in E d.1 m.0 m.1 in
      let f : has_known_nonterminals (defined L) q.0 ≡ true = are_known L d q.0 w (at-in L.nonterminals i d a) q.1 in
      let e : (c : Definition) × At L.nonterminals (place m.0 (defined L)) c × (m.0 ≡ c.0) = at-place L.nonterminals m.0 (leads-among E (defined L) q.0 m.0 f q.2) in (
        e.0,
        subst (λ (j : ℕ). At L.nonterminals j e.0) (sym m.2) e.1,
        subst (λ (y : Ref). Reaches L (nt d.0) (nt y)) e.2 (edge-leads (nt d.0) q.0 m.0 (edge_nt (record { all = d.1; defined = at-in L.nonterminals i d a; among = q.1 })) q.2),
      )

  -- what is reached from a place is the place of a definition, to which left edges lead
  path-reaches : (i k : ℕ) (d : Definition) → At L.nonterminals i d → Path (targets_of E L) i k → (e : Definition) × At L.nonterminals k e × Reaches L (nt d.0) (nt e.0)
  path-reaches i k d a (once h) = step-reaches i k d a h
  path-reaches i k d a (more {j = j} p h) =
      let f = path-reaches i j d a p in
      let g = step-reaches j k f.0 f.1 h in
      (g.0, g.1, reaches_on f.2 g.2)

  -- a place that reaches itself is that of a recursive nonterminal
  path-recursive : (i : ℕ) (d : Definition) → At L.nonterminals i d → Path (targets_of E L) i i → IsRecursive L d.0
  path-recursive i d a p =
      let f : (e : Definition) × At L.nonterminals i e × Reaches L (nt d.0) (nt e.0) = path-reaches i i d a p in
      let e : f.0 ≡ d = at_same L.nonterminals i f.0 d f.1 a in
      subst (λ (c : Definition). Reaches L (nt d.0) (nt c.0)) e f.2

  -- what an alternative leads to is a target of its nonterminal
  pub alternative-step : (x : Ref) (p : Pattern) (z : Ref) → IsAlternative L x p → In z (leads E p) → In (place z (defined L)) (targets_at (targets_of E L) (place x (defined L)))
  alternative-step x p z a i =
      let m : (j : ℕ) × At L.nonterminals j (x, a.all) = in-at L.nonterminals (x, a.all) a.defined in
      let e : place x (defined L) ≡ m.0 = place-at L.nonterminals m.0 (x, a.all) w.distinct m.1 in
      let f : In (place z (defined L)) (places (defined L) (all_leads E a.all)) = map-in (λ (y : Ref). place y (defined L)) (all_leads E a.all) z (in-all_leads E a.all p z a.among i) in
      let g : In (place z (defined L)) (targets_at (targets_of E L) m.0) = subst (λ (ks : List ℕ). In (place z (defined L)) ks) (sym (targets-at m.0 (x, a.all) m.1)) f in
      subst (λ (j : ℕ). In (place z (defined L)) (targets_at (targets_of E L) j)) (sym e) g

  -- the places of x and y are one, or a path leads from the first to the second
  abbrev Arrives : Ref → Ref → Type 0
  Arrives x y = (place x (defined L) ≡ place y (defined L)) ⊎ Path (targets_of E L) (place x (defined L)) (place y (defined L))

  -- the pattern leads to a nonterminal from which y is reached, or that is y
  abbrev LeadsOn : Pattern → Ref → Type 0
  LeadsOn p y = (z : Ref) × In z (leads E p) × Arrives z y

  -- left edges lead from the pattern to y
  abbrev Onward : Pattern → Ref → Type 0
  Onward wild y = ⊥
  Onward (of_kind k) y = ⊥
  Onward (except rs) y = ⊥
  Onward (prefix r) y = ⊥
  Onward hole y = ⊥
  Onward (lit u) y = ⊥
  Onward (nt x) y = Path (targets_of E L) (place x (defined L)) (place y (defined L))
  Onward (named x q) y = LeadsOn q y
  Onward (differ x q) y = LeadsOn q y
  Onward (in_hole q r) y = LeadsOn (in_hole q r) y
  Onward (hide_hole q) y = LeadsOn q y
  Onward (closed q) y = LeadsOn q y
  Onward (seq ps) y = ⊥

  -- so the pattern leads to it
  onward-leads : (p : Pattern) (y : Ref) → Onward p y → LeadsOn p y
  onward-leads wild y h = absurd h
  onward-leads (of_kind k) y h = absurd h
  onward-leads (except rs) y h = absurd h
  onward-leads (prefix r) y h = absurd h
  onward-leads hole y h = absurd h
  onward-leads (lit u) y h = absurd h
  onward-leads (nt x) y h = (x, here refl, inr h)
  onward-leads (named x q) y h = h
  onward-leads (differ x q) y h = h
  onward-leads (in_hole q r) y h = h
  onward-leads (hide_hole q) y h = h
  onward-leads (closed q) y h = h
  onward-leads (seq ps) y h = absurd h

  -- a step along a left edge
  edge-onward : {p q : Pattern} (y : Ref) → Edge L p q → LeadsOn q y → Onward p y
  edge-onward y (edge_nt {x = x} {p = p} a) l = elim l.2 [
    | inl e ↦ once (subst (λ (j : ℕ). In j (targets_at (targets_of E L) (place x (defined L)))) e (alternative-step x p l.0 a l.1))
    | inr d ↦ path-before (targets_of E L) (place x (defined L)) (place l.0 (defined L)) (place y (defined L)) (alternative-step x p l.0 a l.1) d
  ]
  edge-onward y edge_named l = l
  edge-onward y edge_differ l = l
  edge-onward y edge_hide_hole l = l
  edge-onward y edge_closed l = l
  edge-onward y (edge_left {q = q} {r = r}) l = (l.0, append-left (leads E q) (if is_empty E q then leads E r else []) l.0 l.1, l.2)
  edge-onward y (edge_right {q = q} {r = r} e) l =
      (l.0, append-right (leads E q) (if is_empty E q then leads E r else []) l.0 (chosen-in (is_empty E q) (leads E r) l.0 ((is_empty-exact L E t q).1 e) l.1), l.2)

  -- left edges to a nonterminal, by places
  reaches-onward : {p q : Pattern} (y : Ref) → Reaches L p q → q ≡ nt y → Onward p y
  reaches-onward y (at_once {q = q} e) d = edge-onward y e (y, subst (λ (r : Pattern). In y (leads E r)) (sym d) (here refl), inl refl)
  reaches-onward y (further {q = q} e h) d = edge-onward y e (onward-leads q y (reaches-onward y h d))

  -- the place of a recursive nonterminal reaches itself
  recursive-path : (x : Ref) → IsRecursive L x → Path (targets_of E L) (place x (defined L)) (place x (defined L))
  recursive-path x h = reaches-onward x h refl

  -- each target is the place of a nonterminal
  pub targets-inside : AreTargets (targets_of E L)
  targets-inside i k h =
      let m = length-map L.nonterminals (λ (d : Definition). places (defined L) (all_leads E d.1)) in
      let l : i < length (targets_of E L) = targets_at-inside (targets_of E L) i k h in
      let d : (c : Definition) × At L.nonterminals i c = at_inside L.nonterminals i (omega arith) in
      let e : (c : Definition) × At L.nonterminals k c × Reaches L (nt d.0.0) (nt c.0) = step-reaches i k d.0 d.1 h in
      let n = at-length L.nonterminals k e.0 e.1 in
      omega arith

  -- the place of a nonterminal with an alternative
  pub place-inside : (x : Ref) (p : Pattern) → IsAlternative L x p → place x (defined L) < length (targets_of E L)
  place-inside x p a =
      let m = length-map L.nonterminals (λ (d : Definition). places (defined L) (all_leads E d.1)) in
      let j : (j : ℕ) × At L.nonterminals j (x, a.all) = in-at L.nonterminals (x, a.all) a.defined in
      let e : place x (defined L) ≡ j.0 = place-at L.nonterminals j.0 (x, a.all) w.distinct j.1 in
      let n = at-length L.nonterminals j.0 (x, a.all) j.1 in
      omega arith

  -- the nonterminal at the first place that reaches itself is the first that is recursive
  pub first-recursive : (i : ℕ) (d : Definition) → At L.nonterminals i d → IsFirst (targets_of E L) i → IsFirstRecursive L d.0
  first-recursive i d a f = record {
    before = take i L.nonterminals;
    alternatives = d.1;
    behind = drop (suc i) L.nonterminals;
    defined = at-split L.nonterminals i d a;
    recursive = path-recursive i d a f.recursive;
    first = first;
  }
    where
      first : (e : Definition) → In e (take i L.nonterminals) → ¬ IsRecursive L e.0
      first e h r =
          let k : (k : ℕ) × (k < i) × At L.nonterminals k e = in-take L.nonterminals i e h in
          let p : place e.0 (defined L) ≡ k.0 = place-at L.nonterminals k.0 e w.distinct k.2 in
          f.first k.0 k.1 (subst (λ (j : ℕ). Path (targets_of E L) j j) p (recursive-path e.0 r))

-- a refusal names the first recursive nonterminal
pub names-first : (L : Language) (x : Ref) (r : LeftRec) → IsRecursionOf L r → IsFirstRecursive L x → Names x r
names-first L x (LeftRecursive y) f g = first_recursive-same L y x f g
names-first L x NoMemory f g = tt
