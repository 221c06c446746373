-- Nonterminals and their places, where none comes twice.
use Rattle.std.proofs.Common.{◌≡◌, ℕ, zero, suc, ◌<◌, Bool, true, false, List, [], ◌∷◌, length, map, refl, sym, ap, subst, ◌⊎◌, inl, inr, arith, if◌then◌else◌}
use Rattle.std.specs.Prelude.{not, ◌||◌}
use Rattle.std.specs.Cmp.{first_so, second_so}
use Rattle.rdx_lang.proofs.LookupLaws.{is_same-equal, equal-is_same, not_true, is_among-defined}
use Rattle.rdx_lang.proofs.MemberLaws.{in-append, append-left, append-right}
use Rattle.rdx_lang.specs.Members.{In, here, there}
use Rattle.rdx_lang.specs.Depths.{has_fitting_names}
use Rattle.rdx_lang.specs.Empty.{is_empty}
use Rattle.rdx_lang.specs.Patterns.{Pattern, wild, of_kind, except, prefix, hole, lit, nt, named, differ, in_hole, hide_hole, closed, seq, Definition, Language}
use Rattle.rdx_lang.specs.References.{is_same, is_among, are_distinct}
use Rattle.rdx_lang.specs.WellFormed.{has_known_nonterminals, is_well_formed, all_patterns, all_alternatives, defined, IsWellFormed}
use Rattle.rdx_lang.specs.declared.pattern.Ref.{Ref}
use Rattle.rdx_leftrec.specs.Inside.Leads.{leads, all_leads, place}
use Rattle.rdx_leftrec.specs.Inside.Lists.{At}
use Rattle.rdx_leftrec.proofs.Lists.{at-in}

-- the nonterminals of definitions
abbrev pub nonterminals_of : List Definition → List Ref
nonterminals_of ds = map (λ d. d.0) ds

-- a nonterminal with a definition is among those of the definitions
among-at : (ds : List Definition) (i : ℕ) (d : Definition) → At ds i d → is_among d.0 (nonterminals_of ds) ≡ true
among-at ds i d h = is_among-defined d.0 d.1 ds (at-in ds i d h)

-- the place of a nonterminal is where it is defined
pub place-at : (ds : List Definition) (i : ℕ) (d : Definition) → are_distinct (nonterminals_of ds) ≡ true → At ds i d → place d.0 (nonterminals_of ds) ≡ i
place-at [] i d w h = absurd h
place-at (c ∷ ds) zero d w h = by_test (is_same d.0 c.0) (equal-is_same d.0 c.0 (ap (λ (e : Definition). e.0) h))
  where
    by_test : (s : Bool) → s ≡ true → (if s then 0 else suc (place d.0 (nonterminals_of ds))) ≡ 0
    by_test true e = refl
    by_test false e = absurd cc
place-at (c ∷ ds) (suc i) d w h = by_test (is_same d.0 c.0) refl (place-at ds i d (second_so (not (is_among c.0 (nonterminals_of ds))) (are_distinct (nonterminals_of ds)) w) h)
  where
    alone : d.0 ≡ c.0 → ⊥
    alone e =
        not_true (is_among c.0 (nonterminals_of ds)) (first_so (not (is_among c.0 (nonterminals_of ds))) (are_distinct (nonterminals_of ds)) w)
        (subst (λ (x : Ref). is_among x (nonterminals_of ds) ≡ true) e (among-at ds i d h))

    by_test : (s : Bool) → is_same d.0 c.0 ≡ s → place d.0 (nonterminals_of ds) ≡ i → (if s then 0 else suc (place d.0 (nonterminals_of ds))) ≡ suc i
    by_test true e k = absurd (alone (is_same-equal d.0 c.0 e))
    by_test false e k = ap suc k

-- a nonterminal among those of the definitions is defined at its place
pub at-place : (ds : List Definition) (x : Ref) → is_among x (nonterminals_of ds) ≡ true → (d : Definition) × At ds (place x (nonterminals_of ds)) d × (x ≡ d.0)
at-place [] x h = absurd cc
at-place (c ∷ ds) x h = by_test (is_same x c.0) refl h (at-place ds x)
  where
    by_test : (s : Bool) → is_same x c.0 ≡ s → (s || is_among x (nonterminals_of ds)) ≡ true
        → (is_among x (nonterminals_of ds) ≡ true → (d : Definition) × At ds (place x (nonterminals_of ds)) d × (x ≡ d.0))
        → (d : Definition) × At (c ∷ ds) (if s then 0 else suc (place x (nonterminals_of ds))) d × (x ≡ d.0)
    by_test true e k f = (c, refl, is_same-equal x c.0 e)
    by_test false e k f = f k

-- so is one whose place is among theirs
pub inside-place : (ds : List Definition) (x : Ref) → place x (nonterminals_of ds) < length ds → (d : Definition) × At ds (place x (nonterminals_of ds)) d × (x ≡ d.0)
inside-place [] x h = absurd (omega arith)
inside-place (c ∷ ds) x h = by_test (is_same x c.0) refl h (inside-place ds x)
  where
    by_test : (s : Bool) → is_same x c.0 ≡ s → (if s then 0 else suc (place x (nonterminals_of ds))) < suc (length ds)
        → (place x (nonterminals_of ds) < length ds → (d : Definition) × At ds (place x (nonterminals_of ds)) d × (x ≡ d.0))
        → (d : Definition) × At (c ∷ ds) (if s then 0 else suc (place x (nonterminals_of ds))) d × (x ≡ d.0)
    by_test true e k f = (c, refl, is_same-equal x c.0 e)
    by_test false e k f = f (omega arith)

-- where all patterns of a list pass, each does
all_patterns-in : (test : Pattern → Bool) (ps : List Pattern) (p : Pattern) → all_patterns test ps ≡ true → In p ps → test p ≡ true
all_patterns-in test [] p h i = elim i [ ]
all_patterns-in test (q ∷ ps) p h (here e) = subst (λ (r : Pattern). test r ≡ true) (sym e) (first_so (test q) (all_patterns test ps) h)
all_patterns-in test (q ∷ ps) p h (there i) = all_patterns-in test ps p (second_so (test q) (all_patterns test ps) h) i

-- where all alternatives pass, each does
pub all_alternatives-in : (test : Pattern → Bool) (ds : List Definition) (d : Definition) (p : Pattern) → all_alternatives test ds ≡ true → In d ds → In p d.1 → test p ≡ true
all_alternatives-in test [] d p h i j = elim i [ ]
all_alternatives-in test (c ∷ ds) d p h (here e) j =
    all_patterns-in test c.1 p (first_so (all_patterns test c.1) (all_alternatives test ds) h) (subst (λ (ps : List Pattern). In p ps) (ap (λ (b : Definition). b.1) e) j)
all_alternatives-in test (c ∷ ds) d p h (there i) j = all_alternatives-in test ds d p (second_so (all_patterns test c.1) (all_alternatives test ds) h) i j

-- the nonterminals in an alternative of a well-formed language are there
pub are_known : (L : Language) (d : Definition) (p : Pattern) → IsWellFormed L → In d L.nonterminals → In p d.1
    → has_known_nonterminals (defined L) p ≡ true
are_known L d p w i j =
    let f : is_well_formed (defined L) p ≡ true = all_alternatives-in (is_well_formed (defined L)) L.nonterminals d p w.well_formed i j in
    first_so (has_known_nonterminals (defined L) p) (has_fitting_names p) f

-- what a list has, where the other choice is the empty list
pub in-chosen : {A : Type 0} (b : Bool) (xs : List A) (x : A) → In x (if b then xs else []) → (b ≡ true) × In x xs
in-chosen true xs x h = (refl, h)
in-chosen false xs x h = elim h [ ]

-- it has it where it is chosen
pub chosen-in : {A : Type 0} (b : Bool) (xs : List A) (x : A) → b ≡ true → In x xs → In x (if b then xs else [])
chosen-in true xs x e h = h
chosen-in false xs x e h = absurd cc

-- a pattern whose nonterminals are there leads to such
pub leads-among : (E : Ref → Bool) (xs : List Ref) (p : Pattern) (z : Ref) → has_known_nonterminals xs p ≡ true → In z (leads E p)
    → is_among z xs ≡ true
leads-among E xs wild z h i = elim i [ ]
leads-among E xs (of_kind k) z h i = elim i [ ]
leads-among E xs (except rs) z h i = elim i [ ]
leads-among E xs (prefix r) z h i = elim i [ ]
leads-among E xs hole z h i = elim i [ ]
leads-among E xs (lit u) z h i = elim i [ ]
leads-among E xs (nt x) z h (here e) = subst (λ (y : Ref). is_among y xs ≡ true) (sym e) h
leads-among E xs (nt x) z h (there i) = elim i [ ]
leads-among E xs (named x q) z h i = leads-among E xs q z h i
leads-among E xs (differ x q) z h i = leads-among E xs q z h i
leads-among E xs (in_hole q r) z h i = elim (in-append (leads E q) (if is_empty E q then leads E r else []) z i) [
  | inl l ↦ leads-among E xs q z (first_so (has_known_nonterminals xs q) (has_known_nonterminals xs r) h) l
  | inr l ↦
      let k : has_known_nonterminals xs r ≡ true = second_so (has_known_nonterminals xs q) (has_known_nonterminals xs r) h in
      leads-among E xs r z k (in-chosen (is_empty E q) (leads E r) z l).1
]
leads-among E xs (hide_hole q) z h i = leads-among E xs q z h i
leads-among E xs (closed q) z h i = leads-among E xs q z h i
leads-among E xs (seq ps) z h i = elim i [ ]

-- what a list of patterns leads to, one of them does
pub all_leads-in : (E : Ref → Bool) (ps : List Pattern) (z : Ref) → In z (all_leads E ps) → (p : Pattern) × In p ps × In z (leads E p)
all_leads-in E [] z h = elim h [ ]
all_leads-in E (p ∷ ps) z h = of_either (in-append (leads E p) (all_leads E ps) z h) (all_leads-in E ps z)
  where
    of_either : In z (leads E p) ⊎ In z (all_leads E ps) → (In z (all_leads E ps) → (q : Pattern) × In q ps × In z (leads E q)) → (q : Pattern) × In q (p ∷ ps) × In z (leads E q)
    of_either (inl l) f = (p, here refl, l)
    of_either (inr r) f = let k = f r in (k.0, there k.1, k.2)

-- what one of them leads to, the list does
pub in-all_leads : (E : Ref → Bool) (ps : List Pattern) (p : Pattern) (z : Ref) → In p ps → In z (leads E p) → In z (all_leads E ps)
in-all_leads E [] p z h i = elim h [ ]
in-all_leads E (q ∷ ps) p z (here e) i = append-left (leads E q) (all_leads E ps) z (subst (λ (r : Pattern). In z (leads E r)) e i)
in-all_leads E (q ∷ ps) p z (there h) i = append-right (leads E q) (all_leads E ps) z (in-all_leads E ps p z h i)
