-- Equal nonterminals are the same, and where no two definitions are of the same nonterminal, what is looked up are the alternatives.
use Rattle.std.proofs.Common.{◌≡◌, Bool, true, false, List, [], ◌∷◌, map, refl, ap, subst, if◌then◌else◌}
use Rattle.std.specs.Prelude.{◌↔◌, not, ◌&&◌, ◌||◌, bytes_eq}
use Rattle.std.specs.Cmp.{first_so, second_so}
use Rattle.std.specs.Cmp.Lexicographic.{bytes_decides}
use Rattle.rdx_lang.specs.Lookup.{alternatives_among, alternatives_of}
use Rattle.rdx_lang.specs.Members.{In, here, there}
use Rattle.rdx_lang.specs.Patterns.{Pattern, Definition, Language}
use Rattle.rdx_lang.specs.Rules.{IsAlternative}
use Rattle.rdx_lang.specs.References.{is_same, is_among, are_distinct}
use Rattle.rdx_lang.specs.WellFormed.{defined}
use Rattle.rdx_lang.specs.declared.pattern.Ref.{Ref}
use Rattle.rdx_lang.specs.declared.pattern.Ref.TheVariants.{Nt, Cross}

-- ---- tests

-- what both parts make true
pub both_so : (a b : Bool) → a ≡ true → b ≡ true → (a && b) ≡ true
both_so true b h k = k
both_so false b h k = h

-- what is the same is equal
pub is_same-equal : (x y : Ref) → is_same x y ≡ true → x ≡ y
is_same-equal (Nt x) (Nt y) h = ap Nt ((bytes_decides x y).0 h)
is_same-equal (Nt x) (Cross y z) h = absurd cc
is_same-equal (Cross x w) (Nt y) h = absurd cc
is_same-equal (Cross x w) (Cross y z) h =
    let e : x ≡ y = (bytes_decides x y).0 (first_so (bytes_eq x y) (bytes_eq w z) h) in
    let f : w ≡ z = (bytes_decides w z).0 (second_so (bytes_eq x y) (bytes_eq w z) h) in
    (λ i. Cross (e i) (f i))

-- equals are the same
pub equal-is_same : (x y : Ref) → x ≡ y → is_same x y ≡ true
equal-is_same (Nt x) (Nt y) h = (bytes_decides x y).1 cc
equal-is_same (Nt x) (Cross y z) h = absurd cc
equal-is_same (Cross x w) (Nt y) h = absurd cc
equal-is_same (Cross x w) (Cross y z) h = both_so (bytes_eq x y) (bytes_eq w z) ((bytes_decides x y).1 cc) ((bytes_decides w z).1 cc)

-- what its second part makes true
or_right : (a b : Bool) → b ≡ true → (a || b) ≡ true
or_right true b h = refl
or_right false b h = h

-- what its first part makes true
or_left : (a b : Bool) → a ≡ true → (a || b) ≡ true
or_left true b h = refl
or_left false b h = cc

-- what is not so is not true
pub not_true : (a : Bool) → not a ≡ true → a ≡ true → ⊥
not_true true h k = cc
not_true false h k = cc

-- ---- definitions

-- what has a definition is among the defined
pub is_among-defined : (x : Ref) (ps : List Pattern) (ds : List Definition) → In (x, ps) ds → is_among x (map (λ d. d.0) ds) ≡ true
is_among-defined x ps [] h = elim h [ ]
is_among-defined x ps (d ∷ ds) (here e) =
    or_left (is_same x d.0) (is_among x (map (λ c. c.0) ds)) (equal-is_same x d.0 (ap (λ (c : Definition). c.0) e))
is_among-defined x ps (d ∷ ds) (there h) = or_right (is_same x d.0) (is_among x (map (λ c. c.0) ds)) (is_among-defined x ps ds h)

-- ---- alternatives

-- p is an alternative of x in these definitions
record Among (ds : List Definition) (x : Ref) (p : Pattern) : Type 0 where
  pub all : List Pattern
  pub defined : In (x, all) ds
  pub among : In p all

-- what is looked up is an alternative
looked_up : (ds : List Definition) (x : Ref) (p : Pattern) → In p (alternatives_among ds x) → Among ds x p
looked_up [] x p h = elim h [ ]
looked_up (d ∷ ds) x p h = by_test (is_same x d.0) refl (looked_up ds x p) h
  where
    later : Among ds x p → Among (d ∷ ds) x p
    later a = record { all = a.all; defined = there a.defined; among = a.among }

    by_test : (s : Bool) → is_same x d.0 ≡ s → (In p (alternatives_among ds x) → Among ds x p) → In p (if s then d.1 else alternatives_among ds x) → Among (d ∷ ds) x p
    by_test true e f i = let n : x ≡ d.0 = is_same-equal x d.0 e in record { all = d.1; defined = here (λ j. (n j, d.1)); among = i }
    by_test false e f i = later (f i)

-- each alternative is looked up
each_looked_up : (ds : List Definition) (x : Ref) (p : Pattern) → are_distinct (map (λ d. d.0) ds) ≡ true → Among ds x p → In p (alternatives_among ds x)
each_looked_up [] x p h a = elim a.defined [ ]
each_looked_up (d ∷ ds) x p h a = by_test (is_same x d.0) refl (each_looked_up ds x p rest) a.defined
  where
    rest : are_distinct (map (λ c. c.0) ds) ≡ true
    rest = second_so (not (is_among d.0 (map (λ c. c.0) ds))) (are_distinct (map (λ c. c.0) ds)) h

    -- the first definition's nonterminal has no other
    alone : x ≡ d.0 → In (x, a.all) ds → ⊥
    alone e i =
        let k : is_among d.0 (map (λ c. c.0) ds) ≡ true = subst (λ (y : Ref). is_among y (map (λ c. c.0) ds) ≡ true) e (is_among-defined x a.all ds i) in
        not_true (is_among d.0 (map (λ c. c.0) ds)) (first_so (not (is_among d.0 (map (λ c. c.0) ds))) (are_distinct (map (λ c. c.0) ds)) h) k

    differs : (x, a.all) ≡ d → is_same x d.0 ≡ false → ⊥
    differs f e =
        let s : is_same x d.0 ≡ true = equal-is_same x d.0 (ap (λ (c : Definition). c.0) f) in absurd cc

    by_test : (s : Bool) → is_same x d.0 ≡ s → (Among ds x p → In p (alternatives_among ds x)) → In (x, a.all) (d ∷ ds) → In p (if s then d.1 else alternatives_among ds x)
    by_test true e g (here f) = subst (λ (ps : List Pattern). In p ps) (ap (λ (c : Definition). c.1) f) a.among
    by_test true e g (there i) = absurd (alone (is_same-equal x d.0 e) i)
    by_test false e g (here f) = absurd (differs f e)
    by_test false e g (there i) = g (record { all = a.all; defined = i; among = a.among })

-- what is looked up in a language is an alternative
pub looked_up-alternative : (L : Language) (x : Ref) (p : Pattern) → In p (alternatives_of L x) → IsAlternative L x p
looked_up-alternative L x p i =
    let a : Among L.nonterminals x p = looked_up L.nonterminals x p i in record { all = a.all; defined = a.defined; among = a.among }

-- where no two definitions are of the same nonterminal, what is looked up are exactly the alternatives
pub alternatives_of-all : (L : Language) (x : Ref) → are_distinct (defined L) ≡ true → (p : Pattern) → (In p (alternatives_of L x) ↔ IsAlternative L x p)
alternatives_of-all L x h p = (looked_up-alternative L x p, from)
  where
    from : IsAlternative L x p → In p (alternatives_of L x)
    from a = each_looked_up L.nonterminals x p h (record { all = a.all; defined = a.defined; among = a.among })
