-- Lists of nonterminals that are put together, and those of which there are definitions.
use Rattle.std.proofs.Common.{◌≡◌, ◌⊎◌, inl, inr, true, List, [], ◌∷◌, ◌++◌, map, refl}
use Rattle.std.specs.Prelude.{Bool, not}
use Rattle.std.proofs.lemmas.Bool.{and_parts, and_from, or_cases, or_left, or_right, both_ways, not-true, not_from_false, false_from_ne_true}
use Rattle.rdx_lang.specs.Members.{In, here, there}
use Rattle.rdx_lang.specs.Patterns.{Pattern, Definition}
use Rattle.rdx_lang.specs.References.{is_same, is_among, are_distinct}
use Rattle.rdx_lang.specs.declared.pattern.Ref.{Ref}
use Rattle.rdx_lang.proofs.LookupLaws.{is_same-equal, equal-is_same, is_among-defined}
use Rattle.rdx_lang.proofs.MemberLaws.{in-append, append-left}

-- ---- two lists of nonterminals together

-- what is among both is among either
pub among-cases : (x : Ref) (xs ys : List Ref) → is_among x (xs ++ ys) ≡ true → (is_among x xs ≡ true) ⊎ (is_among x ys ≡ true)
among-cases x [] ys h = inr h
among-cases x (z ∷ xs) ys h = elim (or_cases (is_same x z) (is_among x (xs ++ ys)) h) [
  | inl e ↦ inl (or_left (is_same x z) (is_among x xs) e)
  | inr e ↦ elim (among-cases x xs ys e) [
    | inl k ↦ inl (or_right (is_same x z) (is_among x xs) k)
    | inr k ↦ inr k
  ]
]

-- what is among the first is among both
pub among-first : (x : Ref) (xs ys : List Ref) → is_among x xs ≡ true → is_among x (xs ++ ys) ≡ true
among-first x [] ys h = absurd cc
among-first x (z ∷ xs) ys h = elim (or_cases (is_same x z) (is_among x xs) h) [
  | inl e ↦ or_left (is_same x z) (is_among x (xs ++ ys)) e
  | inr e ↦ or_right (is_same x z) (is_among x (xs ++ ys)) (among-first x xs ys e)
]

-- so is what is among the second
pub among-second : (x : Ref) (xs ys : List Ref) → is_among x ys ≡ true → is_among x (xs ++ ys) ≡ true
among-second x [] ys h = h
among-second x (z ∷ xs) ys h = or_right (is_same x z) (is_among x (xs ++ ys)) (among-second x xs ys h)

-- the first of a list is among it
pub among-head : (x : Ref) (xs : List Ref) → is_among x (x ∷ xs) ≡ true
among-head x xs = or_left (is_same x x) (is_among x xs) (equal-is_same x x refl)

-- ---- what has a definition

-- what is among the defined has a definition
pub has-definition : (x : Ref) (ds : List Definition) → is_among x (map (λ d. d.0) ds) ≡ true → (ps : List Pattern) × In (x, ps) ds
has-definition x [] h = absurd cc
has-definition x (d ∷ ds) h = elim (or_cases (is_same x d.0) (is_among x (map (λ c. c.0) ds)) h) [
  | inl e ↦ let n : x ≡ d.0 = is_same-equal x d.0 e in (d.1, here (λ i. (n i, d.1)))
  | inr e ↦ let k = has-definition x ds e in (k.0, there k.1)
]

-- it stays defined where definitions are put behind
pub defined-more : (ds es : List Definition) (x : Ref) → is_among x (map (λ d. d.0) ds) ≡ true → is_among x (map (λ d. d.0) (ds ++ es)) ≡ true
defined-more ds es x h =
    let k = has-definition x ds h in is_among-defined x k.0 (ds ++ es) (append-left ds es (x, k.0) k.1)

-- what has a definition in two lists together has one in either
pub defined-either : (x : Ref) (ds es : List Definition) → is_among x (map (λ d. d.0) (ds ++ es)) ≡ true
    → (is_among x (map (λ d. d.0) ds) ≡ true) ⊎ (is_among x (map (λ d. d.0) es) ≡ true)
defined-either x ds es h =
    let k = has-definition x (ds ++ es) h in
    elim (in-append ds es (x, k.0) k.1) [
      | inl i ↦ inl (is_among-defined x k.0 ds i)
      | inr i ↦ inr (is_among-defined x k.0 es i)
    ]

-- ---- no nonterminal comes twice

-- the negation of what is not true holds
pub not-so : (b : Bool) → (b ≡ true → ⊥) → not b ≡ true
not-so b f = not_from_false b (false_from_ne_true b f)

-- where no nonterminal comes twice in either list and none comes in both, none comes twice in them together
pub append-distinct : (ds es : List Definition) → are_distinct (map (λ d. d.0) ds) ≡ true → are_distinct (map (λ d. d.0) es) ≡ true
    → ((x : Ref) → is_among x (map (λ d. d.0) ds) ≡ true → is_among x (map (λ d. d.0) es) ≡ true → ⊥)
    → are_distinct (map (λ d. d.0) (ds ++ es)) ≡ true
append-distinct [] es h k f = k
append-distinct (d ∷ ds) es h k f =
    let c = and_parts (not (is_among d.0 (map (λ b. b.0) ds))) (are_distinct (map (λ b. b.0) ds)) h in
    and_from (not (is_among d.0 (map (λ b. b.0) (ds ++ es)))) (are_distinct (map (λ b. b.0) (ds ++ es)))
    (not-so (is_among d.0 (map (λ b. b.0) (ds ++ es))) (λ e. elim (defined-either d.0 ds es e) [
      | inl i ↦ both_ways (is_among d.0 (map (λ b. b.0) ds)) (not-true (is_among d.0 (map (λ b. b.0) ds)) c.0) i
      | inr i ↦ f d.0 (among-head d.0 (map (λ b. b.0) ds)) i
    ]))
    (append-distinct ds es c.1 k (λ x i j. f x (or_right (is_same x d.0) (is_among x (map (λ b. b.0) ds)) i) j))
