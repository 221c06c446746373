-- Heights of patterns where the same is known of the nonterminals that stand in them, and where nonterminals are looked up by their places.
use Rattle.std.proofs.Common.{◌≡◌, ℕ, zero, suc, ◌<◌, ◌≤◌, Bool, true, false, List, [], ◌∷◌, ◌++◌, length, get_or, drop, map, refl, sym, ◌∙◌, ap, subst, inl, inr, arith, Option, Some, None, if◌then◌else◌}
use Rattle.std.proofs.lemmas.List.{get_or-map, length-map}
use Rattle.std.proofs.lemmas.Bool.{cases_lt}
use Rattle.rdx_lang.proofs.MemberLaws.{append-left, append-right}
use Rattle.rdx_lang.specs.Members.{In, here}
use Rattle.rdx_lang.specs.Patterns.{Pattern, wild, of_kind, except, prefix, hole, lit, nt, named, differ, in_hole, hide_hole, closed, seq, Items, nil, one, many, Definition, Language}
use Rattle.rdx_lang.specs.References.{is_same}
use Rattle.rdx_lang.specs.WellFormed.{defined}
use Rattle.rdx_lang.specs.declared.pattern.Ref.{Ref}
use Rattle.rdx_lang.specs.declared.pattern.Ref.TheVariants.{Nt}
use Rattle.rdx_gen.specs.Heights.{Known, height_in, height_among, no_height, greater, lesser, least, term_height, context_height, items_height, list_height, height_over, one_more}
use Rattle.rdx_lang.specs.PatternView.{Slot, just, repeated, items_of}
use Rattle.rdx_gen.specs.Inside.Slots.{list_heights}
use Rattle.rdx_gen.specs.Inside.Places.{place, place_of, mentioned_at, AreUsers, list_at}
use Rattle.rdx_gen.specs.Inside.Waiting.{next_at, height_at}
use Rattle.rdx_gen.specs.NameRules.{mentioned, items_mentioned, all_mentioned}
use Rattle.rdx_gen.specs.declared.height.Height.{Height}

-- the same is known of these nonterminals
abbrev pub SameFor : Known → Known → List Ref → Type 0
SameFor K J xs = (x : Ref) → In x xs → height_in K x ≡ height_in J x

left_same : (K J : Known) (xs ys : List Ref) → SameFor K J (xs ++ ys) → SameFor K J xs
left_same K J xs ys h x i = h x (append-left xs ys x i)

right_same : (K J : Known) (xs ys : List Ref) → SameFor K J (xs ++ ys) → SameFor K J ys
right_same K J xs ys h x i = h x (append-right xs ys x i)

mutual
  pub same-term : (K J : Known) (p : Pattern) → SameFor K J (mentioned p) → term_height K p ≡ term_height J p
  same-term K J wild h = refl
  same-term K J (of_kind k) h = refl
  same-term K J (except rs) h = refl
  same-term K J (prefix r) h = refl
  same-term K J hole h = refl
  same-term K J (lit u) h = refl
  same-term K J (nt x) h = ap (λ (y : Height). y.as_term) (h x (here refl))
  same-term K J (named x q) h = same-term K J q h
  same-term K J (differ x q) h = same-term K J q h
  same-term K J (in_hole q r) h =
      ap (λ y. greater y (term_height K r)) (same-context K J q (left_same K J (mentioned q) (mentioned r) h))
      ∙ ap (λ y. greater (context_height J q) y) (same-term K J r (right_same K J (mentioned q) (mentioned r) h))
  same-term K J (hide_hole q) h = same-term K J q h
  same-term K J (closed q) h = refl
  same-term K J (seq ps) h = same-items K J ps h

  pub same-items : (K J : Known) (ps : Items) → SameFor K J (items_mentioned ps) → items_height K ps ≡ items_height J ps
  same-items K J nil h = refl
  same-items K J (one p ps) h =
      ap (λ y. greater y (items_height K ps)) (same-term K J p (left_same K J (mentioned p) (items_mentioned ps) h))
      ∙ ap (λ y. greater (term_height J p) y) (same-items K J ps (right_same K J (mentioned p) (items_mentioned ps) h))
  same-items K J (many p x ps) h = same-items K J ps (right_same K J (mentioned p) (items_mentioned ps) h)

  pub same-context : (K J : Known) (p : Pattern) → SameFor K J (mentioned p) → context_height K p ≡ context_height J p
  same-context K J wild h = refl
  same-context K J (of_kind k) h = refl
  same-context K J (except rs) h = refl
  same-context K J (prefix r) h = refl
  same-context K J hole h = refl
  same-context K J (lit u) h = refl
  same-context K J (nt x) h = ap (λ (y : Height). y.as_context) (h x (here refl))
  same-context K J (named x q) h = same-context K J q h
  same-context K J (differ x q) h = same-context K J q h
  same-context K J (in_hole q r) h =
      ap (λ y. greater y (context_height K r)) (same-context K J q (left_same K J (mentioned q) (mentioned r) h))
      ∙ ap (λ y. greater (context_height J q) y) (same-context K J r (right_same K J (mentioned q) (mentioned r) h))
  same-context K J (hide_hole q) h = refl
  same-context K J (closed q) h = refl
  same-context K J (seq ps) h = same-list K J ps h

  pub same-list : (K J : Known) (ps : Items) → SameFor K J (items_mentioned ps) → list_height K ps ≡ list_height J ps
  same-list K J nil h = refl
  same-list K J (one p ps) h =
      let l = left_same K J (mentioned p) (items_mentioned ps) h in
      let r = right_same K J (mentioned p) (items_mentioned ps) h in
      let a : context_height K p ≡ context_height J p = same-context K J p l in
      let b : items_height K ps ≡ items_height J ps = same-items K J ps r in
      let c : term_height K p ≡ term_height J p = same-term K J p l in
      let d : list_height K ps ≡ list_height J ps = same-list K J ps r in
      (λ i. lesser (greater (a i) (b i)) (greater (c i) (d i)))
  same-list K J (many p x ps) h =
      let l = left_same K J (mentioned p) (items_mentioned ps) h in
      let r = right_same K J (mentioned p) (items_mentioned ps) h in
      let a : context_height K p ≡ context_height J p = same-context K J p l in
      let b : items_height K ps ≡ items_height J ps = same-items K J ps r in
      let d : list_height K ps ≡ list_height J ps = same-list K J ps r in
      (λ i. lesser (greater (a i) (b i)) (d i))

same-terms : (K J : Known) (ps : List Pattern) → SameFor K J (all_mentioned ps) → map (term_height K) ps ≡ map (term_height J) ps
same-terms K J [] h = refl
same-terms K J (p ∷ ps) h =
    let a : term_height K p ≡ term_height J p = same-term K J p (left_same K J (mentioned p) (all_mentioned ps) h) in
    let b : map (term_height K) ps ≡ map (term_height J) ps = same-terms K J ps (right_same K J (mentioned p) (all_mentioned ps) h) in
    (λ i. a i ∷ b i)

same-contexts : (K J : Known) (ps : List Pattern) → SameFor K J (all_mentioned ps) → map (context_height K) ps ≡ map (context_height J) ps
same-contexts K J [] h = refl
same-contexts K J (p ∷ ps) h =
    let a : context_height K p ≡ context_height J p = same-context K J p (left_same K J (mentioned p) (all_mentioned ps) h) in
    let b : map (context_height K) ps ≡ map (context_height J) ps = same-contexts K J ps (right_same K J (mentioned p) (all_mentioned ps) h) in
    (λ i. a i ∷ b i)

-- of a nonterminal with these alternatives
pub same-over : (K J : Known) (ps : List Pattern) → SameFor K J (all_mentioned ps) → height_over K ps ≡ height_over J ps
same-over K J ps h =
    let a = same-terms K J ps h in
    let b = same-contexts K J ps h in
    (λ i. record { as_term = one_more (least (a i)); as_context = one_more (least (b i)) })

-- ---- by places

-- what is looked up stands at the place
pub looked-up : (ds : List Definition) (hs : List Height) (x : Ref) → place x (map (λ (d : Definition). d.0) ds) < length ds
    → height_among ds hs x ≡ get_or hs (place x (map (λ (d : Definition). d.0) ds)) no_height
looked-up [] hs x l = absurd (omega arith)
looked-up (d ∷ ds) [] x l = refl
looked-up (d ∷ ds) (h ∷ hs) x l = by_test (is_same x d.0) (looked-up ds hs x) l
  where
    by_test : (b : Bool) → (place x (map (λ (d : Definition). d.0) ds) < length ds → height_among ds hs x ≡ get_or hs (place x (map (λ (d : Definition). d.0) ds)) no_height)
        → (if b then 0 else suc (place x (map (λ (d : Definition). d.0) ds))) < suc (length ds)
        → (if b then h else height_among ds hs x) ≡ get_or (h ∷ hs) (if b then 0 else suc (place x (map (λ (d : Definition). d.0) ds))) no_height
    by_test true f k = refl
    by_test false f k = f (omega arith)

-- a nonterminal that isn't defined has none
pub not-there : (ds : List Definition) (hs : List Height) (x : Ref) → length ds ≤ place x (map (λ (d : Definition). d.0) ds) → height_among ds hs x ≡ no_height
not-there [] hs x l = refl
not-there (d ∷ ds) [] x l = refl
not-there (d ∷ ds) (h ∷ hs) x l = by_test (is_same x d.0) (not-there ds hs x) l
  where
    by_test : (b : Bool) → (length ds ≤ place x (map (λ (d : Definition). d.0) ds) → height_among ds hs x ≡ no_height)
        → suc (length ds) ≤ (if b then 0 else suc (place x (map (λ (d : Definition). d.0) ds)))
        → (if b then h else height_among ds hs x) ≡ no_height
    by_test true f k = absurd (omega arith)
    by_test false f k = f (omega arith)

-- what a round finds at a place, of the definition there
abbrev nobody : Definition
nobody = (Nt [], [])

-- what a round finds at a place is the same where the same is known at the places that are mentioned there
pub same-next : (L : Language) (us : List (List ℕ)) (hs gs : List Height) (j : ℕ) → AreUsers L us → j < length L.nonterminals
    → ((i : ℕ) → i < length L.nonterminals → In j (list_at us i) → height_at hs i ≡ height_at gs i) → next_at L hs j ≡ next_at L gs j
same-next L us hs gs j u l h =
    get_or-map (λ (d : Definition). height_over K d.1) L.nonterminals j nobody no_height l
    ∙ same-over K J (get_or L.nonterminals j nobody).1 same
    ∙ sym (get_or-map (λ (d : Definition). height_over J d.1) L.nonterminals j nobody no_height l)
  where
    K : Known
    K = record { definitions = L.nonterminals; heights = hs }

    J : Known
    J = record { definitions = L.nonterminals; heights = gs }

    there_so : (x : Ref) → In x (mentioned_at L j) → height_in K x ≡ height_in J x
    there_so x i = elim (cases_lt (place_of L x) (length L.nonterminals)) [
      | inl m ↦ looked-up L.nonterminals hs x m ∙ h (place_of L x) m (u.all j (place_of L x) (x, i, refl) m) ∙ sym (looked-up L.nonterminals gs x m)
      | inr m ↦ not-there L.nonterminals hs x m ∙ sym (not-there L.nonterminals gs x m)
    ]

    same : SameFor K J (all_mentioned (get_or L.nonterminals j nobody).1)
    same x i = there_so x (subst (λ (xs : List Ref). In x xs) (sym (get_or-map (λ (d : Definition). all_mentioned d.1) L.nonterminals j nobody [] l)) i)

-- ---- definitions of the code

pub read-map : {A B : Type 0} (f : A → B) (xs : List A) (i : ℕ) (x : A) (e : B) → i < length xs → x ≡ get_or xs i x → get_or (map f xs) i e ≡ f x
read-map f [] i x e l h = absurd (omega arith)
read-map f (y ∷ ys) zero x e l h = ap f (sym h)
read-map f (y ∷ ys) (suc i) x e l h = read-map f ys i x e (omega arith) h

pub read-two : {A C : Type 0} (g : Definition → C) (f : A → Definition) (xs : List A) (i : ℕ) (x : A) (e : C) → i < length xs → x ≡ get_or xs i x → get_or (map g (map f xs)) i e ≡ g (f x)
read-two g f xs i x e l h = read-map g (map f xs) i (f x) e (subst (λ n. i < n) (sym (length-map xs f)) l) (sym (read-map f xs i x (f x) l h))

-- what a round finds at the place of a definition
pub next-defined : {A : Type 0} (L : Language) (hs : List Height) (f : A → Definition) (xs : List A) (i : ℕ) (x : A) → map f xs ≡ L.nonterminals → i < length xs → x ≡ get_or xs i x
    → next_at L hs i ≡ height_over (record { definitions = L.nonterminals; heights = hs }) (f x).1
next-defined L hs f xs i x e l h =
    ap (λ (ds : List Definition). get_or (map (λ (d : Definition). height_over (record { definitions = L.nonterminals; heights = hs }) d.1) ds) i no_height) (sym e)
    ∙ read-two (λ (d : Definition). height_over (record { definitions = L.nonterminals; heights = hs }) d.1) f xs i x no_height l h

-- what is mentioned at the place of a definition
pub mentioned-defined : {A : Type 0} (L : Language) (f : A → Definition) (xs : List A) (i : ℕ) (x : A) → map f xs ≡ L.nonterminals → i < length xs → x ≡ get_or xs i x
    → mentioned_at L i ≡ all_mentioned (f x).1
mentioned-defined L f xs i x e l h =
    ap (λ (ds : List Definition). get_or (map (λ (d : Definition). all_mentioned d.1) ds) i []) (sym e) ∙ read-two (λ (d : Definition). all_mentioned d.1) f xs i x [] l h

-- places among definitions are those in the language
pub index-exact : {A : Type 0} (F : ℕ → Ref → ℕ) (f : A → Definition) (xs : List A) (L : Language) → map f xs ≡ L.nonterminals
    → ((x : Ref) → F (length xs) x ≡ place x (map (λ (d : Definition). d.0) (map f xs))) → (x : Ref) → F (length (defined L)) x ≡ place x (defined L)
index-exact F f xs L e h x =
    ap (λ n. F n x) (length-map L.nonterminals (λ (d : Definition). d.0) ∙ sym (ap length e) ∙ length-map xs f)
    ∙ h x ∙ ap (λ (ds : List Definition). place x (map (λ (d : Definition). d.0) ds)) e

-- ---- lists without a height

greater-none : (a b : Option ℕ) → b ≡ None → greater a b ≡ None
greater-none None b e = refl
greater-none (Some n) None e = refl
greater-none (Some n) (Some m) e = absurd cc

none-step : (K : Known) (s : Slot) (ss : List Slot) → list_heights K (items_of ss) ≡ no_height → list_heights K (items_of (s ∷ ss)) ≡ no_height
none-step K (just p) ss h =
    let a : items_height K (items_of ss) ≡ None = ap (λ (z : Height). z.as_term) h in
    let b : list_height K (items_of ss) ≡ None = ap (λ (z : Height). z.as_context) h in
    let c : greater (term_height K p) (items_height K (items_of ss)) ≡ None = greater-none (term_height K p) (items_height K (items_of ss)) a in
    let d : greater (context_height K p) (items_height K (items_of ss)) ≡ None = greater-none (context_height K p) (items_height K (items_of ss)) a in
    let e : greater (term_height K p) (list_height K (items_of ss)) ≡ None = greater-none (term_height K p) (list_height K (items_of ss)) b in
    (λ i. record { as_term = c i; as_context = lesser (d i) (e i) })
none-step K (repeated p x) ss h =
    let a : items_height K (items_of ss) ≡ None = ap (λ (z : Height). z.as_term) h in
    let b : list_height K (items_of ss) ≡ None = ap (λ (z : Height). z.as_context) h in
    let d : greater (context_height K p) (items_height K (items_of ss)) ≡ None = greater-none (context_height K p) (items_height K (items_of ss)) a in
    (λ i. record { as_term = a i; as_context = lesser (d i) (b i) })

-- where the rest of a list has no height, the list has none
pub none-ahead : {A : Type 0} (K : Known) (f : A → Slot) (xs : List A) (k : ℕ) → list_heights K (items_of (map f (drop k xs))) ≡ no_height → list_heights K (items_of (map f xs)) ≡ no_height
none-ahead K f xs zero h = h
none-ahead K f [] (suc k) h = h
none-ahead K f (x ∷ xs) (suc k) h = none-step K (f x) (map f xs) (none-ahead K f xs k h)
