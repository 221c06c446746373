-- Extras lead alike from two bindings that differ in one name that they do not have.
use Rattle.std.proofs.Common.{◌≡◌, ◌++◌, inl, inr, ℕ, Bool, true, false, List, [], ◌∷◌, refl, sym, ap, subst, if◌then◌else◌}
use Rattle.std.proofs.lemmas.Bool.{and_parts}
use Rattle.std.specs.List.{list_all}
use Rattle.std.specs.Prelude.{◌&&◌}
use Rattle.rdx_term.specs.Tree.{Tree, symbol}
use Rattle.rdx_lang.specs.Bindings.{Value, Pair, Binding, one_name, value_at, HasAscendingNames}
use Rattle.rdx_lang.specs.Bindings.{one as one_term}
use Rattle.rdx_lang.specs.Depths.{Use, uses}
use Rattle.rdx_lang.specs.Fitting.{fits}
use Rattle.rdx_lang.specs.Join.{IsJoin}
use Rattle.rdx_lang.specs.Listing.{IsSeen}
use Rattle.rdx_lang.specs.Members.{In, here, there}
use Rattle.rdx_lang.specs.Modes.{Callable, fits_mode}
use Rattle.rdx_lang.specs.Patterns.{Pattern, Language}
use Rattle.rdx_lang.specs.Programs.{Extra, such_as, provided, holds, fresh}
use Rattle.rdx_lang.specs.Rules.{Match}
use Rattle.rdx_lang.specs.Scopes.{bound_by, extra_uses, extras_uses}
use Rattle.rdx_lang.specs.Valid.{is_valid_extra, are_valid_extras}
use Rattle.rdx_lang.specs.Variants.{first_variant}
use Rattle.rdx_lang.specs.WellFormed.{is_well_formed_in}
use Rattle.rdx_lang.proofs.Collecting.{only}
use Rattle.rdx_lang.proofs.JoinLaws.{bound_names-member}
use Rattle.rdx_lang.proofs.MemberLaws.{in-append}
use Rattle.rdx_lang.proofs.NameLaws.{match-ascends}
use Rattle.rdx_lang.proofs.SeenListings.{seen-ascends, seen-names}
use Rattle.rdx_eval.specs.Answers.{Answer, value, fault, Fault, Then, stops, goes}
use Rattle.rdx_eval.specs.Calls.{Calls}
use Rattle.rdx_eval.specs.Extending.{Joins, joins_none, joins_more, joins_skip, joined, Matched, matched, MatchedEach, By, unless_false}
use Rattle.rdx_eval.specs.Fresh.{Avoided, behind, symbol_in, symbols, symbols_of, freshly}
use Rattle.rdx_eval.specs.Instantiation.{Makes, HostMakes, MakeList, is_false}
use Rattle.rdx_eval.proofs.HeldPremises.{no_fault}
use Rattle.rdx_eval.proofs.OneAnswer.{same_value}
use Rattle.rdx_reduce.specs.FirstFaults.{FailsAfter, in_result, in_extra, behind_extra}
use Rattle.rdx_reduce.specs.TakenSteps.{LeadTo, no_extra, one_extra}
use Rattle.rdx_reduce.proofs.ContextBindings.{IsUsed, used_in, used_first, used_last, names-used, bound-used}
use Rattle.rdx_eval.proofs.Reached.{reached}
use Rattle.rdx_reduce.proofs.SameTemplates.{inst-same, host-same, list-same}

-- a finite map that does not bind x
pub record IsWithout (x : List ℕ) (b : Binding) : Type 0 where
  pub map : HasAscendingNames b
  pub free : (w : Value) → In (x, w) b.pairs → ⊥

-- T holds of the bindings of two lists, one by one
pub data Along (T : Binding → Binding → Type 0) : List Binding → List Binding → Type 0 where
  along_none : Along T [] []
  along_more : {b c : Binding} {bs cs : List Binding} → T b c → Along T bs cs → Along T (b ∷ bs) (c ∷ cs)

-- so it does of two lists together
along-append : {T : Binding → Binding → Type 0} (bs cs ds es : List Binding) → Along T bs cs → Along T ds es → Along T (bs ++ ds) (cs ++ es)
along-append [] [] ds es along_none k = k
along-append [] (c ∷ cs) ds es h k = elim h [ ]
along-append (b ∷ bs) [] ds es h k = elim h [ ]
along-append (b ∷ bs) (c ∷ cs) ds es (along_more t h) k = along_more t (along-append bs cs ds es h k)

-- for each of the first there is one of the second
along-in : {T : Binding → Binding → Type 0} (bs cs : List Binding) (b : Binding) → Along T bs cs → In b bs → (c : Binding) × In c cs × T b c
along-in [] cs b h i = elim i [ ]
along-in (a ∷ bs) [] b h i = elim h [ ]
along-in {T} (a ∷ bs) (c ∷ cs) b (along_more t h) (here e) = (c, here refl, subst (λ (d : Binding). T d c) (sym e) t)
along-in (a ∷ bs) (c ∷ cs) b (along_more t h) (there i) = let k = along-in bs cs b h i in (k.0, there k.1, k.2)

-- what is seen of what a pattern binds that does not have x is without it
match-without : (L : Language) (x : List ℕ) (p : Pattern) (t : Tree) (b : Binding) → (IsUsed x (uses 0 p) → ⊥) → IsSeen (Match L p t) b
    → IsWithout x b
match-without L x p t b n m = record {
  map = seen-ascends (λ c h. match-ascends h) m;
  free = λ w i. n (names-used x 0 p (subst (λ (ys : List (List ℕ)). In x ys) (seen-names m) (bound_names-member (x, w) b i)));
}

-- a name that an extra does not have is none of those that stand for fresh symbols behind it
still_free : (x : List ℕ) (a : Avoided) (e : Extra) → (IsUsed x (extra_uses e) → ⊥) → (In x a.names → ⊥) → In x (behind a e).names → ⊥
still_free x a (such_as p s) u f i = f i
still_free x a (provided h) u f i = f i
still_free x a (holds q) u f i = f i
still_free x a (fresh y) u f i = elim (in-append a.names (y ∷ []) x i) [ inl l ↦ f l | inr r ↦ u r ]

-- T holds of two bindings that differ in x alone: other names stand for the same, and what the one has a join with, the other has, too
pub record Differs (x : List ℕ) (T : Binding → Binding → Type 0) : Type 0 where
  pub same : (b c : Binding) → T b c → (y : List ℕ) → (y ≡ x → ⊥) → value_at b y ≡ value_at c y
  pub forth : (b c m d : Binding) → T b c → IsWithout x m → IsJoin b m d → (e : Binding) × T d e × IsJoin c m e
  pub back : (b c m e : Binding) → T b c → IsWithout x m → IsJoin c m e → (d : Binding) × IsJoin b m d

module _ (x : List ℕ) (T : Binding → Binding → Type 0) (differs : Differs x T) where
  -- joins with bindings that are without x
  joins-along : (b c : Binding) (ms ds : List Binding) → T b c → ((m : Binding) → In m ms → IsWithout x m) → Joins b ms ds
      → (es : List Binding) × Joins c ms es × Along T ds es
  joins-along b c [] [] t f joins_none = ([], joins_none, along_none)
  joins-along b c [] (d ∷ ds) t f h = elim h [ ]
  joins-along b c (m ∷ ms) (d ∷ ds) t f (joins_more j h) =
      let k = differs.forth b c m d t (f m (here refl)) j in
      let l = joins-along b c ms ds t (λ n i. f n (there i)) h in
      (k.0 ∷ l.0, joins_more k.2 l.1, along_more k.1 l.2)
  joins-along b c (m ∷ ms) ds t f (joins_skip n h) =
      let l = joins-along b c ms ds t (λ n i. f n (there i)) h in
      (l.0, joins_skip (λ e j. let k = differs.back b c m e t (f m (here refl)) j in n k.0 k.1) l.1, l.2)

  module _ (L : Language) (b c : Binding) (t : T b c) where
    -- with what a pattern binds that does not have x
    matched-along : (p : Pattern) (s : Tree) (ds : List Binding) → (IsUsed x (uses 0 p) → ⊥) → Matched L p b s (value ds)
        → (es : List Binding) × Matched L p c s (value es) × Along T ds es
    matched-along p s ds n (matched {ds = ms} l j) =
        let k = joins-along b c ms ds t (λ m i. match-without L x p s m n (l.sound m i)) j in (k.0, matched l k.1, k.2)

    -- with what it binds at one of several terms
    each-along : (p : Pattern) (ss : List Tree) (ds : List Binding) → (IsUsed x (uses 0 p) → ⊥) → MatchedEach L p b ss (value ds)
        → (es : List Binding) × MatchedEach L p c ss (value es) × Along T ds es
    each-along p [] [] n h = ([], refl, along_none)
    each-along p [] (d ∷ ds) n h = absurd cc
    each-along p (s ∷ ss) ds n h =
        let k = reached (Matched L p b s) (λ us. Then (MatchedEach L p b ss) (λ vs r. r ≡ value (us ++ vs))) ds h in
        let l = reached (MatchedEach L p b ss) (λ vs r. r ≡ value (k.between ++ vs)) ds k.behind in
        let m = matched-along p s k.between n k.before in
        let o = each-along p ss l.between n l.before in
        let e : k.between ++ l.between ≡ ds = same_value ds (k.between ++ l.between) l.behind in (
          m.0 ++ o.0,
          goes m.1 (goes o.1 refl),
          subst (λ (fs : List Binding). Along T fs (m.0 ++ o.0)) e (along-append k.between m.0 l.between o.0 m.2 o.2),
        )

    -- the symbols that other names stand for
    symbols-same : (ys : List (List ℕ)) → (In x ys → ⊥) → symbols_of ys b ≡ symbols_of ys c
    symbols-same [] n = refl
    symbols-same (y ∷ ys) n =
        let e : value_at b y ≡ value_at c y = differs.same b c t y (λ d. n (here (sym d))) in
        λ i. symbol_in (e i) ++ symbols-same ys (λ j. n (there j)) i

    -- the binding alone, unless a term is false
    unless-along : (u : Tree) → Along T (unless_false u b) (unless_false u c)
    unless-along u = by_test (is_false u)
      where
        by_test : (v : Bool) → Along T (if v then [] else b ∷ []) (if v then [] else c ∷ [])
        by_test true = along_none
        by_test false = along_more t along_none

    module _ (C : Calls) (F : Callable) (us : List Use) (unused : IsUsed x us → ⊥) where
      -- the names that are bound stand for the same
      bound-same : (y : List ℕ) (d : ℕ) → bound_by us y d ≡ true → value_at b y ≡ value_at c y
      bound-same y d h = differs.same b c t y (λ e. unused (subst (λ (z : List ℕ). IsUsed z us) e (bound-used y d us h)))

      -- what an extra makes
      by-along : (a : Avoided) (e : Extra) (ds : List Binding) → (IsUsed x (extra_uses e) → ⊥) → (In x a.names → ⊥) → is_valid_extra F L us e ≡ true
          → By L C a e b (value ds) → (es : List Binding) × By L C a e c (value es) × Along T ds es
      by-along a (such_as p s) ds n f v h =
          let k = reached (Makes C b s) (Matched L p b) ds h in
          let fit = (and_parts (is_well_formed_in L p) (fits F.functions (bound_by us) 0 s) v).1 in
          let m = matched-along p k.between ds n k.behind in (
            m.0,
            goes (subst (λ (R : Answer Tree → Type 0). R (value k.between))
                (inst-same F.functions (bound_by us) b c bound-same C [] 0 s fit) k.before) m.1,
            m.2,
          )
      by-along a (provided e) ds n f v h =
          let k = reached (HostMakes C b e) (λ u r. r ≡ value (unless_false u b)) ds h in
          let d : unless_false k.between b ≡ ds = same_value ds (unless_false k.between b) k.behind in (
            unless_false k.between c,
            goes (subst (λ (R : Answer Tree → Type 0). R (value k.between))
                (host-same F.functions (bound_by us) b c bound-same C [] 0 e v) k.before) refl,
            subst (λ (fs : List Binding). Along T fs (unless_false k.between c)) d (unless-along k.between),
          )
      by-along a (holds q) ds n f v h =
          let w = and_parts (fits_mode (F.modes q.judgement) q)
          (list_all (fits F.functions (bound_by us) 0) q.inputs && is_well_formed_in L q.outputs) v in
          let fit = (and_parts (list_all (fits F.functions (bound_by us) 0) q.inputs) (is_well_formed_in L q.outputs) w.1).0 in
          let k = reached (Then (MakeList C b q.inputs) (C.outputs_of q.judgement)) (MatchedEach L q.outputs b) ds h in
          let l = reached (MakeList C b q.inputs) (C.outputs_of q.judgement) k.between k.before in
          let m = each-along q.outputs k.between ds n k.behind in
          let made : MakeList C c q.inputs (value l.between) =
          subst (λ (R : Answer Tree → Type 0). R (value l.between)) (list-same F.functions (bound_by us) b c bound-same C q.inputs fit) l.before in
          (m.0, goes (goes made l.behind) m.1, m.2)
      by-along a (fresh y) ds n f v (joined j) =
          let e : freshly a b y ≡ freshly a c y =
          ap (λ ss. one_name y (one_term (symbol (first_variant y (symbols a.whole ++ ss))))) (symbols-same a.names f) in
          let m : IsWithout x (freshly a c y) = record { map = ((tt, tt), (tt, tt)); free = λ w i. n (only_name i) } in
          let k = joins-along b c (freshly a c y ∷ []) ds t (λ d i. subst (λ (g : Binding). IsWithout x g) (sym (only i)) m)
          (subst (λ (g : Binding). Joins b (g ∷ []) ds) e j) in
          (k.0, joined k.1, k.2)
        where
          only_name : {w : Value} → In (x, w) (freshly a c y).pairs → In x (y ∷ [])
          only_name (here d) = here (ap (λ (p : Pair). p.0) d)
          only_name (there i) = elim i [ ]

      -- and the faults that it makes
      by-fails-along : (a : Avoided) (e : Extra) (f : Fault) → is_valid_extra F L us e ≡ true → By L C a e b (fault f) → By L C a e c (fault f)
      by-fails-along a (such_as p s) f v (stops h) =
          let fit = (and_parts (is_well_formed_in L p) (fits F.functions (bound_by us) 0 s) v).1 in
          stops (subst (λ (R : Answer Tree → Type 0). R (fault f)) (inst-same F.functions (bound_by us) b c bound-same C [] 0 s fit) h)
      by-fails-along a (such_as p s) f v (goes h k) = elim k [ ]
      by-fails-along a (provided e) f v (stops h) =
          stops (subst (λ (R : Answer Tree → Type 0). R (fault f)) (host-same F.functions (bound_by us) b c bound-same C [] 0 e v) h)
      by-fails-along a (provided e) f v (goes h k) = absurd cc
      by-fails-along a (holds q) f v (stops h) =
          let w = and_parts (fits_mode (F.modes q.judgement) q)
          (list_all (fits F.functions (bound_by us) 0) q.inputs && is_well_formed_in L q.outputs) v in
          let fit = (and_parts (list_all (fits F.functions (bound_by us) 0) q.inputs) (is_well_formed_in L q.outputs) w.1).0 in
          stops (subst (λ (R : Answer Tree → Type 0). Then R (C.outputs_of q.judgement) (fault f))
          (list-same F.functions (bound_by us) b c bound-same C q.inputs fit) h)
      by-fails-along a (holds q) f v (goes {x = ts} h k) = absurd (no_fault L q.outputs b ts f k)
      by-fails-along a (fresh y) f v h = elim h [ ]

  -- extras, one after the other
  pub leads-along : (L : Language) (C : Calls) (F : Callable) (us : List Use) (a : Avoided) (es : List Extra) (b c d : Binding) → T b c
      → (IsUsed x us → ⊥) → (IsUsed x (extras_uses es) → ⊥) → (In x a.names → ⊥) → are_valid_extras F L us es ≡ true → LeadTo L C a es b d
      → (g : Binding) × LeadTo L C a es c g × T d g
  leads-along L C F us a [] b c d t n m f v no_extra = (c, no_extra, t)
  leads-along L C F us a (e ∷ es) b c d t n m f v (one_extra {c = i} {bs = is} h k l) =
      let w = and_parts (is_valid_extra F L us e) (are_valid_extras F L (us ++ extra_uses e) es) v in
      let m' : IsUsed x (extra_uses e) → ⊥ = λ u. m (used_first x (extra_uses e) (extras_uses es) u) in
      let o = by-along L b c t C F us n a e is m' f w.0 h in
      let j = along-in is o.0 i o.2 k in
      let r = leads-along L C F (us ++ extra_uses e) (behind a e) es i j.0 d j.2
      (λ u. elim (used_in x us (extra_uses e) u) [ inl p ↦ n p | inr q ↦ m' q ])
      (λ u. m (used_last x (extra_uses e) (extras_uses es) u)) (still_free x a e m' f) w.1 l in
      (r.0, one_extra o.1 j.1 r.1, r.2)

  -- so the fault that is met from the one on, is met from the other on
  pub fails-along : (L : Language) (C : Calls) (F : Callable) (R S : Binding → Answer Tree → Type 0) (f : Fault)
      → ((b c : Binding) → T b c → R b (fault f) → S c (fault f)) → (us : List Use) (a : Avoided) (es : List Extra) (b c d : Binding) (n : ℕ) → T b c
      → (IsUsed x us → ⊥) → (IsUsed x (extras_uses es) → ⊥) → (In x a.names → ⊥) → are_valid_extras F L us es ≡ true → FailsAfter L C R a es b n d f
      → (g : Binding) × FailsAfter L C S a es c n g f × T d g
  fails-along L C F R S f r us a [] b c d n t u m o v (in_result h) = (c, in_result (r b c t h), t)
  fails-along L C F R S f r us a (e ∷ es) b c d n t u m o v (in_extra h) =
      let w = and_parts (is_valid_extra F L us e) (are_valid_extras F L (us ++ extra_uses e) es) v in
      (c, in_extra (by-fails-along L b c t C F us u a e f w.0 h), t)
  fails-along L C F R S f r us a (e ∷ es) b c d n t u m o v (behind_extra {c = i} {bs = is} {n = k} h j l) =
      let w = and_parts (is_valid_extra F L us e) (are_valid_extras F L (us ++ extra_uses e) es) v in
      let m' : IsUsed x (extra_uses e) → ⊥ = λ y. m (used_first x (extra_uses e) (extras_uses es) y) in
      let p = by-along L b c t C F us u a e is m' o w.0 h in
      let q = along-in is p.0 i p.2 j in
      let g = fails-along L C F R S f r (us ++ extra_uses e) (behind a e) es i q.0 d k q.2
      (λ y. elim (used_in x us (extra_uses e) y) [ inl z ↦ u z | inr z ↦ m' z ])
      (λ y. m (used_last x (extra_uses e) (extras_uses es) y)) (still_free x a e m' o) w.1 l in
      (g.0, behind_extra p.1 q.1 g.1, g.2)
