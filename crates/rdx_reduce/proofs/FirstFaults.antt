-- Where steps have a fault, it is that the term is not in the domain, or the first that the rules meet.
use Rattle.std.proofs.Common.{◌≡◌, ◌<◌, ◌⊎◌, inl, inr, ℕ, zero, suc, List, [], ◌∷◌, Some, refl, sym, ◌∙◌, ap, subst, slice_get, arith}
use Rattle.std.proofs.lemmas.Bool.{cases_order}
use Rattle.std.specs.Cmp.{IsTotalOrder}
use Rattle.std.specs.Ordering.{ordering_reverse}
use Rattle.std.specs.declared.cmp.Ordering.{Ordering}
use Rattle.std.specs.declared.cmp.Ordering.TheVariants.{Less, Equal, Greater}
use Rattle.rdx_term.specs.Tree.{Tree}
use Rattle.rdx_lang.specs.Ascending.{IsBelow, IsAscending}
use Rattle.rdx_lang.specs.Bindings.{Binding}
use Rattle.rdx_lang.specs.Listing.{IsListing, IsSeen}
use Rattle.rdx_lang.specs.Members.{In, here, there}
use Rattle.rdx_lang.specs.Model.TotalOrders.{binding_cmp-total}
use Rattle.rdx_lang.specs.Order.{binding_cmp}
use Rattle.rdx_lang.specs.Patterns.{Language}
use Rattle.rdx_lang.specs.Programs.{Extra, Relation, Rule}
use Rattle.rdx_lang.specs.Rules.{Match}
use Rattle.rdx_lang.proofs.OrderLaws.{binding_cmp-tells, below_member, not_a_member}
use Rattle.rdx_eval.specs.Answers.{Answer, value, fault, Fault, not_contract, Then, stops, goes, Gather, Single, Lists, lists}
use Rattle.rdx_eval.specs.Calls.{Calls}
use Rattle.rdx_eval.specs.Extending.{By, ByEach, Extend}
use Rattle.rdx_eval.specs.Fresh.{Avoided, avoiding, behind}
use Rattle.rdx_eval.specs.Heights.{calls_at}
use Rattle.rdx_eval.specs.Laws.{Once}
use Rattle.rdx_eval.specs.declared.fault.Side.TheVariants as sides
use Rattle.rdx_eval.proofs.OneAnswer.{once-call, once-outputs, once-extend, same_value}
use Rattle.rdx_eval.proofs.Reached.{reached, gathered-sound, gathered-complete}
use Rattle.rdx_reduce.specs.FirstFaults.{FailsAfter, in_result, in_extra, behind_extra, MeetsFault, IsFirstMet, IsFirst, at_term, by_rules, AnswersFirst}
use Rattle.rdx_reduce.specs.Steps.{Step, Reducts, StepBy, RuleSteps, AllSteps, Listed, Steps}
use Rattle.rdx_reduce.proofs.Domains.{asked-inside, asked-fails}
use Rattle.rdx_reduce.proofs.OneAnswer.{once-reduct}
use Rattle.rdx_reduce.proofs.TakenSteps.{by_alone, by-same, steps-listed}

-- ---- answers

-- equal faults
fault_same : {A : Type 0} (f g : Fault) → ◌≡◌ {A = Answer A} (fault f) (fault g) → f ≡ g
fault_same f g e = cc

-- a value is no fault
value_no_fault : {A : Type 0} (x : A) (f : Fault) → ◌≡◌ {A = Answer A} (value x) (fault f) → ⊥
value_no_fault x f e = absurd cc

-- ---- the first fault of what is gathered

module _ {A : Type 0} (cmp : A → A → Ordering) (o : IsTotalOrder cmp) where
  -- no member is below the first of an ascending list
  none_below_first : (x y : A) (xs : List A) → IsBelow cmp x xs → In y (x ∷ xs) → cmp y x ≡ Less → ⊥
  none_below_first x y xs b i l = not_a_member cmp o y (y ∷ []) (still i, tt) (here refl)
    where
      still : In y (x ∷ xs) → cmp y y ≡ Less
      still (here e) = subst (λ (z : A). cmp y z ≡ Less) (sym e) l
      still (there j) = o.trans y x y l (below_member cmp o x y xs b j)

  -- R has the fault for one member, and a value for each that is below it
  record FailsAt {B : Type 0} (R : A → Answer (List B) → Type 0) (xs : List A) (f : Fault) : Type 0 where
    at : A
    among : In at xs
    fails : R at (fault f)
    before : (y : A) → In y xs → cmp y at ≡ Less → (ys : List B) × R y (value ys)

  -- so it is where what is gathered has it
  gathered-fails : {B : Type 0} (R : A → Answer (List B) → Type 0) (xs : List A) (f : Fault) → IsAscending cmp xs → Gather R xs (fault f)
      → FailsAt R xs f
  gathered-fails R [] f a e = absurd (value_no_fault [] f (sym e))
  gathered-fails R (x ∷ xs) f a (stops h) =
      record { at = x; among = here refl; fails = h; before = λ y i l. absurd (none_below_first x y xs a.0 i l) }
  gathered-fails {B} R (x ∷ xs) f a (goes {x = ys} h (stops k)) =
      let r = gathered-fails R xs f a.1 k in
      record { at = r.at; among = there r.among; fails = r.fails; before = λ y i l. at_place y i (λ j. r.before y j l) }
    where
      at_place : (y : A) → In y (x ∷ xs) → (In y xs → (zs : List B) × R y (value zs)) → (zs : List B) × R y (value zs)
      at_place y (here e) g = (ys, subst (λ (z : A). R z (value ys)) (sym e) h)
      at_place y (there j) g = g j
  gathered-fails R (x ∷ xs) f a (goes h (goes k e)) = absurd (value_no_fault _ f (sym e))

-- ---- extras and results

module _ (L : Language) (C : Calls) (calls : (f : List ℕ) (a : Tree) → Once (C.value_of f a))
    (outputs : (j : List ℕ) (a : Tree) → Once (C.outputs_of j a)) where
  -- an extra makes of a binding one fault at most
  by-one_fault : (a : Avoided) (e : Extra) (b : Binding) (f g : Fault) → By L C a e b (fault f) → By L C a e b (fault g) → f ≡ g
  by-one_fault a e b f g h k =
      fault_same f g (once-extend L C calls outputs a (e ∷ []) (b ∷ []) (fault f) (fault g) (stops (stops (stops h))) (stops (stops (stops k))))

  -- and none where it makes some bindings
  by-no_fault : (a : Avoided) (e : Extra) (b : Binding) (cs : List Binding) (f : Fault) → By L C a e b (value cs) → By L C a e b (fault f) → ⊥
  by-no_fault a e b cs f h k =
      let m = by_alone L C calls outputs a e b cs h in
      value_no_fault m.0 f (once-extend L C calls outputs a (e ∷ []) (b ∷ []) (value m.0) (fault f) m.1 (stops (stops (stops k))))

  module _ (R : Binding → Answer Tree → Type 0) where
    -- behind so many extras, with this binding, one fault is met
    fails-one : ((b : Binding) → Once (R b)) → (a : Avoided) (es : List Extra) (b c d : Binding) (n : ℕ) (f g : Fault) → FailsAfter L C R a es b n d f
        → FailsAfter L C R a es c n d g → f ≡ g
    fails-one o a [] b c d n f g (in_result h) (in_result k) = fault_same f g (o d (fault f) (fault g) h k)
    fails-one o a (e ∷ es) b c d n f g (in_extra h) (in_extra k) = by-one_fault a e d f g h k
    fails-one o a (e ∷ es) b c d n f g (behind_extra {c = b'} {n = m} h i j) (behind_extra {c = c'} k l p) =
        fails-one o (behind a e) es b' c' d m f g j p

    -- the first extra has the fault
    first-fails : (a : Avoided) (e : Extra) (es : List Extra) (b c : Binding) (f : Fault) → FailsAfter L C R a (e ∷ es) b 0 c f
        → By L C a e c (fault f) × (b ≡ c)
    first-fails a e es b c f (in_extra h) = (h, refl)

    -- the fault is met behind the first extra, with one of the bindings that this has made
    record Later (a : Avoided) (e : Extra) (es : List Extra) (ds : List Binding) (n : ℕ) (c : Binding) (f : Fault) : Type 0 where
      less : ℕ
      start : Binding
      same : n ≡ suc less
      among : In start ds
      fails : FailsAfter L C R (behind a e) es start less c f

    -- where the first extra makes all bindings of a list go on, a fault is met behind it
    later : (a : Avoided) (e : Extra) (es : List Extra) (bs ds : List Binding) (b c : Binding) (n : ℕ) (f : Fault) → Gather (By L C a e) bs (value ds)
        → In b bs → FailsAfter L C R a (e ∷ es) b n c f → Later a e es ds n c f
    later a e es bs ds b c n f g i (in_extra h) =
        let k = gathered-complete (By L C a e) bs ds b g i in absurd (by-no_fault a e b k.given f k.gives h)
    later a e es bs ds b c n f g i (behind_extra {c = d} {bs = gs} {n = m} h j k) =
        let l = gathered-complete (By L C a e) bs ds b g i in
        record { less = m; start = d; same = refl; among = l.gathered d (by-same L C calls outputs a e b d gs l.given h l.gives j); fails = k }

  module _ (R : Relation) (i : ℕ) (r : Rule) where
    -- the reducts
    abbrev Result : Binding → Answer Tree → Type 0
    Result b = Reducts L C R r b

    -- the steps by what extras make of bindings
    abbrev Run : Avoided → List Extra → List Binding → Answer (List Step) → Type 0
    Run a es bs = Then (Extend L C a es bs) (Gather (λ b. Single (StepBy L C R i r b)))

    -- a step's fault is that of the reduct
    step-fails : (b : Binding) (f : Fault) → Single (StepBy L C R i r b) (fault f) → Reducts L C R r b (fault f)
    step-fails b f (stops (stops h)) = h
    step-fails b f (stops (goes h e)) = absurd (value_no_fault _ f (sym e))
    step-fails b f (goes h e) = absurd (value_no_fault _ f (sym e))

    -- where there is a step the reduct has none
    step-made : (b : Binding) (ss : List Step) (f : Fault) → Single (StepBy L C R i r b) (value ss) → Reducts L C R r b (fault f) → ⊥
    step-made b ss f h k =
        let l = reached (StepBy L C R i r b) (λ u a. a ≡ value (u ∷ [])) ss h in
        let m = reached (Reducts L C R r b) (λ u a. a ≡ value (record { rule = i; reduct = u })) l.between l.before in
        value_no_fault m.between f (once-reduct L C calls R r b (value m.between) (fault f) m.before k)

    -- where there are steps, no fault is met from any of these bindings on
    run-made : (a : Avoided) (es : List Extra) (bs : List Binding) (ss : List Step) → Run a es bs (value ss) → (b : Binding) (n : ℕ) (c : Binding) (f : Fault)
        → In b bs → FailsAfter L C Result a es b n c f → ⊥
    run-made a [] bs ss h b n c f j (in_result k) =
        let l = reached (Extend L C a [] bs) (Gather (λ d. Single (StepBy L C R i r d))) ss h in
        let g = gathered-complete (λ d. Single (StepBy L C R i r d)) l.between ss b l.behind
        (subst (λ (ds : List Binding). In b ds) (same_value l.between bs l.before) j) in
        step-made b g.given f g.gives k
    run-made a (e ∷ es) bs ss h b n c f j k =
        let l = reached (Extend L C a (e ∷ es) bs) (Gather (λ d. Single (StepBy L C R i r d))) ss h in
        let m = reached (ByEach L C a e bs) (Extend L C (behind a e) es) l.between l.before in
        let o = reached (Gather (By L C a e) bs) (λ ds. Lists binding_cmp (λ d. In d ds)) m.between m.before in
        let p = later Result a e es bs o.between b c n f o.before j k in
        run-made (behind a e) es m.between ss (goes m.behind l.behind) p.start p.less c f (in_listing o.between m.between o.behind p.start p.among)
        p.fails
      where
        in_listing : (ds cs : List Binding) → Lists binding_cmp (λ d. In d ds) (value cs) → (d : Binding) → In d ds → In d cs
        in_listing ds cs (lists q) d x = q.complete d x

    -- the fault is the first that is met from any of these bindings on
    record RunFails (a : Avoided) (es : List Extra) (bs : List Binding) (f : Fault) : Type 0 where
      start : Binding
      extras : ℕ
      binding : Binding
      among : In start bs
      fails : FailsAfter L C Result a es start extras binding f
      first_extra : (b : Binding) (n : ℕ) (c : Binding) (g : Fault) → In b bs → n < extras → FailsAfter L C Result a es b n c g → ⊥
      first_binding : (b c : Binding) (g : Fault) → In b bs → binding_cmp c binding ≡ Less → FailsAfter L C Result a es b extras c g → ⊥

    -- so it is where the result has it
    result-fails : (a : Avoided) (bs : List Binding) (f : Fault) → IsAscending binding_cmp bs → Gather (λ b. Single (StepBy L C R i r b)) bs (fault f)
        → RunFails a [] bs f
    result-fails a bs f s h =
        let k = gathered-fails binding_cmp binding_cmp-total (λ b. Single (StepBy L C R i r b)) bs f s h in
        record {
          start = k.at;
          extras = 0;
          binding = k.at;
          among = k.among;
          fails = in_result (step-fails k.at f k.fails);
          first_extra = λ b n c g j l m. absurd (omega (arith, l));
          first_binding = λ b c g j l m. let x = made b c g m in
              let y = k.before c (subst (λ (d : Binding). In d bs) x.1 j) l in step-made c y.0 g y.1 x.0;
        }
      where
        made : (b c : Binding) (g : Fault) → FailsAfter L C Result a [] b 0 c g → Reducts L C R r c (fault g) × (b ≡ c)
        made b c g (in_result m) = (m, refl)

    -- and where the first extra has it
    extra-fails : (a : Avoided) (e : Extra) (es : List Extra) (bs : List Binding) (f : Fault) → IsAscending binding_cmp bs
        → Gather (By L C a e) bs (fault f) → RunFails a (e ∷ es) bs f
    extra-fails a e es bs f s h =
        let k = gathered-fails binding_cmp binding_cmp-total (By L C a e) bs f s h in
        record {
          start = k.at;
          extras = 0;
          binding = k.at;
          among = k.among;
          fails = in_extra k.fails;
          first_extra = λ b n c g j l m. absurd (omega (arith, l));
          first_binding = λ b c g j l m. let x = first-fails Result a e es b c g m in
              let y = k.before c (subst (λ (d : Binding). In d bs) x.1 j) l in by-no_fault a e c y.0 g y.1 x.0;
        }

    -- and where what comes behind it has it
    later-fails : (a : Avoided) (e : Extra) (es : List Extra) (bs ds cs : List Binding) (f : Fault) → Gather (By L C a e) bs (value ds)
        → IsListing binding_cmp cs (λ c. In c ds) → RunFails (behind a e) es cs f → RunFails a (e ∷ es) bs f
    later-fails a e es bs ds cs f g l k =
        let from = gathered-sound (By L C a e) bs ds k.start g (l.sound k.start k.among) in
        record {
          start = from.from;
          extras = suc k.extras;
          binding = k.binding;
          among = from.among;
          fails = behind_extra {bs = from.given} from.gives from.one k.fails;
          first_extra = λ b n c h j m x. let y = later Result a e es bs ds b c n h g j x in
              k.first_extra y.start y.less c h (l.complete y.start y.among) (omega (arith, m, y.same)) y.fails;
          first_binding = λ b c h j m x. let y = later Result a e es bs ds b c (suc k.extras) h g j x in
              let z : y.less ≡ k.extras = omega (arith, y.same) in
              k.first_binding y.start c h (l.complete y.start y.among) m (subst (λ (n : ℕ). FailsAfter L C Result (behind a e) es y.start n c h) z y.fails);
        }

    run-fails : (a : Avoided) (es : List Extra) (bs : List Binding) (f : Fault) → IsAscending binding_cmp bs → Run a es bs (fault f) → RunFails a es bs f
    run-fails a [] bs f s (stops e) = absurd (value_no_fault _ f (sym e))
    run-fails a [] bs f s (goes {x = cs} e h) =
        result-fails a bs f s (subst (λ (ds : List Binding). Gather (λ b. Single (StepBy L C R i r b)) ds (fault f)) (sym (same_value cs bs e)) h)
    run-fails a (e ∷ es) bs f s (stops (stops (stops h))) = extra-fails a e es bs f s h
    run-fails a (e ∷ es) bs f s (stops (stops (goes h l))) = elim l [ ]
    run-fails a (e ∷ es) bs f s (stops (goes {x = cs} (goes {x = ds} g (lists l)) k)) =
        later-fails a e es bs ds cs f g l (run-fails (behind a e) es cs f l.ascending (stops k))
    run-fails a (e ∷ es) bs f s (goes {x = vs} (goes {x = cs} (goes {x = ds} g (lists l)) k) m) =
        later-fails a e es bs ds cs f g l (run-fails (behind a e) es cs f l.ascending (goes k m))

  -- ---- rules

  module _ (R : Relation) (t : Tree) where
    -- where a rule has steps it meets no fault
    rule-made : (i : ℕ) (r : Rule) (ss : List Step) → RuleSteps L C R t i r (value ss) → (n : ℕ) (b : Binding) (f : Fault)
        → MeetsFault L C (Reducts L C R) t t r n b f → ⊥
    rule-made i r ss (goes {x = vs} (goes {x = bs} (lists l) h) k) n b f m =
        run-made R i r (avoiding t) r.extras bs ss (goes h k) m.first n b f (l.complete m.first m.matched) m.fails

    -- the fault is the first that the rule meets
    record RuleFails (r : Rule) (f : Fault) : Type 0 where
      extras : ℕ
      binding : Binding
      met : MeetsFault L C (Reducts L C R) t t r extras binding f
      first_extra : (n : ℕ) (b : Binding) (g : Fault) → n < extras → MeetsFault L C (Reducts L C R) t t r n b g → ⊥
      first_binding : (b : Binding) (g : Fault) → binding_cmp b binding ≡ Less → MeetsFault L C (Reducts L C R) t t r extras b g → ⊥

    run-rule : (i : ℕ) (r : Rule) (bs : List Binding) (f : Fault) → IsListing binding_cmp bs (IsSeen (Match L r.pattern t))
        → RunFails R i r (avoiding t) r.extras bs f → RuleFails r f
    run-rule i r bs f l k = record {
      extras = k.extras;
      binding = k.binding;
      met = record { first = k.start; matched = l.sound k.start k.among; fails = k.fails };
      first_extra = λ n b g m x. k.first_extra x.first n b g (l.complete x.first x.matched) m x.fails;
      first_binding = λ b g m x. k.first_binding x.first b g (l.complete x.first x.matched) m x.fails;
    }

    -- so it is where the steps by it have the fault
    rule-fails : (i : ℕ) (r : Rule) (f : Fault) → RuleSteps L C R t i r (fault f) → RuleFails r f
    rule-fails i r f (stops (stops l)) = elim l [ ]
    rule-fails i r f (stops (goes {x = bs} (lists l) h)) =
        run-rule i r bs f l (run-fails R i r (avoiding t) r.extras bs f l.ascending (stops h))
    rule-fails i r f (goes {x = vs} (goes {x = bs} (lists l) h) k) =
        run-rule i r bs f l (run-fails R i r (avoiding t) r.extras bs f l.ascending (goes h k))

    -- where rules have steps none of them meets a fault
    all-made : (i : ℕ) (rs : List Rule) (ss : List Step) → AllSteps L C R t i rs (value ss) → (j : ℕ) (r : Rule) (n : ℕ) (b : Binding) (f : Fault)
        → slice_get rs j ≡ Some r → MeetsFault L C (Reducts L C R) t t r n b f → ⊥
    all-made i [] ss h j r n b f p m = absurd cc
    all-made i (q ∷ rs) ss (goes {x = us} h k) zero r n b f p m =
        let e : r ≡ q = cc in rule-made i q us h n b f (subst (λ (z : Rule). MeetsFault L C (Reducts L C R) t t z n b f) e m)
    all-made i (q ∷ rs) ss (goes {x = us} h (goes {x = vs} k l)) (suc j) r n b f p m = all-made (suc i) rs vs k j r n b f p m

    -- where they have a fault it is the first that they meet
    all-fails : (i : ℕ) (rs : List Rule) (f : Fault) → AllSteps L C R t i rs (fault f) → IsFirstMet (MeetsFault L C (Reducts L C R) t t) rs f
    all-fails i [] f e = absurd (value_no_fault _ f (sym e))
    all-fails i (r ∷ rs) f (stops h) =
        let k = rule-fails i r f h in
        record {
          place = 0;
          rule = r;
          extras = k.extras;
          binding = k.binding;
          placed = refl;
          met = k.met;
          first_rule = λ j q n b g l p m. absurd (omega (arith, l));
          first_extra = k.first_extra;
          first_binding = k.first_binding;
        }
    all-fails i (r ∷ rs) f (goes {x = us} h (stops k)) =
        let l = all-fails (suc i) rs f k in
        record {
          place = suc l.place;
          rule = l.rule;
          extras = l.extras;
          binding = l.binding;
          placed = l.placed;
          met = l.met;
          first_rule = before l.place l.first_rule;
          first_extra = l.first_extra;
          first_binding = l.first_binding;
        }
      where
        before : (k : ℕ) → ((j : ℕ) (q : Rule) (n : ℕ) (b : Binding) (g : Fault) → j < k → slice_get rs j ≡ Some q → MeetsFault L C (Reducts L C R) t t q n b g → ⊥)
            → (j : ℕ) (q : Rule) (n : ℕ) (b : Binding) (g : Fault) → j < suc k → slice_get (r ∷ rs) j ≡ Some q → MeetsFault L C (Reducts L C R) t t q n b g → ⊥
        before k d zero q n b g l p m = let e : q ≡ r = cc in rule-made i r us h n b g (subst (λ (z : Rule). MeetsFault L C (Reducts L C R) t t z n b g) e m)
        before k d (suc j) q n b g l p m = d j q n b g (omega (arith, l)) p m
    all-fails i (r ∷ rs) f (goes h (goes k e)) = absurd (value_no_fault _ f (sym e))

    -- a rule meets one fault behind so many extras with one binding
    meets-one : (r : Rule) (n : ℕ) (b : Binding) (f g : Fault) → MeetsFault L C (Reducts L C R) t t r n b f → MeetsFault L C (Reducts L C R) t t r n b g → f ≡ g
    meets-one r n b f g h k =
        fails-one (Reducts L C R r) (once-reduct L C calls R r) (avoiding t) r.extras h.first k.first b n f g h.fails k.fails

-- ---- the first fault

-- one of two bindings is before the other, or they are one
compared : (b c : Binding) → (binding_cmp b c ≡ Less) ⊎ (binding_cmp c b ≡ Less) ⊎ (b ≡ c)
compared b c = by_case (binding_cmp b c) refl
  where
    by_case : (o : Ordering) → binding_cmp b c ≡ o → (binding_cmp b c ≡ Less) ⊎ (binding_cmp c b ≡ Less) ⊎ (b ≡ c)
    by_case Less e = inl e
    by_case Equal e = inr (inr (binding_cmp-tells b c e))
    by_case Greater e = inr (inl (binding_cmp-total.antisymm c b ∙ ap ordering_reverse e))

module _ (M : Rule → ℕ → Binding → Fault → Type 0) (one : (r : Rule) (n : ℕ) (b : Binding) (f g : Fault) → M r n b f → M r n b g → f ≡ g)
    (rs : List Rule) where
  -- there is one first fault
  pub one_first : (f g : Fault) → IsFirstMet M rs f → IsFirstMet M rs g → f ≡ g
  one_first f g h k = by_place (cases_order h.place k.place)
    where
      by_binding : M k.rule k.extras h.binding f
          → (binding_cmp h.binding k.binding ≡ Less) ⊎ (binding_cmp k.binding h.binding ≡ Less) ⊎ (h.binding ≡ k.binding)
          → (binding_cmp k.binding h.binding ≡ Less → M k.rule k.extras k.binding g → ⊥) → f ≡ g
      by_binding m (inl l) d = absurd (k.first_binding h.binding f l m)
      by_binding m (inr (inl l)) d = absurd (d l k.met)
      by_binding m (inr (inr e)) d = one k.rule k.extras k.binding f g (subst (λ (b : Binding). M k.rule k.extras b f) e m) k.met

      by_extra : k.rule ≡ h.rule → (h.extras ≡ k.extras) ⊎ ((h.extras < k.extras) ⊎ (k.extras < h.extras)) → f ≡ g
      by_extra e (inl d) =
          by_binding (subst (λ (n : ℕ). M k.rule n h.binding f) d (subst (λ (r : Rule). M r h.extras h.binding f) (sym e) h.met))
          (compared h.binding k.binding)
          (λ l m. h.first_binding k.binding g l (subst (λ (n : ℕ). M h.rule n k.binding g) (sym d) (subst (λ (r : Rule). M r k.extras k.binding g) e m)))
      by_extra e (inr (inl l)) = absurd (k.first_extra h.extras h.binding f l (subst (λ (r : Rule). M r h.extras h.binding f) (sym e) h.met))
      by_extra e (inr (inr l)) = absurd (h.first_extra k.extras k.binding g l (subst (λ (r : Rule). M r k.extras k.binding g) e k.met))

      by_place : (h.place ≡ k.place) ⊎ ((h.place < k.place) ⊎ (k.place < h.place)) → f ≡ g
      by_place (inl e) =
          by_extra (same_rule (sym (ap (slice_get rs) e ∙ k.placed) ∙ h.placed)) (cases_order h.extras k.extras)
        where
          same_rule : Some k.rule ≡ Some h.rule → k.rule ≡ h.rule
          same_rule d = cc
      by_place (inr (inl l)) = absurd (k.first_rule h.place h.rule h.extras h.binding f l h.placed h.met)
      by_place (inr (inr l)) = absurd (h.first_rule k.place k.rule k.extras k.binding g l k.placed k.met)

-- ---- the answer of a relation

module _ (L : Language) (C : Calls) (calls : (f : List ℕ) (a : Tree) → Once (C.value_of f a))
    (outputs : (j : List ℕ) (a : Tree) → Once (C.outputs_of j a)) (R : Relation) (t : Tree) where
  -- what is first here
  abbrev First : Fault → Type 0
  First f = IsFirst L R (MeetsFault L C (Reducts L C R) t t) R.rules t f

  -- where rules have a fault it is the first that they meet
  listed-fails : (f : Fault) → Listed L C R t (fault f) → IsFirstMet (MeetsFault L C (Reducts L C R) t t) R.rules f
  listed-fails f (stops k) = all-fails L C calls outputs R t 0 R.rules f k
  listed-fails f (goes k l) = elim l [ ]

  -- where they have steps they meet none
  listed-made : (ss : List Step) (f : Fault) → Listed L C R t (value ss) → IsFirstMet (MeetsFault L C (Reducts L C R) t t) R.rules f → ⊥
  listed-made ss f (goes {x = us} k l) m = all-made L C calls outputs R t 0 R.rules us k m.place m.rule m.extras m.binding f m.placed m.met

  -- a fault of the relation is the first
  steps-fail : (f : Fault) → Steps L C R t (fault f) → First f
  steps-fail f h = elim (asked-fails L R.domain t (not_contract R.name sides.In t) (Listed L C R t) f h) [
    | inl k ↦ at_term (record { outside = k.0; named = k.1 })
    | inr k ↦ by_rules (record { inside = k.0; first = listed-fails f k.1 })
  ]

  -- where it has steps there is none
  steps-made : (ss : List Step) (f : Fault) → Steps L C R t (value ss) → First f → ⊥
  steps-made ss f h (at_term k) = k.outside (asked-inside L R.domain t (not_contract R.name sides.In t) (Listed L C R t) ss h)
  steps-made ss f h (by_rules k) = listed-made ss f (steps-listed L C calls outputs R t ss h) k.first

  -- and there is one
  first-one : (f g : Fault) → First f → First g → f ≡ g
  first-one f g (at_term h) (at_term k) = h.named ∙ sym k.named
  first-one f g (at_term h) (by_rules k) = absurd (h.outside k.inside)
  first-one f g (by_rules h) (at_term k) = absurd (k.outside h.inside)
  first-one f g (by_rules h) (by_rules k) =
      one_first (MeetsFault L C (Reducts L C R) t t) (meets-one L C calls outputs R t) R.rules f g h.first k.first

  -- so whatever it is answered, the first fault is the answer
  first-answered : (f : Fault) (r : Answer (List Step)) → Steps L C R t r → First f → r ≡ fault f
  first-answered f (value ss) k m = absurd (steps-made ss f k m)
  first-answered f (fault g) k m = ap fault (first-one g f (steps-fail g k) m)

pub answers_first : AnswersFirst
answers_first L P n R t f a h =
    let C : Calls = calls_at P n in (
      λ e. steps-fail L C (once-call P n) (once-outputs P n) R t f (subst (Steps L C R t) e h),
      first-answered L C (once-call P n) (once-outputs P n) R t f a h,
    )
