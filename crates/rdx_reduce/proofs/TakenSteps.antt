-- Where there is no fault the steps that are listed are those that the rules take.
use Rattle.std.proofs.Common.{◌≡◌, ℕ, zero, suc, ◌+◌, List, [], ◌∷◌, ◌++◌, Some, refl, sym, ◌∙◌, ap, subst, inl, inr, add-zero, slice_get, arith}
use Rattle.std.specs.declared.cmp.Ordering.{Ordering}
use Rattle.rdx_term.specs.Tree.{Tree}
use Rattle.rdx_lang.specs.Bindings.{Binding}
use Rattle.rdx_lang.specs.Listing.{IsListing, IsSeen}
use Rattle.rdx_lang.specs.Members.{In, here}
use Rattle.rdx_lang.specs.Model.TotalOrders.{binding_cmp-total}
use Rattle.rdx_lang.specs.Order.{binding_cmp}
use Rattle.rdx_lang.specs.Patterns.{Language}
use Rattle.rdx_lang.specs.Programs.{Extra, Relation, Rule}
use Rattle.rdx_lang.specs.Rules.{Match}
use Rattle.rdx_lang.proofs.Collecting.{only, listing_of}
use Rattle.rdx_lang.proofs.MemberLaws.{in-append, append-left, append-right}
use Rattle.rdx_lang.proofs.OrderLaws.{binding_cmp-tells}
use Rattle.rdx_eval.specs.Answers.{Answer, value, not_contract, Then, goes, Gather, Single, Lists, lists}
use Rattle.rdx_eval.specs.Calls.{Calls}
use Rattle.rdx_eval.specs.Extending.{By, ByEach, Extend, Survivors}
use Rattle.rdx_eval.specs.Fresh.{Avoided, avoiding, behind}
use Rattle.rdx_eval.specs.Heights.{calls_at}
use Rattle.rdx_eval.specs.Instantiation.{Makes}
use Rattle.rdx_eval.specs.Laws.{Once}
use Rattle.rdx_eval.specs.declared.fault.Side.TheVariants as sides
use Rattle.rdx_eval.proofs.ContractLaws.{asked-value}
use Rattle.rdx_eval.proofs.OneAnswer.{once-call, once-outputs, once-extend, once-inst, same_value}
use Rattle.rdx_eval.proofs.SomeAnswer.{some-lists}
use Rattle.rdx_reduce.specs.Steps.{Step, step_cmp, Reducts, StepBy, RuleSteps, AllSteps, Listed, Steps}
use Rattle.rdx_reduce.specs.TakenSteps.{LeadTo, no_extra, one_extra, TakesStep, IsTaken, ListsTaken, IsInDomain, StaysInDomain}
use Rattle.rdx_reduce.proofs.Domains.{asked-inside, reduct_made, reduct_inside}
use Rattle.rdx_eval.proofs.Reached.{reached, gathered-sound, gathered-complete}

-- what lists the members of a set lists them
listing_in : {A : Type 0} (cmp : A → A → Ordering) (R : A → Type 0) (xs : List A) → Lists cmp R (value xs) → IsListing cmp xs R
listing_in cmp R xs (lists l) = l

-- a listing of the members of a list
listing_from : {A : Type 0} (cmp : A → A → Ordering) (R : A → Type 0) (r : Answer (List A)) → Lists cmp R r → (xs : List A) × IsListing cmp xs R
listing_from cmp R r (lists {xs = xs} l) = (xs, l)

module _ (L : Language) (C : Calls) (calls : (f : List ℕ) (a : Tree) → Once (C.value_of f a))
    (outputs : (j : List ℕ) (a : Tree) → Once (C.outputs_of j a)) where
  -- the listing of what an extra makes of one binding
  pub by_alone : (a : Avoided) (e : Extra) (b : Binding) (cs : List Binding) → By L C a e b (value cs)
      → (ds : List Binding) × Extend L C a (e ∷ []) (b ∷ []) (value ds) × IsListing binding_cmp ds (λ c. In c (cs ++ []))
  by_alone a e b cs h =
      let some = some-lists binding_cmp binding_cmp-total binding_cmp-tells (cs ++ []) in
      let k = listing_from binding_cmp (λ c. In c (cs ++ [])) some.answer some.allowed in
      (k.0, goes (goes (goes h (goes refl refl)) (lists k.1)) refl, k.1)

  -- what an extra makes of a binding has the same members each time
  pub by-same : (a : Avoided) (e : Extra) (b c : Binding) (cs ds : List Binding) → By L C a e b (value cs) → By L C a e b (value ds) → In c cs → In c ds
  by-same a e b c cs ds h k i =
      let m = by_alone a e b cs h in
      let n = by_alone a e b ds k in
      let same = once-extend L C calls outputs a (e ∷ []) (b ∷ []) (value m.0) (value n.0) m.1 n.1 in
      let j : In c n.0 = subst (λ (fs : List Binding). In c fs) (sym (same_value m.0 n.0 same)) (m.2.complete c (append-left cs [] c i)) in
      elim (in-append ds [] c (n.2.sound c j)) [ inl l ↦ l | inr r ↦ elim r [ ] ]

  -- one of these bindings, from which the extras lead to c
  record LedFrom (a : Avoided) (es : List Extra) (bs : List Binding) (c : Binding) : Type 0 where
    start : Binding
    among : In start bs
    leads : LeadTo L C a es start c

  -- what extras leave comes of one of the bindings before them
  extended-sound : (a : Avoided) (es : List Extra) (bs cs : List Binding) (c : Binding) → Extend L C a es bs (value cs) → In c cs → LedFrom a es bs c
  extended-sound a [] bs cs c h i =
      record { start = c; among = subst (λ (ds : List Binding). In c ds) (sym (same_value cs bs h)) i; leads = no_extra }
  extended-sound a (e ∷ es) bs cs c h i =
      let k = reached (ByEach L C a e bs) (Extend L C (behind a e) es) cs h in
      let l = reached (Gather (By L C a e) bs) (λ ds. Lists binding_cmp (λ d. In d ds)) k.between k.before in
      let r = extended-sound (behind a e) es k.between cs c k.behind i in
      let listing = listing_in binding_cmp (λ d. In d l.between) k.between l.behind in
      let g = gathered-sound (By L C a e) bs l.between r.start l.before (listing.sound r.start r.among) in
      record { start = g.from; among = g.among; leads = one_extra {bs = g.given} g.gives g.one r.leads }

  -- and what comes of one is left
  extended-complete : (a : Avoided) (es : List Extra) (bs cs : List Binding) (b c : Binding) → Extend L C a es bs (value cs) → In b bs
      → LeadTo L C a es b c → In c cs
  extended-complete a [] bs cs b c h i no_extra = subst (λ (ds : List Binding). In b ds) (same_value cs bs h) i
  extended-complete a (e ∷ es) bs cs b c h i (one_extra {c = d} {bs = ds} m j n) =
      let k = reached (ByEach L C a e bs) (Extend L C (behind a e) es) cs h in
      let l = reached (Gather (By L C a e) bs) (λ fs. Lists binding_cmp (λ f. In f fs)) k.between k.before in
      let listing = listing_in binding_cmp (λ f. In f l.between) k.between l.behind in
      let g = gathered-complete (By L C a e) bs l.between b l.before i in
      let o : In d l.between = g.gathered d (by-same a e b d ds g.given m g.gives j) in
      extended-complete (behind a e) es k.between cs d c k.behind (listing.complete d o) n

  module _ (R : Relation) (t : Tree) where
    -- a step that is listed by one binding leads to a reduct
    one_step_in : (i : ℕ) (r : Rule) (b : Binding) (s : Step) (ss : List Step) → Single (StepBy L C R i r b) (value ss) → In s ss
        → Reducts L C R r b (value s.reduct) × (s.rule ≡ i)
    one_step_in i r b s ss h k =
        let l = reached (StepBy L C R i r b) (λ u a. a ≡ value (u ∷ [])) ss h in
        let m = reached (Reducts L C R r b) (λ u a. a ≡ value (record { rule = i; reduct = u })) l.between l.before in
        let e : record { rule = i; reduct = m.between } ≡ s =
        same_value l.between (record { rule = i; reduct = m.between }) m.behind
        ∙ sym (only (subst (λ (us : List Step). In s us) (sym (same_value ss (l.between ∷ []) l.behind)) k)) in
        (subst (λ (u : Step). Reducts L C R r b (value u.reduct)) e m.before, sym (ap (λ (u : Step). u.rule) e))

    -- and the step to what the result makes is listed
    step_there : (i : ℕ) (r : Rule) (b : Binding) (u : Tree) (ss : List Step) → Single (StepBy L C R i r b) (value ss) → Makes C b r.result (value u)
        → In (record { rule = i; reduct = u }) ss
    step_there i r b u ss h k =
        let l = reached (StepBy L C R i r b) (λ v a. a ≡ value (v ∷ [])) ss h in
        let m = reached (Reducts L C R r b) (λ v a. a ≡ value (record { rule = i; reduct = v })) l.between l.before in
        let e : u ≡ m.between =
        same_value m.between u (once-inst C calls b [] r.result (value m.between) (value u) (reduct_made L C R r b m.between m.before) k) in
        subst (λ (us : List Step). In (record { rule = i; reduct = u }) us) (same_value ss (l.between ∷ []) l.behind)
        (here ((λ j. record { rule = i; reduct = e j }) ∙ same_value l.between (record { rule = i; reduct = m.between }) m.behind))

    -- each step that is listed by a rule is one that it takes, to a term in the domain
    rule-sound : (i : ℕ) (r : Rule) (ss : List Step) (s : Step) → RuleSteps L C R t i r (value ss) → In s ss
        → TakesStep L C t r t s.reduct × (s.rule ≡ i) × IsInDomain L R.domain s.reduct
    rule-sound i r ss s h k =
        let l = reached (Survivors L C t r.pattern r.extras) (Gather (λ b. Single (StepBy L C R i r b))) ss h in
        let m = reached (Lists binding_cmp (IsSeen (Match L r.pattern t))) (Extend L C (avoiding t) r.extras) l.between l.before in
        let listing = listing_in binding_cmp (IsSeen (Match L r.pattern t)) m.between m.before in
        let g = gathered-sound (λ b. Single (StepBy L C R i r b)) l.between ss s l.behind k in
        let o = one_step_in i r g.from s g.given g.gives g.one in
        let e = extended-sound (avoiding t) r.extras m.between l.between g.from m.behind g.among in
        let made : Makes C g.from r.result (value s.reduct) = reduct_made L C R r g.from s.reduct o.0 in (
          record { first = e.start; last = g.from; matched = listing.sound e.start e.among; extended = e.leads; made = made },
          o.1,
          reduct_inside L C R r g.from s.reduct o.0,
        )

    -- and each that it takes is listed
    rule-complete : (i : ℕ) (r : Rule) (ss : List Step) (u : Tree) → RuleSteps L C R t i r (value ss) → TakesStep L C t r t u
        → In (record { rule = i; reduct = u }) ss
    rule-complete i r ss u h k =
        let l = reached (Survivors L C t r.pattern r.extras) (Gather (λ b. Single (StepBy L C R i r b))) ss h in
        let m = reached (Lists binding_cmp (IsSeen (Match L r.pattern t))) (Extend L C (avoiding t) r.extras) l.between l.before in
        let listing = listing_in binding_cmp (IsSeen (Match L r.pattern t)) m.between m.before in
        let e = extended-complete (avoiding t) r.extras m.between l.between k.first k.last m.behind (listing.complete k.first k.matched) k.extended in
        let g = gathered-complete (λ b. Single (StepBy L C R i r b)) l.between ss k.last l.behind e in
        g.gathered (record { rule = i; reduct = u }) (step_there i r k.last u g.given g.gives k.made)

    -- the rule that is so far behind the first takes the step, whose place is counted from i on
    record TakenFrom (i : ℕ) (rs : List Rule) (s : Step) : Type 0 where
      rule : Rule
      behind : ℕ
      placed : slice_get rs behind ≡ Some rule
      same : s.rule ≡ i + behind
      taken : TakesStep L C t rule t s.reduct
      inside : IsInDomain L R.domain s.reduct

    -- each step that is listed by the rules is such a step
    all-sound : (i : ℕ) (rs : List Rule) (ss : List Step) (s : Step) → AllSteps L C R t i rs (value ss) → In s ss → TakenFrom i rs s
    all-sound i [] ss s h k = elim (subst (λ (us : List Step). In s us) (sym (same_value ss [] h)) k) [ ]
    all-sound i (r ∷ rs) ss s h k =
        let l = reached (RuleSteps L C R t i r) (λ us. Then (AllSteps L C R t (suc i) rs) (λ vs a. a ≡ value (us ++ vs))) ss h in
        let m = reached (AllSteps L C R t (suc i) rs) (λ vs a. a ≡ value (l.between ++ vs)) ss l.behind in
        elim (in-append l.between m.between s (subst (λ (us : List Step). In s us) (sym (same_value ss (l.between ++ m.between) m.behind)) k)) [
          | inl j ↦ let o = rule-sound i r l.between s l.before j in
              record { rule = r; behind = 0; placed = refl; same = o.1 ∙ sym (add-zero i); taken = o.0; inside = o.2 }
          | inr j ↦ let o = all-sound (suc i) rs m.between s m.before j in
              record { rule = o.rule; behind = suc o.behind; placed = o.placed; same = o.same ∙ next o.behind; taken = o.taken; inside = o.inside }
        ]
      where
        next : (k : ℕ) → suc i + k ≡ i + suc k
        next k = omega arith

    -- and each such step is listed
    all-complete : (i k : ℕ) (rs : List Rule) (ss : List Step) (r : Rule) (u : Tree) → AllSteps L C R t i rs (value ss) → slice_get rs k ≡ Some r
        → TakesStep L C t r t u → In (record { rule = i + k; reduct = u }) ss
    all-complete i k [] ss r u h e s = absurd cc
    all-complete i zero (z ∷ rs) ss r u h e s =
        let l = reached (RuleSteps L C R t i z) (λ us. Then (AllSteps L C R t (suc i) rs) (λ vs a. a ≡ value (us ++ vs))) ss h in
        let m = reached (AllSteps L C R t (suc i) rs) (λ vs a. a ≡ value (l.between ++ vs)) ss l.behind in
        let d : r ≡ z = cc in
        let o : In (record { rule = i; reduct = u }) l.between =
        rule-complete i z l.between u l.before (subst (λ (q : Rule). TakesStep L C t q t u) d s) in
        let j : In (record { rule = i + 0; reduct = u }) l.between =
        subst (λ (n : ℕ). In (record { rule = n; reduct = u }) l.between) (sym (add-zero i)) o in
        subst (λ (us : List Step). In (record { rule = i + 0; reduct = u }) us) (same_value ss (l.between ++ m.between) m.behind)
        (append-left l.between m.between (record { rule = i + 0; reduct = u }) j)
    all-complete i (suc k) (z ∷ rs) ss r u h e s =
        let l = reached (RuleSteps L C R t i z) (λ us. Then (AllSteps L C R t (suc i) rs) (λ vs a. a ≡ value (us ++ vs))) ss h in
        let m = reached (AllSteps L C R t (suc i) rs) (λ vs a. a ≡ value (l.between ++ vs)) ss l.behind in
        let o : In (record { rule = suc i + k; reduct = u }) m.between = all-complete (suc i) k rs m.between r u m.before e s in
        let next : suc i + k ≡ i + suc k = omega arith in
        let j : In (record { rule = i + suc k; reduct = u }) m.between =
        subst (λ (n : ℕ). In (record { rule = n; reduct = u }) m.between) next o in
        subst (λ (us : List Step). In (record { rule = i + suc k; reduct = u }) us) (same_value ss (l.between ++ m.between) m.behind)
        (append-right l.between m.between (record { rule = i + suc k; reduct = u }) j)

    -- the listing of them
    listed-taken : (ss : List Step) → Listed L C R t (value ss)
        → IsListing step_cmp ss (IsTaken L C t R.rules) × ((s : Step) → In s ss → IsInDomain L R.domain s.reduct)
    listed-taken ss h =
        let k = reached (AllSteps L C R t 0 R.rules) (λ us. Lists step_cmp (λ s. In s us)) ss h in
        let l = listing_in step_cmp (λ s. In s k.between) ss k.behind in (
          listing_of (sound k.between k.before) (complete k.between k.before) l,
          λ s i. (all-sound 0 R.rules k.between s k.before (l.sound s i)).inside,
        )
      where
        from_none : (n : ℕ) → 0 + n ≡ n
        from_none n = omega arith

        sound : (us : List Step) → AllSteps L C R t 0 R.rules (value us) → (s : Step) → In s us → IsTaken L C t R.rules s
        sound us l s i = let g = all-sound 0 R.rules us s l i in
            let e : s.rule ≡ g.behind = g.same ∙ from_none g.behind in
            record { rule = g.rule; placed = ap (slice_get R.rules) e ∙ g.placed; taken = g.taken }

        complete : (us : List Step) → AllSteps L C R t 0 R.rules (value us) → (s : Step) → IsTaken L C t R.rules s → In s us
        complete us l s g =
            subst (λ (n : ℕ). In (record { rule = n; reduct = s.reduct }) us) (from_none s.rule)
            (all-complete 0 s.rule R.rules us g.rule s.reduct l g.placed g.taken)

    -- a relation that takes steps lists them
    pub steps-listed : (ss : List Step) → Steps L C R t (value ss) → Listed L C R t (value ss)
    steps-listed ss h = asked-value L R.domain t (not_contract R.name sides.In t) (Listed L C R t) ss h

    -- they are those that its rules take
    pub steps-taken : (ss : List Step) → Steps L C R t (value ss) → IsListing step_cmp ss (IsTaken L C t R.rules)
    steps-taken ss h = (listed-taken ss (steps-listed ss h)).0

    -- the term is in the domain, and so is each that they lead to
    pub steps-inside : (ss : List Step) → Steps L C R t (value ss)
        → IsInDomain L R.domain t × ((s : Step) → In s ss → IsInDomain L R.domain s.reduct)
    steps-inside ss h =
        (asked-inside L R.domain t (not_contract R.name sides.In t) (Listed L C R t) ss h, (listed-taken ss (steps-listed ss h)).1)

pub lists_taken : ListsTaken
lists_taken L P n R t ss h = steps-taken L (calls_at P n) (once-call P n) (once-outputs P n) R t ss h

pub stays_in_domain : StaysInDomain
stays_in_domain L P n R t ss h = steps-inside L (calls_at P n) (once-call P n) (once-outputs P n) R t ss h
