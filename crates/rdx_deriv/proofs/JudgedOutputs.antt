-- What a judgement is answered are the outputs that its rules have, at each height up to that of a program's calls: what is made at a lower
-- height is made there too, and is the same, since each has one answer.
use Rattle.std.proofs.Common.{◌≡◌, ℕ, zero, suc, ◌+◌, List, [], ◌∷◌, Option, Some, None, refl, sym, subst, add-zero, arith, slice_get}
use Rattle.rdx_term.specs.Order.{tree_cmp}
use Rattle.rdx_term.specs.Tree.{Tree}
use Rattle.rdx_lang.specs.Ascending.{IsAscending}
use Rattle.rdx_lang.specs.Bindings.{Binding, visible}
use Rattle.rdx_lang.specs.Listing.{IsListing, IsSeen}
use Rattle.rdx_lang.specs.Members.{In, here}
use Rattle.rdx_lang.specs.Order.{binding_cmp}
use Rattle.rdx_lang.specs.Patterns.{Pattern, Language}
use Rattle.rdx_lang.specs.Programs.{Extra, such_as, provided, holds, fresh, Judgement, JudgementRule, Program, judgement_named, language_named}
use Rattle.rdx_lang.specs.Rules.{Match}
use Rattle.rdx_lang.specs.Templates.{Template}
use Rattle.rdx_lang.proofs.Collecting.{only, no_member}
use Rattle.rdx_eval.specs.Answers.{Answer, value, Fault, not_contract, goes, Gather, Single, Lists, lists}
use Rattle.rdx_eval.specs.Asking.{AskedIf, Decided, asked_in, asked_out}
use Rattle.rdx_eval.specs.Calls.{Calls}
use Rattle.rdx_eval.specs.Extending.{Extend, Survivors}
use Rattle.rdx_eval.specs.Fresh.{Avoided, avoiding, behind}
use Rattle.rdx_eval.specs.Heights.{calls_at, height}
use Rattle.rdx_eval.specs.Instantiation.{MakeList}
use Rattle.rdx_eval.specs.Judgements.{OutputList, OutputLists, RuleOutputs, Rules, RulesOver, OutputsBy, Outputs}
use Rattle.rdx_eval.specs.Laws.{Keeps}
use Rattle.rdx_eval.specs.declared.fault.Side.TheVariants as sides
use Rattle.rdx_eval.proofs.ContractLaws.{asked-value, output_made}
use Rattle.rdx_eval.proofs.OneAnswer.{same_value}
use Rattle.rdx_eval.proofs.Reached.{reached, gathered-sound, gathered-complete}
use Rattle.rdx_eval.proofs.Staying.{values-stay}
use Rattle.rdx_deriv.specs.Judged.{Fits, IsRuleFor, Judged, judged_by, Leads, leads_end, leads_where, leads_condition, leads_premise, leads_fresh, calls}
use Rattle.rdx_deriv.specs.Laws.{OutputsAreJudged}
use Rattle.rdx_deriv.proofs.Complete.{in-placed}
use Rattle.rdx_deriv.proofs.OneExtra.{list-there, list-same, where-made, condition-made, premise-made, fresh-made, extended-sound, extended-next, listing_in}
use Rattle.rdx_deriv.proofs.Sound.{placed-in}

-- ---- contracts

-- where something is answered, the term matches the pattern, if there is one
asked-fits : {A : Type 0} (L : Language) (o : Option Pattern) (t : Tree) (bad : Fault) (R : Answer A → Type 0) (x : A)
    → AskedIf L o t bad R (value x) → Fits L o t
asked-fits L None t bad R x h = tt
asked-fits L (Some p) t bad R x (goes {x = bs} (lists l) h) = decided bs l h
  where
    decided : (cs : List Binding) → IsListing binding_cmp cs (IsSeen (Match L p t)) → Decided bad R cs (value x) → Fits L (Some p) t
    decided [] l k = absurd cc
    decided (b ∷ cs) l k = let m = l.sound b (here refl) in (m.whole, m.holds)

-- each list of outputs does
output-fits : (L : Language) (C : Calls) (j : List ℕ) (o : Option Pattern) (ms : List Template) (b : Binding) (t : Tree)
    → OutputList L C j o ms b (value t) → Fits L o t
output-fits L C j o ms b t (goes {x = u} h k) =
    let e : value t ≡ value u = asked-value L o u (not_contract j sides.Out u) (λ r. r ≡ value u) t k in
    subst (λ (v : Tree). Fits L o v) (same_value t u e) (asked-fits L o u (not_contract j sides.Out u) (λ r. r ≡ value u) t k)

-- ---- heights

-- at no height nothing is answered
outputs-none : (P : Program) (j : List ℕ) (a : Tree) (os : List Tree) {X : Type 0} → (calls_at P 0).outputs_of j a (value os) → X
unfolding calls_at
outputs-none P j a os h = absurd cc

-- above it is what the rules make at one height less
outputs-some : (P : Program) (n : ℕ) (j : List ℕ) (a : Tree) (os : List Tree) → (calls_at P (suc n)).outputs_of j a (value os)
    → Outputs P (calls_at P n) j a (value os)
unfolding calls_at
outputs-some P n j a os h = h

-- what a call is answered at a lower height it is answered at the height
stays-up : (P : Program) (n k : ℕ) → n + k ≡ height → (f : List ℕ) (a : Tree) → Keeps ((calls_at P n).value_of f a) ((calls P).value_of f a)
stays-up P n k e f a = subst (λ (m : ℕ). Keeps ((calls_at P n).value_of f a) ((calls_at P m).value_of f a)) e (values-stay P n k f a)

-- one height less, and one more that is left
one_less : (n k : ℕ) → suc n + k ≡ height → n + suc k ≡ height
one_less n k e = omega (arith, e)

-- ---- one value as a list

module _ {A : Type 0} (R : Answer A → Type 0) (xs : List A) (x : A) (h : Single R (value xs)) where
  -- its member is the value
  single-sound : In x xs → R (value x)
  single-sound i =
      let k = reached R (λ y r. r ≡ value (y ∷ [])) xs h in
      let e : x ≡ k.between = only (subst (λ (ys : List A). In x ys) (sym (same_value xs (k.between ∷ []) k.behind)) i) in
      subst (λ (y : A). R (value y)) (sym e) k.before

  -- and what is equal to the value is its member
  single-complete : ((y : A) → R (value y) → x ≡ y) → In x xs
  single-complete f =
      let k = reached R (λ y r. r ≡ value (y ∷ [])) xs h in
      subst (λ (ys : List A). In x ys) (same_value xs (k.between ∷ []) k.behind) (here (f k.between k.before))

-- ---- rules

module _ (P : Program) (C : Calls) (stays : (f : List ℕ) (a : Tree) → Keeps (C.value_of f a) ((calls P).value_of f a)) where
  module _ (j : List ℕ) (a : Tree) where
    -- what a rule has by one binding
    record ByRule (L : Language) (out : Option Pattern) (r : JudgementRule) (o : Tree) : Type 0 where
      found : Binding
      final : Binding
      matches : Match L r.inputs a found
      leads : Leads P L (avoiding a) r.extras (visible found) final
      made : MakeList (calls P) final r.outputs (value o)
      fits : Fits L out o

    -- it has them where what is seen of a match leads on to the binding
    by_seen : (L : Language) (out : Option Pattern) (r : JudgementRule) (o : Tree) (b c : Binding) → IsSeen (Match L r.inputs a) b
        → Leads P L (avoiding a) r.extras b c → OutputList L C j out r.outputs c (value o) → ByRule L out r o
    by_seen L out r o b c s g h = record {
      found = s.whole;
      final = c;
      matches = s.holds;
      leads = subst (λ (d : Binding). Leads P L (avoiding a) r.extras d c) s.seen g;
      made = list-there P C stays c r.outputs o (output_made L C j out r.outputs c o h);
      fits = output-fits L C j out r.outputs c o h;
    }

    -- each list of outputs of a rule is one that it has
    rule-sound : ((i : List ℕ) (t : Tree) (os : List Tree) (o : Tree) → C.outputs_of i t (value os) → In o os → Judged P i t o)
        → (L : Language) (out : Option Pattern) (r : JudgementRule) (us : List Tree) (o : Tree) → RuleOutputs L C j out a r (value us) → In o us
        → ByRule L out r o
    rule-sound s L out r us o h i =
        let k = reached (Survivors L C a r.inputs r.extras) (OutputLists L C j out r.outputs) us h in
        let m = reached (Lists binding_cmp (IsSeen (Match L r.inputs a))) (Extend L C (avoiding a) r.extras) k.between k.before in
        let g = gathered-sound (λ b. Single (OutputList L C j out r.outputs b)) k.between us o k.behind i in
        let f = extended-sound P C stays L s (avoiding a) r.extras m.between k.between g.from m.behind g.among in
        by_seen L out r o f.start g.from ((listing_in binding_cmp (IsSeen (Match L r.inputs a)) m.between m.before).sound f.start f.among) f.leads
        (single-sound (OutputList L C j out r.outputs g.from) g.given o g.gives g.one)

    -- and each that it has is one of them
    rule-complete : (L : Language) (out : Option Pattern) (r : JudgementRule) (us : List Tree) (o : Tree) (b c : Binding)
        → RuleOutputs L C j out a r (value us) → Match L r.inputs a b
        → ((bs cs : List Binding) → Extend L C (avoiding a) r.extras bs (value cs) → In (visible b) bs → In c cs)
        → MakeList (calls P) c r.outputs (value o) → In o us
    rule-complete L out r us o b c h m s q =
        let k = reached (Survivors L C a r.inputs r.extras) (OutputLists L C j out r.outputs) us h in
        let n = reached (Lists binding_cmp (IsSeen (Match L r.inputs a))) (Extend L C (avoiding a) r.extras) k.between k.before in
        let listing = listing_in binding_cmp (IsSeen (Match L r.inputs a)) n.between n.before in
        let i : In c k.between =
        s n.between k.between n.behind (listing.complete (visible b) (record { whole = b; holds = m; seen = refl })) in
        let g = gathered-complete (λ d. Single (OutputList L C j out r.outputs d)) k.between us c k.behind i in
        g.gathered o
        (single-complete (OutputList L C j out r.outputs c) g.given o g.gives
        (λ u x. list-same P C stays c r.outputs u o (output_made L C j out r.outputs c u x) q))

    -- what is answered by the rules ascends
    over-ascends : (J : Judgement) (m : Option Language) (os : List Tree) → RulesOver m C J.contract j a J.rules (value os) → IsAscending tree_cmp os
    over-ascends J None os h = subst (λ (us : List Tree). IsAscending tree_cmp us) (same_value os [] h) tt
    over-ascends J (Some L) os h =
        by_rules (asked-value L (asked_in J.contract) a (not_contract j sides.In a) (Rules L C j (asked_out J.contract) a J.rules) os h)
      where
        by_rules : Rules L C j (asked_out J.contract) a J.rules (value os) → IsAscending tree_cmp os
        by_rules (goes k (lists l)) = l.ascending

    outputs-ascend : (q : Option Judgement) (os : List Tree) → OutputsBy P C q j a (value os) → IsAscending tree_cmp os
    outputs-ascend None os h = subst (λ (us : List Tree). IsAscending tree_cmp us) (same_value os [] h) tt
    outputs-ascend (Some J) os h = over-ascends J (language_named P J.language) os h

    -- what one of the rules has is judged
    by_one : (L : Language) (J : Judgement) (i : ℕ) (r : JudgementRule) (o : Tree) → judgement_named P j ≡ Some J
        → language_named P J.language ≡ Some L → slice_get J.rules i ≡ Some r → Fits L (asked_in J.contract) a → ByRule L (asked_out J.contract) r o
        → Judged P j a o
    by_one L J i r o d e p f b =
        judged_by {i = i} (record { judgement = J; named = d; language = e; there = p; inputs = f; outputs = b.fits }) b.matches b.leads b.made

    -- each of them is judged
    over-sound : ((i : List ℕ) (t : Tree) (os : List Tree) (o : Tree) → C.outputs_of i t (value os) → In o os → Judged P i t o)
        → (J : Judgement) → judgement_named P j ≡ Some J → (m : Option Language) → language_named P J.language ≡ m → (os : List Tree) (o : Tree)
        → RulesOver m C J.contract j a J.rules (value os) → In o os → Judged P j a o
    over-sound s J d None e os o h i = no_member (subst (λ (us : List Tree). In o us) (sym (same_value os [] h)) i)
    over-sound s J d (Some L) e os o h i =
        let all = Rules L C j (asked_out J.contract) a J.rules in
        let k = reached (Gather (RuleOutputs L C j (asked_out J.contract) a) J.rules) (λ ts. Lists tree_cmp (λ t. In t ts)) os
        (asked-value L (asked_in J.contract) a (not_contract j sides.In a) all os h) in
        let listing = listing_in tree_cmp (λ t. In t k.between) os k.behind in
        let g = gathered-sound (RuleOutputs L C j (asked_out J.contract) a) J.rules k.between o k.before (listing.sound o i) in
        let p = in-placed J.rules g.from g.among in
        by_one L J p.0 g.from o d e p.1 (asked-fits L (asked_in J.contract) a (not_contract j sides.In a) all os h)
        (rule-sound s L (asked_out J.contract) g.from g.given o g.gives g.one)

    outputs-sound : ((i : List ℕ) (t : Tree) (os : List Tree) (o : Tree) → C.outputs_of i t (value os) → In o os → Judged P i t o)
        → (q : Option Judgement) → judgement_named P j ≡ q → (os : List Tree) (o : Tree) → OutputsBy P C q j a (value os) → In o os → Judged P j a o
    outputs-sound s None d os o h i = no_member (subst (λ (us : List Tree). In o us) (sym (same_value os [] h)) i)
    outputs-sound s (Some J) d os o h i = over-sound s J d (language_named P J.language) refl os o h i

    -- the outputs of one rule are among all
    outputs-complete : (L : Language) (i : ℕ) (r : JudgementRule) (o : Tree) (f : IsRuleFor P j L i r a o) (os : List Tree)
        → Outputs P C j a (value os) → ((us : List Tree) → RuleOutputs L C j (asked_out f.judgement.contract) a r (value us) → In o us) → In o os
    outputs-complete L i r o f os h s =
        let J : Judgement = f.judgement in
        let one : RulesOver (language_named P J.language) C J.contract j a J.rules (value os) =
        subst (λ (q : Option Judgement). OutputsBy P C q j a (value os)) f.named h in
        let over : RulesOver (Some L) C J.contract j a J.rules (value os) =
        subst (λ (m : Option Language). RulesOver m C J.contract j a J.rules (value os)) f.language one in
        let all = Rules L C j (asked_out J.contract) a J.rules in
        let k = reached (Gather (RuleOutputs L C j (asked_out J.contract) a) J.rules) (λ ts. Lists tree_cmp (λ t. In t ts)) os
        (asked-value L (asked_in J.contract) a (not_contract j sides.In a) all os over) in
        let listing = listing_in tree_cmp (λ t. In t k.between) os k.behind in
        let g = gathered-complete (RuleOutputs L C j (asked_out J.contract) a) J.rules k.between r k.before (placed-in J.rules i r f.there) in
        listing.complete o (g.gathered o (s g.given g.gives))

-- ---- at each height

-- each of the outputs is judged
judged-sound : (P : Program) (n k : ℕ) → n + k ≡ height → (j : List ℕ) (a : Tree) (os : List Tree) (o : Tree)
    → (calls_at P n).outputs_of j a (value os) → In o os → Judged P j a o
judged-sound P zero k e j a os o h i = outputs-none P j a os h
judged-sound P (suc n) k e j a os o h i =
    let d : n + suc k ≡ height = one_less n k e in
    outputs-sound P (calls_at P n) (stays-up P n (suc k) d) j a (judged-sound P n (suc k) d) (judgement_named P j) refl os o
    (outputs-some P n j a os h) i

mutual
  -- what is judged is one of them
  judged-complete : (P : Program) (n k : ℕ) → n + k ≡ height → (j : List ℕ) (a o : Tree) → Judged P j a o → (os : List Tree)
      → (calls_at P n).outputs_of j a (value os) → In o os
  judged-complete P zero k e j a o d os h = outputs-none P j a os h
  judged-complete P (suc n) k e j a o (judged_by {L = L} {i = i} {r = r} {b = b} {c = c} f m g q) os h =
      let d : n + suc k ≡ height = one_less n k e in
      let C : Calls = calls_at P n in
      outputs-complete P C (stays-up P n (suc k) d) j a L i r o f os (outputs-some P n j a os h)
      (λ us x. rule-complete P C (stays-up P n (suc k) d) j a L (asked_out f.judgement.contract) r us o b c x m
      (λ bs cs y z. leads-complete P n (suc k) d L (avoiding a) r.extras (visible b) c g bs cs y z) q)

  -- what extras lead to is left
  pub leads-complete : (P : Program) (n k : ℕ) → n + k ≡ height → (L : Language) (w : Avoided) (es : List Extra) (b c : Binding) → Leads P L w es b c
      → (bs cs : List Binding) → Extend L (calls_at P n) w es bs (value cs) → In b bs → In c cs
  leads-complete P n k e L w [] b c leads_end bs cs h i = subst (λ (ds : List Binding). In b ds) (same_value cs bs h) i
  leads-complete P n k e L w (such_as p m ∷ es) b c (leads_where {t = t} {d = d} {c = x} q v j g) bs cs h i =
      let C : Calls = calls_at P n in
      extended-next P C (stays-up P n k e) L w (such_as p m) es bs cs b x c h i
      (λ ds y. where-made P C (stays-up P n k e) L p m b d x t ds y q v j)
      (λ fs y z. leads-complete P n k e L w es x c g fs cs y z)
  leads-complete P n k e L w (provided m ∷ es) b c (leads_condition t q v g) bs cs h i =
      let C : Calls = calls_at P n in
      extended-next P C (stays-up P n k e) L w (provided m) es bs cs b b c h i
      (λ ds y. condition-made P C (stays-up P n k e) L m b t ds y q v)
      (λ fs y z. leads-complete P n k e L w es b c g fs cs y z)
  leads-complete P n k e L w (holds p ∷ es) b c (leads_premise {t = t} {u = u} {d = d} {c = x} q s v j g) bs cs h i =
      let C : Calls = calls_at P n in
      extended-next P C (stays-up P n k e) L w (holds p) es bs cs b x c h i
      (λ ds y. premise-made P C (stays-up P n k e) L p b d x t u ds y q (λ us z. judged-complete P n k e p.judgement t u s us z) v j)
      (λ fs y z. leads-complete P n k e L w es x c g fs cs y z)
  leads-complete P n k e L w (fresh m ∷ es) b c (leads_fresh {c = x} j g) bs cs h i =
      let C : Calls = calls_at P n in
      extended-next P C (stays-up P n k e) L w (fresh m) es bs cs b x c h i
      (λ ds y. fresh-made P C (stays-up P n k e) L w m b x ds y j)
      (λ fs y z. leads-complete P n k e L (behind w (fresh m)) es x c g fs cs y z)

-- they ascend
answered-ascends : (P : Program) (n k : ℕ) → n + k ≡ height → (j : List ℕ) (a : Tree) (os : List Tree)
    → (calls_at P n).outputs_of j a (value os) → IsAscending tree_cmp os
answered-ascends P zero k e j a os h = outputs-none P j a os h
answered-ascends P (suc n) k e j a os h =
    outputs-ascend P (calls_at P n) (stays-up P n (suc k) (one_less n k e)) j a (judgement_named P j) os (outputs-some P n j a os h)

pub outputs_are_judged : OutputsAreJudged
outputs_are_judged P j a os h = record {
  ascending = answered-ascends P height 0 (add-zero height) j a os h;
  sound = λ o i. judged-sound P height 0 (add-zero height) j a os o h i;
  complete = λ o d. judged-complete P height 0 (add-zero height) j a o d os h;
}
