-- What closures do.
use Rattle.std.proofs.Common.{◌≡◌, ◌<◌, ◌⊎◌, inl, inr, ℕ, zero, suc, true, List, [], ◌∷◌, Some, map, refl, sym, ◌∙◌, ap, subst, slice_get}
use Rattle.std.proofs.lemmas.Bool.{and_parts}
use Rattle.std.specs.Prelude.{◌↔◌, ◌&&◌}
use Rattle.rdx_term.specs.Fill.{fill_of}
use Rattle.rdx_term.specs.Limits.{KeepsLimits}
use Rattle.rdx_term.specs.Tree.{Tree}
use Rattle.rdx_term.specs.Tree.{hole as the_hole}
use Rattle.rdx_lang.specs.Bindings.{Value, Binding, one_name, value_at, visible}
use Rattle.rdx_lang.specs.Bindings.{one as one_term}
use Rattle.rdx_lang.specs.Closures.{context_name, closed_rule, context_closure}
use Rattle.rdx_lang.specs.Depths.{uses}
use Rattle.rdx_lang.specs.Fitting.{fits}
use Rattle.rdx_lang.specs.Join.{IsJoin}
use Rattle.rdx_lang.specs.Laws.{SplitsWhole}
use Rattle.rdx_lang.specs.Listing.{IsSeen}
use Rattle.rdx_lang.specs.Members.{In, here, there}
use Rattle.rdx_lang.specs.Modes.{Callable}
use Rattle.rdx_lang.specs.Patterns.{Pattern, Language, named, in_hole, closed}
use Rattle.rdx_lang.specs.Programs.{Relation, Rule}
use Rattle.rdx_lang.specs.Rules.{Match, match_in_hole, Split, split_named, split_closed}
use Rattle.rdx_lang.specs.Scopes.{bound_by, case_uses, extras_uses}
use Rattle.rdx_lang.specs.Templates.{Template, var, fill}
use Rattle.rdx_lang.specs.Valid.{are_valid_extras, is_valid_rule}
use Rattle.rdx_lang.specs.WellFormed.{is_well_formed_in}
use Rattle.rdx_lang.proofs.Collecting.{listing_of}
use Rattle.rdx_lang.proofs.JoinLaws.{one_join, join_ascends, unit_left, unit_left-only}
use Rattle.rdx_lang.proofs.Joins.{joined_first, joined_last}
use Rattle.rdx_lang.proofs.NameLaws.{match-ascends}
use Rattle.rdx_lang.proofs.Passing.{member_passes}
use Rattle.rdx_lang.proofs.RuleSteps.{in_hole_inside, named_splits, closed_splits}
use Rattle.rdx_lang.proofs.SeenListings.{seen-ascends}
use Rattle.rdx_lang.proofs.SetJoins.{no_sets_left}
use Rattle.rdx_lang.proofs.SplitLaws.{split-along, split-fills}
use Rattle.rdx_eval.specs.Answers.{Answer, value, fault, Fault, not_contract, Then, stops, goes}
use Rattle.rdx_eval.specs.Calls.{Calls}
use Rattle.rdx_eval.specs.Fresh.{avoiding}
use Rattle.rdx_eval.specs.Heights.{calls_at}
use Rattle.rdx_eval.specs.Instantiation.{Makes}
use Rattle.rdx_eval.specs.Making.{IsFilled, filled}
use Rattle.rdx_eval.specs.Turns.{term_or}
use Rattle.rdx_eval.specs.declared.fault.Side.TheVariants as sides
use Rattle.rdx_eval.proofs.OneAnswer.{same_value}
use Rattle.rdx_reduce.specs.ClosureLaws.{MatchesInside, MatchesInContext, LeavesAName, ContextIsJoined, TakesStepInside, StepsInContext, KeepsOwnSteps, IsTakenInside, ClosureLists, ReductsInside, MeetsFaultInside, FaultsInContext, KeepsOwnFaults, ClosureFaults}
use Rattle.rdx_reduce.specs.FirstFaults.{FailsAfter, MeetsFault, IsFirstMet, IsFirst, at_term, by_rules}
use Rattle.rdx_reduce.specs.Steps.{Step, Reducts}
use Rattle.rdx_reduce.specs.TakenSteps.{LeadTo, TakesStep, IsTaken, IsInDomain}
use Rattle.rdx_reduce.proofs.AlongExtras.{IsWithout, Differs, leads-along, fails-along}
use Rattle.rdx_reduce.proofs.Domains.{asked-fails}
use Rattle.rdx_reduce.proofs.ContextBindings.{IsUsed, used_first, used_last, bound-used, context-free, context-unbound, join_with_name, joined_name, other_name}
use Rattle.rdx_eval.proofs.Reached.{reached}
use Rattle.rdx_reduce.proofs.FirstFaults.{answers_first}
use Rattle.rdx_reduce.proofs.SameTemplates.{inst-same}
use Rattle.rdx_reduce.proofs.TakenSteps.{lists_taken}

-- ---- matching in a context

-- a pattern in a named context matches inside of it
inside : (L : Language) (q : Pattern) (x : List ℕ) (p : Pattern) (t : Tree) (b : Binding) → Match L (in_hole (named x (closed q)) p) t b
    → MatchesInside L q x p t b
inside L q x p t b h =
    let k = in_hole_inside h in
    let n = named_splits k.split in
    let c = closed_splits n.split in
    let name : Binding = one_name x (one_term k.context) in
    let e : k.outer ≡ name = unit_left-only ((tt, tt), (tt, tt)) (subst (λ (a : Binding). IsJoin a name k.outer) c.1 n.joined) in
    record {
      context = k.context;
      part = k.part;
      forgotten = c.0.binding;
      inner = k.inner;
      split = c.0.split;
      matched = k.matched;
      joined = subst (λ (a : Binding). IsJoin a k.inner b) e k.joined;
    }

-- and what matches inside is matched
outside : (L : Language) (q : Pattern) (x : List ℕ) (p : Pattern) (t : Tree) (b : Binding) → MatchesInside L q x p t b
    → Match L (in_hole (named x (closed q)) p) t b
outside L q x p t b m =
    match_in_hole (split_named (split_closed m.split) (unit_left (one_name x (one_term m.context)) ((tt, tt), (tt, tt)))) m.matched m.joined

pub matches_in_context : MatchesInContext
matches_in_context L q r t b = (inside L q (context_name r) r.pattern t b, outside L q (context_name r) r.pattern t b)

pub context_is_joined : ContextIsJoined
context_is_joined L r C s b leaves m =
    join_with_name (context_name r) (one_term C) b (match-ascends m)
    (λ v i. context-unbound r leaves L s (visible b) v (record { whole = b; holds = m; seen = refl }) i)

-- ---- what is seen of matches in a context

-- what is seen of a join is the join of what is seen of both
seen_join : {a b c : Binding} → IsJoin a b c → IsJoin (visible a) (visible b) (visible c)
seen_join j = record { pairs = j.pairs; differs = no_sets_left [] (tt, tt) }

-- what is seen of what the rule's pattern binds is without the name of the context
seen_without : (L : Language) (r : Rule) (t : Tree) (b : Binding) → LeavesAName r → IsSeen (Match L r.pattern t) b → IsWithout (context_name r) b
seen_without L r t b leaves m = record {
  map = seen-ascends (λ c h. match-ascends h) m;
  free = λ v i. context-unbound r leaves L t b v m i;
}

-- q splits t into a context and a part, and b is what is seen of what p binds there, joined with the name x for the context
record SeenInside (L : Language) (q : Pattern) (x : List ℕ) (p : Pattern) (t : Tree) (b : Binding) : Type 0 where
  context : Tree
  part : Tree
  forgotten : Binding
  inner : Binding
  split : Split L q t context part forgotten
  matched : IsSeen (Match L p part) inner
  joined : IsJoin (one_name x (one_term context)) inner b

-- so is what is seen of a match in a named context
seen_inside : (L : Language) (q : Pattern) (x : List ℕ) (p : Pattern) (t : Tree) (b : Binding) → IsSeen (Match L (in_hole (named x (closed q)) p) t) b
    → SeenInside L q x p t b
seen_inside L q x p t b s =
    let m = inside L q x p t s.whole s.holds in
    record {
      context = m.context;
      part = m.part;
      forgotten = m.forgotten;
      inner = visible m.inner;
      split = m.split;
      matched = record { whole = m.inner; holds = m.matched; seen = refl };
      joined = subst (λ (c : Binding). IsJoin (one_name x (one_term m.context)) (visible m.inner) c) (sym s.seen) (seen_join m.joined);
    }

-- and where q splits t so and the rule's pattern matches the part, there is such a match
seen_outside : (L : Language) (q : Pattern) (r : Rule) (t C s : Tree) (c b : Binding) → LeavesAName r → Split L q t C s c
    → IsSeen (Match L r.pattern s) b
    → (d : Binding) × IsJoin (one_name (context_name r) (one_term C)) b d × IsSeen (Match L (closed_rule q r).pattern t) d
seen_outside L q r t C s c b leaves split m =
    let j = context_is_joined L r C s m.whole leaves m.holds in
    let h = outside L q (context_name r) r.pattern t j.0
    (record { context = C; part = s; forgotten = c; inner = m.whole; split = split; matched = m.holds; joined = j.1 }) in (
      visible j.0,
      subst (λ (a : Binding). IsJoin (one_name (context_name r) (one_term C)) a (visible j.0)) (sym m.seen) (seen_join j.1),
      record { whole = j.0; holds = h; seen = refl },
    )

-- ---- one name more

-- c is b with the name x for v, which b does not bind
record IsWider (x : List ℕ) (v : Value) (b c : Binding) : Type 0 where
  less : IsWithout x b
  joined : IsJoin (one_name x v) b c

module _ (x : List ℕ) (v : Value) where
  -- two bindings that don't bind x have no join that does
  join_without : (b m d : Binding) → IsWithout x b → IsWithout x m → IsJoin b m d → IsWithout x d
  join_without b m d k l j =
      record { map = join_ascends j; free = λ w i. elim (j.pairs.sound (x, w) i) [ inl p ↦ k.free w p | inr q ↦ l.free w q ] }

  -- the join of b with m and one name more is that of c with m
  join_wider : (b c m d : Binding) → IsWider x v b c → IsWithout x m → IsJoin b m d → (e : Binding) × IsWider x v d e × IsJoin c m e
  join_wider b c m d h k j =
      let less = join_without b m d h.less k j in
      let e = join_with_name x v d less.map less.free in
      let f = joined_first (one_name x v) b m d e.0 ((tt, tt), (tt, tt)) h.less.map j e.1 in (
        e.0,
        record { less = less; joined = e.1 },
        subst (λ (g : Binding). IsJoin g m e.0) (one_join (one_name x v) b f.0 c f.1 h.joined) f.2,
      )

  -- and the other way round
  join_narrower : (b c m e : Binding) → IsWider x v b c → IsWithout x m → IsJoin c m e → (d : Binding) × IsWider x v d e × IsJoin b m d
  join_narrower b c m e h k j =
      let d = joined_last (one_name x v) b m c e h.less.map k.map h.joined j in
      (d.0, record { less = join_without b m d.0 h.less k d.1; joined = d.2 }, d.1)

  -- other names stand for the same
  others_same : (b c : Binding) → IsWider x v b c → (y : List ℕ) → (y ≡ x → ⊥) → value_at c y ≡ value_at b y
  others_same b c h = other_name x v b c h.less.map h.joined

  -- b and c differ in x alone
  wider_differs : Differs x (IsWider x v)
  wider_differs = record {
    same = λ b c h y n. sym (others_same b c h y n);
    forth = join_wider;
    back = λ b c m e h k j. let d = join_narrower b c m e h k j in (d.0, d.2);
  }

  -- and c and b do
  narrower_differs : Differs x (λ c b. IsWider x v b c)
  narrower_differs = record {
    same = λ c b h y n. others_same b c h y n;
    forth = λ c b m e h k j. join_narrower b c m e h k j;
    back = λ c b m d h k j. let e = join_wider b c m d h k j in (e.0, e.2);
  }

-- ---- results in a context

-- the context and what fills it, where the filled context is u
record FilledWith (c t u : Tree) : Type 0 where
  same : u ≡ fill_of c t
  within : KeepsLimits (fill_of c t)

-- what is filled is so
filled_with : (c t u : Tree) → IsFilled c t (value u) → FilledWith c t u
filled_with c t u (filled x k) = record { same = refl; within = k }

-- the result of a closed rule: what the rule's result makes, in what the name of the context stands for
record ResultParts (C : Calls) (b : Binding) (x : List ℕ) (s : Template) (u : Tree) : Type 0 where
  inner : Tree
  made : Makes C b s (value inner)
  full : IsFilled (term_or x (value_at b x)) inner (value u)

-- what it makes has these
result_parts : (C : Calls) (b : Binding) (x : List ℕ) (s : Template) (u : Tree) → Makes C b (fill (var x 0) s) (value u) → ResultParts C b x s u
result_parts C b x s u h =
    let k = reached (λ a. a ≡ value (term_or x (value_at b x))) (λ c. Then (Makes C b s) (IsFilled c)) u h in
    let l = reached (Makes C b s) (IsFilled k.between) u k.behind in
    record {
      inner = l.between;
      made = l.before;
      full = subst (λ (c : Tree). IsFilled c l.between (value u)) (sym (same_value k.between (term_or x (value_at b x)) k.before)) l.behind;
    }

-- ---- steps in a context

module _ (L : Language) (C : Calls) (F : Callable) (q : Pattern) (r : Rule) (w t : Tree) (valid : is_valid_rule F L r ≡ true)
    (leaves : LeavesAName r) where
  -- the extras and the result are valid behind the rule's pattern
  parts_valid :
      (are_valid_extras F L (uses 0 r.pattern) r.extras ≡ true)
      × (fits F.functions (bound_by (case_uses r.pattern r.extras)) 0 r.result ≡ true)
  parts_valid =
      let result = fits F.functions (bound_by (case_uses r.pattern r.extras)) 0 r.result in
      let extras = are_valid_extras F L (uses 0 r.pattern) r.extras in
      and_parts extras result (and_parts (is_well_formed_in L r.pattern) (extras && result) valid).1

  -- extras lead alike with the name of the context and without it
  leads-alike : (T : Binding → Binding → Type 0) → Differs (context_name r) T → (b c d : Binding) → T b c → LeadTo L C (avoiding w) r.extras b d
      → (e : Binding) × LeadTo L C (avoiding w) r.extras c e × T d e
  leads-alike T differs b c d h k =
      leads-along (context_name r) T differs L C F (uses 0 r.pattern) (avoiding w) r.extras b c d h
      (λ i. context-free r leaves (used_first (context_name r) (uses 0 r.pattern) (extras_uses r.extras) i))
      (λ i. context-free r leaves (used_last (context_name r) (uses 0 r.pattern) (extras_uses r.extras) i)) (λ i. elim i [ ]) parts_valid.0 k

  -- so does the result make the same
  makes-same : (v : Value) (b c : Binding) → IsWider (context_name r) v b c → Makes C c r.result ≡ Makes C b r.result
  makes-same v b c h =
      inst-same F.functions (bound_by (case_uses r.pattern r.extras)) c b
      (λ y d k. others_same (context_name r) v b c h y
      (λ e. context-free r leaves (subst (λ (z : List ℕ). IsUsed z (case_uses r.pattern r.extras)) e (bound-used y d (case_uses r.pattern r.extras) k))))
      C [] 0 r.result parts_valid.1

  -- the name of the context stands for it
  stands-for : (D : Tree) (b c : Binding) → IsWider (context_name r) (one_term D) b c → term_or (context_name r) (value_at c (context_name r)) ≡ D
  stands-for D b c h = ap (term_or (context_name r)) (joined_name (context_name r) (one_term D) b c h.less.map h.joined)

  -- a step of the closed rule is one inside of a context
  step_inside : (u : Tree) → TakesStep L C w (closed_rule q r) t u → TakesStepInside L C w q r t u
  step_inside u h =
      let x : List ℕ = context_name r in
      let m = seen_inside L q x r.pattern t h.first h.matched in
      let wider : IsWider x (one_term m.context) m.inner h.first =
      record { less = seen_without L r m.part m.inner leaves m.matched; joined = m.joined } in
      let e =
      leads-alike (λ c b. IsWider x (one_term m.context) b c) (narrower_differs x (one_term m.context)) h.first m.inner h.last wider h.extended in
      let k = result_parts C h.last x r.result u h.made in
      let f = filled_with m.context k.inner u (subst (λ (c : Tree). IsFilled c k.inner (value u)) (stands-for m.context e.0 h.last e.2) k.full) in
      record {
        context = m.context;
        part = m.part;
        forgotten = m.forgotten;
        reduct = k.inner;
        split = m.split;
        taken = record {
          first = m.inner;
          last = e.0;
          matched = m.matched;
          extended = e.1;
          made = subst (λ (R : Answer Tree → Type 0). R (value k.inner)) (makes-same (one_term m.context) e.0 h.last e.2) k.made;
        };
        filled = f.same;
        within = subst KeepsLimits (sym f.same) f.within;
      }

  -- and the other way round
  step_outside : (u : Tree) → TakesStepInside L C w q r t u → TakesStep L C w (closed_rule q r) t u
  step_outside u h =
      let x : List ℕ = context_name r in
      let b : Binding = h.taken.first in
      let j = seen_outside L q r t h.context h.part h.forgotten b leaves h.split h.taken.matched in
      let wider : IsWider x (one_term h.context) b j.0 = record { less = seen_without L r h.part b leaves h.taken.matched; joined = j.1 } in
      let e = leads-alike (IsWider x (one_term h.context)) (wider_differs x (one_term h.context)) b j.0 h.taken.last wider h.taken.extended in
      let made : Makes C e.0 r.result (value h.reduct) =
      subst (λ (R : Answer Tree → Type 0). R (value h.reduct)) (sym (makes-same (one_term h.context) h.taken.last e.0 e.2)) h.taken.made in
      let full : IsFilled h.context h.reduct (value u) =
      subst (λ (v : Tree). IsFilled h.context h.reduct (value v)) (sym h.filled)
      (filled (split-fills h.split).context (subst KeepsLimits h.filled h.within)) in
      record {
        first = j.0;
        last = e.0;
        matched = j.2;
        extended = e.1;
        made = goes (ap value (sym (stands-for h.context h.taken.last e.0 e.2))) (goes made full);
      }

  -- faults are met alike with the name of the context and without it
  fails-alike : (T : Binding → Binding → Type 0) → Differs (context_name r) T → (R S : Binding → Answer Tree → Type 0) (f : Fault)
      → ((b c : Binding) → T b c → R b (fault f) → S c (fault f)) → (b c d : Binding) (n : ℕ) → T b c → FailsAfter L C R (avoiding w) r.extras b n d f
      → (e : Binding) × FailsAfter L C S (avoiding w) r.extras c n e f × T d e
  fails-alike T differs R S f g b c d n h k =
      fails-along (context_name r) T differs L C F R S f g (uses 0 r.pattern) (avoiding w) r.extras b c d n h
      (λ i. context-free r leaves (used_first (context_name r) (uses 0 r.pattern) (extras_uses r.extras) i))
      (λ i. context-free r leaves (used_last (context_name r) (uses 0 r.pattern) (extras_uses r.extras) i)) (λ i. elim i [ ]) parts_valid.0 k

  -- what the closed rule's result makes, or its fault, is what the rule's result makes, put into the context
  into-context : (D : Tree) (a : Answer Tree) (c b : Binding) → IsWider (context_name r) (one_term D) b c → Makes C c (closed_rule q r).result a
      → Then (Makes C b r.result) (IsFilled D) a
  into-context D a c b h (stops e) = absurd cc
  into-context D a c b h (goes {x = u} e k) =
      let same : u ≡ D = sym (same_value u (term_or (context_name r) (value_at c (context_name r))) e) ∙ stands-for D b c h in
      subst (λ (R : Answer Tree → Type 0). Then R (IsFilled D) a) (makes-same (one_term D) b c h)
      (subst (λ (d : Tree). Then (Makes C c r.result) (IsFilled d) a) same k)

  -- and the other way round
  from-context : (D : Tree) (a : Answer Tree) (b c : Binding) → IsWider (context_name r) (one_term D) b c → Then (Makes C b r.result) (IsFilled D) a
      → Makes C c (closed_rule q r).result a
  from-context D a b c h k =
      goes (ap value (sym (stands-for D b c h)))
      (subst (λ (R : Answer Tree → Type 0). Then R (IsFilled D) a) (sym (makes-same (one_term D) b c h)) k)

  module _ (R : Relation) where
    -- so a fault of the closed rule's reducts is one of the rule's reducts inside of the context
    fault-put : (D : Tree) (f : Fault) (c b : Binding) → IsWider (context_name r) (one_term D) b c → Reducts L C R (closed_rule q r) c (fault f)
        → ReductsInside L C R D r b (fault f)
    fault-put D f c b h (stops k) = stops (into-context D (fault f) c b h k)
    fault-put D f c b h (goes {x = u} k l) = goes (into-context D (value u) c b h k) l

    -- and the other way round
    put-fault : (D : Tree) (f : Fault) (b c : Binding) → IsWider (context_name r) (one_term D) b c → ReductsInside L C R D r b (fault f)
        → Reducts L C R (closed_rule q r) c (fault f)
    put-fault D f b c h (stops k) = stops (from-context D (fault f) b c h k)
    put-fault D f b c h (goes {x = u} k l) = goes (from-context D (value u) b c h k) l

    -- in the hole, a fault of the rule's own reducts is one, where a reduct that is not in the domain is within the limits
    kept-fault : (f : Fault) → ((u : Tree) → f ≡ not_contract R.name sides.Out u → KeepsLimits u) → (b c : Binding)
        → IsWider (context_name r) (one_term the_hole) b c → Reducts L C R r b (fault f) → Reducts L C R (closed_rule q r) c (fault f)
    kept-fault f small b c h (stops k) = stops (from-context the_hole (fault f) b c h (stops k))
    kept-fault f small b c h (goes {x = u} k l) =
        by_domain (asked-fails L R.domain u (not_contract R.name sides.Out u) (λ a. a ≡ value u) f l)
      where
        by_domain : ((IsInDomain L R.domain u → ⊥) × (f ≡ not_contract R.name sides.Out u)) ⊎ (IsInDomain L R.domain u × (fault f ≡ value u))
            → Reducts L C R (closed_rule q r) c (fault f)
        by_domain (inl d) = goes (from-context the_hole (value u) b c h (goes k (filled refl (small u d.1)))) l
        by_domain (inr d) = absurd (no_value d.1)
          where
            no_value : ◌≡◌ {A = Answer Tree} (fault f) (value u) → ⊥
            no_value e = absurd cc

    -- a fault that the closed rule meets is one that the rule meets inside of a context
    fault_inside : (n : ℕ) (b : Binding) (f : Fault) → MeetsFault L C (Reducts L C R) w t (closed_rule q r) n b f
        → MeetsFaultInside L C (ReductsInside L C R) w q t r n b f
    fault_inside n b f h =
        let x : List ℕ = context_name r in
        let m = seen_inside L q x r.pattern t h.first h.matched in
        let wider : IsWider x (one_term m.context) m.inner h.first =
        record { less = seen_without L r m.part m.inner leaves m.matched; joined = m.joined } in
        let e = fails-alike (λ c d. IsWider x (one_term m.context) d c) (narrower_differs x (one_term m.context)) (Reducts L C R (closed_rule q r))
        (ReductsInside L C R m.context r) f (fault-put m.context f) h.first m.inner b n wider h.fails in
        record {
          context = m.context;
          part = m.part;
          forgotten = m.forgotten;
          first = m.inner;
          last = e.0;
          split = m.split;
          matched = m.matched;
          fails = e.1;
          joined = e.2.joined;
        }

    -- and the other way round
    fault_outside : (n : ℕ) (b : Binding) (f : Fault) → MeetsFaultInside L C (ReductsInside L C R) w q t r n b f
        → MeetsFault L C (Reducts L C R) w t (closed_rule q r) n b f
    fault_outside n b f h =
        let x : List ℕ = context_name r in
        let j = seen_outside L q r t h.context h.part h.forgotten h.first leaves h.split h.matched in
        let wider : IsWider x (one_term h.context) h.first j.0 = record { less = seen_without L r h.part h.first leaves h.matched; joined = j.1 } in
        let e = fails-alike (IsWider x (one_term h.context)) (wider_differs x (one_term h.context)) (ReductsInside L C R h.context r)
        (Reducts L C R (closed_rule q r)) f (put-fault h.context f) h.first j.0 h.last n wider h.fails in
        let same : e.0 ≡ b = one_join (one_name x (one_term h.context)) h.last e.0 b e.2.joined h.joined in
        record {
          first = j.0;
          matched = j.2;
          fails = subst (λ (c : Binding). FailsAfter L C (Reducts L C R (closed_rule q r)) (avoiding w) r.extras j.0 n c f) same e.1;
        }

    -- where q splits the term with nothing in the context, the closed rule meets the faults that the rule meets
    fault_kept : SplitsWhole L q t → (n : ℕ) (b : Binding) (f : Fault)
        → ((u : Tree) → f ≡ not_contract R.name sides.Out u → KeepsLimits u) → MeetsFault L C (Reducts L C R) w t r n b f
        → (c : Binding) × IsJoin (one_name (context_name r) (one_term the_hole)) b c × MeetsFault L C (Reducts L C R) w t (closed_rule q r) n c f
    fault_kept whole n b f small h =
        let x : List ℕ = context_name r in
        let part : whole.part ≡ t = (split-along whole.split).part in
        let matched : IsSeen (Match L r.pattern whole.part) h.first = subst (λ (u : Tree). IsSeen (Match L r.pattern u) h.first) (sym part) h.matched in
        let j = seen_outside L q r t the_hole whole.part whole.binding h.first leaves whole.split matched in
        let wider : IsWider x (one_term the_hole) h.first j.0 = record { less = seen_without L r t h.first leaves h.matched; joined = j.1 } in
        let e = fails-alike (IsWider x (one_term the_hole)) (wider_differs x (one_term the_hole)) (Reducts L C R r)
        (Reducts L C R (closed_rule q r)) f (kept-fault f small) h.first j.0 b n wider h.fails in (
          e.0,
          e.2.joined,
          record { first = j.0; matched = j.2; fails = e.1 },
        )

pub steps_in_context : StepsInContext
steps_in_context L P n F q r w t u valid leaves =
    (step_inside L (calls_at P n) F q r w t valid leaves u, step_outside L (calls_at P n) F q r w t valid leaves u)

pub faults_in_context : FaultsInContext
faults_in_context L P n F R q r w t k b f valid leaves =
    (fault_inside L (calls_at P n) F q r w t valid leaves R k b f, fault_outside L (calls_at P n) F q r w t valid leaves R k b f)

pub keeps_own_faults : KeepsOwnFaults
keeps_own_faults L P n F R q r w t k b f valid leaves whole small h = fault_kept L (calls_at P n) F q r w t valid leaves R whole k b f small h

pub keeps_own_steps : KeepsOwnSteps
keeps_own_steps L P n F q r w t u valid leaves whole small h =
    let part : whole.part ≡ t = (split-along whole.split).part in
    step_outside L (calls_at P n) F q r w t valid leaves u (record {
      context = the_hole;
      part = whole.part;
      forgotten = whole.binding;
      reduct = u;
      split = whole.split;
      taken = subst (λ (v : Tree). TakesStep L (calls_at P n) w r v u) (sym part) h;
      filled = refl;
      within = small;
    })

-- ---- the steps of a closure

-- what stands at a place of a list of images is the image of what stands there in the list
placed-map : {A B : Type 0} (f : A → B) (xs : List A) (k : ℕ) (y : B) → slice_get (map f xs) k ≡ Some y
    → (x : A) × (slice_get xs k ≡ Some x) × (y ≡ f x)
placed-map f [] k y h = absurd cc
placed-map f (x ∷ xs) zero y h = (x, refl, cc)
placed-map f (x ∷ xs) (suc k) y h = placed-map f xs k y h

-- and the image of what stands there stands there in the list of images
map-placed : {A B : Type 0} (f : A → B) (xs : List A) (k : ℕ) (x : A) → slice_get xs k ≡ Some x → slice_get (map f xs) k ≡ Some (f x)
map-placed f [] k x h = absurd cc
map-placed f (z ∷ xs) zero x h = let e : z ≡ x = cc in ap (λ a. Some (f a)) e
map-placed f (z ∷ xs) (suc k) x h = map-placed f xs k x h

-- what stands at a place is a member
placed-in : {A : Type 0} (xs : List A) (k : ℕ) (x : A) → slice_get xs k ≡ Some x → In x xs
placed-in [] k x h = absurd cc
placed-in (z ∷ xs) zero x h = let e : x ≡ z = cc in here e
placed-in (z ∷ xs) (suc k) x h = there (placed-in xs k x h)

pub closure_lists : ClosureLists
closure_lists L P n F q x R t ss valid leaves h = listing_of inner outer (lists_taken L P n (context_closure q x R) t ss h)
  where
    at_rule : (r : Rule) (k : ℕ) (u : Tree) → slice_get R.rules k ≡ Some r
        → TakesStep L (calls_at P n) t (closed_rule q r) t u ↔ TakesStepInside L (calls_at P n) t q r t u
    at_rule r k u e =
        let i = placed-in R.rules k r e in steps_in_context L P n F q r t t u (member_passes (is_valid_rule F L) r R.rules valid i) (leaves r i)

    inner : (s : Step) → IsTaken L (calls_at P n) t (map (closed_rule q) R.rules) s → IsTakenInside L (calls_at P n) q t R.rules s
    inner s k =
        let m = placed-map (closed_rule q) R.rules s.rule k.rule k.placed in
        record {
          rule = m.0;
          placed = m.1;
          taken = (at_rule m.0 s.rule s.reduct m.1).0 (subst (λ (r : Rule). TakesStep L (calls_at P n) t r t s.reduct) m.2 k.taken);
        }

    outer : (s : Step) → IsTakenInside L (calls_at P n) q t R.rules s → IsTaken L (calls_at P n) t (map (closed_rule q) R.rules) s
    outer s k = record {
      rule = closed_rule q k.rule;
      placed = map-placed (closed_rule q) R.rules s.rule k.rule k.placed;
      taken = (at_rule k.rule s.rule s.reduct k.placed).1 k.taken;
    }

-- ---- the faults of a closure

module _ (g : Rule → Rule) (M N : Rule → ℕ → Binding → Fault → Type 0) (rs : List Rule)
    (same : (r : Rule) → In r rs → (n : ℕ) (b : Binding) (f : Fault) → M (g r) n b f ↔ N r n b f) (f : Fault) where
  -- the first fault of images is that of the rules
  first-of_rules : IsFirstMet M (map g rs) f → IsFirstMet N rs f
  first-of_rules h =
      let p = placed-map g rs h.place h.rule h.placed in
      let i = placed-in rs h.place p.0 p.1 in
      let back : (n : ℕ) (b : Binding) (k : Fault) → N p.0 n b k → M h.rule n b k =
      λ n b k m. subst (λ (r : Rule). M r n b k) (sym p.2) ((same p.0 i n b k).1 m) in
      record {
        place = h.place;
        rule = p.0;
        extras = h.extras;
        binding = h.binding;
        placed = p.1;
        met = (same p.0 i h.extras h.binding f).0 (subst (λ (r : Rule). M r h.extras h.binding f) p.2 h.met);
        first_rule = λ j r n b k l e m. h.first_rule j (g r) n b k l (map-placed g rs j r e) ((same r (placed-in rs j r e) n b k).1 m);
        first_extra = λ n b k l m. h.first_extra n b k l (back n b k m);
        first_binding = λ b k l m. h.first_binding b k l (back h.extras b k m);
      }

  -- and the other way round
  first-of_images : IsFirstMet N rs f → IsFirstMet M (map g rs) f
  first-of_images h =
      let i = placed-in rs h.place h.rule h.placed in
      record {
        place = h.place;
        rule = g h.rule;
        extras = h.extras;
        binding = h.binding;
        placed = map-placed g rs h.place h.rule h.placed;
        met = (same h.rule i h.extras h.binding f).1 h.met;
        first_rule = earlier;
        first_extra = λ n b k l m. h.first_extra n b k l ((same h.rule i n b k).0 m);
        first_binding = λ b k l m. h.first_binding b k l ((same h.rule i h.extras b k).0 m);
      }
    where
      earlier : (j : ℕ) (r : Rule) (n : ℕ) (b : Binding) (k : Fault) → j < h.place → slice_get (map g rs) j ≡ Some r → M r n b k → ⊥
      earlier j r n b k l e m =
          let p = placed-map g rs j r e in
          h.first_rule j p.0 n b k l p.1 ((same p.0 (placed-in rs j p.0 p.1) n b k).0 (subst (λ (s : Rule). M s n b k) p.2 m))

-- so is the first fault of a relation, which asks the same of the term
module _ (L : Language) (Z : Relation) (t : Tree) (g : Rule → Rule) (M N : Rule → ℕ → Binding → Fault → Type 0) (rs : List Rule)
    (same : (r : Rule) → In r rs → (n : ℕ) (b : Binding) (f : Fault) → M (g r) n b f ↔ N r n b f) (f : Fault) where
  first-inside : IsFirst L Z M (map g rs) t f → IsFirst L Z N rs t f
  first-inside (at_term h) = at_term h
  first-inside (by_rules h) = by_rules (record { inside = h.inside; first = first-of_rules g M N rs same f h.first })

  first-outside : IsFirst L Z N rs t f → IsFirst L Z M (map g rs) t f
  first-outside (at_term h) = at_term h
  first-outside (by_rules h) = by_rules (record { inside = h.inside; first = first-of_images g M N rs same f h.first })

pub closure_faults : ClosureFaults
closure_faults L P n F q x R t f a valid leaves h =
    let Z : Relation = context_closure q x R in
    let C : Calls = calls_at P n in
    let M : Rule → ℕ → Binding → Fault → Type 0 = MeetsFault L C (Reducts L C Z) t t in
    let N : Rule → ℕ → Binding → Fault → Type 0 = MeetsFaultInside L C (ReductsInside L C Z) t q t in
    let k = answers_first L P n Z t f a h in (
      λ e. first-inside L Z t (closed_rule q) M N R.rules same f (k.0 e),
      λ m. k.1 (first-outside L Z t (closed_rule q) M N R.rules same f m),
    )
  where
    same : (r : Rule) → In r R.rules → (m : ℕ) (b : Binding) (g : Fault)
        → MeetsFault L (calls_at P n) (Reducts L (calls_at P n) (context_closure q x R)) t t (closed_rule q r) m b g
        ↔ MeetsFaultInside L (calls_at P n) (ReductsInside L (calls_at P n) (context_closure q x R)) t q t r m b g
    same r i m b g =
        faults_in_context L P n F (context_closure q x R) q r t t m b g (member_passes (is_valid_rule F L) r R.rules valid i) (leaves r i)
