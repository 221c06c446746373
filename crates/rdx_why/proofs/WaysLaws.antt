-- Extras that lead from a binding to another by what is answered: what extend finds, and the goals that are asked for on the way.
use Rattle.std.proofs.Common.{◌≡◌, ℕ, Bool, true, false, List, [], ◌∷◌, ◌++◌, zero, suc, ◌+◌, ◌⊎◌, inl, inr, refl, sym, ◌∙◌, ap, subst, Option, Some, None, add-zero, arith}
use Rattle.std.proofs.lemmas.List.{append-nil, append_assoc}
use Rattle.std.specs.Prelude.{◌↔◌, IsTrue, IfSome, IfNone, Err, slice_get}
use Rattle.rdx_term.specs.Order.{tree_cmp}
use Rattle.rdx_term.specs.Tree.{Tree}
use Rattle.rdx_lang.specs.Bindings.{Binding, HasAscendingNames, visible}
use Rattle.rdx_lang.specs.Join.{IsJoin}
use Rattle.rdx_lang.specs.Listing.{Matches}
use Rattle.rdx_lang.specs.Members.{In, here, there}
use Rattle.rdx_lang.specs.Names.{names}
use Rattle.rdx_lang.specs.Order.{binding_cmp}
use Rattle.rdx_lang.specs.Patterns.{Pattern, Language}
use Rattle.rdx_lang.specs.Programs.{Extra, such_as, provided, holds, fresh, Premise, JudgementRule, Judgement, Program, language_named, judgement_named}
use Rattle.rdx_lang.specs.Rules.{Match}
use Rattle.rdx_lang.specs.Shown.{binding_of}
use Rattle.rdx_lang.specs.Templates.{Template, Host}
use Rattle.rdx_lang.specs.WellFormed.{has_known_nonterminals, defined}
use Rattle.rdx_lang.proofs.Collecting.{only, no_member}
use Rattle.rdx_lang.proofs.JoinLaws.{one_join, join_ascends}
use Rattle.rdx_lang.proofs.MemberLaws.{in-append}
use Rattle.rdx_lang.proofs.NameLaws.{match-ascends, match-names}
use Rattle.rdx_eval.specs.Answers.{Answer, value, fault, not_contract, Then, goes, Gather, Lists, lists}
use Rattle.rdx_eval.specs.Asking.{asked_in, asked_out}
use Rattle.rdx_eval.specs.Calls.{Calls}
use Rattle.rdx_eval.specs.Extending.{Matched, MatchedEach, By, ByEach, Extend, ExtendOver, Survivors, unless_false}
use Rattle.rdx_eval.specs.Fresh.{Avoided, avoiding, behind, freshly}
use Rattle.rdx_eval.specs.Heights.{calls_at, height}
use Rattle.rdx_eval.specs.Instantiation.{HostMakes, Makes, MakeList}
use Rattle.rdx_eval.specs.Judgements.{OutputLists, Outputs, OutputsBy, RuleOutputs, Rules, RulesOver}
use Rattle.rdx_eval.specs.Laws.{Once}
use Rattle.rdx_eval.specs.Views.{Says}
use Rattle.rdx_eval.specs.declared.fault.EvalFault.{EvalFault}
use Rattle.rdx_eval.specs.declared.fault.EvalFault.TheVariants.{Named, NoMemory}
use Rattle.rdx_eval.specs.declared.fault.Side.TheVariants as sides
use Rattle.rdx_eval.proofs.ContractLaws.{asked-value}
use Rattle.rdx_eval.proofs.OneAnswer.{once-call, once-outputs, once-survivors, same_value}
use Rattle.rdx_eval.proofs.Reached.{reached, gathered-complete, gathered-sound}
use Rattle.rdx_eval.proofs.Staying.{keeps-survivors, outputs-stay, values-stay}
use Rattle.rdx_deriv.specs.Derivations.{Goal, matched, judged}
use Rattle.rdx_why.specs.Explaining.{HasKnownRules, HasOutputs, IsKnownRule}
use Rattle.rdx_deriv.specs.Inside.Faults.{IsNamed}
use Rattle.rdx_deriv.specs.Judged.{Allows, Fits, IsRuleFor, Judged, judged_by, calls}
use Rattle.rdx_opened.specs.Picking.{picked}
use Rattle.rdx_opened.specs.Opening.{Stands}
use Rattle.rdx_opened.specs.Seeking.{IsFound, IsWanted, marks_of}
use Rattle.rdx_why.specs.Inside.Steps.{IsOnTheWay, IsStepFrom, goals_in}
use Rattle.rdx_why.specs.Inside.Ways.{IsWithin, WhereWay, ConditionWay, PremiseWay, FreshWay, WayOn, Ways, HasSeen, IsSeenGoal, Gains, AllOnTheWay, IsPassed, AreGoals, IsPartOf, RuleWay, AreRuleGoals, RuleMakes, RuleHas, RuleAt, HasSurvivors}
use Rattle.rdx_deriv.specs.JudgementUses.{ExtraUses, JudgementUse}
use Rattle.rdx_why.specs.declared.step.Step.{Step}
use Rattle.rdx_opened.specs.declared.seeking.Found.{Found}
use Rattle.rdx_opened.specs.declared.seeking.Wanted.{Wanted}
use Rattle.rdx_deriv.proofs.ExtraUseLaws.{under}
use Rattle.rdx_deriv.proofs.FoundOnce.{told_fault}
use Rattle.rdx_deriv.proofs.JudgedOutputs.{leads-complete, outputs_are_judged}
use Rattle.rdx_deriv.proofs.OneExtra.{joined-sound, matched-sound, condition-sound, listing_in}
use Rattle.rdx_deriv.proofs.Sound.{placed-in}
use Rattle.rdx_opened.proofs.OpenedMatches.{stands-match}
use Rattle.rdx_opened.proofs.Picking.{picked-part}
use Rattle.rdx_opened.proofs.Standing.{stands-one}

-- ---- where ways lead

-- each extra keeps what is bound
pub ways-within : (P : Program) (L : Language) (w : Avoided) (es : List Extra) (e b : Binding) → Ways P L w es e b → IsWithin e b
ways-within P L w [] e b h p i = subst (λ (z : Binding). In p z.pairs) (sym h) i
ways-within P L w (such_as q m ∷ es) e b h p i = ways-within P L w es e h.joined h.behind p (h.join.pairs.left p i)
ways-within P L w (provided m ∷ es) e b h p i = ways-within P L w es e b h.behind p i
ways-within P L w (holds q ∷ es) e b h p i = ways-within P L w es e h.joined h.behind p (h.join.pairs.left p i)
ways-within P L w (fresh x ∷ es) e b h p i = ways-within P L (behind w (fresh x)) es e h.joined h.behind p (h.join.pairs.left p i)

-- names stay a finite map
pub ways-ascend : (P : Program) (L : Language) (w : Avoided) (es : List Extra) (e b : Binding) → Ways P L w es e b → HasAscendingNames b
    → HasAscendingNames e
ways-ascend P L w [] e b h a = subst HasAscendingNames (sym h) a
ways-ascend P L w (such_as q m ∷ es) e b h a = ways-ascend P L w es e h.joined h.behind (join_ascends h.join)
ways-ascend P L w (provided m ∷ es) e b h a = ways-ascend P L w es e b h.behind a
ways-ascend P L w (holds q ∷ es) e b h a = ways-ascend P L w es e h.joined h.behind (join_ascends h.join)
ways-ascend P L w (fresh x ∷ es) e b h a = ways-ascend P L (behind w (fresh x)) es e h.joined h.behind (join_ascends h.join)

-- what goes on may say less
pub way-map : (P : Program) (L : Language) (w : Avoided) (x : Extra) (b : Binding) (R S : Binding → Type 0) → ((d : Binding) → R d → S d)
    → WayOn P L w x b R → WayOn P L w x b S
way-map P L w (such_as p m) b R S f h = record {
  term = h.term;
  found = h.found;
  joined = h.joined;
  made = h.made;
  matches = h.matches;
  join = h.join;
  behind = f h.joined h.behind;
}
way-map P L w (provided m) b R S f h = record { term = h.term; made = h.made; not_false = h.not_false; behind = f b h.behind }
way-map P L w (holds q) b R S f h = record {
  inputs = h.inputs;
  outputs = h.outputs;
  given = h.given;
  found = h.found;
  joined = h.joined;
  made = h.made;
  answered = h.answered;
  among = h.among;
  matches = h.matches;
  join = h.join;
  behind = f h.joined h.behind;
}
way-map P L w (fresh x) b R S f h = record { joined = h.joined; join = h.join; behind = f h.joined h.behind }

-- what is seen of a match within a binding is what that says of the names of the pattern
pub seen-picked : (L : Language) (p : Pattern) (t : Tree) (d c : Binding) → Match L p t d → HasAscendingNames c → IsWithin c (visible d)
    → visible d ≡ picked c (names p)
seen-picked L p t d c m a f = sym (picked-part c (visible d) (names p) a f (match-names m) refl)

-- so it is behind a join
pub joined-picked : (L : Language) (p : Pattern) (t : Tree) (b d e c : Binding) → Match L p t d → HasAscendingNames c → IsJoin b (visible d) e
    → IsWithin c e → visible d ≡ picked c (names p)
joined-picked L p t b d e c m a j f = seen-picked L p t d c m a (λ q i. f q (j.pairs.right q i))

-- where a way to c goes on is what the extra binds by it
pub way-next : (P : Program) (L : Language) (w : Avoided) (x : Extra) (c b d : Binding) (R : Binding → Type 0) → HasAscendingNames c
    → ((e : Binding) → R e → IsWithin c e) → WayOn P L w x b R → Gains w x c b d → R d
way-next P L w (such_as p m) c b d R a f h g =
    let s : visible h.found ≡ picked c (names p) = joined-picked L p h.term b h.found h.joined c h.matches a h.join (f h.joined h.behind) in
    subst R (one_join b (visible h.found) h.joined d h.join (subst (λ (z : Binding). IsJoin b z d) (sym s) g)) h.behind
way-next P L w (provided m) c b d R a f h g = subst R (sym g) h.behind
way-next P L w (holds q) c b d R a f h g =
    let s : visible h.found ≡ picked c (names q.outputs) =
    joined-picked L q.outputs h.given b h.found h.joined c h.matches a h.join (f h.joined h.behind) in
    subst R (one_join b (visible h.found) h.joined d h.join (subst (λ (z : Binding). IsJoin b z d) (sym s) g)) h.behind
way-next P L w (fresh x) c b d R a f h g = subst R (one_join b (freshly w b x) h.joined d h.join g) h.behind

-- ---- what extend finds

-- each binding that an extra makes is reached by a way
by-way : (P : Program) (L : Language) (w : Avoided) (x : Extra) (b c : Binding) (cs : List Binding) (R : Binding → Type 0)
    → By L (calls P) w x b (value cs) → In c cs → R c → WayOn P L w x b R
by-way P L w (such_as p m) b c cs R h i r =
    let k = reached (Makes (calls P) b m) (Matched L p b) cs h in
    let f = matched-sound L p b k.between cs c k.behind i in
    record { term = k.between; found = f.found; joined = c; made = k.before; matches = f.matches; join = f.join; behind = r }
by-way P L w (provided m) b c cs R h i r =
    let k = reached (HostMakes (calls P) b m) (λ t a. a ≡ value (unless_false t b)) cs h in
    let j : In c (unless_false k.between b) =
    subst (λ (ds : List Binding). In c ds) (sym (same_value cs (unless_false k.between b) k.behind)) i in
    let f = condition-sound k.between b c j in
    record { term = k.between; made = k.before; not_false = f.0; behind = subst R f.1 r }
by-way P L w (holds q) b c cs R h i r =
    let k = reached (Then (MakeList (calls P) b q.inputs) ((calls P).outputs_of q.judgement)) (MatchedEach L q.outputs b) cs h in
    let l = reached (MakeList (calls P) b q.inputs) ((calls P).outputs_of q.judgement) k.between k.before in
    let n = gathered-sound (Matched L q.outputs b) k.between cs c k.behind i in
    let f = matched-sound L q.outputs b n.from n.given c n.gives n.one in
    record {
      inputs = l.between;
      outputs = k.between;
      given = n.from;
      found = f.found;
      joined = c;
      made = l.before;
      answered = l.behind;
      among = n.among;
      matches = f.matches;
      join = f.join;
      behind = r;
    }
by-way P L w (fresh x) b c cs R h i r = record { joined = c; join = joined-sound b (freshly w b x) cs c h i; behind = r }

-- one of some bindings, from which extras lead to e
pub record WaysFrom (P : Program) (L : Language) (w : Avoided) (es : List Extra) (bs : List Binding) (e : Binding) : Type 0 where
  pub start : Binding
  pub among : In start bs
  pub ways : Ways P L w es e start

-- so is each that extras make
pub extend-ways : (P : Program) (L : Language) (w : Avoided) (es : List Extra) (bs cs : List Binding) (e : Binding)
    → Extend L (calls P) w es bs (value cs) → In e cs → WaysFrom P L w es bs e
extend-ways P L w [] bs cs e h i =
    record { start = e; among = subst (λ (ds : List Binding). In e ds) (sym (same_value cs bs h)) i; ways = refl }
extend-ways P L w (x ∷ es) bs cs e h i =
    let k = reached (ByEach L (calls P) w x bs) (Extend L (calls P) (behind w x) es) cs h in
    let l = reached (Gather (By L (calls P) w x) bs) (λ ds. Lists binding_cmp (λ d. In d ds)) k.between k.before in
    let r = extend-ways P L (behind w x) es k.between cs e k.behind i in
    let listing = listing_in binding_cmp (λ d. In d l.between) k.between l.behind in
    let g = gathered-sound (By L (calls P) w x) bs l.between r.start l.before (listing.sound r.start r.among) in
    record { start = g.from; among = g.among; ways = by-way P L w x g.from r.start g.given (Ways P L (behind w x) es e) g.gives g.one r.ways }

-- ---- a match that is seen

-- what holds of what is found
pub some_holds : {A : Type 0} (R : A → Type 0) (o : Option A) (x : A) → o ≡ Some x → IfSome o R → R x
some_holds {A = A} R o x e h = subst (λ (z : Option A). IfSome z R) e h

-- and where nothing is
pub none_holds : {A X : Type 0} (o : Option A) → o ≡ None → IfNone o X → X
none_holds {A = A} {X = X} o e h = subst (λ (z : Option A). IfNone z X) e h

-- a match that is found, whose whole binding is known
pub found_seen : (L : Language) (l : List ℕ) (q p : Pattern) (t : Tree) (c : Binding) (w : Wanted) (f : Found) (s b : Binding) (g : Goal)
    → q ≡ p → IsFound q (λ o d. Match L o t d) w f → ((d : Binding) → IsWanted w d → visible d ≡ s)
    → Stands (marks_of f.opened.marks.items) (binding_of f.binding) b → s ≡ picked c (names p) → g ≡ matched l p t b → IsSeenGoal L l p t c g s
found_seen L l q p t c w f s b g y h n k r e = record {
  found = b;
  goal = e;
  matches = subst (λ (z : Pattern). Match L z t b) y (stands-match L h.opened h.holds k);
  seen = sym (n h.standing.whole h.standing.holds) ∙ ap visible (stands-one h.standing.stands k);
  picks = r;
}

-- ---- goals on the way

-- a goal that is matched, over a language of the program
matched_goes : (P : Program) (L : Language) (l : List ℕ) (p : Pattern) (t : Tree) (c s : Binding) (g h : Goal)
    → language_named P l ≡ Some L → IsTrue (has_known_nonterminals (defined L) p) → IsSeenGoal L l p t c g s → h ≡ g → IsOnTheWay P h
matched_goes P L l p t c s g h n k m e =
    subst (λ (z : Goal). IsOnTheWay P z) (sym (e ∙ m.goal)) (record { language = L; named = n; known = k; here = m.matches })

-- the one of a `where`
pub where_passed : (P : Program) (L : Language) (l : List ℕ) (w : Avoided) (p : Pattern) (m : Template) (c b d : Binding) (t : Tree) (g : Goal)
    (s : Binding) → language_named P l ≡ Some L → IsTrue (has_known_nonterminals (defined L) p) → Makes (calls P) b m (value t)
    → IsSeenGoal L l p t c g s → IsJoin b s d → IsPassed P l w (such_as p m) c b (g ∷ []) d
where_passed P L l w p m c b d t g s n k q h j = record {
  leads = λ hs. record {
    term = t;
    found = h.found;
    joined = d;
    left = hs;
    made = q;
    goals = ap (λ (z : Goal). z ∷ hs) h.goal;
    join = subst (λ (z : Binding). IsJoin b z d) h.seen j;
    behind = (refl, refl);
  };
  gains = subst (λ (z : Binding). IsJoin b z d) h.picks j;
  on_the_way = λ x i. matched_goes P L l p t c s g x n k h (only i);
}

-- those of a premise
pub premise_passed : (P : Program) (L : Language) (l : List ℕ) (w : Avoided) (q : Premise) (c b d : Binding) (t u : Tree) (us : List Tree)
    (f g : Goal) (s : Binding) → language_named P l ≡ Some L → HasKnownRules P → IsTrue (has_known_nonterminals (defined L) q.outputs)
    → MakeList (calls P) b q.inputs (value t) → (calls P).outputs_of q.judgement t (value us) → In u us → f ≡ judged q.judgement t u
    → IsSeenGoal L l q.outputs u c g s → IsJoin b s d → IsPassed P l w (holds q) c b (f ∷ g ∷ []) d
premise_passed P L l w q c b d t u us f g s n r k made answered among e h j = record {
  leads = λ hs. record {
    inputs = t;
    outputs = u;
    found = h.found;
    joined = d;
    left = hs;
    made = made;
    goals = λ i. e i ∷ h.goal i ∷ hs;
    join = subst (λ (z : Binding). IsJoin b z d) h.seen j;
    behind = (refl, refl);
  };
  gains = subst (λ (z : Binding). IsJoin b z d) h.picks j;
  on_the_way = each;
}
  where
    each : AllOnTheWay P (f ∷ g ∷ [])
    each x (here i) = subst (λ (z : Goal). IsOnTheWay P z) (sym (i ∙ e))
        ((outputs_are_judged P q.judgement t us answered).sound u among, record { outputs = us; answered = answered }, r)
    each x (there i) = matched_goes P L l q.outputs u c s g x n k h (only i)

-- a condition has none
pub condition_passed : (P : Program) (l : List ℕ) (w : Avoided) (m : Host) (c b d : Binding) (R : Binding → Type 0) → ConditionWay P m b R → d ≡ b
    → IsPassed P l w (provided m) c b [] d
condition_passed P l w m c b d R h e = record {
  leads = λ hs. record { term = h.term; made = h.made; not_false = h.not_false; behind = (sym e, refl) };
  gains = e;
  on_the_way = λ x i. no_member i;
}

-- nor has a fresh name
pub fresh_passed : (P : Program) (l : List ℕ) (w : Avoided) (x : List ℕ) (c b d f : Binding) → f ≡ freshly w b x → IsJoin b f d
    → IsPassed P l w (fresh x) c b [] d
fresh_passed P l w x c b d f e j =
    let k : IsJoin b (freshly w b x) d = subst (λ (z : Binding). IsJoin b z d) e j in
    record {
      leads = λ hs. record { joined = d; join = k; behind = (refl, refl) };
      gains = k;
      on_the_way = λ y i. no_member i;
    }

-- ---- where something is there

-- a `where` on a way makes a term
pub where_made : (P : Program) (L : Language) (p : Pattern) (m : Template) (b : Binding) (R : Binding → Type 0) → WhereWay P L p m b R
    → ((y : Tree) → Makes (calls P) b m (value y) → ⊥) → ⊥
where_made P L p m b R h none = none h.term h.made

module _ (P : Program) (L : Language) (p : Pattern) (m : Template) (b c : Binding) (a : HasAscendingNames c) (h : WhereWay P L p m b (IsWithin c)) where
  where_picks : visible h.found ≡ picked c (names p)
  where_picks = joined-picked L p h.term b h.found h.joined c h.matches a h.join h.behind

  -- which its pattern matches
  pub where_seen : (t : Tree) → ((y : Tree) → (Makes (calls P) b m (value y) ↔ (y ≡ t))) → HasSeen L p t c
  where_seen t one = record {
    found = h.found;
    matches = subst (λ (z : Tree). Match L p z h.found) ((one h.term).0 h.made) h.matches;
    picks = where_picks;
  }

  -- and there is a join
  pub where_joins : (l : List ℕ) (t : Tree) (g : Goal) (s : Binding) → IsSeenGoal L l p t c g s → ((d : Binding) → IsJoin b s d → ⊥) → ⊥
  where_joins l t g s k none = none h.joined (subst (λ (z : Binding). IsJoin b z h.joined) (where_picks ∙ sym k.picks) h.join)

-- so it is of a premise
pub premise_made : (P : Program) (L : Language) (q : Premise) (b : Binding) (R : Binding → Type 0) → PremiseWay P L q b R
    → ((y : Tree) → MakeList (calls P) b q.inputs (value y) → ⊥) → ⊥
premise_made P L q b R h none = none h.inputs h.made

-- whose judgement has outputs for what its inputs make
pub premise_has : (P : Program) (L : Language) (q : Premise) (b : Binding) (R : Binding → Type 0) → PremiseWay P L q b R → (t : Tree)
    → ((y : Tree) → (MakeList (calls P) b q.inputs (value y) ↔ (y ≡ t))) → HasOutputs P q.judgement t
premise_has P L q b R h t one = record {
  outputs = h.outputs;
  answered = subst (λ (z : Tree). (calls P).outputs_of q.judgement z (value h.outputs)) ((one h.inputs).0 h.made) h.answered;
}

module _ (P : Program) (L : Language) (q : Premise) (b c : Binding) (a : HasAscendingNames c) (h : PremiseWay P L q b (IsWithin c)) where
  premise_picks : visible h.found ≡ picked c (names q.outputs)
  premise_picks = joined-picked L q.outputs h.given b h.found h.joined c h.matches a h.join h.behind

  pub premise_seen : (t : Tree) (us : List Tree) → ((y : Tree) → (MakeList (calls P) b q.inputs (value y) ↔ (y ≡ t)))
      → (calls P).outputs_of q.judgement t (value us)
      → ((u : Tree) → In u us → (d : Binding) → Match L q.outputs u d → visible d ≡ picked c (names q.outputs) → ⊥) → ⊥
  premise_seen t us one answered none =
      let e : h.inputs ≡ t = (one h.inputs).0 h.made in
      let first = outputs_are_judged P q.judgement h.inputs h.outputs h.answered in
      let second = outputs_are_judged P q.judgement t us answered in
      let i : In h.given us = second.complete h.given (subst (λ (z : Tree). Judged P q.judgement z h.given) e (first.sound h.given h.among)) in
      none h.given i h.found h.matches premise_picks

  pub premise_joins : (l : List ℕ) (t : Tree) (g : Goal) (s : Binding) → IsSeenGoal L l q.outputs t c g s → ((d : Binding) → IsJoin b s d → ⊥) → ⊥
  premise_joins l t g s k none = none h.joined (subst (λ (z : Binding). IsJoin b z h.joined) (premise_picks ∙ sym k.picks) h.join)

-- and of a fresh name
pub fresh_joins : (w : Avoided) (x : List ℕ) (b f : Binding) (R : Binding → Type 0) → FreshWay w x b R → f ≡ freshly w b x
    → ((d : Binding) → IsJoin b f d → ⊥) → ⊥
fresh_joins w x b f R h e none = none h.joined (subst (λ (z : Binding). IsJoin b z h.joined) (sym e) h.join)

-- ---- all extras

-- a way over the first of them
pub first_way : (P : Program) (L : Language) (w : Avoided) (es others : List Extra) (x : Extra) (e b : Binding) → es ≡ x ∷ others → Ways P L w es e b
    → WayOn P L w x b (IsWithin e)
first_way P L w es others x e b s h =
    way-map P L w x b (Ways P L (behind w x) others e) (IsWithin e) (λ d r. ways-within P L (behind w x) others e d r)
    (subst (λ (z : List Extra). Ways P L w z e b) s h)

-- before the first
pub part_begins : (P : Program) (L : Language) (l : List ℕ) (v w : Avoided) (all : List Extra) (e b : Binding) → w ≡ v → Ways P L v all e b
    → IsPartOf P L l v all e b w all b []
part_begins P L l v w all e b q h = record {
  ways = subst (λ (z : Avoided). Ways P L z all e b) (sym q) h;
  uses = λ hs u. subst (λ (z : Avoided). ExtraUses P l z all e b hs) q u;
  on_the_way = λ x i. no_member i;
}

-- behind one more
pub part_more : (P : Program) (L : Language) (l : List ℕ) (v w w' : Avoided) (all es others : List Extra) (x : Extra) (e a b d : Binding)
    (gs fs ks : List Goal) → HasAscendingNames e → es ≡ x ∷ others → w' ≡ behind w x → ks ≡ gs ++ fs → IsPartOf P L l v all e a w es b gs
    → IsPassed P l w x e b fs d → IsPartOf P L l v all e a w' others d ks
part_more P L l v w w' all es others x e a b d gs fs ks n s q r h k =
    let ways : Ways P L w (x ∷ others) e b = subst (λ (z : List Extra). Ways P L w z e b) s h.ways in
    let on : Ways P L (behind w x) others e d =
    way-next P L w x e b d (Ways P L (behind w x) others e) n (λ y t. ways-within P L (behind w x) others e y t) ways k.gains in
    record {
      ways = subst (λ (z : Avoided). Ways P L z others e d) (sym q) on;
      uses = λ hs u. by_goals hs (subst (λ (z : Avoided). ExtraUses P l z others e d hs) q u);
      on_the_way = λ y i. by_place y (in-append gs fs y (subst (λ (z : List Goal). In y z) r i));
    }
  where
    by_goals : (hs : List Goal) → ExtraUses P l (behind w x) others e d hs → ExtraUses P l v all e a (ks ++ hs)
    by_goals hs u =
        let first : ExtraUses P l w (x ∷ others) e b (fs ++ hs) =
        under P l w x others (record { binding = b; goals = fs ++ hs }) e
        (record { next = record { binding = d; goals = hs }; first = k.leads hs; others = u }) in
        subst (λ (z : List Goal). ExtraUses P l v all e a z) (sym (append_assoc gs fs hs) ∙ ap (λ (z : List Goal). z ++ hs) (sym r))
        (h.uses (fs ++ hs) (subst (λ (z : List Extra). ExtraUses P l w z e b (fs ++ hs)) (sym s) first))

    by_place : (y : Goal) → In y gs ⊎ In y fs → IsOnTheWay P y
    by_place y (inl i) = h.on_the_way y i
    by_place y (inr i) = k.on_the_way y i

-- behind the last
pub part_ends : (P : Program) (L : Language) (l : List ℕ) (v w : Avoided) (all es : List Extra) (e a b : Binding) (gs : List Goal) → es ≡ []
    → IsPartOf P L l v all e a w es b gs → AreGoals P l v all e a gs
part_ends P L l v w all es e a b gs s h = record {
  uses = subst (λ (z : List Goal). ExtraUses P l v all e a z) (append-nil gs)
      (h.uses [] (subst (λ (z : List Extra). ExtraUses P l w z e b []) (sym s)
      (subst (λ (z : List Extra). Ways P L w z e b) s h.ways, refl)));
  on_the_way = h.on_the_way;
}

-- ---- rules

-- what a rule ends with is a finite map
pub rule-ascends : (P : Program) (L : Language) (r : JudgementRule) (a : Tree) (c : Binding) → RuleWay P L r a c → HasAscendingNames c
rule-ascends P L r a c h =
    let m : HasAscendingNames h.found = match-ascends h.matches in
    ways-ascend P L (avoiding a) r.extras c (visible h.found) h.ways (m.0, (tt, tt))

rule_picks : (P : Program) (L : Language) (r : JudgementRule) (a : Tree) (c : Binding) (h : RuleWay P L r a c)
    → visible h.found ≡ picked c (names r.inputs)
rule_picks P L r a c h =
    seen-picked L r.inputs a h.found c h.matches (rule-ascends P L r a c h) (ways-within P L (avoiding a) r.extras c (visible h.found) h.ways)

-- its inputs are matched so
pub rule_seen : (P : Program) (L : Language) (r : JudgementRule) (a : Tree) (c : Binding) → RuleWay P L r a c → HasSeen L r.inputs a c
rule_seen P L r a c h = record { found = h.found; matches = h.matches; picks = rule_picks P L r a c h }

-- and its extras lead on from there
pub rule_on : (P : Program) (L : Language) (l : List ℕ) (r : JudgementRule) (a : Tree) (c : Binding) (g : Goal) (s : Binding) → RuleWay P L r a c
    → IsSeenGoal L l r.inputs a c g s → Ways P L (avoiding a) r.extras c s
rule_on P L l r a c g s h k =
    subst (λ (z : Binding). Ways P L (avoiding a) r.extras c z) (rule_picks P L r a c h ∙ sym k.picks) h.ways

-- so there are all goals
pub rule_goes : (P : Program) (L : Language) (l : List ℕ) (r : JudgementRule) (a : Tree) (c : Binding) (g : Goal) (s : Binding) (gs ks : List Goal)
    → language_named P l ≡ Some L → IsKnownRule L r → IsSeenGoal L l r.inputs a c g s → AreGoals P l (avoiding a) r.extras c s gs → ks ≡ g ∷ gs
    → AreRuleGoals P l r a c ks
rule_goes P L l r a c g s gs ks n k h m e = record {
  found = h.found;
  left = gs;
  goals = e ∙ ap (λ (z : Goal). z ∷ gs) h.goal;
  uses = subst (λ (z : Binding). ExtraUses P l (avoiding a) r.extras c z gs) h.seen m.uses;
  on_the_way = λ x i. by_place x (subst (λ (z : List Goal). In x z) e i);
}
  where
    by_place : (x : Goal) → In x (g ∷ gs) → IsOnTheWay P x
    by_place x (here i) = matched_goes P L l r.inputs a c s g x n k.inputs h i
    by_place x (there i) = m.on_the_way x i

-- ---- the binding at the end

-- extras over a language that there is
pub over_language : (o : Option Language) (L : Language) (C : Calls) (a : Tree) (es : List Extra) (bs : List Binding) (x : Answer (List Binding))
    → o ≡ Some L → ExtendOver o C a es bs x → Extend L C (avoiding a) es bs x
over_language o L C a es bs x n h = subst (λ (m : Option Language). ExtendOver m C a es bs x) n h

module _ (P : Program) (L : Language) (r : JudgementRule) (a o : Tree) (bs cs : List Binding) (listing : Matches L r.inputs a bs)
    (extended : Extend L (calls P) (avoiding a) r.extras bs (value cs)) where
  -- what is found is reached from a match
  pub final_some : (c : Binding) → In c cs × MakeList (calls P) c r.outputs (value o) → RuleMakes P L r a o c
  final_some c h =
      let k = extend-ways P L (avoiding a) r.extras bs cs c extended h.0 in
      let s = listing.sound k.start k.among in
      record {
        way = record {
          found = s.whole;
          matches = s.holds;
          ways = subst (λ (z : Binding). Ways P L (avoiding a) r.extras c z) s.seen k.ways;
        };
        made = h.1;
      }

  -- where nothing is, the rule has no such outputs
  pub final_none : ((c : Binding) → In c cs → MakeList (calls P) c r.outputs (value o) → ⊥) → ¬ RuleHas P L r a o
  final_none none h =
      let i : In (visible h.found) bs = listing.complete (visible h.found) (record { whole = h.found; holds = h.matches; seen = refl }) in
      none h.final
      (leads-complete P height 0 (add-zero height) L (avoiding a) r.extras (visible h.found) h.final h.leads bs cs extended i) h.made

-- ---- the judgement

-- a rule by which the judgement has the outputs
pub record IsHad (P : Program) (j : List ℕ) (a o : Tree) : Type 0 where
  pub language : Language
  pub place : ℕ
  pub rule : JudgementRule
  pub rule_for : IsRuleFor P j language place rule a o
  pub has : RuleHas P language rule a o

-- there is one
pub judged-had : {P : Program} {j : List ℕ} {a o : Tree} → Judged P j a o → IsHad P j a o
judged-had (judged_by {L = L} {i = i} {r = r} {b = b} {c = c} f m g q) = record {
  language = L;
  place = i;
  rule = r;
  rule_for = f;
  has = record { found = b; final = c; matches = m; leads = g; made = q };
}

-- where there is no such judgement it has none
pub not_named : (P : Program) (j : List ℕ) (a o : Tree) → judgement_named P j ≡ None → ¬ Judged P j a o
not_named P j a o n h = let k = judged-had h in let e : Some k.rule_for.judgement ≡ None = sym k.rule_for.named ∙ n in absurd cc

module _ (P : Program) (j : List ℕ) (a o : Tree) (J : Judgement) (named : judgement_named P j ≡ Some J) where
  had_judgement : (h : IsHad P j a o) → h.rule_for.judgement ≡ J
  had_judgement h = let e : Some h.rule_for.judgement ≡ Some J = sym h.rule_for.named ∙ named in cc

  had_language : (h : IsHad P j a o) → language_named P J.language ≡ Some h.language
  had_language h = ap (λ (K : Judgement). language_named P K.language) (sym (had_judgement h)) ∙ h.rule_for.language

  -- nor where it has no language
  pub not_spoken : language_named P J.language ≡ None → ¬ Judged P j a o
  not_spoken n h = let k = judged-had h in let e : Some k.language ≡ None = sym (had_language k) ∙ n in absurd cc

  module _ (L : Language) (spoken : language_named P J.language ≡ Some L) where
    had_in : (h : IsHad P j a o) → h.language ≡ L
    had_in h = let e : Some h.language ≡ Some L = sym (had_language h) ∙ spoken in cc

    -- nor where its contract does not allow these
    pub not_allowed : ¬ Allows L J a o → ¬ Judged P j a o
    not_allowed n h =
        let k = judged-had h in
        n (record {
          inputs = subst (λ (K : Judgement). Fits L (asked_in K.contract) a) (had_judgement k)
              (subst (λ (M : Language). Fits M (asked_in k.rule_for.judgement.contract) a) (had_in k) k.rule_for.inputs);
          outputs = subst (λ (K : Judgement). Fits L (asked_out K.contract) o) (had_judgement k)
              (subst (λ (M : Language). Fits M (asked_out k.rule_for.judgement.contract) o) (had_in k) k.rule_for.outputs);
        })

    -- nor where none of its rules has them
    pub no_rule : (rs : List JudgementRule) → rs ≡ J.rules → ((r : JudgementRule) → In r rs → RuleHas P L r a o → ⊥) → ¬ Judged P j a o
    no_rule rs e n h =
        let k = judged-had h in
        let i : In k.rule k.rule_for.judgement.rules = placed-in k.rule_for.judgement.rules k.place k.rule k.rule_for.there in
        n k.rule (subst (λ (xs : List JudgementRule). In k.rule xs) (ap (λ (K : Judgement). K.rules) (had_judgement k) ∙ sym e) i)
        (subst (λ (M : Language). RuleHas P M k.rule a o) (had_in k) k.has)

-- ---- no fault

-- where there is one answer, and that is a value, a fault is want of memory
pub no_fault : {A B : Type 0} (view : A → B) (R : Answer B → Type 0) → Once R → (x : B) → R (value x) → (f : EvalFault) → Says view R (Err f)
    → ¬ IsNamed f
no_fault view R once x h f s n =
    let k = told_fault view R f s n in
    let e : value x ≡ fault k.0 = once (value x) (fault k.0) h k.1 in absurd cc

-- so it is where the judgement is answered outputs
pub answered_well : {A : Type 0} (view : A → List Tree) (P : Program) (j : List ℕ) (a : Tree) → HasOutputs P j a → (f : EvalFault)
    → Says view ((calls P).outputs_of j a) (Err f) → ¬ IsNamed f
answered_well view P j a h f s = no_fault view ((calls P).outputs_of j a) (once-outputs P height j a) h.outputs h.answered f s

-- and where something is left of a rule
pub left_well : {A : Type 0} (view : A → List Binding) (P : Program) (L : Language) (l : List ℕ) → language_named P l ≡ Some L
    → (r : JudgementRule) (a : Tree) → HasSurvivors P L r a → (bs : List Binding) → Matches L r.inputs a bs → (f : EvalFault)
    → Says view (ExtendOver (language_named P l) (calls P) a r.extras bs) (Err f) → ¬ IsNamed f
left_well view P L l n r a h bs m f s =
    no_fault view (λ x. Survivors L (calls P) a r.inputs r.extras x)
    (once-survivors L (calls P) (once-call P height) (once-outputs P height) a r.inputs r.extras) h.left h.survives f
    (by_fault f (subst (λ (o : Option Language). Says view (ExtendOver o (calls P) a r.extras bs) (Err f)) n s))
  where
    by_fault : (g : EvalFault) → Says view (Extend L (calls P) (avoiding a) r.extras bs) (Err g)
        → Says view (λ x. Survivors L (calls P) a r.inputs r.extras x) (Err g)
    by_fault (Named g) k = goes (lists m) k
    by_fault NoMemory k = tt

-- at no height nothing is answered
none-there : (P : Program) (j : List ℕ) (a : Tree) (os : List Tree) {X : Type 0} → (calls_at P 0).outputs_of j a (value os) → X
unfolding calls_at
none-there P j a os h = absurd cc

-- above it is what the rules make at one height less
some-there : (P : Program) (n : ℕ) (j : List ℕ) (a : Tree) (os : List Tree) → (calls_at P (suc n)).outputs_of j a (value os)
    → Outputs P (calls_at P n) j a (value os)
unfolding calls_at
some-there P n j a os h = h

module _ (P : Program) (j : List ℕ) (a : Tree) (J : Judgement) (named : judgement_named P j ≡ Some J) (L : Language)
    (spoken : language_named P J.language ≡ Some L) (r : JudgementRule) (i : In r J.rules) where
  -- each rule is run
  record IsRun (C : Calls) : Type 0 where
    left : List Binding
    survives : Survivors L C a r.inputs r.extras (value left)

  rule-run : (C : Calls) (os : List Tree) → Outputs P C j a (value os) → IsRun C
  rule-run C os h =
      let one : RulesOver (language_named P J.language) C J.contract j a J.rules (value os) =
      subst (λ (q : Option Judgement). OutputsBy P C q j a (value os)) named h in
      let over : RulesOver (Some L) C J.contract j a J.rules (value os) =
      subst (λ (m : Option Language). RulesOver m C J.contract j a J.rules (value os)) spoken one in
      let all = Rules L C j (asked_out J.contract) a J.rules in
      let k = reached (Gather (RuleOutputs L C j (asked_out J.contract) a) J.rules) (λ ts. Lists tree_cmp (λ t. In t ts)) os
      (asked-value L (asked_in J.contract) a (not_contract j sides.In a) all os over) in
      let g = gathered-complete (RuleOutputs L C j (asked_out J.contract) a) J.rules k.between r k.before i in
      let m = reached (Survivors L C a r.inputs r.extras) (OutputLists L C j (asked_out J.contract) r.outputs) g.given g.gives in
      record { left = m.between; survives = m.before }

  -- at a lower height, and so at a greater one
  run-at : (n k : ℕ) → n + k ≡ height → (os : List Tree) → (calls_at P n).outputs_of j a (value os) → HasSurvivors P L r a
  run-at zero k e os h = none-there P j a os h
  run-at (suc n) k e os h =
      let d : n + suc k ≡ height = omega (arith, e) in
      let m = rule-run (calls_at P n) os (some-there P n j a os h) in
      record {
        left = m.left;
        survives = subst (λ (x : ℕ). Survivors L (calls_at P x) a r.inputs r.extras (value m.left)) d
            (keeps-survivors (calls_at P n) (calls_at P (n + suc k)) (values-stay P n (suc k)) (outputs-stay P n (suc k)) L a r.inputs r.extras
            (value m.left) tt m.survives);
      }

  -- where the judgement is answered outputs, something is left of each of its rules
  pub rule_left : HasOutputs P j a → HasSurvivors P L r a
  rule_left h = run-at height 0 (add-zero height) h.outputs h.answered

-- ---- what a loop has before it

-- what is not the first of the rest is in what is behind that
pub ahead_next : {A : Type 0} (d x : A) (es others : List A) → es ≡ x ∷ others → (d ≡ x → ⊥) → In d es → In d others
ahead_next {A = A} d x es others e n i = by_place (subst (λ (z : List A). In d z) e i)
  where
    by_place : In d (x ∷ others) → In d others
    by_place (here h) = absurd (n h)
    by_place (there j) = j

-- where nothing is left there is none
pub ahead_none : {A : Type 0} (d : A) (es : List A) → es ≡ [] → In d es → ⊥
ahead_none {A = A} d es e i = no_member (subst (λ (z : List A). In d z) e i)

-- the same goals and the same binding are passed
pub passed_by : (P : Program) (l : List ℕ) (w : Avoided) (x : Extra) (c b : Binding) (gs hs : List Goal) (d e : Binding) → gs ≡ hs → d ≡ e
    → IsPassed P l w x c b hs e → IsPassed P l w x c b gs d
passed_by P l w x c b gs hs d e s q h =
    subst (λ (z : List Goal). IsPassed P l w x c b z d) (sym s) (subst (λ (z : Binding). IsPassed P l w x c b hs z) (sym q) h)

-- of what is found less may hold
pub some_weaker : {A : Type 0} (R S : A → Type 0) → ((x : A) → R x → S x) → (o : Option A) → IfSome o R → IfSome o S
some_weaker R S f None h = tt
some_weaker R S f (Some x) h = f x h

pub none_weaker : {A X Y : Type 0} → (X → Y) → (o : Option A) → IfNone o X → IfNone o Y
none_weaker f None h = f h
none_weaker f (Some x) h = tt

-- ---- steps

-- a step by a rule, whose goals are on the way
pub rule_step : (P : Program) (j : List ℕ) (a o : Tree) (J : Judgement) (L : Language) → judgement_named P j ≡ Some J
    → language_named P J.language ≡ Some L → Allows L J a o → (i : ℕ) (c : Binding) (m : RuleAt P L J.rules a o i c) (ks : List ℕ) (gs : List Goal)
    → ks ≡ i ∷ [] → AreRuleGoals P J.language m.rule a c gs → JudgementUse P j a o ks gs
rule_step P j a o J L n k w i c m ks gs e h = record {
  language = L;
  place = i;
  rule = m.rule;
  found = h.found;
  final = c;
  left = h.left;
  rule_for = record { judgement = J; named = n; language = k; there = m.there; inputs = w.inputs; outputs = w.outputs };
  choice = e;
  goals = h.goals;
  extras = h.uses;
  made = m.makes.made;
}

-- the rule at a place
pub rule_here : (P : Program) (L : Language) (rs : List JudgementRule) (a o : Tree) (i : ℕ) (c : Binding) → RuleAt P L rs a o i c
    → (r : JudgementRule) → slice_get rs i ≡ Some r → RuleMakes P L r a o c
rule_here P L rs a o i c m r e =
    let f : Some m.rule ≡ Some r = sym m.there ∙ e in
    let s : m.rule ≡ r = cc in subst (λ (z : JudgementRule). RuleMakes P L z a o c) s m.makes

-- a step by it
pub step_from : (P : Program) (j : List ℕ) (a o : Tree) (J : Judgement) (L : Language) → judgement_named P j ≡ Some J
    → language_named P J.language ≡ Some L → Allows L J a o → (i : ℕ) (c : Binding) (r : JudgementRule) → slice_get J.rules i ≡ Some r
    → RuleMakes P L r a o c → (s : Step) → s.choice.items ≡ i ∷ [] → AreRuleGoals P J.language r a c (goals_in s)
    → IsStepFrom P (judged j a o) s
step_from P j a o J L n k w i c r t m s e h = record {
  use_of_rule = rule_step P j a o J L n k w i c (record { rule = r; there = t; makes = m }) s.choice.items (goals_in s) e h;
  on_the_way = h.on_the_way;
}

-- a test that fails refuses
pub not_made : {r : Bool} {X : Type 0} → (IsTrue r ↔ X) → r ≡ false → X → ⊥
not_made {r = r} h e x = let k : IsTrue r = h.1 x in let f : r ≡ true = k in absurd cc
