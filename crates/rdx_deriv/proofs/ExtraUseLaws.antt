-- Extras, one at a time: where each leads to, and that it leads nowhere else.
use Rattle.std.proofs.Common.{◌≡◌, ℕ, Bool, true, false, List, [], ◌∷◌, length, refl, sym, ◌∙◌, ap, subst, arith}
use Rattle.std.proofs.lemmas.Bool.{eq-eqb, eqb-true}
use Rattle.std.specs.Prelude.{◌↔◌, ◌==◌}
use Rattle.rdx_term.specs.Tree.{Tree}
use Rattle.rdx_lang.specs.Bindings.{Binding, visible}
use Rattle.rdx_lang.specs.Join.{IsJoin}
use Rattle.rdx_lang.specs.Patterns.{Pattern}
use Rattle.rdx_lang.specs.Programs.{Extra, such_as, provided, holds, fresh, Premise, Program}
use Rattle.rdx_lang.specs.Templates.{Template, Host}
use Rattle.rdx_eval.specs.Answers.{value}
use Rattle.rdx_eval.specs.Fresh.{Avoided, behind, freshly}
use Rattle.rdx_eval.specs.Instantiation.{Makes, MakeList}
use Rattle.rdx_deriv.specs.Derivations.{Goal, matched, judged}
use Rattle.rdx_deriv.specs.DerivationView.{goals_of}
use Rattle.rdx_deriv.specs.declared.deriv.Deriv as code
use Rattle.rdx_deriv.specs.Judged.{calls}
use Rattle.rdx_deriv.specs.JudgementUses.{ExtraUses, WhereUse, ConditionUse, PremiseUse, FreshUse}
use Rattle.rdx_deriv.specs.Inside.Extending.{Stand, Ends, IsMet, LeadsOn, LeadsTo}

-- equal parts
same_stand : (y : Stand) (b : Binding) (gs : List Goal) → y.binding ≡ b → y.goals ≡ gs → y ≡ record { binding = b; goals = gs }
same_stand y b gs e h = λ i. record { binding = e i; goals = h i }

-- only the binding of the first goal and what is behind it are open
first_same : (l : List ℕ) (p : Pattern) (t u : Tree) (gs hs is : List Goal) (c d : Binding) → gs ≡ matched l p t c ∷ hs → gs ≡ matched l p u d ∷ is
    → (d ≡ c) × (is ≡ hs)
first_same l p t u gs hs is c d e f = let g : matched l p u d ∷ is ≡ matched l p t c ∷ hs = sym f ∙ e in (cc, cc)

-- ---- `where`

module _ (P : Program) (l : List ℕ) (p : Pattern) (m : Template) (b : Binding) (gs : List Goal) where
  -- where nothing is made
  pub where_not : ((y : Tree) → Makes (calls P) b m (value y) → ⊥) → (y : Stand) → WhereUse P l p m b gs (Ends y) → ⊥
  where_not none y u = none u.term u.made

  module _ (t : Tree) (made : (y : Tree) → (Makes (calls P) b m (value y) ↔ (y ≡ t))) where
    -- where the first goal is another one
    pub where_no_goal : ((c : Binding) (hs : List Goal) → gs ≡ matched l p t c ∷ hs → ⊥) → (y : Stand) → WhereUse P l p m b gs (Ends y) → ⊥
    where_no_goal none y u = none u.found u.left (u.goals ∙ ap (λ (z : Tree). matched l p z u.found ∷ u.left) ((made u.term).0 u.made))

    module _ (d : Binding) (hs : List Goal) (first : gs ≡ matched l p t d ∷ hs) where
      -- where there is no join
      pub where_no_join : ((c : Binding) → IsJoin b (visible d) c → ⊥) → (y : Stand) → WhereUse P l p m b gs (Ends y) → ⊥
      where_no_join none y u =
          let s = first_same l p t u.term gs hs u.left d u.found first u.goals in
          none u.joined (subst (λ (z : Binding). IsJoin b (visible z) u.joined) s.0 u.join)

      -- and where there is one
      pub where_some : (e : Binding) → ((c : Binding) → (IsJoin b (visible d) c ↔ (c ≡ e))) → (y : Stand)
          → (WhereUse P l p m b gs (Ends y) ↔ (y ≡ record { binding = e; goals = hs }))
      where_some e one y = (forth, back)
        where
          forth : WhereUse P l p m b gs (Ends y) → y ≡ record { binding = e; goals = hs }
          forth u =
              let s = first_same l p t u.term gs hs u.left d u.found first u.goals in
              let j : u.joined ≡ e = (one u.joined).0 (subst (λ (z : Binding). IsJoin b (visible z) u.joined) s.0 u.join) in
              same_stand y e hs (sym u.behind.0 ∙ j) (sym u.behind.1 ∙ s.1)

          back : y ≡ record { binding = e; goals = hs } → WhereUse P l p m b gs (Ends y)
          back h = record {
            term = t;
            found = d;
            joined = e;
            left = hs;
            made = (made t).1 refl;
            goals = first;
            join = (one e).1 refl;
            behind = (sym (ap (λ (z : Stand). z.binding) h), sym (ap (λ (z : Stand). z.goals) h));
          }

-- ---- side conditions

module _ (P : Program) (h : Host) (b : Binding) (gs : List Goal) where
  -- where it is met, it stays
  pub condition_met : IsMet P b h → (y : Stand) → (ConditionUse P h b gs (Ends y) ↔ (y ≡ record { binding = b; goals = gs }))
  condition_met m y = (
    λ u. same_stand y b gs (sym u.behind.0) (sym u.behind.1),
    λ e. record {
      term = m.term;
      made = m.made;
      not_false = m.not_false;
      behind = (sym (ap (λ (z : Stand). z.binding) e), sym (ap (λ (z : Stand). z.goals) e));
    },
  )

  -- and else leads nowhere
  pub condition_not : (IsMet P b h → ⊥) → (y : Stand) → ConditionUse P h b gs (Ends y) → ⊥
  condition_not none y u = none (record { term = u.term; made = u.made; not_false = u.not_false })

-- ---- premises

module _ (P : Program) (l : List ℕ) (q : Premise) (b : Binding) (gs : List Goal) where
  -- where no inputs are made
  pub premise_not : ((y : Tree) → MakeList (calls P) b q.inputs (value y) → ⊥) → (y : Stand) → PremiseUse P l q b gs (Ends y) → ⊥
  premise_not none y u = none u.inputs u.made

  module _ (t : Tree) (made : (y : Tree) → (MakeList (calls P) b q.inputs (value y) ↔ (y ≡ t))) where
    -- the goals, where the inputs are these
    with_inputs : (y : Stand) (u : PremiseUse P l q b gs (Ends y))
        → gs ≡ judged q.judgement t u.outputs ∷ matched l q.outputs u.outputs u.found ∷ u.left
    with_inputs y u =
        u.goals ∙ ap (λ (z : Tree). judged q.judgement z u.outputs ∷ matched l q.outputs u.outputs u.found ∷ u.left) ((made u.inputs).0 u.made)

    -- where the first goal is another one
    pub premise_no_goal : ((o : Tree) (hs : List Goal) → gs ≡ judged q.judgement t o ∷ hs → ⊥) → (y : Stand) → PremiseUse P l q b gs (Ends y) → ⊥
    premise_no_goal none y u = none u.outputs (matched l q.outputs u.outputs u.found ∷ u.left) (with_inputs y u)

    module _ (o : Tree) (hs : List Goal) (first : gs ≡ judged q.judgement t o ∷ hs) where
      -- the other goals, where the outputs are these
      with_outputs : (y : Stand) (u : PremiseUse P l q b gs (Ends y)) → hs ≡ matched l q.outputs o u.found ∷ u.left
      with_outputs y u =
          let e : judged q.judgement t u.outputs ∷ matched l q.outputs u.outputs u.found ∷ u.left ≡ judged q.judgement t o ∷ hs =
          sym (with_inputs y u) ∙ first in
          let f : u.outputs ≡ o = cc in
          let g : matched l q.outputs u.outputs u.found ∷ u.left ≡ hs = cc in
          sym g ∙ ap (λ (z : Tree). matched l q.outputs z u.found ∷ u.left) f

      -- where the second is another one
      pub premise_no_second : ((c : Binding) (is : List Goal) → hs ≡ matched l q.outputs o c ∷ is → ⊥) → (y : Stand)
          → PremiseUse P l q b gs (Ends y) → ⊥
      premise_no_second none y u = none u.found u.left (with_outputs y u)

      module _ (d : Binding) (is : List Goal) (second : hs ≡ matched l q.outputs o d ∷ is) where
        -- where there is no join
        pub premise_no_join : ((c : Binding) → IsJoin b (visible d) c → ⊥) → (y : Stand) → PremiseUse P l q b gs (Ends y) → ⊥
        premise_no_join none y u =
            let s = first_same l q.outputs o o hs is u.left d u.found second (with_outputs y u) in
            none u.joined (subst (λ (z : Binding). IsJoin b (visible z) u.joined) s.0 u.join)

        -- and where there is one
        pub premise_some : (e : Binding) → ((c : Binding) → (IsJoin b (visible d) c ↔ (c ≡ e))) → (y : Stand)
            → (PremiseUse P l q b gs (Ends y) ↔ (y ≡ record { binding = e; goals = is }))
        premise_some e one y = (forth, back)
          where
            forth : PremiseUse P l q b gs (Ends y) → y ≡ record { binding = e; goals = is }
            forth u =
                let s = first_same l q.outputs o o hs is u.left d u.found second (with_outputs y u) in
                let j : u.joined ≡ e = (one u.joined).0 (subst (λ (z : Binding). IsJoin b (visible z) u.joined) s.0 u.join) in
                same_stand y e is (sym u.behind.0 ∙ j) (sym u.behind.1 ∙ s.1)

            back : y ≡ record { binding = e; goals = is } → PremiseUse P l q b gs (Ends y)
            back h = record {
              inputs = t;
              outputs = o;
              found = d;
              joined = e;
              left = is;
              made = (made t).1 refl;
              goals = first ∙ ap (λ (z : List Goal). judged q.judgement t o ∷ z) second;
              join = (one e).1 refl;
              behind = (sym (ap (λ (z : Stand). z.binding) h), sym (ap (λ (z : Stand). z.goals) h));
            }

-- ---- fresh names

module _ (w : Avoided) (x : List ℕ) (b d : Binding) (gs : List Goal) (same : d ≡ freshly w b x) where
  -- where there is no join
  pub fresh_no_join : ((c : Binding) → IsJoin b d c → ⊥) → (y : Stand) → FreshUse w x b gs (Ends y) → ⊥
  fresh_no_join none y u = none u.joined (subst (λ (z : Binding). IsJoin b z u.joined) (sym same) u.join)

  -- and where there is one
  pub fresh_some : (e : Binding) → ((c : Binding) → (IsJoin b d c ↔ (c ≡ e))) → (y : Stand)
      → (FreshUse w x b gs (Ends y) ↔ (y ≡ record { binding = e; goals = gs }))
  fresh_some e one y = (
    λ u. same_stand y e gs (sym u.behind.0 ∙ (one u.joined).0 (subst (λ (z : Binding). IsJoin b z u.joined) (sym same) u.join)) (sym u.behind.1),
    λ h. record {
      joined = e;
      join = subst (λ (z : Binding). IsJoin b z e) same ((one e).1 refl);
      behind = (sym (ap (λ (z : Stand). z.binding) h), sym (ap (λ (z : Stand). z.goals) h));
    },
  )

-- ---- extras

-- the extras lead to e over the first of them
pub record LeadsOver (P : Program) (l : List ℕ) (w : Avoided) (x : Extra) (es : List Extra) (s : Stand) (e : Binding) : Type 0 where
  pub next : Stand
  pub first : LeadsOn P l w x s next
  pub others : LeadsTo P l (behind w x) es next e

-- they do exactly so
over : (P : Program) (l : List ℕ) (w : Avoided) (x : Extra) (es : List Extra) (s : Stand) (e : Binding) → LeadsTo P l w (x ∷ es) s e
    → LeadsOver P l w x es s e
over P l w (such_as p m) es s e u = record {
  next = record { binding = u.joined; goals = u.left };
  first = record {
    term = u.term;
    found = u.found;
    joined = u.joined;
    left = u.left;
    made = u.made;
    goals = u.goals;
    join = u.join;
    behind = (refl, refl);
  };
  others = u.behind;
}
over P l w (provided h) es s e u = record {
  next = s;
  first = record { term = u.term; made = u.made; not_false = u.not_false; behind = (refl, refl) };
  others = u.behind;
}
over P l w (holds q) es s e u = record {
  next = record { binding = u.joined; goals = u.left };
  first = record {
    inputs = u.inputs;
    outputs = u.outputs;
    found = u.found;
    joined = u.joined;
    left = u.left;
    made = u.made;
    goals = u.goals;
    join = u.join;
    behind = (refl, refl);
  };
  others = u.behind;
}
over P l w (fresh n) es s e u = record {
  next = record { binding = u.joined; goals = s.goals };
  first = record { joined = u.joined; join = u.join; behind = (refl, refl) };
  others = u.behind;
}

-- the same where they are reached by equations
moved : (P : Program) (l : List ℕ) (w : Avoided) (es : List Extra) (y : Stand) (b e : Binding) (gs : List Goal) → b ≡ y.binding → gs ≡ y.goals
    → LeadsTo P l w es y e → ExtraUses P l w es e b gs
moved P l w es y b e gs f g u = subst (λ (z : List Goal). ExtraUses P l w es e b z) (sym g)
    (subst (λ (z : Binding). ExtraUses P l w es e z y.goals) (sym f) u)

pub under : (P : Program) (l : List ℕ) (w : Avoided) (x : Extra) (es : List Extra) (s : Stand) (e : Binding) → LeadsOver P l w x es s e
    → LeadsTo P l w (x ∷ es) s e
under P l w (such_as p m) es s e o = let u = o.first in record {
  term = u.term;
  found = u.found;
  joined = u.joined;
  left = u.left;
  made = u.made;
  goals = u.goals;
  join = u.join;
  behind = moved P l w es o.next u.joined e u.left u.behind.0 u.behind.1 o.others;
}
under P l w (provided h) es s e o = let u = o.first in record {
  term = u.term;
  made = u.made;
  not_false = u.not_false;
  behind = moved P l w es o.next s.binding e s.goals u.behind.0 u.behind.1 o.others;
}
under P l w (holds q) es s e o = let u = o.first in record {
  inputs = u.inputs;
  outputs = u.outputs;
  found = u.found;
  joined = u.joined;
  left = u.left;
  made = u.made;
  goals = u.goals;
  join = u.join;
  behind = moved P l w es o.next u.joined e u.left u.behind.0 u.behind.1 o.others;
}
under P l w (fresh n) es s e o = let u = o.first in record {
  joined = u.joined;
  join = u.join;
  behind = moved P l (behind w (fresh n)) es o.next u.joined e s.goals u.behind.0 u.behind.1 o.others;
}

-- what is known of all extras, from where they are left
abbrev pub GoesOn : Program → List ℕ → Avoided → List Extra → Stand → Avoided → List Extra → Stand → Type 0
GoesOn P l v all start w es s = (e : Binding) → (LeadsTo P l v all start e ↔ LeadsTo P l w es s e)

-- at first all are left
pub begins : (P : Program) (l : List ℕ) (v w : Avoided) (es : List Extra) (s : Stand) → w ≡ v → GoesOn P l v es s w es s
begins P l v w es s d e =
    (λ h. subst (λ (z : Avoided). LeadsTo P l z es s e) (sym d) h, λ h. subst (λ (z : Avoided). LeadsTo P l z es s e) d h)

-- no derivation is left, so no goal
pub no_goals : (ds : List code.Deriv) (r : Bool) → r ≡ (length ds == 0) → r ≡ true → goals_of ds ≡ []
no_goals [] r e h = refl
no_goals (d ∷ ds) r e h = absurd (let k = eqb-true (length (d ∷ ds)) 0 (sym e ∙ h) in omega arith)

-- some are, so some goals
pub some_goals : (ds : List code.Deriv) (r : Bool) → r ≡ (length ds == 0) → r ≡ false → goals_of ds ≡ [] → ⊥
some_goals [] r e h k = let f : false ≡ true = sym h ∙ e ∙ eq-eqb 0 0 refl in absurd cc
some_goals (d ∷ ds) r e h k = absurd cc

module _ (P : Program) (l : List ℕ) (v w : Avoided) (all es : List Extra) (start s : Stand) (x : Extra) (others : List Extra)
    (split : es ≡ x ∷ others)
    (so_far : GoesOn P l v all start w es s) where
  -- where one more leads on
  pub goes_on : (n : Stand) (w' : Avoided) → ((y : Stand) → (LeadsOn P l w x s y ↔ (y ≡ n))) → w' ≡ behind w x → GoesOn P l v all start w' others n
  goes_on n w' one d e = (
    λ h. (let o = over P l w x others s e (subst (λ (z : List Extra). LeadsTo P l w z s e) split ((so_far e).0 h)) in
        let i : o.next ≡ n = (one o.next).0 o.first in
        subst (λ (z : Avoided). LeadsTo P l z others n e) (sym d) (subst (λ (z : Stand). LeadsTo P l (behind w x) others z e) i o.others)),
    λ h. (so_far e).1 (subst (λ (z : List Extra). LeadsTo P l w z s e) (sym split) (under P l w x others s e (record {
      next = n;
      first = (one n).1 refl;
      others = subst (λ (z : Avoided). LeadsTo P l z others n e) d h;
    }))),
  )

  -- and where it leads nowhere
  pub goes_nowhere : ((y : Stand) → LeadsOn P l w x s y → ⊥) → (e : Binding) → LeadsTo P l v all start e → ⊥
  goes_nowhere none e h =
      let o = over P l w x others s e (subst (λ (z : List Extra). LeadsTo P l w z s e) split ((so_far e).0 h)) in none o.next o.first

module _ (P : Program) (l : List ℕ) (v w : Avoided) (all es : List Extra) (start s : Stand) (end : es ≡ [])
    (so_far : GoesOn P l v all start w es s) where
  -- at the end no goal is left
  pub ends : s.goals ≡ [] → (e : Binding) → (LeadsTo P l v all start e ↔ (e ≡ s.binding))
  ends none e = (
    λ h. (subst (λ (z : List Extra). LeadsTo P l w z s e) end ((so_far e).0 h)).0,
    λ h. (so_far e).1 (subst (λ (z : List Extra). LeadsTo P l w z s e) (sym end) (h, none)),
  )

  -- or else it is none
  pub ends_not : (s.goals ≡ [] → ⊥) → (e : Binding) → LeadsTo P l v all start e → ⊥
  ends_not some e h = some (subst (λ (z : List Extra). LeadsTo P l w z s e) end ((so_far e).0 h)).1
