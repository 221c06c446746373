-- The rule that is chosen, and what it asks of the goals.
use Rattle.std.proofs.Common.{◌≡◌, ℕ, ◌<◌, ◌≤◌, List, [], ◌∷◌, Option, Some, None, Bool, true, false, not, length, get_or}
use Rattle.std.proofs.Common.{refl, sym, ◌∙◌, ap, subst, arith}
use Rattle.std.proofs.lemmas.Bool.{eq-eqb, eqb-true}
use Rattle.std.proofs.lemmas.List.{length-map}
use Rattle.std.proofs.lemmas.Option.{slice_get-map, slice_get_read, slice_get_past}
use Rattle.std.specs.Prelude.{◌↔◌, ◌==◌, IsTrue, slice_get, option_map}
use Rattle.rdx_term.specs.Tree.{Tree}
use Rattle.rdx_lang.specs.Bindings.{Binding, visible}
use Rattle.rdx_lang.specs.Listing.{Matches}
use Rattle.rdx_lang.specs.Members.{here}
use Rattle.rdx_lang.specs.Patterns.{Pattern, Language}
use Rattle.rdx_lang.specs.Programs.{Extra, JudgementRule, Judgement, Program, judgement_named, language_named}
use Rattle.rdx_lang.specs.ProgramView.{judgement_of, judgement_rule_of}
use Rattle.rdx_lang.specs.Shown.{binding_of, bindings_of}
use Rattle.rdx_lang.specs.declared.binding.Binding as code_binding
use Rattle.rdx_lang.specs.declared.program.JRule.{JRule}
use Rattle.rdx_lang.specs.declared.program.Judgement as code
use Rattle.rdx_eval.specs.Answers.{value}
use Rattle.rdx_eval.specs.Asking.{asked_in, asked_out}
use Rattle.rdx_eval.specs.Fresh.{Avoided, avoiding}
use Rattle.rdx_eval.specs.Instantiation.{MakeList}
use Rattle.rdx_deriv.specs.Derivations.{Goal, matched}
use Rattle.rdx_deriv.specs.Judged.{Fits, calls, Allows}
use Rattle.rdx_deriv.specs.JudgementUses.{JudgementUse, ExtraUses}
use Rattle.rdx_deriv.specs.Inside.Extending.{IsChosenRule, IsRuleAt, NamedRule, RuleUse}
use Rattle.rdx_deriv.specs.Finding.{Finds}

-- ---- contracts

-- a term matches a pattern where something is listed
fits_where : (L : Language) (p : Pattern) (t : Tree) (bs : List Binding) → Matches L p t bs → (r : Bool) → r ≡ (length bs == 0)
    → (IsTrue (not r) ↔ Fits L (Some p) t)
fits_where L p t [] m true e = (λ h. absurd cc, λ f. absurd (not_listed f))
  where
    not_listed : Fits L (Some p) t → ⊥
    not_listed f = elim (m.complete (visible f.0) (record { whole = f.0; holds = f.1; seen = refl })) [ ]
fits_where L p t [] m false e = absurd (let k : false ≡ true = e ∙ eq-eqb 0 0 refl in cc)
fits_where L p t (b ∷ bs) m true e = absurd (let k = eqb-true (length (b ∷ bs)) 0 (sym e) in omega arith)
fits_where L p t (b ∷ bs) m false e = (λ h. (let s = m.sound b (here refl) in (s.whole, s.holds)), λ f. refl)

-- the same where there is one
pub fits_found : (L : Language) (o : Option Pattern) (p : Pattern) (t : Tree) (xs : List code_binding.Binding) → o ≡ Some p
    → Matches L p t (bindings_of xs) → (r : Bool) → r ≡ (length xs == 0) → (IsTrue (not r) ↔ Fits L o t)
fits_found L o p t xs h m r e =
    subst (λ (z : Option Pattern). IsTrue (not r) ↔ Fits L z t) (sym h)
    (fits_where L p t (bindings_of xs) m r (e ∙ ap (λ (n : ℕ). n == 0) (sym (length-map xs binding_of))))

-- both lists are asked
pub allows_not : (L : Language) (J : Judgement) (a o : Tree) (r : Bool) → (IsTrue r ↔ Fits L (asked_in J.contract) a) → r ≡ false
    → (IsTrue false ↔ Allows L J a o)
allows_not L J a o r h e = (λ k. absurd cc, λ f. let k = h.1 f.inputs in absurd cc)

pub allows_where : (L : Language) (J : Judgement) (a o : Tree) (r s : Bool) → (IsTrue r ↔ Fits L (asked_in J.contract) a) → r ≡ true
    → (IsTrue s ↔ Fits L (asked_out J.contract) o) → (IsTrue s ↔ Allows L J a o)
allows_where L J a o r s h e k = (λ i. record { inputs = h.0 e; outputs = k.0 i }, λ f. k.1 f.outputs)

-- ---- the rule

-- places are equal in equal choices
same_place : (ks : List ℕ) (i k : ℕ) → ks ≡ i ∷ [] → ks ≡ k ∷ [] → i ≡ k
same_place ks i k e h = let f : i ∷ [] ≡ k ∷ [] = sym e ∙ h in cc

-- a list of one number
one_choice : (ks : List ℕ) → length ks ≡ 1 → ks ≡ get_or ks 0 0 ∷ []
one_choice [] h = absurd cc
one_choice (k ∷ []) h = refl
one_choice (k ∷ j ∷ ks) h = absurd (omega (arith, h))

-- the rule at a place
at_place : (J : Judgement) (i : ℕ) (x r : JudgementRule) → slice_get J.rules i ≡ Some x → slice_get J.rules i ≡ Some r → r ≡ x
at_place J i x r e h = let f : Some r ≡ Some x = sym h ∙ e in cc

module _ (J : code.Judgement) (ks : List ℕ) where
  -- where there is no one choice
  pub rule_no_choice : (length ks ≡ 1 → ⊥) → (r : JudgementRule) → IsRuleAt (judgement_of J) ks r → ⊥
  rule_no_choice n r h = n (ap length h.choice)

  module _ (one : length ks ≡ 1) where
    there_at : (r : JudgementRule) → IsRuleAt (judgement_of J) ks r → slice_get (judgement_of J).rules (get_or ks 0 0) ≡ Some r
    there_at r h =
        subst (λ (i : ℕ). slice_get (judgement_of J).rules i ≡ Some r) (same_place ks h.place (get_or ks 0 0) h.choice (one_choice ks one)) h.there

    -- where there is no such place
    pub rule_past : length J.rules.items ≤ get_or ks 0 0 → (r : JudgementRule) → IsRuleAt (judgement_of J) ks r → ⊥
    rule_past n r h =
        let e : slice_get (judgement_of J).rules (get_or ks 0 0) ≡ None =
        slice_get-map judgement_rule_of J.rules.items (get_or ks 0 0) ∙ ap (option_map judgement_rule_of)
        (slice_get_past J.rules.items (get_or ks 0 0) n) in
        let f = there_at r h in absurd cc

    -- and where there is
    pub rule_there : (x : JRule) → get_or ks 0 0 < length J.rules.items → x ≡ get_or J.rules.items (get_or ks 0 0) x → (r : JudgementRule)
        → (IsRuleAt (judgement_of J) ks r ↔ (r ≡ judgement_rule_of x))
    rule_there x n e r =
        let f : slice_get (judgement_of J).rules (get_or ks 0 0) ≡ Some (judgement_rule_of x) =
        slice_get-map judgement_rule_of J.rules.items (get_or ks 0 0) ∙ ap (option_map judgement_rule_of)
        (slice_get_read J.rules.items (length J.rules.items) (get_or ks 0 0) x refl n e) in (
          λ h. at_place (judgement_of J) (get_or ks 0 0) (judgement_rule_of x) r f (there_at r h),
          λ h. record { place = get_or ks 0 0; choice = one_choice ks one; there = f ∙ ap (λ (z : JudgementRule). Some z) (sym h) },
        )

module _ (P : Program) (j : List ℕ) (ks : List ℕ) (a o : Tree) where
  -- where there is no such judgement
  pub chosen_no_judgement : judgement_named P j ≡ None → (x : NamedRule) → IsChosenRule P j ks a o x → ⊥
  chosen_no_judgement n x h = let e = h.rule_for.named in absurd cc

  module _ (J : Judgement) (named : judgement_named P j ≡ Some J) where
    -- it is that
    same_judgement : (x : NamedRule) (h : IsChosenRule P j ks a o x) → h.rule_for.judgement ≡ J
    same_judgement x h = let e : Some h.rule_for.judgement ≡ Some J = sym h.rule_for.named ∙ named in cc

    language_there : (x : NamedRule) (h : IsChosenRule P j ks a o x) → language_named P J.language ≡ Some h.language
    language_there x h = ap (λ (K : Judgement). language_named P K.language) (sym (same_judgement x h)) ∙ h.rule_for.language

    -- where it has no language
    pub chosen_no_language : language_named P J.language ≡ None → (x : NamedRule) → IsChosenRule P j ks a o x → ⊥
    chosen_no_language n x h = let e = language_there x h in absurd cc

    module _ (L : Language) (spoken : language_named P J.language ≡ Some L) where
      same_language : (x : NamedRule) (h : IsChosenRule P j ks a o x) → h.language ≡ L
      same_language x h = let e : Some h.language ≡ Some L = sym (language_there x h) ∙ spoken in cc

      rule_is_there : (x : NamedRule) (h : IsChosenRule P j ks a o x) → IsRuleAt J ks x.rule
      rule_is_there x h = record {
        place = h.place;
        choice = h.choice;
        there = ap (λ (K : Judgement). slice_get K.rules h.place) (sym (same_judgement x h)) ∙ h.rule_for.there;
      }

      is_allowed : (x : NamedRule) (h : IsChosenRule P j ks a o x) → Allows L J a o
      is_allowed x h = record {
        inputs = subst (λ (K : Judgement). Fits L (asked_in K.contract) a) (same_judgement x h)
            (subst (λ (M : Language). Fits M (asked_in h.rule_for.judgement.contract) a) (same_language x h) h.rule_for.inputs);
        outputs = subst (λ (K : Judgement). Fits L (asked_out K.contract) o) (same_judgement x h)
            (subst (λ (M : Language). Fits M (asked_out h.rule_for.judgement.contract) o) (same_language x h) h.rule_for.outputs);
      }

      -- where there is no such rule
      pub chosen_no_rule : ((r : JudgementRule) → IsRuleAt J ks r → ⊥) → (x : NamedRule) → IsChosenRule P j ks a o x → ⊥
      chosen_no_rule none x h = none x.rule (rule_is_there x h)

      -- where the contract doesn't allow the inputs or the outputs
      pub chosen_not_allowed : (Allows L J a o → ⊥) → (x : NamedRule) → IsChosenRule P j ks a o x → ⊥
      chosen_not_allowed none x h = none (is_allowed x h)

      -- and where there is one
      pub chosen_there : (r : JudgementRule) → ((s : JudgementRule) → (IsRuleAt J ks s ↔ (s ≡ r))) → Allows L J a o → (x : NamedRule)
          → (IsChosenRule P j ks a o x ↔ (x ≡ record { language = J.language; rule = r }))
      chosen_there r one allowed x = (forth, back)
        where
          forth : IsChosenRule P j ks a o x → x ≡ record { language = J.language; rule = r }
          forth h =
              let e : x.language ≡ J.language = h.same ∙ ap (λ (K : Judgement). K.language) (same_judgement x h) in
              let f : x.rule ≡ r = (one x.rule).0 (rule_is_there x h) in
              λ i. record { language = e i; rule = f i }

          back : x ≡ record { language = J.language; rule = r } → IsChosenRule P j ks a o x
          back e =
              let s = (one x.rule).1 (ap (λ (y : NamedRule). y.rule) e) in
              record {
                language = L;
                place = s.place;
                rule_for = record {
                  judgement = J;
                  named = named;
                  language = spoken;
                  there = s.there;
                  inputs = allowed.inputs;
                  outputs = allowed.outputs;
                };
                choice = s.choice;
                same = ap (λ (y : NamedRule). y.language) e;
              }

  -- ---- the node

  -- a node is a use of the rule that is chosen
  use_by : (gs : List Goal) (x : NamedRule) → IsChosenRule P j ks a o x → RuleUse P x a o gs → JudgementUse P j a o ks gs
  use_by gs x h u = record {
    language = h.language;
    place = h.place;
    rule = x.rule;
    found = u.found;
    final = u.final;
    left = u.left;
    rule_for = h.rule_for;
    choice = h.choice;
    goals = u.goals ∙ ap (λ (l : List ℕ). matched l x.rule.inputs a u.found ∷ u.left) h.same;
    extras = subst (λ (l : List ℕ). ExtraUses P l (avoiding a) x.rule.extras u.final (visible u.found) u.left) h.same u.extras;
    made = u.made;
  }

  -- a use is of the rule that is chosen
  chosen_used : (gs : List Goal) (u : JudgementUse P j a o ks gs)
      → IsChosenRule P j ks a o (record { language = u.rule_for.judgement.language; rule = u.rule })
  chosen_used gs u = record { language = u.language; place = u.place; rule_for = u.rule_for; choice = u.choice; same = refl }

  used : (gs : List Goal) (u : JudgementUse P j a o ks gs) → RuleUse P (record { language = u.rule_for.judgement.language; rule = u.rule }) a o gs
  used gs u = record { found = u.found; final = u.final; left = u.left; goals = u.goals; extras = u.extras; made = u.made }

  -- where none is chosen, the node is none
  pub use_not : (gs : List Goal) → ((x : NamedRule) → IsChosenRule P j ks a o x → ⊥) → (IsTrue false ↔ JudgementUse P j a o ks gs)
  use_not gs none = (λ k. absurd cc, λ u. absurd (none (record { language = u.rule_for.judgement.language; rule = u.rule }) (chosen_used gs u)))

  -- and else it is one exactly where the goals are what the rule asks
  pub use_where : (gs : List Goal) (x : NamedRule) → ((y : NamedRule) → (IsChosenRule P j ks a o y ↔ (y ≡ x))) → (r : Bool)
      → (IsTrue r ↔ RuleUse P x a o gs) → (IsTrue r ↔ JudgementUse P j a o ks gs)
  use_where gs x one r h = (
    λ k. use_by gs x ((one x).1 refl) (h.0 k),
    λ u. h.1 (subst (λ (y : NamedRule). RuleUse P y a o gs)
        ((one (record { language = u.rule_for.judgement.language; rule = u.rule })).0 (chosen_used gs u)) (used gs u)),
  )

-- ---- what the rule asks

-- what is found behind extras, where these and the binding are known by equations
pub leads_from : (P : Program) (l : List ℕ) (w : Avoided) (gs : List Goal) (o : Option code_binding.Binding) (b c : Binding) (es fs : List Extra)
    → b ≡ c → es ≡ fs → Finds binding_of (λ e. ExtraUses P l w es e b gs) o → Finds binding_of (λ e. ExtraUses P l w fs e c gs) o
leads_from P l w gs o b c es fs e f h =
    subst (λ (z : List Extra). Finds binding_of (λ d. ExtraUses P l w z d c gs) o) f
    (subst (λ (z : Binding). Finds binding_of (λ d. ExtraUses P l w es d z gs) o) e h)

module _ (P : Program) (x : NamedRule) (a o : Tree) (gs : List Goal) where
  -- where the first goal is another one
  pub rule_no_goal : ((c : Binding) (hs : List Goal) → gs ≡ matched x.language x.rule.inputs a c ∷ hs → ⊥) → (IsTrue false ↔ RuleUse P x a o gs)
  rule_no_goal none = (λ k. absurd cc, λ u. absurd (none u.found u.left u.goals))

  module _ (c : Binding) (hs : List Goal) (first : gs ≡ matched x.language x.rule.inputs a c ∷ hs) where
    -- it is that, with those behind it
    found_same : (u : RuleUse P x a o gs) → (u.found ≡ c) × (u.left ≡ hs)
    found_same u =
        let e : matched x.language x.rule.inputs a u.found ∷ u.left ≡ matched x.language x.rule.inputs a c ∷ hs = sym u.goals ∙ first in (cc, cc)

    leads : (u : RuleUse P x a o gs) → ExtraUses P x.language (avoiding a) x.rule.extras u.final (visible c) hs
    leads u =
        let s = found_same u in
        subst (λ (b : Binding). ExtraUses P x.language (avoiding a) x.rule.extras u.final (visible b) hs) s.0
        (subst (λ (is : List Goal). ExtraUses P x.language (avoiding a) x.rule.extras u.final (visible u.found) is) s.1 u.extras)

    -- where the extras lead nowhere
    pub rule_no_extras : ((e : Binding) → ExtraUses P x.language (avoiding a) x.rule.extras e (visible c) hs → ⊥)
        → (IsTrue false ↔ RuleUse P x a o gs)
    rule_no_extras none = (λ k. absurd cc, λ u. absurd (none u.final (leads u)))

    module _ (e : Binding) (one : (d : Binding) → (ExtraUses P x.language (avoiding a) x.rule.extras d (visible c) hs ↔ (d ≡ e))) where
      made_of : (u : RuleUse P x a o gs) → MakeList (calls P) e x.rule.outputs (value o)
      made_of u = subst (λ (d : Binding). MakeList (calls P) d x.rule.outputs (value o)) ((one u.final).0 (leads u)) u.made

      -- where it is known whether these outputs are made
      pub rule_outputs : (r : Bool) → (IsTrue r ↔ MakeList (calls P) e x.rule.outputs (value o)) → (IsTrue r ↔ RuleUse P x a o gs)
      rule_outputs r h = (
        λ k. record { found = c; final = e; left = hs; goals = first; extras = (one e).1 refl; made = h.0 k },
        λ u. h.1 (made_of u),
      )
