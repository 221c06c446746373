-- What a form has at each of its parts, for loops over them.
use Rattle.std.proofs.Common.{◌≡◌, ◌++◌, ◌<◌, ℕ, zero, suc, List, [], ◌∷◌, length, get_or, map, IsTrue, sym, subst, arith}
use Rattle.std.specs.Prelude.{Option, Some, None}
use Rattle.rdx_sexp.specs.Sexp.{Sexp}
use Rattle.rdx_term.specs.Spelling.{is_name}
use Rattle.rdx_patterns.specs.Occurrences.{Occurrence}
use Rattle.rdx_patterns.specs.OccurrenceView.{bounds_of}
use Rattle.rdx_patterns.specs.Parts.{text_of}
use Rattle.rdx_patterns.specs.PatternChecks.{Bound, bound_by, all_bound}
use Rattle.rdx_patterns.specs.Readable.{IsReadable}
use Rattle.rdx_patterns.specs.declared.patterns.position.Position.TheVariants.{Query}
use Rattle.rdx_templates.specs.Scope.{Scope}
use Rattle.rdx_parts.specs.Arguments.{Arguments, patterns_in}
use Rattle.rdx_parts.specs.ExtraForms.{ExtraForm, such_that, provided, confirmed, holding, freshly, name, no_extra, ExtraPlace, of_rule, form_at}
use Rattle.rdx_parts.specs.Headed.{Headed, headed}
use Rattle.rdx_parts.specs.Outlines.{Takes, one, each, Branch, RuleBranch, Question}
use Rattle.rdx_parts.specs.PartsHave.{AreReadable, Wanted, ArgumentsHave, PremiseHas, ExtraHas, ExtrasHave, BranchHas, BranchesHave, RuleHas, RulesHave, QuestionHas, QuestionsHave, AloneHave, BindNames, AreNames}
use Rattle.rdx_parts.specs.Stands.{premise_arguments}

-- ---- of several, the one at a place

-- readable data
pub readable-at : {C : Type 0} (v : C → Sexp) (xs : List C) (i : ℕ) (x : C) → i < length xs → x ≡ get_or xs i x → AreReadable (map v xs) → IsReadable (v x)
readable-at v [] i x h e r = absurd (omega arith)
readable-at v (y ∷ xs) zero x h e r = subst (λ z. IsReadable (v z)) (sym e) r.0
readable-at v (y ∷ xs) (suc i) x h e r = readable-at v xs i x (omega arith) e r.1

-- as they are
pub datum-readable : (ds : List Sexp) (i : ℕ) (d : Sexp) → i < length ds → d ≡ get_or ds i d → AreReadable ds → IsReadable d
datum-readable [] i d h e r = absurd (omega arith)
datum-readable (c ∷ ds) zero d h e r = subst IsReadable (sym e) r.0
datum-readable (c ∷ ds) (suc i) d h e r = datum-readable ds i d (omega arith) e r.1

module _ (S : Scope) (W : Wanted) where
  -- extras
  pub extras-at : (k : ExtraPlace) (ds : List Sexp) (i : ℕ) (d : Sexp) → i < length ds → d ≡ get_or ds i d → ExtrasHave S W k ds → ExtraHas S W (form_at k d)
  extras-at k [] i d h e r = absurd (omega arith)
  extras-at k (c ∷ ds) zero d h e r = subst (λ z. ExtraHas S W (form_at k z)) (sym e) r.0
  extras-at k (c ∷ ds) (suc i) d h e r = extras-at k ds i d (omega arith) e r.1

  -- branches
  pub branches-at : {C : Type 0} (v : C → Branch) (xs : List C) (i : ℕ) (x : C) → i < length xs → x ≡ get_or xs i x → BranchesHave S W (map v xs) → BranchHas S W (v x)
  branches-at v [] i x h e r = absurd (omega arith)
  branches-at v (y ∷ xs) zero x h e r = subst (λ z. BranchHas S W (v z)) (sym e) r.0
  branches-at v (y ∷ xs) (suc i) x h e r = branches-at v xs i x (omega arith) e r.1

  -- rules
  pub rules-at : {C : Type 0} (v : C → RuleBranch) (xs : List C) (i : ℕ) (x : C) → i < length xs → x ≡ get_or xs i x → RulesHave S W (map v xs) → RuleHas S W (v x)
  rules-at v [] i x h e r = absurd (omega arith)
  rules-at v (y ∷ xs) zero x h e r = subst (λ z. RuleHas S W (v z)) (sym e) r.0
  rules-at v (y ∷ xs) (suc i) x h e r = rules-at v xs i x (omega arith) e r.1

  -- premises by themselves
  pub questions-at : {C : Type 0} (v : C → Question) (xs : List C) (i : ℕ) (x : C) → i < length xs → x ≡ get_or xs i x → QuestionsHave S W (map v xs) → QuestionHas S W (v x)
  questions-at v [] i x h e r = absurd (omega arith)
  questions-at v (y ∷ xs) zero x h e r = subst (λ z. QuestionHas S W (v z)) (sym e) r.0
  questions-at v (y ∷ xs) (suc i) x h e r = questions-at v xs i x (omega arith) e r.1

module _ (P : Takes → Type 0) where
  -- patterns that stand by themselves
  pub alone-at : {C : Type 0} (v : C → Sexp) (xs : List C) (i : ℕ) (x : C) → i < length xs → x ≡ get_or xs i x → AloneHave P (map v xs) → P (one (v x))
  alone-at v [] i x h e r = absurd (omega arith)
  alone-at v (y ∷ xs) zero x h e r = subst (λ z. P (one (v z))) (sym e) r.0
  alone-at v (y ∷ xs) (suc i) x h e r = alone-at v xs i x (omega arith) e r.1

-- ---- what binds

-- what two lists of symbols bind
pub BindNames-both : (bs cs : List Bound) → BindNames (bs ++ cs) → BindNames bs × BindNames cs
BindNames-both [] cs h = (tt, h)
BindNames-both (b ∷ bs) cs h = let k = BindNames-both bs cs h.1 in ((h.0, k.0), k.1)

-- one of several things in a pattern
pub binds-at : {C : Type 0} (ns : List (List ℕ)) (v : C → Occurrence) (xs : List C) (i : ℕ) (x : C) → i < length xs → x ≡ get_or xs i x
    → BindNames (all_bound ns Query (map v xs)) → BindNames (bound_by ns Query (v x))
binds-at ns v [] i x h e b = absurd (omega arith)
binds-at ns v (y ∷ xs) zero x h e b =
    subst (λ z. BindNames (bound_by ns Query (v z))) (sym e) (BindNames-both (bound_by ns Query (v y)) (all_bound ns Query (map v xs)) b).0
binds-at ns v (y ∷ xs) (suc i) x h e b =
    binds-at ns v xs i x (omega arith) e (BindNames-both (bound_by ns Query (v y)) (all_bound ns Query (map v xs)) b).1

-- the symbol that is there
pub binds-some : (o : Option (ℕ × Sexp)) (x : ℕ × Sexp) → o ≡ Some x → BindNames (bounds_of o) → (x.0 < 4294967296) × IsTrue (is_name (text_of x.1))
binds-some o x e h = (subst (λ p. BindNames (bounds_of p)) e h).0

-- one of several names
pub named-at : (ds : List Sexp) (i : ℕ) (d : Sexp) → i < length ds → d ≡ get_or ds i d → AreNames ds → IsTrue (is_name (text_of d))
named-at [] i d h e r = absurd (omega arith)
named-at (c ∷ ds) zero d h e r = subst (λ z. IsTrue (is_name (text_of z))) (sym e) r.0
named-at (c ∷ ds) (suc i) d h e r = named-at ds i d (omega arith) e r.1

-- ---- what has more has less

module _ (S : Scope) (P R : Wanted) (f : (w : Takes) → P.taken w → R.taken w) (g : (q : Headed) → P.asked q → R.asked q)
    (m : (ds : List Sexp) → P.made ds → R.made ds) where
  -- arguments
  pub arguments-weaker : (a : Arguments) → ArgumentsHave S P a → ArgumentsHave S R a
  arguments-weaker a h = record { patterns = f (each (patterns_in a)) h.patterns; readable = h.readable }

  -- a premise
  pub premise-weaker : (o : Option Headed) → PremiseHas S P o → PremiseHas S R o
  premise-weaker None h = tt
  premise-weaker (Some q) h = (g q h.0, arguments-weaker (premise_arguments S q) h.1)

  -- an extra
  pub extra-weaker : (e : ExtraForm) → ExtraHas S P e → ExtraHas S R e
  extra-weaker (such_that p t) h = (f (one p) h.0, h.1)
  extra-weaker (provided t) h = h
  extra-weaker (confirmed t) h = h
  extra-weaker (holding d) h = premise-weaker (headed d) h
  extra-weaker (freshly ds) h = m ds h
  extra-weaker name h = tt
  extra-weaker no_extra h = tt

  -- extras
  pub extras-weaker : (k : ExtraPlace) (ds : List Sexp) → ExtrasHave S P k ds → ExtrasHave S R k ds
  extras-weaker k [] h = tt
  extras-weaker k (d ∷ ds) h = (extra-weaker (form_at k d) h.0, extras-weaker k ds h.1)

  -- a branch
  pub branch-weaker : (b : Branch) → BranchHas S P b → BranchHas S R b
  branch-weaker b h = record { takes = f b.takes h.takes; result = h.result; extras = extras-weaker b.place b.extras h.extras }

  -- a rule
  pub rule-weaker : (r : RuleBranch) → RuleHas S P r → RuleHas S R r
  rule-weaker r h = record { arguments = arguments-weaker r.arguments h.arguments; premises = extras-weaker of_rule r.premises h.premises }
