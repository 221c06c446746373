-- Where each term has one answer for its steps, there is one walk by given choices, and one end of a run.
use Rattle.std.proofs.Common.{◌≡◌, ◌∙◌, ℕ, zero, suc, List, [], ◌∷◌, Option, Some, None, length, refl, sym, ap, subst}
use Rattle.rdx_term.specs.Tree.{Tree}
use Rattle.rdx_lang.specs.Members.{In, here, there}
use Rattle.rdx_lang.specs.Patterns.{Language}
use Rattle.rdx_lang.specs.Programs.{Program, Relation, language_named}
use Rattle.rdx_eval.specs.Answers.{Answer, value, fault, Fault}
use Rattle.rdx_eval.specs.Heights.{calls_at, height}
use Rattle.rdx_eval.specs.Laws.{Once}
use Rattle.rdx_reduce.specs.Laws.{OneStepping}
use Rattle.rdx_reduce.specs.Relations.{StepsOver, AreSteps}
use Rattle.rdx_reduce.specs.Steps.{Step}
use Rattle.rdx_run.specs.Runs.{RunEnd, rests, fails, branches, is_bound, AllLead, Differ, Runs, faulty, parted, resting, bounded, going}
use Rattle.rdx_run.specs.Walks.{Walk, done, no_such_reduct, stopped, chosen, at_once, behind, Walks, stops, ends, lacks, goes_on}

-- ---- steps

-- a relation has one answer for the steps from a term
pub steps-once : OneStepping → (P : Program) (R : Relation) (t : Tree) → Once (AreSteps P R t)
steps-once law P R t = by_language (language_named P R.language)
  where
    by_language : (o : Option Language) → Once (StepsOver o (calls_at P height) R t)
    by_language None = λ r s p q. absurd p
    by_language (Some L) = law L P height R t

module _ (R : Tree → Answer (List Step) → Type 0) (once : (t : Tree) → Once (R t)) where
  -- one fault, one list, and never both
  one_fault : {t : Tree} {f g : Fault} → R t (fault f) → R t (fault g) → f ≡ g
  one_fault p q = let e = once _ _ _ p q in cc

  one_list : {t : Tree} {ss us : List Step} → R t (value ss) → R t (value us) → ss ≡ us
  one_list p q = let e = once _ _ _ p q in cc

  never_both : {t : Tree} {f : Fault} {ss : List Step} → R t (fault f) → R t (value ss) → ⊥
  never_both p q = let e = once _ _ _ p q in absurd cc

  -- ---- walks, by what is seen of the first term

  stop_only : {t : Tree} {cs : List ℕ} {f : Fault} {v : Walk} → R t (fault f) → Walks R t cs v → record { states = []; end = stopped t f } ≡ v
  stop_only {t = t} p (stops q) = ap (λ g. record { states = []; end = stopped t g }) (one_fault p q)
  stop_only p (ends q) = absurd (never_both p q)
  stop_only p (lacks q e) = absurd (never_both p q)
  stop_only p (goes_on q e h) = absurd (never_both p q)

  end_only : {t : Tree} {ss : List Step} {v : Walk} → R t (value ss) → Walks R t [] v → at_once t ss done ≡ v
  end_only p (stops q) = absurd (never_both q p)
  end_only {t = t} p (ends q) = ap (λ us. at_once t us done) (one_list p q)

  -- where a choice is that of no step
  lack_only : {t : Tree} {c : ℕ} {cs : List ℕ} {ss : List Step} {v : Walk} → R t (value ss) → chosen c ss ≡ None → Walks R t (c ∷ cs) v
      → at_once t ss (no_such_reduct c (length ss)) ≡ v
  lack_only p e (stops q) = absurd (never_both q p)
  lack_only {t = t} {c = c} p e (lacks q f) = ap (λ us. at_once t us (no_such_reduct c (length us))) (one_list p q)
  lack_only {c = c} p e (goes_on q f h) = absurd (let g = ap (chosen c) (one_list p q) in cc)

  -- where it is that of one
  pub record GoesOn (t : Tree) (c : ℕ) (cs : List ℕ) (ss : List Step) (s : Step) (v : Walk) : Type 0 where
    pub walk : Walk
    pub walks : Walks R s.reduct cs walk
    pub is : behind t ss walk ≡ v

  on_only : {t : Tree} {c : ℕ} {cs : List ℕ} {ss : List Step} {s : Step} {v : Walk} → R t (value ss) → chosen c ss ≡ Some s → Walks R t (c ∷ cs) v
      → GoesOn t c cs ss s v
  on_only p e (stops q) = absurd (never_both q p)
  on_only {c = c} p e (lacks q f) = absurd (let g = ap (chosen c) (one_list p q) in cc)
  on_only {t = t} {c = c} {cs = cs} p e (goes_on {s = u} {w = w} q f h) =
      let g = one_list p q in
      let k : u ≡ _ = some_same (sym f ∙ sym (ap (chosen c) g) ∙ e) in
      record { walk = w; walks = subst (λ (x : Step). Walks R x.reduct cs w) k h; is = ap (λ us. behind t us w) g }
    where
      some_same : {x y : Step} → Some x ≡ Some y → x ≡ y
      some_same e = cc

  pub one-walk : {t : Tree} {cs : List ℕ} {w v : Walk} → Walks R t cs w → Walks R t cs v → w ≡ v
  one-walk (stops p) k = stop_only p k
  one-walk (ends p) k = end_only p k
  one-walk (lacks p e) k = lack_only p e k
  one-walk (goes_on {t = t} {ss = ss} p e h) k =
      let g = on_only p e k in
      ap (behind t ss) (one-walk h g.walks) ∙ g.is

  -- ---- runs

  -- steps that lead to one term do not differ
  not_apart : {s : Step} {ss : List Step} → AllLead s.reduct ss → Differ (s ∷ ss) → ⊥
  not_apart {s = s} {ss = ss} h d = d.apart (lead d.one d.is_one ∙ sym (lead d.other d.is_other))
    where
      lead : (u : Step) → In u (s ∷ ss) → u.reduct ≡ s.reduct
      lead u (here e) = ap (λ x. x.reduct) e
      lead u (there i) = h u i

  none_apart : Differ [] → ⊥
  none_apart d = elim d.is_one [ ]

  fault_only : {n : ℕ} {t : Tree} {f : Fault} {e : RunEnd} → R t (fault f) → Runs R n t e → fails f ≡ e
  fault_only p (faulty q) = ap fails (one_fault p q)
  fault_only p (parted q d) = absurd (never_both p q)
  fault_only p (resting q) = absurd (never_both p q)
  fault_only p (bounded q h) = absurd (never_both p q)
  fault_only p (going q h k) = absurd (never_both p q)

  part_only : {n : ℕ} {t : Tree} {ss : List Step} {e : RunEnd} → R t (value ss) → Differ ss → Runs R n t e → branches t ≡ e
  part_only p d (faulty q) = absurd (never_both q p)
  part_only p d (parted q c) = refl
  part_only p d (resting q) = absurd (none_apart (subst Differ (one_list p q) d))
  part_only p d (bounded q h) = absurd (not_apart h (subst Differ (one_list p q) d))
  part_only p d (going q h k) = absurd (not_apart h (subst Differ (one_list p q) d))

  rest_only : {n : ℕ} {t : Tree} {e : RunEnd} → R t (value []) → Runs R n t e → rests t ≡ e
  rest_only p (faulty q) = absurd (never_both q p)
  rest_only p (parted q d) = absurd (none_apart (subst Differ (one_list q p) d))
  rest_only p (resting q) = refl
  rest_only p (bounded q h) = absurd (let g = one_list p q in cc)
  rest_only p (going q h k) = absurd (let g = one_list p q in cc)

  bound_only : {t : Tree} {s : Step} {ss : List Step} {e : RunEnd} → R t (value (s ∷ ss)) → AllLead s.reduct ss → Runs R zero t e → is_bound ≡ e
  bound_only p h (faulty q) = absurd (never_both q p)
  bound_only p h (parted q d) = absurd (not_apart h (subst Differ (one_list q p) d))
  bound_only p h (resting q) = absurd (let g = one_list p q in cc)
  bound_only p h (bounded q k) = refl

  going_only : {n : ℕ} {t : Tree} {s : Step} {ss : List Step} {e : RunEnd} → R t (value (s ∷ ss)) → AllLead s.reduct ss → Runs R (suc n) t e → Runs R n s.reduct e
  going_only p h (faulty q) = absurd (never_both q p)
  going_only p h (parted q d) = absurd (not_apart h (subst Differ (one_list q p) d))
  going_only p h (resting q) = absurd (let g = one_list p q in cc)
  going_only {n = n} {e = e} p h (going {s = u} q k l) = subst (λ (x : Step). Runs R n x.reduct e) (first_same (one_list q p)) l
    where
      first_same : {x y : Step} {xs ys : List Step} → x ∷ xs ≡ y ∷ ys → x ≡ y
      first_same e = cc

  pub one-run : {n : ℕ} {t : Tree} {e f : RunEnd} → Runs R n t e → Runs R n t f → e ≡ f
  one-run (faulty p) k = fault_only p k
  one-run (parted p d) k = part_only p d k
  one-run (resting p) k = rest_only p k
  one-run (bounded p h) k = bound_only p h k
  one-run (going p h l) k = one-run l (going_only p h k)
