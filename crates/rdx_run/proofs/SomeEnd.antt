-- Where each term has an answer for its steps, there is a walk by any choices, and the run has an end.
use Rattle.std.proofs.Common.{◌≡◌, ◌∙◌, ◌⊎◌, inl, inr, ℕ, zero, suc, List, [], ◌∷◌, length, Option, Some, None, IsSome, refl, sym, subst}
use Rattle.std.specs.declared.cmp.Ordering.{Ordering}
use Rattle.std.specs.declared.cmp.Ordering.TheVariants.{Less, Equal, Greater}
use Rattle.rdx_term.specs.Order.{tree_cmp}
use Rattle.rdx_term.specs.Tree.{Tree}
use Rattle.rdx_term.proofs.OrderLaws.{tree_cmp-equal, tree_cmp-itself}
use Rattle.rdx_lang.specs.Members.{In, here, there}
use Rattle.rdx_lang.specs.Patterns.{Language}
use Rattle.rdx_lang.specs.Programs.{Program, Relation, language_named}
use Rattle.rdx_eval.specs.Answers.{Answer, value, fault}
use Rattle.rdx_eval.specs.Heights.{calls_at, height}
use Rattle.rdx_eval.specs.Laws.{HasAnswer, AreFree}
use Rattle.rdx_eval.proofs.SomeAnswer.{language_among-in}
use Rattle.rdx_reduce.specs.Laws.{SomeStepping}
use Rattle.rdx_reduce.specs.Relations.{StepsOver, AreSteps}
use Rattle.rdx_reduce.specs.Steps.{Step}
use Rattle.rdx_run.specs.Laws.{HasWalk, HasEnd}
use Rattle.rdx_run.specs.Runs.{AllLead, Differ, faulty, parted, resting, bounded, going, rests, fails, branches, is_bound}
use Rattle.rdx_run.specs.Walks.{done, no_such_reduct, stopped, chosen, at_once, behind, stops, ends, lacks, goes_on}
use Rattle.rdx_run.proofs.Leading.{none-lead, lead-more}

-- ---- steps

-- a relation over a language of the program has an answer for the steps from a term
pub steps-some : SomeStepping → (P : Program) (R : Relation) → AreFree P → (o : Option Language) → language_named P R.language ≡ o → IsSome o → (t : Tree) → HasAnswer (AreSteps P R t)
steps-some law P R f None e n t = absurd cc
steps-some law P R f (Some L) e n t =
    let s = law L P height R t (f L (language_among-in P.languages R.language L e)) f in
    record { answer = s.answer; allowed = subst (λ (o : Option Language). StepsOver o (calls_at P height) R t s.answer) (sym e) s.allowed }

-- some of these steps lead elsewhere than s, or all of the ones do
lead_or_differ : (s : Step) (all : List Step) → In s all → (ss : List Step) → ((u : Step) → In u ss → In u all) → AllLead s.reduct ss ⊎ Differ all
lead_or_differ s all i [] f = inl (none-lead s.reduct)
lead_or_differ s all i (u ∷ us) f = by_order (tree_cmp u.reduct s.reduct) refl (lead_or_differ s all i us (λ v j. f v (there j)))
  where
    apart : (o : Ordering) → tree_cmp u.reduct s.reduct ≡ o → (o ≡ Equal → ⊥) → Differ all
    apart o e n = record { one = u; other = s; is_one = f u (here refl); is_other = i; apart = λ g. n (sym e ∙ tree_cmp-itself u.reduct s.reduct g) }

    by_order : (o : Ordering) → tree_cmp u.reduct s.reduct ≡ o → AllLead s.reduct us ⊎ Differ all → AllLead s.reduct (u ∷ us) ⊎ Differ all
    by_order Less e r = inr (apart Less e (λ g. absurd cc))
    by_order Greater e r = inr (apart Greater e (λ g. absurd cc))
    by_order Equal e (inl h) = inl (lead-more s.reduct u us (tree_cmp-equal u.reduct s.reduct e) h)
    by_order Equal e (inr d) = inr d

module _ (R : Tree → Answer (List Step) → Type 0) (some : (t : Tree) → HasAnswer (R t)) where
  -- ---- walks

  at_end : (t : Tree) (a : Answer (List Step)) → R t a → HasWalk R t []
  at_end t (value ss) r = record { walk = at_once t ss done; walks = ends r }
  at_end t (fault f) r = record { walk = record { states = []; end = stopped t f }; walks = stops r }

  by_choice : (t : Tree) (c : ℕ) (cs : List ℕ) (ss : List Step) (o : Option Step) → R t (value ss) → chosen c ss ≡ o → ((u : Tree) → HasWalk R u cs) → HasWalk R t (c ∷ cs)
  by_choice t c cs ss None r e f = record { walk = at_once t ss (no_such_reduct c (length ss)); walks = lacks r e }
  by_choice t c cs ss (Some s) r e f = let w = f s.reduct in record { walk = behind t ss w.walk; walks = goes_on r e w.walks }

  on_way : (t : Tree) (c : ℕ) (cs : List ℕ) (a : Answer (List Step)) → R t a → ((u : Tree) → HasWalk R u cs) → HasWalk R t (c ∷ cs)
  on_way t c cs (value ss) r f = by_choice t c cs ss (chosen c ss) r refl f
  on_way t c cs (fault g) r f = record { walk = record { states = []; end = stopped t g }; walks = stops r }

  pub some-walk : (cs : List ℕ) (t : Tree) → HasWalk R t cs
  some-walk [] t = at_end t (some t).answer (some t).allowed
  some-walk (c ∷ cs) t = on_way t c cs (some t).answer (some t).allowed (some-walk cs)

  -- ---- runs

  -- the last term of a run
  last : (t : Tree) (s : Step) (ss : List Step) → R t (value (s ∷ ss)) → AllLead s.reduct ss ⊎ Differ (s ∷ ss) → HasEnd R zero t
  last t s ss r (inl h) = record { end = is_bound; runs = bounded r h }
  last t s ss r (inr d) = record { end = branches t; runs = parted r d }

  at_bound : (t : Tree) (a : Answer (List Step)) → R t a → HasEnd R zero t
  at_bound t (value []) r = record { end = rests t; runs = resting r }
  at_bound t (value (s ∷ ss)) r = last t s ss r (lead_or_differ s (s ∷ ss) (here refl) ss (λ u i. there i))
  at_bound t (fault f) r = record { end = fails f; runs = faulty r }

  -- a term on the way
  next : (n : ℕ) (t : Tree) (s : Step) (ss : List Step) → R t (value (s ∷ ss)) → ((u : Tree) → HasEnd R n u) → AllLead s.reduct ss ⊎ Differ (s ∷ ss) → HasEnd R (suc n) t
  next n t s ss r f (inl h) = let e = f s.reduct in record { end = e.end; runs = going r h e.runs }
  next n t s ss r f (inr d) = record { end = branches t; runs = parted r d }

  before_bound : (n : ℕ) (t : Tree) (a : Answer (List Step)) → R t a → ((u : Tree) → HasEnd R n u) → HasEnd R (suc n) t
  before_bound n t (value []) r f = record { end = rests t; runs = resting r }
  before_bound n t (value (s ∷ ss)) r f = next n t s ss r f (lead_or_differ s (s ∷ ss) (here refl) ss (λ u i. there i))
  before_bound n t (fault g) r f = record { end = fails g; runs = faulty r }

  pub some-run : (n : ℕ) (t : Tree) → HasEnd R n t
  some-run zero t = at_bound t (some t).answer (some t).allowed
  some-run (suc n) t = before_bound n t (some t).answer (some t).allowed (some-run n)
