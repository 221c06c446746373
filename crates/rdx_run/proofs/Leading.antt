-- What steps lead to, step by step.
use Rattle.std.proofs.Common.{◌≡◌, ◌∙◌, ◌<◌, ◌+◌, ℕ, zero, suc, List, [], ◌∷◌, length, get_or, map, drop, sym, ap, subst, arith}
use Rattle.rdx_term.specs.Tree.{Tree}
use Rattle.rdx_term.specs.View.{tree_of}
use Rattle.rdx_term.specs.declared.term.Term.{Term}
use Rattle.rdx_lang.specs.Members.{In, here, there}
use Rattle.rdx_lang.proofs.Rest.{rest_at}
use Rattle.rdx_reduce.specs.StepView.{step_of}
use Rattle.rdx_reduce.specs.Steps as model
use Rattle.rdx_reduce.specs.declared.step.Step.{Step}
use Rattle.rdx_run.specs.Inside.Turns.{LeadTo}
use Rattle.rdx_run.specs.Runs.{AllLead, Differ}
use Rattle.rdx_run.specs.declared.run.Lead.TheVariants.{GoesTo}

-- none leads elsewhere
pub none-lead : (u : Tree) → AllLead u []
none-lead u s i = elim i [ ]

-- one more leads there too
pub lead-more : (u : Tree) (s : model.Step) (ss : List model.Step) → s.reduct ≡ u → AllLead u ss → AllLead u (s ∷ ss)
lead-more u s ss e h v (here f) = ap (λ (x : model.Step). x.reduct) f ∙ e
lead-more u s ss e h v (there i) = h v i

-- from one step on
pub lead-from : (u : Tree) (ss : List Step) (i : ℕ) (s : Step) → i < length ss → s ≡ get_or ss i s → tree_of s.reduct ≡ u
    → AllLead u (map step_of (drop (i + 1) ss)) → AllLead u (map step_of (drop i ss))
lead-from u ss i s h e f k = subst (AllLead u) (sym (rest_at step_of ss i s h e)) (lead-more u (step_of s) (map step_of (drop (i + 1) ss)) f k)

-- a step at a place
in-at : (ss : List Step) (i : ℕ) (s : Step) → i < length ss → s ≡ get_or ss i s → In (step_of s) (map step_of ss)
in-at [] i s h e = absurd (omega arith)
in-at (t ∷ ss) zero s h e = here (ap step_of e)
in-at (t ∷ ss) (suc i) s h e = there (in-at ss i s (omega arith) e)

-- the first and another one
pub differ-at : (ss : List Step) (i : ℕ) (s t : Step) → 0 < length ss → s ≡ get_or ss 0 s → i < length ss → t ≡ get_or ss i t → (tree_of t.reduct ≡ tree_of s.reduct → ⊥)
    → Differ (map step_of ss)
differ-at ss i s t h e k f n = record {
  one = step_of t;
  other = step_of s;
  is_one = in-at ss i t k f;
  is_other = in-at ss 0 s h e;
  apart = n;
}

-- all lead where the first does
pub goes-to : (ss : List Step) (s : Step) (t : Term) → 0 < length ss → s ≡ get_or ss 0 s → tree_of t ≡ tree_of s.reduct → AllLead (tree_of s.reduct) (map step_of ss)
    → LeadTo (map step_of ss) (GoesTo t)
goes-to [] s t h e f k = absurd (omega arith)
goes-to (u ∷ ss) s t h e f k =
    (f ∙ ap (λ (x : Step). tree_of x.reduct) e, λ v i. k v (there i) ∙ ap (λ (x : Step). tree_of x.reduct) e)
