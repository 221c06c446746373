-- What comes of putting a term for a name.
use Rattle.std.proofs.Common.{◌≡◌, ◌∙◌, ◌++◌, ℕ, Bool, true, false, List, None, refl, sym, ap, if◌then◌else◌}
use Rattle.std.proofs.lemmas.Bool.{le-ltb, lt-ltb}
use Rattle.std.specs.Prelude.{nat_lt}
use Rattle.rdx_term.specs.Terms.{IsTerm, IsTooDeep, IsTooLarge}
use Rattle.rdx_term.specs.Tree.{Tree, symbol, tree_depth, tree_nodes}
use Rattle.rdx_term.specs.View.{tree_of}
use Rattle.rdx_term.specs.declared.term.Term.{Term}
use Rattle.rdx_term.specs.declared.term.Term.TheVariants.{Hole, Int, Bool as BoolOf, Str, Sym, List as ListOf}
use Rattle.rdx_alpha.specs.Answers.{CanSubstitute, IsFaultOf, Substitutes, first_wrong_of}
use Rattle.rdx_alpha.specs.Binding.{head_that_is}
use Rattle.rdx_alpha.specs.Forms.{Form}
use Rattle.rdx_alpha.specs.Marks.{substitution}
use Rattle.rdx_alpha.specs.declared.fault.AlphaFault.{AlphaFault}
use Rattle.rdx_alpha.specs.declared.fault.AlphaFault.TheVariants.{NotBinding, HeadName, TooDeep, TooLarge, NoMemory}
use Rattle.rdx_answer.specs.AlphaAnswers.{Outcome, made, not_name, not_binding, head_name, too_deep, too_large, within_limits, outcome, outcome_bound, outcome_headed, outcome_line, is_made, IsSubstitutedAnswer}
use Rattle.rdx_answer.specs.AnswerText.{value_line}
use Rattle.rdx_answer.specs.Inside.Appending.{Appends}
use Rattle.rdx_answer.specs.Inside.Putting.{Stops}

-- ---- the limits of terms

-- a term keeps them
within-made : (u : Tree) → IsTerm u → within_limits u ≡ made u
within-made u k =
    ap (λ (b : Bool). if b then too_deep else if nat_lt 4_000_000 (tree_nodes u) then too_large else made u) (le-ltb 500 (tree_depth u) k.shallow)
    ∙ ap (λ (b : Bool). if b then too_large else made u) (le-ltb 4_000_000 (tree_nodes u) k.small)

-- a tree passes one
within-deep : (u : Tree) → IsTooDeep u → within_limits u ≡ too_deep
within-deep u h =
    ap (λ (b : Bool). if b then too_deep else if nat_lt 4_000_000 (tree_nodes u) then too_large else made u) (lt-ltb 500 (tree_depth u) h)

within-large : (u : Tree) → IsTooLarge u → within_limits u ≡ too_large
within-large u h =
    ap (λ (b : Bool). if b then too_deep else if nat_lt 4_000_000 (tree_nodes u) then too_large else made u) (le-ltb 500 (tree_depth u) h.0)
    ∙ ap (λ (b : Bool). if b then too_large else made u) (lt-ltb 4_000_000 (tree_nodes u) h.1)

-- ---- what comes

-- the line of what comes
pub line-appended : (fs : List Form) (t x v : Tree) (o : Outcome) (before after : List ℕ) → outcome fs t x v ≡ o → after ≡ before ++ outcome_line o
    → Appends (IsSubstitutedAnswer fs t x v) before after (is_made o)
line-appended fs t x v o before after e g = record {
  text = outcome_line o;
  answer = record { printed = ap outcome_line (sym e); is_met = ap is_made (sym e) };
  gained = g;
}

-- what is no symbol is no name
pub no-name : (fs : List Form) (t : Tree) (x : Term) (v : Tree) → ((s : List ℕ) → x ≡ Sym s → ⊥) → outcome fs t (tree_of x) v ≡ not_name (tree_of x)
no-name fs t Hole v h = refl
no-name fs t (Int n) v h = refl
no-name fs t (BoolOf b) v h = refl
no-name fs t (Str s) v h = refl
no-name fs t (Sym s) v h = absurd (h s refl)
no-name fs t (ListOf rc) v h = refl

module _ (fs : List Form) (t : Tree) (x : List ℕ) (v : Tree) where
  -- where each list is an instance, the head decides
  by_head : first_wrong_of fs t v ≡ None → outcome fs t (symbol x) v ≡ outcome_headed fs t x v (head_that_is fs v)
  by_head e = ap (outcome_bound fs t x v) e

  -- where v can be put for x, the limits do
  by_limits : CanSubstitute fs t v → outcome fs t (symbol x) v ≡ within_limits (substitution fs x v t)
  by_limits c = by_head c.bound ∙ ap (outcome_headed fs t x v) c.no_head

  -- a term comes
  pub value-appended : (u : Tree) (before after : List ℕ) → Substitutes fs t x v u → IsTerm u → after ≡ before ++ value_line u
      → Appends (IsSubstitutedAnswer fs t (symbol x) v) before after true
  value-appended u before after s k g =
      line-appended fs t (symbol x) v (made u) before after
      (by_limits s.can ∙ ap within_limits (sym s.value) ∙ within-made u k) g

  -- a fault comes
  pub fault-appended : (f : AlphaFault) (before after : List ℕ) → IsFaultOf fs t x v f → Stops f before after
      → Appends (IsSubstitutedAnswer fs t (symbol x) v) before after false
  fault-appended (NotBinding w) before after h g =
      line-appended fs t (symbol x) v (not_binding (tree_of w)) before after (ap (outcome_bound fs t x v) h) g
  fault-appended (HeadName k) before after h g =
      line-appended fs t (symbol x) v (head_name k) before after (by_head h.0 ∙ ap (outcome_headed fs t x v) h.1) g
  fault-appended TooDeep before after h g =
      line-appended fs t (symbol x) v too_deep before after (by_limits h.0 ∙ within-deep (substitution fs x v t) h.1) g
  fault-appended TooLarge before after h g =
      line-appended fs t (symbol x) v too_large before after (by_limits h.0 ∙ within-large (substitution fs x v t) h.1) g
  fault-appended NoMemory before after h g = absurd g
