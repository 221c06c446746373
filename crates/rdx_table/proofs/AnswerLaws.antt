-- What the answers that a look has at hand say.
use Rattle.std.proofs.Common.{◌≡◌, ℕ, zero, suc, ◌-◌, ◌<◌, Bool, true, false, ◌&&◌, eqb, List}
use Rattle.std.proofs.Common.{[], ◌∷◌, length, get_or, take, drop, refl, sym, ◌∙◌, ap, subst, arith}
use Rattle.std.proofs.Math.Bool.{beq}
use Rattle.std.specs.Bool.{Decides}
use Rattle.std.specs.Cmp.{booleans_Decides}
use Rattle.std.proofs.lemmas.Bool.{eqb-true}
use Rattle.rdx_term.specs.Tree.{Tree, trees}
use Rattle.rdx_lang.specs.Patterns.{Pattern, Language}
use Rattle.rdx_lang.specs.PatternView.{items_of}
use Rattle.rdx_bind.specs.Columns.{IsColumn}
use Rattle.rdx_bind.specs.Rows.{split_rows_of}
use Rattle.rdx_bind.specs.contracts.asks.AskPartialEq.TheImpl.{eq-value}
use Rattle.rdx_bind.specs.declared.asks.Ask.{Ask}
use Rattle.rdx_bind.specs.declared.asks.Ask.TheVariants.{Nothing, Matches, Splits}
use Rattle.rdx_bind.specs.declared.rows.Row.{Row}
use Rattle.rdx_store.specs.Stored.{tree_by_id}
use Rattle.rdx_nodes.specs.Nodes.{pattern_at}
use Rattle.rdx_table.specs.Inside.SameColumns.{IsSameColumn}
use Rattle.rdx_table.specs.Inside.Tasks.{slots_in, items_in, IsRow, IsOneRow, IsColumnOf, IsAnswer, AreAnswers}
use Rattle.rdx_table.specs.declared.task.Answer.{Answer}
use Rattle.rdx_table.specs.declared.task.Column.{Column}
use Rattle.rdx_table.specs.declared.task.Goal.{Goal}

-- ---- comparing

-- both are true
both-true : (x y : Bool) → (x && y) ≡ true → (x ≡ true) × (y ≡ true)
both-true true y h = (refl, h)
both-true false y h = absurd cc

-- goals that are compared as equal are equal
pub same_goal : (a b : Goal) → (eqb a.number b.number && (eqb a.id b.id && beq a.splits b.splits)) ≡ true → a ≡ b
same_goal a b h =
    let x = both-true (eqb a.number b.number) (eqb a.id b.id && beq a.splits b.splits) h in
    let y = both-true (eqb a.id b.id) (beq a.splits b.splits) x.1 in
    let e : a.number ≡ b.number = eqb-true a.number b.number x.0 in
    let f : a.id ≡ b.id = eqb-true a.id b.id y.0 in
    let g : a.splits ≡ b.splits = (booleans_Decides a.splits b.splits).0 y.1 in
    λ i. record { number = e i; id = f i; splits = g i }

-- what is asked is compared
pub ask_decides : (a b : Ask) → Decides (eq-value.it a b) (a ≡ b)
ask_decides Nothing Nothing = (λ e. refl, λ e. refl)
ask_decides Nothing Matches = (λ e. absurd cc, λ e. absurd cc)
ask_decides Nothing Splits = (λ e. absurd cc, λ e. absurd cc)
ask_decides Matches Nothing = (λ e. absurd cc, λ e. absurd cc)
ask_decides Matches Matches = (λ e. refl, λ e. refl)
ask_decides Matches Splits = (λ e. absurd cc, λ e. absurd cc)
ask_decides Splits Nothing = (λ e. absurd cc, λ e. absurd cc)
ask_decides Splits Matches = (λ e. absurd cc, λ e. absurd cc)
ask_decides Splits Splits = (λ e. refl, λ e. refl)

-- columns that are compared as equal are the same
pub same_column : (a b : Column) → (eqb a.number b.number &&
    (eqb a.id b.id && (eqb a.first b.first && (eqb a.last b.last && (eqb a.place b.place && true))))) ≡ true
    → a.asks.items ≡ b.asks.items → IsSameColumn a b
same_column a b h e =
    let n = both-true (eqb a.number b.number) _ h in
    let i = both-true (eqb a.id b.id) _ n.1 in
    let f = both-true (eqb a.first b.first) _ i.1 in
    let l = both-true (eqb a.last b.last) _ f.1 in
    let p = both-true (eqb a.place b.place) true l.1 in
    record {
      number = eqb-true a.number b.number n.0;
      id = eqb-true a.id b.id i.0;
      first = eqb-true a.first b.first f.0;
      last = eqb-true a.last b.last l.0;
      place = eqb-true a.place b.place p.0;
      asks = e;
    }

-- ---- answers

module _ (L : Language) (ps : List Pattern) (ts : List Tree) where
  -- each answer is right where all are
  pub answer_at : (xs : List Answer) (k : ℕ) (x : Answer) → AreAnswers L ps ts xs → k < length xs → x ≡ get_or xs k x → IsAnswer L ps ts x
  answer_at [] k x a h e = absurd (omega arith)
  answer_at (y ∷ xs) zero x a h e = subst (λ (z : Answer). IsAnswer L ps ts z) (sym e) a.0
  answer_at (y ∷ xs) (suc k) x a h e = answer_at xs k x a.1 (omega arith) e

  -- the first row of a goal is its row
  pub first_row : (g : Goal) (rows : List Row) (row : Row) → IsOneRow L ps ts g rows → row ≡ get_or rows 0 row → IsRow L ps ts g row
  first_row g rows row one e = subst (λ (r : Row). IsRow L ps ts g r) (sym (e ∙ ap (λ rs. get_or rs 0 row) one.alone)) one.found

  -- the rows of a column are those of one that is the same
  abbrev IsColumnBy : ℕ → ℕ → ℕ → ℕ → ℕ → List Ask → List Row → Type 0
  IsColumnBy n i first last place asks rows =
      IsColumn L (items_of (take (last - first) (drop first (slots_in (pattern_at ps n))))) place
      (trees (take (length asks - 1) (drop place (items_in (tree_by_id ts i))))) asks (split_rows_of rows)

  pub column_same : (a b : Column) (rows : List Row) → IsSameColumn a b → IsColumnOf L ps ts a rows → IsColumnOf L ps ts b rows
  column_same a b rows s h =
      subst (λ x. IsColumnBy b.number b.id b.first b.last b.place x rows) s.asks
      (subst (λ x. IsColumnBy b.number b.id b.first b.last x a.asks.items rows) s.place
      (subst (λ x. IsColumnBy b.number b.id b.first x a.place a.asks.items rows) s.last
      (subst (λ x. IsColumnBy b.number b.id x a.last a.place a.asks.items rows) s.first
      (subst (λ x. IsColumnBy b.number x a.first a.last a.place a.asks.items rows) s.id
      (subst (λ x. IsColumnBy x a.id a.first a.last a.place a.asks.items rows) s.number h)))))
