-- What is grown for patterns that match by the term alone.
use Rattle.std.proofs.Common.{◌≡◌, ℕ, ◌<◌, ◌≤◌, true, false, IsTrue, Option, List, [], refl, sym, subst, true≢false, arith}
use Rattle.rdx_term.specs.Order.{kind}
use Rattle.rdx_term.specs.Tree.{Tree, hole, integer, truth, text, symbol, list, Trees, tree_nodes}
use Rattle.rdx_term.proofs.Bare.{same_bare-atom}
use Rattle.rdx_lang.specs.Empty.{IsEmpty}
use Rattle.rdx_lang.specs.Members.{In}
use Rattle.rdx_lang.specs.Patterns.{of_kind, lit, Language}
use Rattle.rdx_lang.specs.Rules.{is_of_kind}
use Rattle.rdx_lang.specs.declared.pattern.Kind.{Kind}
use Rattle.rdx_lang.specs.declared.pattern.Kind.TheVariants.{Any, Number, Natural, Integer, Real, Text, Boolean, Variable, Unmentioned}
use Rattle.rdx_lang.proofs.RuleSteps.{kind_inside, lit_inside, kind_splits, lit_splits}
use Rattle.rdx_enum.specs.Inside.Growing.{IsGrown}
use Rattle.rdx_enum.specs.Inside.Rows.{Rows, row_at, AreSized}
use Rattle.rdx_enum.specs.Inside.Tests.{is_any, is_list}
use Rattle.rdx_enum.specs.Pool.{IsOver}
use Rattle.rdx_enum.proofs.GrownPatterns.{no_ones}
use Rattle.rdx_enum.proofs.Sizes.{sized_nil}

-- rows have each tree over the pool up to n nodes
abbrev pub HasAll : List Tree → ℕ → Rows → Type 0
HasAll P n rows = (t : Tree) → IsOver P t → tree_nodes t ≤ n → In t (row_at rows (tree_nodes t))

module _ (L : Language) (P : List Tree) where
  -- but for `any` no built-in name stands for a list
  no_list : (k : Kind) (m : Option ℕ) (ts : Trees) → is_any k ≡ false → is_of_kind L k (list m ts) ≡ true → ⊥
  no_list Any m ts e h = true≢false e
  no_list Number m ts e h = true≢false (sym h)
  no_list Natural m ts e h = true≢false (sym h)
  no_list Integer m ts e h = true≢false (sym h)
  no_list Real m ts e h = true≢false (sym h)
  no_list Text m ts e h = true≢false (sym h)
  no_list Boolean m ts e h = true≢false (sym h)
  no_list Variable m ts e h = true≢false (sym h)
  no_list Unmentioned m ts e h = true≢false (sym h)

  -- so what it stands for, over the pool, is one of its atoms
  kind_in_row : (k : Kind) (ts : Rows) → is_any k ≡ false → ((t : Tree) → In t P → IsTrue (is_of_kind L k t) → In t (row_at ts 1))
      → (t : Tree) → is_of_kind L k t ≡ true → IsOver P t → In t (row_at ts (tree_nodes t))
  kind_in_row k ts e f hole h o = f hole o h
  kind_in_row k ts e f (integer n) h o = f (integer n) o h
  kind_in_row k ts e f (truth b) h o = f (truth b) o h
  kind_in_row k ts e f (text s) h o = f (text s) o h
  kind_in_row k ts e f (symbol s) h o = f (symbol s) o h
  kind_in_row k ts e f (list m us) h o = absurd (no_list k m us e h)

  pub grown_kind : (k : Kind) (n : ℕ) (ts cs : Rows) → AreSized ts → cs ≡ [] → is_any k ≡ false → ((t : Tree) → In t P → IsTrue (is_of_kind L k t) → In t (row_at ts 1)) → IsGrown L P (of_kind k) n ts cs
  grown_kind k n ts cs a d e f = record {
    matched = λ t b h o l. kind_in_row k ts e f t (kind_inside h).0 o;
    split = λ t C s b h o l. absurd (kind_splits h);
    sized_terms = a;
    sized_contexts = sized_nil cs d;
    empty = λ C h. no_ones (of_kind k) cs (IsEmpty L (of_kind k)) C d h;
  }

  -- where all trees are there, so are those of a built-in name, and the one that is a literal
  pub grown_any : (k : Kind) (n : ℕ) (ts cs : Rows) → AreSized ts → cs ≡ [] → HasAll P n ts → IsGrown L P (of_kind k) n ts cs
  grown_any k n ts cs a d f = record {
    matched = λ t b h o l. f t o l;
    split = λ t C s b h o l. absurd (kind_splits h);
    sized_terms = a;
    sized_contexts = sized_nil cs d;
    empty = λ C h. no_ones (of_kind k) cs (IsEmpty L (of_kind k)) C d h;
  }

  pub grown_lit_any : (u : Tree) (n : ℕ) (ts cs : Rows) → AreSized ts → cs ≡ [] → HasAll P n ts → IsGrown L P (lit u) n ts cs
  grown_lit_any u n ts cs a d f = record {
    matched = λ t b h o l. f t o l;
    split = λ t C s b h o l. absurd (lit_splits h);
    sized_terms = a;
    sized_contexts = sized_nil cs d;
    empty = λ C h. no_ones (lit u) cs (IsEmpty L (lit u)) C d h;
  }

  -- a literal that is no list is one node
  pub one_node : (u : Tree) → is_list u ≡ false → (kind u < 5) × (tree_nodes u ≡ 1)
  one_node hole e = (omega arith, refl)
  one_node (integer n) e = (omega arith, refl)
  one_node (truth b) e = (omega arith, refl)
  one_node (text s) e = (omega arith, refl)
  one_node (symbol s) e = (omega arith, refl)
  one_node (list m ts) e = absurd (true≢false e)

  pub grown_lit : (u : Tree) (n : ℕ) (ts cs : Rows) → AreSized ts → cs ≡ [] → is_list u ≡ false → In u (row_at ts 1) → IsGrown L P (lit u) n ts cs
  grown_lit u n ts cs a d e i = record {
    matched = λ t b h o l.
        let k = one_node u e in
        subst (λ (v : Tree). In v (row_at ts (tree_nodes v))) (sym (same_bare-atom t u k.0 (lit_inside h).0))
        (subst (λ (m : ℕ). In u (row_at ts m)) (sym k.1) i);
    split = λ t C s b h o l. absurd (lit_splits h);
    sized_terms = a;
    sized_contexts = sized_nil cs d;
    empty = λ C h. no_ones (lit u) cs (IsEmpty L (lit u)) C d h;
  }
