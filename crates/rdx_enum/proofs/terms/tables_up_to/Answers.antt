use Rattle.std.proofs.Common.{◌≡◌, ◌+◌, ℕ, map, sym, ◌∙◌, subst, arith}
use Rattle.rdx_lang.specs.Checked.{language_in, ranks_in}
use Rattle.rdx_lang.specs.Patterns.{Language}
use Rattle.rdx_term.specs.View.{tree_of}
use Rattle.rdx_enum.specs.Inside.Order.{IsInOrder}
use Rattle.rdx_enum.specs.Inside.Tables.{AreFilled}
use Rattle.rdx_enum.proofs.Readiness.{all_there}
use Rattle.rdx_enum.proofs.terms.tables_up_to.Goals as goal

pub loop-n-init : goal.loop-n-init
loop-n-init g c = record {
  tables = c.in_ok-tables.ensures.tables (language_in c.args.language.now) (map tree_of c.args.pool.now);
  filled = c.in_ok-tables.ensures.filled;
  names = c.in_ok-tables.ensures.names ∙ c.deref.ensures.value;
}

pub returns-clause-there : goal.returns-clause-there
returns-clause-there g c = λ x h.
    let L : Language = language_in c.args.language.now in
    let e : c.loop-n.n ≡ c.args.k + 1 = omega arith in
    all_there L (ranks_in c.args.language.now) c.loop-n.tables.items c.args.k (subst (IsInOrder L (ranks_in c.args.language.now)) (sym c.loop-n.invariant.names) c.in_ok-order.ensures)
    (subst (λ (n : ℕ). AreFilled n 0 c.loop-n.tables.items) e c.loop-n.invariant.filled) x h
