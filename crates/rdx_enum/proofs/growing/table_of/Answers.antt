use Rattle.std.proofs.Common.{sym, ◌∙◌, true≢false, arith}
use Rattle.rdx_lang.proofs.Collecting.{no_member}
use Rattle.rdx_lang.proofs.LookupLaws.{equal-is_same}
use Rattle.rdx_enum.proofs.Filters.{member_at}
use Rattle.rdx_enum.proofs.TableLaws.{none_yet, none_at_all}
use Rattle.rdx_enum.proofs.growing.table_of.Goals as goal

pub loop-table-init : goal.loop-table-init
loop-table-init c = λ t h e. no_member h

pub loop-table-preserved : goal.loop-table-preserved
loop-table-preserved c =
    none_yet c.args.tables.now c.loop-table.table-index c.table-item.result c.args.name.now c.loop-table-test.true c.table-item.is
    (λ e. true≢false (sym (equal-is_same c.table-item.result.name c.args.name.now e) ∙ sym c.same.ensures ∙ c.if-same.false)) c.loop-table.invariant

pub returns-then-same-clause-among : goal.returns-then-same-clause-among
returns-then-same-clause-among c = member_at c.args.tables.now c.loop-table.table-index c.table-item.result c.loop-table-test.true c.table-item.is

pub returns-clause-none : goal.returns-clause-none
returns-clause-none c = none_at_all c.args.tables.now c.loop-table.table-index c.args.name.now (omega arith) c.loop-table.invariant
