use Rattle.std.proofs.Common.{map, ◌∙◌, ap, arith}
use Rattle.std.proofs.lemmas.Grind.{common_steps}
use Rattle.rdx_lang.specs.Checked.{language_in}
use Rattle.rdx_term.specs.View.{tree_of}
use Rattle.rdx_enum.specs.Inside.Rows.{row_at}
use Rattle.rdx_enum.proofs.KnownRows.{known_start, known_next, known_end, row_from}
use Rattle.rdx_enum.proofs.TableLaws.{table_row}
use Rattle.rdx_enum.proofs.growing.Setting.known.Goals as goal

pub loop-m-init : goal.loop-m-init
loop-m-init c = known_start (language_in c.args.self.now.language.now) (map tree_of c.args.self.now.pool.now) c.args.name.now _ _ c.new-terms.ensures.items c.new-contexts.ensures.items

pub loop-m-preserved : goal.loop-m-preserved
loop-m-preserved c =
    let L = language_in c.args.self.now.language.now in
    let P = map tree_of c.args.self.now.pool.now in
    let t = c.in-Some.table.now in
    known_next L P c.args.name.now c.loop-m.m c.loop-m.terms.items c.push.new.self.items c.loop-m.contexts.items c.push-in-loop-m.new.self.items
    c.in_ok-more.more c.in_ok-others.others (grind (arith, common_steps)) (grind (arith, common_steps)) c.loop-m.invariant
    (row_from L P c.args.name.now c.loop-m.m (row_at t.terms.items c.loop-m.m) (row_at t.contexts.items c.loop-m.m) c.in_ok-more.more c.in_ok-others.others
    (table_row L P c.args.self.now.tables.now c.args.name.now c.args.n c.loop-m.m t c.requires.tables c.requires.there c.in-Some.ensures.among c.in-Some.ensures.name (omega arith))
    (c.in_ok-more.ensures ∙ c.row.ensures ∙ ap (λ rows. row_at rows c.loop-m.m) c.deref.ensures.value)
    (c.in_ok-others.ensures ∙ c.row-in-loop-m.ensures ∙ ap (λ rows. row_at rows c.loop-m.m) c.deref-in-loop-m.ensures.value))

pub returns : goal.returns
returns c = known_end (language_in c.args.self.now.language.now) (map tree_of c.args.self.now.pool.now) c.args.name.now c.args.n c.loop-m.m c.loop-m.terms.items c.loop-m.contexts.items (omega arith) c.loop-m.invariant
