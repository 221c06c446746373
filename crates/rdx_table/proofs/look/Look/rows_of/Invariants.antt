use Rattle.std.proofs.Common.{List, take}
use Rattle.rdx_term.specs.Tree.{Tree}
use Rattle.rdx_lang.specs.PatternView.{Slot}
use Rattle.rdx_bind.specs.Rows.{split_rows_of}
use Rattle.rdx_table.proofs.AskedItems.{AskedSoFar}
use Rattle.rdx_table.specs.Inside.Cuts.{part_in}
use Rattle.rdx_table.specs.Inside.Looks.{language_of_look}
use Rattle.rdx_table.proofs.look.Look.rows_of.Given as goal

abbrev pub invariant-loop-i : goal.invariant-loop-i
invariant-loop-i l =
    let slots : List Slot = take l.i (part_in l.self l.part).slots in
    let terms : List Tree = take l.i (part_in l.self l.part).terms in
    AskedSoFar (language_of_look l.self) l.part.place l.initial.splitting l.splitting slots terms (split_rows_of l.rows.items)
