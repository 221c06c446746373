use Rattle.std.proofs.Common.{◌≡◌, drop, length}
use Rattle.rdx_leftrec.specs.Inside.Leads.{lists_of}
use Rattle.rdx_leftrec.proofs.Occurring.{AddsBut}
use Rattle.rdx_leftrec.proofs.deduction.add_rule.Given as goal

abbrev pub invariant-loop-part : goal.invariant-loop-part
invariant-loop-part l = record {
  size : length l.lists.items ≡ length l.initial.lists.items;
  adds : AddsBut l.index l.parts (drop l.part-index l.parts) (lists_of l.initial.lists.items) (lists_of l.lists.items);
}
