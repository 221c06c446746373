use Rattle.std.proofs.Common.{drop, map}
use Rattle.rdx_lang.specs.PatternView.{slot_of, items_of}
use Rattle.rdx_gen.specs.Matching.{HaveSymbols}
use Rattle.rdx_gen.proofs.symbols.+symbols.Given as goal

abbrev pub invariant-read_item_prefixes-loop-item : goal.invariant-read_item_prefixes-loop-item
invariant-read_item_prefixes-loop-item l = HaveSymbols (items_of (map slot_of (drop l.item-index l.items))) → HaveSymbols (items_of (map slot_of l.items))
