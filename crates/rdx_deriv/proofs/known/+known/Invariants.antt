use Rattle.std.proofs.Common.{◌≡◌, drop, map}
use Rattle.rdx_lang.specs.PatternView.{language_of, slot_of, items_of}
use Rattle.rdx_lang.specs.WellFormed as model
use Rattle.rdx_deriv.proofs.known.+known.Given as goal

abbrev pub invariant-have_known_nonterminals-loop-item : goal.invariant-have_known_nonterminals-loop-item
invariant-have_known_nonterminals-loop-item l =
    model.have_known_nonterminals (model.defined (language_of l.language)) (items_of (map slot_of (drop l.item-index l.items)))
    ≡ model.have_known_nonterminals (model.defined (language_of l.language)) (items_of (map slot_of l.items))
