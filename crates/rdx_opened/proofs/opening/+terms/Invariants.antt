use Rattle.std.proofs.Common.{◌≡◌, ◌++◌, drop, map}
use Rattle.rdx_lang.specs.Bindings.{values}
use Rattle.rdx_lang.specs.BindingView.{value_of}
use Rattle.rdx_lang.specs.Shown.{bindings_of}
use Rattle.rdx_opened.specs.Inside.Marks.{all_terms, each_alone, under_name}
use Rattle.rdx_opened.proofs.opening.+terms.Given as goal

abbrev pub invariant-put_all_terms-loop-value : goal.invariant-put_all_terms-loop-value
invariant-put_all_terms-loop-value l =
    bindings_of l.found.items ++ each_alone (under_name l.name (all_terms (values (map value_of (drop l.value-index l.all)))))
    ≡ bindings_of l.fn.found.items ++ each_alone (under_name l.name (all_terms (values (map value_of l.all))))
