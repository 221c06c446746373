use Rattle.std.proofs.Common.{◌≡◌, List, [], arith}
use Rattle.std.proofs.lemmas.Grind.{common_steps}
use Rattle.rdx_lang.specs.Bindings.{Binding, no_names}
use Rattle.rdx_lang.specs.Collecting.{Adds}
use Rattle.rdx_lang.specs.Shown.{binding_of, bindings_of}
use Rattle.rdx_bind.specs.Choices.{IsCounted, length_name}
use Rattle.rdx_bind.proofs.Gathering.{exactly_added}
use Rattle.rdx_bind.proofs.repetition.bound_unnamed.Goals as goal

pub returns : goal.returns
returns c =
    let nothing : List Binding = [] in
    let e : bindings_of c.new-found.result.items ≡ nothing = grind (arith, common_steps) in
    let f : binding_of c.new-collected.result ≡ no_names = grind (arith, common_steps) in
    let a : Adds (IsCounted no_names c.args.turns (length_name c.args.length)) nothing (bindings_of c.add_counted.new.found.items) =
    rw (e, f) at c.in_ok-add_counted.ensures in
    exactly_added (IsCounted no_names c.args.turns (length_name c.args.length)) a
