use Rattle.std.proofs.Common.{◌≡◌, ◌∙◌, ap, length, sym}
use Rattle.std.proofs.lemmas.Result.{IfOk-weaker}
use Rattle.rdx_lang.proofs.ValueEquations.{value_len}
use Rattle.rdx_lang.specs.Bindings.{one_name, len}
use Rattle.rdx_lang.specs.Shown.{binding_of, bindings_of}
use Rattle.std.proofs.lemmas.List.{length-map}
use Rattle.rdx_bind.proofs.AcrossRows.{bindings_are_maps}
use Rattle.rdx_direct.proofs.RunLaws.{goes_collected, goes_counted, goes_uncollected}
use Rattle.rdx_direct.proofs.turns.with_turns.Goals as goal

pub returns-in_default : goal.returns-in_default
returns-in_default c =
    goes_uncollected (bindings_of c.args.given.items) (bindings_of c.new.result.items) (ap bindings_of c.new.ensures.items) (rw c.in_default.is at c.in_ok-collected.ensures.none)

pub returns-in-None : goal.returns-in-None
returns-in-None c =
    goes_collected c.args.names.now (bindings_of c.args.turns.now) (binding_of c.in-Some.collected) c.requires.ascending (bindings_are_maps c.args.turns.now) (rw c.in-Some.is at c.in_ok-collected.ensures.some)
    (bindings_of c.args.given.items) (bindings_of c.in_ok-found.found.items) (bindings_are_maps c.args.given.items) c.in_ok-found.ensures c.args.length.now c.in-None.is

pub returns : goal.returns
returns c =
    let n : length c.args.turns.now ≡ length (bindings_of c.args.turns.now) = sym (length-map c.args.turns.now binding_of) in
    IfOk-weaker c.with_value.result _ _ (λ v h.
    goes_counted c.args.names.now (bindings_of c.args.turns.now) (binding_of c.in-Some.collected) c.requires.ascending (bindings_are_maps c.args.turns.now) (rw c.in-Some.is at c.in_ok-collected.ensures.some)
    (bindings_of c.args.given.items) (bindings_of c.in_ok-found.found.items) (bindings_are_maps c.args.given.items) c.in_ok-found.ensures c.args.length.now c.in-Some-length.name
    _ (bindings_of v.items) c.in-Some-length.is (ap (one_name c.in-Some-length.name) (value_len _ ∙ ap len n)) h) c.with_value.ensures
