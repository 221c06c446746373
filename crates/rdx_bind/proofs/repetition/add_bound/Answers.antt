use Rattle.std.proofs.Common.{ℕ, List, length, Option, sym, subst}
use Rattle.std.proofs.lemmas.List.{length-map}
use Rattle.std.proofs.lemmas.Result.{on_ok_weaker}
use Rattle.rdx_lang.proofs.CollectionLaws.{AreMaps}
use Rattle.rdx_lang.specs.Bindings.{Binding}
use Rattle.rdx_lang.specs.Collections.{IsCollection, IsRepetition}
use Rattle.rdx_lang.specs.Collecting.{Adds}
use Rattle.rdx_lang.specs.Shown.{binding_of, bindings_of}
use Rattle.rdx_bind.proofs.AcrossRows.{bindings_are_maps}
use Rattle.rdx_bind.specs.Choices.{IsCounted, length_name}
use Rattle.rdx_bind.proofs.Gathering.{adds_as}
use Rattle.rdx_bind.proofs.Repeating.{counted_repetition, repetition_counted, adds_nothing, never_repeated}
use Rattle.rdx_bind.proofs.repetition.add_bound.Goals as goal

pub returns-in-Some : goal.returns-in-Some
returns-in-Some c =
    let xs : List (List ℕ) = c.args.repetition.names.now in
    let x : Option (List ℕ) = length_name c.args.repetition.length in
    let cs : List Binding = bindings_of c.args.turns.now in
    let d : Binding = binding_of c.in-Some.collected in
    let old : List Binding = bindings_of c.args.found.now.items in
    let new : List Binding = bindings_of c.add_counted.new.found.items in
    let m : AreMaps cs = bindings_are_maps c.args.turns.now in
    let k : IsCollection xs cs d = rw c.in-Some.is at c.in_ok-collect.ensures.some in
    on_ok_weaker c.add_counted.result (λ (a : Adds (IsCounted d (length c.args.turns.now) x) old new).
    adds_as old new (λ b h. counted_repetition k h) (λ b h. repetition_counted d c.requires.ascending m k h)
    (subst (λ (n : ℕ). Adds (IsCounted d n x) old new) (sym (length-map c.args.turns.now binding_of)) a)) c.add_counted.ensures

pub returns-in-None : goal.returns-in-None
returns-in-None c =
    let xs : List (List ℕ) = c.args.repetition.names.now in
    let cs : List Binding = bindings_of c.args.turns.now in
    let n : (b : Binding) → ¬ IsCollection xs cs b = rw c.in-None.is at c.in_ok-collect.ensures.none in
    adds_nothing (IsRepetition xs cs (length_name c.args.repetition.length)) (bindings_of c.args.found.now.items) (never_repeated n)
