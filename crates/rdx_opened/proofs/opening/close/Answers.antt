use Rattle.std.proofs.Common.{◌∙◌, [], List, sym, ap, subst}
use Rattle.std.proofs.lemmas.Option.{IfSome_then}
use Rattle.std.proofs.lemmas.Result.{IfOk-weaker}
use Rattle.rdx_lang.specs.Bindings.{Binding}
use Rattle.rdx_lang.specs.Collections.{IsCollection}
use Rattle.rdx_lang.specs.Join.{IsJoin}
use Rattle.rdx_lang.specs.Members.{In}
use Rattle.rdx_lang.specs.Shown.{binding_of, bindings_of}
use Rattle.rdx_opened.specs.Inside.Marks.{each_alone, marked_terms}
use Rattle.rdx_opened.specs.Seeking.{marks_of}
use Rattle.rdx_opened.proofs.Closing.{alone_nameless, collection_none, collection_some, join_stands, none_apart, none_then, some_join}
use Rattle.rdx_opened.proofs.opening.close.Goals as goal

pub collect-requires-clause-bound : goal.collect-requires-clause-bound
collect-requires-clause-bound c = λ b i.
    alone_nameless (marked_terms (marks_of c.args.marks.now) (binding_of c.args.b.now)) b
    (subst (λ (bs : List Binding). In b bs) (ap bindings_of c.deref-2.ensures.value ∙ c.in_ok-found.ensures) i)
    ∙ sym (c.deref.ensures.value ∙ c.new-no_names.ensures.items)

pub returns-in-None-clause-none : goal.returns-in-None-clause-none
returns-in-None-clause-none c =
    let ms = marks_of c.args.marks.now in
    let b = binding_of c.args.b.now in
    none_apart ms b (c.args.b.now.ascending, c.args.b.now.sets) c.requires.distinct
    (collection_none c.deref.result.now (bindings_of c.deref-2.result.now) (marked_terms ms b) c.in_ok-collect.field-0 c.in-None.is
    c.in_ok-collect.ensures.none
    (c.deref.ensures.value ∙ c.new-no_names.ensures.items) (ap bindings_of c.deref-2.ensures.value ∙ c.in_ok-found.ensures))

pub returns-clause-some : goal.returns-clause-some
returns-clause-some c =
    let ms = marks_of c.args.marks.now in
    let b = binding_of c.args.b.now in
    let k : IsCollection [] (each_alone (marked_terms ms b)) (binding_of c.in-Some.sets) =
    collection_some c.deref.result.now (bindings_of c.deref-2.result.now) (marked_terms ms b) c.in_ok-collect.field-0 c.in-Some.sets c.in-Some.is
    c.in_ok-collect.ensures.some
    (c.deref.ensures.value ∙ c.new-no_names.ensures.items) (ap bindings_of c.deref-2.ensures.value ∙ c.in_ok-found.ensures) in
    IfOk-weaker c.join.result _ _
    (λ r h. IfSome_then r h (λ w j. join_stands ms b (c.args.b.now.ascending, c.args.b.now.sets) c.requires.plain (binding_of c.in-Some.sets)
    (binding_of w) k
    (subst (λ (d : Binding). IsJoin d (binding_of c.in-Some.sets) (binding_of w)) c.in_ok-names-in-Some.ensures j)))
    c.join.ensures.some

pub returns-clause-none : goal.returns-clause-none
returns-clause-none c =
    let ms = marks_of c.args.marks.now in
    let b = binding_of c.args.b.now in
    let k : IsCollection [] (each_alone (marked_terms ms b)) (binding_of c.in-Some.sets) =
    collection_some c.deref.result.now (bindings_of c.deref-2.result.now) (marked_terms ms b) c.in_ok-collect.field-0 c.in-Some.sets c.in-Some.is
    c.in_ok-collect.ensures.some
    (c.deref.ensures.value ∙ c.new-no_names.ensures.items) (ap bindings_of c.deref-2.ensures.value ∙ c.in_ok-found.ensures) in
    IfOk-weaker c.join.result _ _
    (λ r h. none_then r h (λ n f. some_join ms b (c.args.b.now.ascending, c.args.b.now.sets) (binding_of c.in-Some.sets) k
    (λ e j. n e (subst (λ (d : Binding). IsJoin d (binding_of c.in-Some.sets) e) (sym c.in_ok-names-in-Some.ensures) j))))
    c.join.ensures.none
