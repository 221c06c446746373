use Rattle.std.proofs.Common.{◌+◌, List, [], drop, map, refl, sym, subst, arith}
use Rattle.std.proofs.lemmas.Result.{err_from_is_err_and}
use Rattle.rdx_lang.specs.Programs.{Program}
use Rattle.rdx_defs.specs.Scopes.{languages_in, scope_in}
use Rattle.rdx_answer.specs.Bound.{Bound}
use Rattle.rdx_forms.specs.BindingParts.{file_forms}
use Rattle.rdx_forms.specs.Ends.{file_ends}
use Rattle.rdx_forms.specs.Before.{known_before}
use Rattle.rdx_forms.specs.Fitting.{IsFitting}
use Rattle.rdx_forms.specs.KnownView.{known_of}
use Rattle.rdx_forms.specs.Known.{Known}
use Rattle.rdx_answer.specs.Views.{query_of}
use Rattle.rdx_query.specs.File.{IsFile}
use Rattle.rdx_query.proofs.FileRead.{SoFar, so_far-start, so_far-next, so_far-fault, so_far-end, file-named, form-readable, all-readable, form-ends-among}
use Rattle.rdx_query.proofs.FittingKnown.{fitting-nothing}
use Rattle.rdx_query.proofs.file.check_file.Goals as goal

pub nothing_known-requires : goal.nothing_known-requires
nothing_known-requires c = all-readable c.args.forms.now c.requires

pub read_form-requires-clause-readable : goal.read_form-requires-clause-readable
read_form-requires-clause-readable c = form-readable c.args.forms.now c.loop-form.form-index c.form-item.result c.requires c.loop-form-test.true c.form-item.is

pub read_form-requires-clause-fitting : goal.read_form-requires-clause-fitting
read_form-requires-clause-fitting c = c.loop-form.invariant.1

pub read_form-requires-clause-ends : goal.read_form-requires-clause-ends
read_form-requires-clause-ends c =
    form-ends-among c.args.forms.now c.loop-form.form-index c.form-item.result _ c.loop-form.invariant.0.ends c.loop-form-test.true c.form-item.is

pub returns-in_err-read_form-clause-refused : goal.returns-in_err-read_form-clause-refused
returns-in_err-read_form-clause-refused c =
    let p = err_from_is_err_and c.from_residual-in_err-read_form.result c.from_residual-in_err-read_form.ensures.1 in
    rw (p.1, p.2) (so_far-fault c.args.forms.now c.loop-form.form-index c.form-item.result (known_of c.loop-form.known)
    (map (query_of (known_of c.loop-form.known).forms) c.loop-form.queries.items)
    c.in_err-read_form.field-0.0 c.loop-form-test.true c.form-item.is c.in_err-read_form.ensures.steps c.loop-form.invariant.0)

pub loop-form-preserved : goal.loop-form-preserved
loop-form-preserved c =
    let ds = c.args.forms.now in
    let i = c.loop-form.form-index in
    let K = known_of c.loop-form.known in
    let J = known_of c.read_form.new.known in
    let us = c.loop-form.queries.items in
    let vs = c.read_form.new.queries.items in
    let next : SoFar ds (drop (i + 1) ds) J (map (query_of K.forms) vs) =
    so_far-next ds i c.form-item.result K J (map (query_of K.forms) us) (map (query_of K.forms) vs) c.loop-form-test.true c.form-item.is
    c.in_ok-read_form.ensures.steps c.loop-form.invariant.0
    in (
      subst (λ (bs : List Bound). SoFar ds (drop (i + 1) ds) J (map (query_of bs) vs)) (sym c.in_ok-read_form.ensures.forms) next,
      c.in_ok-read_form.ensures.fitting,
    )

pub returns-clause-accepted : goal.returns-clause-accepted
returns-clause-accepted c =
    let K = known_of c.loop-form.known in
    let qs = map (query_of K.forms) c.loop-form.queries.items in
    subst (λ (P : Program). IsFile c.args.forms.now P qs) (sym c.in_ok-program.ensures)
    (so_far-end c.args.forms.now c.loop-form.form-index K qs (omega arith) c.loop-form.invariant.0)

pub returns-clause-forms : goal.returns-clause-forms
returns-clause-forms c = c.loop-form.invariant.0.forms

pub returns-clause-named : goal.returns-clause-named
returns-clause-named c =
    let K = known_of c.loop-form.known in
    let qs = map (query_of K.forms) c.loop-form.queries.items in
    file-named c.args.forms.now _ qs
    (subst (λ (P : Program). IsFile c.args.forms.now P qs) (sym c.in_ok-program.ensures)
    (so_far-end c.args.forms.now c.loop-form.form-index K qs (omega arith) c.loop-form.invariant.0))

pub loop-form-init : goal.loop-form-init
loop-form-init c =
    let ds = c.args.forms.now in
    let start : SoFar ds ds (known_before ds) [] = so_far-start ds (scope_in ds) (languages_in ds) (file_ends ds) (file_forms ds) refl refl refl refl in
    let K = known_of c.in_ok-known.known in
    let known : SoFar ds ds K [] = subst (λ (J : Known). SoFar ds ds J []) (sym c.in_ok-known.ensures) start in (
      subst (λ qs. SoFar ds ds K (map (query_of K.forms) qs)) (sym c.new-queries.ensures.items) known,
      subst IsFitting (sym c.in_ok-known.ensures) (fitting-nothing (scope_in ds) (languages_in ds) (file_ends ds) (file_forms ds)),
    )
