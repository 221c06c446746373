use Rattle.std.proofs.Common.{subst}
use Rattle.std.specs.Prelude.{IfOk, IsTrue}
use Rattle.rdx_lang.specs.Fitting.{fits}
use Rattle.rdx_lang.specs.TemplateView.{template_of}
use Rattle.rdx_templates.specs.Answers.{ReadsTemplate}
use Rattle.rdx_templates.specs.Bound.{Bound, is_bound}
use Rattle.rdx_templates.specs.Scope.{has_metafunction, scope_of}
use Rattle.rdx_templates.proofs.templates.reader.read_template.Goals as goal

pub returns-clause-reads : goal.returns-clause-reads
returns-clause-reads c =
    subst (λ (es : Bound). ReadsTemplate (scope_of c.args.scope.now) es c.args.d.now c.template_over.result) c.in_ok-bound.ensures c.template_over.ensures.reads

pub returns-clause-fits : goal.returns-clause-fits
returns-clause-fits c =
    let S = scope_of c.args.scope.now in
    subst (λ (es : Bound). IfOk c.template_over.result (λ t. IsTrue (fits (has_metafunction S) (is_bound es) 0 (template_of t)))) c.in_ok-bound.ensures c.template_over.ensures.fits
