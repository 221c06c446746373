use Rattle.std.proofs.Common.{subst}
use Rattle.std.specs.Prelude.{IfOk, IsTrue}
use Rattle.rdx_lang.specs.Fitting.{fits_in}
use Rattle.rdx_lang.specs.TemplateView.{host_of}
use Rattle.rdx_templates.specs.Answers.{ReadsHost}
use Rattle.rdx_templates.specs.Bound.{Bound, is_bound}
use Rattle.rdx_templates.specs.Scope.{has_metafunction, scope_of}
use Rattle.rdx_templates.proofs.templates.reader.read_host.Goals as goal

pub returns-clause-reads : goal.returns-clause-reads
returns-clause-reads c =
    subst (λ (es : Bound). ReadsHost (scope_of c.args.scope.now) es c.args.d.now c.host_over.result) c.in_ok-bound.ensures c.host_over.ensures.reads

pub returns-clause-fits : goal.returns-clause-fits
returns-clause-fits c =
    let S = scope_of c.args.scope.now in
    subst (λ (es : Bound). IfOk c.host_over.result (λ h. IsTrue (fits_in (has_metafunction S) (is_bound es) 0 (host_of h)))) c.in_ok-bound.ensures c.host_over.ensures.fits
