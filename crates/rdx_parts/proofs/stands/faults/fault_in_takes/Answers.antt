use Rattle.std.proofs.Common.{◌≡◌, ◌++◌, ◌∙◌, Bor, ap, append-nil}
use Rattle.std.proofs.lemmas.Result.{IfOk-weaker}
use Rattle.std.specs.Prelude.{Option, option_map}
use Rattle.rdx_sexp.specs.Sexp.{Sexp}
use Rattle.rdx_templates.specs.Bound.{Bound}
use Rattle.rdx_templates.specs.Earliest.{earliest, start}
use Rattle.rdx_parts.specs.Outlines.{taken_occurrences}
use Rattle.rdx_parts.specs.ByNames.{pattern_faults}
use Rattle.rdx_parts.specs.PartViews.{takes_of}
use Rattle.rdx_parts.proofs.stands.faults.fault_in_takes.Goals as goal

pub returns : goal.returns
returns c =
    let k = c.args.check in
    let ns = c.args.names.now in
    let es = c.args.bound.now in
    let os = taken_occurrences (takes_of c.args.takes) in
    let same : es ++ c.new-none.result ≡ es = ap (λ (fs : Bound). es ++ fs) c.new-none.ensures ∙ append-nil es in
    IfOk-weaker c.fault_in_takes_behind.result
    (λ (r : Option (Bor Sexp)). option_map (λ d. d.now) r ≡ earliest start (pattern_faults k ns (es ++ c.new-none.result) os))
    (λ (r : Option (Bor Sexp)). option_map (λ d. d.now) r ≡ earliest start (pattern_faults k ns es os))
    (λ r e. e ∙ ap (λ (fs : Bound). earliest start (pattern_faults k ns fs os)) same) c.fault_in_takes_behind.ensures
