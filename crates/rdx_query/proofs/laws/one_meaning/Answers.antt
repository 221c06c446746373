use Rattle.std.proofs.Common.{ap}
use Rattle.rdx_forms.specs.Before.{known_before}
use Rattle.rdx_forms.specs.Known.{Known}
use Rattle.rdx_query.proofs.OneReading.{accepts-one}
use Rattle.rdx_query.proofs.laws.one_meaning.Goals as goal

pub returns : goal.returns
returns c ds P Q qs rs a b =
    let s = accepts-one (known_before ds) ds (record (known_before ds) { program = P }) (record (known_before ds) { program = Q }) qs rs a b in
    (ap (λ (K : Known). K.program) s.known, s.queries)
