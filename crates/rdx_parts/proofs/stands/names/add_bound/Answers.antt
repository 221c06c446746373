use Rattle.std.proofs.Common.{sym, ap, subst}
use Rattle.std.specs.Prelude.{option_map}
use Rattle.rdx_patterns.specs.OccurrenceView.{occurrence_of}
use Rattle.rdx_parts.specs.PartsHave.{BindNames}
use Rattle.rdx_parts.proofs.PartsAt.{binds-at, binds-some}
use Rattle.rdx_parts.proofs.stands.names.add_bound.Goals as goal

pub bound_name-requires-clause-depth : goal.bound_name-requires-clause-depth
bound_name-requires-clause-depth c =
    let ns = c.args.names.now in
    let h = binds-at ns occurrence_of c.args.found.now c.loop-o.o-index c.o-item.result c.loop-o-test.true c.o-item.is c.requires in
    let k = subst BindNames (sym c.bound_by.ensures) h in
    (binds-some (option_map (λ b. (b.0, b.1.now)) c.bound_by.result) (c.in-Some.depth, c.in-Some.d.now) (ap (option_map (λ b. (b.0, b.1.now))) c.in-Some.is) k).0

pub bound_name-requires-clause-name : goal.bound_name-requires-clause-name
bound_name-requires-clause-name c =
    let ns = c.args.names.now in
    let h = binds-at ns occurrence_of c.args.found.now c.loop-o.o-index c.o-item.result c.loop-o-test.true c.o-item.is c.requires in
    let k = subst BindNames (sym c.bound_by.ensures) h in
    (binds-some (option_map (λ b. (b.0, b.1.now)) c.bound_by.result) (c.in-Some.depth, c.in-Some.d.now) (ap (option_map (λ b. (b.0, b.1.now))) c.in-Some.is) k).1
