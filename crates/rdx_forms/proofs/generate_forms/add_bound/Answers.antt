use Rattle.std.proofs.Common.{◌<◌, sym, ap, subst, arith}
use Rattle.std.specs.Prelude.{option_map}
use Rattle.rdx_patterns.specs.OccurrenceView.{occurrence_of}
use Rattle.rdx_parts.specs.PartsHave.{BindNames}
use Rattle.rdx_parts.proofs.PartsAt.{binds-at, binds-some}
use Rattle.rdx_forms.proofs.generate_forms.add_bound.Goals as goal

pub symbol_name-requires : goal.symbol_name-requires
symbol_name-requires c =
    let ns = c.args.names.now in
    let h = binds-at ns occurrence_of c.args.found.now c.loop-o.o-index c.o-item.result c.loop-o-test.true c.o-item.is c.requires in
    let k = subst BindNames (sym c.bound_by.ensures) h in
    (binds-some (option_map (λ b. (b.0, b.1.now)) c.bound_by.result) (c.in-Some.depth, c.in-Some.d.now) (ap (option_map (λ b. (b.0, b.1.now))) c.in-Some.is) k).1

pub overflow_cast-depth : goal.overflow_cast-depth
overflow_cast-depth c =
    let ns = c.args.names.now in
    let h = binds-at ns occurrence_of c.args.found.now c.loop-o.o-index c.o-item.result c.loop-o-test.true c.o-item.is c.requires in
    let k = subst BindNames (sym c.bound_by.ensures) h in
    let d : c.in-Some.depth < 4294967296 =
    (binds-some (option_map (λ b. (b.0, b.1.now)) c.bound_by.result) (c.in-Some.depth, c.in-Some.d.now) (ap (option_map (λ b. (b.0, b.1.now))) c.in-Some.is) k).0
    in
    omega (arith, d)
