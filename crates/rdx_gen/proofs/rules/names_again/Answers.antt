use Rattle.std.proofs.Common.{◌∙◌, ◌++◌, ap, sym, map}
use Rattle.rdx_gen.specs.Inside.Groups.{name_where}
use Rattle.rdx_gen.specs.PlaceView.{place_of}
use Rattle.rdx_gen.proofs.GroupLaws.{again-step}
use Rattle.rdx_gen.proofs.rules.names_again.Goals as goal

pub loop-i-preserved : goal.loop-i-preserved
loop-i-preserved c =
    again-step place_of (map place_of c.args.all.now) c.args.all.now c.in_ok-groups.groups.items c.loop-i.i c.index-all-i.result c.index.result.now (map (λ r. r.now) c.loop-i.names.items) (map (λ r. r.now) c.add_where.new.names.items)
    c.in_ok-groups.ensures c.loop-i-test.true c.index-all-i.is c.index.ensures (c.in_ok-add_where.ensures ∙ ap (λ q. (map (λ r. r.now) c.loop-i.names.items) ++ name_where c.index.result.now.several q.name.now) (sym c.index-all-i.is)) ∙ c.loop-i.invariant
