use Rattle.std.proofs.Common.{rules, ◌++◌, take, arith}
use Rattle.std.proofs.lemmas.Grind.{common_steps}
use Rattle.rdx_cli.specs.Reading.{LosesFront}
use Rattle.rdx_cli.proofs.Pieces.{consumes-append}
use Rattle.rdx_cli.proofs.reading.read_file.Goals as goal

pub returns-in_err-extend_from_slice-in-Got-clause-lost :
    goal.returns-in_err-extend_from_slice-in-Got-clause-lost
returns-in_err-extend_from_slice-in-Got-clause-lost g c =
    let taken = c.in-Got.ensures.taken in
    let lost : LosesFront (g.S.Source.left c.args.source.now) (g.S.Source.left c.take.new.self) = record {
      bytes = c.pieces.bytes.items ++ take c.in-Got.count c.take.new.into;
      front = consumes-append (g.S.Source.left c.args.source.now) (g.S.Source.left c.pieces.source) (g.S.Source.left c.take.new.self) c.pieces.bytes.items (take c.in-Got.count c.take.new.into) c.pieces.invariant.gathered taken.2;
      limit = grind (arith, common_steps);
    } in
    search rules
