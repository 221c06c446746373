use Rattle.std.proofs.Common.{◌≡◌, [], ◌∷◌, if◌then◌else◌, ap}
use Rattle.std.specs.Prelude.{not}
use Rattle.rdx_lang.specs.Bindings.{no_names}
use Rattle.rdx_lang.specs.Shown.{bindings_of}
use Rattle.rdx_bind.specs.Ones.{is_nothing}
use Rattle.rdx_bind.specs.Spots.{spots_of}
use Rattle.rdx_bind.proofs.AskedRows.{end-has}
use Rattle.rdx_bind.proofs.columns.end_row.Goals as goal

pub returns : goal.returns
returns c =
    let e : bindings_of c.in_ok-matches.matches.items ≡ (if not (is_nothing c.args.ask) then no_names ∷ [] else []) = rw c.is_nothing.ensures at c.in_ok-matches.ensures in
    end-has c.args.ask e (ap spots_of c.new-spots.ensures.items)
