use Rattle.std.proofs.Common.{◌≡◌, true, false, refl, ap, ◌∙◌}
use Rattle.std.specs.Rc.{rc_str_bytes}
use Rattle.rdx_term.specs.Spelling.{is_name}
use Rattle.rdx_opened.proofs.Made.{letter-is_name}
use Rattle.rdx_opened.proofs.opening.letter.Goals as goal

pub unreachable-requires : goal.unreachable-requires
unreachable-requires c =
    let e : is_name (rc_str_bytes c.in_ok-from_str.field-0) ≡ false = c.in-None.ensures.none.0 refl in
    let f : is_name (rc_str_bytes c.in_ok-from_str.field-0) ≡ true = ap is_name c.in_ok-from_str.ensures.ok ∙ letter-is_name in
    cc
