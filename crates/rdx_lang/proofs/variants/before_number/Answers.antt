use Rattle.std.proofs.Common.{◌≡◌, [], ◌++◌, refl, ap, ◌∙◌}
use Rattle.std.specs.Fmt.{decimal}
use Rattle.std.specs.Rc.{rc_str_bytes}
use Rattle.rdx_lang.proofs.MadeNames.{nothing_before_number, mark_before_number}
use Rattle.rdx_lang.proofs.variants.before_number.Goals as goal
use Rattle.rdx_lang.proofs.variants.before_number.Goals.{in-Some, in-None}

pub returns : goal.returns
returns c =
    let x = c.args.name.now in
    let made : rc_str_bytes c.in_ok-numbered.field-0 ≡ (x ++ []) ++ decimal 1 =
    c.in_ok-numbered.ensures ∙ ap (λ l. (l ++ []) ++ decimal 1) c.text.ensures.value in
    elim c.match-new.branch [
      | in-Some w ↦ rw w.result-is (nothing_before_number x _ made w.in-Some.ensures.none.1)
      | in-None w ↦ rw w.result-is (mark_before_number x _ made (w.in-None.ensures.none.0 refl))
    ]
