use Rattle.std.proofs.Common.{◌≡◌, true, false, Result, Ok, Err, refl, ◌∙◌, ap, sym, IfOk}
use Rattle.std.specs.Rc.{rc_str_bytes}
use Rattle.rdx_term.specs.Spelling.{is_name}
use Rattle.rdx_patterns.specs.Names.{is_bad_name}
use Rattle.rdx_patterns.specs.Parts.{text_of}
use Rattle.rdx_forms.proofs.DefineChecks.{no_name-bad}
use Rattle.rdx_forms.proofs.relation_forms.name_of.Goals as goal

-- what holds of all values holds of that of a result
any_ok : {T E : Type 0} (r : Result T E) (P : T → Type 0) → ((x : T) → P x) → IfOk r P
any_ok (Ok x) P f = f x
any_ok (Err e) P f = tt

pub returns-in-None : goal.returns-in-None
returns-in-None c =
    let same : rc_str_bytes c.in_ok-from_str.field-0 ≡ text_of c.args.d.now = c.in_ok-from_str.ensures.ok ∙ c.text.ensures in
    let none : is_name (text_of c.args.d.now) ≡ false = ap is_name (sym same) ∙ c.in-None.ensures.none.0 refl in
    let bad : is_bad_name (text_of c.args.d.now) ≡ true = no_name-bad c.args.d.now c.requires.spelled c.requires.symbol none in
    any_ok c.some_name.result _ (λ name e. absurd cc)
