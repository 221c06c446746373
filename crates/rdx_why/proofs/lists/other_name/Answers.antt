use Rattle.std.proofs.Common.{◌≡◌, ◌∙◌, true, false, refl, ap}
use Rattle.std.proofs.lemmas.Result.{IfOk-weaker}
use Rattle.std.specs.List.{list_any}
use Rattle.std.specs.Prelude.{bytes_eq}
use Rattle.std.specs.Rc.{rc_str_bytes}
use Rattle.rdx_term.specs.Spelling.{is_name}
use Rattle.rdx_lang.proofs.VariantLaws.{first_is_free}
use Rattle.rdx_why.proofs.LengthNames.{n-is_name}
use Rattle.rdx_why.proofs.lists.other_name.Goals as goal

pub unreachable-requires : goal.unreachable-requires
unreachable-requires c =
    let e : is_name (rc_str_bytes c.in_ok-from_str.field-0) ≡ false = c.in-None.ensures.none.0 refl in
    let f : is_name (rc_str_bytes c.in_ok-from_str.field-0) ≡ true = ap is_name c.in_ok-from_str.ensures.ok ∙ n-is_name in
    cc

pub returns : goal.returns
returns c =
    let names = c.args.names.now in
    IfOk-weaker c.first_variant.result _ _ (λ y e. ap (λ z. list_any (bytes_eq z) names) e ∙ (first_is_free _ names c.requires).free)
    c.first_variant.ensures
