use Rattle.std.proofs.Common.{◌≡◌, length, refl, true≢false, sym, arith}
use Rattle.std.proofs.lemmas.Grind.{common_steps}
use Rattle.rdx_enum.proofs.TableRows.{none_listed, some_listed}
use Rattle.rdx_lang.specs.Bindings.{visible}
use Rattle.rdx_lang.specs.Shown.{binding_of}
use Rattle.rdx_enum.proofs.terms.is_matched.Goals as goal

pub returns-then-is_empty : goal.returns-then-is_empty
returns-then-is_empty g c =
    let n : length c.in_ok-bindings.bindings.items ≡ 0 = grind (arith, common_steps) in (
      λ h. absurd (true≢false (sym h)),
      λ m. absurd (none_listed binding_of c.in_ok-bindings.bindings.items _ (visible m.0) n c.in_ok-bindings.ensures (record { whole = m.0; holds = m.1; seen = refl })),
    )

pub returns : goal.returns
returns g c =
    let s = some_listed binding_of c.in_ok-bindings.bindings.items _ (λ e. absurd (grind (arith, common_steps))) c.in_ok-bindings.ensures in
    (λ h. (s.1.whole, s.1.holds), λ m. refl)
