use Rattle.std.proofs.Common.{◌≡◌, inl, inr, [], ◌∷◌, false, sym, arith}
use Rattle.std.proofs.lemmas.Grind.{common_steps}
use Rattle.rdx_direct.proofs.PathLaws.{leads_made, leads_along, leads_one}
use Rattle.rdx_direct.specs.declared.paths.Branch.{Branch, roll-Branch}
use Rattle.rdx_direct.proofs.paths.Paths.within.Goals as goal

pub returns : goal.returns
returns c w =
    let b : Branch = roll-Branch (record { place = c.args.place; paths = c.args.self }) in
    let e : c.push.new.self.items ≡ b ∷ [] = grind (arith, common_steps) in
    let made = leads_made false c.push.new.self w in (
      λ h. elim (made.0 h) [ inl f ↦ absurd cc | inr l ↦ (leads_one c.args.place c.args.self w).0 (leads_along c.push.new.self.items (b ∷ []) w e l) ],
      λ l. made.1 (inr (leads_along (b ∷ []) c.push.new.self.items w (sym e) ((leads_one c.args.place c.args.self w).1 l))),
    )
