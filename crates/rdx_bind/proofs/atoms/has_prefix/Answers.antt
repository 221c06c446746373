use Rattle.std.proofs.Common.{◌≡◌, eqb, sym, ◌∙◌, ap}
use Rattle.std.proofs.lemmas.Str.Pattern.{starts_text}
use Rattle.std.specs.List.{starts_with}
use Rattle.rdx_term.specs.View.{tree_of}
use Rattle.rdx_bind.specs.Atoms as atoms
use Rattle.rdx_bind.proofs.atoms.has_prefix.Goals as goal

pub returns-in-Sym : goal.returns-in-Sym
returns-in-Sym c =
    let e : atoms.has_prefix c.args.prefix.now (tree_of c.args.t.now) ≡ starts_with eqb c.in-Sym.name c.args.prefix.now = ap (λ t. atoms.has_prefix c.args.prefix.now (tree_of t)) c.in-Sym.is in
    let f : starts_with eqb c.text.result.now c.text-in-Sym.result.now ≡ starts_with eqb c.in-Sym.name c.args.prefix.now =
    λ i. starts_with eqb (c.text.ensures.value i) (c.text-in-Sym.ensures.value i) in
    starts_text c.starts_with.result c.text-in-Sym.result.now c.text.result.now c.starts_with.ensures.cases ∙ f ∙ sym e
