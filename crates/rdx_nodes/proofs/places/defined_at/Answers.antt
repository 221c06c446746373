use Rattle.std.proofs.Common.{◌≡◌, map, sym, ◌∙◌, ap, subst}
use Rattle.rdx_bind.proofs.TurnRows.{item_in}
use Rattle.rdx_lang.specs.Members.{In}
use Rattle.rdx_lang.specs.Patterns.{Definition}
use Rattle.rdx_lang.specs.PatternView.{definition_of, patterns_of}
use Rattle.rdx_lang.specs.declared.pattern.Ref.{Ref}
use Rattle.rdx_lang.proofs.LookupLaws.{is_same-equal}
use Rattle.rdx_nodes.proofs.places.defined_at.Goals as goal

pub returns-then-same : goal.returns-then-same
returns-then-same c =
    let nts = c.args.nts.now in
    let x : Ref = c.args.name.now in
    let d = c.in_ok-other.field-0.now in
    let member : In (definition_of d) (map definition_of nts) =
    item_in definition_of nts c.args.place d c.in_ok-other.ensures.lookup.3.0 c.in_ok-other.ensures.lookup.1 in
    let e : d.0 ≡ x = sym (is_same-equal x d.0 (sym c.same.ensures ∙ c.if-same.true)) in
    let f : patterns_of d.1.items ≡ patterns_of c.deref.result.now = ap patterns_of (sym c.deref.ensures.value) in
    subst (λ (k : Definition). In k (map definition_of nts)) (λ i. (e i, f i)) member
