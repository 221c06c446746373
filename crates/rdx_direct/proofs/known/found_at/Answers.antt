use Rattle.std.proofs.Common.{◌≡◌, map, sym, ◌∙◌, ap, subst}
use Rattle.rdx_lang.proofs.FactLaws.{known-at, member-at}
use Rattle.rdx_lang.proofs.LookupLaws.{is_same-equal}
use Rattle.rdx_lang.specs.Facts.{IsKnown}
use Rattle.rdx_lang.specs.Members.{In}
use Rattle.rdx_lang.specs.Patterns.{Definition}
use Rattle.rdx_lang.specs.PatternView.{definition_of, patterns_of}
use Rattle.rdx_lang.specs.declared.pattern.Ref.{Ref}
use Rattle.rdx_direct.proofs.known.found_at.Goals as goal

-- the nonterminal at the place is the one that is sought
defined : (c : goal.After-deref) → definition_of c.in_ok-other.field-0.now ≡ (c.args.name.now, patterns_of c.deref.result.now)
defined c =
    let x : Ref = c.args.name.now in
    let d = c.in_ok-other.field-0.now in
    let e : d.0 ≡ x = sym (is_same-equal x d.0 (sym c.is_same.ensures ∙ c.if-is_same.true)) in
    let f : patterns_of d.1.items ≡ patterns_of c.deref.result.now = ap patterns_of (sym c.deref.ensures.value) in
    λ i. (e i, f i)

pub returns-then-is_same-clause-all : goal.returns-then-is_same-clause-all
returns-then-is_same-clause-all c =
    let nts = c.args.nts.now in
    let d = c.in_ok-other.field-0.now in
    subst (λ (k : Definition). In k (map definition_of nts)) (defined c)
    (member-at definition_of nts c.args.place d c.in_ok-other.ensures.lookup.3.0 c.in_ok-other.ensures.lookup.1)

pub returns-then-is_same-clause-known : goal.returns-then-is_same-clause-known
returns-then-is_same-clause-known c L a =
    subst (λ (k : Definition). IsKnown L k c.in_ok-known.known.now) (defined c)
    (known-at L c.args.nts.now c.args.known.now c.args.place c.in_ok-other.field-0.now c.in_ok-known.known.now a
    c.in_ok-other.ensures.lookup.3.0 c.in_ok-other.ensures.lookup.1 c.in_ok-known.ensures.lookup.3.0 c.in_ok-known.ensures.lookup.1)
