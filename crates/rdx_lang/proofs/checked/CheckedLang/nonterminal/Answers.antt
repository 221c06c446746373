use Rattle.std.proofs.Common.{◌≡◌, List, map, sym, ◌∙◌, ap, subst}
use Rattle.std.specs.Prelude.{◌↔◌, Vec}
use Rattle.std.specs.declared.alloc.Global.{Global}
use Rattle.rdx_lang.specs.Checked.{language_in}
use Rattle.rdx_lang.specs.Facts.{AreFacts, IsKnown, AreKnown}
use Rattle.rdx_lang.specs.Lookup.{alternatives_of}
use Rattle.rdx_lang.specs.Members.{In}
use Rattle.rdx_lang.specs.Patterns.{Pattern, Definition, Language}
use Rattle.rdx_lang.specs.PatternView.{definition_of, patterns_of}
use Rattle.rdx_lang.specs.Rules.{IsAlternative}
use Rattle.rdx_lang.specs.declared.facts.Known.{Known}
use Rattle.rdx_lang.specs.declared.pattern.Pat.{Pat}
use Rattle.rdx_lang.specs.declared.pattern.Ref.{Ref}
use Rattle.rdx_lang.proofs.FactLaws.{member-at, alternatives-in, known-at, facts-in}
use Rattle.rdx_lang.proofs.LookupLaws.{is_same-equal, alternatives_of-all}
use Rattle.rdx_lang.proofs.checked.CheckedLang.nonterminal.Goals as goal

-- the alternatives that are looked up
looked_up : (c : goal.After-deref-then-same) → patterns_of c.deref-then-same.result.now ≡ alternatives_of (language_in c.args.self.now) c.args.name.now
looked_up c =
    let L : Language = language_in c.args.self.now in
    let x : Ref = c.args.name.now in
    let d = c.in_ok-other.field-0.now in
    let e : d.0 ≡ x = sym (is_same-equal x d.0 (sym c.same.ensures ∙ c.if-same.true)) in
    let f : patterns_of d.1.items ≡ patterns_of c.deref-then-same.result.now = ap patterns_of (sym c.deref-then-same.ensures.value) in
    let member : In (definition_of d) (map definition_of c.deref-2.result.now) =
    member-at definition_of c.deref-2.result.now c.args.place d c.in_ok-other.ensures.lookup.3.0 c.in_ok-other.ensures.lookup.1 in
    let here : In (x, patterns_of c.deref-then-same.result.now) L.nonterminals =
    subst (λ (k : Definition). In k L.nonterminals) (λ i. (e i, f i))
    (subst (λ (ds : List (Ref × Vec Pat Global)). In (definition_of d) (map definition_of ds)) c.deref-2.ensures.value member) in
    sym (alternatives-in x (patterns_of c.deref-then-same.result.now) L.nonterminals c.args.self.now.well_formed.distinct here)

pub returns-then-same-clause-same : goal.returns-then-same-clause-same
returns-then-same-clause-same c = looked_up c

pub returns-then-same-clause-all : goal.returns-then-same-clause-all
returns-then-same-clause-all c p =
    let L : Language = language_in c.args.self.now in
    let x : Ref = c.args.name.now in
    subst (λ (ps : List Pattern). In p ps ↔ IsAlternative L x p) (sym (looked_up c)) (alternatives_of-all L x c.args.self.now.well_formed.distinct p)

pub returns-then-same-clause-known : goal.returns-then-same-clause-known
returns-then-same-clause-known c =
    let L : Language = language_in c.args.self.now in
    let x : Ref = c.args.name.now in
    let d = c.in_ok-other.field-0.now in
    let e : d.0 ≡ x = sym (is_same-equal x d.0 (sym c.same.ensures ∙ c.if-same.true)) in
    let f : patterns_of d.1.items ≡ patterns_of c.deref-then-same.result.now = ap patterns_of (sym c.deref-then-same.ensures.value) in
    let facts : AreFacts L c.in_ok-as_ref.field-0.now = facts-in L c.args.self.now.facts c.in_ok-as_ref.field-0.now (sym c.in_ok-as_ref.ensures.value) c.args.self.now.known in
    let known : IsKnown L (definition_of d) c.in_ok-known.known.now =
    known-at L c.deref-2.result.now c.deref.result.now c.args.place d c.in_ok-known.known.now
    (subst (λ (ks : List Known). AreKnown L (map definition_of c.deref-2.result.now) ks) (sym c.deref.ensures.value)
    (subst (λ (ds : List (Ref × Vec Pat Global)). AreKnown L (map definition_of ds) c.in_ok-as_ref.field-0.now.nonterminals.items) (sym c.deref-2.ensures.value) facts.nonterminals))
    c.in_ok-other.ensures.lookup.3.0 c.in_ok-other.ensures.lookup.1 c.in_ok-known.ensures.lookup.3.0 c.in_ok-known.ensures.lookup.1 in
    subst (λ (k : Definition). IsKnown L k c.in_ok-known.known.now) (λ i. (e i, f i)) known
