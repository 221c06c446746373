use Rattle.std.proofs.Common.{◌≡◌, ◌<◌, ℕ, List, length, sym, ◌∙◌, subst, arith}
use Rattle.std.proofs.lemmas.List.{length-map}
use Rattle.rdx_lang.specs.Members.{In}
use Rattle.rdx_leftrec.specs.Inside.Leads.{lists_of}
use Rattle.rdx_leftrec.specs.Inside.Reach.{targets_at}
use Rattle.rdx_leftrec.proofs.ComponentNumbers.{first-found, falling}
use Rattle.rdx_leftrec.proofs.Paths.{targets_at-read}
use Rattle.rdx_leftrec.proofs.components.first_recursive.Goals as goal

pub has_number-requires : goal.has_number-requires
has_number-requires c j h =
    let e : targets_at (lists_of c.args.targets.now) c.loop-place.place ≡ c.deref.result.now =
    targets_at-read c.args.targets.now c.loop-place.place c.index-targets-place.result c.loop-place-test.true c.index-targets-place.is ∙ sym c.deref.ensures.value in
    let k = c.requires.targets c.loop-place.place j (subst (λ (js : List ℕ). In j js) (sym e) h) in
    let z = c.requires.components.size in
    omega arith

pub returns-then-has_number : goal.returns-then-has_number
returns-then-has_number c =
    let e : targets_at (lists_of c.args.targets.now) c.loop-place.place ≡ c.deref.result.now =
    targets_at-read c.args.targets.now c.loop-place.place c.index-targets-place.result c.loop-place-test.true c.index-targets-place.is ∙ sym c.deref.ensures.value in
    let l : c.loop-place.place < length (lists_of c.args.targets.now) = (let k = length-map c.args.targets.now (λ v. v.items) in let m = c.loop-place-test.true in omega arith) in
    let f = c.has_number.ensures.yes c.if-has_number.true in
    first-found (lists_of c.args.targets.now) c.args.numbers.now c.requires.components c.loop-place.place f.0 l c.loop-place.invariant (subst (λ (js : List ℕ). In f.0 js) (sym e) f.1) f.2

pub returns : goal.returns
returns c =
    falling (lists_of c.args.targets.now) c.args.numbers.now c.requires.components
    (λ i j l h. c.loop-place.invariant i j (let k = length-map c.args.targets.now (λ v. v.items) in let m = c.loop-place-test.false in omega arith) h)
