use Rattle.std.proofs.Common.{refl, sym, subst}
use Rattle.std.specs.Prelude.{IfSome}
use Rattle.rdx_lang.specs.Facts.{AreEach, IsKnown}
use Rattle.rdx_lang.specs.PatternView.{patterns_of}
use Rattle.rdx_direct.proofs.KnownLaws.{each_at}
use Rattle.rdx_direct.proofs.known.hint_at.Goals as goal

pub returns-in-Some-get : goal.returns-in-Some-get
returns-in-Some-get c L x a =
    let xs = c.args.choices.pats.now in
    let k : IsKnown L (x, patterns_of xs) c.in-Some.known.now = subst (λ o. IfSome o (λ m. IsKnown L (x, patterns_of xs) m.now)) c.in-Some.is a.known in
    each_at L (record { may = c.in-Some-get.each.now.may; to = c.in-Some-get.each.now.to }) xs c.deref.result.now c.args.place c.in-Some-get.each.now refl
    (subst (AreEach L (patterns_of xs)) (sym c.deref.ensures.value) k.each) c.in-Some-get.ensures.lookup.3.0 c.in-Some-get.ensures.lookup.1
