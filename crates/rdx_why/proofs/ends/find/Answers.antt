use Rattle.std.proofs.Common.{sym, subst}
use Rattle.rdx_lang.specs.Members.{In}
use Rattle.rdx_eval.proofs.MemoLaws.{in-place}
use Rattle.rdx_why.proofs.ends.find.Goals as goal

pub returns-then-same : goal.returns-then-same
returns-then-same c =
    let k = c.in-Some-get.kept.now in
    let h = c.in-Some-get.ensures.lookup in
    record {
      kept = k;
      member = subst (In k) c.deref.ensures.value (in-place c.deref.result.now _ k h.3.0 h.1);
      judgement = c.same_name.ensures.0 c.if-same_name.true;
      place = c.if-kept-place.true;
      inputs = c.same.ensures.0 c.if-same.true;
      ends = sym c.as_slice.ensures.value;
    }
