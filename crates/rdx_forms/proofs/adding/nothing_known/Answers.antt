use Rattle.std.proofs.Common.{map, sym, subst}
use Rattle.rdx_lang.specs.Checked.{language_in}
use Rattle.rdx_lang.specs.ProgramView.{judgement_of, metafunction_of, relation_of}
use Rattle.rdx_lang.specs.Programs.{Program}
use Rattle.rdx_forms.specs.Model.Tabled.{FindsFirsts, AreTabled}
use Rattle.rdx_forms.proofs.adding.nothing_known.Goals as goal

pub invariant_of-result : goal.invariant_of-result
invariant_of-result c = record {
  tabled = subst (λ (P : Program). AreTabled c.in_ok-tables.tables P)
      (λ i. record {
        languages = map language_in (sym c.new-2.ensures.items i);
        metafunctions = map metafunction_of (sym c.new-3.ensures.items i);
        judgements = map judgement_of (sym c.new-4.ensures.items i);
        relations = map relation_of (sym c.new-5.ensures.items i);
      })
      c.in_ok-tables.ensures.tabled;
  asked = subst (λ ps. FindsFirsts c.in_ok-tables.tables.asked (map (λ p. p.0) ps)) c.deref.ensures.value c.in_ok-tables.ensures.asked;
}
