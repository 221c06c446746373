use Rattle.std.proofs.Common.{ℕ, List, subst, sym}
use Rattle.rdx_patterns.specs.Ends.{ends_in}
use Rattle.rdx_defs.specs.Answers.{ReadsJudgement}
use Rattle.rdx_templates.specs.Scope.{scope_of}
use Rattle.rdx_forms.proofs.GainingNothing.{gained-at}
use Rattle.rdx_forms.proofs.KeptNames.{kept-at}
use Rattle.rdx_forms.proofs.Replaced.{same-known, tables-stay}
use Rattle.rdx_forms.proofs.judgement_forms.read_over.Goals as goal

pub returns-in-Some-clause-same : goal.returns-in-Some-clause-same
returns-in-Some-clause-same c =
    same-known c.args.known.now c.in-Some.place c.index_mut-language.result.now c.read_judgement_over.new.language c.in-Some.ensures.within
    (gained-at c.args.known.now.program.languages.items c.in-Some.place c.index_mut-language.result.now c.read_judgement_over.new.language (ends_in c.args.form.now) c.args.known.now.ends.items
    c.read_judgement_over.result c.in-Some.ensures.within c.index_mut-language.ensures.value c.requires.crossed c.requires.ends c.read_judgement_over.ensures.gains)

pub invariant_of-known : goal.invariant_of-known
invariant_of-known c =
    record {
      tabled = tables-stay c.args.known.now c.in-Some.place c.index_mut-language.result.now c.read_judgement_over.new.language c.in-Some.ensures.within
          (gained-at c.args.known.now.program.languages.items c.in-Some.place c.index_mut-language.result.now c.read_judgement_over.new.language (ends_in c.args.form.now) c.args.known.now.ends.items
          c.read_judgement_over.result c.in-Some.ensures.within c.index_mut-language.ensures.value c.requires.crossed c.requires.ends c.read_judgement_over.ensures.gains);
      asked = c.args.known.now.asked;
    }

pub read_judgement_over-requires-clause-names : goal.read_judgement_over-requires-clause-names
read_judgement_over-requires-clause-names c =
    let K = c.args.known.now in
    kept-at K.tables.nonterminals.items K.program.languages.items K.tabled.nonterminals c.in-Some.place c.index-names.result.now c.index_mut-language.result.now c.in-Some.ensures.within c.index-names.ensures
    c.index_mut-language.ensures.value

pub returns-in-Some-clause-reads : goal.returns-in-Some-clause-reads
returns-in-Some-clause-reads c =
    subst (λ (ns : List (List ℕ)). ReadsJudgement (scope_of c.args.known.now.scope) ns c.args.form.now c.read_judgement_over.result)
    (sym (c.in-Some.ensures.some c.index_mut-language.result.now c.index_mut-language.ensures.value)) c.read_judgement_over.ensures.reads
