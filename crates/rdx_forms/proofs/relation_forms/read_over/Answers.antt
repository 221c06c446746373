use Rattle.std.proofs.Common.{◌≡◌, true, Option, Some, ◌∙◌, ap, sym, subst}
use Rattle.std.proofs.lemmas.Result.{IfOk-weaker}
use Rattle.rdx_lang.specs.Checked.{language_in}
use Rattle.rdx_lang.specs.Patterns.{Language}
use Rattle.rdx_lang.specs.ProgramView.{relation_of}
use Rattle.rdx_lang.specs.Valid.{is_valid_over}
use Rattle.rdx_relations.specs.RelationEnds.{relation_ends}
use Rattle.rdx_templates.specs.Scope.{scope_of, callable}
use Rattle.rdx_forms.proofs.GainingNothing.{gained-at}
use Rattle.rdx_forms.proofs.RelationChecks.{valid-formed}
use Rattle.rdx_forms.proofs.KeptNames.{kept-at}
use Rattle.rdx_forms.proofs.Replaced.{same-known, tables-stay}
use Rattle.rdx_forms.proofs.relation_forms.read_over.Goals as goal

pub returns-in-Some-clause-same : goal.returns-in-Some-clause-same
returns-in-Some-clause-same c =
    let l = c.index_mut-language.result.now in
    let m = c.read_relation_over.new.language in
    same-known c.args.known.now c.in-Some.place l m c.in-Some.ensures.within
    (gained-at c.args.known.now.program.languages.items c.in-Some.place l m (relation_ends c.args.body.now) c.args.known.now.ends.items c.read_relation_over.result
    c.in-Some.ensures.within c.index_mut-language.ensures.value c.requires.crossed c.requires.ends c.read_relation_over.ensures.gains)

pub invariant_of-known : goal.invariant_of-known
invariant_of-known c =
    let l = c.index_mut-language.result.now in
    let m = c.read_relation_over.new.language in
    record {
      tabled = tables-stay c.args.known.now c.in-Some.place l m c.in-Some.ensures.within
          (gained-at c.args.known.now.program.languages.items c.in-Some.place l m (relation_ends c.args.body.now) c.args.known.now.ends.items c.read_relation_over.result
          c.in-Some.ensures.within c.index_mut-language.ensures.value c.requires.crossed c.requires.ends c.read_relation_over.ensures.gains);
      asked = c.args.known.now.asked;
    }

pub returns-in-Some-clause-fits : goal.returns-in-Some-clause-fits
returns-in-Some-clause-fits c =
    let C = callable (scope_of c.args.known.now.scope) in
    let l = c.index_mut-language.result.now in
    let m = c.read_relation_over.new.language in
    let s = gained-at c.args.known.now.program.languages.items c.in-Some.place l m (relation_ends c.args.body.now) c.args.known.now.ends.items c.read_relation_over.result
    c.in-Some.ensures.within c.index_mut-language.ensures.value c.requires.crossed c.requires.ends c.read_relation_over.ensures.gains
    ∙ ap language_in (sym c.index_mut-language.ensures.value) in
    IfOk-weaker c.read_relation_over.result _ _
    (λ r v L e.
    let f : (let o : Option Language = Some (language_in l) in o) ≡ Some L = sym (c.in-Some.ensures.found l c.index_mut-language.ensures.value) ∙ e in
    let g : language_in l ≡ L = cc in
    valid-formed C L (relation_of r) (subst (λ (M : Language). is_valid_over C (Some M) (relation_of r) ≡ true) (s ∙ g) v))
    c.read_relation_over.ensures.valid

pub read_relation_over-requires-clause-names : goal.read_relation_over-requires-clause-names
read_relation_over-requires-clause-names c =
    let K = c.args.known.now in
    kept-at K.tables.nonterminals.items K.program.languages.items K.tabled.nonterminals c.in-Some.place c.index-names.result.now c.index_mut-language.result.now c.in-Some.ensures.within c.index-names.ensures
    c.index_mut-language.ensures.value
