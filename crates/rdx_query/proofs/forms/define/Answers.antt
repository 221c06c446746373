use Rattle.std.proofs.Common.{sym, subst}
use Rattle.rdx_lang.specs.Checked.{language_in}
use Rattle.rdx_lang.specs.ProgramView.{judgement_of, metafunction_of, relation_of}
use Rattle.rdx_forms.specs.Fitting.{IsRelationOf, IsFitting}
use Rattle.rdx_forms.specs.KnownView.{known_of}
use Rattle.rdx_forms.specs.Known.{Known}
use Rattle.rdx_query.proofs.FittingKnown.{fitting-judgement, fitting-language, fitting-metafunction, fitting-relation}
use Rattle.rdx_forms.proofs.GainingNothing.{data-asked}
use Rattle.rdx_query.proofs.forms.define.Goals as goal

pub define_metafunction-requires-clause-ends : goal.define_metafunction-requires-clause-ends
define_metafunction-requires-clause-ends c = data-asked c.args.known.now.ends.items c.args.form.now c.requires.ends

pub define_judgement-requires-clause-ends : goal.define_judgement-requires-clause-ends
define_judgement-requires-clause-ends c = data-asked c.args.known.now.ends.items c.args.form.now c.requires.ends

pub returns-in_ok-add_language-in-Language-clause-fitting :
    goal.returns-in_ok-add_language-in-Language-clause-fitting
returns-in_ok-add_language-in-Language-clause-fitting c =
    subst IsFitting (sym c.in_ok-add_language-in-Language.ensures.added)
    (fitting-language (known_of c.args.known.now) (language_in c.in_ok-language-in-Language.language) c.requires.fitting)

pub returns-in_ok-add_language-in-Extension-clause-fitting :
    goal.returns-in_ok-add_language-in-Extension-clause-fitting
returns-in_ok-add_language-in-Extension-clause-fitting c =
    subst IsFitting (sym c.in_ok-add_language-in-Extension.ensures.added)
    (fitting-language (known_of c.args.known.now) (language_in c.in_ok-language-in-Extension.language) c.requires.fitting)

pub returns-in_ok-add_metafunction-in-Metafunction-clause-fitting :
    goal.returns-in_ok-add_metafunction-in-Metafunction-clause-fitting
returns-in_ok-add_metafunction-in-Metafunction-clause-fitting c =
    subst IsFitting (sym c.in_ok-add_metafunction-in-Metafunction.ensures.added)
    (fitting-metafunction (known_of c.define_metafunction.new.known) (metafunction_of c.in_ok-metafunction-in-Metafunction.metafunction)
    (subst IsFitting (sym c.in_ok-metafunction-in-Metafunction.ensures.same) c.requires.fitting))

pub returns-in_ok-add_judgement-in-Judgement-clause-fitting :
    goal.returns-in_ok-add_judgement-in-Judgement-clause-fitting
returns-in_ok-add_judgement-in-Judgement-clause-fitting c =
    subst IsFitting (sym c.in_ok-add_judgement-in-Judgement.ensures.added)
    (fitting-judgement (known_of c.define_judgement.new.known) (judgement_of c.in_ok-judgement-in-Judgement.judgement)
    (subst IsFitting (sym c.in_ok-judgement-in-Judgement.ensures.same) c.requires.fitting))

pub returns-in_ok-add_relation-in-Relation-clause-fitting :
    goal.returns-in_ok-add_relation-in-Relation-clause-fitting
returns-in_ok-add_relation-in-Relation-clause-fitting c =
    let k = c.define_relation.new.known in
    let r = c.in_ok-relation-in-Relation.relation in
    let e = c.in_ok-relation-in-Relation.ensures.same in
    subst IsFitting (sym c.in_ok-add_relation-in-Relation.ensures.added)
    (fitting-relation (known_of k) (relation_of r)
    (subst (λ (K : Known). IsRelationOf K.program (relation_of r)) (sym e) c.in_ok-relation-in-Relation.ensures.fits)
    (subst IsFitting (sym e) c.requires.fitting))
