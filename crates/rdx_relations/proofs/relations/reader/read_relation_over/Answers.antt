use Rattle.std.proofs.Common.{◌≡◌, ◌∙◌, ℕ, List, Some, None, map, sym, ap, subst, if◌then◌else◌}
use Rattle.std.specs.Prelude.{option_map}
use Rattle.rdx_lang.specs.Checked.{language_in}
use Rattle.rdx_patterns.specs.Ends.{Gained}
use Rattle.rdx_patterns.specs.Nonterminals.{names_of}
use Rattle.rdx_patterns.specs.Readable.{IsReadable}
use Rattle.rdx_patterns.specs.Refusal.{unnamed}
use Rattle.rdx_relations.specs.Expansion.{used_shortcuts, expanded_by, expanded_cases, expanded_form}
use Rattle.rdx_relations.specs.Inside.FormOutlines.{domain_patterns}
use Rattle.rdx_relations.specs.Inside.FormViews.{relation_form_of}
use Rattle.rdx_parts.specs.PartsHave.{AreReadable, IsReadableTaken}
use Rattle.rdx_relations.specs.RelationEnds.{expanded_ends, ends_by}
use Rattle.rdx_relations.specs.RelationForms.{case_form, RelationForm, relation_form}
use Rattle.rdx_templates.specs.Scope.{scope_of}
use Rattle.rdx_relations.proofs.ExpandedRelations.{expanded-reads, readable-before, readable-behind}
use Rattle.rdx_relations.proofs.InheritedParts.{relation-has}
use Rattle.rdx_relations.proofs.PlainRelations.{no-data, plain-form}
use Rattle.rdx_relations.proofs.ReadableParts.{readable-inherited, are-readable}
use Rattle.rdx_relations.proofs.relations.reader.read_relation_over.Goals as goal

pub read_expanded-requires-clause-domain : goal.read_expanded-requires-clause-domain
read_expanded-requires-clause-domain c =
    let d = c.args.form.now in
    let r = relation_form_of c.in-Some.parts in
    let f : relation_form d ≡ Some r = sym c.relation_form.ensures ∙ ap (option_map relation_form_of) c.in-Some.is in
    let h = relation-has IsReadable IsReadableTaken readable-inherited d r c.requires.readable f in
    are-readable (domain_patterns r.domain) h.domain

pub read_expanded-requires-clause-cases : goal.read_expanded-requires-clause-cases
read_expanded-requires-clause-cases c =
    let d = c.args.form.now in
    let r = relation_form_of c.in-Some.parts in
    let f : relation_form d ≡ Some r = sym c.relation_form.ensures ∙ ap (option_map relation_form_of) c.in-Some.is in
    let h = relation-has IsReadable IsReadableTaken readable-inherited d r c.requires.readable f in
    subst AreReadable (sym c.cut_at_with-cut.ensures.cases) (readable-before r.cases (are-readable r.cases h.cases))

pub read_expanded-requires-clause-named : goal.read_expanded-requires-clause-named
read_expanded-requires-clause-named c =
    let d = c.args.form.now in
    let r = relation_form_of c.in-Some.parts in
    let f : relation_form d ≡ Some r = sym c.relation_form.ensures ∙ ap (option_map relation_form_of) c.in-Some.is in
    let h = relation-has IsReadable IsReadableTaken readable-inherited d r c.requires.readable f in
    h.language

pub returns-then-is_empty-clause-reads : goal.returns-then-is_empty-clause-reads
returns-then-is_empty-clause-reads c =
    let S = scope_of c.args.scope.now in
    let L = language_in c.args.language.now in
    let d = c.args.form.now in
    let r = relation_form_of c.in-Some.parts in
    let f : relation_form d ≡ Some r = sym c.relation_form.ensures ∙ ap (option_map relation_form_of) c.in-Some.is in
    let cut = c.cut_at_with-cut.ensures in
    let cs = c.cut_at_with-cut.result.cases.now in
    let ds = c.cut_at_with-cut.result.shortcuts.now in
    let n = no-data ds c.is_empty.result c.is_empty.ensures c.if-is_empty.true in
    let k = plain-form r cs cut.cases (sym cut.shortcuts ∙ n) in
    let p : RelationForm = record { language = r.language; domain = r.domain; cases = cs } in
    expanded-reads S (names_of L) d r p ds f k cut.shortcuts c.args.name.now c.read_expanded.result c.read_expanded.ensures.reads

pub returns-then-is_empty-clause-gains : goal.returns-then-is_empty-clause-gains
returns-then-is_empty-clause-gains c =
    let L = language_in c.args.language.now in
    let d = c.args.form.now in
    let r = relation_form_of c.in-Some.parts in
    let f : relation_form d ≡ Some r = sym c.relation_form.ensures ∙ ap (option_map relation_form_of) c.in-Some.is in
    let cut = c.cut_at_with-cut.ensures in
    let cs = c.cut_at_with-cut.result.cases.now in
    let ds = c.cut_at_with-cut.result.shortcuts.now in
    let n = no-data ds c.is_empty.result c.is_empty.ensures c.if-is_empty.true in
    let k = plain-form r cs cut.cases (sym cut.shortcuts ∙ n) in
    let p : RelationForm = record { language = r.language; domain = r.domain; cases = cs } in
    subst (λ (ys : List (List ℕ)). Gained L ys c.read_expanded.result (language_in c.read_expanded.new.language)) (ap expanded_ends k ∙ ap ends_by (sym f)) c.read_expanded.ensures.gains

pub read_expanded-requires-2-clause-domain : goal.read_expanded-requires-2-clause-domain
read_expanded-requires-2-clause-domain c =
    let d = c.args.form.now in
    let r = relation_form_of c.in-Some.parts in
    let f : relation_form d ≡ Some r = sym c.relation_form.ensures ∙ ap (option_map relation_form_of) c.in-Some.is in
    let h = relation-has IsReadable IsReadableTaken readable-inherited d r c.requires.readable f in
    are-readable (domain_patterns r.domain) h.domain

pub read_expanded-requires-2-clause-cases : goal.read_expanded-requires-2-clause-cases
read_expanded-requires-2-clause-cases c =
    let d = c.args.form.now in
    let r = relation_form_of c.in-Some.parts in
    let f : relation_form d ≡ Some r = sym c.relation_form.ensures ∙ ap (option_map relation_form_of) c.in-Some.is in
    let h = relation-has IsReadable IsReadableTaken readable-inherited d r c.requires.readable f in
    let cut = c.cut_at_with-cut.ensures in
    subst AreReadable (sym c.deref.ensures.value)
    (c.in_ok-expanded.ensures.readable (subst AreReadable (sym cut.cases) (readable-before r.cases (are-readable r.cases h.cases)))
    (subst AreReadable (sym cut.shortcuts) (readable-behind r.cases (are-readable r.cases h.cases))))

pub read_expanded-requires-2-clause-named : goal.read_expanded-requires-2-clause-named
read_expanded-requires-2-clause-named c =
    let d = c.args.form.now in
    let r = relation_form_of c.in-Some.parts in
    let f : relation_form d ≡ Some r = sym c.relation_form.ensures ∙ ap (option_map relation_form_of) c.in-Some.is in
    let h = relation-has IsReadable IsReadableTaken readable-inherited d r c.requires.readable f in
    h.language

pub returns-clause-reads : goal.returns-clause-reads
returns-clause-reads c =
    let S = scope_of c.args.scope.now in
    let L = language_in c.args.language.now in
    let d = c.args.form.now in
    let r = relation_form_of c.in-Some.parts in
    let f : relation_form d ≡ Some r = sym c.relation_form.ensures ∙ ap (option_map relation_form_of) c.in-Some.is in
    let cut = c.cut_at_with-cut.ensures in
    let ds = c.cut_at_with-cut.result.shortcuts.now in
    let p : RelationForm = record { language = r.language; domain = r.domain; cases = c.deref.result.now } in
    let made : c.deref.result.now ≡ expanded_cases r =
    c.deref.ensures.value ∙ c.in_ok-expanded.ensures.cases ∙ (λ i. map (λ e. expanded_by (used_shortcuts (cut.shortcuts i)) e (case_form e)) (cut.cases i)) in
    let k : p ≡ expanded_form r = (λ i. record { language = r.language; domain = r.domain; cases = made i }) in
    expanded-reads S (names_of L) d r p ds f k cut.shortcuts c.args.name.now c.read_expanded-2.result c.read_expanded-2.ensures.reads

pub returns-clause-gains : goal.returns-clause-gains
returns-clause-gains c =
    let L = language_in c.args.language.now in
    let d = c.args.form.now in
    let r = relation_form_of c.in-Some.parts in
    let f : relation_form d ≡ Some r = sym c.relation_form.ensures ∙ ap (option_map relation_form_of) c.in-Some.is in
    let cut = c.cut_at_with-cut.ensures in
    let ds = c.cut_at_with-cut.result.shortcuts.now in
    let p : RelationForm = record { language = r.language; domain = r.domain; cases = c.deref.result.now } in
    let made : c.deref.result.now ≡ expanded_cases r =
    c.deref.ensures.value ∙ c.in_ok-expanded.ensures.cases ∙ (λ i. map (λ e. expanded_by (used_shortcuts (cut.shortcuts i)) e (case_form e)) (cut.cases i)) in
    let k : p ≡ expanded_form r = (λ i. record { language = r.language; domain = r.domain; cases = made i }) in
    subst (λ (ys : List (List ℕ)). Gained L ys c.read_expanded-2.result (language_in c.read_expanded-2.new.language)) (ap expanded_ends k ∙ ap ends_by (sym f)) c.read_expanded-2.ensures.gains
