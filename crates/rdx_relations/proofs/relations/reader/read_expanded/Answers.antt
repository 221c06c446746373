use Rattle.std.proofs.Common.{◌≡◌, ◌++◌, ◌∙◌, ℕ, List, [], Some, None, true, sym, ap, subst}
use Rattle.rdx_lang.specs.Checked.{language_in}
use Rattle.rdx_lang.specs.Patterns.{Language}
use Rattle.rdx_lang.specs.ProgramView.{relation_of}
use Rattle.rdx_lang.specs.Programs.{Relation}
use Rattle.rdx_lang.specs.Valid.{is_valid_over}
use Rattle.rdx_patterns.specs.Ends.{crossed_for}
use Rattle.rdx_patterns.specs.Nonterminals.{names_of}
use Rattle.rdx_patterns.specs.Readable.{IsReadable}
use Rattle.rdx_relations.specs.Inside.FormOutlines.{domain_patterns, relation_outline}
use Rattle.rdx_parts.specs.Outlines.{Outline}
use Rattle.rdx_relations.specs.Inside.ExpandedAnswers.{expanded_refusal}
use Rattle.rdx_relations.specs.Inside.FormViews.{relation_form_of}
use Rattle.rdx_parts.specs.PartViews.{outline_of}
use Rattle.rdx_parts.specs.PartsHave.{OutlineHas, can_read}
use Rattle.rdx_relations.specs.RelationEnds.{expanded_ends}
use Rattle.rdx_relations.specs.LanguageRefusal.{refusal_over}
use Rattle.rdx_relations.specs.RelationReading.{expanded_reading}
use Rattle.rdx_relations.specs.RelationStands.{expanded_stands, shortcuts_stand}
use Rattle.rdx_relations.proofs.LanguageRefusals.{nameable-word, none-over}
use Rattle.rdx_relations.specs.RelationForms.{RelationForm}
use Rattle.rdx_parts.specs.StandRefusal.{stands_refusal}
use Rattle.rdx_sexp.specs.Sexp.{Sexp}
use Rattle.rdx_templates.specs.Scope.{Scope, scope_of, callable}
use Rattle.rdx_relations.proofs.PartsOfForms.{RelationHas}
use Rattle.rdx_relations.proofs.PassedForms.{relation-valid}
use Rattle.rdx_relations.proofs.ReadableParts.{each-readable}
use Rattle.rdx_relations.proofs.relations.reader.read_expanded.Goals as goal

-- of what is not refused, nothing that stands in it is
stands-none : (S : Scope) (ns : List (List ℕ)) (r : RelationForm) (ds : List Sexp) → expanded_refusal S ns r ds ≡ None
    → stands_refusal S ns (expanded_stands S ns r ++ shortcuts_stand [] ds) ≡ None
stands-none S ns r ds e = (none-over S ns (Some r.language) (expanded_stands S ns r ++ shortcuts_stand [] ds) e).1

pub read_parts-requires-clause-parts : goal.read_parts-requires-clause-parts
read_parts-requires-clause-parts c =
    let S = scope_of c.args.scope.now in
    let L = language_in c.args.language.now in
    let r = relation_form_of c.args.form in
    let ds = c.args.shortcuts.now in
    let n : c.args.names.now ≡ names_of L = c.requires.names in
    let o : outline_of c.in_ok-outline.outline ≡ relation_outline r = c.in_ok-outline.ensures.outline in
    let h : RelationHas IsReadable r =
    record { domain = each-readable (domain_patterns r.domain) c.requires.domain; cases = each-readable r.cases c.requires.cases; language = c.requires.named } in
    let e : expanded_refusal S (names_of L) r ds ≡ None =
    (λ i. expanded_refusal S (sym n i) r ds) ∙ c.in_ok-outline.ensures.passes in
    let w : language_in c.add_ends_of.new.language ≡ crossed_for (expanded_ends r) L = c.in_ok-add_ends_of.ensures.added in
    subst (λ (xs : List (List ℕ)). OutlineHas S (can_read S (language_in c.add_ends_of.new.language) xs) (outline_of c.in_ok-outline.outline)) (sym n)
    (subst (λ (p : Outline). OutlineHas S (can_read S (language_in c.add_ends_of.new.language) (names_of L)) p) (sym o)
    (subst (λ (M : Language). OutlineHas S (can_read S M (names_of L)) (relation_outline r)) (sym w) (relation-valid S L r ds [] h (stands-none S (names_of L) r ds e)).0))

pub read_parts-requires-clause-named : goal.read_parts-requires-clause-named
read_parts-requires-clause-named c =
    let S = scope_of c.args.scope.now in
    let r = relation_form_of c.args.form in
    let ds = c.args.shortcuts.now in
    let ss = expanded_stands S c.args.names.now r ++ shortcuts_stand [] ds in
    let e : refusal_over S c.args.names.now (Some r.language) ss ≡ None = c.in_ok-outline.ensures.passes in
    c.requires.named (nameable-word r.language (none-over S c.args.names.now (Some r.language) ss e).0)

pub returns-clause-reads : goal.returns-clause-reads
returns-clause-reads c =
    let S = scope_of c.args.scope.now in
    let L = language_in c.args.language.now in
    let r = relation_form_of c.args.form in
    let ds = c.args.shortcuts.now in
    let n : c.args.names.now ≡ names_of L = c.requires.names in
    let e : expanded_refusal S (names_of L) r ds ≡ None =
    (λ i. expanded_refusal S (sym n i) r ds) ∙ c.in_ok-outline.ensures.passes in
    let g : relation_of c.in_ok-read_parts.field-0 ≡ expanded_reading S (names_of L) c.args.name.now r =
    c.in_ok-read_parts.ensures ∙ ap (λ xs. expanded_reading S xs c.args.name.now r) n in
    record { passes = e; is_read = g }

pub returns-clause-valid : goal.returns-clause-valid
returns-clause-valid c =
    let S = scope_of c.args.scope.now in
    let L = language_in c.args.language.now in
    let r = relation_form_of c.args.form in
    let ds = c.args.shortcuts.now in
    let n : c.args.names.now ≡ names_of L = c.requires.names in
    let h : RelationHas IsReadable r =
    record { domain = each-readable (domain_patterns r.domain) c.requires.domain; cases = each-readable r.cases c.requires.cases; language = c.requires.named } in
    let e : expanded_refusal S (names_of L) r ds ≡ None =
    (λ i. expanded_refusal S (sym n i) r ds) ∙ c.in_ok-outline.ensures.passes in
    let g : relation_of c.in_ok-read_parts.field-0 ≡ expanded_reading S (names_of L) c.args.name.now r =
    c.in_ok-read_parts.ensures ∙ ap (λ xs. expanded_reading S xs c.args.name.now r) n in
    let w : language_in c.add_ends_of.new.language ≡ crossed_for (expanded_ends r) L = c.in_ok-add_ends_of.ensures.added in
    subst (λ (R : Relation). is_valid_over (callable S) (Some (language_in c.add_ends_of.new.language)) R ≡ true) (sym g)
    (subst (λ (M : Language). is_valid_over (callable S) (Some M) (expanded_reading S (names_of L) c.args.name.now r) ≡ true) (sym w)
    (relation-valid S L r ds c.args.name.now h (stands-none S (names_of L) r ds e)).1)
