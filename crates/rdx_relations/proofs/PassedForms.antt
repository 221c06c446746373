-- What readable relations have where no check refuses them.
use Rattle.std.proofs.Common.{◌≡◌, ◌++◌, ◌∙◌, ℕ, true, List, [], sym, ap}
use Rattle.std.specs.Prelude.{Some, None}
use Rattle.rdx_sexp.specs.Sexp.{Sexp}
use Rattle.rdx_lang.specs.Patterns.{Language}
use Rattle.rdx_lang.specs.Valid.{is_valid_over}
use Rattle.rdx_patterns.specs.Ends.{crossed_for}
use Rattle.rdx_patterns.specs.Nonterminals.{names_of}
use Rattle.rdx_patterns.specs.Readable.{IsReadable}
use Rattle.rdx_relations.specs.Inside.BareForms as bare_stands
use Rattle.rdx_relations.specs.Inside.FormOutlines.{relation_outline}
use Rattle.rdx_parts.specs.FormRefusals.{early_refusal}
use Rattle.rdx_parts.specs.PartsHave.{IsReadableTaken, CanBind, OutlineHas, can_bind, can_read}
use Rattle.rdx_relations.specs.RelationEnds.{expanded_ends}
use Rattle.rdx_relations.specs.RelationForms.{RelationForm}
use Rattle.rdx_relations.specs.RelationReading.{expanded_reading}
use Rattle.rdx_relations.specs.RelationStands.{expanded_stands, shortcuts_stand}
use Rattle.rdx_templates.specs.Scope.{Scope, callable}
use Rattle.rdx_parts.specs.StandChecks.{bad_names}
use Rattle.rdx_parts.specs.StandRefusal.{stands_refusal}
use Rattle.rdx_parts.specs.Stands.{Stand}
use Rattle.rdx_relations.proofs.BareForms.{bare-relation}
use Rattle.rdx_parts.proofs.BareChecks.{bad_names-bare}
use Rattle.rdx_relations.proofs.AskingParts.{AsksWithin, TakenWithin, within-inherited, BindsWithin, binds-within}
use Rattle.rdx_relations.proofs.BoundParts.{can-bind, relation-binds}
use Rattle.rdx_relations.proofs.FormRefusals.{early-names, stands-passed}
use Rattle.rdx_relations.proofs.InheritedParts.{relation_outline-has}
use Rattle.rdx_relations.proofs.PartsOfForms.{RelationHas}
use Rattle.rdx_relations.proofs.ReadableParts.{readable-inherited}
use Rattle.rdx_relations.proofs.RelationAsks.{relation-asks}
use Rattle.rdx_relations.proofs.ValidForms.{relation-good}

-- where the early checks refuse nothing, what patterns bind are names
pub relation-early : (S : Scope) (ns : List (List ℕ)) (r : RelationForm) (ds : List Sexp) (ss : List Stand) → RelationHas IsReadable r
    → ss ≡ bare_stands.relation_stands S r ds → early_refusal ns ss ≡ None → OutlineHas S (can_bind ns) (relation_outline r)
relation-early S ns r ds ss h q e =
    relation-binds S IsReadableTaken (CanBind ns) (can-bind ns) r ds (early-names ns (bare_stands.relation_stands S r ds) (ap (early_refusal ns) (sym q) ∙ e))
    (relation_outline-has IsReadable IsReadableTaken readable-inherited S r h)

-- where no check refuses what stands in it, its patterns are well formed, and it is valid
pub relation-valid : (S : Scope) (L : Language) (r : RelationForm) (ds : List Sexp) (x : List ℕ) → RelationHas IsReadable r
    → stands_refusal S (names_of L) (expanded_stands S (names_of L) r ++ shortcuts_stand [] ds) ≡ None
    → OutlineHas S (can_read S (crossed_for (expanded_ends r) L) (names_of L)) (relation_outline r)
    × (is_valid_over (callable S) (Some (crossed_for (expanded_ends r) L)) (expanded_reading S (names_of L) x r) ≡ true)
relation-valid S L r ds x h e =
    let ns = names_of L in
    let ys = expanded_ends r in
    let ss = expanded_stands S ns r ++ shortcuts_stand [] ds in
    let k = stands-passed S ns ss e in
    let o = relation_outline-has (AsksWithin ys) (TakenWithin ys) (within-inherited ys) S r (relation-asks r h) in
    let b : bad_names (bare_stands.relation_stands S r ds) ≡ [] = ap bad_names (sym (bare-relation S ns r ds)) ∙ bad_names-bare ss ∙ k.names in
    relation-good S L ys r ds x (relation-binds S (TakenWithin ys) (BindsWithin ys ns) (binds-within ys ns) r ds b o) k
