-- The parts of a relation without shorthand ask for no cross nonterminals but those for which it does.
use Rattle.std.proofs.Common.{ℕ, List, [], ◌∷◌, Option, Some, None}
use Rattle.std.specs.Prelude.{flat_map}
use Rattle.rdx_sexp.specs.Sexp.{Sexp}
use Rattle.rdx_lang.proofs.MemberLaws.{append-left, append-right}
use Rattle.rdx_patterns.specs.Ends.{ends_in}
use Rattle.rdx_patterns.specs.Among.{AreAmong}
use Rattle.rdx_patterns.specs.Readable.{IsReadable}
use Rattle.rdx_relations.specs.Inside.FormOutlines.{domain_patterns}
use Rattle.rdx_relations.specs.RelationEnds.{domain_ends, expanded_ends}
use Rattle.rdx_relations.specs.RelationForms.{RelationForm}
use Rattle.rdx_relations.proofs.AskingParts.{AsksWithin}
use Rattle.rdx_relations.proofs.PartsOfForms.{Each, RelationHas}

-- several data
each-asks : (ds : List Sexp) (es : List (List ℕ)) → Each IsReadable ds → AreAmong (flat_map ends_in ds) es → Each (AsksWithin es) ds
each-asks [] es h k = tt
each-asks (d ∷ ds) es h k = (
  record { readable = h.0; ends = λ y i. k y (append-left (ends_in d) (flat_map ends_in ds) y i) },
  each-asks ds es h.1 (λ y i. k y (append-right (ends_in d) (flat_map ends_in ds) y i)),
)

-- a domain
domain-asks : (o : Option Sexp) (es : List (List ℕ)) → Each IsReadable (domain_patterns o) → AreAmong (domain_ends o) es → Each (AsksWithin es) (domain_patterns o)
domain-asks None es h k = tt
domain-asks (Some p) es h k = (record { readable = h.0; ends = k }, tt)

-- all of them
pub relation-asks : (r : RelationForm) → RelationHas IsReadable r → RelationHas (AsksWithin (expanded_ends r)) r
relation-asks r h = record {
  domain = domain-asks r.domain (expanded_ends r) h.domain (λ y i. append-left (domain_ends r.domain) (flat_map ends_in r.cases) y i);
  cases = each-asks r.cases (expanded_ends r) h.cases (λ y i. append-right (domain_ends r.domain) (flat_map ends_in r.cases) y i);
  language = h.language;
}
