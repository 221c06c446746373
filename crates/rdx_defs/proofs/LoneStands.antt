-- Patterns that stand by themselves.
use Rattle.std.proofs.Common.{◌≡◌, ◌++◌, ◌∙◌, Bool, true, false, [], List, ◌∷◌, map, refl, sym, ap, if◌then◌else◌}
use Rattle.std.proofs.lemmas.List.{map-append}
use Rattle.std.specs.Prelude.{Option, Some, None}
use Rattle.rdx_sexp.specs.Sexp.{Sexp, Sexps, sexps, nil, cons}
use Rattle.rdx_patterns.specs.Heads.{Roles, patterns as items_of_list, next, rest}
use Rattle.rdx_patterns.specs.Occurrences.{occurrences}
use Rattle.rdx_patterns.specs.Reading.{is_pattern}
use Rattle.rdx_parts.specs.BareStands.{lone_pattern}
use Rattle.rdx_defs.specs.Inside.FormOutlines.{pattern_when, patterns_among, contract_patterns}
use Rattle.rdx_defs.specs.MetafunctionForms.{ContractForm}
use Rattle.rdx_defs.specs.MetafunctionStands.{patterns_stand, contract_stands}
use Rattle.rdx_parts.specs.Stands.{Stand, pattern}

-- a datum that may be a pattern, before others
lone-first : (b : Bool) (d : Sexp) (ss : List Stand) (ps : List Sexp) → ss ≡ map lone_pattern ps
    → (if b then pattern [] (occurrences 0 d) ∷ [] else []) ++ ss ≡ map lone_pattern (pattern_when b d ++ ps)
lone-first true d ss ps h = ap (λ (rs : List Stand). pattern [] (occurrences 0 d) ∷ rs) h
lone-first false d ss ps h = h

-- the patterns among items
patterns-lone : (rs : Roles) (ds : Sexps) → patterns_stand rs ds ≡ map lone_pattern (patterns_among rs ds)
patterns-lone rs nil = refl
patterns-lone rs (cons d ds) =
    lone-first (is_pattern (next rs d)) d (patterns_stand (rest rs d) ds) (patterns_among (rest rs d) ds) (patterns-lone (rest rs d) ds)

-- those of a contract
pub contract-lone : (o : Option ContractForm) → contract_stands o ≡ map lone_pattern (contract_patterns o)
contract-lone None = refl
contract-lone (Some c) =
    ap (λ (ss : List Stand). ss ++ lone_pattern c.value ∷ []) (patterns-lone items_of_list (sexps c.arguments))
    ∙ sym (map-append lone_pattern (patterns_among items_of_list (sexps c.arguments)) (c.value ∷ []))
