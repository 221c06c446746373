use Rattle.std.proofs.Common.{◌≡◌, ◌++◌, ◌∙◌, ℕ, Bool, false, List, [], Option, Bor, append-nil, sym, ap, if◌then◌else◌}
use Rattle.std.specs.List.{list_all}
use Rattle.std.specs.Prelude.{option_map}
use Rattle.rdx_sexp.specs.declared.datum.Datum.{Datum}
use Rattle.rdx_patterns.specs.Parts.{text_of}
use Rattle.rdx_patterns.specs.Reading.{name_in}
use Rattle.rdx_defs.specs.MetafunctionForms.{clause_form}
use Rattle.rdx_defs.specs.Scopes.{is_clause_of, function_of_all}
use Rattle.rdx_defs.proofs.scopes.add_function.Goals as goal

pub returns-else-are_clauses_of : goal.returns-else-are_clauses_of
returns-else-are_clauses_of c =
    let f = c.in-Some.d.now in
    let ds = c.args.clauses.now in
    let e : list_all (λ d. is_clause_of (text_of f) (clause_form d)) ds ≡ false =
    ap (λ (x : List ℕ). list_all (λ d. is_clause_of x (clause_form d)) ds) (sym c.text.ensures) ∙ sym c.are_clauses_of.ensures ∙ c.if-are_clauses_of.false in
    let g : function_of_all (option_map (λ d. d.now) c.args.function) ds ≡ [] =
    ap (λ (o : Option (Bor Datum)). function_of_all (option_map (λ d. d.now) o) ds) c.in-Some.is ∙ ap (λ (b : Bool). if b then name_in f else []) e in
    sym (ap (λ (xs : List (List ℕ)). c.args.out.now.items ++ xs) g ∙ append-nil c.args.out.now.items)
