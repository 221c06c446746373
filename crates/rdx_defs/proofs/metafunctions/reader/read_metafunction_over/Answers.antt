use Rattle.std.proofs.Common.{◌≡◌, ◌∙◌, ℕ, List, Some, None, true, sym, ap, subst, if◌then◌else◌}
use Rattle.std.specs.Prelude.{option_map}
use Rattle.rdx_lang.specs.Checked.{language_in}
use Rattle.rdx_lang.specs.Patterns.{Language}
use Rattle.rdx_lang.specs.ProgramView.{metafunction_of}
use Rattle.rdx_lang.specs.Programs.{Metafunction}
use Rattle.rdx_lang.specs.Valid.{is_valid_metafunction}
use Rattle.rdx_patterns.specs.Nonterminals.{names_of}
use Rattle.rdx_patterns.specs.Parts.{text_of}
use Rattle.rdx_patterns.specs.Refusal.{refusal_of, unnamed}
use Rattle.rdx_patterns.specs.Readable.{IsReadable}
use Rattle.rdx_defs.specs.Inside.BareForms.{function_stands}
use Rattle.rdx_defs.specs.Inside.FormOutlines.{clause_branches, contract_patterns, metafunction_outline}
use Rattle.rdx_parts.specs.Outlines.{Branch, Outline}
use Rattle.rdx_defs.specs.Inside.BranchReadings.{branch_metafunction}
use Rattle.rdx_defs.specs.Inside.Contracts.{IsContractIn}
use Rattle.rdx_parts.specs.FormRefusals.{form_refusal}
use Rattle.rdx_defs.specs.Inside.FormViews.{metafunction_form_of}
use Rattle.rdx_parts.specs.PartViews.{outline_of, stands_of}
use Rattle.rdx_parts.specs.PartsHave.{AreReadable, BranchesHave, OutlineHas, can_bind, can_read, IsReadableTaken}
use Rattle.rdx_defs.specs.MetafunctionForms.{metafunction_form, function_in}
use Rattle.rdx_defs.specs.MetafunctionReading.{metafunction_reading}
use Rattle.rdx_defs.specs.MetafunctionRefusal.{metafunction_refusal}
use Rattle.rdx_templates.specs.Scope.{scope_of, callable}
use Rattle.rdx_defs.specs.MetafunctionStands as all_stands
use Rattle.rdx_defs.proofs.FormRefusals.{metafunction-refused, function-refused, metafunction-none, metafunction-nameable}
use Rattle.rdx_defs.proofs.PassedForms.{gained, metafunction-early, has-function, metafunction-valid}
use Rattle.rdx_defs.proofs.InheritedParts.{metafunction-has, contract-has}
use Rattle.rdx_relations.proofs.ReadableParts.{readable-inherited, are-readable}
use Rattle.rdx_defs.proofs.metafunctions.reader.read_metafunction_over.Goals as goal

pub function_stands-requires-clause-alone : goal.function_stands-requires-clause-alone
function_stands-requires-clause-alone c =
    let d = c.args.form.now in
    let m = metafunction_form_of c.in-Some.parts in
    let f : metafunction_form d ≡ Some m = sym c.metafunction_form.ensures ∙ ap (option_map metafunction_form_of) c.in-Some.is in
    let k : option_map (λ x. x.now) c.function_in-function.result ≡ function_in m = c.function_in-function.ensures in
    let o : outline_of c.in_ok-outline.outline ≡ metafunction_outline m (function_in m) = c.in_ok-outline.ensures ∙ ap (metafunction_outline m) k in
    subst AreReadable (sym (ap (λ (z : Outline). z.alone) o)) (are-readable (contract_patterns m.contract) (contract-has IsReadable IsReadableTaken readable-inherited m.contract (metafunction-has IsReadable IsReadableTaken readable-inherited d m c.requires.readable f).contract))

pub function_stands-requires-clause-clauses : goal.function_stands-requires-clause-clauses
function_stands-requires-clause-clauses c =
    let d = c.args.form.now in
    let m = metafunction_form_of c.in-Some.parts in
    let f : metafunction_form d ≡ Some m = sym c.metafunction_form.ensures ∙ ap (option_map metafunction_form_of) c.in-Some.is in
    are-readable m.clauses (metafunction-has IsReadable IsReadableTaken readable-inherited d m c.requires.readable f).clauses

pub refuse_parts-requires : goal.refuse_parts-requires
refuse_parts-requires c =
    let S = scope_of c.args.scope.now in
    let d = c.args.form.now in
    let m = metafunction_form_of c.in-Some.parts in
    let f : metafunction_form d ≡ Some m = sym c.metafunction_form.ensures ∙ ap (option_map metafunction_form_of) c.in-Some.is in
    let k : option_map (λ x. x.now) c.function_in-function.result ≡ function_in m = c.function_in-function.ensures in
    let o : outline_of c.in_ok-outline.outline ≡ metafunction_outline m (function_in m) = c.in_ok-outline.ensures ∙ ap (metafunction_outline m) k in
    let q : stands_of c.deref.result.now ≡ function_stands S m (function_in m) =
    ap stands_of c.deref.ensures.value ∙ c.in_ok-found.ensures ∙ ap (function_stands S m) k in
    λ e. subst (λ (z : Outline). OutlineHas S (can_bind c.args.names.now) z) (sym o) (metafunction-early S c.args.names.now d m (stands_of c.deref.result.now) c.requires.readable f q e)

pub returns-in-Some-2-clause-reads : goal.returns-in-Some-2-clause-reads
returns-in-Some-2-clause-reads c =
    let S = scope_of c.args.scope.now in
    let L = language_in c.args.language.now in
    let d = c.args.form.now in
    let m = metafunction_form_of c.in-Some.parts in
    let f : metafunction_form d ≡ Some m = sym c.metafunction_form.ensures ∙ ap (option_map metafunction_form_of) c.in-Some.is in
    let k : option_map (λ x. x.now) c.function_in-function.result ≡ function_in m = c.function_in-function.ensures in
    let o : outline_of c.in_ok-outline.outline ≡ metafunction_outline m (function_in m) = c.in_ok-outline.ensures ∙ ap (metafunction_outline m) k in
    let q : stands_of c.deref.result.now ≡ function_stands S m (function_in m) =
    ap stands_of c.deref.ensures.value ∙ c.in_ok-found.ensures ∙ ap (function_stands S m) k in
    let n : c.args.names.now ≡ names_of L = c.requires.names in
    metafunction-refused S (names_of L) d m f
    ∙ sym (c.in_ok-refusal-2.ensures S (names_of L) (all_stands.function_stands S (names_of L) m (function_in m))
    (c.in_ok-refusal.ensures ∙ (λ i. form_refusal S (n i) (q i) (o i)) ∙ sym (function-refused S (names_of L) m))) ∙ ap (option_map refusal_of) c.in-Some-2.is

pub read_parts-requires-clause-branches : goal.read_parts-requires-clause-branches
read_parts-requires-clause-branches c =
    let S = scope_of c.args.scope.now in
    let L = language_in c.args.language.now in
    let d = c.args.form.now in
    let m = metafunction_form_of c.in-Some.parts in
    let f : metafunction_form d ≡ Some m = sym c.metafunction_form.ensures ∙ ap (option_map metafunction_form_of) c.in-Some.is in
    let k : option_map (λ x. x.now) c.function_in-function.result ≡ function_in m = c.function_in-function.ensures in
    let o : outline_of c.in_ok-outline.outline ≡ metafunction_outline m (function_in m) = c.in_ok-outline.ensures ∙ ap (metafunction_outline m) k in
    let q : stands_of c.deref.result.now ≡ function_stands S m (function_in m) =
    ap stands_of c.deref.ensures.value ∙ c.in_ok-found.ensures ∙ ap (function_stands S m) k in
    let n : c.args.names.now ≡ names_of L = c.requires.names in
    let e : metafunction_refusal S (names_of L) d ≡ None =
    metafunction-refused S (names_of L) d m f
    ∙ sym (c.in_ok-refusal-2.ensures S (names_of L) (all_stands.function_stands S (names_of L) m (function_in m))
    (c.in_ok-refusal.ensures ∙ (λ i. form_refusal S (n i) (q i) (o i)) ∙ sym (function-refused S (names_of L) m))) ∙ ap (option_map refusal_of) c.in_default-2.is in
    let x = c.in-Some-function.name.now in
    let p : function_in m ≡ Some x = sym k ∙ ap (option_map (λ y. y.now)) c.in-Some-function.is in
    let v = metafunction-valid S L d m x c.requires.readable f p (metafunction-none S (names_of L) d m f e).1 in
    let b : (outline_of c.in_ok-outline.outline).branches ≡ clause_branches (text_of x) m.clauses = ap (λ (z : Outline). z.branches) (o ∙ ap (metafunction_outline m) p) in
    let w : language_in c.add_asked.new.language ≡ gained L d = c.in_ok-add_asked.ensures.added in
    subst (λ (xs : List (List ℕ)). BranchesHave S (can_read S (language_in c.add_asked.new.language) xs) (outline_of c.in_ok-outline.outline).branches) (sym n)
    (subst (λ (bs : List Branch). BranchesHave S (can_read S (language_in c.add_asked.new.language) (names_of L)) bs) (sym b)
    (subst (λ (M : Language). BranchesHave S (can_read S M (names_of L)) (clause_branches (text_of x) m.clauses)) (sym w) v.good.branches))

pub read_parts-requires-clause-contract : goal.read_parts-requires-clause-contract
read_parts-requires-clause-contract c =
    let S = scope_of c.args.scope.now in
    let L = language_in c.args.language.now in
    let d = c.args.form.now in
    let m = metafunction_form_of c.in-Some.parts in
    let f : metafunction_form d ≡ Some m = sym c.metafunction_form.ensures ∙ ap (option_map metafunction_form_of) c.in-Some.is in
    let k : option_map (λ x. x.now) c.function_in-function.result ≡ function_in m = c.function_in-function.ensures in
    let o : outline_of c.in_ok-outline.outline ≡ metafunction_outline m (function_in m) = c.in_ok-outline.ensures ∙ ap (metafunction_outline m) k in
    let q : stands_of c.deref.result.now ≡ function_stands S m (function_in m) =
    ap stands_of c.deref.ensures.value ∙ c.in_ok-found.ensures ∙ ap (function_stands S m) k in
    let n : c.args.names.now ≡ names_of L = c.requires.names in
    let e : metafunction_refusal S (names_of L) d ≡ None =
    metafunction-refused S (names_of L) d m f
    ∙ sym (c.in_ok-refusal-2.ensures S (names_of L) (all_stands.function_stands S (names_of L) m (function_in m))
    (c.in_ok-refusal.ensures ∙ (λ i. form_refusal S (n i) (q i) (o i)) ∙ sym (function-refused S (names_of L) m))) ∙ ap (option_map refusal_of) c.in_default-2.is in
    let x = c.in-Some-function.name.now in
    let p : function_in m ≡ Some x = sym k ∙ ap (option_map (λ y. y.now)) c.in-Some-function.is in
    let v = metafunction-valid S L d m x c.requires.readable f p (metafunction-none S (names_of L) d m f e).1 in
    let w : language_in c.add_asked.new.language ≡ gained L d = c.in_ok-add_asked.ensures.added in
    subst (λ (xs : List (List ℕ)). IsContractIn (language_in c.add_asked.new.language) xs m.contract) (sym n)
    (subst (λ (M : Language). IsContractIn M (names_of L) m.contract) (sym w) v.good.contract)

pub read_parts-requires-clause-language : goal.read_parts-requires-clause-language
read_parts-requires-clause-language c =
    let S = scope_of c.args.scope.now in
    let L = language_in c.args.language.now in
    let d = c.args.form.now in
    let m = metafunction_form_of c.in-Some.parts in
    let f : metafunction_form d ≡ Some m = sym c.metafunction_form.ensures ∙ ap (option_map metafunction_form_of) c.in-Some.is in
    let k : option_map (λ x. x.now) c.function_in-function.result ≡ function_in m = c.function_in-function.ensures in
    let o : outline_of c.in_ok-outline.outline ≡ metafunction_outline m (function_in m) = c.in_ok-outline.ensures ∙ ap (metafunction_outline m) k in
    let q : stands_of c.deref.result.now ≡ function_stands S m (function_in m) =
    ap stands_of c.deref.ensures.value ∙ c.in_ok-found.ensures ∙ ap (function_stands S m) k in
    let n : c.args.names.now ≡ names_of L = c.requires.names in
    let e : metafunction_refusal S (names_of L) d ≡ None =
    metafunction-refused S (names_of L) d m f
    ∙ sym (c.in_ok-refusal-2.ensures S (names_of L) (all_stands.function_stands S (names_of L) m (function_in m))
    (c.in_ok-refusal.ensures ∙ (λ i. form_refusal S (n i) (q i) (o i)) ∙ sym (function-refused S (names_of L) m))) ∙ ap (option_map refusal_of) c.in_default-2.is in
    (metafunction-has IsReadable IsReadableTaken readable-inherited d m c.requires.readable f).language (metafunction-nameable S (names_of L) d m f e)

pub read_parts-requires-clause-name : goal.read_parts-requires-clause-name
read_parts-requires-clause-name c =
    let S = scope_of c.args.scope.now in
    let L = language_in c.args.language.now in
    let d = c.args.form.now in
    let m = metafunction_form_of c.in-Some.parts in
    let f : metafunction_form d ≡ Some m = sym c.metafunction_form.ensures ∙ ap (option_map metafunction_form_of) c.in-Some.is in
    let k : option_map (λ x. x.now) c.function_in-function.result ≡ function_in m = c.function_in-function.ensures in
    let o : outline_of c.in_ok-outline.outline ≡ metafunction_outline m (function_in m) = c.in_ok-outline.ensures ∙ ap (metafunction_outline m) k in
    let q : stands_of c.deref.result.now ≡ function_stands S m (function_in m) =
    ap stands_of c.deref.ensures.value ∙ c.in_ok-found.ensures ∙ ap (function_stands S m) k in
    let n : c.args.names.now ≡ names_of L = c.requires.names in
    let e : metafunction_refusal S (names_of L) d ≡ None =
    metafunction-refused S (names_of L) d m f
    ∙ sym (c.in_ok-refusal-2.ensures S (names_of L) (all_stands.function_stands S (names_of L) m (function_in m))
    (c.in_ok-refusal.ensures ∙ (λ i. form_refusal S (n i) (q i) (o i)) ∙ sym (function-refused S (names_of L) m))) ∙ ap (option_map refusal_of) c.in_default-2.is in
    let x = c.in-Some-function.name.now in
    let p : function_in m ≡ Some x = sym k ∙ ap (option_map (λ y. y.now)) c.in-Some-function.is in
    let v = metafunction-valid S L d m x c.requires.readable f p (metafunction-none S (names_of L) d m f e).1 in
    v.named

pub unreachable-requires : goal.unreachable-requires
unreachable-requires c =
    let S = scope_of c.args.scope.now in
    let L = language_in c.args.language.now in
    let d = c.args.form.now in
    let m = metafunction_form_of c.in-Some.parts in
    let f : metafunction_form d ≡ Some m = sym c.metafunction_form.ensures ∙ ap (option_map metafunction_form_of) c.in-Some.is in
    let k : option_map (λ x. x.now) c.function_in-function.result ≡ function_in m = c.function_in-function.ensures in
    let o : outline_of c.in_ok-outline.outline ≡ metafunction_outline m (function_in m) = c.in_ok-outline.ensures ∙ ap (metafunction_outline m) k in
    let q : stands_of c.deref.result.now ≡ function_stands S m (function_in m) =
    ap stands_of c.deref.ensures.value ∙ c.in_ok-found.ensures ∙ ap (function_stands S m) k in
    let n : c.args.names.now ≡ names_of L = c.requires.names in
    let e : metafunction_refusal S (names_of L) d ≡ None =
    metafunction-refused S (names_of L) d m f
    ∙ sym (c.in_ok-refusal-2.ensures S (names_of L) (all_stands.function_stands S (names_of L) m (function_in m))
    (c.in_ok-refusal.ensures ∙ (λ i. form_refusal S (n i) (q i) (o i)) ∙ sym (function-refused S (names_of L) m))) ∙ ap (option_map refusal_of) c.in_default-2.is in
    has-function S (names_of L) d m c.requires.readable f (metafunction-none S (names_of L) d m f e).1 (sym k ∙ ap (option_map (λ y. y.now)) c.in_default-function.is)

pub returns-clause-reads : goal.returns-clause-reads
returns-clause-reads c =
    let S = scope_of c.args.scope.now in
    let L = language_in c.args.language.now in
    let d = c.args.form.now in
    let m = metafunction_form_of c.in-Some.parts in
    let f : metafunction_form d ≡ Some m = sym c.metafunction_form.ensures ∙ ap (option_map metafunction_form_of) c.in-Some.is in
    let k : option_map (λ x. x.now) c.function_in-function.result ≡ function_in m = c.function_in-function.ensures in
    let o : outline_of c.in_ok-outline.outline ≡ metafunction_outline m (function_in m) = c.in_ok-outline.ensures ∙ ap (metafunction_outline m) k in
    let q : stands_of c.deref.result.now ≡ function_stands S m (function_in m) =
    ap stands_of c.deref.ensures.value ∙ c.in_ok-found.ensures ∙ ap (function_stands S m) k in
    let n : c.args.names.now ≡ names_of L = c.requires.names in
    let e : metafunction_refusal S (names_of L) d ≡ None =
    metafunction-refused S (names_of L) d m f
    ∙ sym (c.in_ok-refusal-2.ensures S (names_of L) (all_stands.function_stands S (names_of L) m (function_in m))
    (c.in_ok-refusal.ensures ∙ (λ i. form_refusal S (n i) (q i) (o i)) ∙ sym (function-refused S (names_of L) m))) ∙ ap (option_map refusal_of) c.in_default-2.is in
    let x = c.in-Some-function.name.now in
    let p : function_in m ≡ Some x = sym k ∙ ap (option_map (λ y. y.now)) c.in-Some-function.is in
    let v = metafunction-valid S L d m x c.requires.readable f p (metafunction-none S (names_of L) d m f e).1 in
    let b : (outline_of c.in_ok-outline.outline).branches ≡ clause_branches (text_of x) m.clauses = ap (λ (z : Outline). z.branches) (o ∙ ap (metafunction_outline m) p) in
    let g : metafunction_of c.in_ok-read_parts.field-0 ≡ metafunction_reading S (names_of L) m =
    c.in_ok-read_parts.ensures ∙ (λ i. branch_metafunction S (n i) m x (b i)) ∙ v.reading in
    record { passes = e; parts = m; is_form = f; is_read = g }

pub returns-clause-valid : goal.returns-clause-valid
returns-clause-valid c =
    let S = scope_of c.args.scope.now in
    let L = language_in c.args.language.now in
    let d = c.args.form.now in
    let m = metafunction_form_of c.in-Some.parts in
    let f : metafunction_form d ≡ Some m = sym c.metafunction_form.ensures ∙ ap (option_map metafunction_form_of) c.in-Some.is in
    let k : option_map (λ x. x.now) c.function_in-function.result ≡ function_in m = c.function_in-function.ensures in
    let o : outline_of c.in_ok-outline.outline ≡ metafunction_outline m (function_in m) = c.in_ok-outline.ensures ∙ ap (metafunction_outline m) k in
    let q : stands_of c.deref.result.now ≡ function_stands S m (function_in m) =
    ap stands_of c.deref.ensures.value ∙ c.in_ok-found.ensures ∙ ap (function_stands S m) k in
    let n : c.args.names.now ≡ names_of L = c.requires.names in
    let e : metafunction_refusal S (names_of L) d ≡ None =
    metafunction-refused S (names_of L) d m f
    ∙ sym (c.in_ok-refusal-2.ensures S (names_of L) (all_stands.function_stands S (names_of L) m (function_in m))
    (c.in_ok-refusal.ensures ∙ (λ i. form_refusal S (n i) (q i) (o i)) ∙ sym (function-refused S (names_of L) m))) ∙ ap (option_map refusal_of) c.in_default-2.is in
    let x = c.in-Some-function.name.now in
    let p : function_in m ≡ Some x = sym k ∙ ap (option_map (λ y. y.now)) c.in-Some-function.is in
    let v = metafunction-valid S L d m x c.requires.readable f p (metafunction-none S (names_of L) d m f e).1 in
    let b : (outline_of c.in_ok-outline.outline).branches ≡ clause_branches (text_of x) m.clauses = ap (λ (z : Outline). z.branches) (o ∙ ap (metafunction_outline m) p) in
    let g : metafunction_of c.in_ok-read_parts.field-0 ≡ metafunction_reading S (names_of L) m =
    c.in_ok-read_parts.ensures ∙ (λ i. branch_metafunction S (n i) m x (b i)) ∙ v.reading in
    let w : language_in c.add_asked.new.language ≡ gained L d = c.in_ok-add_asked.ensures.added in
    subst (λ (F : Metafunction). is_valid_metafunction (callable S) (Some (language_in c.add_asked.new.language)) F ≡ true) (sym g)
    (subst (λ (M : Language). is_valid_metafunction (callable S) (Some M) (metafunction_reading S (names_of L) m) ≡ true) (sym w) v.valid)
