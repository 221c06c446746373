use Rattle.std.proofs.Common.{◌≡◌, ◌∙◌, ℕ, List, Some, None, true, IsTrue, sym, ap, subst}
use Rattle.std.specs.Prelude.{Option, option_map}
use Rattle.rdx_sexp.specs.Sexp.{Sexp}
use Rattle.rdx_term.specs.Spelling.{is_name}
use Rattle.rdx_lang.specs.Checked.{language_in}
use Rattle.rdx_lang.specs.Patterns.{Language}
use Rattle.rdx_lang.specs.ProgramView.{judgement_of}
use Rattle.rdx_lang.specs.Programs.{Judgement}
use Rattle.rdx_lang.specs.Valid.{is_valid_judgement}
use Rattle.rdx_patterns.specs.Nonterminals.{names_of}
use Rattle.rdx_patterns.specs.Refusal.{refusal_of}
use Rattle.rdx_patterns.specs.Readable.{IsReadable}
use Rattle.rdx_defs.specs.Inside.FormOutlines.{judgement_outline}
use Rattle.rdx_defs.specs.Inside.Contracts.{IsJudgementContractIn}
use Rattle.rdx_defs.specs.Inside.FormViews.{judgement_form_of}
use Rattle.rdx_parts.specs.PartsHave.{RulesHave, can_read, IsReadableTaken}
use Rattle.rdx_defs.specs.JudgementForms.{judgement_form, judgement_in, contract_form, own_mode}
use Rattle.rdx_defs.specs.JudgementReading.{judgement_reading}
use Rattle.rdx_defs.specs.JudgementRefusal.{judgement_refusal}
use Rattle.rdx_defs.specs.MetafunctionReading.{text_in}
use Rattle.rdx_templates.specs.Scope.{scope_of, callable}
use Rattle.rdx_defs.proofs.FormRefusals.{judgement-none, judgement-nameable}
use Rattle.rdx_defs.proofs.PassedForms.{gained, judgement-valid}
use Rattle.rdx_defs.proofs.ReadJudgements.{no-name, no-mode}
use Rattle.rdx_defs.proofs.InheritedParts.{judgement-has}
use Rattle.rdx_relations.proofs.ReadableParts.{readable-inherited}
use Rattle.rdx_defs.proofs.judgements.reader.read_judgement_over.Goals as goal

pub returns-in-Some-2-clause-reads : goal.returns-in-Some-2-clause-reads
returns-in-Some-2-clause-reads c =
    let S = scope_of c.args.scope.now in
    let L = language_in c.args.language.now in
    let d = c.args.form.now in
    let n : c.args.names.now ≡ names_of L = c.requires.names in
    (λ i. judgement_refusal S (sym n i) d) ∙ sym c.in_ok-refusal.ensures ∙ ap (option_map refusal_of) c.in-Some-2.is

pub unreachable-requires : goal.unreachable-requires
unreachable-requires c =
    let S = scope_of c.args.scope.now in
    let L = language_in c.args.language.now in
    let d = c.args.form.now in
    let f = judgement_form_of c.in-Some.parts in
    let g : judgement_form d ≡ Some f = sym c.judgement_form.ensures ∙ ap (option_map judgement_form_of) c.in-Some.is in
    let n : c.args.names.now ≡ names_of L = c.requires.names in
    let e : judgement_refusal S (names_of L) d ≡ None =
    (λ i. judgement_refusal S (sym n i) d) ∙ sym c.in_ok-refusal.ensures ∙ ap (option_map refusal_of) c.in_default-2.is in
    let v = judgement-valid S L d f c.requires.readable g (judgement-none S (names_of L) d f g e).1 in
    no-name f v.moded (sym c.judgement_in.ensures ∙ ap (option_map (λ x. x.now)) c.in_default-judgement_in.is)

pub unreachable-requires-in_default-mode : goal.unreachable-requires-in_default-mode
unreachable-requires-in_default-mode c =
    let S = scope_of c.args.scope.now in
    let L = language_in c.args.language.now in
    let d = c.args.form.now in
    let f = judgement_form_of c.in-Some.parts in
    let g : judgement_form d ≡ Some f = sym c.judgement_form.ensures ∙ ap (option_map judgement_form_of) c.in-Some.is in
    let n : c.args.names.now ≡ names_of L = c.requires.names in
    let e : judgement_refusal S (names_of L) d ≡ None =
    (λ i. judgement_refusal S (sym n i) d) ∙ sym c.in_ok-refusal.ensures ∙ ap (option_map refusal_of) c.in_default-2.is in
    let v = judgement-valid S L d f c.requires.readable g (judgement-none S (names_of L) d f g e).1 in
    no-mode (own_mode f) v.moded (sym c.in_ok-mode.ensures ∙ ap (option_map (λ x. x.items)) c.in_default-mode.is)

pub read_parts-requires-clause-rules : goal.read_parts-requires-clause-rules
read_parts-requires-clause-rules c =
    let S = scope_of c.args.scope.now in
    let L = language_in c.args.language.now in
    let d = c.args.form.now in
    let f = judgement_form_of c.in-Some.parts in
    let g : judgement_form d ≡ Some f = sym c.judgement_form.ensures ∙ ap (option_map judgement_form_of) c.in-Some.is in
    let n : c.args.names.now ≡ names_of L = c.requires.names in
    let e : judgement_refusal S (names_of L) d ≡ None =
    (λ i. judgement_refusal S (sym n i) d) ∙ sym c.in_ok-refusal.ensures ∙ ap (option_map refusal_of) c.in_default-2.is in
    let v = judgement-valid S L d f c.requires.readable g (judgement-none S (names_of L) d f g e).1 in
    let w : language_in c.add_asked.new.language ≡ gained L d = c.in_ok-add_asked.ensures.added in
    subst (λ (xs : List (List ℕ)). RulesHave S (can_read S (language_in c.add_asked.new.language) xs) (judgement_outline f).rules) (sym n)
    (subst (λ (M : Language). RulesHave S (can_read S M (names_of L)) (judgement_outline f).rules) (sym w) v.parts.rules)

pub read_parts-requires-clause-contract : goal.read_parts-requires-clause-contract
read_parts-requires-clause-contract c =
    let S = scope_of c.args.scope.now in
    let L = language_in c.args.language.now in
    let d = c.args.form.now in
    let f = judgement_form_of c.in-Some.parts in
    let g : judgement_form d ≡ Some f = sym c.judgement_form.ensures ∙ ap (option_map judgement_form_of) c.in-Some.is in
    let n : c.args.names.now ≡ names_of L = c.requires.names in
    let e : judgement_refusal S (names_of L) d ≡ None =
    (λ i. judgement_refusal S (sym n i) d) ∙ sym c.in_ok-refusal.ensures ∙ ap (option_map refusal_of) c.in_default-2.is in
    let v = judgement-valid S L d f c.requires.readable g (judgement-none S (names_of L) d f g e).1 in
    let w : language_in c.add_asked.new.language ≡ gained L d = c.in_ok-add_asked.ensures.added in
    subst (λ (xs : List (List ℕ)). IsJudgementContractIn (language_in c.add_asked.new.language) xs (own_mode f) (contract_form f)) (sym n)
    (subst (λ (M : Language). IsJudgementContractIn M (names_of L) (own_mode f) (contract_form f)) (sym w) v.contract)

pub read_parts-requires-clause-language : goal.read_parts-requires-clause-language
read_parts-requires-clause-language c =
    let S = scope_of c.args.scope.now in
    let L = language_in c.args.language.now in
    let d = c.args.form.now in
    let f = judgement_form_of c.in-Some.parts in
    let g : judgement_form d ≡ Some f = sym c.judgement_form.ensures ∙ ap (option_map judgement_form_of) c.in-Some.is in
    let n : c.args.names.now ≡ names_of L = c.requires.names in
    let e : judgement_refusal S (names_of L) d ≡ None =
    (λ i. judgement_refusal S (sym n i) d) ∙ sym c.in_ok-refusal.ensures ∙ ap (option_map refusal_of) c.in_default-2.is in
    (judgement-has IsReadable IsReadableTaken readable-inherited d f c.requires.readable g).language (judgement-nameable S (names_of L) d f g e)

pub read_parts-requires-clause-name : goal.read_parts-requires-clause-name
read_parts-requires-clause-name c =
    let S = scope_of c.args.scope.now in
    let L = language_in c.args.language.now in
    let d = c.args.form.now in
    let f = judgement_form_of c.in-Some.parts in
    let g : judgement_form d ≡ Some f = sym c.judgement_form.ensures ∙ ap (option_map judgement_form_of) c.in-Some.is in
    let n : c.args.names.now ≡ names_of L = c.requires.names in
    let e : judgement_refusal S (names_of L) d ≡ None =
    (λ i. judgement_refusal S (sym n i) d) ∙ sym c.in_ok-refusal.ensures ∙ ap (option_map refusal_of) c.in_default-2.is in
    let v = judgement-valid S L d f c.requires.readable g (judgement-none S (names_of L) d f g e).1 in
    let x = c.in-Some-judgement_in.name.now in
    let j : judgement_in f ≡ Some x = sym c.judgement_in.ensures ∙ ap (option_map (λ y. y.now)) c.in-Some-judgement_in.is in
    subst (λ (o : Option Sexp). IsTrue (is_name (text_in o))) j v.named

pub returns-clause-reads : goal.returns-clause-reads
returns-clause-reads c =
    let S = scope_of c.args.scope.now in
    let L = language_in c.args.language.now in
    let d = c.args.form.now in
    let f = judgement_form_of c.in-Some.parts in
    let g : judgement_form d ≡ Some f = sym c.judgement_form.ensures ∙ ap (option_map judgement_form_of) c.in-Some.is in
    let n : c.args.names.now ≡ names_of L = c.requires.names in
    let e : judgement_refusal S (names_of L) d ≡ None =
    (λ i. judgement_refusal S (sym n i) d) ∙ sym c.in_ok-refusal.ensures ∙ ap (option_map refusal_of) c.in_default-2.is in
    let v = judgement-valid S L d f c.requires.readable g (judgement-none S (names_of L) d f g e).1 in
    let r : judgement_of c.in_ok-read_parts.field-0 ≡ judgement_reading S (names_of L) f =
    c.in_ok-read_parts.ensures ∙ (λ i. judgement_reading S (n i) f) in
    record { passes = e; parts = f; is_form = g; is_read = r }

pub returns-clause-valid : goal.returns-clause-valid
returns-clause-valid c =
    let S = scope_of c.args.scope.now in
    let L = language_in c.args.language.now in
    let d = c.args.form.now in
    let f = judgement_form_of c.in-Some.parts in
    let g : judgement_form d ≡ Some f = sym c.judgement_form.ensures ∙ ap (option_map judgement_form_of) c.in-Some.is in
    let n : c.args.names.now ≡ names_of L = c.requires.names in
    let e : judgement_refusal S (names_of L) d ≡ None =
    (λ i. judgement_refusal S (sym n i) d) ∙ sym c.in_ok-refusal.ensures ∙ ap (option_map refusal_of) c.in_default-2.is in
    let v = judgement-valid S L d f c.requires.readable g (judgement-none S (names_of L) d f g e).1 in
    let r : judgement_of c.in_ok-read_parts.field-0 ≡ judgement_reading S (names_of L) f =
    c.in_ok-read_parts.ensures ∙ (λ i. judgement_reading S (n i) f) in
    let w : language_in c.add_asked.new.language ≡ gained L d = c.in_ok-add_asked.ensures.added in
    subst (λ (J : Judgement). is_valid_judgement (callable S) (Some (language_in c.add_asked.new.language)) J ≡ true) (sym r)
    (subst (λ (M : Language). is_valid_judgement (callable S) (Some M) (judgement_reading S (names_of L) f) ≡ true) (sym w) v.valid)
