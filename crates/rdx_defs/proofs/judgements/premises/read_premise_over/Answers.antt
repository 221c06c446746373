use Rattle.std.proofs.Common.{◌≡◌, ◌∙◌, ℕ, true, List, [], Option, Some, None, IfSome, refl, sym, ap, subst}
use Rattle.std.specs.Prelude.{IsSome, option_map}
use Rattle.rdx_sexp.specs.Sexp.{Sexp}
use Rattle.rdx_lang.specs.Depths.{uses}
use Rattle.rdx_lang.specs.Fitting.{fits}
use Rattle.rdx_lang.specs.Programs.{Premise, holds}
use Rattle.rdx_lang.specs.Scopes.{bound_by}
use Rattle.rdx_lang.specs.Templates as model
use Rattle.rdx_lang.specs.TemplateView.{template_of}
use Rattle.rdx_lang.specs.Valid.{is_valid_extra}
use Rattle.rdx_lang.specs.declared.template.Template.{Template}
use Rattle.rdx_lang.specs.Checked.{language_in}
use Rattle.rdx_lang.specs.Patterns.{Language}
use Rattle.rdx_lang.specs.ProgramView.{premise_of}
use Rattle.rdx_patterns.specs.Nonterminals.{names_of}
use Rattle.rdx_patterns.specs.Refusal.{refusal_of}
use Rattle.rdx_templates.specs.Bound.{Bound}
use Rattle.rdx_parts.specs.ExtraReading.{premise_reading}
use Rattle.rdx_parts.specs.Headed.{Headed, headed}
use Rattle.rdx_parts.specs.ByNames.{premise_names}
use Rattle.rdx_parts.specs.PartsHave.{PremiseHas, can_read}
use Rattle.rdx_defs.specs.JudgementRefusal.{premise_refusal}
use Rattle.rdx_templates.specs.Scope.{scope_of, callable, has_metafunction}
use Rattle.rdx_templates.specs.TemplateReading.{template_reading}
use Rattle.rdx_parts.specs.Stands.{names_bound, bound_by_premise}
use Rattle.rdx_parts.proofs.NamesBound as names
use Rattle.rdx_defs.proofs.PassedForms.{gained, question-valid}
use Rattle.rdx_defs.proofs.ReadJudgements.{readable-behind, read-some}
use Rattle.rdx_defs.proofs.judgements.premises.read_premise_over.Goals as goal

pub returns-in-Some-clause-reads : goal.returns-in-Some-clause-reads
returns-in-Some-clause-reads c =
    let S = scope_of c.args.scope.now in
    let L = language_in c.args.language.now in
    let d = c.args.premise.now in
    let t = option_map (λ x. x.now) c.args.behind in
    let n : c.args.names.now ≡ names_of L = c.requires.names in
    (λ i. premise_refusal S (sym n i) d t) ∙ sym c.in_ok-refusal.ensures ∙ ap (option_map refusal_of) c.in-Some.is

pub read_parts-requires-clause-premise : goal.read_parts-requires-clause-premise
read_parts-requires-clause-premise c =
    let S = scope_of c.args.scope.now in
    let L = language_in c.args.language.now in
    let d = c.args.premise.now in
    let t = option_map (λ x. x.now) c.args.behind in
    let n : c.args.names.now ≡ names_of L = c.requires.names in
    let e : premise_refusal S (names_of L) d t ≡ None =
    (λ i. premise_refusal S (sym n i) d t) ∙ sym c.in_ok-refusal.ensures ∙ ap (option_map refusal_of) c.in_default.is in
    let v = question-valid S L d t c.requires.premise (readable-behind c.args.behind c.requires.behind) e in
    let w : language_in c.add_asked.new.language ≡ gained L d = c.in_ok-add_asked.ensures.added in
    subst (λ (xs : List (List ℕ)). PremiseHas S (can_read S (language_in c.add_asked.new.language) xs) (headed d)) (sym n)
    (subst (λ (M : Language). PremiseHas S (can_read S M (names_of L)) (headed d)) (sym w) v.parts.questions.0.premise)

pub read_parts-requires-clause-form : goal.read_parts-requires-clause-form
read_parts-requires-clause-form c =
    let S = scope_of c.args.scope.now in
    let L = language_in c.args.language.now in
    let d = c.args.premise.now in
    let t = option_map (λ x. x.now) c.args.behind in
    let n : c.args.names.now ≡ names_of L = c.requires.names in
    let e : premise_refusal S (names_of L) d t ≡ None =
    (λ i. premise_refusal S (sym n i) d t) ∙ sym c.in_ok-refusal.ensures ∙ ap (option_map refusal_of) c.in_default.is in
    let v = question-valid S L d t c.requires.premise (readable-behind c.args.behind c.requires.behind) e in
    subst (λ (o : Option Headed). IsSome o) (sym v.is_form) refl

pub returns-clause-reads : goal.returns-clause-reads
returns-clause-reads c =
    let S = scope_of c.args.scope.now in
    let L = language_in c.args.language.now in
    let d = c.args.premise.now in
    let t = option_map (λ x. x.now) c.args.behind in
    let n : c.args.names.now ≡ names_of L = c.requires.names in
    let e : premise_refusal S (names_of L) d t ≡ None =
    (λ i. premise_refusal S (sym n i) d t) ∙ sym c.in_ok-refusal.ensures ∙ ap (option_map refusal_of) c.in_default.is in
    let v = question-valid S L d t c.requires.premise (readable-behind c.args.behind c.requires.behind) e in
    let r : option_map premise_of (Some c.in_ok-read_parts.field-0.premise) ≡ option_map (premise_reading S (names_of L) []) (headed d) =
    c.in_ok-read_parts.ensures.premise ∙ (λ i. option_map (premise_reading S (n i) []) (headed d)) in
    let bound : premise_names S c.args.names.now (headed d) ≡ names_bound (bound_by_premise S (names_of L) (headed d)) =
    ap (λ (xs : List (List ℕ)). premise_names S xs (headed d)) n ∙ names.premise-names S (names_of L) (headed d) in
    record {
      passes = e;
      parts = v.form;
      is_form = v.is_form;
      is_read = read-some (premise_reading S (names_of L) []) (headed d) v.form c.in_ok-read_parts.field-0.premise v.is_form r;
      result = c.in_ok-read_parts.ensures.result ∙ ap (λ (es : Bound). option_map (template_reading S es) t) bound;
    }

-- what a template has that stands for the datum behind, where there is one
behind : (P : model.Template → Type 0) (o : Option Template) (t : Option Sexp) (f : Sexp → model.Template) → option_map template_of o ≡ option_map f t
    → ((x : Sexp) → t ≡ Some x → P (f x)) → IfSome o (λ u. P (template_of u))
behind P None t f e h = tt
behind P (Some u) None f e h = absurd cc
behind P (Some u) (Some x) f e h = let g : template_of u ≡ f x = cc in subst P (sym g) (h x refl)

pub returns-clause-valid : goal.returns-clause-valid
returns-clause-valid c =
    let S = scope_of c.args.scope.now in
    let L = language_in c.args.language.now in
    let d = c.args.premise.now in
    let t = option_map (λ x. x.now) c.args.behind in
    let n : c.args.names.now ≡ names_of L = c.requires.names in
    let e : premise_refusal S (names_of L) d t ≡ None =
    (λ i. premise_refusal S (sym n i) d t) ∙ sym c.in_ok-refusal.ensures ∙ ap (option_map refusal_of) c.in_default.is in
    let v = question-valid S L d t c.requires.premise (readable-behind c.args.behind c.requires.behind) e in
    let r : option_map premise_of (Some c.in_ok-read_parts.field-0.premise) ≡ option_map (premise_reading S (names_of L) []) (headed d) =
    c.in_ok-read_parts.ensures.premise ∙ (λ i. option_map (premise_reading S (n i) []) (headed d)) in
    let q : premise_of c.in_ok-read_parts.field-0.premise ≡ premise_reading S (names_of L) [] v.form =
    read-some (premise_reading S (names_of L) []) (headed d) v.form c.in_ok-read_parts.field-0.premise v.is_form r in
    let w : language_in c.add_asked.new.language ≡ gained L d = c.in_ok-add_asked.ensures.added in
    subst (λ (M : Language). is_valid_extra (callable S) M [] (holds (premise_of c.in_ok-read_parts.field-0.premise)) ≡ true) (sym w)
    (subst (λ (p : Premise). is_valid_extra (callable S) (gained L d) [] (holds p) ≡ true) (sym q) v.valid)

pub returns-clause-fits : goal.returns-clause-fits
returns-clause-fits c =
    let S = scope_of c.args.scope.now in
    let L = language_in c.args.language.now in
    let d = c.args.premise.now in
    let t = option_map (λ x. x.now) c.args.behind in
    let n : c.args.names.now ≡ names_of L = c.requires.names in
    let e : premise_refusal S (names_of L) d t ≡ None =
    (λ i. premise_refusal S (sym n i) d t) ∙ sym c.in_ok-refusal.ensures ∙ ap (option_map refusal_of) c.in_default.is in
    let v = question-valid S L d t c.requires.premise (readable-behind c.args.behind c.requires.behind) e in
    let r : option_map premise_of (Some c.in_ok-read_parts.field-0.premise) ≡ option_map (premise_reading S (names_of L) []) (headed d) =
    c.in_ok-read_parts.ensures.premise ∙ (λ i. option_map (premise_reading S (n i) []) (headed d)) in
    let q : premise_of c.in_ok-read_parts.field-0.premise ≡ premise_reading S (names_of L) [] v.form =
    read-some (premise_reading S (names_of L) []) (headed d) v.form c.in_ok-read_parts.field-0.premise v.is_form r in
    let bound : premise_names S c.args.names.now (headed d) ≡ names_bound (bound_by_premise S (names_of L) (headed d)) =
    ap (λ (xs : List (List ℕ)). premise_names S xs (headed d)) n ∙ names.premise-names S (names_of L) (headed d) in
    let same : names_bound (bound_by_premise S (names_of L) (headed d)) ≡ names_bound (bound_by_premise S (names_of L) (Some v.form)) =
    ap (λ (o : Option Headed). names_bound (bound_by_premise S (names_of L) o)) v.is_form in
    behind (λ u. fits (has_metafunction S) (bound_by (uses 0 (premise_of c.in_ok-read_parts.field-0.premise).outputs)) 0 u ≡ true) c.in_ok-read_parts.field-0.result t
    (template_reading S (names_bound (bound_by_premise S (names_of L) (Some v.form))))
    (c.in_ok-read_parts.ensures.result ∙ ap (λ (es : Bound). option_map (template_reading S es) t) (bound ∙ same))
    (λ x k. subst (λ (p : Premise). fits (has_metafunction S) (bound_by (uses 0 p.outputs)) 0 (template_reading S (names_bound (bound_by_premise S (names_of L) (Some v.form))) x) ≡ true) (sym q)
    (v.result x k))
