-- A form of a judgement that is not refused is in the scope of its file.
use Rattle.std.proofs.Common.{◌≡◌, ◌++◌, ◌∙◌, ℕ, Bool, true, false, List, [], ◌∷◌, map, IsTrue, refl, sym, ap, subst, if◌then◌else◌}
use Rattle.std.specs.List.{list_all}
use Rattle.std.specs.Prelude.{◌&&◌, Option, Some, None, is_some, IsSome, option_map, bytes_eq}
use Rattle.rdx_sexp.specs.Sexp.{Sexp}
use Rattle.rdx_term.specs.Spelling.{is_name}
use Rattle.rdx_lang.specs.Patterns.{Language}
use Rattle.rdx_lang.specs.Programs.{Mode}
use Rattle.rdx_lang.specs.declared.pattern.Ref.TheVariants.{Nt}
use Rattle.rdx_patterns.specs.Nonterminals.{names_of}
use Rattle.rdx_patterns.specs.Parts.{text_of}
use Rattle.rdx_patterns.specs.PatternChecks as patterns
use Rattle.rdx_patterns.specs.Readable.{IsReadable}
use Rattle.rdx_patterns.proofs.Booleans.{and_both}
use Rattle.rdx_parts.specs.ExtraForms.{ExtraForm, such_that, provided, confirmed, holding, freshly, name, no_extra, ExtraPlace, of_rule, form_at, is_condition}
use Rattle.rdx_parts.specs.Headed.{Headed, headed}
use Rattle.rdx_defs.specs.JudgementForms.{RuleForm, rule_form, own_rule, OptionForm, JudgementForm, judgement_form, mode_form, mode_given, judgement_in, own_mode, key_text, is_fit_option, are_fit_options}
use Rattle.rdx_defs.specs.JudgementReading.{mode_or_none}
use Rattle.rdx_defs.specs.JudgementStands.{bound_by_inputs, conclusion_stands, premises_stand, name_stands, rule_stands, rules_stand, option_stands, options_stand, missing_mode, judgement_stands}
use Rattle.rdx_defs.specs.MetafunctionReading.{text_in}
use Rattle.rdx_templates.specs.Scope.{Scope}
use Rattle.rdx_defs.specs.Scopes.{are_conditions, is_rule_of, with_mode, judgement_by, judgement_moded, defined_judgements}
use Rattle.rdx_parts.specs.Stands.{Stand, misshaped, bound_by_extra, held_stands, extra_stands, is_named, extras_stand}
use Rattle.rdx_parts.specs.StandRefusal.{stands_refusal}
use Rattle.rdx_relations.proofs.FormRefusals.{ArePassed, stands-passed}
use Rattle.rdx_defs.proofs.PassedForms.{judgement-valid}
use Rattle.rdx_relations.proofs.PassedStands.{passed-both}

module _ (S : Scope) (ns : List (List ℕ)) where
  -- ---- rules

  -- what passes is no datum without its shape
  pub not_misshaped : (d : Sexp) → ArePassed S ns (misshaped d ∷ []) → ⊥
  not_misshaped d h = let z = h.shapes in cc

  -- a premise that passes has its shape
  held-shaped : (bs : List patterns.Bound) (d : Sexp) (o : Option Headed) → ArePassed S ns (held_stands S ns bs d o) → is_some o ≡ true
  held-shaped bs d None h = absurd (not_misshaped d h)
  held-shaped bs d (Some q) h = refl

  -- so does an extra, where no name may come
  condition-shaped : (bs : List patterns.Bound) (d : Sexp) (e : ExtraForm) → ArePassed S ns (extra_stands S ns bs true d e) → is_condition e ≡ true
  condition-shaped bs d (such_that p t) h = refl
  condition-shaped bs d (provided t) h = refl
  condition-shaped bs d (confirmed t) h = refl
  condition-shaped bs d (holding x) h = held-shaped bs x (headed x) h
  condition-shaped bs d (freshly ds) h = refl
  condition-shaped bs d name h = absurd (let z = h.shapes in cc)
  condition-shaped bs d no_extra h = absurd (not_misshaped d h)

  -- behind it none may come either
  still-named : (e : ExtraForm) → is_named true e ≡ true
  still-named (such_that p t) = refl
  still-named (provided t) = refl
  still-named (confirmed t) = refl
  still-named (holding x) = refl
  still-named (freshly ds) = refl
  still-named name = refl
  still-named no_extra = refl

  -- extras do, wherever they stand
  pub conditions-shaped : (k : ExtraPlace) (bs : List patterns.Bound) (ds : List Sexp) → ArePassed S ns (extras_stand k S ns bs true ds) → are_conditions k ds ≡ true
  conditions-shaped k bs [] h = refl
  conditions-shaped k bs (d ∷ ds) h =
      let e = form_at k d in
      let cs = bs ++ bound_by_extra S ns e in
      let p = passed-both S ns (extra_stands S ns bs true d e) (extras_stand k S ns cs (is_named true e) ds) h in
      and_both (is_condition e) (are_conditions k ds) (condition-shaped bs d e p.0)
      (conditions-shaped k cs ds (subst (λ (b : Bool). ArePassed S ns (extras_stand k S ns cs b ds)) (still-named e) p.1))

  -- those of a rule that passes
  premises-passed : (b : Bool) (ps xs cs : List Stand) → ArePassed S ns (if b then ps ++ xs ++ cs else cs ++ ps ++ xs) → ArePassed S ns ps
  premises-passed true ps xs cs h = (passed-both S ns ps xs (passed-both S ns (ps ++ xs) cs h).0).0
  premises-passed false ps xs cs h = (passed-both S ns cs ps (passed-both S ns (cs ++ ps) xs h).0).1

  -- a rule that passes is one of the judgement
  rule-shaped : (j : Sexp) (m : Option Mode) (d : Sexp) (o : Option RuleForm) → ArePassed S ns (rule_stands S ns m d (own_rule (Some j) o)) → is_rule_of j o ≡ true
  rule-shaped j m d None h = absurd (not_misshaped d h)
  rule-shaped j m d (Some r) h = by_name (bytes_eq (text_of r.parts.head) (text_of j)) h
    where
      by_name : (b : Bool) → ArePassed S ns (rule_stands S ns m d (if b then Some r else None)) → (b && are_conditions of_rule r.premises) ≡ true
      by_name false k = absurd (not_misshaped d k)
      by_name true k =
          conditions-shaped of_rule (bound_by_inputs ns m r) r.premises
          (premises-passed r.is_last (premises_stand S ns m r) (name_stands r.name) (conclusion_stands S ns m r) k)

  -- all are
  rules-shaped : (j : Sexp) (m : Option Mode) (ds : List Sexp) → ArePassed S ns (rules_stand S ns (Some j) m ds) → list_all (λ d. is_rule_of j (rule_form d)) ds ≡ true
  rules-shaped j m [] h = refl
  rules-shaped j m (d ∷ ds) h =
      let p = passed-both S ns (rule_stands S ns m d (own_rule (Some j) (rule_form d))) (rules_stand S ns (Some j) m ds) h in
      and_both (is_rule_of j (rule_form d)) (list_all (λ x. is_rule_of j (rule_form x)) ds) (rule-shaped j m d (rule_form d) p.0) (rules-shaped j m ds p.1)

  -- ---- options

  -- an option that passes has its shape
  option-shaped : (b : Bool) (m : Option Mode) (o : OptionForm) → ArePassed S ns (if b then option_stands m o.key o.given else misshaped o.key ∷ []) → b ≡ true
  option-shaped true m o h = refl
  option-shaped false m o h = absurd (not_misshaped o.key h)

  -- all have
  options-shaped : (j : Option Sexp) (m : Option Mode) (seen : List (List ℕ)) (os : List OptionForm) → ArePassed S ns (options_stand j m seen os) → are_fit_options j seen os ≡ true
  options-shaped j m seen [] h = refl
  options-shaped j m seen (o ∷ os) h =
      let b = is_fit_option j seen o in
      let later = key_text o.key ∷ seen in
      let p = passed-both S ns (if b then option_stands m o.key o.given else misshaped o.key ∷ []) (options_stand j m later os) h in
      and_both b (are_fit_options j later os) (option-shaped b m o p.0) (options-shaped j m later os p.1)

-- ---- forms

-- a name with a mode, where there is one
moded : (j : Sexp) (o : Option Mode) → IsTrue (is_name (text_of j)) → IsSome o → with_mode j o ≡ (text_of j, mode_or_none o) ∷ []
moded j None h s = absurd cc
moded j (Some m) h s = ap (λ (b : Bool). map (λ x. (x, m)) (if b then text_of j ∷ [] else [])) h

-- without a mode as it is written there is none
unmoded : (o : Option Headed) → o ≡ None → IsSome (mode_given o) → ⊥
unmoded None e s = cc
unmoded (Some q) e s = absurd cc

-- over a language
in-scope-over : (S : Scope) (L : Language) (d : Sexp) (f : JudgementForm) → IsReadable d → judgement_form d ≡ Some f
    → stands_refusal S (names_of L) (judgement_stands S (names_of L) d (Some f)) ≡ None
    → judgement_moded (judgement_form d) ≡ (text_in (judgement_in f), mode_or_none (own_mode f)) ∷ []
in-scope-over S L d f r e g = ap judgement_moded e ∙ by_mode (mode_form f) refl
  where
    k : ArePassed S (names_of L) (judgement_stands S (names_of L) d (Some f))
    k = stands-passed S (names_of L) (judgement_stands S (names_of L) d (Some f)) g

    by_mode : (o : Option Headed) → mode_form f ≡ o → judgement_by f (judgement_in f) ≡ (text_in (judgement_in f), mode_or_none (own_mode f)) ∷ []
    by_mode None h = absurd (unmoded (mode_form f) h (judgement-valid S L d f r e g).moded)
    by_mode (Some q) h =
        let ns = names_of L in
        let v = judgement-valid S L d f r e g in
        let j = q.head in
        let m = own_mode f in
        let named : judgement_in f ≡ Some j = ap (option_map (λ x. x.head)) h in
        let options = options_stand (judgement_in f) m [] f.options in
        let rules = rules_stand S ns (judgement_in f) m f.rules in
        let a = passed-both S ns (missing_mode d (mode_form f) ++ options) rules k in
        let b = passed-both S ns (missing_mode d (mode_form f)) options a.0 in
        let fit : are_fit_options (Some j) [] f.options ≡ true =
        options-shaped S ns (Some j) m [] f.options (subst (λ (x : Option Sexp). ArePassed S ns (options_stand x m [] f.options)) named b.1) in
        let all : list_all (λ x. is_rule_of j (rule_form x)) f.rules ≡ true =
        rules-shaped S ns j m f.rules (subst (λ (x : Option Sexp). ArePassed S ns (rules_stand S ns x m f.rules)) named a.1) in
        let known : IsTrue (is_name (text_of j)) = subst (λ (x : Option Sexp). IsTrue (is_name (text_in x))) named v.named in
        ap (judgement_by f) named
        ∙ ap (λ (b : Bool). if b then with_mode j m else []) (and_both (are_fit_options (Some j) [] f.options) (list_all (λ x. is_rule_of j (rule_form x)) f.rules) fit all)
        ∙ moded j m known v.moded
        ∙ ap (λ (x : Option Sexp). (text_in x, mode_or_none m) ∷ []) (sym named)

-- a language with these nonterminals
abbrev with_names : List (List ℕ) → Language
with_names ns = record { name = []; nonterminals = map (λ x. (Nt x, [])) ns }

with_names-of : (ns : List (List ℕ)) → names_of (with_names ns) ≡ ns
with_names-of [] = refl
with_names-of (x ∷ ns) = ap (λ (xs : List (List ℕ)). x ∷ xs) (with_names-of ns)

-- a readable form in which nothing is refused defines its judgement with its mode
pub in-scope : (S : Scope) (ns : List (List ℕ)) (d : Sexp) (f : JudgementForm) → IsReadable d → judgement_form d ≡ Some f
    → stands_refusal S ns (judgement_stands S ns d (Some f)) ≡ None
    → defined_judgements d ≡ (text_in (judgement_in f), mode_or_none (own_mode f)) ∷ []
in-scope S ns d f r e g =
    in-scope-over S (with_names ns) d f r e (subst (λ (xs : List (List ℕ)). stands_refusal S xs (judgement_stands S xs d (Some f)) ≡ None) (sym (with_names-of ns)) g)
