use Rattle.std.proofs.Common.{◌≡◌, ◌++◌, ◌∙◌, ℕ, IsTrue, List, [], ◌∷◌, length, map, sym, ap, subst, arith}
use Rattle.std.proofs.lemmas.Grind.{common_steps}
use Rattle.std.proofs.lemmas.List.{length-map, map-append}
use Rattle.std.specs.Prelude.{codes, is_some}
use Rattle.rdx_term.specs.Spelling.{is_name}
use Rattle.rdx_lang.specs.Checked.{language_in}
use Rattle.rdx_lang.specs.Patterns.{Language}
use Rattle.rdx_lang.specs.Programs.{language_among}
use Rattle.rdx_lang.specs.declared.checked.CheckedLang.{CheckedLang}
use Rattle.rdx_patterns.specs.Nonterminals.{names_of}
use Rattle.rdx_forms.specs.Model.Tabled.{FindsFirsts}
use Rattle.rdx_forms.proofs.FoundByName.{no_more, no_hole}
use Rattle.rdx_forms.proofs.adding.add_language.Goals as goal

pub invariant_of-known-2 : goal.invariant_of-known-2
invariant_of-known-2 c =
    let K = c.args.known.now in
    let old = K.program.languages.items in
    let l = c.add_crosses_for.new.language in
    let texts : List (List ℕ) = map (λ (L : Language). L.name) (map language_in old) in
    let all : map language_in c.push_reserved-2.new.self.items ≡ map language_in old ++ language_in l ∷ [] =
    ap (map language_in) (c.push_reserved-2.ensures.items ∙ ap (λ (ls : List CheckedLang). ls ++ l ∷ []) c.reserve.ensures.items) ∙ map-append language_in old (l ∷ []) in
    let named : IsTrue (is_name (language_in l).name) = subst (λ (L : Language). IsTrue (is_name L.name)) c.language.ensures.value c.text.ensures.valid in
    let name : (language_in l).name ≡ c.text.result.now = sym (ap (λ (L : Language). L.name) c.language.ensures.value) ∙ sym c.text.ensures.value in
    let names : map (λ (L : Language). L.name) (map language_in c.push_reserved-2.new.self.items) ≡ texts ++ c.text.result.now ∷ [] =
    ap (map (λ (L : Language). L.name)) all
    ∙ map-append (λ (L : Language). L.name) (map language_in old) (language_in l ∷ [])
    ∙ ap (λ (x : List ℕ). texts ++ x ∷ []) name in
    let many : length texts ≡ length c.reserve.new.self.items =
    length-map (map language_in old) (λ (L : Language). L.name) ∙ length-map old language_in ∙ ap length (sym c.reserve.ensures.items) in
    let place : length texts ≡ c.len-place.result = grind (arith, common_steps, many) in
    record {
      tabled = record {
        languages = subst (λ (xs : List (List ℕ)). FindsFirsts c.add_text.new.firsts xs) (sym names) (c.in_ok-add_text.ensures.added texts place K.tabled.languages);
        metafunctions = K.tabled.metafunctions;
        judgements = K.tabled.judgements;
        relations = K.tabled.relations;
        nonterminals =
            c.push_reserved.ensures.items
            ∙ (λ i. c.reserve-2.ensures.items i ++ c.in_ok-names.ensures i ∷ [])
            ∙ ap (λ (ns : List (List (List ℕ))). ns ++ names_of (language_in l) ∷ []) K.tabled.nonterminals
            ∙ sym (map-append names_of (map language_in old) (language_in l ∷ []))
            ∙ ap (map names_of) (sym all);
        nameable =
            ap (λ (Ls : List Language). is_some (language_among Ls (codes "hole"))) all
            ∙ no_more (map language_in old) (language_in l) (codes "hole") K.tabled.nameable (no_hole (language_in l) named);
      };
      asked = K.asked;
    }
