use Rattle.std.proofs.Common.{◌≡◌, ◌++◌, ◌∙◌, ℕ, List, append_assoc, sym, ap, codes}
use Rattle.std.proofs.lemmas.Result.{on_ok_weaker}
use Rattle.rdx_term.specs.Text.{tree_text}
use Rattle.rdx_term.specs.Tree.{Trees}
use Rattle.rdx_term.specs.View.{tree_of}
use Rattle.rdx_answer.specs.AnswerText.{call_text, items_of}
use Rattle.rdx_answer.proofs.texts.write_ambiguous.Goals as goal

pub returns : goal.returns
returns c =
    let old : List ℕ = c.args.out.now.items in
    let call : List ℕ → Trees → List ℕ = λ f ts. codes "Ambiguous " ++ call_text f ts in
    let x : List ℕ = call c.args.name.now (items_of (tree_of c.args.args.now)) in
    let g : List ℕ = codes " gives " in
    let t : List ℕ = tree_text (tree_of c.args.first.now) in
    let a : List ℕ = codes " and " in
    let u : List ℕ = tree_text (tree_of c.args.second.now) in
    let called : c.write_word_call.new.out.items ≡ old ++ x =
    c.in_ok-write_word_call.ensures ∙ (λ i. old ++ call (c.text.ensures.value i) (c.items_of.ensures i)) in
    let given : c.extend_from_slice.new.self.items ≡ (old ++ x) ++ g = c.in_ok-extend_from_slice.ensures.items ∙ ap (λ (xs : List ℕ). xs ++ g) called in
    on_ok_weaker c.write_two_terms.result
    (λ h. h ∙ ap (λ (xs : List ℕ). xs ++ ((t ++ a) ++ u)) given ∙ append_assoc (old ++ x) g ((t ++ a) ++ u) ∙ append_assoc old x (g ++ ((t ++ a) ++ u))
    ∙ ap (λ (xs : List ℕ). old ++ xs)
    (sym (append_assoc x g ((t ++ a) ++ u)) ∙ sym (append_assoc (x ++ g) (t ++ a) u) ∙ ap (λ (xs : List ℕ). xs ++ u) (sym (append_assoc (x ++ g) t a))))
    c.write_two_terms.ensures
