use Rattle.std.proofs.Common.{◌≡◌, ◌∙◌, ℕ, List, [], ◌∷◌, Bool, true, false, refl, sym, ap, subst}
use Rattle.std.specs.Borrow.{Bor}
use Rattle.std.specs.Prelude.{Err, Ok}
use Rattle.rdx_term.specs.Tree.{Tree}
use Rattle.rdx_term.specs.View.{tree_of}
use Rattle.rdx_lang.specs.BindingView.{pairs_of}
use Rattle.rdx_lang.specs.Bindings.{Binding, of_pairs, no_names}
use Rattle.rdx_lang.specs.ProgramView.{program_of}
use Rattle.rdx_lang.specs.Programs as programs
use Rattle.rdx_lang.specs.Shown.{binding_of}
use Rattle.rdx_lang.specs.TemplateView.{host_of}
use Rattle.rdx_lang.specs.Templates.{Host}
use Rattle.rdx_lang.specs.declared.program.Program.{Program}
use Rattle.rdx_eval.specs.Answers.{value}
use Rattle.rdx_eval.specs.Heights.{calls_at, height}
use Rattle.rdx_eval.specs.Instantiation.{HostMakes}
use Rattle.rdx_eval.specs.Views.{Says, program_in}
use Rattle.rdx_alpha.specs.Forms.{Form}
use Rattle.rdx_answer.specs.AlphaAnswers.{IsAlikeAnswer, IsSubstitutedAnswer}
use Rattle.rdx_answer.specs.AnswerText.{value_line, fault_line}
use Rattle.rdx_answer.specs.Answering.{HostValue, Over, over_value, over_fault}
use Rattle.rdx_answer.specs.Bound.{Bound, forms_named}
use Rattle.rdx_answer.specs.Inside.Appending.{Appends, IsAnswerOver, Tries}
use Rattle.rdx_answer.specs.Inside.Tabled.{forms_in}
use Rattle.rdx_answer.specs.Tests.{Compares}
use Rattle.rdx_answer.specs.Views.{query_of}
use Rattle.rdx_answer.specs.declared.queries.Query.{Query}
use Rattle.rdx_answer.proofs.Trying.{error_tried, host_faulted, host_made}
use Rattle.rdx_answer.proofs.answers.try_answer_over.Goals as goal

pub returns-in_ok-write_value_line-in-Value-clause-answer : goal.returns-in_ok-write_value_line-in-Value-clause-answer
returns-in_ok-write_value_line-in-Value-clause-answer g c =
    let t : Tree = tree_of c.args.t.now in
    record {
      text = value_line t;
      answer = subst (λ (q : Query). IsAnswerOver (program_of (program_in c.args.engine.now).now) c.args.choices.now (query_of (forms_in c.args.table.now) q) t (value_line t) true)
          (sym c.in-Value.is) (record { printed = refl; is_met = refl });
      gained = c.in_ok-write_value_line-in-Value.ensures;
    }

pub returns-in_err-u-in-TestEqual-clause-answer : goal.returns-in_err-u-in-TestEqual-clause-answer
returns-in_err-u-in-TestEqual-clause-answer g c =
    let P : programs.Program = program_of (program_in c.args.engine.now).now in
    let cs : List ℕ = c.args.choices.now in
    let t : Tree = tree_of c.args.t.now in
    let k : Host = host_of c.in-TestEqual.other in
    let empty : binding_of c.new-in-TestEqual-2.result ≡ no_names =
    c.new-in-TestEqual-2.ensures ∙ ap (λ ps. of_pairs (pairs_of ps)) c.new-in-TestEqual.ensures.items in
    error_tried tree_of (HostValue P k) (IsAnswerOver P cs (query_of (forms_in c.args.table.now) c.args.query.now) t) c.args.out.now.items c.from_residual-in_err-u-in-TestEqual.result _
    c.from_residual-in_err-u-in-TestEqual.ensures.1
    (λ f v. subst (λ (q : Query). IsAnswerOver P cs (query_of (forms_in c.args.table.now) q) t (fault_line f) false) (sym c.in-TestEqual.is) (over_fault f v refl refl))
    (subst (λ (b : Binding). Says tree_of (HostMakes (calls_at P height) b k) (Err c.in_err-u-in-TestEqual.field-0.0)) empty c.in_err-u-in-TestEqual.ensures.answer)

pub returns-in_ok-write_equality-in-TestEqual-clause-answer : goal.returns-in_ok-write_equality-in-TestEqual-clause-answer
returns-in_ok-write_equality-in-TestEqual-clause-answer g c =
    let P : programs.Program = program_of (program_in c.args.engine.now).now in
    let cs : List ℕ = c.args.choices.now in
    let t : Tree = tree_of c.args.t.now in
    let u : Tree = tree_of c.in_ok-u-in-TestEqual.u in
    let k : Host = host_of c.in-TestEqual.other in
    let met : Bool = c.in_ok-write_equality-in-TestEqual.field-0 in
    let empty : binding_of c.new-in-TestEqual-2.result ≡ no_names =
    c.new-in-TestEqual-2.ensures ∙ ap (λ ps. of_pairs (pairs_of ps)) c.new-in-TestEqual.ensures.items in
    let made : HostValue P k (value u) =
    subst (λ (b : Binding). HostMakes (calls_at P height) b k (value u)) empty c.in_ok-u-in-TestEqual.ensures.answer in
    let a : Appends (Compares (t ∷ []) (u ∷ [])) c.args.out.now.items c.write_equality.new.out.items met = c.in_ok-write_equality-in-TestEqual.ensures in
    record {
      text = a.text;
      answer = subst (λ (q : Query). IsAnswerOver P cs (query_of (forms_in c.args.table.now) q) t a.text met) (sym c.in-TestEqual.is) (over_value u made a.answer);
      gained = a.gained;
    }

pub returns-in_err-u-in-Alpha-clause-answer : goal.returns-in_err-u-in-Alpha-clause-answer
returns-in_err-u-in-Alpha-clause-answer g c =
    let P : programs.Program = program_of (program_in c.args.engine.now).now in
    let bs : List Bound = forms_in c.args.table.now in
    let out : List ℕ = c.args.out.now.items in
    let t : Tree = tree_of c.args.t.now in
    let k : Host = host_of c.in-Alpha.other in
    let empty : binding_of c.new-in-Alpha.result ≡ no_names = c.new-in-Alpha.ensures ∙ ap (λ ps. of_pairs (pairs_of ps)) c.new.ensures.items in
    subst (λ (q : Query). Tries (IsAnswerOver P c.args.choices.now (query_of bs q) t) out out c.from_residual-in_err-u-in-Alpha.result) (sym c.in-Alpha.is)
    (host_faulted P k (IsAlikeAnswer (forms_named bs c.in-Alpha.name) t) out c.from_residual-in_err-u-in-Alpha.result _
    c.from_residual-in_err-u-in-Alpha.ensures.1
    (subst (λ (b : Binding). Says tree_of (HostMakes (calls_at P height) b k) (Err c.in_err-u-in-Alpha.field-0.0)) empty c.in_err-u-in-Alpha.ensures.answer))

pub returns-in_ok-write_alike-in-Alpha-clause-answer : goal.returns-in_ok-write_alike-in-Alpha-clause-answer
returns-in_ok-write_alike-in-Alpha-clause-answer g c =
    let P : programs.Program = program_of (program_in c.args.engine.now).now in
    let bs : List Bound = forms_in c.args.table.now in
    let out : List ℕ = c.args.out.now.items in
    let after : List ℕ = c.write_alike.new.out.items in
    let t : Tree = tree_of c.args.t.now in
    let u : Tree = tree_of c.in_ok-u-in-Alpha.u in
    let k : Host = host_of c.in-Alpha.other in
    let met : Bool = c.in_ok-write_alike-in-Alpha.field-0 in
    let empty : binding_of c.new-in-Alpha.result ≡ no_names = c.new-in-Alpha.ensures ∙ ap (λ ps. of_pairs (pairs_of ps)) c.new.ensures.items in
    let made : HostValue P k (value u) =
    subst (λ (b : Binding). HostMakes (calls_at P height) b k (value u)) empty c.in_ok-u-in-Alpha.ensures.answer in
    let a : Appends (IsAlikeAnswer (forms_named bs c.in-Alpha.name) t u) out after met =
    subst (λ (fs : List Form). Appends (IsAlikeAnswer fs t u) out after met) c.named.ensures c.in_ok-write_alike-in-Alpha.ensures in
    subst (λ (q : Query). Tries (IsAnswerOver P c.args.choices.now (query_of bs q) t) out after (Ok met)) (sym c.in-Alpha.is)
    (host_made P k (IsAlikeAnswer (forms_named bs c.in-Alpha.name) t) u out after (Ok met) made a)

pub returns-in_err-x-in-Substitute-clause-answer : goal.returns-in_err-x-in-Substitute-clause-answer
returns-in_err-x-in-Substitute-clause-answer g c =
    let P : programs.Program = program_of (program_in c.args.engine.now).now in
    let bs : List Bound = forms_in c.args.table.now in
    let out : List ℕ = c.args.out.now.items in
    let t : Tree = tree_of c.args.t.now in
    let k : Host = host_of c.in-Substitute.other in
    let l : Host = host_of c.in-Substitute.last in
    let W : Tree → List ℕ → Bool → Type 0 = λ x. Over P l (IsSubstitutedAnswer (forms_named bs c.in-Substitute.name) t x) in
    let empty : binding_of c.new-in-Substitute-2.result ≡ no_names =
    c.new-in-Substitute-2.ensures ∙ ap (λ ps. of_pairs (pairs_of ps)) c.new-in-Substitute.ensures.items in
    subst (λ (q : Query). Tries (IsAnswerOver P c.args.choices.now (query_of bs q) t) out out c.from_residual-in_err-x-in-Substitute.result)
    (sym c.in-Substitute.is)
    (host_faulted P k W out c.from_residual-in_err-x-in-Substitute.result _ c.from_residual-in_err-x-in-Substitute.ensures.1
    (subst (λ (b : Binding). Says tree_of (HostMakes (calls_at P height) b k) (Err c.in_err-x-in-Substitute.field-0.0)) empty
    c.in_err-x-in-Substitute.ensures.answer))

pub returns-in_err-v-in-Substitute-clause-answer : goal.returns-in_err-v-in-Substitute-clause-answer
returns-in_err-v-in-Substitute-clause-answer g c =
    let P : programs.Program = program_of (program_in c.args.engine.now).now in
    let bs : List Bound = forms_in c.args.table.now in
    let out : List ℕ = c.args.out.now.items in
    let t : Tree = tree_of c.args.t.now in
    let x : Tree = tree_of c.in_ok-x-in-Substitute.x in
    let k : Host = host_of c.in-Substitute.other in
    let l : Host = host_of c.in-Substitute.last in
    let W : Tree → List ℕ → Bool → Type 0 = λ x. Over P l (IsSubstitutedAnswer (forms_named bs c.in-Substitute.name) t x) in
    let empty : binding_of c.new-in-Substitute-2.result ≡ no_names =
    c.new-in-Substitute-2.ensures ∙ ap (λ ps. of_pairs (pairs_of ps)) c.new-in-Substitute.ensures.items in
    let empty_2 : binding_of c.new-in-Substitute-4.result ≡ no_names =
    c.new-in-Substitute-4.ensures ∙ ap (λ ps. of_pairs (pairs_of ps)) c.new-in-Substitute-3.ensures.items in
    let made : HostValue P k (value x) =
    subst (λ (b : Binding). HostMakes (calls_at P height) b k (value x)) empty c.in_ok-x-in-Substitute.ensures.answer in
    subst (λ (q : Query). Tries (IsAnswerOver P c.args.choices.now (query_of bs q) t) out out c.from_residual-in_err-v-in-Substitute.result)
    (sym c.in-Substitute.is)
    (host_made P k W x out out c.from_residual-in_err-v-in-Substitute.result made
    (host_faulted P l (IsSubstitutedAnswer (forms_named bs c.in-Substitute.name) t x) out c.from_residual-in_err-v-in-Substitute.result _
    c.from_residual-in_err-v-in-Substitute.ensures.1
    (subst (λ (b : Binding). Says tree_of (HostMakes (calls_at P height) b l) (Err c.in_err-v-in-Substitute.field-0.0)) empty_2
    (subst (λ (p : Bor Program). Says tree_of (HostMakes (calls_at (program_of p.now) height) (binding_of c.new-in-Substitute-4.result) l)
    (Err c.in_err-v-in-Substitute.field-0.0)) c.in_ok-x-in-Substitute.ensures.same c.in_err-v-in-Substitute.ensures.answer))))

pub returns-in_ok-write_substituted-in-Substitute-clause-answer : goal.returns-in_ok-write_substituted-in-Substitute-clause-answer
returns-in_ok-write_substituted-in-Substitute-clause-answer g c =
    let P : programs.Program = program_of (program_in c.args.engine.now).now in
    let bs : List Bound = forms_in c.args.table.now in
    let out : List ℕ = c.args.out.now.items in
    let after : List ℕ = c.write_substituted.new.out.items in
    let t : Tree = tree_of c.args.t.now in
    let x : Tree = tree_of c.in_ok-x-in-Substitute.x in
    let v : Tree = tree_of c.in_ok-v-in-Substitute.v in
    let k : Host = host_of c.in-Substitute.other in
    let l : Host = host_of c.in-Substitute.last in
    let met : Bool = c.in_ok-write_substituted-in-Substitute.field-0 in
    let W : Tree → List ℕ → Bool → Type 0 = λ x. Over P l (IsSubstitutedAnswer (forms_named bs c.in-Substitute.name) t x) in
    let empty : binding_of c.new-in-Substitute-2.result ≡ no_names =
    c.new-in-Substitute-2.ensures ∙ ap (λ ps. of_pairs (pairs_of ps)) c.new-in-Substitute.ensures.items in
    let empty_2 : binding_of c.new-in-Substitute-4.result ≡ no_names =
    c.new-in-Substitute-4.ensures ∙ ap (λ ps. of_pairs (pairs_of ps)) c.new-in-Substitute-3.ensures.items in
    let first : HostValue P k (value x) =
    subst (λ (b : Binding). HostMakes (calls_at P height) b k (value x)) empty c.in_ok-x-in-Substitute.ensures.answer in
    let second : HostValue P l (value v) =
    subst (λ (b : Binding). HostMakes (calls_at P height) b l (value v)) empty_2
    (subst (λ (p : Bor Program). HostMakes (calls_at (program_of p.now) height) (binding_of c.new-in-Substitute-4.result) l (value v))
    c.in_ok-x-in-Substitute.ensures.same c.in_ok-v-in-Substitute.ensures.answer) in
    let a : Appends (IsSubstitutedAnswer (forms_named bs c.in-Substitute.name) t x v) out after met =
    subst (λ (fs : List Form). Appends (IsSubstitutedAnswer fs t x v) out after met) c.named-in-Substitute.ensures
    c.in_ok-write_substituted-in-Substitute.ensures in
    subst (λ (q : Query). Tries (IsAnswerOver P c.args.choices.now (query_of bs q) t) out after (Ok met)) (sym c.in-Substitute.is)
    (host_made P k W x out after (Ok met) first
    (host_made P l (IsSubstitutedAnswer (forms_named bs c.in-Substitute.name) t x) v out after (Ok met) second a))
