use Rattle.std.proofs.Common.{◌∙◌, List, sym, subst}
use Rattle.rdx_term.specs.View.{tree_of}
use Rattle.rdx_lang.specs.Bindings.{Binding}
use Rattle.rdx_lang.specs.Checked.{language_in, pattern_in}
use Rattle.rdx_lang.specs.Members.{In}
use Rattle.rdx_lang.specs.Shown.{binding_of, bindings_of}
use Rattle.rdx_lang.specs.declared.binding.Binding as code_binding
use Rattle.rdx_answer.proofs.Contexts.{member_at}
use Rattle.rdx_answer.proofs.Searching.{given_next, given_none}
use Rattle.rdx_answer.proofs.explained_premises.first_given.Goals as goal

pub returns-then-is_listed-clause-found : goal.returns-then-is_listed-clause-found
returns-then-is_listed-clause-found g c =
    let xs = c.args.outputs.now in
    let x = c.given-item.result in
    let b : Binding = binding_of c.args.b.now in
    record {
      among = member_at tree_of xs c.loop-given.given-index x c.loop-given-test.true c.given-item.is;
      seen = c.in_ok-found.ensures.listing.sound b
          (subst (λ (ys : List code_binding.Binding). In b (bindings_of ys)) c.deref.ensures.value (c.is_listed.ensures.0 c.if-is_listed.true));
    }

pub loop-given-preserved : goal.loop-given-preserved
loop-given-preserved g c =
    let x = c.given-item.result in
    let b : Binding = binding_of c.args.b.now in
    record {
      same = c.matches.ensures.same ∙ c.loop-given.invariant.same;
      left = given_next c.args.outputs.now c.loop-given.given-index (language_in c.args.language.now) (pattern_in c.args.pat.now) tree_of b x
          c.loop-given-test.true c.given-item.is
          (λ s. let r = c.is_listed.ensures.1 (subst (λ (ys : List code_binding.Binding). In b (bindings_of ys)) (sym c.deref.ensures.value)
          (c.in_ok-found.ensures.listing.complete b s)) in let n = c.if-is_listed.false in absurd cc)
          c.loop-given.invariant.left;
    }

pub unreachable-requires : goal.unreachable-requires
unreachable-requires g c =
    given_none c.args.outputs.now c.loop-given.given-index (language_in c.args.language.now) (pattern_in c.args.pat.now) tree_of (binding_of c.args.b.now)
    c.loop-given-test.false c.loop-given.invariant.left
