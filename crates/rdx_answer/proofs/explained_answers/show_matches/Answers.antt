use Rattle.std.proofs.Common.{◌≡◌, ◌∙◌, ◌++◌, ◌+◌, ℕ, Some, List, ◌∷◌, drop, length, refl, sym, subst, codes}
use Rattle.std.specs.Borrow.{Bor}
use Rattle.std.specs.Prelude.{decimal}
use Rattle.rdx_term.specs.Tree.{Tree}
use Rattle.rdx_term.specs.View.{tree_of}
use Rattle.rdx_lang.specs.Bindings.{Binding}
use Rattle.rdx_lang.specs.Checked.{language_in, pattern_in}
use Rattle.rdx_lang.specs.Listing.{Matches}
use Rattle.rdx_lang.specs.Members.{In}
use Rattle.rdx_lang.specs.Patterns.{Pattern, Language}
use Rattle.rdx_lang.specs.ProgramView.{program_of}
use Rattle.rdx_lang.specs.Programs as programs
use Rattle.rdx_lang.specs.Programs.{language_named}
use Rattle.rdx_lang.specs.Shown.{binding_of, bindings_of}
use Rattle.rdx_lang.specs.declared.binding.Binding as code_binding
use Rattle.rdx_lang.specs.declared.program.Program.{Program}
use Rattle.rdx_lang.proofs.Rest.{rest_at, rest_none}
use Rattle.rdx_eval.specs.Views.{program_in}
use Rattle.rdx_deriv.specs.Derivations.{Derivation, matched}
use Rattle.rdx_why.specs.Explaining.{Explains}
use Rattle.rdx_answer.specs.AnswerText.{binding_text, line_text}
use Rattle.rdx_answer.specs.Explained.{said}
use Rattle.rdx_answer.specs.Inside.Explaining.{GainsBehind, HasExplanation}
use Rattle.rdx_answer.proofs.Contexts.{member_at}
use Rattle.rdx_answer.proofs.ExplainedParts.{each-next, each-end}
use Rattle.rdx_answer.proofs.Explaining.{match_explained}
use Rattle.rdx_answer.proofs.explained_answers.show_matches.Goals as goal

pub show_match-requires-clause-there : goal.show_match-requires-clause-there
show_match-requires-clause-there g c =
    let P : programs.Program = program_of (program_in c.args.engine.now).now in
    let name : List ℕ = c.args.name.now in
    let p : Pattern = pattern_in c.args.pat.now in
    let t : Tree = tree_of c.args.t.now in
    let L : Language = language_in c.in_ok-language.language.now in
    let xs = c.deref-binding-items.result.now in
    let x = c.binding-item.result in
    let known : language_named P name ≡ Some L = c.in_ok-language.ensures.found in
    let among : In (binding_of x) (bindings_of c.in_ok-found.found.items) =
    subst (λ (ys : List code_binding.Binding). In (binding_of x) (bindings_of ys)) c.deref-binding-items.ensures.value
    (member_at binding_of xs c.loop-binding.binding-index x c.loop-binding-test.true c.binding-item.is) in
    subst (λ (e : Bor Program). HasExplanation (program_of e.now) (matched name p t (binding_of x))) (sym c.loop-binding.invariant.same)
    (match_explained P name p t (binding_of x) L c.requires.showable known (c.in_ok-found.ensures.listing.sound (binding_of x) among))

pub loop-binding-preserved : goal.loop-binding-preserved
loop-binding-preserved g c =
    let P : programs.Program = program_of (program_in c.args.engine.now).now in
    let name : List ℕ = c.args.name.now in
    let p : Pattern = pattern_in c.args.pat.now in
    let t : Tree = tree_of c.args.t.now in
    let xs = c.deref-binding-items.result.now in
    let i : ℕ = c.loop-binding.binding-index in
    let x = c.binding-item.result in
    let bs : List Binding = bindings_of xs in
    let R : Binding → Derivation → Type 0 = λ b. Explains P (matched name p t b) in
    let h : List ℕ = codes "match" ++ codes " " ++ decimal (length bs) ++ codes "\n" in
    let e : bindings_of (drop i xs) ≡ binding_of x ∷ bindings_of (drop (i + 1) xs) = rest_at binding_of xs i x c.loop-binding-test.true c.binding-item.is in
    let gained : GainsBehind P (R (binding_of x)) (line_text (binding_text (binding_of x))) c.loop-binding.out.items c.show_match.new.out.items =
    subst (λ (q : Bor Program). GainsBehind (program_of q.now) (Explains (program_of q.now) (matched name p t (binding_of x)))
    (line_text (binding_text (binding_of x))) c.loop-binding.out.items c.show_match.new.out.items) c.loop-binding.invariant.same
    c.in_ok-show_match.ensures.gained in
    record {
      same = c.show_match.ensures.same ∙ c.loop-binding.invariant.same;
      kept = c.show_match.ensures.kept ∙ c.loop-binding.invariant.kept;
      upto = each-next P R binding_text h c.args.out.now.items bs (binding_of x) _ _ c.loop-binding.out.items c.show_match.new.out.items e gained
          c.loop-binding.invariant.upto;
    }

pub returns-clause-gained : goal.returns-clause-gained
returns-clause-gained g c =
    let P : programs.Program = program_of (program_in c.args.engine.now).now in
    let name : List ℕ = c.args.name.now in
    let p : Pattern = pattern_in c.args.pat.now in
    let t : Tree = tree_of c.args.t.now in
    let L : Language = language_in c.in_ok-language.language.now in
    let xs = c.deref-binding-items.result.now in
    let bs : List Binding = bindings_of xs in
    let R : Binding → Derivation → Type 0 = λ b. Explains P (matched name p t b) in
    let h : List ℕ = codes "match" ++ codes " " ++ decimal (length bs) ++ codes "\n" in
    let known : language_named P name ≡ Some L = c.in_ok-language.ensures.found in
    let u = each-end P R binding_text h c.args.out.now.items bs _ c.loop-binding.out.items
    (rest_none binding_of xs c.loop-binding.binding-index c.loop-binding-test.false) c.loop-binding.invariant.upto in
    record {
      parts = said h ∷ u.explained;
      shows = record {
        found = bs;
        finds = record {
          language = L;
          known = known;
          listing = subst (λ (ys : List code_binding.Binding). Matches L p t (bindings_of ys)) (sym c.deref-binding-items.ensures.value)
              c.in_ok-found.ensures.listing;
        };
        explained = u.explained;
        each = u.each;
        parts = refl;
      };
      gained = u.gained;
    }
