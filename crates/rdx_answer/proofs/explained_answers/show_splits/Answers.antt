use Rattle.std.proofs.Common.{◌≡◌, ◌∙◌, ◌++◌, ◌+◌, ℕ, Some, List, ◌∷◌, drop, length, refl, sym, subst, codes}
use Rattle.std.specs.Borrow.{Bor}
use Rattle.std.specs.Prelude.{decimal}
use Rattle.rdx_term.specs.Tree.{Tree}
use Rattle.rdx_term.specs.View.{tree_of}
use Rattle.rdx_lang.specs.Checked.{language_in, pattern_in}
use Rattle.rdx_lang.specs.Decompositions.{Decomposition}
use Rattle.rdx_lang.specs.Listing.{Splits}
use Rattle.rdx_lang.specs.Members.{In}
use Rattle.rdx_lang.specs.Patterns.{Pattern, Language}
use Rattle.rdx_lang.specs.ProgramView.{program_of}
use Rattle.rdx_lang.specs.Programs as programs
use Rattle.rdx_lang.specs.Programs.{language_named}
use Rattle.rdx_lang.specs.Shown.{decomposition_of, decompositions_of}
use Rattle.rdx_lang.specs.declared.split.Split as code_split
use Rattle.rdx_lang.specs.declared.program.Program.{Program}
use Rattle.rdx_lang.proofs.Rest.{rest_at, rest_none}
use Rattle.rdx_eval.specs.Views.{program_in}
use Rattle.rdx_deriv.specs.Derivations.{Derivation, split}
use Rattle.rdx_why.specs.Explaining.{Explains}
use Rattle.rdx_answer.specs.AnswerText.{split_text, line_text}
use Rattle.rdx_answer.specs.Explained.{said}
use Rattle.rdx_answer.specs.Inside.Explaining.{GainsBehind, HasExplanation}
use Rattle.rdx_answer.proofs.Contexts.{listed-contexts, member_at}
use Rattle.rdx_answer.proofs.ExplainedParts.{each-next, each-end}
use Rattle.rdx_answer.proofs.Explaining.{split_explained}
use Rattle.rdx_answer.proofs.explained_answers.show_splits.Goals as goal

pub show_split-requires-clause-there : goal.show_split-requires-clause-there
show_split-requires-clause-there g c =
    let P : programs.Program = program_of (program_in c.args.engine.now).now in
    let name : List ℕ = c.args.name.now in
    let p : Pattern = pattern_in c.args.pat.now in
    let t : Tree = tree_of c.args.t.now in
    let L : Language = language_in c.in_ok-language.language.now in
    let xs = c.deref-split-items.result.now in
    let x = c.split-item.result in
    let known : language_named P name ≡ Some L = c.in_ok-language.ensures.found in
    let among : In (decomposition_of x) (decompositions_of c.in_ok-found.found.items) =
    subst (λ (ys : List code_split.Split). In (decomposition_of x) (decompositions_of ys)) c.deref-split-items.ensures.value
    (member_at decomposition_of xs c.loop-split.split-index x c.loop-split-test.true c.split-item.is) in
    subst (λ (e : Bor Program). HasExplanation (program_of e.now) (split name p t (decomposition_of x).context (decomposition_of x).part (decomposition_of x).binding)) (sym c.loop-split.invariant.same)
    (split_explained P name p t (decomposition_of x).context (decomposition_of x).part (decomposition_of x).binding L c.requires.showable known (c.in_ok-found.ensures.listing.sound (decomposition_of x) among))

pub show_split-requires-clause-context : goal.show_split-requires-clause-context
show_split-requires-clause-context g c =
    let L : Language = language_in c.in_ok-language.language.now in
    let xs = c.deref-split-items.result.now in
    let x = c.split-item.result in
    listed-contexts L (pattern_in c.args.pat.now) (tree_of c.args.t.now) (decompositions_of c.in_ok-found.found.items) c.in_ok-found.ensures.listing
    (decomposition_of x)
    (subst (λ (ys : List code_split.Split). In (decomposition_of x) (decompositions_of ys)) c.deref-split-items.ensures.value
    (member_at decomposition_of xs c.loop-split.split-index x c.loop-split-test.true c.split-item.is))

pub loop-split-preserved : goal.loop-split-preserved
loop-split-preserved g c =
    let P : programs.Program = program_of (program_in c.args.engine.now).now in
    let name : List ℕ = c.args.name.now in
    let p : Pattern = pattern_in c.args.pat.now in
    let t : Tree = tree_of c.args.t.now in
    let xs = c.deref-split-items.result.now in
    let i : ℕ = c.loop-split.split-index in
    let x = c.split-item.result in
    let bs : List Decomposition = decompositions_of xs in
    let R : Decomposition → Derivation → Type 0 = λ b. Explains P (split name p t b.context b.part b.binding) in
    let h : List ℕ = codes "splits" ++ codes " " ++ decimal (length bs) ++ codes "\n" in
    let e : decompositions_of (drop i xs) ≡ decomposition_of x ∷ decompositions_of (drop (i + 1) xs) = rest_at decomposition_of xs i x c.loop-split-test.true c.split-item.is in
    let gained : GainsBehind P (R (decomposition_of x)) (line_text (split_text (decomposition_of x))) c.loop-split.out.items c.show_split.new.out.items =
    subst (λ (q : Bor Program). GainsBehind (program_of q.now) (Explains (program_of q.now) (split name p t (decomposition_of x).context (decomposition_of x).part (decomposition_of x).binding))
    (line_text (split_text (decomposition_of x))) c.loop-split.out.items c.show_split.new.out.items) c.loop-split.invariant.same
    c.in_ok-show_split.ensures.gained in
    record {
      same = c.show_split.ensures.same ∙ c.loop-split.invariant.same;
      kept = c.show_split.ensures.kept ∙ c.loop-split.invariant.kept;
      upto = each-next P R split_text h c.args.out.now.items bs (decomposition_of x) _ _ c.loop-split.out.items c.show_split.new.out.items e gained
          c.loop-split.invariant.upto;
    }

pub returns-clause-gained : goal.returns-clause-gained
returns-clause-gained g c =
    let P : programs.Program = program_of (program_in c.args.engine.now).now in
    let name : List ℕ = c.args.name.now in
    let p : Pattern = pattern_in c.args.pat.now in
    let t : Tree = tree_of c.args.t.now in
    let L : Language = language_in c.in_ok-language.language.now in
    let xs = c.deref-split-items.result.now in
    let bs : List Decomposition = decompositions_of xs in
    let R : Decomposition → Derivation → Type 0 = λ b. Explains P (split name p t b.context b.part b.binding) in
    let h : List ℕ = codes "splits" ++ codes " " ++ decimal (length bs) ++ codes "\n" in
    let known : language_named P name ≡ Some L = c.in_ok-language.ensures.found in
    let u = each-end P R split_text h c.args.out.now.items bs _ c.loop-split.out.items
    (rest_none decomposition_of xs c.loop-split.split-index c.loop-split-test.false) c.loop-split.invariant.upto in
    record {
      parts = said h ∷ u.explained;
      shows = record {
        found = bs;
        finds = record {
          language = L;
          known = known;
          listing = subst (λ (ys : List code_split.Split). Splits L p t (decompositions_of ys)) (sym c.deref-split-items.ensures.value)
              c.in_ok-found.ensures.listing;
        };
        explained = u.explained;
        each = u.each;
        parts = refl;
      };
      gained = u.gained;
    }
