use Rattle.std.proofs.Common.{◌≡◌, ◌∙◌, Some, List, refl, ap, subst}
use Rattle.rdx_term.specs.Tree.{Tree}
use Rattle.rdx_term.specs.View.{tree_of}
use Rattle.rdx_lang.specs.Bindings.{Binding}
use Rattle.rdx_lang.specs.Checked.{language_in, ranks_in, pattern_in}
use Rattle.rdx_lang.specs.Edges.{IsFree}
use Rattle.rdx_lang.specs.Listing.{Matches}
use Rattle.rdx_lang.specs.Patterns.{Pattern, Language, closed}
use Rattle.rdx_lang.specs.ProgramView.{program_of}
use Rattle.rdx_lang.specs.Programs as programs
use Rattle.rdx_lang.specs.Programs.{language_named}
use Rattle.rdx_lang.specs.Shown.{bindings_of}
use Rattle.rdx_eval.specs.Judgements.{are_some}
use Rattle.rdx_eval.specs.Views.{program_in}
use Rattle.rdx_answer.proofs.Whether.{whether_closed}
use Rattle.rdx_answer.specs.Inside.Whether.{TellsWhether}
use Rattle.rdx_answer.proofs.match_answers.is_match.Goals as goal

pub returns-clause-told : goal.returns-clause-told
returns-clause-told g c =
    let P : programs.Program = program_of (program_in c.args.engine.now).now in
    let L : Language = language_in c.in_ok-language.language.now in
    let p : Pattern = pattern_in c.args.pat.now in
    let t : Tree = tree_of c.args.t.now in
    let bs : List Binding = bindings_of c.in_ok-found.found.items in
    let known : language_named P c.args.name.now ≡ Some L = c.in_ok-language.ensures.found in
    let free : IsFree L =
    c.ranks_fall.ensures.free L (ranks_in c.in_ok-language.language.now) c.in_ok-language.language.now.well_formed c.in_ok-language.language.now.ranked in
    let listing : Matches L (closed p) t bs = subst (λ (q : Pattern). Matches L q t bs) c.in_ok-closed.ensures.same c.in_ok-found.ensures.listing in
    let told : TellsWhether L p t (are_some bs) =
    whether_closed c.some_listing.ensures.matches L p t (are_some bs) free (record { found = bs; listing = listing; told = refl }) in
    record {
      found = told.found;
      finds = record { language = L; known = known; listing = told.listing };
      told = c.are_some.ensures ∙ ap (λ xs. are_some (bindings_of xs)) c.deref.ensures.value ∙ told.told;
    }
