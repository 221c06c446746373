use Rattle.std.proofs.Common.{◌≡◌, true, Option, Some, ◌∙◌, ap, sym, subst}
use Rattle.std.proofs.lemmas.Result.{IfOk-weaker}
use Rattle.rdx_lang.specs.Checked.{language_in, pattern_in}
use Rattle.rdx_lang.specs.Patterns.{Language}
use Rattle.rdx_lang.specs.Programs.{language_named}
use Rattle.rdx_lang.specs.WellFormed.{is_well_formed_in}
use Rattle.rdx_patterns.specs.Ends.{ends_in}
use Rattle.rdx_forms.specs.KnownView.{known_of}
use Rattle.rdx_forms.proofs.GainingNothing.{gained-at, gained-by}
use Rattle.rdx_forms.proofs.KeptNames.{kept-at}
use Rattle.rdx_forms.proofs.Replaced.{same-known, tables-stay}
use Rattle.rdx_forms.proofs.closure_forms.read_over.Goals as goal

pub returns-in-Some-clause-same : goal.returns-in-Some-clause-same
returns-in-Some-clause-same c =
    let l = c.index_mut-language.result.now in
    let m = c.read_pattern_over.new.language in
    let ys = ends_in c.args.d.now in
    let g = gained-by (language_in l) (language_in m) ys c.read_pattern_over.result c.read_pattern_over.ensures.gains c.read_pattern_over.ensures.same in
    same-known c.args.known.now c.in-Some.place l m c.in-Some.ensures.within
    (gained-at c.args.known.now.program.languages.items c.in-Some.place l m ys c.args.known.now.ends.items c.read_pattern_over.result c.in-Some.ensures.within
    c.index_mut-language.ensures.value c.requires.crossed c.requires.ends g)

pub invariant_of-known : goal.invariant_of-known
invariant_of-known c =
    let l = c.index_mut-language.result.now in
    let m = c.read_pattern_over.new.language in
    let ys = ends_in c.args.d.now in
    let g = gained-by (language_in l) (language_in m) ys c.read_pattern_over.result c.read_pattern_over.ensures.gains c.read_pattern_over.ensures.same in
    record {
      tabled = tables-stay c.args.known.now c.in-Some.place l m c.in-Some.ensures.within
          (gained-at c.args.known.now.program.languages.items c.in-Some.place l m ys c.args.known.now.ends.items c.read_pattern_over.result c.in-Some.ensures.within
          c.index_mut-language.ensures.value c.requires.crossed c.requires.ends g);
      asked = c.args.known.now.asked;
    }

pub returns-in-Some-clause-well_formed : goal.returns-in-Some-clause-well_formed
returns-in-Some-clause-well_formed c =
    let l = c.index_mut-language.result.now in
    let m = c.read_pattern_over.new.language in
    let ys = ends_in c.args.d.now in
    let K = known_of c.args.known.now in
    let g = gained-by (language_in l) (language_in m) ys c.read_pattern_over.result c.read_pattern_over.ensures.gains c.read_pattern_over.ensures.same in
    let s = gained-at c.args.known.now.program.languages.items c.in-Some.place l m ys c.args.known.now.ends.items c.read_pattern_over.result c.in-Some.ensures.within
    c.index_mut-language.ensures.value c.requires.crossed c.requires.ends g ∙ ap language_in (sym c.index_mut-language.ensures.value) in
    IfOk-weaker c.read_pattern_over.result _ _
    (λ p w L e.
    let f : (let o : Option Language = Some (language_in l) in o) ≡ Some L =
    sym (ap (language_named K.program) (sym c.text.ensures) ∙ c.in-Some.ensures.some l c.index_mut-language.ensures.value) ∙ e in
    let h : language_in l ≡ L = cc in
    subst (λ (M : Language). is_well_formed_in M (pattern_in p) ≡ true) (s ∙ h) w)
    c.read_pattern_over.ensures.well_formed

pub read_pattern_over-requires-clause-names : goal.read_pattern_over-requires-clause-names
read_pattern_over-requires-clause-names c =
    let K = c.args.known.now in
    kept-at K.tables.nonterminals.items K.program.languages.items K.tabled.nonterminals c.in-Some.place c.index.result.now c.index_mut-language.result.now c.in-Some.ensures.within c.index.ensures
    c.index_mut-language.ensures.value
