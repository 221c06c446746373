use Rattle.rdx_lang.specs.Checked.{language_in}
use Rattle.rdx_patterns.specs.Ends.{ends_in}
use Rattle.rdx_forms.proofs.GainingNothing.{gained-at, gained-by}
use Rattle.rdx_forms.proofs.KeptNames.{kept-at}
use Rattle.rdx_forms.proofs.Replaced.{same-known, tables-stay}
use Rattle.rdx_forms.proofs.match_forms.read_over.Goals as goal

pub returns-clause-same : goal.returns-clause-same
returns-clause-same c =
    let l = c.index_mut-language.result.now in
    let m = c.read_pattern_over.new.language in
    let ys = ends_in c.args.d.now in
    let g = gained-by (language_in l) (language_in m) ys c.read_pattern_over.result c.read_pattern_over.ensures.gains c.read_pattern_over.ensures.same in
    same-known c.args.known.now c.args.place l m c.requires.within
    (gained-at c.args.known.now.program.languages.items c.args.place l m ys c.args.known.now.ends.items c.read_pattern_over.result c.requires.within
    c.index_mut-language.ensures.value c.requires.crossed c.requires.ends g)

pub invariant_of-known : goal.invariant_of-known
invariant_of-known c =
    let l = c.index_mut-language.result.now in
    let m = c.read_pattern_over.new.language in
    let ys = ends_in c.args.d.now in
    let g = gained-by (language_in l) (language_in m) ys c.read_pattern_over.result c.read_pattern_over.ensures.gains c.read_pattern_over.ensures.same in
    record {
      tabled = tables-stay c.args.known.now c.args.place l m c.requires.within
          (gained-at c.args.known.now.program.languages.items c.args.place l m ys c.args.known.now.ends.items c.read_pattern_over.result c.requires.within
          c.index_mut-language.ensures.value c.requires.crossed c.requires.ends g);
      asked = c.args.known.now.asked;
    }

pub read_pattern_over-requires-clause-names : goal.read_pattern_over-requires-clause-names
read_pattern_over-requires-clause-names c =
    let K = c.args.known.now in
    kept-at K.tables.nonterminals.items K.program.languages.items K.tabled.nonterminals c.args.place c.index.result.now c.index_mut-language.result.now c.requires.within c.index.ensures
    c.index_mut-language.ensures.value
