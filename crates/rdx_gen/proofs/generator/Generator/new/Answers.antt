use Rattle.std.proofs.Common.{◌≡◌, sym, ap, ◌∙◌, true, None}
use Rattle.rdx_lang.specs.Checked.{language_in, pattern_in}
use Rattle.rdx_lang.specs.Patterns.{Pattern}
use Rattle.rdx_gen.specs.Generation.{lacks}
use Rattle.rdx_gen.specs.Heights.{known_in, term_height}
use Rattle.rdx_gen.specs.Inside.Scopes.{language_here}
use Rattle.rdx_gen.specs.NameRules.{first_bad_name}
use Rattle.rdx_gen.proofs.Start.{lacking}
use Rattle.rdx_gen.proofs.generator.Generator.new.Goals as goal

pub returns-then-lacks_height : goal.returns-then-lacks_height
returns-then-lacks_height c =
    let p : Pattern = pattern_in c.args.pat.now in
    let l : c.in_ok-setting.setting.nonterminals.language.now ≡ c.args.language.now = c.in_ok-setting.ensures ∙ c.in_ok-nonterminals.ensures in
    let n : first_bad_name (language_in c.args.language.now) p ≡ None =
    ap (λ z. first_bad_name (language_in z) p) (sym c.in_ok-nonterminals.ensures)
    ∙ ap (λ (q : Pattern). first_bad_name (language_in c.in_ok-nonterminals.nonterminals.language.now) q) (sym c.pat-pat.ensures)
    ∙ sym c.in_ok-name.ensures ∙ c.in-None.is in
    let e : lacks (term_height (known_in (language_in c.args.language.now)) p) ≡ true =
    ap (λ z. lacks (term_height (known_in (language_in z)) p)) (sym l)
    ∙ ap (λ (q : Pattern). lacks (term_height (known_in (language_here c.in_ok-setting.setting)) q)) (sym c.pat-pat.ensures)
    ∙ sym c.lacks_height.ensures ∙ c.if-lacks_height.true in
    (n, lacking (term_height (known_in (language_in c.args.language.now)) p) e)
