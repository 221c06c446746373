use Rattle.std.proofs.Common.{◌∙◌, Some, sym, ap}
use Rattle.std.specs.Bool.{then_some}
use Rattle.std.specs.Prelude.{option_map}
use Rattle.rdx_patterns.specs.Kinds.{is_among}
use Rattle.rdx_forms.proofs.KeptNames.{kept-at}
use Rattle.rdx_forms.proofs.closure_forms.nonterminal.Goals as goal

pub returns-in_ok-share-in-Some : goal.returns-in_ok-share-in-Some
returns-in_ok-share-in-Some c l e =
    let K = c.args.known.now in
    let x = c.args.name.now in
    let n = kept-at K.tables.nonterminals.items K.program.languages.items K.tabled.nonterminals c.args.place c.index.result.now l c.requires c.index.ensures e in
    ap Some c.in_ok-share-in-Some.ensures ∙ sym (ap (option_map (λ m. m.now)) c.in-Some.is) ∙ c.find.ensures ∙ ap (λ ns. then_some (is_among ns x) x) n

pub returns-in-None : goal.returns-in-None
returns-in-None c l e =
    let K = c.args.known.now in
    let x = c.args.name.now in
    let n = kept-at K.tables.nonterminals.items K.program.languages.items K.tabled.nonterminals c.args.place c.index.result.now l c.requires c.index.ensures e in
    sym (ap (option_map (λ m. m.now)) c.in-None.is) ∙ c.find.ensures ∙ ap (λ ns. then_some (is_among ns x) x) n
