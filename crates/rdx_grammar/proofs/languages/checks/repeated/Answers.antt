use Rattle.std.proofs.Common.{◌≡◌, not, ◌∷◌, sym, ap, ◌∙◌}
use Rattle.std.specs.List.{list_any}
use Rattle.std.specs.Prelude.{bytes_eq}
use Rattle.rdx_grammar.specs.Checks.{is_seen, repeated, seen_with}
use Rattle.rdx_patterns.specs.Inside.Repeats.{texts_in}
use Rattle.rdx_grammar.specs.Inside.StandView.{stand_of}
use Rattle.rdx_patterns.specs.PatternChecks.{when}
use Rattle.rdx_patterns.specs.Refusal.{first}
use Rattle.rdx_patterns.proofs.Seen.{contains-texts, texts-inserted, not_either}
use Rattle.rdx_grammar.proofs.languages.checks.repeated.Goals as goal

pub returns-in_ok-is_new-in-Nonterminal-clause-repeated : goal.returns-in_ok-is_new-in-Nonterminal-clause-repeated
returns-in_ok-is_new-in-Nonterminal-clause-repeated c =
    let d = c.in-Nonterminal.d.now in
    let seen = texts_in c.args.seen.now in
    let b : not c.in_ok-is_new-in-Nonterminal.is_new ≡ is_seen seen d =
    not_either c.in_ok-is_new-in-Nonterminal.is_new _ c.in_ok-is_new-in-Nonterminal.ensures.added
    ∙ contains-texts c.text.result.now c.args.seen.now.keys ∙ ap (λ x. list_any (bytes_eq x) seen) c.text.ensures in
    c.when.ensures ∙ ap (λ t. first (when t d)) b ∙ ap (λ s. first (repeated seen (stand_of s))) (sym c.in-Nonterminal.is)

pub returns-in_ok-is_new-in-Nonterminal-clause-seen : goal.returns-in_ok-is_new-in-Nonterminal-clause-seen
returns-in_ok-is_new-in-Nonterminal-clause-seen c =
    let seen = texts_in c.args.seen.now in
    let h = texts-inserted c.text.result c.args.seen.now c.insert.new.self c.in_ok-is_new-in-Nonterminal.ensures.updates in
    λ x. h x ∙ ap (λ y. list_any (bytes_eq x) (y ∷ seen)) c.text.ensures ∙ ap (λ s. list_any (bytes_eq x) (seen_with seen (stand_of s))) (sym c.in-Nonterminal.is)
