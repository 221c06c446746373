use Rattle.std.proofs.Common.{◌≡◌, true, map, sym, ap, ◌∙◌, subst}
use Rattle.rdx_term.specs.View.{tree_of}
use Rattle.rdx_lang.specs.Checked.{language_in, pattern_in}
use Rattle.rdx_lang.specs.Patterns.{nt}
use Rattle.rdx_lang.specs.WellFormed.{is_well_formed_in}
use Rattle.rdx_lang.proofs.ClosedRules.{nonterminal-well_formed}
use Rattle.rdx_lang.proofs.Collecting.{In_along}
use Rattle.rdx_lang.proofs.PatternEquations.{pattern_nt}
use Rattle.rdx_enum.specs.Inside.Rows.{row_of}
use Rattle.rdx_enum.specs.UpTo.{MatchesSome}
use Rattle.rdx_enum.proofs.terms.matched_row.Goals as goal

pub known-pat-requires : goal.known-pat-requires
known-pat-requires g c =
    subst (λ p. is_well_formed_in (language_in c.args.language.now) p ≡ true) (sym (pattern_nt c.in_ok-share.field-0 ∙ ap nt c.in_ok-share.ensures))
    (nonterminal-well_formed (language_in c.args.language.now) c.args.name.now c.requires)

pub returns-clause-row : goal.returns-clause-row
returns-clause-row g c = λ P n f.
    let p : pattern_in c.known-pat.result ≡ nt c.args.name.now = c.known-pat.ensures.same ∙ pattern_nt c.in_ok-share.field-0 ∙ ap nt c.in_ok-share.ensures in
    record {
      matched = λ t b m o e. (c.in_ok-terms.ensures t).1 (
        In_along (row_of c.args.row.terms) _ (sym (ap (map tree_of) c.deref.ensures.value)) (f.matched t b m o e),
        subst (λ q. MatchesSome (language_in c.args.language.now) q t) (sym p) (b, m),
      );
      split = f.split;
      sized_terms = λ t h. f.sized_terms t (In_along _ (row_of c.args.row.terms) (ap (map tree_of) c.deref.ensures.value) ((c.in_ok-terms.ensures t).0 h).0);
      sized_contexts = f.sized_contexts;
      empty = f.empty;
    }

pub returns-clause-met : goal.returns-clause-met
returns-clause-met g c = λ t h.
    let p : pattern_in c.known-pat.result ≡ nt c.args.name.now = c.known-pat.ensures.same ∙ pattern_nt c.in_ok-share.field-0 ∙ ap nt c.in_ok-share.ensures in
    subst (λ q. MatchesSome (language_in c.args.language.now) q t) p ((c.in_ok-terms.ensures t).0 h).1
