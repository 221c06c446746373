use Rattle.std.proofs.Common.{◌≡◌, ◌∙◌, ℕ, List, Some, map, true, sym, ap, subst}
use Rattle.rdx_term.specs.View.{tree_of}
use Rattle.rdx_lang.specs.Checked.{language_in}
use Rattle.rdx_lang.specs.References.{is_among}
use Rattle.rdx_lang.specs.WellFormed.{defined}
use Rattle.rdx_lang.specs.declared.pattern.Ref.TheVariants.{Nt}
use Rattle.rdx_enum.specs.UpTo.{TermsUpTo}
use Rattle.rdx_cli.specs.Inside.Terms.{lists}
use Rattle.rdx_cli.specs.Transcript.{has_nonterminal, terms_text}
use Rattle.rdx_cli.proofs.terms.listing.Goals as goal

pub returns : goal.returns
returns c =
    let L = language_in c.in-Some.language.now in
    let x = c.args.nt.now in
    let ts = map tree_of c.in_ok-found.found.items in
    let n : c.in_ok-name.name ≡ x = c.in_ok-name.ensures in
    let s : c.in_ok-share.field-0 ≡ x = c.in_ok-share.ensures ∙ n in
    let there : has_nonterminal (Some L) x ≡ true =
    ap (λ (y : List ℕ). is_among (Nt y) (defined L)) (sym s) ∙ sym c.has_nonterminal.ensures ∙ c.if-not-has_nonterminal.false in
    let found : TermsUpTo L (Nt x) c.args.k ts = subst (λ (y : List ℕ). TermsUpTo L (Nt y) c.args.k ts) n c.in_ok-found.ensures in
    let text : c.written.result.text.items ≡ terms_text ts =
    c.written.ensures.text ∙ c.in_ok-terms_text.ensures ∙ ap (λ us. terms_text (map tree_of us)) c.deref.ensures.value in
    lists L ts c.in-Some.ensures.some there found text c.written.ensures.verdict
