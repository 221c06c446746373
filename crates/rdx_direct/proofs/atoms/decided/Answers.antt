use Rattle.std.proofs.Common.{◌∙◌, ap, true, refl}
use Rattle.rdx_lang.proofs.PatternEquations.{pattern_wild, pattern_kind, pattern_except, pattern_prefix, pattern_hole, pattern_lit}
use Rattle.rdx_lang.specs.PatternView.{pattern_of}
use Rattle.rdx_term.specs.View.{tree_of}
use Rattle.rdx_bind.specs.Atoms.{is_other_symbol}
use Rattle.rdx_bind.proofs.AtomListings.{listing_wild, listing_kind, listing_except, listing_prefix, listing_hole, listing_lit}
use Rattle.rdx_direct.proofs.GoingLaws.{alone_at}
use Rattle.rdx_direct.proofs.atoms.decided.Goals as goal

pub returns-in-Wild : goal.returns-in-Wild
returns-in-Wild c = alone_at _ _ true (ap pattern_of c.in-Wild.is ∙ pattern_wild) (listing_wild refl)

pub returns-in-Kind : goal.returns-in-Kind
returns-in-Kind c = alone_at _ _ c.is_kind.result (ap pattern_of c.in-Kind.is ∙ pattern_kind c.in-Kind.kind) (listing_kind c.is_kind.result refl c.is_kind.ensures)

pub returns-in-Except : goal.returns-in-Except
returns-in-Except c = alone_at _ _ c.is_other_symbol.result (ap pattern_of c.in-Except.is ∙ pattern_except c.in-Except.names)
    (listing_except c.is_other_symbol.result refl (c.is_other_symbol.ensures ∙ ap (λ rs. is_other_symbol rs (tree_of c.args.t.now)) c.deref.ensures.value))

pub returns-in-Prefix : goal.returns-in-Prefix
returns-in-Prefix c = alone_at _ _ c.has_prefix.result (ap pattern_of c.in-Prefix.is ∙ pattern_prefix c.in-Prefix.prefix) (listing_prefix c.has_prefix.result refl c.has_prefix.ensures)

pub returns-in-Hole : goal.returns-in-Hole
returns-in-Hole c = alone_at _ _ c.is_hole.result (ap pattern_of c.in-Hole.is ∙ pattern_hole) (listing_hole c.is_hole.result refl c.is_hole.ensures)

pub returns-in-Lit : goal.returns-in-Lit
returns-in-Lit c = alone_at _ _ c.same_bare.result (ap pattern_of c.in-Lit.is ∙ pattern_lit c.in-Lit.literal) (listing_lit c.same_bare.result refl c.same_bare.ensures)
