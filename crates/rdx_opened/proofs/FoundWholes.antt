-- What is found of an opened pattern stands for what the pattern binds.
use Rattle.std.proofs.Common.{subst}
use Rattle.rdx_term.specs.Tree.{Tree}
use Rattle.rdx_lang.specs.Bindings.{Binding}
use Rattle.rdx_lang.specs.Patterns.{Pattern, Language}
use Rattle.rdx_lang.specs.Rules.{Match, Split}
use Rattle.rdx_lang.specs.Shown.{binding_of}
use Rattle.rdx_opened.specs.Opening.{Stands}
use Rattle.rdx_opened.specs.Seeking.{IsFound, IsWanted, marks_of}
use Rattle.rdx_opened.specs.declared.seeking.Found.{Found}
use Rattle.rdx_opened.specs.declared.seeking.Wanted.{Wanted}
use Rattle.rdx_opened.proofs.OpenedMatches.{stands-match, stands-split}
use Rattle.rdx_opened.proofs.Standing.{stands-one}

module _ (L : Language) (p : Pattern) (w : Wanted) (f : Found) (b : Binding) where
  pub match_found : (t : Tree) → IsFound p (λ o c. Match L o t c) w f → Stands (marks_of f.opened.marks.items) (binding_of f.binding) b
      → Match L p t b × IsWanted w b
  match_found t h s = (stands-match L h.opened h.holds s, subst (IsWanted w) (stands-one h.standing.stands s) h.standing.holds)

  pub split_found : (t C u : Tree) → IsFound p (λ o c. Split L o t C u c) w f → Stands (marks_of f.opened.marks.items) (binding_of f.binding) b
      → Split L p t C u b × IsWanted w b
  split_found t C u h s = (stands-split L h.opened h.holds s, subst (IsWanted w) (stands-one h.standing.stands s) h.standing.holds)
