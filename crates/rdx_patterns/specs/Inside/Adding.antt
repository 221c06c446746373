-- Definitions that are put into a map, the first of each nonterminal.
use Rattle.std.specs.Prelude.{◌≡◌, List}
use Rattle.std.specs.Bool.{then_some}
use Rattle.std.specs.Borrow.{Bor}
use Rattle.std.specs.HashMap.{HashMap}
use Rattle.rdx_lang.specs.Patterns.{Pattern}
use Rattle.rdx_lang.specs.References.{is_same}
use Rattle.rdx_lang.specs.declared.pattern.Pat.{Pat}
use Rattle.rdx_lang.specs.declared.pattern.Ref.{Ref}
use Rattle.rdx_patterns.specs.Model.Keys.{Key, found_in}
use Rattle.rdx_patterns.specs.Refusal.{or_else}

-- beside what was found before, the nonterminal x is found with these alternatives
abbrev pub AddsFirst : {S : Type 0} → HashMap Key (Bor (List Pat)) S → HashMap Key (Bor (List Pat)) S → Ref → List Pattern → Type 0
AddsFirst old new x ps = (y : Ref) → found_in new y ≡ or_else (found_in old y) (then_some (is_same y x) ps)
