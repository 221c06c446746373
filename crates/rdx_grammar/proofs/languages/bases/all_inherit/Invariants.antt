use Rattle.std.proofs.Common.{◌≡◌, drop}
use Rattle.std.specs.Prelude.{option_map}
use Rattle.rdx_grammar.specs.Inside.BaseView.{base_in}
use Rattle.rdx_grammar.specs.Checks.{all_inherit}
use Rattle.rdx_grammar.proofs.languages.bases.all_inherit.Given as goal

abbrev pub invariant-loop-name : goal.invariant-loop-name
invariant-loop-name l = all_inherit (base_in (option_map (λ c. c.now) l.base)) (drop l.name-index l.names) ≡ all_inherit (base_in (option_map (λ c. c.now) l.base)) l.names
