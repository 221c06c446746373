-- How often alternatives may still get nodes. No vector has as many items as `most`, so fewer nodes than that are made.
use Rattle.std.specs.Prelude.{ℕ, ◌+◌, ◌-◌, ◌^◌, length}
use Rattle.rdx_nodes.specs.Settings.{closed_doors}
use Rattle.rdx_nodes.specs.declared.setting.Setting.{Setting}

-- more than a vector may have items
unfoldable pub most : ℕ
most = 2 ^ 63

-- how often alternatives may still get nodes: once for each nonterminal that lacks them, and for each node that may still be made
abbrev pub doors_left : Setting → ℕ
doors_left s = closed_doors s + (most - length s.nodes.items)
