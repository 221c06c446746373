-- The patterns and languages that the code's values stand for.
use Rattle.std.specs.Prelude.{ℕ, List, [], ◌∷◌, map, Option}
use Rattle.rdx_term.specs.View.{tree_of}
use Rattle.rdx_lang.specs.Patterns.{Pattern, wild, of_kind, except, prefix, hole, lit, nt, named, differ, in_hole, hide_hole, closed, seq, Items, nil, one, many, Definition, Language}
use Rattle.rdx_lang.specs.declared.language.Language as code_language
use Rattle.rdx_lang.specs.declared.language.Ranks as code_ranks
use Rattle.rdx_lang.specs.declared.pattern.Item as code_item
use Rattle.rdx_lang.specs.declared.pattern.Item.TheOpen as layer
use Rattle.rdx_lang.specs.declared.pattern.Pat as code_pattern
use Rattle.rdx_lang.specs.declared.pattern.Ref as code_ref
use Rattle.std.specs.Prelude.{Vec}
use Rattle.std.specs.declared.alloc.Global.{Global}

-- an item of a list pattern
pub data Slot : Type 0 where
  just : Pattern → Slot
  repeated : Pattern → Option (List ℕ) → Slot

-- items in their order
abbrev pub items_of : List Slot → Items
items_of [] = nil
items_of (just p ∷ slots) = one p (items_of slots)
items_of (repeated p n ∷ slots) = many p n (items_of slots)

-- a form of patterns, once its parts are known
abbrev pub pattern_step : layer.Pat-F Slot Pattern → Pattern
pattern_step layer.Wild = wild
pattern_step (layer.Kind k) = of_kind k
pattern_step (layer.Except rs) = except rs.items
pattern_step (layer.Prefix r) = prefix r
pattern_step layer.Hole = hole
pattern_step (layer.Lit u) = lit (tree_of u)
pattern_step (layer.Nt x) = nt x
pattern_step (layer.Named x q) = named x q.value
pattern_step (layer.Differ x q) = differ x q.value
pattern_step (layer.InHole q r) = in_hole q.value r.value
pattern_step (layer.HideHole q) = hide_hole q.value
pattern_step (layer.Closed q) = closed q.value
pattern_step (layer.Seq slots) = seq (items_of slots.items)

-- a form of items, once its parts are known
abbrev pub slot_step : layer.Item-F Slot Pattern → Slot
slot_step (layer.One p) = just p
slot_step (layer.Many p n) = repeated p n

-- the pattern that a pattern of the code stands for
abbrev pub pattern_of : code_pattern.Pat → Pattern
pattern_of = code_pattern.fold-Pat Slot Pattern slot_step pattern_step

-- the item that an item of the code stands for
abbrev pub slot_of : code_item.Item → Slot
slot_of = code_item.fold-Item Slot Pattern slot_step pattern_step

-- patterns in their order
abbrev pub patterns_of : List code_pattern.Pat → List Pattern
patterns_of ps = map pattern_of ps

-- a nonterminal with its alternatives
abbrev pub definition_of : code_ref.Ref × Vec code_pattern.Pat Global → Definition
definition_of d = (d.0, patterns_of d.1.items)

-- the language that a language of the code stands for
abbrev pub language_of : code_language.Language → Language
language_of l = record { name = l.name; nonterminals = map definition_of l.nts.items }

-- the numbers of a language's nodes, in their order
abbrev pub ranks_of : code_ranks.Ranks → List ℕ
ranks_of r = r.of.items
