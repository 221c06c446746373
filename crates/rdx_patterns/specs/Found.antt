-- Definitions by their nonterminals: the alternatives of a nonterminal among them.
use Rattle.std.specs.Prelude.{List, map, Option, Some, None, if◌then◌else◌}
use Rattle.rdx_lang.specs.Patterns.{Definition, Pattern}
use Rattle.rdx_lang.specs.declared.pattern.Ref.{Ref}
use Rattle.rdx_lang.specs.Lookup.{alternatives_among}
use Rattle.rdx_lang.specs.References.{is_among}

-- the nonterminals of definitions
abbrev pub heads : List Definition → List Ref
heads ds = map (λ d. d.0) ds

-- the alternatives of a nonterminal among definitions, where it is defined
abbrev pub found_among : List Definition → Ref → Option (List Pattern)
found_among ds x = if is_among x (heads ds) then Some (alternatives_among ds x) else None
