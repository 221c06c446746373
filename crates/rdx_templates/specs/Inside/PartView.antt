-- The things in templates that values of the code stand for.
use Rattle.std.specs.Prelude.{List, [], ◌∷◌, map, flat_map}
use Rattle.rdx_templates.specs.TemplateOccurrences.{TemplatePart, single, repeated, malformed, escape}
use Rattle.rdx_templates.specs.declared.templates.parts.TemplatePart as code_part
use Rattle.rdx_templates.specs.declared.templates.parts.TemplatePart.TheVariants as variants

-- what one of the code is
abbrev pub part_of : code_part.TemplatePart → TemplatePart
part_of (variants.Single n d) = single n d.now
part_of (variants.Malformed d) = malformed d.now
part_of (variants.Escape d) = escape d.now

-- and what several are, in their order
abbrev pub parts_of : List code_part.TemplatePart → List TemplatePart
parts_of ps = map part_of ps

-- ---- the things without the items that an ellipsis repeats

-- the thing, where it is none
abbrev pub unrepeated_part : TemplatePart → List TemplatePart
unrepeated_part (single n d) = single n d ∷ []
unrepeated_part (repeated d) = []
unrepeated_part (malformed d) = malformed d ∷ []
unrepeated_part (escape d) = escape d ∷ []

-- the others among these
abbrev pub unrepeated : List TemplatePart → List TemplatePart
unrepeated ps = flat_map unrepeated_part ps
