-- Shortcuts that stand in one another: the second in place of the symbol of the first, and so on.
use Rattle.std.specs.Prelude.{ℕ, Bool, false, List, [], ◌∷◌, codes, if◌then◌else◌}
use Rattle.rdx_sexp.specs.Sexp.{Sexp}
use Rattle.rdx_patterns.specs.Parts.{is_word, text_of}
use Rattle.rdx_relations.specs.Expansion.{replaced, by_shortcut}
use Rattle.rdx_relations.specs.Inside.ShortcutViews.{shortcuts_in}
use Rattle.rdx_relations.specs.RelationForms.{CaseForm}
use Rattle.rdx_relations.specs.Shorthand.{Shortcut}
use Rattle.rdx_relations.specs.declared.shorthand.filling.Side.{Side}
use Rattle.rdx_relations.specs.declared.shorthand.filling.Side.TheVariants.{OfPattern, OfResult}
use Rattle.rdx_relations.specs.declared.shorthand.filling.Spot.{Spot}

-- how deep lists may nest in what is made
abbrev pub deepest : ℕ
deepest = 2_500

-- the symbol that is replaced, in the pattern or in the template
abbrev pub symbol_in : Side → Shortcut → Sexp
symbol_in OfPattern s = s.for_pattern
symbol_in OfResult s = s.for_result

-- the pattern, or the template
abbrev pub whole_in : Side → Shortcut → Sexp
whole_in OfPattern s = s.pattern
whole_in OfResult s = s.result

-- that of the first with the others in it, and e in place of the symbol of the last
abbrev pub nested : Side → List Shortcut → Sexp → Sexp
nested side [] e = e
nested side (s ∷ ss) e = replaced (text_of (symbol_in side s)) (nested side ss e) (whole_in side s)

-- that of the first by itself, or else e
abbrev pub outermost : Side → List Shortcut → Sexp → Sexp
outermost side [] e = e
outermost side (s ∷ ss) e = whole_in side s

-- a part of that of the first, with the others in it
abbrev pub filled : Side → List Shortcut → Sexp → Sexp → Sexp
filled side [] e d = d
filled side (s ∷ ss) e d = replaced (text_of (symbol_in side s)) (nested side ss e) d

-- the part is the symbol that is replaced
abbrev pub is_replaced : Side → List Shortcut → Sexp → Bool
is_replaced side [] d = false
is_replaced side (s ∷ ss) d = is_word (text_of (symbol_in side s)) d

-- what is made of a part
abbrev pub made_of : Spot → Sexp
made_of p = filled p.side (shortcuts_in p.layers.now) p.base.now p.datum.now

-- a case by these shortcuts, the last one first
abbrev pub by_shortcuts : List Shortcut → CaseForm → CaseForm
by_shortcuts [] c = c
by_shortcuts (s ∷ ss) c = by_shortcut s (by_shortcuts ss c)

-- the old arrow of the first, or else that of the case
abbrev pub old_arrow : List Shortcut → Sexp → Sexp
old_arrow [] a = a
old_arrow (s ∷ ss) a = s.old

-- those by which the pattern and the template are replaced: all, where the first one leads to `-->`
abbrev pub layers_at : List Shortcut → Sexp → List Shortcut
layers_at ss a = if is_word (codes "-->") (old_arrow ss a) then ss else []

-- what stands in a case by these shortcuts, part by part
abbrev pub parts_by : List Shortcut → CaseForm → List Sexp
parts_by ss c =
    old_arrow ss c.arrow ∷ nested OfPattern (layers_at ss c.arrow) c.pattern ∷ nested OfResult (layers_at ss c.arrow) c.result ∷ c.extras

-- what stands in a case
abbrev pub case_parts : CaseForm → List Sexp
case_parts c = c.arrow ∷ c.pattern ∷ c.result ∷ c.extras
