-- The shortcuts that values of the code stand for.
use Rattle.std.specs.Prelude.{List, map}
use Rattle.rdx_relations.specs.Shorthand as model
use Rattle.rdx_relations.specs.declared.shorthand.forms.Shortcut.{Shortcut}

-- the shortcut
abbrev pub shortcut_of : Shortcut → model.Shortcut
shortcut_of s = record {
  old = s.old.now;
  pattern = s.pattern.now;
  result = s.result.now;
  new = s.new.now;
  for_pattern = s.for_pattern.now;
  for_result = s.for_result.now;
}

-- and what several are, in their order
abbrev pub shortcuts_in : List Shortcut → List model.Shortcut
shortcuts_in ss = map shortcut_of ss
