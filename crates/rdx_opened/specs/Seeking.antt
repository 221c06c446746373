-- What is sought of a matcher by a pattern whose mismatch names are opened.
use Rattle.std.specs.Prelude.{◌≡◌, List, map}
use Rattle.rdx_lang.specs.Bindings.{Binding, visible}
use Rattle.rdx_lang.specs.Patterns.{Pattern}
use Rattle.rdx_lang.specs.PatternView.{pattern_of}
use Rattle.rdx_lang.specs.Shown.{binding_of}
use Rattle.rdx_opened.specs.Opening.{Mark, IsOpened, HasStanding}
use Rattle.rdx_opened.specs.declared.opening.Mark.{Mark as code_mark}
use Rattle.rdx_opened.specs.declared.seeking.Found.{Found}
use Rattle.rdx_opened.specs.declared.seeking.Wanted.{Wanted}
use Rattle.rdx_opened.specs.declared.seeking.Wanted.TheVariants.{Any, Seen, Whole}

-- the marks that the code's stand for
abbrev pub marks_of : List code_mark → List Mark
marks_of ms = map (λ m. (m.name, m.differ)) ms

-- what is asked of a whole binding: nothing; that this is seen of it; or that it is this
abbrev pub IsWanted : Wanted → Binding → Type 0
IsWanted Any b = Unit {0}
IsWanted (Seen c) b = visible b ≡ binding_of c.now
IsWanted (Whole c) b = b ≡ binding_of c.now

-- an opened pattern and what it binds for which R holds, and which stands for a binding that is wanted
pub record IsFound (p : Pattern) (R : Pattern → Binding → Type 0) (w : Wanted) (f : Found) : Type 0 where
  pub opened : IsOpened p (pattern_of f.opened.pat) (marks_of f.opened.marks.items)
  pub holds : R (pattern_of f.opened.pat) (binding_of f.binding)
  pub standing : HasStanding (marks_of f.opened.marks.items) (binding_of f.binding) (IsWanted w)
