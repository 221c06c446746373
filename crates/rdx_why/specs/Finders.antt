-- The program of whose judgements a finder has found something.
use Rattle.std.specs.Borrow.{Bor}
use Rattle.rdx_lang.specs.declared.program.Program.{Program}
use Rattle.rdx_why.specs.declared.finder.Finder.{Finder}

-- the program of a finder
abbrev pub known_in : {m : _} → Finder m → Bor Program
known_in s = s.ends.program
