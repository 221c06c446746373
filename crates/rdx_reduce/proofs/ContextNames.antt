-- Names of contexts.
use Rattle.std.proofs.Common.{◌≡◌, true, codes, refl}
use Rattle.std.specs.Str.{chars}
use Rattle.rdx_term.specs.Spelling.{is_name}

-- `context` is a name
pub context-is_name : is_name (codes "context") ≡ true
unfolding chars
context-is_name = refl
