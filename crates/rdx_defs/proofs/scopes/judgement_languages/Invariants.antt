use Rattle.std.proofs.Common.{◌≡◌, ◌++◌, drop, map}
use Rattle.rdx_defs.specs.Scopes.{languages_in}
use Rattle.rdx_defs.proofs.ScopeParts.{in_language}
use Rattle.rdx_defs.proofs.scopes.judgement_languages.Given as goal

abbrev pub invariant-loop-d : goal.invariant-loop-d
invariant-loop-d l = map in_language l.languages.items ++ languages_in (drop l.d-index l.forms) ≡ languages_in l.forms
