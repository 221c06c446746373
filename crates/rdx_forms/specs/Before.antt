-- What is known before the first form of a file.
use Rattle.std.specs.Prelude.{List}
use Rattle.rdx_sexp.specs.Sexp.{Sexp}
use Rattle.rdx_defs.specs.Scopes.{scope_in, languages_in}
use Rattle.rdx_forms.specs.BindingParts.{file_forms}
use Rattle.rdx_forms.specs.Ends.{file_ends}
use Rattle.rdx_forms.specs.Known.{Known, nothing_in}

-- what is known before the first of these forms: what they define in the whole file
abbrev pub known_before : List Sexp → Known
known_before ds = nothing_in (scope_in ds) (languages_in ds) (file_ends ds) (file_forms ds)
